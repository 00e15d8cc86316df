use Rattle.std.proofs.Common.{◌≡◌, ◌++◌, map}
use Rattle.fx_pool.specs.Sharing.{reply_of}
use Rattle.fx_pool.proofs.ordering.replies_of.Given as goal

abbrev pub invariant-loop-one : goal.invariant-loop-one
invariant-loop-one l = record {
  whole : l.yielded ++ l.one-iterator.rest.items ≡ l.fn.done.items;
  taken : l.replies.items ≡ map reply_of l.yielded;
}
