use Rattle.std.proofs.Common.{◌≡◌, length}
use Rattle.std.specs.List.{zip}
use Rattle.std.specs.Vec.Iter.{into_iter_items, into_iter_len}
use Rattle.fx_outcomes.proofs.SortingLemmas.{Sorting}
use Rattle.fx_outcomes.proofs.members.sorted_out.Given as goal

abbrev pub invariant-loop-probe : goal.invariant-loop-probe
invariant-loop-probe l = record {
  next : (goal.iterator-loop-probe).can_next l.probe-iterator;
  finite : (goal.iterator-loop-probe).is_finite l.probe-iterator;
  probes_len : into_iter_len l.probe-iterator.a ≡ length (into_iter_items l.probe-iterator.a);
  replies_len : into_iter_len l.probe-iterator.b ≡ length (into_iter_items l.probe-iterator.b);
  sorting : Sorting l.endpoints (zip l.fn.probes.items l.fn.replies.items) l.answers (into_iter_items l.probe-iterator.a) (into_iter_items l.probe-iterator.b);
}
