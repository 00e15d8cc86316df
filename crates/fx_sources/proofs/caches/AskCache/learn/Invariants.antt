use Rattle.std.proofs.Common.{◌≡◌, length}
use Rattle.std.specs.Vec.Iter.{into_iter_items, into_iter_len}
use Rattle.fx_sources.proofs.EntryLemmas.{Learning}
use Rattle.fx_sources.proofs.caches.AskCache.learn.Given as goal

abbrev pub invariant-loop-probe : goal.invariant-loop-probe
invariant-loop-probe l = record {
  next : (goal.iterator-loop-probe).can_next l.probe-iterator;
  finite : (goal.iterator-loop-probe).is_finite l.probe-iterator;
  len : into_iter_len l.probe-iterator.a ≡ length (into_iter_items l.probe-iterator.a);
  learning : Learning l.fn.self l.fn.probes.items l.truths l.self (into_iter_items l.probe-iterator.a) l.probe-iterator.b.rest.now;
}
