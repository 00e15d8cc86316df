use Rattle.std.proofs.Common.{◌≡◌, ◌++◌, List, drop, length, IsPermutation}
use Rattle.std.specs.Vec.Iter.{into_iter_items, into_iter_len}
use Rattle.fx_algebra.specs.Solutions.{Bindings}
use Rattle.fx_engine.specs.Together.{rows_of_runs}
use Rattle.fx_engine.proofs.together.rows_of_runs.Given as goal

abbrev pub invariant-loop-group : goal.invariant-loop-group
invariant-loop-group l = record {
  len : into_iter_len l.left ≡ length (into_iter_items l.left);
  whole : (all : List Bindings) → IsPermutation all (rows_of_runs (drop l.group-index l.groups) (into_iter_items l.left)) → IsPermutation (l.rows.items ++ all) (rows_of_runs l.groups l.fn.founds.items);
}
