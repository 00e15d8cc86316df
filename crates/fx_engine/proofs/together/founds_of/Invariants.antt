use Rattle.std.proofs.Common.{◌≡◌, drop}
use Rattle.std.specs.Vec.Iter.{into_iter_items}
use Rattle.fx_engine.specs.Together.{founds_by}
use Rattle.fx_engine.proofs.FoundLemmas.{with_those}
use Rattle.fx_engine.proofs.together.founds_of.Given as goal

abbrev pub invariant-loop-task : goal.invariant-loop-task
invariant-loop-task l = with_those l.founds.items (founds_by (drop l.task-index l.its) (into_iter_items l.left)) ≡ founds_by l.its l.fn.results.items
