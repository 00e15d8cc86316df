use Rattle.std.proofs.Common.{rules, ◌≡◌, ◌++◌, ◌∷◌, []}
use Rattle.std.specs.Vec.Iter.{into_iter_items}
use Rattle.fx_engine.specs.Together.{founds_by}
use Rattle.fx_engine.proofs.FoundLemmas.{found_more, found_refused, lacking, refused_by}
use Rattle.fx_engine.proofs.together.founds_of.Goals as goal

pub loop-task-preserved : goal.loop-task-preserved
loop-task-preserved c =
    let pushed : c.push.new.self.items ≡ c.loop-task.founds.items ++ c.in-Ok.found ∷ [] = search rules in
    found_more c.args.its.now c.loop-task.task-index c.task-item.result c.loop-task.founds.items c.push.new.self.items c.in-Ok.found (into_iter_items c.loop-task.left) (into_iter_items c.found_of.new.left)
    (founds_by c.args.its.now c.args.results.items) c.loop-task-test.true c.task-item.is pushed c.in-Ok.ensures c.loop-task.invariant

pub returns-in-Err : goal.returns-in-Err
returns-in-Err c =
    refused_by (founds_by c.args.its.now c.args.results.items) c.in-Err.error
    (found_refused c.args.its.now c.loop-task.task-index c.task-item.result c.loop-task.founds.items c.in-Err.error (into_iter_items c.loop-task.left) (into_iter_items c.found_of.new.left)
    (founds_by c.args.its.now c.args.results.items) c.loop-task-test.true c.task-item.is c.in-Err.ensures c.loop-task.invariant)

pub returns-then-is_err : goal.returns-then-is_err
returns-then-is_err c = lacking (founds_by c.args.its.now c.args.results.items)
