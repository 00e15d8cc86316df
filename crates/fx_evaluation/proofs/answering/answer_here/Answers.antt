use Rattle.fx_evaluation.proofs.FormLemmas.{asked_for}
use Rattle.fx_evaluation.proofs.answering.answer_here.Goals as goal

pub returns-in-Some : goal.returns-in-Some
returns-in-Some c = asked_for c.args.query.now c.args.store.now c.in-Some.pattern.now c.has_solution.result c.in-Some.ensures c.has_solution.ensures
