use Rattle.std.proofs.Common.{◌∙◌, sym}
use Rattle.fx_evaluation.proofs.FormLemmas.{answered}
use Rattle.fx_evaluation.proofs.answering.answer.Goals as goal

pub returns-clause-answer : goal.returns-clause-answer
returns-clause-answer c = answered c.args.query.now c.args.store.now c.args.down.now c.in_ok-answer.answer c.in_ok-answer.ensures (sym c.in_ok-place.ensures ∙ c.in_default.is)
