use Rattle.std.proofs.lemmas.Option.{IfSome_then}
use Rattle.fx_evaluation.proofs.FirstRowLemmas.{told_of_rows}
use Rattle.fx_evaluation.proofs.answering.first_row_asked.Goals as goal

pub returns-in_ok-found-in-None : goal.returns-in_ok-found-in-None
returns-in_ok-found-in-None c = IfSome_then c.in_ok-found-in-None.found c.in_ok-found-in-None.ensures (λ truth tells. told_of_rows c.args.query.now c.args.store.now truth c.in-Ask.is c.in-None.is tells)
