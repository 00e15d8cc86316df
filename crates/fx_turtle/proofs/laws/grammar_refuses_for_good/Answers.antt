use Rattle.fx_turtle.proofs.GrammarLaws.{document_refused_for_good}
use Rattle.fx_turtle.proofs.laws.grammar_refuses_for_good.Goals as goal

pub returns : goal.returns
returns c = document_refused_for_good
