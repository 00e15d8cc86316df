use Rattle.fx_turtle.proofs.GrammarLaws.{document_refused_the_same}
use Rattle.fx_turtle.proofs.laws.grammar_refuses_the_same.Goals as goal

pub returns : goal.returns
returns c = document_refused_the_same
