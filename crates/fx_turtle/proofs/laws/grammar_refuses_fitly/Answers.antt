use Rattle.fx_turtle.proofs.GrammarLaws.{document_refused_fitly}
use Rattle.fx_turtle.proofs.laws.grammar_refuses_fitly.Goals as goal

pub returns : goal.returns
returns c = document_refused_fitly
