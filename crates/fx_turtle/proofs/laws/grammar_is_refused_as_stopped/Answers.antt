use Rattle.fx_turtle.proofs.GrammarLaws.{document_refused_as_stopped}
use Rattle.fx_turtle.proofs.laws.grammar_is_refused_as_stopped.Goals as goal

pub returns : goal.returns
returns c = document_refused_as_stopped
