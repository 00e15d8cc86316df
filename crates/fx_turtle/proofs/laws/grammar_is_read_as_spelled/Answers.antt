use Rattle.fx_turtle.proofs.GrammarLaws.{document_read_as_spelled}
use Rattle.fx_turtle.proofs.laws.grammar_is_read_as_spelled.Goals as goal

pub returns : goal.returns
returns c = document_read_as_spelled
