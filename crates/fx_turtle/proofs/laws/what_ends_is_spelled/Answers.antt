use Rattle.fx_turtle.proofs.GrammarLaws.{document_ends_as_spelled}
use Rattle.fx_turtle.proofs.laws.what_ends_is_spelled.Goals as goal

pub returns : goal.returns
returns c = document_ends_as_spelled
