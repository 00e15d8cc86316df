use Rattle.fx_turtle.proofs.GrammarLaws.{document_spelled_or_stopped}
use Rattle.fx_turtle.proofs.laws.symbols_spell_or_stop.Goals as goal

pub returns : goal.returns
returns c = document_spelled_or_stopped
