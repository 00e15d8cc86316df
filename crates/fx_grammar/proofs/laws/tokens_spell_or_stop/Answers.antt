use Rattle.fx_grammar.proofs.GrammarLaws.{query_spelled_or_stopped}
use Rattle.fx_grammar.proofs.laws.tokens_spell_or_stop.Goals as goal

pub returns : goal.returns
returns c = query_spelled_or_stopped
