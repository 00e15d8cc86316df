use Rattle.fx_grammar.proofs.GrammarLaws.{query_read_as_spelled}
use Rattle.fx_grammar.proofs.laws.grammar_is_read_as_spelled.Goals as goal

pub returns : goal.returns
returns c = query_read_as_spelled
