use Rattle.fx_grammar.proofs.GrammarLaws.{query_ends_as_spelled}
use Rattle.fx_grammar.proofs.laws.what_ends_is_spelled.Goals as goal

pub returns : goal.returns
returns c = query_ends_as_spelled
