use Rattle.fx_grammar.proofs.GrammarLaws.{query_refused_as_stopped}
use Rattle.fx_grammar.proofs.laws.grammar_is_refused_as_stopped.Goals as goal

pub returns : goal.returns
returns c = query_refused_as_stopped
