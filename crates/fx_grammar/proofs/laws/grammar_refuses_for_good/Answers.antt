use Rattle.fx_grammar.proofs.GrammarLaws.{query_refused_for_good}
use Rattle.fx_grammar.proofs.laws.grammar_refuses_for_good.Goals as goal

pub returns : goal.returns
returns c = query_refused_for_good
