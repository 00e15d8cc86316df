use Rattle.fx_grammar.proofs.GrammarLaws.{query_refused_the_same}
use Rattle.fx_grammar.proofs.laws.grammar_refuses_the_same.Goals as goal

pub returns : goal.returns
returns c = query_refused_the_same
