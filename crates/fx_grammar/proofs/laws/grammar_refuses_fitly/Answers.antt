use Rattle.fx_grammar.proofs.GrammarLaws.{query_refused_fitly}
use Rattle.fx_grammar.proofs.laws.grammar_refuses_fitly.Goals as goal

pub returns : goal.returns
returns c = query_refused_fitly
