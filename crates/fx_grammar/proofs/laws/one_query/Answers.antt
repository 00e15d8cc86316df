use Rattle.fx_grammar.proofs.OneQuery.{one_query_holds}
use Rattle.fx_grammar.proofs.laws.one_query.Goals as goal

pub returns : goal.returns
returns c = one_query_holds
