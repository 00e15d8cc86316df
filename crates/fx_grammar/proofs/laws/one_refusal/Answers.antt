use Rattle.fx_grammar.proofs.OneQuery.{one_refusal_holds}
use Rattle.fx_grammar.proofs.laws.one_refusal.Goals as goal

pub returns : goal.returns
returns c = one_refusal_holds
