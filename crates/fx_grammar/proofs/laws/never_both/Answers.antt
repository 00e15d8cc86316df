use Rattle.fx_grammar.proofs.OneQuery.{never_both_holds}
use Rattle.fx_grammar.proofs.laws.never_both.Goals as goal

pub returns : goal.returns
returns c = never_both_holds
