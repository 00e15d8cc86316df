use Rattle.fx_serve.proofs.ToldLemmas.{are_told_all}
use Rattle.fx_serve.proofs.laws.served_are_told.Goals as goal

pub returns : goal.returns
returns c = are_told_all
