use Rattle.fx_results.proofs.BackLemmas.{denotes_itself}
use Rattle.fx_results.proofs.laws.denotes_itself.Goals as goal

pub returns : goal.returns
returns c = denotes_itself
