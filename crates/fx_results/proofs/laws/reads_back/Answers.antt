use Rattle.fx_results.proofs.BackLemmas.{reads_back}
use Rattle.fx_results.proofs.laws.reads_back.Goals as goal

pub returns : goal.returns
returns c = reads_back
