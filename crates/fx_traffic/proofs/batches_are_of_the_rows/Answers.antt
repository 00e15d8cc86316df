-- The laws are the lemmas of `CutLemmas`.
use Rattle.fx_traffic.proofs.CutLemmas.{batch_laws}
use Rattle.fx_traffic.proofs.batches_are_of_the_rows.Goals as goal

pub returns : goal.returns
returns c = batch_laws
