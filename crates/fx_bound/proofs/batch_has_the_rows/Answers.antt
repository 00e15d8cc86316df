-- The law is the lemma of `BatchLemmas`.
use Rattle.fx_bound.proofs.BatchLemmas.{batch_has_the_rows}
use Rattle.fx_bound.proofs.batch_has_the_rows.Goals as goal

pub returns : goal.returns
returns c = batch_has_the_rows
