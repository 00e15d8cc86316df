-- The law is the lemma of `BlockLemmas`.
use Rattle.fx_values.proofs.BlockLemmas.{values_have_the_rows}
use Rattle.fx_values.proofs.values_have_the_rows.Goals as goal

pub returns : goal.returns
returns c = values_have_the_rows
