-- The law is the lemma of `ExampleLemmas`.
use Rattle.fx_values.proofs.ExampleLemmas.{rows_are_read}
use Rattle.fx_values.proofs.rows_are_read.Goals as goal

pub returns : goal.returns
returns c = rows_are_read
