-- The law is the lemma of `ExampleLemmas`.
use Rattle.fx_values.proofs.ExampleLemmas.{texts_are_written}
use Rattle.fx_values.proofs.texts_are_written.Goals as goal

pub returns : goal.returns
returns c = texts_are_written
