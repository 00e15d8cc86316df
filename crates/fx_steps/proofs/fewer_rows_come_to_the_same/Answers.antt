-- The laws are the lemmas of `FewerLemmas`.
use Rattle.fx_steps.proofs.FewerLemmas.{fewer_laws}
use Rattle.fx_steps.proofs.fewer_rows_come_to_the_same.Goals as goal

pub returns : goal.returns
returns c = fewer_laws
