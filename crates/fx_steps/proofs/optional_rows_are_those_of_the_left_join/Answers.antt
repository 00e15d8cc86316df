-- The laws are the lemmas of `OptionalLemmas`.
use Rattle.fx_steps.proofs.OptionalLemmas.{optional_laws}
use Rattle.fx_steps.proofs.optional_rows_are_those_of_the_left_join.Goals as goal

pub returns : goal.returns
returns c = optional_laws
