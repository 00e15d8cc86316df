-- The law is the lemma of `OptionalLemmas`.
use Rattle.fx_laws_seeds.proofs.OptionalLemmas.{optional_run_has_the_rows_on_its_left}
use Rattle.fx_laws_seeds.proofs.optional_run_has_the_rows_on_its_left.Goals as goal

pub returns : goal.returns
returns c = optional_run_has_the_rows_on_its_left
