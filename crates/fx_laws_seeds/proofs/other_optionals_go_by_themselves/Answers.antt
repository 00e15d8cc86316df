-- The law is the lemma of `OptionalLemmas`.
use Rattle.fx_laws_seeds.proofs.OptionalLemmas.{other_optionals_go_by_themselves}
use Rattle.fx_laws_seeds.proofs.other_optionals_go_by_themselves.Goals as goal

pub returns : goal.returns
returns c = other_optionals_go_by_themselves
