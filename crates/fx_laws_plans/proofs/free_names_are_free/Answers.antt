-- The law is the lemma of `FreeLemmas`.
use Rattle.fx_laws_plans.proofs.FreeLemmas.{free_names_are_free}
use Rattle.fx_laws_plans.proofs.free_names_are_free.Goals as goal

pub returns : goal.returns
returns c = free_names_are_free
