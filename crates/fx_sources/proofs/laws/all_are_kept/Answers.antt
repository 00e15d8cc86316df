-- The laws are the lemmas of `KeptLemmas`.
use Rattle.fx_sources.proofs.KeptLemmas.{all_probes_kept, all_chosen_kept}
use Rattle.fx_sources.proofs.laws.all_are_kept.Goals as goal

pub returns : goal.returns
returns c = record { probes = all_probes_kept; members = all_chosen_kept }
