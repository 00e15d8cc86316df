-- The law is the lemma of `RegistryLemmas`.
use Rattle.fx_laws_registries.proofs.RegistryLemmas.{registries_are_read_by_their_lines}
use Rattle.fx_laws_registries.proofs.registries_are_read_by_their_lines.Goals as goal

pub returns : goal.returns
returns c = registries_are_read_by_their_lines
