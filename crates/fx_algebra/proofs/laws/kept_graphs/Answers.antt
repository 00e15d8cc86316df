-- The laws are the lemmas of `KeptLemmas`.
use Rattle.fx_algebra.proofs.KeptLemmas.{kept_numbers, kept_graphs, kept_sources, kept_union, all_kept}
use Rattle.fx_algebra.proofs.laws.kept_graphs.Goals as goal

pub returns : goal.returns
returns c = record { numbers = kept_numbers; graphs = kept_graphs; sources = kept_sources; union = kept_union; all = all_kept }
