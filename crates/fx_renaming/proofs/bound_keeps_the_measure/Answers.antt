-- The law is the lemma of `MeasureLemmas`.
use Rattle.fx_renaming.proofs.MeasureLemmas.{bound_keeps_the_measure}
use Rattle.fx_renaming.proofs.bound_keeps_the_measure.Goals as goal

pub returns : goal.returns
returns c = bound_keeps_the_measure
