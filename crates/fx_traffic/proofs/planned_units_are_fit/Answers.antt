-- The laws are the lemmas of `PlannedLemmas`.
use Rattle.fx_traffic.proofs.PlannedLemmas.{planned_laws}
use Rattle.fx_traffic.proofs.planned_units_are_fit.Goals as goal

pub returns : goal.returns
returns c = planned_laws
