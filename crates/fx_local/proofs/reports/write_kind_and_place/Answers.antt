use Rattle.std.proofs.Common.{refl}
use Rattle.fx_local.proofs.GainLemmas.{gains_cut, gains_then}
use Rattle.fx_local.proofs.reports.write_kind_and_place.Goals as goal

pub returns-in-Ok : goal.returns-in-Ok
returns-in-Ok g c = λ told. gains_then _ _ _ _ _ _ _ _ (rw c.as_bytes.ensures.value at (c.in-Ok.ensures.whole told)) c.in-Ok.ensures.kept (c.write_number.ensures told)

pub returns-in_default : goal.returns-in_default
returns-in_default g c = λ told. gains_cut _ _ _ _ _ _ (rw c.as_bytes.ensures.value at (c.in_default.ensures.front told)) (c.in_default.ensures.failed refl)
