use Rattle.std.proofs.Common.{refl}
use Rattle.fx_local.proofs.GainLemmas.{gains_cut, gains_then}
use Rattle.fx_local.proofs.reports.write_place.Goals as goal

pub returns-in-Ok : goal.returns-in-Ok
returns-in-Ok g c = λ told. gains_then _ _ _ _ _ _ c.args.before.now _ (c.in-Ok.ensures.whole told) c.in-Ok.ensures.kept (c.write_line_and_column.ensures told)

pub returns-in_default : goal.returns-in_default
returns-in_default g c = λ told. gains_cut _ _ _ _ c.args.before.now _ (c.in_default.ensures.front told) (c.in_default.ensures.failed refl)
