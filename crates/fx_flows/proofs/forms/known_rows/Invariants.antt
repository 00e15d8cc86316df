use Rattle.std.proofs.Common.{take, All, IsTrue}
use Rattle.fx_algebra.specs.Solutions.{rises}
use Rattle.fx_algebra.specs.declared.units.Row.{Row}
use Rattle.fx_flows.proofs.forms.known_rows.Given as goal

abbrev pub invariant-loop-row : goal.invariant-loop-row
invariant-loop-row l = All (λ (r : Row). IsTrue (rises r.solution)) (take l.row-index l.rows)
