use Rattle.std.proofs.Common.{◌≡◌, take}
use Rattle.fx_algebra.specs.Operators as spec
use Rattle.fx_solutions.proofs.rows.extend.Given as goal

abbrev pub invariant-loop-row : goal.invariant-loop-row
invariant-loop-row l = l.extended.items ≡ spec.extend (take l.row-index l.rows) l.name l.expr
