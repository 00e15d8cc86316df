use Rattle.std.proofs.Common.{◌≡◌, drop}
use Rattle.fx_solutions.specs.Joins.{is_bound_in}
use Rattle.fx_solutions.proofs.joins.is_bound_in.Given as goal

-- what is left decides
abbrev pub invariant-loop-row : goal.invariant-loop-row
invariant-loop-row l = is_bound_in (drop l.row-index l.rows) l.name ≡ is_bound_in l.rows l.name
