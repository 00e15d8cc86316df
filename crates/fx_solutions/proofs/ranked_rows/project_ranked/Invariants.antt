use Rattle.std.proofs.Common.{◌≡◌, take}
use Rattle.fx_solutions.specs.Ranks as spec
use Rattle.fx_solutions.proofs.ranked_rows.project_ranked.Given as goal

abbrev pub invariant-loop-one : goal.invariant-loop-one
invariant-loop-one l = l.parts.items ≡ spec.projected_rows l.columns (take l.one-index l.rows)
