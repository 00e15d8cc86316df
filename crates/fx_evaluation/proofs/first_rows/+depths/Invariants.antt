use Rattle.std.proofs.Common.{◌≡◌, ◌+◌, ◌*◌, length, drop}
use Rattle.fx_evaluation.proofs.FirstRowLemmas.{leads}
use Rattle.fx_evaluation.proofs.first_rows.+depths.Given as goal

abbrev pub decreases-has_row : goal.decreases-has_row
decreases-has_row l = 2 * length l.left.now

abbrev pub decreases-leads_to_row : goal.decreases-leads_to_row
decreases-leads_to_row l = 2 * length l.rest.now + 1

-- the rows that are left lead to one where all do
abbrev pub invariant-has_row-loop-row : goal.invariant-has_row-loop-row
invariant-has_row-loop-row l = leads l.store l.conditions l.left (drop l.row-index l.rows) ≡ leads l.store l.conditions l.left l.rows
