use Rattle.std.proofs.Common.{◌+◌, take, vec_len}
use Rattle.fx_algebra.specs.Evaluation.{rows_from}
use Rattle.fx_evaluation.specs.GroupRows.{AreAfter, AreAlternatives, elements_at}
use Rattle.fx_evaluation.proofs.HeldLemmas.{LeadsTo}
use Rattle.fx_evaluation.proofs.WalkLemmas.{IsHeld}
use Rattle.fx_evaluation.proofs.groups.+rows.Given as goal

abbrev pub invariant-nearly-loop-place : goal.invariant-nearly-loop-place
invariant-nearly-loop-place l = IsHeld l.conditions l.elements l.place l.store l.rows.items l.left.items (elements_at l.elements l.held.items)

-- the elements and patterns that are left make of the rows what all make of those before
abbrev pub invariant-with_held-loop-more : goal.invariant-with_held-loop-more
invariant-with_held-loop-more l =
    LeadsTo l.conditions l.store (elements_at l.elements l.fn.held.items) (rows_from l.store l.fn.run.rows.items l.fn.run.left.items) (elements_at l.elements l.left.items) (rows_from l.store l.more.rows.items l.more.left.items)

abbrev pub decreases-with_held-loop-more : goal.decreases-with_held-loop-more
decreases-with_held-loop-more l = vec_len l.left + vec_len l.more.left

abbrev pub invariant-alternatives-loop-group : goal.invariant-alternatives-loop-group
invariant-alternatives-loop-group l = AreAlternatives (take l.group-index l.groups) l.store l.outside l.rows.items

abbrev pub invariant-row_by_row-loop-row : goal.invariant-row_by_row-loop-row
invariant-row_by_row-loop-row l = AreAfter l.element l.store l.yielded l.rows.items
