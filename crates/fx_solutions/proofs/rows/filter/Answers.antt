use Rattle.fx_algebra.proofs.OperatorLemmas.{filtered_by_empty}
use Rattle.fx_solutions.proofs.rows.filter.Goals as goal

pub returns-then-is_empty : goal.returns-then-is_empty
returns-then-is_empty c = filtered_by_empty c.args.conditions.now c.args.rows.items c.if-is_empty.ensures
