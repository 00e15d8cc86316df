use Rattle.fx_bound.proofs.SentLemmas.{row_of_branch, row_of_branches}
use Rattle.fx_bound.proofs.reading.branch_of.Goals as goal

pub returns-in-Some : goal.returns-in-Some
returns-in-Some c = row_of_branch c.args.batch.now c.in-Some.branch.now c.args.row.now c.branches-branches.ensures.known c.in-Some.ensures

pub returns-in-None : goal.returns-in-None
returns-in-None c = row_of_branches (λ b. b.now) c.args.batch.now c.branches-branches.result.now c.args.row.now c.branch_in.result c.branches-branches.ensures.known c.branches-branches.ensures.all c.branch_in.ensures
