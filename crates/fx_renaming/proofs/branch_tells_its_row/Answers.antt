-- The law is the lemma of `BranchLemmas`.
use Rattle.fx_renaming.proofs.BranchLemmas.{branch_tells_its_row}
use Rattle.fx_renaming.proofs.branch_tells_its_row.Goals as goal

pub returns : goal.returns
returns c = branch_tells_its_row
