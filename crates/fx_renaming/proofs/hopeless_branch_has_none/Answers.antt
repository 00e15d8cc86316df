-- The law is the lemma of `BranchLemmas`.
use Rattle.fx_renaming.proofs.BranchLemmas.{hopeless_branch_has_none}
use Rattle.fx_renaming.proofs.hopeless_branch_has_none.Goals as goal

pub returns : goal.returns
returns c = hopeless_branch_has_none
