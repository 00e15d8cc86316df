-- The law is the lemma of `ReadingLemmas`.
use Rattle.fx_bound.proofs.ReadingLemmas.{answer_tells_branches}
use Rattle.fx_bound.proofs.answer_tells_branches.Goals as goal

pub returns : goal.returns
returns c = answer_tells_branches
