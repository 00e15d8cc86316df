-- The law is the lemma of `RunLemmas`.
use Rattle.fx_algebra.proofs.RunLemmas.{runs_move}
use Rattle.fx_algebra.proofs.laws.one_run.Goals as goal

pub returns : goal.returns
returns c = runs_move
