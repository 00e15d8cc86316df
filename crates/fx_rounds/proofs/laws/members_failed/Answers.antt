use Rattle.fx_rounds.proofs.RefusedLemmas as lemmas
use Rattle.fx_rounds.proofs.laws.members_failed.Goals as goal

pub returns : goal.returns
returns c = lemmas.members_failed
