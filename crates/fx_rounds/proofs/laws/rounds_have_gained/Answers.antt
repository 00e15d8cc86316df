use Rattle.fx_rounds.proofs.GainedLemmas as lemmas
use Rattle.fx_rounds.proofs.laws.rounds_have_gained.Goals as goal

pub returns : goal.returns
returns c = lemmas.rounds_have_gained
