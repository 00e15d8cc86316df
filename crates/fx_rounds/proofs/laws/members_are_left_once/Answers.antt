use Rattle.fx_rounds.proofs.LeftOutLemmas as lemmas
use Rattle.fx_rounds.proofs.laws.members_are_left_once.Goals as goal

pub returns : goal.returns
returns c = lemmas.members_are_left_once
