use Rattle.fx_rounds.proofs.UnmarkedLemmas as lemmas
use Rattle.fx_rounds.proofs.laws.nobody_is_left.Goals as goal

pub returns : goal.returns
returns c = lemmas.nobody_is_left
