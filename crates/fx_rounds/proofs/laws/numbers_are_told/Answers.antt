use Rattle.fx_rounds.proofs.CountLemmas as lemmas
use Rattle.fx_rounds.proofs.laws.numbers_are_told.Goals as goal

pub returns : goal.returns
returns c = lemmas.numbers_are_told
