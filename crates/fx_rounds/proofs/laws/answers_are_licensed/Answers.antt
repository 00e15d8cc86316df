use Rattle.fx_rounds.proofs.LicenceLemmas as lemmas
use Rattle.fx_rounds.proofs.laws.answers_are_licensed.Goals as goal

pub returns : goal.returns
returns c = lemmas.answers_are_licensed
