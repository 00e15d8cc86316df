use Rattle.fx_rounds.proofs.CountLemmas as lemmas
use Rattle.fx_rounds.proofs.laws.licences_count.Goals as goal

pub returns : goal.returns
returns c = lemmas.licences_count
