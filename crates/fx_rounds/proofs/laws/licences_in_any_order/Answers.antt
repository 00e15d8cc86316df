use Rattle.fx_rounds.proofs.LicenceLemmas as lemmas
use Rattle.fx_rounds.proofs.laws.licences_in_any_order.Goals as goal

pub returns : goal.returns
returns c = lemmas.licences_in_any_order
