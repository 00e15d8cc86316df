use Rattle.fx_laws_unmarked.proofs.UnmarkedLemmas.{as_federated}
use Rattle.fx_laws_unmarked.proofs.unmarked_are_federated.Goals as goal

pub returns : goal.returns
returns c = as_federated
