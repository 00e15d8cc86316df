use Rattle.fx_laws_unmarked.proofs.UnmarkedLemmas.{as_planned}
use Rattle.fx_laws_unmarked.proofs.unmarked_are_planned.Goals as goal

pub returns : goal.returns
returns c = as_planned
