use Rattle.fx_rounds.proofs.KeptAskedLemmas as lemmas
use Rattle.fx_rounds.proofs.laws.kept_are_asked.Goals as goal

pub returns : goal.returns
returns c = lemmas.kept_are_asked
