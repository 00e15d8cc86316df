use Rattle.fx_spelling.proofs.Runs as laws
use Rattle.fx_spelling.proofs.laws.fit_units_have_verbs.Goals as goal

pub returns : goal.returns
returns c = laws.fit_units_have_verbs
