use Rattle.fx_spelling.proofs.TakenQueries as laws
use Rattle.fx_spelling.proofs.laws.spellable_is_accepted.Goals as goal

pub returns : goal.returns
returns c = laws.spellable_is_accepted
