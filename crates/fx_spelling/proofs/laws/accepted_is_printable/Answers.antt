use Rattle.fx_spelling.proofs.TakenQueries as laws
use Rattle.fx_spelling.proofs.laws.accepted_is_printable.Goals as goal

pub returns : goal.returns
returns c = laws.accepted_is_printable
