use Rattle.fx_spelling.proofs.Queries as laws
use Rattle.fx_spelling.proofs.laws.printed_is_accepted.Goals as goal

pub returns : goal.returns
returns c = laws.printed_is_accepted
