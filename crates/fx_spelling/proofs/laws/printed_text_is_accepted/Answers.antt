use Rattle.fx_spelling.proofs.Depths as laws
use Rattle.fx_spelling.proofs.laws.printed_text_is_accepted.Goals as goal

pub returns : goal.returns
returns c = laws.printed_text_is_accepted
