use Rattle.fx_spelling.proofs.PatternQuery as laws
use Rattle.fx_spelling.proofs.laws.pattern_query_is_accepted.Goals as goal

pub returns : goal.returns
returns c = laws.pattern_query_is_accepted
