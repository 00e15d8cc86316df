use Rattle.fx_tokens.proofs.Sorts as laws
use Rattle.fx_tokens.proofs.laws.one_kind.Goals as goal

pub returns : goal.returns
returns c = laws.one_kind
