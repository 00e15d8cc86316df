-- The law is the lemma of `FunctionLemmas`.
use Rattle.fx_laws_operators.proofs.FunctionLemmas.{functions}
use Rattle.fx_laws_operators.proofs.functions_are_by_their_rows.Goals as goal

pub returns : goal.returns
returns c = functions
