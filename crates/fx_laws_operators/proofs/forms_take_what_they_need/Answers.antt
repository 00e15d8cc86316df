-- The law is the lemma of `FunctionLemmas`.
use Rattle.fx_laws_operators.proofs.FunctionLemmas.{forms_of}
use Rattle.fx_laws_operators.proofs.forms_take_what_they_need.Goals as goal

pub returns : goal.returns
returns c = forms_of
