-- The law is the lemma of `LiteralLemmas`.
use Rattle.fx_laws_operators.proofs.LiteralLemmas.{literals}
use Rattle.fx_laws_operators.proofs.literals_have_their_truths.Goals as goal

pub returns : goal.returns
returns c = literals
