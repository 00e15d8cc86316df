-- The law is the lemma of `BadReplyLemmas`.
use Rattle.fx_laws_refusals.proofs.BadReplyLemmas.{bad_replies_are_own}
use Rattle.fx_laws_refusals.proofs.bad_replies_are_own.Goals as goal

pub returns : goal.returns
returns c = bad_replies_are_own
