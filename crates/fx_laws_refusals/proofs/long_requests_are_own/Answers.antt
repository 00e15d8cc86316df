-- The law is the lemma of `LongLemmas`.
use Rattle.fx_laws_refusals.proofs.LongLemmas.{long_requests_are_own}
use Rattle.fx_laws_refusals.proofs.long_requests_are_own.Goals as goal

pub returns : goal.returns
returns c = long_requests_are_own
