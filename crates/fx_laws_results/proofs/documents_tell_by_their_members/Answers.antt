-- The law is the lemma of `ToldLemmas`.
use Rattle.fx_laws_results.proofs.ToldLemmas.{documents_tell_by_their_members}
use Rattle.fx_laws_results.proofs.documents_tell_by_their_members.Goals as goal

pub returns : goal.returns
returns c = documents_tell_by_their_members
