-- The law is the lemma of `NeedLemmas`.
use Rattle.fx_laws_refusals.proofs.NeedLemmas.{refusals_name_no_optional}
use Rattle.fx_laws_refusals.proofs.refusals_name_no_optional.Goals as goal

pub returns : goal.returns
returns c = refusals_name_no_optional
