use Rattle.fx_local.proofs.LoadLemmas.{no_query}
use Rattle.fx_local.proofs.loading.load_query.Goals as goal

pub returns-in-Err-Refused-clause-outcome : goal.returns-in-Err-Refused-clause-outcome
returns-in-Err-Refused-clause-outcome g c = rw (c.in-Err-Refused.kind-is, c.in-Err-Refused.place-is) (no_query _ _ c.in-Ok.bytes.items c.as_slice.result.now c.in-Err-Refused.field-0 c.in-Err-Refused.kind c.in-Err-Refused.place c.in-Ok.ensures.outcome c.as_slice.ensures.value c.in-Err-Refused.field-0-is c.in-Err-Refused.ensures.refused)
