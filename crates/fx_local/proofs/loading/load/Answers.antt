use Rattle.std.proofs.Common.{ap, Err, arith}
use Rattle.fx_local.proofs.loading.load.Goals as goal

pub returns-in-Err-Failed-clause-outcome : goal.returns-in-Err-Failed-clause-outcome
returns-in-Err-Failed-clause-outcome g c =
    let more = c.in-Err-Failed.ensures.counted (ap Err c.in-Err-Failed.field-0-is) in
    let here = more.here in
    omega (arith, here)

pub returns-in-Err-Failed-clause-counted : goal.returns-in-Err-Failed-clause-counted
returns-in-Err-Failed-clause-counted g c = c.in-Err-Failed.ensures.counted (ap Err c.in-Err-Failed.field-0-is)

pub returns-in-Err-Memory-clause-counted : goal.returns-in-Err-Memory-clause-counted
returns-in-Err-Memory-clause-counted g c = c.in-Err-Memory.ensures.faultless (λ failed. let memory = c.in-Err-Memory.field-0-is in cc)
