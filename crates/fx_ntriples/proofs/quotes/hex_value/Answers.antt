use Rattle.std.proofs.Common.{◌+◌, ◌*◌, ◌^◌, ◌≤◌, arith}
use Rattle.fx_ntriples.proofs.Steps.{sixteen_fits}
use Rattle.fx_ntriples.proofs.quotes.hex_value.Goals as goal

pub overflow_mul-value : goal.overflow_mul-value
overflow_mul-value c =
    let e : c.loop-d.value * 16 + 16 ≤ 2 ^ 32 = sixteen_fits c.loop-d.value c.loop-d.d-index _ c.loop-d.invariant.0 (omega arith) c.requires.few in
    omega arith

pub overflow_add-value : goal.overflow_add-value
overflow_add-value c =
    let e : c.loop-d.value * 16 + 16 ≤ 2 ^ 32 = sixteen_fits c.loop-d.value c.loop-d.d-index _ c.loop-d.invariant.0 (omega arith) c.requires.few in
    omega arith
