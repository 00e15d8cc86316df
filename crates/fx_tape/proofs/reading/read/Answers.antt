use Rattle.fx_tape.proofs.TapeLemmas.{tape_stops, left_within, rest_within, tape_behind_stops, whole_tape}
use Rattle.std.proofs.Common.{◌<◌, length, arith}
use Rattle.fx_tape.proofs.reading.read.Goals as goal

pub refused-requires : goal.refused-requires
refused-requires c = rest_within c.args.bytes.now c.in-Ok.tape c.in-Ok.rest.now c.in-Ok.ensures

pub refused-requires-in-Err-At : goal.refused-requires-in-Err-At
refused-requires-in-Err-At c = left_within c.args.bytes.now c.in-Err-At.left (rw c.in-Err-At.field-0-is at c.in-Err-At.ensures)

pub returns-then-rest-eq0 : goal.returns-then-rest-eq0
returns-then-rest-eq0 c = whole_tape c.args.bytes.now c.in-Ok.tape c.in-Ok.rest.now c.in-Ok.ensures c.if-rest-eq0.true

pub returns-else-rest-eq0 : goal.returns-else-rest-eq0
returns-else-rest-eq0 c =
    let some : 0 < length c.in-Ok.rest.now = omega arith in
    rw c.refused.ensures (tape_behind_stops c.args.bytes.now c.in-Ok.tape c.in-Ok.rest.now c.in-Ok.ensures some)

pub returns-in-Err-At : goal.returns-in-Err-At
returns-in-Err-At c = rw c.refused-in-Err-At.ensures (tape_stops c.args.bytes.now c.in-Err-At.left (rw c.in-Err-At.field-0-is at c.in-Err-At.ensures))
