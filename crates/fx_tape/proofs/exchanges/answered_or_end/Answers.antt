use Rattle.std.proofs.Common.{◌<◌, length, arith}
use Rattle.std.proofs.lemmas.Result.{err_from_is_err_and}
use Rattle.fx_tape.proofs.ExchangeLemmas.{or_end_empty, or_end_other, or_end_answered_halts, or_end_answered, or_end_halts, or_end_ends}
use Rattle.fx_tape.proofs.exchanges.answered_or_end.Goals as goal

pub returns-then-bytes-eq0 : goal.returns-then-bytes-eq0
returns-then-bytes-eq0 c = or_end_empty c.args.bytes.now c.if-bytes-eq0.true

pub returns-in_err-exchange : goal.returns-in_err-exchange
returns-in_err-exchange c =
    let some : 0 < length c.args.bytes.now = omega arith in
    let p = err_from_is_err_and c.from_residual.result c.from_residual.ensures.1 in
    rw (p.1, p.2) (or_end_answered_halts c.args.bytes.now some c.if-bytes-eq120.true c.in_err-exchange.field-0.0 (rw (← c.after.ensures) c.in_err-exchange.ensures))

pub returns-then-bytes-eq120 : goal.returns-then-bytes-eq120
returns-then-bytes-eq120 c =
    let some : 0 < length c.args.bytes.now = omega arith in
    or_end_answered c.args.bytes.now some c.if-bytes-eq120.true c.in_ok-exchange.exchange c.in_ok-exchange.rest.now (rw (← c.after.ensures) c.in_ok-exchange.ensures)

pub returns-in_err-rest : goal.returns-in_err-rest
returns-in_err-rest c =
    let some : 0 < length c.args.bytes.now = omega arith in
    let p = err_from_is_err_and c.from_residual-in_err-rest.result c.from_residual-in_err-rest.ensures.1 in
    rw (p.1, p.2) (or_end_halts c.args.bytes.now some c.if-bytes-eq110.true c.in_err-rest.field-0.0 (rw (← c.after-then-bytes-eq110.ensures) c.in_err-rest.ensures))

pub returns-then-bytes-eq110 : goal.returns-then-bytes-eq110
returns-then-bytes-eq110 c =
    let some : 0 < length c.args.bytes.now = omega arith in
    or_end_ends c.args.bytes.now some c.if-bytes-eq110.true c.in_ok-rest.rest.now (rw (← c.after-then-bytes-eq110.ensures) c.in_ok-rest.ensures)

pub returns : goal.returns
returns c =
    let some : 0 < length c.args.bytes.now = omega arith in
    or_end_other c.args.bytes.now some c.if-bytes-eq120.false c.if-bytes-eq110.false
