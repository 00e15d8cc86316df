use Rattle.std.proofs.Common.{◌<◌, length, arith}
use Rattle.std.proofs.lemmas.Result.{err_from_is_err_and}
use Rattle.fx_tape.proofs.ExchangeLemmas.{next_empty, next_other, next_failed_halts, next_failed, next_reads}
use Rattle.fx_tape.proofs.exchanges.next.Goals as goal

pub returns-then-bytes-eq0 : goal.returns-then-bytes-eq0
returns-then-bytes-eq0 c = next_empty c.args.bytes.now c.if-bytes-eq0.true

pub returns-in_err-exchange : goal.returns-in_err-exchange
returns-in_err-exchange c =
    let some : 0 < length c.args.bytes.now = omega arith in
    let p = err_from_is_err_and c.from_residual.result c.from_residual.ensures.1 in
    rw (p.1, p.2) (next_failed_halts c.args.bytes.now some c.if-bytes-eq102.true c.in_err-exchange.field-0.0 (rw (← c.after.ensures) c.in_err-exchange.ensures))

pub returns-then-bytes-eq102 : goal.returns-then-bytes-eq102
returns-then-bytes-eq102 c =
    let some : 0 < length c.args.bytes.now = omega arith in
    next_failed c.args.bytes.now some c.if-bytes-eq102.true c.in_ok-exchange.exchange c.in_ok-exchange.rest.now (rw (← c.after.ensures) c.in_ok-exchange.ensures)

pub returns-then-bytes-eq101 : goal.returns-then-bytes-eq101
returns-then-bytes-eq101 c =
    let some : 0 < length c.args.bytes.now = omega arith in
    next_reads c.args.bytes.now some (λ x. (x.0, x.1.now)) c.answered_or_end.result c.if-bytes-eq101.true (rw (← c.after-then-bytes-eq101.ensures) c.answered_or_end.ensures)

pub returns : goal.returns
returns c =
    let some : 0 < length c.args.bytes.now = omega arith in
    next_other c.args.bytes.now some c.if-bytes-eq102.false c.if-bytes-eq101.false
