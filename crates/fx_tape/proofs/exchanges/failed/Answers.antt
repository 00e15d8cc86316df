use Rattle.std.proofs.lemmas.Result.{err_from_is_err_and}
use Rattle.fx_tape.proofs.ExchangeLemmas.{failed_word_halts, failed_at_halts, failed_size_halts, failed_block_halts, failed_begins}
use Rattle.fx_tape.proofs.exchanges.failed.Goals as goal

pub returns-in_err-rest : goal.returns-in_err-rest
returns-in_err-rest c = let p = err_from_is_err_and c.from_residual.result c.from_residual.ensures.1 in rw (p.1, p.2) (failed_word_halts c.args.bytes.now c.in_err-rest.field-0.0 c.in_err-rest.ensures)

pub returns-in_err-at : goal.returns-in_err-at
returns-in_err-at c = let p = err_from_is_err_and c.from_residual-in_err-at.result c.from_residual-in_err-at.ensures.1 in rw (p.1, p.2) (failed_at_halts c.args.bytes.now c.in_ok-rest.rest.now c.in_ok-rest.ensures c.in_err-at.field-0.0 c.in_err-at.ensures)

pub returns-in_err-size : goal.returns-in_err-size
returns-in_err-size c = let p = err_from_is_err_and c.from_residual-in_err-size.result c.from_residual-in_err-size.ensures.1 in rw (p.1, p.2) (failed_size_halts c.args.bytes.now c.in_ok-rest.rest.now c.in_ok-rest.ensures c.in_ok-at.at c.in_ok-at.rest.now c.in_ok-at.ensures c.in_err-size.field-0.0 c.in_err-size.ensures)

pub returns-in_err-request : goal.returns-in_err-request
returns-in_err-request c = let p = err_from_is_err_and c.from_residual-in_err-request.result c.from_residual-in_err-request.ensures.1 in rw (p.1, p.2) (failed_block_halts c.args.bytes.now c.in_ok-rest.rest.now c.in_ok-rest.ensures c.in_ok-at.at c.in_ok-at.rest.now c.in_ok-at.ensures c.in_ok-size.size c.in_ok-size.rest.now c.in_ok-size.ensures c.in_err-request.field-0.0 c.in_err-request.ensures)

pub returns : goal.returns
returns c = rw c.from_vec.ensures (failed_begins c.args.bytes.now c.in_ok-rest.rest.now c.in_ok-rest.ensures c.in_ok-at.at c.in_ok-at.rest.now c.in_ok-at.ensures c.in_ok-size.size c.in_ok-size.rest.now c.in_ok-size.ensures c.in_ok-request.request.items c.in_ok-request.rest.now c.in_ok-request.ensures)
