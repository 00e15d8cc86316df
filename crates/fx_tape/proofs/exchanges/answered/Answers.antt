use Rattle.std.proofs.lemmas.Result.{err_from_is_err_and}
use Rattle.fx_tape.proofs.ExchangeLemmas.{answered_word_halts, answered_at_halts, answered_size_halts, answered_reply_size_halts, answered_request_halts, answered_reply_halts, answered_begins}
use Rattle.fx_tape.proofs.exchanges.answered.Goals as goal

pub returns-in_err-rest : goal.returns-in_err-rest
returns-in_err-rest c = let p = err_from_is_err_and c.from_residual.result c.from_residual.ensures.1 in rw (p.1, p.2) (answered_word_halts c.args.bytes.now c.in_err-rest.field-0.0 c.in_err-rest.ensures)

pub returns-in_err-at : goal.returns-in_err-at
returns-in_err-at c = let p = err_from_is_err_and c.from_residual-in_err-at.result c.from_residual-in_err-at.ensures.1 in rw (p.1, p.2) (answered_at_halts c.args.bytes.now c.in_ok-rest.rest.now c.in_ok-rest.ensures c.in_err-at.field-0.0 c.in_err-at.ensures)

pub returns-in_err-size : goal.returns-in_err-size
returns-in_err-size c = let p = err_from_is_err_and c.from_residual-in_err-size.result c.from_residual-in_err-size.ensures.1 in rw (p.1, p.2) (answered_size_halts c.args.bytes.now c.in_ok-rest.rest.now c.in_ok-rest.ensures c.in_ok-at.at c.in_ok-at.rest.now c.in_ok-at.ensures c.in_err-size.field-0.0 c.in_err-size.ensures)

pub returns-in_err-reply_size : goal.returns-in_err-reply_size
returns-in_err-reply_size c = let p = err_from_is_err_and c.from_residual-in_err-reply_size.result c.from_residual-in_err-reply_size.ensures.1 in rw (p.1, p.2) (answered_reply_size_halts c.args.bytes.now c.in_ok-rest.rest.now c.in_ok-rest.ensures c.in_ok-at.at c.in_ok-at.rest.now c.in_ok-at.ensures c.in_ok-size.size c.in_ok-size.rest.now c.in_ok-size.ensures c.in_err-reply_size.field-0.0 c.in_err-reply_size.ensures)

pub returns-in_err-request : goal.returns-in_err-request
returns-in_err-request c = let p = err_from_is_err_and c.from_residual-in_err-request.result c.from_residual-in_err-request.ensures.1 in rw (p.1, p.2) (answered_request_halts c.args.bytes.now c.in_ok-rest.rest.now c.in_ok-rest.ensures c.in_ok-at.at c.in_ok-at.rest.now c.in_ok-at.ensures c.in_ok-size.size c.in_ok-size.rest.now c.in_ok-size.ensures c.in_ok-reply_size.reply_size c.in_ok-reply_size.rest.now c.in_ok-reply_size.ensures c.in_err-request.field-0.0 c.in_err-request.ensures)

pub returns-in_err-reply : goal.returns-in_err-reply
returns-in_err-reply c = let p = err_from_is_err_and c.from_residual-in_err-reply.result c.from_residual-in_err-reply.ensures.1 in rw (p.1, p.2) (answered_reply_halts c.args.bytes.now c.in_ok-rest.rest.now c.in_ok-rest.ensures c.in_ok-at.at c.in_ok-at.rest.now c.in_ok-at.ensures c.in_ok-size.size c.in_ok-size.rest.now c.in_ok-size.ensures c.in_ok-reply_size.reply_size c.in_ok-reply_size.rest.now c.in_ok-reply_size.ensures c.in_ok-request.request.items c.in_ok-request.rest.now c.in_ok-request.ensures c.in_err-reply.field-0.0 c.in_err-reply.ensures)

pub returns : goal.returns
returns c = rw (c.from_vec.ensures, c.from_vec-2.ensures) (answered_begins c.args.bytes.now c.in_ok-rest.rest.now c.in_ok-rest.ensures c.in_ok-at.at c.in_ok-at.rest.now c.in_ok-at.ensures c.in_ok-size.size c.in_ok-size.rest.now c.in_ok-size.ensures c.in_ok-reply_size.reply_size c.in_ok-reply_size.rest.now c.in_ok-reply_size.ensures c.in_ok-request.request.items c.in_ok-request.rest.now c.in_ok-request.ensures c.in_ok-reply.reply.items c.in_ok-reply.rest.now c.in_ok-reply.ensures)
