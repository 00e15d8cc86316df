use Rattle.std.proofs.lemmas.Result.{err_from_is_err_and}
use Rattle.fx_tape.proofs.TapeLemmas.{head_halts, rows_halts, exchanges_halts, tape_begins}
use Rattle.fx_tape.proofs.reading.tape.Goals as goal

pub returns-in_err-rest : goal.returns-in_err-rest
returns-in_err-rest c = let p = err_from_is_err_and c.from_residual.result c.from_residual.ensures.1 in rw (p.1, p.2) (head_halts c.args.bytes.now c.in_err-rest.field-0.0 c.in_err-rest.ensures)

pub returns-in_err-block : goal.returns-in_err-block
returns-in_err-block c = let p = err_from_is_err_and c.from_residual-in_err-block.result c.from_residual-in_err-block.ensures.1 in rw (p.1, p.2) (rows_halts c.args.bytes.now c.in_ok-rest.rest.now c.in_ok-rest.ensures c.in_err-block.field-0.0 c.in_err-block.ensures)

pub returns-in_err-exchanges : goal.returns-in_err-exchanges
returns-in_err-exchanges c = let p = err_from_is_err_and c.from_residual-in_err-exchanges.result c.from_residual-in_err-exchanges.ensures.1 in rw (p.1, p.2) (exchanges_halts c.args.bytes.now c.in_ok-rest.rest.now c.in_ok-rest.ensures c.in_ok-block.block c.in_ok-block.rest.now c.in_ok-block.ensures c.in_err-exchanges.field-0.0 c.in_err-exchanges.ensures)

pub returns : goal.returns
returns c = rw c.from_vec.ensures (tape_begins c.args.bytes.now c.in_ok-rest.rest.now c.in_ok-rest.ensures c.in_ok-block.block c.in_ok-block.rest.now c.in_ok-block.ensures c.in_ok-exchanges.exchanges.items c.in_ok-exchanges.rest.now c.in_ok-exchanges.ensures)
