use Rattle.std.proofs.Common.{◌≢◌, ◌<◌, length, get_or, arith}
use Rattle.fx_tape.proofs.PieceLemmas.{block_short, block_there, block_read}
use Rattle.fx_tape.proofs.pieces.block.Goals as goal

pub returns-then-bytes-size : goal.returns-then-bytes-size
returns-then-bytes-size c = block_short c.args.size c.args.bytes.now c.if-bytes-size.true

pub returns-then-bytes-size-ne10 : goal.returns-then-bytes-size-ne10
returns-then-bytes-size-ne10 c =
    let inside : c.args.size < length c.args.bytes.now = omega arith in
    let other : get_or c.args.bytes.now c.args.size 0 ≢ 10 = λ e. c.if-bytes-size-ne10.true (cc) in
    block_there c.args.size c.args.bytes.now inside other

pub returns : goal.returns
returns c = rw (c.in_ok-copy.ensures.items, c.after.ensures) (block_read c.args.size c.args.bytes.now c.if-bytes-size.false c.if-bytes-size-ne10.false)
