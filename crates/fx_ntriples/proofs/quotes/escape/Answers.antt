use Rattle.std.proofs.Common.{◌+◌, arith}
use Rattle.fx_ntriples.proofs.Steps.{four_digits, eight_digits}
use Rattle.fx_ntriples.proofs.quotes.escape.Goals as goal

pub returns-then-b-eq117 : goal.returns-then-b-eq117
returns-then-b-eq117 c = rw (four_digits c.args.quote c.args.line.now (c.args.at + 1) (c.args.at + 2) (omega arith) (omega arith) c.if-b-eq117.true) c.numbered.ensures

pub returns-then-b-eq85 : goal.returns-then-b-eq85
returns-then-b-eq85 c = rw (eight_digits c.args.quote c.args.line.now (c.args.at + 1) (c.args.at + 2) (omega arith) (omega arith) c.if-b-eq85.true) c.numbered-then-b-eq85.ensures
