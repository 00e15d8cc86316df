use Rattle.std.proofs.Common.{◌-◌, ◌+◌, ◌∙◌, sym, arith}
use Rattle.std.specs.Char.{is_ascii_hexdigit}
use Rattle.fx_ntriples.proofs.Steps.{digit_here, no_digit_here}
use Rattle.fx_ntriples.proofs.quotes.hex_end.Goals as goal

pub loop-end-preserved : goal.loop-end-preserved
loop-end-preserved c =
    let e = digit_here is_ascii_hexdigit c.args.line.now c.loop-end.end (c.args.count - (c.loop-end.end - c.args.start)) (c.args.count - (c.loop-end.end + 1 - c.args.start)) (omega arith) (sym c.is_ascii_hexdigit.ensures.value ∙ c.if-is_ascii_hexdigit.true) (omega arith) in
    (omega arith, omega arith, omega arith, omega arith)

pub returns-else-is_ascii_hexdigit-clause-place : goal.returns-else-is_ascii_hexdigit-clause-place
returns-else-is_ascii_hexdigit-clause-place c =
    let e = no_digit_here is_ascii_hexdigit c.args.line.now c.loop-end.end (c.args.count - (c.loop-end.end - c.args.start)) (c.args.count - (c.loop-end.end + 1 - c.args.start)) (omega arith) (sym c.is_ascii_hexdigit.ensures.value ∙ c.if-is_ascii_hexdigit.false) (omega arith) in
    omega arith
