use Rattle.std.proofs.Common.{◌∙◌, arith}
use Rattle.std.proofs.lemmas.Result.{err_from_is_err_and}
use Rattle.fx_turtle.specs.Sources.{left}
use Rattle.fx_turtle.proofs.Whole.{document_smaller}
use Rattle.fx_turtle.proofs.WindowTurns.{turn_on, stops_there, window_ends}
use Rattle.fx_turtle.proofs.statements.window.Goals as goal

pub returns-in_err-at : goal.returns-in_err-at
returns-in_err-at c =
    let p = err_from_is_err_and c.from_residual.result c.from_residual.ensures.1 in
    rw (p.1, p.2)
    (stops_there c.args.source.now c.each.at (omega (arith, c.each-test.true, c.count.ensures)) c.each.prefixes c.args.prefixes.now c.each.triples.items c.args.triples.now.items _ c.each.invariant c.in_err-at.ensures)

pub each-smaller : goal.each-smaller
each-smaller c = document_smaller c.each.prefixes c.each.triples.items (left c.args.source.now c.each.at) c.in_ok-at.ensures.0 (left c.args.source.now c.in_ok-at.at) c.in_ok-at.ensures.1

pub each-preserved : goal.each-preserved
each-preserved c = λ rest.
    turn_on c.each.prefixes (left c.args.source.now c.each.at) c.each.triples.items c.statement.new.triples.items c.statement.new.prefixes c.in_ok-at.ensures.0 (left c.args.source.now c.in_ok-at.at) rest c.in_ok-at.ensures.1 c.in_ok-at.ensures.2 c.in_ok-at.ensures.3
    ∙ c.each.invariant rest

pub returns : goal.returns
returns c = λ rest. window_ends c.each.prefixes c.each.triples.items (left c.args.source.now c.each.at) rest (omega (arith, c.each-test.false, c.count.ensures)) ∙ c.each.invariant rest
