use Rattle.std.proofs.lemmas.Result.{err_from_is_err_and}
use Rattle.fx_tape.proofs.ExchangeLemmas.{going_none, going_more, going_stops, going_ends, shorter}
use Rattle.fx_tape.proofs.exchanges.exchanges.Goals as goal

pub more-init : goal.more-init
more-init c = rw c.new-all.ensures.items (going_none c.args.bytes.now)

pub returns-in_err-said : goal.returns-in_err-said
returns-in_err-said c =
    let p = err_from_is_err_and c.from_residual.result c.from_residual.ensures.1 in
    rw (p.1, p.2) (going_stops c.args.bytes.now c.more.left.now c.more.all.items c.more.invariant c.in_err-said.field-0.0 c.in_err-said.ensures)

pub more-smaller : goal.more-smaller
more-smaller c = shorter c.more.left.now c.in_ok-said.said c.in_ok-said.behind.now c.in_ok-said.ensures

pub more-preserved : goal.more-preserved
more-preserved c =
    rw c.in_ok-push-in-Some.ensures.items (going_more c.args.bytes.now c.more.left.now c.more.all.items c.more.invariant c.in-Some.exchange c.in_ok-said.behind.now (rw c.in-Some.is at c.in_ok-said.ensures))

pub returns-in-None : goal.returns-in-None
returns-in-None c = going_ends c.args.bytes.now c.more.left.now c.more.all.items c.more.invariant c.in_ok-said.behind.now (rw c.in-None.is at c.in_ok-said.ensures)
