use Rattle.std.proofs.Common.{sym, ap, ◌∙◌}
use Rattle.std.proofs.lemmas.Result.{err_from_is_err_and}
use Rattle.std.proofs.Common.{Ok}
use Rattle.fx_readers.proofs.Loops.{hands_on}
use Rattle.fx_blocks.proofs.ValueLaws.{columns_turn, columns_fail, columns_end, columns_smaller, columns_are, is_new}
use Rattle.fx_blocks.proofs.values.columns.Goals as goal

pub returns-in_err-name : goal.returns-in_err-name
returns-in_err-name c =
    let p = err_from_is_err_and c.from_residual.result c.from_residual.ensures.1 in
    rw (p.1, p.2, ← c.more.invariant)
    (hands_on _ _ _ c.in_err-name.ensures.reads (λ r e. columns_fail c.more.names.keys c.more.rest.now r (sym c.sees.ensures ∙ c.more-test.true) e))

pub more-smaller : goal.more-smaller
more-smaller c = columns_smaller c.more.names.keys c.more.rest.now c.in_ok-name.after.now c.in_ok-name.name c.in_ok-name.ensures.reads

pub more-preserved : goal.more-preserved
more-preserved c =
    rw (c.in_ok-add_name.ensures, is_new c.more.names.keys c.in_ok-name.name c.in_ok-name.ensures.new)
    (columns_turn c.more.names.keys c.more.rest.now c.in_ok-name.after.now c.in_ok-name.name (sym c.sees.ensures ∙ c.more-test.true) c.in_ok-name.ensures.reads ∙ c.more.invariant)

pub more-init : goal.more-init
more-init c = rw c.no_names-names.ensures (columns_are c.args.tokens.now)

pub returns : goal.returns
returns c =
    sym c.more.invariant ∙ columns_end c.more.names.keys c.more.rest.now (sym c.sees.ensures ∙ c.more-test.false) ∙ ap (λ v. Ok (v, c.more.rest.now)) (sym c.in_ok-in_order.ensures)
