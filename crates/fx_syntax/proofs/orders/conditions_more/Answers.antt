use Rattle.std.proofs.Common.{sym, ◌∙◌}
use Rattle.std.proofs.lemmas.Result.{err_from_is_err_and}
use Rattle.fx_grammar.specs.Grammar.{condition}
use Rattle.fx_grammar.proofs.GrammarLaws.{condition_law, condition_takes}
use Rattle.fx_readers.proofs.Loops.{hands_on, any_turn, any_fails, any_ends, any_smaller}
use Rattle.fx_syntax.proofs.orders.conditions_more.Goals as goal

pub returns-in_err-descending : goal.returns-in_err-descending
returns-in_err-descending c =
    let p = err_from_is_err_and c.from_residual.result c.from_residual.ensures.1 in
    rw (p.1, p.2, ← c.more.invariant)
    (hands_on _ _ _ c.in_err-descending.ensures (λ r e. any_fails (condition c.args.prefixes.now) (condition_law c.args.prefixes.now) (condition_takes c.args.prefixes.now) c.more.parts c.more.rest.now r (sym (c.sees_condition.ensures c.args.prefixes.now) ∙ c.more-test.true) e))

pub more-smaller : goal.more-smaller
more-smaller c = any_smaller (condition c.args.prefixes.now) (condition_law c.args.prefixes.now) (condition_takes c.args.prefixes.now) c.more.rest.now c.in_ok-descending.after.now _ c.in_ok-descending.ensures

pub more-preserved : goal.more-preserved
more-preserved c =
    rw c.in_ok-add_order.ensures
    (any_turn (condition c.args.prefixes.now) (condition_law c.args.prefixes.now) (condition_takes c.args.prefixes.now) c.more.parts c.more.rest.now c.in_ok-descending.after.now _ (sym (c.sees_condition.ensures c.args.prefixes.now) ∙ c.more-test.true) c.in_ok-descending.ensures ∙ c.more.invariant)

pub returns : goal.returns
returns c =
    sym c.more.invariant ∙ any_ends (condition c.args.prefixes.now) (condition_law c.args.prefixes.now) (condition_takes c.args.prefixes.now) c.more.parts c.more.rest.now (sym (c.sees_condition.ensures c.args.prefixes.now) ∙ c.more-test.false)
