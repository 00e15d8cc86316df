use Rattle.std.proofs.Common.{sym, ◌∙◌}
use Rattle.std.proofs.lemmas.Result.{err_from_is_err_and}
use Rattle.fx_grammar.specs.Grammar.{value}
use Rattle.fx_grammar.proofs.GrammarLaws.{value_law, value_takes}
use Rattle.fx_readers.proofs.Loops.{hands_on, any_turn, any_fails, any_ends, any_smaller, no_front}
use Rattle.fx_blocks.proofs.values.values.Goals as goal

pub returns-in_err-next : goal.returns-in_err-next
returns-in_err-next c =
    let p = err_from_is_err_and c.from_residual.result c.from_residual.ensures.1 in
    rw (p.1, p.2, ← c.more.invariant)
    (hands_on _ _ _ c.in_err-next.ensures (λ r e. any_fails (value c.args.prefixes.now) (value_law c.args.prefixes.now) (value_takes c.args.prefixes.now) c.more.parts c.more.rest.now r (sym (c.sees_value.ensures c.args.prefixes.now) ∙ c.more-test.true) e))

pub more-smaller : goal.more-smaller
more-smaller c = any_smaller (value c.args.prefixes.now) (value_law c.args.prefixes.now) (value_takes c.args.prefixes.now) c.more.rest.now c.in_ok-next.after.now c.in_ok-next.next c.in_ok-next.ensures

pub more-preserved : goal.more-preserved
more-preserved c =
    rw c.in_ok-push.ensures.ok
    (any_turn (value c.args.prefixes.now) (value_law c.args.prefixes.now) (value_takes c.args.prefixes.now) c.more.parts c.more.rest.now c.in_ok-next.after.now c.in_ok-next.next (sym (c.sees_value.ensures c.args.prefixes.now) ∙ c.more-test.true) c.in_ok-next.ensures ∙ c.more.invariant)

pub returns : goal.returns
returns c =
    sym c.more.invariant ∙ any_ends (value c.args.prefixes.now) (value_law c.args.prefixes.now) (value_takes c.args.prefixes.now) c.more.parts c.more.rest.now (sym (c.sees_value.ensures c.args.prefixes.now) ∙ c.more-test.false)

pub more-init : goal.more-init
more-init c = rw c.new-parts.ensures (no_front _)
