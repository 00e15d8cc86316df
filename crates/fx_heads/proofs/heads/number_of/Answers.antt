use Rattle.std.proofs.Common.{arith, sym, ap, ◌∙◌}
use Rattle.std.proofs.lemmas.List.{drop_all}
use Rattle.fx_grammar.specs.Grammar.{number_from, number_in}
use Rattle.fx_heads.proofs.NumberLaws.{too_wide, some_in}
use Rattle.fx_heads.proofs.heads.number_of.Goals as goal

pub returns-in_err-checked_mul : goal.returns-in_err-checked_mul
returns-in_err-checked_mul c =
    let items = c.as_bytes-digit-items.ensures.value ∙ c.as_str.ensures in
    c.from_residual.ensures ∙ too_wide c.as_bytes-digit-items.result.now c.loop-digit.digit-index c.loop-digit.number 0 c.loop-digit-test.true c.loop-digit.invariant.same (λ h. c.in_err-checked_mul.ensures (omega (arith, h))) ∙ ap number_in items

pub returns-in_err-number : goal.returns-in_err-number
returns-in_err-number c =
    let items = c.as_bytes-digit-items.ensures.value ∙ c.as_str.ensures in
    c.from_residual-in_err-number.ensures ∙ too_wide c.as_bytes-digit-items.result.now c.loop-digit.digit-index c.loop-digit.number 0 c.loop-digit-test.true c.loop-digit.invariant.same (λ h. c.in_err-number.ensures (rw (c.in_ok-checked_mul.ensures.1, c.saturating_sub.ensures) h)) ∙ ap number_in items

pub returns : goal.returns
returns c =
    let items = c.as_bytes-digit-items.ensures.value ∙ c.as_str.ensures in
    some_in c.as_bytes-digit-items.result.now c.loop-digit.number (ap (number_from c.loop-digit.number) (sym (drop_all _ _ c.loop-digit-test.false)) ∙ c.loop-digit.invariant.same) c.loop-digit.invariant.small ∙ ap number_in items
