use Rattle.std.proofs.Common.{sym, ap, ◌∙◌, Ok}
use Rattle.std.proofs.lemmas.Result.{err_from_is_err_and}
use Rattle.fx_grammar.specs.Grammar.{prefix}
use Rattle.fx_grammar.proofs.GrammarLaws.{prefix_law, prefix_takes}
use Rattle.fx_readers.proofs.Loops.{hands_on, any_turn, any_fails, any_ends, any_smaller, no_front}
use Rattle.fx_heads.proofs.heads.prologue.Goals as goal

pub returns-in_err-name : goal.returns-in_err-name
returns-in_err-name c =
    let p = err_from_is_err_and c.from_residual.result c.from_residual.ensures.1 in
    rw (p.1, p.2, ← c.more.invariant)
    (hands_on _ _ _ c.in_err-name.ensures (λ r e. any_fails prefix prefix_law prefix_takes c.more.parts c.more.rest.now r (sym c.sees_prefix.ensures ∙ c.more-test.true) e))

pub more-smaller : goal.more-smaller
more-smaller c = any_smaller prefix prefix_law prefix_takes c.more.rest.now c.in_ok-name.after.now _ c.in_ok-name.ensures

pub more-preserved : goal.more-preserved
more-preserved c =
    rw c.in_ok-push.ensures.ok
    (any_turn prefix prefix_law prefix_takes c.more.parts c.more.rest.now c.in_ok-name.after.now _ (sym c.sees_prefix.ensures ∙ c.more-test.true) c.in_ok-name.ensures ∙ c.more.invariant)

pub returns : goal.returns
returns c =
    sym c.more.invariant ∙ any_ends prefix prefix_law prefix_takes c.more.parts c.more.rest.now (sym c.sees_prefix.ensures ∙ c.more-test.false) ∙ ap (λ v. Ok (v, c.more.rest.now)) (sym c.in_ok-of.ensures)

pub more-init : goal.more-init
more-init c = rw c.new-parts.ensures (no_front _)
