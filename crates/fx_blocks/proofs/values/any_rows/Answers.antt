use Rattle.std.proofs.Common.{sym, ◌∙◌}
use Rattle.std.proofs.lemmas.Result.{err_from_is_err_and}
use Rattle.std.proofs.Common.{true, false}
use Rattle.fx_grammar.specs.Grammar.{row}
use Rattle.fx_grammar.proofs.GrammarLaws.{row_law, row_takes}
use Rattle.fx_blocks.proofs.ValueLaws.{row_sees}
use Rattle.fx_readers.proofs.Loops.{hands_on, any_turn, any_fails, any_ends, any_smaller, no_front}
use Rattle.fx_blocks.proofs.values.any_rows.Goals as goal

pub returns-in_err-next : goal.returns-in_err-next
returns-in_err-next c =
    let p = err_from_is_err_and c.from_residual.result c.from_residual.ensures.1 in
    rw (p.1, p.2, ← c.more.invariant)
    (hands_on _ _ _ c.in_err-next.ensures (λ r e. any_fails (row c.args.prefixes.now c.args.width) (row_law c.args.prefixes.now c.args.width) (row_takes c.args.prefixes.now c.args.width) c.more.parts c.more.rest.now r (row_sees c.args.prefixes.now c.args.width c.more.rest.now true (sym c.sees.ensures ∙ c.more-test.true)) e))

pub more-smaller : goal.more-smaller
more-smaller c = any_smaller (row c.args.prefixes.now c.args.width) (row_law c.args.prefixes.now c.args.width) (row_takes c.args.prefixes.now c.args.width) c.more.rest.now c.in_ok-next.after.now c.in_ok-next.next c.in_ok-next.ensures

pub more-preserved : goal.more-preserved
more-preserved c =
    rw c.in_ok-push.ensures.ok
    (any_turn (row c.args.prefixes.now c.args.width) (row_law c.args.prefixes.now c.args.width) (row_takes c.args.prefixes.now c.args.width) c.more.parts c.more.rest.now c.in_ok-next.after.now c.in_ok-next.next (row_sees c.args.prefixes.now c.args.width c.more.rest.now true (sym c.sees.ensures ∙ c.more-test.true)) c.in_ok-next.ensures ∙ c.more.invariant)

pub returns : goal.returns
returns c =
    sym c.more.invariant ∙ any_ends (row c.args.prefixes.now c.args.width) (row_law c.args.prefixes.now c.args.width) (row_takes c.args.prefixes.now c.args.width) c.more.parts c.more.rest.now (row_sees c.args.prefixes.now c.args.width c.more.rest.now false (sym c.sees.ensures ∙ c.more-test.false))

pub more-init : goal.more-init
more-init c = rw c.new-parts.ensures (no_front _)
