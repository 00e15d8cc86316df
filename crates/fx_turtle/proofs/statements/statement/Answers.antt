use Rattle.std.proofs.Common.{◌∙◌, List, sym, refl}
use Rattle.std.proofs.lemmas.Result.{err_from_is_err_and}
use Rattle.fx_terms.specs.declared.triples.Triple.{Triple}
use Rattle.fx_turtle.specs.Grammar.{triples, holds}
use Rattle.fx_turtle.specs.Sources.{left}
use Rattle.fx_turtle.proofs.Leaves.{refused_as, hands_on}
use Rattle.fx_turtle.proofs.Loops.{added_read, added_fails}
use Rattle.fx_turtle.proofs.Whole.{marked_read, marked_fails, marked_undotted, worded_read, worded_fails, base_refused, held_read, held_fails, held_undotted, says_none}
use Rattle.fx_turtle.proofs.statements.statement.Goals as goal

pub returns-in_err-next-2 : goal.returns-in_err-next-2
returns-in_err-next-2 c =
    let p = err_from_is_err_and c.from_residual-in_err-next-2.result c.from_residual-in_err-next-2.ensures.1 in
    rw (p.1, p.2) (hands_on _ _ _ c.in_err-next-2.ensures (λ r e. marked_fails c.args.prefixes.now _ _ (sym c.sees.ensures ∙ c.if-sees.true) c.in_ok-next.ensures r e))

pub returns-in_err-next-3 : goal.returns-in_err-next-3
returns-in_err-next-3 c =
    let p = err_from_is_err_and c.from_residual-in_err-next-3.result c.from_residual-in_err-next-3.ensures.1 in
    let d = c.in_ok-next-2.ensures in
    rw (p.1, p.2) (hands_on _ _ _ c.in_err-next-3.ensures (λ r e. marked_undotted c.args.prefixes.now _ _ (sym c.sees.ensures ∙ c.if-sees.true) c.in_ok-next.ensures d.0 _ r d.1 e))

pub returns-then-sees : goal.returns-then-sees
returns-then-sees c =
    let d = c.in_ok-next-2.ensures in
    (d.0, marked_read c.args.prefixes.now _ _ (sym c.sees.ensures ∙ c.if-sees.true) c.in_ok-next.ensures d.0 _ _ d.1 c.in_ok-next-3.ensures, d.2, says_none c.args.triples.now.items _ d.3)

pub returns-in_err-next-5 : goal.returns-in_err-next-5
returns-in_err-next-5 c =
    let p = err_from_is_err_and c.from_residual-in_err-next-5.result c.from_residual-in_err-next-5.ensures.1 in
    rw (p.1, p.2)
    (hands_on _ _ _ c.in_err-next-5.ensures (λ r e. worded_fails c.args.prefixes.now _ (sym c.sees.ensures ∙ c.if-sees.false) _ (sym c.sees-2.ensures ∙ c.if-sees-2.true) c.in_ok-next-4.ensures r e))

pub returns-then-sees-2 : goal.returns-then-sees-2
returns-then-sees-2 c =
    let d = c.in_ok-next-5.ensures in
    (d.0, worded_read c.args.prefixes.now _ (sym c.sees.ensures ∙ c.if-sees.false) _ (sym c.sees-2.ensures ∙ c.if-sees-2.true) c.in_ok-next-4.ensures d.0 _ d.1, d.2, says_none c.args.triples.now.items _ d.3)

pub returns-then-sees_base : goal.returns-then-sees_base
returns-then-sees_base c =
    refused_as _ _ _ _ c.refuse.ensures (base_refused c.args.prefixes.now _ (sym c.sees.ensures ∙ c.if-sees.false) (sym c.sees-2.ensures ∙ c.if-sees-2.false) (sym c.sees_base.ensures ∙ c.if-sees_base.true))

pub returns-in_err-next-6 : goal.returns-in_err-next-6
returns-in_err-next-6 c =
    let p = err_from_is_err_and c.from_residual-in_err-next-6.result c.from_residual-in_err-next-6.ensures.1 in
    rw (p.1, p.2)
    (hands_on _ _ _ c.in_err-next-6.ensures
    (λ r e.
    held_fails c.args.prefixes.now _ (sym c.sees.ensures ∙ c.if-sees.false) (sym c.sees-2.ensures ∙ c.if-sees-2.false) (sym c.sees_base.ensures ∙ c.if-sees_base.false) r
    (added_fails c.args.triples.now.items (λ (said : List Triple). said) ((triples c.args.prefixes.now).read (left c.args.source.now c.args.at)) r e)))

pub returns-in_err-next-7 : goal.returns-in_err-next-7
returns-in_err-next-7 c =
    let p = err_from_is_err_and c.from_residual-in_err-next-7.result c.from_residual-in_err-next-7.ensures.1 in
    let d = added_read c.args.triples.now.items (λ (said : List Triple). said) ((triples c.args.prefixes.now).read (left c.args.source.now c.args.at)) _ _ c.in_ok-next-6.ensures in
    rw (p.1, p.2)
    (hands_on _ _ _ c.in_err-next-7.ensures
    (λ r e. held_undotted c.args.prefixes.now _ (sym c.sees.ensures ∙ c.if-sees.false) (sym c.sees-2.ensures ∙ c.if-sees-2.false) (sym c.sees_base.ensures ∙ c.if-sees_base.false) d.0 _ r d.1 e))

pub returns : goal.returns
returns c =
    let d = added_read c.args.triples.now.items (λ (said : List Triple). said) ((triples c.args.prefixes.now).read (left c.args.source.now c.args.at)) _ _ c.in_ok-next-6.ensures in (
      holds d.0,
      held_read c.args.prefixes.now _ (sym c.sees.ensures ∙ c.if-sees.false) (sym c.sees-2.ensures ∙ c.if-sees-2.false) (sym c.sees_base.ensures ∙ c.if-sees_base.false) d.0 _ _ d.1 c.in_ok-next-7.ensures,
      (λ q. refl),
      d.2,
    )
