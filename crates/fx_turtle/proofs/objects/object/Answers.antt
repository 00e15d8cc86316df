use Rattle.std.proofs.Common.{List, ℕ, Ok, sym, ap, ◌∙◌}
use Rattle.std.proofs.lemmas.Result.{err_from_is_err_and}
use Rattle.fx_rules.specs.Rule.{and_then}
use Rattle.fx_terms.specs.declared.terms.Term.TheVariants as term
use Rattle.fx_turtle.specs.Rule.{Outcome}
use Rattle.fx_turtle.proofs.Choices.{object_name, object_blank, object_paren, object_literal}
use Rattle.fx_turtle.proofs.Leaves.{refused_as, hands_on}
use Rattle.fx_turtle.proofs.objects.object.Goals as goal

pub returns-in_err-iri : goal.returns-in_err-iri
returns-in_err-iri c =
    let p = err_from_is_err_and c.from_residual.result c.from_residual.ensures.1 in
    rw (p.1, p.2)
    (hands_on _ _ _ c.in_err-iri.ensures
    (λ r e. object_name c.args.prefixes.now _ (sym c.sees_name.ensures ∙ c.if-sees_name.true) ∙ ap (λ (o : Outcome (List ℕ)). and_then o (λ x rest. Ok (term.Iri x, rest))) e))

pub returns-then-sees_name : goal.returns-then-sees_name
returns-then-sees_name c = object_name c.args.prefixes.now _ (sym c.sees_name.ensures ∙ c.if-sees_name.true) ∙ ap (λ (o : Outcome (List ℕ)). and_then o (λ x rest. Ok (term.Iri x, rest))) c.in_ok-iri.ensures

pub returns-then-sees_blank : goal.returns-then-sees_blank
returns-then-sees_blank c = refused_as _ _ _ _ c.refuse.ensures (object_blank c.args.prefixes.now _ (sym c.sees_blank.ensures ∙ c.if-sees_blank.true))

pub returns-then-sees : goal.returns-then-sees
returns-then-sees c = refused_as _ _ _ _ c.refuse-then-sees.ensures (object_paren c.args.prefixes.now _ (sym c.sees_blank.ensures ∙ c.if-sees_blank.false) (sym c.sees.ensures ∙ c.if-sees.true))

pub returns-in_err-literal : goal.returns-in_err-literal
returns-in_err-literal c =
    let p = err_from_is_err_and c.from_residual-in_err-literal.result c.from_residual-in_err-literal.ensures.1 in
    rw (p.1, p.2)
    (hands_on _ _ _ c.in_err-literal.ensures
    (λ r e. object_literal c.args.prefixes.now _ (sym c.sees_name.ensures ∙ c.if-sees_name.false) (sym c.sees_blank.ensures ∙ c.if-sees_blank.false) (sym c.sees.ensures ∙ c.if-sees.false) ∙ e))

pub returns : goal.returns
returns c =
    object_literal c.args.prefixes.now _ (sym c.sees_name.ensures ∙ c.if-sees_name.false) (sym c.sees_blank.ensures ∙ c.if-sees_blank.false) (sym c.sees.ensures ∙ c.if-sees.false) ∙ c.in_ok-literal.ensures
