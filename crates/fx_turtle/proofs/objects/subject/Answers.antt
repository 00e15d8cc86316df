use Rattle.std.proofs.Common.{List, ℕ, sym, ◌∙◌, subst}
use Rattle.fx_turtle.specs.Gives.{Gives}
use Rattle.fx_turtle.specs.Rule.{Outcome}
use Rattle.fx_turtle.specs.Sources.{left}
use Rattle.fx_turtle.proofs.Choices.{subject_blank, subject_paren, subject_name}
use Rattle.fx_turtle.proofs.Leaves.{refused_as}
use Rattle.fx_turtle.proofs.objects.subject.Goals as goal

pub returns-then-sees_blank : goal.returns-then-sees_blank
returns-then-sees_blank c = refused_as _ _ _ _ c.refuse.ensures (subject_blank c.args.prefixes.now _ (sym c.sees_blank.ensures ∙ c.if-sees_blank.true))

pub returns-then-sees : goal.returns-then-sees
returns-then-sees c = refused_as _ _ _ _ c.refuse-then-sees.ensures (subject_paren c.args.prefixes.now _ (sym c.sees_blank.ensures ∙ c.if-sees_blank.false) (sym c.sees.ensures ∙ c.if-sees.true))

pub returns : goal.returns
returns c =
    subst (λ (o : Outcome (List ℕ)). Gives (λ x. (x.0, left c.args.source.now x.1)) c.iri_name.result o)
    (sym (subject_name c.args.prefixes.now (left c.args.source.now c.args.at) (sym c.sees_blank.ensures ∙ c.if-sees_blank.false) (sym c.sees.ensures ∙ c.if-sees.false))) c.iri_name.ensures
