use Rattle.std.proofs.Common.{sym, ◌∙◌, subst}
use Rattle.fx_terms.specs.declared.terms.Term.{Term}
use Rattle.fx_terms.specs.declared.terms.Term.TheVariants as term
use Rattle.fx_turtle.specs.Gives.{Gives}
use Rattle.fx_turtle.specs.Rule.{Outcome}
use Rattle.fx_turtle.specs.Sources.{left}
use Rattle.fx_turtle.proofs.Choices.{literal_text, literal_value}
use Rattle.fx_turtle.proofs.literals.literal.Goals as goal

pub returns-then-sees : goal.returns-then-sees
returns-then-sees c =
    subst (λ (o : Outcome Term). Gives (λ x. (term.Literal x.0, left c.args.source.now x.1)) c.texted.result o) (sym (literal_text c.args.prefixes.now (left c.args.source.now c.args.at) (sym c.sees.ensures ∙ c.if-sees.true)))
    c.texted.ensures

pub returns : goal.returns
returns c =
    subst (λ (o : Outcome Term). Gives (λ x. (term.Literal x.0, left c.args.source.now x.1)) c.value.result o) (sym (literal_value c.args.prefixes.now (left c.args.source.now c.args.at) (sym c.sees.ensures ∙ c.if-sees.false)))
    c.value.ensures
