use Rattle.std.proofs.Common.{Ok, sym, ap, ◌∙◌, subst}
use Rattle.fx_terms.specs.declared.terms.Term.{Term}
use Rattle.fx_terms.specs.declared.terms.Term.TheVariants as term
use Rattle.fx_grammar.specs.Grammar.{annotated}
use Rattle.fx_turtle.specs.Gives.{Gives}
use Rattle.fx_turtle.specs.Rule.{Outcome}
use Rattle.fx_turtle.specs.Sources.{left}
use Rattle.fx_turtle.proofs.Choices.{suffix_tag, suffix_datatype, suffix_none}
use Rattle.fx_turtle.proofs.literals.annotated.Goals as goal

pub returns-then-sees_tag : goal.returns-then-sees_tag
returns-then-sees_tag c =
    subst (λ (o : Outcome Term). Gives (λ x. (term.Literal x.0, left c.args.source.now x.1)) c.tagged.result o)
    (sym (suffix_tag c.args.prefixes.now (left c.args.source.now c.args.at) (λ a rest. Ok (annotated c.args.form.now a, rest)) (sym c.sees_tag.ensures ∙ c.if-sees_tag.true))) c.tagged.ensures

pub returns-then-sees : goal.returns-then-sees
returns-then-sees c =
    subst (λ (o : Outcome Term). Gives (λ x. (term.Literal x.0, left c.args.source.now x.1)) c.typed.result o)
    (sym (suffix_datatype c.args.prefixes.now (left c.args.source.now c.args.at) (λ a rest. Ok (annotated c.args.form.now a, rest)) (sym c.sees_tag.ensures ∙ c.if-sees_tag.false) (sym c.sees.ensures ∙ c.if-sees.true)))
    c.typed.ensures

pub returns : goal.returns
returns c =
    suffix_none c.args.prefixes.now (left c.args.source.now c.args.at) (λ a rest. Ok (annotated c.args.form.now a, rest)) (sym c.sees_tag.ensures ∙ c.if-sees_tag.false) (sym c.sees.ensures ∙ c.if-sees.false)
    ∙ ap (λ l. Ok (term.Literal l, left c.args.source.now c.args.at)) (sym c.in_ok-plain.ensures)
