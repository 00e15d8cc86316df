use Rattle.std.proofs.Common.{List, ℕ, Ok, sym, ap, ◌∙◌, subst}
use Rattle.fx_rules.specs.Rule.{and_then}
use Rattle.fx_grammar.specs.Grammar.{rdf_type}
use Rattle.fx_turtle.specs.Gives.{Gives}
use Rattle.fx_turtle.specs.Rule.{Outcome}
use Rattle.fx_turtle.specs.Sources.{left}
use Rattle.fx_turtle.proofs.Choices.{verb_a, verb_name}
use Rattle.fx_turtle.proofs.objects.verb.Goals as goal

pub returns-then-sees : goal.returns-then-sees
returns-then-sees c =
    verb_a c.args.prefixes.now _ (sym c.sees.ensures ∙ c.if-sees.true) ∙ ap (λ (o : Outcome (Unit {0})). and_then o (λ u rest. Ok (rdf_type, rest))) c.in_ok-next.ensures
    ∙ ap (λ (iri : List ℕ). Ok (iri, left c.args.source.now c.in_ok-next.next)) (sym c.in_ok-known.ensures)

pub returns : goal.returns
returns c =
    subst (λ (o : Outcome (List ℕ)). Gives (λ x. (x.0, left c.args.source.now x.1)) c.iri_name.result o) (sym (verb_name c.args.prefixes.now (left c.args.source.now c.args.at) (sym c.sees.ensures ∙ c.if-sees.false)))
    c.iri_name.ensures
