use Rattle.std.proofs.Common.{List, ℕ, Option, Ok, ap, ◌∙◌, subst}
use Rattle.std.specs.List.{flat_map}
use Rattle.std.proofs.lemmas.Result.{err_from_is_err_and}
use Rattle.fx_terms.specs.declared.triples.Triple.{Triple}
use Rattle.fx_turtle.specs.Gives.{Gives, added, triple_of}
use Rattle.fx_turtle.specs.Grammar.{object}
use Rattle.fx_turtle.specs.Rule.{Outcome, chain}
use Rattle.fx_turtle.specs.Sources.{left}
use Rattle.fx_turtle.specs.declared.kinds.Kind.TheVariants as k
use Rattle.fx_turtle.proofs.Leaves.{hands_on}
use Rattle.fx_turtle.proofs.TripleParts.{opt_property_some, opt_property_none, opt_property_fails}
use Rattle.fx_turtle.proofs.triples.opt_property.Goals as goal

pub returns-in_err-verb : goal.returns-in_err-verb
returns-in_err-verb c =
    let p = err_from_is_err_and c.from_residual.result c.from_residual.ensures.1 in
    rw (p.1, p.2) (hands_on _ _ _ c.in_err-verb.ensures (λ r e. opt_property_fails c.args.prefixes.now _ c.args.subject.now c.args.triples.now.items r e))

pub returns-in_ok-copy-in-Some : goal.returns-in_ok-copy-in-Some
returns-in_ok-copy-in-Some c =
    subst (λ (o : Outcome (List Triple)). Gives (λ next. (c.objects.new.triples.items, left c.args.source.now next)) c.objects.result o)
    (opt_property_some c.args.prefixes.now (left c.args.source.now c.args.at) c.args.subject.now c.args.triples.now.items c.in-Some.predicate (left c.args.source.now c.in_ok-verb.next)
    (c.in_ok-verb.ensures ∙ ap (λ (o : Option (List ℕ)). Ok (o, left c.args.source.now c.in_ok-verb.next)) c.in-Some.is))
    (subst
    (λ (s : List ℕ).
    Gives (λ next. (c.objects.new.triples.items, left c.args.source.now next)) c.objects.result
    (added c.args.triples.now.items (flat_map (triple_of s c.in-Some.predicate)) ((chain k.Comma (object c.args.prefixes.now)).read (left c.args.source.now c.in_ok-verb.next))))
    c.in_ok-copy-in-Some.ensures c.objects.ensures)

pub returns-in-None : goal.returns-in-None
returns-in-None c =
    opt_property_none c.args.prefixes.now (left c.args.source.now c.args.at) c.args.subject.now c.args.triples.now.items (left c.args.source.now c.in_ok-verb.next)
    (c.in_ok-verb.ensures ∙ ap (λ (o : Option (List ℕ)). Ok (o, left c.args.source.now c.in_ok-verb.next)) c.in-None.is)
