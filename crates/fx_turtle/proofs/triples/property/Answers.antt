use Rattle.std.proofs.Common.{List, ℕ, subst}
use Rattle.std.specs.List.{flat_map}
use Rattle.std.proofs.lemmas.Result.{err_from_is_err_and}
use Rattle.fx_terms.specs.declared.triples.Triple.{Triple}
use Rattle.fx_turtle.specs.Gives.{Gives, added, triple_of}
use Rattle.fx_turtle.specs.Grammar.{object}
use Rattle.fx_turtle.specs.Rule.{Outcome, chain}
use Rattle.fx_turtle.specs.Sources.{left}
use Rattle.fx_turtle.specs.declared.kinds.Kind.TheVariants as k
use Rattle.fx_turtle.proofs.Leaves.{hands_on}
use Rattle.fx_turtle.proofs.TripleParts.{property_same, property_fails}
use Rattle.fx_turtle.proofs.triples.property.Goals as goal

pub returns-in_err-predicate : goal.returns-in_err-predicate
returns-in_err-predicate c =
    let p = err_from_is_err_and c.from_residual.result c.from_residual.ensures.1 in
    rw (p.1, p.2) (hands_on _ _ _ c.in_err-predicate.ensures (λ r e. property_fails c.args.prefixes.now _ c.args.subject.now c.args.triples.now.items r e))

pub returns : goal.returns
returns c =
    subst (λ (o : Outcome (List Triple)). Gives (λ next. (c.objects.new.triples.items, left c.args.source.now next)) c.objects.result o)
    (property_same c.args.prefixes.now (left c.args.source.now c.args.at) c.args.subject.now c.args.triples.now.items c.in_ok-predicate.predicate (left c.args.source.now c.in_ok-predicate.next) c.in_ok-predicate.ensures)
    (subst
    (λ (s : List ℕ).
    Gives (λ next. (c.objects.new.triples.items, left c.args.source.now next)) c.objects.result
    (added c.args.triples.now.items (flat_map (triple_of s c.in_ok-predicate.predicate)) ((chain k.Comma (object c.args.prefixes.now)).read (left c.args.source.now c.in_ok-predicate.next))))
    c.in_ok-copy.ensures c.objects.ensures)
