use Rattle.std.proofs.Common.{◌≡◌, length}
use Rattle.std.specs.List.{flat_map}
use Rattle.fx_turtle.specs.Gives.{added, triple_of}
use Rattle.fx_turtle.specs.Grammar.{object}
use Rattle.fx_turtle.specs.Rule.{chain, many, after, token}
use Rattle.fx_turtle.specs.Sources.{left}
use Rattle.fx_turtle.specs.declared.kinds.Kind.TheVariants as k
use Rattle.fx_turtle.proofs.triples.objects.Given as goal

abbrev pub invariant-more : goal.invariant-more
invariant-more l =
    added l.triples.items (flat_map (triple_of l.about.subject l.about.predicate)) ((many (after (token k.Comma) (object l.prefixes))).read (left l.source l.next))
    ≡ added l.fn.triples.items (flat_map (triple_of l.about.subject l.about.predicate)) ((chain k.Comma (object l.prefixes)).read (left l.source l.at))

abbrev pub decreases-more : goal.decreases-more
decreases-more l = length (left l.source l.next)
