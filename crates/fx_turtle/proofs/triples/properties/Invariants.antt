use Rattle.std.proofs.Common.{◌≡◌, length}
use Rattle.std.specs.List.{flat_map}
use Rattle.fx_turtle.specs.Gives.{added, optional_triples}
use Rattle.fx_turtle.specs.Grammar.{property, properties, triples_of}
use Rattle.fx_turtle.specs.Rule.{many, after, token, opt}
use Rattle.fx_turtle.specs.Sources.{left}
use Rattle.fx_turtle.specs.declared.kinds.Kind.TheVariants as k
use Rattle.fx_turtle.proofs.triples.properties.Given as goal

abbrev pub invariant-more : goal.invariant-more
invariant-more l =
    added l.triples.items (flat_map (optional_triples l.subject)) ((many (after (token k.Semicolon) (opt (property l.prefixes)))).read (left l.source l.next))
    ≡ added l.fn.triples.items (triples_of l.subject) ((properties l.prefixes).read (left l.source l.at))

abbrev pub decreases-more : goal.decreases-more
decreases-more l = length (left l.source l.next)
