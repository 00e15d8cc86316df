use Rattle.std.proofs.Common.{◌≡◌, ◌++◌, List, length}
use Rattle.fx_turtle.specs.Sources.{left}
use Rattle.fx_turtle.specs.Symbols.{Symbol}
use Rattle.fx_turtle.specs.Windows.{rest_of_document}
use Rattle.fx_turtle.proofs.statements.window.Given as goal

abbrev pub invariant-each : goal.invariant-each
invariant-each l =
    (rest : List Symbol) → rest_of_document l.prefixes l.triples.items (left l.source l.at ++ rest) ≡ rest_of_document l.initial.prefixes l.initial.triples.items (left l.source 0 ++ rest)

abbrev pub decreases-each : goal.decreases-each
decreases-each l = length (left l.source l.at)
