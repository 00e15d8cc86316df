-- A basic graph pattern, one pattern after another.
use Rattle.std.specs.Prelude.{List, [], ◌∷◌}
use Rattle.std.specs.List.{filter_map, flat_map}
use Rattle.fx_terms.specs.declared.triples.Triple.{Triple}
use Rattle.fx_terms.specs.declared.patterns.Pattern.{Pattern}
use Rattle.fx_algebra.specs.Solutions.{Bindings}
use Rattle.fx_algebra.specs.BasicGraphPatterns.{parts_of, forced}

-- each row with each triple that fits it
abbrev pub extended : List Triple → Pattern → List Bindings → List Bindings
extended graph p rows = flat_map (λ row. filter_map (λ t. forced row (parts_of p t)) graph) rows

-- the rows that patterns give, the first of them first, from rows
abbrev pub rows_from : List Triple → List Bindings → List Pattern → List Bindings
rows_from graph rows [] = rows
rows_from graph rows (p ∷ ps) = rows_from graph (extended graph p rows) ps
