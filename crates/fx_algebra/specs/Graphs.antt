-- The union of graphs.
use Rattle.std.specs.Prelude.{List}
use Rattle.std.specs.List.{flat_map}
use Rattle.fx_terms.specs.Graphs.{graph_of}
use Rattle.fx_terms.specs.declared.triples.Triple.{Triple}

-- the union of graphs: each triple that one of them holds, once
abbrev pub union : List (List Triple) → List Triple
union graphs = graph_of (flat_map (λ graph. graph) graphs)
