-- How a graph is written (RDF 1.1 N-Triples, section 7; the canonical form of section 4, but for the order).
use Rattle.std.specs.Prelude.{ℕ, List, [], ◌∷◌, ◌++◌}
use Rattle.std.specs.List.{flat_map}
use Rattle.fx_terms.specs.declared.triples.Triple.{Triple}
use Rattle.fx_terms.specs.Writing.{written_iri, written_term}

-- a triple without its line end
abbrev pub printed_triple : Triple → List ℕ
printed_triple t = written_iri t.subject ++ (32 ∷ (written_iri t.predicate ++ (32 ∷ (written_term t.object ++ (32 ∷ 46 ∷ [])))))

abbrev pub printed_line : Triple → List ℕ
printed_line t = printed_triple t ++ 10 ∷ []

-- one line for each triple, in the graph's order
unfoldable pub printed_graph : List Triple → List ℕ
printed_graph graph = flat_map printed_line graph
