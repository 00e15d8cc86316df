-- Lines on standard error.
use Rattle.std.specs.Prelude.{◌≡◌, ℕ, List, [], ◌∷◌, ◌++◌, codes}
use Rattle.std.specs.Borrow.{Bor}
use Rattle.std.specs.List.{flat_map}
use Rattle.std.specs.Fmt.{decimal}
use Rattle.fx_outside.specs.Faults.{HasRisen}
use Rattle.fx_outside.specs.Streams.{AppendsFront}
use Rattle.fx_ntriples.specs.declared.faults.NtError.{NtError}
use Rattle.fx_ntriples.specs.declared.faults.NtError.TheVariants as graph
use Rattle.fx_turtle.specs.Documents.{kind_name as turtle_kind_name}
use Rattle.fx_turtle.specs.declared.refusals.TurtleKind.{TurtleKind}
use Rattle.fx_local.specs.declared.refusals.GraphFault.{GraphFault}
use Rattle.fx_local.specs.declared.refusals.GraphFault.TheVariants as fault
use Rattle.fx_sources.specs.declared.errors.RegistryError.{RegistryError}
use Rattle.fx_sources.specs.declared.errors.RegistryError.TheVariants as registry
use Rattle.fx_grammar.specs.Refused.{kind_name}
use Rattle.fx_grammar.specs.declared.refusals.SyntaxKind.{SyntaxKind}

abbrev pub line : List ℕ → List ℕ
line text = text ++ 10 ∷ []

abbrev pub usage_line : List ℕ
usage_line = line (codes "usage: fedx local GRAPH QUERY | query REGISTRY QUERY [--workers N] [--block B] | explain REGISTRY QUERY | member GRAPH ADDRESS [COUNT] | generate N | serve REGISTRY ADDRESS [COUNT] [--workers N] [--block B]")

abbrev pub cannot_read : List ℕ → List ℕ
cannot_read name = codes "cannot read " ++ (name ++ 10 ∷ [])

abbrev pub graph_too_long : List ℕ → List ℕ
graph_too_long name = codes "file " ++ (name ++ line (codes " has more than 134217728 bytes"))

abbrev pub query_too_long : List ℕ → List ℕ
query_too_long name = codes "file " ++ (name ++ line (codes " has more than 1048576 bytes"))

abbrev pub no_memory : List ℕ
no_memory = line (codes "no memory")

-- the line was written, or a front of it where a write failed
pub record Gains (old new : List ℕ) (before after : ℕ) (text : List ℕ) : Type 0 where
  pub front : AppendsFront old new text
  pub whole : (HasRisen before after → ⊥) → new ≡ old ++ text

-- ---- lines of queries

-- why a query is refused, and the byte place
abbrev pub query_refused : SyntaxKind → ℕ → List ℕ
query_refused kind at = codes "query refused: " ++ (kind_name kind ++ (codes " at " ++ (decimal at ++ 10 ∷ [])))

abbrev pub unknown_service : List ℕ → List ℕ
unknown_service iri = codes "unknown service " ++ (iri ++ 10 ∷ [])

-- a SERVICE SILENT that names no endpoint
abbrev pub silent_unknown : List ℕ → List ℕ
silent_unknown iri = codes "silent " ++ (iri ++ line (codes ": unknown endpoint"))

-- ---- lines of `local`

-- a line and a column
abbrev pub place : ℕ → ℕ → List ℕ
place row column = decimal row ++ (58 ∷ (decimal column ++ 10 ∷ []))

abbrev pub triples_refused : NtError → List ℕ
triples_refused (graph.BadUtf8 at) = codes "graph refused: BadUtf8 at byte " ++ (decimal at ++ 10 ∷ [])
triples_refused (graph.Bad row column) = codes "graph refused: Bad at " ++ place row column
triples_refused (graph.Blank row column) = codes "graph refused: Blank at " ++ place row column
triples_refused (graph.Relative row column) = codes "graph refused: Relative at " ++ place row column
triples_refused graph.Memory = no_memory

-- why a text is no document of Turtle, and the byte place
abbrev pub turtle_refused : TurtleKind → ℕ → List ℕ
turtle_refused kind at = codes "graph refused: " ++ (turtle_kind_name kind ++ (codes " at byte " ++ (decimal at ++ 10 ∷ [])))

abbrev pub graph_refused : GraphFault → List ℕ
graph_refused (fault.Triples e) = triples_refused e
graph_refused (fault.Turtle kind at) = turtle_refused kind at

-- ---- lines of registries

-- a refusal of the registry, and the line that it stands at
abbrev pub refused_at : List ℕ → ℕ → List ℕ
refused_at kind number = codes "registry refused: " ++ (kind ++ (codes " at line " ++ (decimal number ++ 10 ∷ [])))

abbrev pub registry_refused : RegistryError → List ℕ
registry_refused (registry.Bad number) = refused_at (codes "Bad") number
registry_refused (registry.TooMany number) = refused_at (codes "TooMany") number
registry_refused (registry.RepeatedName number) = refused_at (codes "RepeatedName") number
registry_refused (registry.RepeatedUrl number) = refused_at (codes "RepeatedUrl") number
registry_refused registry.Memory = no_memory

abbrev pub registry_too_long : List ℕ → List ℕ
registry_too_long name = query_too_long name

-- ---- lines of `member`

abbrev pub cannot_serve : List ℕ
cannot_serve = line (codes "cannot serve")

-- pieces, one behind the other
abbrev pub all_pieces : List (Bor (List ℕ)) → List ℕ
all_pieces pieces = flat_map (λ (piece : Bor (List ℕ)). piece.now) pieces
