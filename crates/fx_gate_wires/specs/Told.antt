-- What a gate tells: at its own address the union of the graphs of its members, and at any other what its first wire tells.
use Rattle.std.specs.Prelude.{ℕ, Bool, true, false, List, [], ◌∷◌, Option, Some, None, Result, Ok, Err, not, ◌&&◌, bytes_eq, if◌then◌else◌, map}
use Rattle.std.specs.List.{list_all}
use Rattle.std.specs.Str.{is_utf8}
use Rattle.std.specs.Char.{to_ascii_lowercase}
use Rattle.fx_terms.specs.Datatypes.{lang_string}
use Rattle.fx_terms.specs.Iris.{read_iri}
use Rattle.fx_terms.specs.Literals.{LiteralParts, is_tag}
use Rattle.fx_terms.specs.declared.iris.TermError.{TermError}
use Rattle.fx_terms.specs.declared.terms.Term.{Term}
use Rattle.fx_terms.specs.declared.terms.Term.TheVariants.{Iri, Literal}
use Rattle.fx_terms.specs.declared.triples.Triple.{Triple}
use Rattle.fx_outside.specs.Endpoints.{EndpointParts}
use Rattle.fx_algebra.specs.Graphs.{union}
use Rattle.fx_wire.specs.Exchanges.{Seen}

-- ---- whether a list is one of triples that their readers accept

abbrev pub is_read : Result (List ℕ) TermError → Bool
is_read (Ok text) = true
is_read (Err e) = false

abbrev pub is_iri : List ℕ → Bool
is_iri text = is_utf8 text && is_read (read_iri text)

abbrev pub is_kept_tag : List ℕ → Bool
is_kept_tag tag = is_tag tag && bytes_eq (map to_ascii_lowercase tag) tag

-- a tag stands exactly where the datatype is rdf:langString
abbrev pub has_fit_tag : List ℕ → List ℕ → Bool
has_fit_tag datatype [] = not (bytes_eq datatype lang_string)
has_fit_tag datatype (b ∷ tag) = bytes_eq datatype lang_string && is_kept_tag (b ∷ tag)

abbrev pub is_literal : LiteralParts → Bool
is_literal l = is_utf8 l.form && (is_iri l.datatype && has_fit_tag l.datatype l.tag)

abbrev pub is_term : Term → Bool
is_term (Iri text) = is_iri text
is_term (Literal l) = is_literal l

abbrev pub is_triple : Triple → Bool
is_triple t = is_iri t.subject && (is_iri t.predicate && is_term t.object)

-- ---- the union

-- the graph of each endpoint at its address, where each is told
abbrev pub with_told : Option (List Triple) → Option (List (List Triple)) → Option (List (List Triple))
with_told None graphs = None
with_told (Some graph) None = None
with_told (Some graph) (Some graphs) = Some (graph ∷ graphs)

abbrev pub told_all : (List ℕ → Option (List Triple)) → List EndpointParts → Option (List (List Triple))
told_all graph [] = Some []
told_all graph (e ∷ endpoints) = with_told (graph e.iri) (told_all graph endpoints)

-- a list of triples, if it is one of such that their readers accept
abbrev pub if_triples : List Triple → Option (List Triple)
if_triples graph = if list_all is_triple graph then Some graph else None

-- the union of the graphs that are told
abbrev pub union_told : Option (List (List Triple)) → Option (List Triple)
union_told None = None
union_told (Some graphs) = if_triples (union graphs)

-- ---- a gate

-- what the first wire tells of an address
abbrev pub first_graph : List Seen → List ℕ → Option (List Triple)
first_graph [] address = None
first_graph (w ∷ wires) address = w.graph address

-- and how many faults it counted there
abbrev pub first_faults : List Seen → List ℕ → ℕ
first_faults [] address = 0
first_faults (w ∷ wires) address = w.faults address

-- What is known of a gate with this address, these endpoints, this count of its own and these inner wires. It tells no log.
abbrev pub gate_seen : List ℕ → List EndpointParts → ℕ → List Seen → Seen
gate_seen at endpoints count wires = record {
  tells_log = false;
  log = [];
  graph = λ address. if bytes_eq address at then union_told (told_all (first_graph wires) endpoints) else first_graph wires address;
  faults = λ address. if bytes_eq address at then count else first_faults wires address;
}
