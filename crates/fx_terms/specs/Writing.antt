-- How a term is written (RDF 1.1 N-Triples, section 7; the canonical form of section 4).
use Rattle.std.specs.Prelude.{ℕ, ◌==◌, if◌then◌else◌, List, [], ◌∷◌, ◌++◌, length}
use Rattle.std.specs.List.{flat_map}
use Rattle.std.specs.Str.{bytes_eq}
use Rattle.fx_terms.specs.declared.terms.Term.{Term}
use Rattle.fx_terms.specs.declared.terms.Term.TheVariants.{Iri, Literal}
use Rattle.fx_terms.specs.Datatypes.{xsd_string}
use Rattle.fx_terms.specs.Literals.{LiteralParts}

-- a byte of a form: " \ LF and CR as \" \\ \n and \r
abbrev pub written_byte : ℕ → List ℕ
written_byte b =
    if b == 34 then 92 ∷ 34 ∷ []
    else (if b == 92 then 92 ∷ 92 ∷ []
    else (if b == 10 then 92 ∷ 110 ∷ []
    else (if b == 13 then 92 ∷ 114 ∷ [] else b ∷ [])))

abbrev pub written_form : List ℕ → List ℕ
written_form form = 34 ∷ (flat_map written_byte form ++ 34 ∷ [])

abbrev pub written_iri : List ℕ → List ℕ
written_iri text = 60 ∷ (text ++ 62 ∷ [])

-- the tag, or the datatype where it isn't xsd:string
abbrev pub written_kind : LiteralParts → List ℕ
written_kind l =
    if length l.tag == 0 then (if bytes_eq l.datatype xsd_string then [] else 94 ∷ 94 ∷ written_iri l.datatype)
    else 64 ∷ l.tag

abbrev pub written_term : Term → List ℕ
written_term (Iri a) = written_iri a
written_term (Literal l) = written_form l.form ++ written_kind l
