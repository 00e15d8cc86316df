-- The forms of a document (RDF 1.1 N-Triples, section 7), in this project's profile: IRIs are absolute, there are no blank nodes, a tag
-- is kept in lower case, blanks may stand on both sides of ^^, and no datatype that is written out is rdf:langString.
use Rattle.std.specs.Prelude.{◌≡◌, ℕ, true, List, [], ◌∷◌, ◌++◌, Option, Some, None, Ok}
use Rattle.std.specs.List.{list_all, slice_split}
use Rattle.std.specs.Str.{IsUtf8}
use Rattle.fx_terms.specs.declared.terms.Term.{Term}
use Rattle.fx_terms.specs.declared.terms.Term.TheVariants as term
use Rattle.fx_terms.specs.declared.triples.Triple.{Triple}
use Rattle.fx_terms.specs.Iris.{read_iri}
use Rattle.fx_terms.specs.Literals.{LiteralParts, plain, typed, tagged}
use Rattle.fx_terms.specs.Graphs.{graph_of}
use Rattle.fx_ntriples.specs.declared.quotes.Quote.TheVariants.{Iri, Text}
use Rattle.fx_ntriples.specs.Quotes.{IsBody}
use Rattle.fx_ntriples.specs.Reading.{is_blank, is_line_end}

-- spaces and tabs, or nothing
abbrev pub AreBlanks : List ℕ → Type 0
AreBlanks s = list_all is_blank s ≡ true

-- < and >, and between them what spells an absolute IRI
pub data IsIriRef : List ℕ → List ℕ → Type 0 where
  iriref : {s t : List ℕ} → IsBody Iri s t → read_iri t ≡ Ok t → IsIriRef (60 ∷ (s ++ 62 ∷ [])) t

-- two quotes, and between them what spells a form
pub data IsString : List ℕ → List ℕ → Type 0 where
  quoted : {s t : List ℕ} → IsBody Text s t → IsString (34 ∷ (s ++ 34 ∷ [])) t

-- an IRIREF; a string; a string with @ and a tag; a string with ^^ and an IRIREF
pub data IsObject : List ℕ → Term → Type 0 where
  reference : {s t : List ℕ} → IsIriRef s t → IsObject s (term.Iri t)
  alone : {s form : List ℕ} → IsString s form → IsObject s (term.Literal (plain form))
  with_tag : {s form : List ℕ} (tag : List ℕ) {l : LiteralParts} → IsString s form → tagged form tag ≡ Ok l → IsObject (s ++ 64 ∷ tag) (term.Literal l)
  with_datatype : {s form datatype : List ℕ} (a b d : List ℕ) {l : LiteralParts} → IsString s form → AreBlanks a → AreBlanks b → IsIriRef d datatype → typed form datatype ≡ Ok l →
      IsObject (s ++ (a ++ 94 ∷ 94 ∷ (b ++ d))) (term.Literal l)

-- nothing, or # and anything
abbrev pub IsComment : List ℕ → Type 0
IsComment [] = Unit {0}
IsComment (b ∷ s) = b ≡ 35

-- a line: nothing, or a triple with a dot, with blanks between and at both ends, and perhaps a comment
pub data IsLine : List ℕ → Option Triple → Type 0 where
  empty : (a c : List ℕ) → AreBlanks a → IsComment c → IsLine (a ++ c) None
  says : (a b c d e f s p o : List ℕ) {subject predicate : List ℕ} {object : Term} → AreBlanks a → AreBlanks b → AreBlanks c → AreBlanks d → AreBlanks e → IsComment f →
      IsIriRef s subject → IsIriRef p predicate → IsObject o object →
      IsLine (a ++ (s ++ (b ++ (p ++ (c ++ (o ++ (d ++ 46 ∷ (e ++ f)))))))) (Some (record { subject = subject; predicate = predicate; object = object }))

-- lines, and their triples
pub data AreLines : List (List ℕ) → List Triple → Type 0 where
  none : AreLines [] []
  silent : {l : List ℕ} {ls : List (List ℕ)} {ts : List Triple} → IsLine l None → AreLines ls ts → AreLines (l ∷ ls) ts
  more : {l : List ℕ} {ls : List (List ℕ)} {t : Triple} {ts : List Triple} → IsLine l (Some t) → AreLines ls ts → AreLines (l ∷ ls) (t ∷ ts)

-- UTF-8 whose lines, ended by CR or LF, say the triples of the graph
pub record IsDocument (bytes : List ℕ) (graph : List Triple) : Type 0 where
  pub utf8 : IsUtf8 bytes
  pub triples : List Triple
  pub lines : AreLines (slice_split is_line_end bytes) triples
  pub holds : graph ≡ graph_of triples
