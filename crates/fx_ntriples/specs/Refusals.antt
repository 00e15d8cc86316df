-- What stands at the place of a refusal.
use Rattle.std.specs.Prelude.{◌≡◌, ◌≢◌, true, false, ℕ, ◌+◌, List, [], ◌∷◌, ◌++◌, length, take, Ok}
use Rattle.std.specs.List.{list_all, slice_split}
use Rattle.std.specs.Char.{is_ascii_hexdigit}
use Rattle.fx_terms.specs.declared.triples.Triple.{Triple}
use Rattle.fx_terms.specs.Iris.{read_iri}
use Rattle.fx_terms.specs.Datatypes.{lang_string as rdf_lang_string}
use Rattle.fx_ntriples.specs.declared.quotes.Quote.{Quote}
use Rattle.fx_ntriples.specs.declared.quotes.Quote.TheVariants.{Iri, Text}
use Rattle.fx_ntriples.specs.Quotes.{IsBody, may_name, hex_value}
use Rattle.fx_ntriples.specs.Places.{line_ends, char_count}
use Rattle.fx_ntriples.specs.Reading.{is_line_end}
use Rattle.fx_ntriples.specs.Forms.{AreBlanks, IsIriRef, IsString, AreLines}
use Rattle.fx_ntriples.specs.Loose.{IsLine as IsLooseLine}

-- the parts of a line that IRIs may be
pub data Part : Type 0 where
  subject : Part
  predicate : Part
  object : Part
  datatype : Part

-- what may stand in a line before a part
pub data Before : Part → List ℕ → Type 0 where
  first : {a : List ℕ} → AreBlanks a → Before subject a
  second : (p s a : List ℕ) {t : List ℕ} → Before subject p → IsIriRef s t → AreBlanks a → Before predicate (p ++ (s ++ a))
  third : (p s a : List ℕ) {t : List ℕ} → Before predicate p → IsIriRef s t → AreBlanks a → Before object (p ++ (s ++ a))
  fourth : (p s a b : List ℕ) {t : List ℕ} → Before object p → IsString s t → AreBlanks a → AreBlanks b → Before datatype (p ++ (s ++ (a ++ 94 ∷ 94 ∷ b)))

-- a text begins with _ in the place of a subject or an object
pub data BlankStands : List ℕ → List ℕ → Type 0 where
  as_subject : {p : List ℕ} (r : List ℕ) → Before subject p → BlankStands p (95 ∷ r)
  as_object : {p : List ℕ} (r : List ℕ) → Before object p → BlankStands p (95 ∷ r)

-- a text begins with < and > and what spells an IRI between them, which isn't absolute
pub data RelativeStands : List ℕ → List ℕ → Type 0 where
  as_part : {x : Part} {p s t : List ℕ} (r : List ℕ) → Before x p → IsBody Iri s t → read_iri t ≢ Ok t → RelativeStands p (60 ∷ (s ++ 62 ∷ r))

-- a whole escape behind its backslash, which names a character that isn't allowed there
pub data IsMisnamed : Quote → List ℕ → Type 0 where
  four : {q : Quote} {ds : List ℕ} → length ds ≡ 4 → list_all is_ascii_hexdigit ds ≡ true → may_name q (hex_value 0 ds) ≡ false → IsMisnamed q (117 ∷ ds)
  eight : {q : Quote} {ds : List ℕ} → length ds ≡ 8 → list_all is_ascii_hexdigit ds ≡ true → may_name q (hex_value 0 ds) ≡ false → IsMisnamed q (85 ∷ ds)

-- a text begins with such an escape, in an IRIREF or a string
pub data MisnamedStands : List ℕ → List ℕ → Type 0 where
  in_iri : {x : Part} {p s t e : List ℕ} (r : List ℕ) → Before x p → IsBody Iri s t → IsMisnamed Iri e → MisnamedStands (p ++ 60 ∷ s) (92 ∷ (e ++ r))
  in_string : {p s t e : List ℕ} (r : List ℕ) → Before object p → IsBody Text s t → IsMisnamed Text e → MisnamedStands (p ++ 34 ∷ s) (92 ∷ (e ++ r))

-- a text begins with a datatype that is rdf:langString
pub data LangStringStands : List ℕ → List ℕ → Type 0 where
  as_datatype : {p s : List ℕ} (r : List ℕ) → Before datatype p → IsIriRef s rdf_lang_string → LangStringStands p (s ++ r)

-- no line of the loose forms begins with the bytes and the next one; or none is the bytes, where they end
abbrev pub NoneGoesOn : List ℕ → List ℕ → Type 0
NoneGoesOn front [] = IsLooseLine front → ⊥
NoneGoesOn front (b ∷ s) = (w : List ℕ) → IsLooseLine (front ++ b ∷ w) → ⊥

-- what is refused once it is complete
pub data Complete : List ℕ → List ℕ → Type 0 where
  relative : {p r : List ℕ} → RelativeStands p r → Complete p r
  misnaming : {p r : List ℕ} → MisnamedStands p r → Complete p r
  tagless : {p r : List ℕ} → LangStringStands p r → Complete p r

-- such a line begins with the bytes, and none goes on as the text does; nothing that is refused stands complete before that, and no
-- blank node there
pub record OtherwiseStands (front rest : List ℕ) : Type 0 where
  pub begins : (w : List ℕ) × IsLooseLine (front ++ w)
  pub stops : NoneGoesOn front rest
  pub before : (p r : List ℕ) → p ++ r ≡ front → Complete p r → ⊥
  pub named : BlankStands front rest → ⊥

-- what stands at the place of Bad
pub data BadStands : List ℕ → List ℕ → Type 0 where
  misnamed : {p r : List ℕ} → MisnamedStands p r → BadStands p r
  lang_string : {p r : List ℕ} → LangStringStands p r → BadStands p r
  otherwise : {p r : List ℕ} → OtherwiseStands p r → BadStands p r

-- the bytes that lines take, each with its end
abbrev pub span : List (List ℕ) → ℕ
span [] = 0
span (l ∷ ls) = length l + 1 + span ls

-- behind lines that can be read, a line has this at a place: the line's number, and the character's in it, both from 1
pub record StandsAt (What : List ℕ → List ℕ → Type 0) (bytes : List ℕ) (line column : ℕ) : Type 0 where
  pub before : List (List ℕ)
  pub triples : List Triple
  pub read : AreLines before triples
  pub front : List ℕ
  pub rest : List ℕ
  pub after : List (List ℕ)
  pub lines : slice_split is_line_end bytes ≡ before ++ (front ++ rest) ∷ after
  pub stands : What front rest
  pub line_is : line ≡ line_ends (take (span before) bytes) + 1
  pub column_is : column ≡ char_count front + 1
