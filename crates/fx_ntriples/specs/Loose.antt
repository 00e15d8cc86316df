-- The forms of a line, where the rules are passed over on which character an escape may name, on absolute IRIs, and on rdf:langString.
use Rattle.std.specs.Prelude.{◌≡◌, ℕ, true, List, [], ◌∷◌, ◌++◌, length, Some}
use Rattle.std.specs.List.{list_all}
use Rattle.std.specs.Char.{is_ascii_hexdigit}
use Rattle.fx_terms.specs.Literals.{is_tag}
use Rattle.fx_ntriples.specs.declared.quotes.Quote.{Quote}
use Rattle.fx_ntriples.specs.declared.quotes.Quote.TheVariants.{Iri, Text}
use Rattle.fx_ntriples.specs.Quotes.{is_plain, short}
use Rattle.fx_ntriples.specs.Forms.{AreBlanks, IsComment}

-- an escape behind its backslash
pub data IsEscape : Quote → List ℕ → Type 0 where
  letter : {q : Quote} {b c : ℕ} → short q b ≡ Some c → IsEscape q (b ∷ [])
  four : {q : Quote} {ds : List ℕ} → length ds ≡ 4 → list_all is_ascii_hexdigit ds ≡ true → IsEscape q (117 ∷ ds)
  eight : {q : Quote} {ds : List ℕ} → length ds ≡ 8 → list_all is_ascii_hexdigit ds ≡ true → IsEscape q (85 ∷ ds)

-- what stands between the signs
pub data IsBody : Quote → List ℕ → Type 0 where
  nothing : {q : Quote} → IsBody q []
  itself : {q : Quote} {b : ℕ} {s : List ℕ} → is_plain q b ≡ true → IsBody q s → IsBody q (b ∷ s)
  escape : {q : Quote} {e s : List ℕ} → IsEscape q e → IsBody q s → IsBody q (92 ∷ (e ++ s))

pub data IsIriRef : List ℕ → Type 0 where
  iriref : {s : List ℕ} → IsBody Iri s → IsIriRef (60 ∷ (s ++ 62 ∷ []))

pub data IsString : List ℕ → Type 0 where
  quoted : {s : List ℕ} → IsBody Text s → IsString (34 ∷ (s ++ 34 ∷ []))

-- an IRIREF; a string; a string with @ and a tag; a string with ^^ and an IRIREF
pub data IsObject : List ℕ → Type 0 where
  reference : {s : List ℕ} → IsIriRef s → IsObject s
  alone : {s : List ℕ} → IsString s → IsObject s
  with_tag : {s : List ℕ} (tag : List ℕ) → IsString s → is_tag tag ≡ true → IsObject (s ++ 64 ∷ tag)
  with_datatype : {s : List ℕ} (a b d : List ℕ) → IsString s → AreBlanks a → AreBlanks b → IsIriRef d → IsObject (s ++ (a ++ 94 ∷ 94 ∷ (b ++ d)))

-- a line: nothing, or a triple with a dot, with blanks between and at both ends, and perhaps a comment
pub data IsLine : List ℕ → Type 0 where
  empty : (a c : List ℕ) → AreBlanks a → IsComment c → IsLine (a ++ c)
  says : (a b c d e f s p o : List ℕ) → AreBlanks a → AreBlanks b → AreBlanks c → AreBlanks d → AreBlanks e → IsComment f →
      IsIriRef s → IsIriRef p → IsObject o → IsLine (a ++ (s ++ (b ++ (p ++ (c ++ (o ++ (d ++ 46 ∷ (e ++ f))))))))
