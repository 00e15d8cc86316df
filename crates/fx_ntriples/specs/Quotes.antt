-- What stands between the signs of an IRIREF or of a string (RDF 1.1 N-Triples, section 7, IRIREF, STRING_LITERAL_QUOTE, UCHAR and
-- ECHAR), by bytes: each character that the rules name is ASCII.
use Rattle.std.specs.Prelude.{◌≡◌, ℕ, zero, suc, ◌+◌, Bool, true, not, ◌&&◌, ◌||◌, ◌==◌, if◌then◌else◌, List, [], ◌∷◌, ◌++◌, length, take, drop, Option, Some, None, Result, Ok, Err}
use Rattle.std.specs.List.{list_all, prefix_len}
use Rattle.std.specs.Char.{encode_utf8, is_ascii_hexdigit}
use lib.Utf8.{scalar}
use Rattle.fx_rules.specs.Rule.{and_then}
pub use Rattle.fx_terms.specs.Escapes.{hex_value}
use Rattle.fx_terms.specs.Escapes.{letter_escape}
use Rattle.fx_terms.specs.Iris.{is_forbidden}
use Rattle.fx_ntriples.specs.declared.faults.Fault.{Fault}
use Rattle.fx_ntriples.specs.declared.faults.Fault.TheVariants.{Bad}
use Rattle.fx_ntriples.specs.declared.quotes.Quote.{Quote}
use Rattle.fx_ntriples.specs.declared.quotes.Quote.TheVariants.{Iri, Text}

-- the sign that ends it
abbrev pub closing : Quote → ℕ
closing Iri = 62
closing Text = 34

-- what stands for itself: in an IRI no < > " { } | ^ ` \ and nothing from U+0000 to U+0020, in a string no " \ LF CR
abbrev pub is_plain : Quote → ℕ → Bool
is_plain Iri b = not (is_forbidden b)
is_plain Text b = not (b == 34 || b == 92 || b == 10 || b == 13)

-- ECHAR: the character that a letter behind a backslash names in a string
abbrev pub short : Quote → ℕ → Option ℕ
short Iri b = None
short Text b = letter_escape b

-- what UCHAR may name: a character that is no surrogate and at most U+10FFFF, in an IRI one that stands for itself there
abbrev pub may_name : Quote → ℕ → Bool
may_name Iri c = scalar c && not (is_forbidden c)
may_name Text c = scalar c

-- an escape behind its backslash, and the bytes of the character that it names
pub data IsEscape : Quote → List ℕ → List ℕ → Type 0 where
  letter : {q : Quote} {b c : ℕ} → short q b ≡ Some c → IsEscape q (b ∷ []) (c ∷ [])
  four : {q : Quote} {ds : List ℕ} → length ds ≡ 4 → list_all is_ascii_hexdigit ds ≡ true → may_name q (hex_value 0 ds) ≡ true → IsEscape q (117 ∷ ds) (encode_utf8 (hex_value 0 ds))
  eight : {q : Quote} {ds : List ℕ} → length ds ≡ 8 → list_all is_ascii_hexdigit ds ≡ true → may_name q (hex_value 0 ds) ≡ true → IsEscape q (85 ∷ ds) (encode_utf8 (hex_value 0 ds))

-- what stands between the signs, and the text that it spells
pub data IsBody : Quote → List ℕ → List ℕ → Type 0 where
  nothing : {q : Quote} → IsBody q [] []
  itself : {q : Quote} {b : ℕ} {s t : List ℕ} → is_plain q b ≡ true → IsBody q s t → IsBody q (b ∷ s) (b ∷ t)
  escape : {q : Quote} {e c s t : List ℕ} → IsEscape q e c → IsBody q s t → IsBody q (92 ∷ (e ++ s)) (c ++ t)

-- ---- the same, as it is read from the front of a text

-- what is read from the front of a text, and what follows it; or a fault, and the text from it on
abbrev pub Got : Type 0 → Type 0
Got A = Result (A × List ℕ) (Fault × List ℕ)

abbrev pub got : {A : Type 0} → A → List ℕ → Got A
got a s = Ok (a, s)

abbrev pub stop : {A : Type 0} → Fault → List ℕ → Got A
stop k s = Err (k, s)

-- what is read, with a text in front
abbrev pub in_front : List ℕ → Got (List ℕ) → Got (List ℕ)
in_front c g = and_then g (λ t s. got (c ++ t) s)

-- how a text goes on behind a backslash: an escape of so many bytes; a whole one whose character isn't allowed; or none, which
-- shows where the text given begins
pub data Escape : Type 0 where
  names : List ℕ → ℕ → Escape
  misnames : Escape
  breaks : List ℕ → Escape

abbrev pub naming : Quote → ℕ → ℕ → Escape
naming q c n = if may_name q c then names (encode_utf8 c) n else misnames

abbrev pub numbered : Quote → ℕ → List ℕ → Escape
numbered q n s =
    if prefix_len is_ascii_hexdigit (take n s) == n then naming q (hex_value 0 (take n s)) (n + 1)
    else breaks (drop (prefix_len is_ascii_hexdigit (take n s)) s)

abbrev pub lettered : Option ℕ → List ℕ → Escape
lettered (Some c) s = names (c ∷ []) 1
lettered None s = breaks s

unfoldable pub escape_at : Quote → List ℕ → Escape
escape_at q [] = breaks []
escape_at q (b ∷ s) = if b == 117 then numbered q 4 s else (if b == 85 then numbered q 8 s else lettered (short q b) (b ∷ s))

abbrev pub escaped : Escape → List ℕ → (ℕ → Got (List ℕ)) → Got (List ℕ)
escaped (names c n) here more = in_front c (more n)
escaped misnames here more = stop Bad here
escaped (breaks s) here more = stop Bad s

-- the text that is spelled up to the closing sign, behind so many bytes
unfoldable pub body : Quote → ℕ → List ℕ → Got (List ℕ)
body q n [] = stop Bad []
body q zero (b ∷ s) =
    if is_plain q b then in_front (b ∷ []) (body q zero s)
    else (if b == closing q then got [] s
    else (if b == 92 then escaped (escape_at q s) (b ∷ s) (λ n. body q n s)
    else stop Bad (b ∷ s)))
body q (suc n) (b ∷ s) = body q n s
