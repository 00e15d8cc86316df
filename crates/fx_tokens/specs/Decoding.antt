-- What stands between the signs of an IRI, of a text and of a name with a prefix (SPARQL 1.1 sections 4.1, 19.2, 19.7 and 19.8): its characters,
-- with each escape as the one that it names. Turtle's are the same (RDF 1.1 Turtle sections 6.4 and 6.5).
use Rattle.std.specs.Prelude.{ℕ, zero, suc, Bool, false, ◌&&◌, ◌==◌, if◌then◌else◌, List, [], ◌∷◌, length, drop, Option, Some, None}
use Rattle.std.specs.Option.{unwrap_or}
use Rattle.std.specs.Str.{chars, encode_utf8_all}
use Rattle.fx_terms.specs.Escapes.{letter_escape}
use Rattle.fx_tokens.specs.Classes.{is_scalar}
use Rattle.fx_tokens.specs.Scan.{hexes, and_number}
use Rattle.fx_tokens.specs.declared.decoding.Closing.{Closing}
use Rattle.fx_tokens.specs.declared.decoding.Closing.TheVariants.{One, Three}

-- ---- escapes

-- the character that a letter behind a backslash names; no token has a letter there that names none
abbrev pub letter : ℕ → ℕ
letter c = unwrap_or (letter_escape c) c

-- no token has an escape that names no character; U+FFFD stands for it
abbrev pub char_of : ℕ → ℕ
char_of number = if is_scalar number then number else 0xFFFD

abbrev pub eight : List ℕ → Option (ℕ × List ℕ)
eight text = and_number (hexes 4 0 text) (hexes 4)

abbrev pub coded : Option (ℕ × List ℕ) → List ℕ → ℕ × List ℕ
coded (Some p) text = (char_of p.0, p.1)
coded None text = (0xFFFD, text)

-- the character that is named behind a backslash, and what follows
unfoldable pub escape : List ℕ → ℕ × List ℕ
escape [] = (0xFFFD, [])
escape (c ∷ text) = if c == 117 then coded (hexes 4 0 text) text else (if c == 85 then coded (eight text) text else (letter c, text))

abbrev pub begins : ℕ → List ℕ → Bool
begins sign [] = false
begins sign (c ∷ text) = c == sign

-- the closing signs stand at the front
abbrev pub closes : Closing → List ℕ → Bool
closes (One sign) text = begins sign text
closes (Three sign) text = begins sign text && begins sign (drop 1 text) && begins sign (drop 2 text)

-- one character, or the one that an escape names; and what follows
abbrev pub next : ℕ → List ℕ → ℕ × List ℕ
next c text = if c == 92 then escape text else (c, text)

-- the characters before the closing signs, with each escape as the one that it names; the number bounds the steps
unfoldable pub unescaped : Closing → ℕ → List ℕ → List ℕ
unescaped closing zero text = []
unescaped closing (suc n) [] = []
unescaped closing (suc n) (c ∷ text) = if closes closing (c ∷ text) then [] else (next c text).0 ∷ unescaped closing n (next c text).1

abbrev pub decoded : Closing → List ℕ → List ℕ
decoded closing text = encode_utf8_all (unescaped closing (length text) (chars text))

-- ---- parts of a token's text

-- behind its first character
abbrev pub behind_first : List ℕ → List ℕ
behind_first text = encode_utf8_all (drop 1 (chars text))

-- what stands between < and >
abbrev pub iri_text : List ℕ → List ℕ
iri_text text = decoded (One 62) (behind_first text)

abbrev pub first : List ℕ → ℕ
first [] = 34
first (c ∷ text) = c

-- three quotes stand at the front: behind two that stand for an empty text, nothing follows
abbrev pub is_long : List ℕ → Bool
is_long (a ∷ b ∷ c ∷ text) = a == b
is_long (a ∷ b ∷ []) = false
is_long (a ∷ []) = false
is_long [] = false

-- what stands between one or three quotes
abbrev pub between_quotes : List ℕ → List ℕ
between_quotes text =
    if is_long text then decoded (Three (first (chars text))) (behind_first (behind_first (behind_first text)))
    else decoded (One (first (chars text))) (behind_first text)

-- what stands before the first colon, and what stands behind it
unfoldable pub prefix : List ℕ → List ℕ
prefix [] = []
prefix (c ∷ text) = if c == 58 then [] else c ∷ prefix text

unfoldable pub behind_colon : List ℕ → List ℕ
behind_colon [] = []
behind_colon (c ∷ text) = if c == 58 then text else behind_colon text

-- without backslashes
unfoldable pub local : List ℕ → List ℕ
local [] = []
local (c ∷ text) = if c == 92 then local text else c ∷ local text
