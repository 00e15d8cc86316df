-- What texts and answers say.
use Rattle.std.specs.Prelude.{ℕ, List, Option, length, option_map}
use Rattle.std.specs.Str.{chars, encode_utf8_all}
use Rattle.std.specs.Borrow.{Bor}
use Rattle.fx_tokens.specs.declared.TokenKind.{TokenKind}
use Rattle.fx_tokens.specs.declared.TokenError.{TokenError}
use Rattle.fx_tokens.specs.declared.TokenError.TheVariants.{Bad, Memory}

-- how many bytes characters are, in UTF-8
abbrev pub width : List ℕ → ℕ
width text = length (encode_utf8_all text)

-- the characters of the text that is left
abbrev pub chars_left : Option (Bor (List ℕ)) → Option (List ℕ)
chars_left rest = option_map (λ text. chars text.now) rest

-- a number, and the characters of the text behind it
abbrev pub left_number : Option (ℕ × Bor (List ℕ)) → Option (ℕ × List ℕ)
left_number pair = option_map (λ p. (p.0, chars p.1.now)) pair

-- a kind, and the characters of the text behind its token
abbrev pub left_kind : Option (TokenKind × Bor (List ℕ)) → Option (TokenKind × List ℕ)
left_kind pair = option_map (λ p. (p.0, chars p.1.now)) pair

-- unless memory ran out
abbrev pub UnlessMemory : TokenError → Type 0 → Type 0
UnlessMemory Memory P = Unit {0}
UnlessMemory (Bad place fault) P = P
