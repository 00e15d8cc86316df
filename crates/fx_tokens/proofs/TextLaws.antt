-- How the characters of a token's text are read.
use Rattle.std.proofs.Common.{◌≡◌, ℕ, zero, suc, ◌<◌, ◌≤◌, ◌-◌, Bool, true, false, List, [], ◌∷◌, ◌++◌, drop, refl, sym, ap, ◌∙◌, subst, arith, append_assoc, append-nil, sub-one}
use Rattle.std.specs.Bool.{◌==◌}
use Rattle.std.specs.Prelude.{encode_utf8}
use Rattle.std.specs.Str.{chars, encode_utf8_all, IsUtf8}
use Rattle.std.proofs.lemmas.Bool.{eqb-true}
use Rattle.std.proofs.lemmas.Str.{encodes-chars}
use Rattle.fx_tokens.specs.Scan.{hexes}
use Rattle.fx_tokens.specs.Decoding.{coded, eight, letter, escape, closes, next, unescaped, behind_first, prefix, behind_colon, local}
use Rattle.fx_tokens.specs.declared.decoding.Closing.{Closing}

pub not_equal : (a b : ℕ) → (a ≡ b → ⊥) → (a == b) ≡ false
not_equal a b n = go (a == b) refl
  where
    go : (x : Bool) → (a == b) ≡ x → x ≡ false
    go true e = absurd (n (eqb-true a b e))
    go false e = refl

-- ---- the first character

pub past_first : (text rest : List ℕ) (c : ℕ) → IsUtf8 rest → chars text ≡ c ∷ chars rest → rest ≡ behind_first text
past_first text rest c u e = sym (encodes-chars rest u) ∙ ap (λ s. encode_utf8_all (drop 1 s)) (sym e)

pub past_none : (text : List ℕ) → IsUtf8 text → chars text ≡ [] → text ≡ behind_first text
past_none text u e = sym (encodes-chars text u) ∙ rw e refl

-- ---- escapes

pub escape_none : (text : List ℕ) → text ≡ [] → (0xFFFD, text) ≡ escape text
unfolding escape
escape_none text e = rw e refl

pub escape_short : (text rest : List ℕ) (c : ℕ) → text ≡ c ∷ rest → c ≡ 117 → escape text ≡ coded (hexes 4 0 rest) rest
unfolding escape
escape_short text rest c e h = rw (e, h) refl

pub escape_long : (text rest : List ℕ) (c : ℕ) → text ≡ c ∷ rest → c ≡ 85 → escape text ≡ coded (eight rest) rest
unfolding escape
escape_long text rest c e h = rw (e, h) refl

pub escape_letter : (text rest : List ℕ) (c : ℕ) → text ≡ c ∷ rest → (c ≡ 117 → ⊥) → (c ≡ 85 → ⊥) → escape text ≡ (letter c, rest)
unfolding escape
escape_letter text rest c e h g = rw (e, not_equal c 117 h, not_equal c 85 g) refl

-- ---- one step

module _ (closing : Closing) where
  pub unescaped_none : (n : ℕ) (text : List ℕ) → text ≡ [] → unescaped closing n text ≡ []
  unfolding unescaped
  unescaped_none zero text e = refl
  unescaped_none (suc n) text e = rw e refl

  pub unescaped_last : (n : ℕ) (text : List ℕ) → n ≤ 0 → unescaped closing n text ≡ []
  unfolding unescaped
  unescaped_last zero text e = refl
  unescaped_last (suc n) text e = absurd (omega arith)

  pub unescaped_closed : (n : ℕ) (text : List ℕ) → closes closing text ≡ true → unescaped closing n text ≡ []
  unfolding unescaped
  unescaped_closed zero text e = refl
  unescaped_closed (suc n) [] e = refl
  unescaped_closed (suc n) (c ∷ text) e = rw e refl

  pub unescaped_more : (n : ℕ) (text rest : List ℕ) (c : ℕ) → 0 < n → closes closing text ≡ false → text ≡ c ∷ rest → unescaped closing n text ≡ (next c rest).0 ∷ unescaped closing (n - 1) (next c rest).1
  unfolding unescaped
  unescaped_more zero text rest c h e f = absurd (omega arith)
  unescaped_more (suc n) text rest c h e f = rw f (rw (subst (λ (s : List ℕ). closes closing s ≡ false) f e, sub-one) refl)

-- one more character is written
pub written : (out new more text all : List ℕ) (c : ℕ) → new ≡ out ++ encode_utf8 c → text ≡ c ∷ more → out ++ encode_utf8_all text ≡ all → new ++ encode_utf8_all more ≡ all
written out new more text all c e f h = rw e (append_assoc out (encode_utf8 c) (encode_utf8_all more) ∙ ap (λ s. out ++ encode_utf8_all s) (sym f) ∙ h)

-- nothing is left to write
pub ended : (out text all : List ℕ) → text ≡ [] → out ++ encode_utf8_all text ≡ all → out ≡ all
ended out text all e h = sym (append-nil out) ∙ ap (λ s. out ++ encode_utf8_all s) (sym e) ∙ h

-- ---- names with prefixes

pub prefix_end : (text rest : List ℕ) (c : ℕ) → text ≡ c ∷ rest → c ≡ 58 → (prefix text ≡ []) × (behind_colon text ≡ rest)
unfolding prefix behind_colon
prefix_end text rest c e h = (rw (e, h) refl, rw (e, h) refl)

pub prefix_more : (text rest : List ℕ) (c : ℕ) → text ≡ c ∷ rest → (c ≡ 58 → ⊥) → (prefix text ≡ c ∷ prefix rest) × (behind_colon text ≡ behind_colon rest)
unfolding prefix behind_colon
prefix_more text rest c e h = (rw (e, not_equal c 58 h) refl, rw (e, not_equal c 58 h) refl)

pub prefix_none : (text : List ℕ) → text ≡ [] → (prefix text ≡ []) × (behind_colon text ≡ [])
unfolding prefix behind_colon
prefix_none text e = (rw e refl, rw e refl)

pub local_none : (text : List ℕ) → text ≡ [] → local text ≡ []
unfolding local
local_none text e = rw e refl

pub local_more : (text rest : List ℕ) (c : ℕ) → text ≡ c ∷ rest → (c ≡ 92 → ⊥) → local text ≡ c ∷ local rest
unfolding local
local_more text rest c e h = rw (e, not_equal c 92 h) refl

pub local_skip : (text rest : List ℕ) (c : ℕ) → text ≡ c ∷ rest → c ≡ 92 → local text ≡ local rest
unfolding local
local_skip text rest c e h = rw (e, h) refl
