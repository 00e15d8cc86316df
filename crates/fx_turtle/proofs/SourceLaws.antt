-- Places among the tokens of a text.
use Rattle.std.proofs.Common.{◌≡◌, ◌∙◌, ℕ, ◌<◌, ◌≤◌, ◌+◌, ◌-◌, ◌&&◌, ◌==◌, List, [], ◌∷◌, length, map, drop, get_or, sym, ap, refl}
use Rattle.std.specs.Prelude.{slice_range}
use Rattle.std.specs.Char.{to_ascii_uppercase}
use Rattle.std.specs.Str.{bytes_eq}
use Rattle.std.proofs.lemmas.List.{drop_more, drop_all, length-map, length-drop}
use Rattle.fx_tokens.specs.declared.Token as read
use Rattle.fx_turtle.specs.Sources.{Tokened, left}
use Rattle.fx_turtle.specs.Symbols.{says, symbols, symbol_of}

pub stands_some : (bytes text : List ℕ) (tokens : List read.Token) (source : Tokened) (at : ℕ) (d : read.Token) → (bytes, tokens) ≡ source → at < length tokens
    → text ≡ slice_range bytes (get_or tokens at d).start (get_or tokens at d).end → left source at ≡ symbol_of (get_or tokens at d).kind text ∷ left source (at + 1)
unfolding left
stands_some bytes text tokens source at d e h is =
    ap (λ (s : Tokened). symbols s.0 (drop at s.1)) (sym e) ∙ ap (symbols bytes) (drop_more tokens at d h)
    ∙ ap (λ (t : List ℕ). symbol_of (get_or tokens at d).kind t ∷ symbols bytes (drop (at + 1) tokens)) (sym is)
    ∙ ap (λ (s : Tokened). symbol_of (get_or tokens at d).kind text ∷ symbols s.0 (drop (at + 1) s.1)) e

pub stands_none : (bytes : List ℕ) (tokens : List read.Token) (source : Tokened) (at : ℕ) → (bytes, tokens) ≡ source → length tokens ≤ at → left source at ≡ []
unfolding left
stands_none bytes tokens source at e h = ap (λ (s : Tokened). symbols s.0 (drop at s.1)) (sym e) ∙ ap (symbols bytes) (drop_all at tokens h)

pub left_count : (bytes : List ℕ) (tokens : List read.Token) (source : Tokened) (at : ℕ) → (bytes, tokens) ≡ source → length tokens - at ≡ length (left source at)
unfolding left
left_count bytes tokens source at e =
    sym (length-drop at tokens) ∙ sym (length-map (drop at tokens) (says bytes)) ∙ ap (λ (s : Tokened). length (symbols s.0 (drop at s.1))) e

-- a text that is compared in upper case
pub upper_step : (text word : List ℕ) (i d e : ℕ) → i < length text → i < length word
    → bytes_eq (map to_ascii_uppercase (drop i text)) (drop i word) ≡ ((to_ascii_uppercase (get_or text i d) == get_or word i e) && bytes_eq (map to_ascii_uppercase (drop (i + 1) text)) (drop (i + 1) word))
upper_step text word i d e h g = rw (drop_more text i d h, drop_more word i e g) refl
