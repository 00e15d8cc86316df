-- Forms of texts, as a grammar writes them. A text is the list of its characters.
use Rattle.std.specs.Prelude.{◌≡◌, ℕ, Bool, true, List, [], ◌∷◌, ◌++◌, ◌⊎◌, length}
use Rattle.std.specs.List.{list_all}
use Rattle.std.specs.Char.{is_ascii_hexdigit}
use Rattle.fx_terms.specs.Escapes.{hex_value}

-- one character of a class
pub record One (class : ℕ → Bool) (text : List ℕ) : Type 0 where
  pub character : ℕ
  pub alone : text ≡ character ∷ []
  pub holds : class character ≡ true

-- one form, and then another
pub record Then (a b : List ℕ → Type 0) (text : List ℕ) : Type 0 where
  pub front : List ℕ
  pub back : List ℕ
  pub joined : text ≡ front ++ back
  pub first : a front
  pub second : b back

-- any number of a form, none too
pub data Repeat (a : List ℕ → Type 0) : List ℕ → Type 0 where
  none : {text : List ℕ} → text ≡ [] → Repeat a text
  more : {text : List ℕ} (front back : List ℕ) → text ≡ front ++ back → a front → Repeat a back → Repeat a text

-- one form or the other
abbrev pub Either : (a b : List ℕ → Type 0) → List ℕ → Type 0
Either a b text = a text ⊎ b text

-- a form, or nothing
abbrev pub Maybe : (List ℕ → Type 0) → List ℕ → Type 0
Maybe a text = (text ≡ []) ⊎ a text

-- one or more of a form
abbrev pub AtLeastOne : (List ℕ → Type 0) → List ℕ → Type 0
AtLeastOne a = Then a (Repeat a)

-- so many hexadecimal digits, whose number passes a test
pub record Hex (fits : ℕ → Bool) (count : ℕ) (text : List ℕ) : Type 0 where
  pub long : length text ≡ count
  pub digits : list_all is_ascii_hexdigit text ≡ true
  pub passes : fits (hex_value 0 text) ≡ true
