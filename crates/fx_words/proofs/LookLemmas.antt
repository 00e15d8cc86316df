-- What a word is to the parser: the end of options, an option that a command without options refuses, or a plain word.
use Rattle.std.proofs.Common.{◌≡◌, ◌∙◌, ◌<◌, ◌==◌, ℕ, Bool, true, false, List, [], ◌∷◌, Option, Some, None, if◌then◌else◌, refl, sym, ap, subst, arith, length, drop, slice_get, chars, IsUtf8, bytes_eq, encode_utf8, encode_utf8_all}
use Rattle.std.specs.Option.{option_map_or}
use Rattle.std.specs.Str.{all_scalars}
use Rattle.std.proofs.lemmas.Bool.Decides.{nat_tests}
use Rattle.std.proofs.lemmas.Str.{IsUtf8-drop, IsCharBoundary-after_ascii, chars-encodes}
use Rattle.clap.specs.Lexer.{long_of, name_and_value, short_of}
use Rattle.clap.specs.Walk.{Held, Row, Text, arg_by_long, arg_by_short}
use Rattle.clap.specs.Simple.{Shape}
use Rattle.clap.specs.Kinds.{Kinds}
use Rattle.clap.specs.Faults.{bundle_fault, bundle_step_fault, flag_word_fault, flags_fault, long_fault, other_fault, short_fault}
use Rattle.clap.specs.declared.error.kind.ErrorKind.TheVariants.{UnknownArgument}
use Rattle.fx_words.specs.Commands.{is_option}

-- there is a fault
abbrev pub Bad : Kinds → Type 0
Bad [] = ⊥
Bad (k ∷ ks) = Unit {0}

-- what is held: rows, and the argument that values are read for
abbrev pub held : List Row → Option (Text × List Text) → Held
held rows pending = record { rows = rows; pending = pending; skip = 0 }

-- the word is refused, whatever is held
abbrev pub IsStrange : Shape → Text → Type 0
IsStrange s v = (rows : List Row) (pending : Option (Text × List Text)) → Bad (other_fault s None v (held rows pending))

-- ---- the first character of a text that isn't empty

first_of : (x : ℕ) (xs cs : List ℕ) → all_scalars cs ≡ true → encode_utf8_all cs ≡ x ∷ xs → (y : ℕ) × (slice_get (chars (x ∷ xs)) 0 ≡ Some y)
first_of x xs [] ok e = absurd (omega (arith, ap length e))
first_of x xs (y ∷ ys) ok e = (y, ap (λ bs. slice_get (chars bs) 0) (sym e) ∙ ap (λ cs. slice_get cs 0) (chars-encodes (y ∷ ys) ok))

pub first_char : (x : ℕ) (xs : List ℕ) → IsUtf8 (x ∷ xs) → (y : ℕ) × (slice_get (chars (x ∷ xs)) 0 ≡ Some y)
first_char x xs u = first_of x xs u.0 u.1.0 u.1.1

pub behind_dash : (b x : ℕ) (xs : List ℕ) → (b == 45) ≡ true → IsUtf8 (b ∷ x ∷ xs) → IsUtf8 (x ∷ xs)
behind_dash b x xs e u =
    let same : b ≡ 45 = grind (arith, nat_tests) in
    let small : b < 128 = omega (arith, same) in
    let some : 0 < length (b ∷ x ∷ xs) = omega arith in
    IsUtf8-drop (b ∷ x ∷ xs) 1 u (IsCharBoundary-after_ascii (b ∷ x ∷ xs) 0 u some small)

module _ (s : Shape) (v : Text) where
  -- a long option that the command lacks
  pub strange_long : (name : Text) (value : Option Text) → bytes_eq v (45 ∷ 45 ∷ []) ≡ false → long_of v ≡ Some (name, value) → arg_by_long s.rules name ≡ None → IsStrange s v
  strange_long name value d l none rows pending =
      let h = held rows pending in
      let same : other_fault s None v h ≡ UnknownArgument ∷ [] =
      ap (λ t. if t then [] else flag_word_fault s.rules s.args_override_self (long_of v) v h) d
      ∙ ap (λ o. flag_word_fault s.rules s.args_override_self o v h) l
      ∙ ap (λ o. long_fault s.rules s.args_override_self o value h) none in
      subst Bad (sym same) tt

  -- a short option that the command lacks
  pub strange_short : (y : ℕ) (f : ℕ) (flags : Text) → bytes_eq v (45 ∷ 45 ∷ []) ≡ false → long_of v ≡ None → short_of v ≡ Some (f ∷ flags)
      → slice_get (chars (f ∷ flags)) 0 ≡ Some y → arg_by_short s.rules y ≡ None → IsStrange s v
  unfolding flags_fault
  strange_short y f flags d l sh first none rows pending =
      let h = held rows pending in
      let again = s.args_override_self in
      let rest = drop (length (encode_utf8 y)) (f ∷ flags) in
      let same : other_fault s None v h ≡ UnknownArgument ∷ [] =
      ap (λ t. if t then [] else flag_word_fault s.rules again (long_of v) v h) d
      ∙ ap (λ o. flag_word_fault s.rules again o v h) l
      ∙ ap (λ o. option_map_or (λ fs. bundle_fault s.rules again fs h) o []) sh
      ∙ ap (λ o. bundle_step_fault s.rules again o (f ∷ flags) 0 h (flags_fault s.rules again (length flags))) first
      ∙ ap (λ o. short_fault s.rules again o rest h (flags_fault s.rules again (length flags) rest 0)) none in
      subst Bad (sym same) tt

-- what a word is to a command without options
pub data Look (s : Shape) (v : Text) : Type 0 where
  dashes : bytes_eq v (45 ∷ 45 ∷ []) ≡ true → Look s v
  strange : bytes_eq v (45 ∷ 45 ∷ []) ≡ false → is_option v ≡ true → IsStrange s v → Look s v
  plain : bytes_eq v (45 ∷ 45 ∷ []) ≡ false → is_option v ≡ false → long_of v ≡ None → short_of v ≡ None → Look s v

module _ (s : Shape) (no_long : (name : Text) → arg_by_long s.rules name ≡ None) (no_short : (x : ℕ) → arg_by_short s.rules x ≡ None) where
  pub look : (v : Text) → IsUtf8 v → Look s v
  look [] u = plain refl refl refl refl
  look (b ∷ []) u = go (b == 45) refl
    where
      go : (t : Bool) → (b == 45) ≡ t → Look s (b ∷ [])
      go true e = plain (rw e refl) refl (rw e refl) (rw e refl)
      go false e = plain (rw e refl) refl (rw e refl) (rw e refl)
  look (b ∷ c ∷ bs) u = go (b == 45) refl
    where
      long_word : (bs : Text) → (b == 45) ≡ true → (c == 45) ≡ true → Look s (b ∷ c ∷ bs)
      long_word [] e f = dashes (rw (e, f) refl)
      long_word (y ∷ ys) e f =
          let d : bytes_eq (b ∷ c ∷ y ∷ ys) (45 ∷ 45 ∷ []) ≡ false = rw (e, f) refl in
          let l : long_of (b ∷ c ∷ y ∷ ys) ≡ Some (name_and_value (y ∷ ys)) = rw (e, f) refl in
          strange d e (strange_long s (b ∷ c ∷ y ∷ ys) _ _ d l (no_long _))

      short_word : (b == 45) ≡ true → (c == 45) ≡ false → Look s (b ∷ c ∷ bs)
      short_word e f =
          let d : bytes_eq (b ∷ c ∷ bs) (45 ∷ 45 ∷ []) ≡ false = rw (e, f) refl in
          let l : long_of (b ∷ c ∷ bs) ≡ None = rw (e, f) refl in
          let sh : short_of (b ∷ c ∷ bs) ≡ Some (c ∷ bs) = rw (e, f) refl in
          let first = first_char c bs (behind_dash b c bs e u) in
          strange d e (strange_short s (b ∷ c ∷ bs) first.0 c bs d l sh first.1 (no_short first.0))

      dashed : (t : Bool) → (c == 45) ≡ t → (b == 45) ≡ true → Look s (b ∷ c ∷ bs)
      dashed true f e = long_word bs e f
      dashed false f e = short_word e f

      go : (t : Bool) → (b == 45) ≡ t → Look s (b ∷ c ∷ bs)
      go true e = dashed (c == 45) refl e
      go false e = plain (rw e refl) e (rw e refl) (rw e refl)
