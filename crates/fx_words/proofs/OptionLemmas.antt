-- What a word is to the parser of a command with the options of a query.
use Rattle.std.proofs.Common.{◌≡◌, ◌∙◌, ◌==◌, ◌&&◌, ◌||◌, suc, ℕ, Bool, true, false, not, List, [], ◌∷◌, ◌++◌, Option, Some, None, if◌then◌else◌, refl, sym, ap, subst, arith, one-add, cond, ◌+◌, codes, length, take, drop, IsUtf8, bytes_eq, nat_le}
use Rattle.std.specs.List.{before_first, position_or_len}
use Rattle.std.specs.Str.Parse.{digits_value}
use Rattle.std.proofs.lemmas.Bool.Decides.{nat_tests}
use Rattle.clap.specs.Lexer.{long_of, name_and_value, short_of}
use Rattle.clap.specs.Walk.{Rule, Text, arg_by_long, arg_by_short}
use Rattle.clap.specs.Simple.{Shape}
use Rattle.fx_words.specs.Commands.{QueryWords, by_itself, by_values, end_of_options, in_range, is_option, number_to, plain, query_words, value_in, with_block, with_positional, with_workers, workers_option, block_option}
use Rattle.fx_words.proofs.LookLemmas.{IsStrange, behind_dash, first_char, strange_long, strange_short}
use Rattle.fx_words.proofs.StepLemmas.{and_false, one_value}

pub data Name : Type 0 where
  workers : Name
  block : Name

abbrev pub text_of : Name → Text
text_of workers = codes "workers"
text_of block = codes "block"

abbrev pub rule_for : Name → Rule
rule_for o = one_value (text_of o) (Some (text_of o)) None false

abbrev pub with_value : Name → Text → Option QueryWords → Option QueryWords
with_value workers v rest = with_workers v rest
with_value block v rest = with_block v rest

-- what words give where the first is the value of an option
abbrev pub words_for : Name → List Text → Option QueryWords
words_for o [] = None
words_for o (v ∷ ws) = with_value o v (query_words ws)

-- the option of a long name
abbrev pub option_named : Text → Option Rule
option_named name = if bytes_eq (codes "workers") name || false then Some (rule_for workers) else if bytes_eq (codes "block") name || false then Some (rule_for block) else None

-- the word is no number
abbrev pub IsNoNumber : Text → Type 0
IsNoNumber v = (most : ℕ) → number_to most v ≡ None

pub data Sort (s : Shape) (v : Text) : Type 0 where
  closing : bytes_eq v (45 ∷ 45 ∷ []) ≡ true → ((ws : List Text) → query_words (v ∷ ws) ≡ Some (plain ws)) → IsNoNumber v → Sort s v
  asking : (o : Name) → bytes_eq v (45 ∷ 45 ∷ []) ≡ false → long_of v ≡ Some (text_of o, None) → ((ws : List Text) → query_words (v ∷ ws) ≡ words_for o ws) → IsNoNumber v → Sort s v
  giving : (o : Name) (x : Text) → bytes_eq v (45 ∷ 45 ∷ []) ≡ false → long_of v ≡ Some (text_of o, Some x) → ((ws : List Text) → query_words (v ∷ ws) ≡ with_value o x (query_words ws))
      → IsNoNumber v → Sort s v
  strange : IsStrange s v → ((ws : List Text) → query_words (v ∷ ws) ≡ None) → IsNoNumber v → Sort s v
  simple : bytes_eq v (45 ∷ 45 ∷ []) ≡ false → long_of v ≡ None → short_of v ≡ None → ((ws : List Text) → query_words (v ∷ ws) ≡ with_positional v (query_words ws)) → Sort s v

-- ---- a name, with a value or without

abbrev NoEquals : Text → Type 0
NoEquals [] = Unit {0}
NoEquals (a ∷ n) = ((a == 61) ≡ false) × NoEquals n

-- what a text is beside a name: the name, the name with a value, or another
data Split (n rest : Text) : Type 0 where
  named : rest ≡ n → Split n rest
  valued : (x : Text) → rest ≡ n ++ 61 ∷ x → Split n rest
  other : bytes_eq n (before_first (λ x. x == 61) rest) ≡ false → bytes_eq rest n ≡ false → bytes_eq (take (suc (length n)) rest) (n ++ 61 ∷ []) ≡ false → Split n rest

before_more : (x : ℕ) (xs : Text) → (x == 61) ≡ false → before_first (λ y. y == 61) (x ∷ xs) ≡ x ∷ before_first (λ y. y == 61) xs
before_more x xs e =
    ap (λ b. take (cond (not b) (1 + position_or_len (λ y. y == 61) xs) 0) (x ∷ xs)) e ∙ ap (λ n. take n (x ∷ xs)) (one-add (position_or_len (λ y. y == 61) xs))

before_none : (x : ℕ) (xs : Text) → (x == 61) ≡ true → before_first (λ y. y == 61) (x ∷ xs) ≡ []
before_none x xs e = ap (λ b. take (cond (not b) (1 + position_or_len (λ y. y == 61) xs) 0) (x ∷ xs)) e

empty_split : (x : ℕ) (xs : Text) (t : Bool) → (x == 61) ≡ t → Split [] (x ∷ xs)
empty_split x xs true e = let same : x ≡ 61 = grind (arith, nat_tests) in valued xs (ap (λ y. y ∷ xs) same)
empty_split x xs false e = other (ap (bytes_eq []) (before_more x xs e)) refl (ap (λ b. b && true) e)

module _ (a : ℕ) (n : Text) (x : ℕ) (xs : Text) where
  same_letter : (a == 61) ≡ false → (x == a) ≡ true → Split n xs → Split (a ∷ n) (x ∷ xs)
  same_letter h e (named r) = let same : x ≡ a = grind (arith, nat_tests) in named (ap (λ y. y ∷ xs) same ∙ ap (λ ys. a ∷ ys) r)
  same_letter h e (valued v r) = let same : x ≡ a = grind (arith, nat_tests) in valued v (ap (λ y. y ∷ xs) same ∙ ap (λ ys. a ∷ ys) r)
  same_letter h e (other p q r) =
      let same : x ≡ a = grind (arith, nat_tests) in
      let not_equals : (x == 61) ≡ false = ap (λ y. y == 61) same ∙ h in
      other (ap (bytes_eq (a ∷ n)) (before_more x xs not_equals) ∙ ap (λ b. (a == x) && b) p ∙ and_false (a == x)) (ap (λ b. (x == a) && b) q ∙ and_false (x == a)) (ap (λ b. (x == a) && b) r ∙ and_false (x == a))

  other_before : (t : Bool) → (x == 61) ≡ t → (x == a) ≡ false → bytes_eq (a ∷ n) (before_first (λ y. y == 61) (x ∷ xs)) ≡ false
  other_before true f e = ap (bytes_eq (a ∷ n)) (before_none x xs f)
  other_before false f e =
      let differs : (a == x) ≡ false = grind (arith, nat_tests) in
      ap (bytes_eq (a ∷ n)) (before_more x xs f) ∙ ap (λ b. b && bytes_eq n (before_first (λ y. y == 61) xs)) differs

  other_letter : (x == a) ≡ false → Split (a ∷ n) (x ∷ xs)
  other_letter e = other (other_before (x == 61) refl e) (ap (λ b. b && bytes_eq xs n) e) (ap (λ b. b && bytes_eq (take (suc (length n)) xs) (n ++ 61 ∷ [])) e)

  by_letter : (t : Bool) → (x == a) ≡ t → (a == 61) ≡ false → Split n xs → Split (a ∷ n) (x ∷ xs)
  by_letter true e h s = same_letter h e s
  by_letter false e h s = other_letter e

split : (n : Text) → NoEquals n → (rest : Text) → Split n rest
split [] h [] = named refl
split [] h (x ∷ xs) = empty_split x xs (x == 61) refl
split (a ∷ n) h [] = other refl refl refl
split (a ∷ n) h (x ∷ xs) = by_letter a n x xs (x == a) refl h.0 (split n h.1 xs)

-- ---- what words give, by the first of them

by_first : (w : Text) (ws : List Text) → query_words (w ∷ ws)
    ≡ (if bytes_eq w end_of_options then Some (plain ws) else if bytes_eq w workers_option then words_for workers ws else if bytes_eq w block_option then words_for block ws else by_itself w (query_words ws))
by_first w [] = refl
by_first w (v ∷ ws) = refl

-- a word that is no end of options and no name of an option
not_named : (w : Text) (ws : List Text) → bytes_eq w end_of_options ≡ false → bytes_eq w workers_option ≡ false → bytes_eq w block_option ≡ false → query_words (w ∷ ws) ≡ by_itself w (query_words ws)
not_named w ws d e f =
    by_first w ws
    ∙ ap (λ b. if b then Some (plain ws) else if bytes_eq w workers_option then words_for workers ws else if bytes_eq w block_option then words_for block ws else by_itself w (query_words ws)) d
    ∙ ap (λ b. if b then words_for workers ws else if bytes_eq w block_option then words_for block ws else by_itself w (query_words ws)) e
    ∙ ap (λ b. if b then words_for block ws else by_itself w (query_words ws)) f

-- nor has the value of one in it
not_valued : (w : Text) (rest : Option QueryWords) (o : Bool) → bytes_eq (take 10 w) (codes "--workers=") ≡ false → bytes_eq (take 8 w) (codes "--block=") ≡ false → is_option w ≡ o
    → by_itself w rest ≡ (if o then None else with_positional w rest)
not_valued w rest o e f g =
    ap (λ b. by_values (if b then Some (drop 10 w) else None) (value_in (codes "--block=") w) w rest) e
    ∙ ap (λ b. by_values None (if b then Some (drop 8 w) else None) w rest) f
    ∙ ap (λ b. if b then None else with_positional w rest) g

no_number : (xs : Text) → IsNoNumber (45 ∷ xs)
no_number xs most =
    let v = 45 ∷ xs in
    ap (λ (b : Bool). if b then in_range most (digits_value 10 v) else None) (and_false (not (length v == 0) && nat_le (length v) 20))

workers_next : (ws : List Text) → query_words (codes "--workers" ∷ ws) ≡ words_for workers ws
workers_next [] = refl
workers_next (v ∷ ws) = refl

block_next : (ws : List Text) → query_words (codes "--block" ∷ ws) ≡ words_for block ws
block_next [] = refl
block_next (v ∷ ws) = refl

workers_here : (x : Text) (ws : List Text) → query_words ((codes "--workers=" ++ x) ∷ ws) ≡ with_workers x (query_words ws)
workers_here x [] = refl
workers_here x (v ∷ ws) = refl

block_here : (x : Text) (ws : List Text) → query_words ((codes "--block=" ++ x) ∷ ws) ≡ with_block x (query_words ws)
block_here x [] = refl
block_here x (v ∷ ws) = refl

closing_words : (ws : List Text) → query_words ((45 ∷ 45 ∷ []) ∷ ws) ≡ Some (plain ws)
closing_words [] = refl
closing_words (v ∷ ws) = refl

module _ (s : Shape) (by_long : (name : Text) → arg_by_long s.rules name ≡ option_named name) (no_short : (x : ℕ) → arg_by_short s.rules x ≡ None) where
  -- neither option
  neither : (y : ℕ) (ys : Text) → bytes_eq (codes "workers") (before_first (λ x. x == 61) (y ∷ ys)) ≡ false → bytes_eq (y ∷ ys) (codes "workers") ≡ false
      → bytes_eq (take 8 (y ∷ ys)) (codes "workers=") ≡ false → bytes_eq (codes "block") (before_first (λ x. x == 61) (y ∷ ys)) ≡ false → bytes_eq (y ∷ ys) (codes "block") ≡ false
      → bytes_eq (take 6 (y ∷ ys)) (codes "block=") ≡ false → Sort s (45 ∷ 45 ∷ y ∷ ys)
  neither y ys p q r p' q' r' =
      let v = 45 ∷ 45 ∷ y ∷ ys in
      let name = before_first (λ x. x == 61) (y ∷ ys) in
      let none : arg_by_long s.rules name ≡ None = by_long name
      ∙ ap (λ b. if b || false then Some (rule_for workers) else if bytes_eq (codes "block") name || false then Some (rule_for block) else None) p
      ∙ ap (λ b. if b || false then Some (rule_for block) else None) p' in
      strange (strange_long s v name (name_and_value (y ∷ ys)).1 refl refl none) (λ ws. not_named v ws refl q q' ∙ not_valued v (query_words ws) true r r' refl) (no_number (45 ∷ y ∷ ys))

  block_or : (y : ℕ) (ys : Text) → bytes_eq (codes "workers") (before_first (λ x. x == 61) (y ∷ ys)) ≡ false → bytes_eq (y ∷ ys) (codes "workers") ≡ false
      → bytes_eq (take 8 (y ∷ ys)) (codes "workers=") ≡ false → Split (codes "block") (y ∷ ys) → Sort s (45 ∷ 45 ∷ y ∷ ys)
  block_or y ys p q r (named e) = subst (λ t. Sort s (45 ∷ 45 ∷ t)) (sym e) (asking block refl refl block_next (no_number (45 ∷ codes "block")))
  block_or y ys p q r (valued x e) = subst (λ t. Sort s (45 ∷ 45 ∷ t)) (sym e) (giving block x refl refl (block_here x) (no_number (45 ∷ (codes "block" ++ 61 ∷ x))))
  block_or y ys p q r (other p' q' r') = neither y ys p q r p' q' r'

  long_sort : (y : ℕ) (ys : Text) → Split (codes "workers") (y ∷ ys) → Sort s (45 ∷ 45 ∷ y ∷ ys)
  long_sort y ys (named e) = subst (λ t. Sort s (45 ∷ 45 ∷ t)) (sym e) (asking workers refl refl workers_next (no_number (45 ∷ codes "workers")))
  long_sort y ys (valued x e) = subst (λ t. Sort s (45 ∷ 45 ∷ t)) (sym e) (giving workers x refl refl (workers_here x) (no_number (45 ∷ (codes "workers" ++ 61 ∷ x))))
  long_sort y ys (other p q r) = block_or y ys p q r (split (codes "block") (refl, (refl, (refl, (refl, (refl, tt))))) (y ∷ ys))

  dashes_sort : (bs : Text) → Sort s (45 ∷ 45 ∷ bs)
  dashes_sort [] = closing refl closing_words (no_number (45 ∷ []))
  dashes_sort (y ∷ ys) = long_sort y ys (split (codes "workers") (refl, (refl, (refl, (refl, (refl, (refl, (refl, tt))))))) (y ∷ ys))

  short_sort : (c : ℕ) (bs : Text) → (c == 45) ≡ false → IsUtf8 (c ∷ bs) → Sort s (45 ∷ c ∷ bs)
  short_sort c bs f u =
      let v = 45 ∷ c ∷ bs in
      let d : bytes_eq v (45 ∷ 45 ∷ []) ≡ false = ap (λ b. b && bytes_eq bs []) f in
      let l : long_of v ≡ None = rw f refl in
      let sh : short_of v ≡ Some (c ∷ bs) = rw f refl in
      let first = first_char c bs u in
      strange (strange_short s v first.0 c bs d l sh first.1 (no_short first.0))
      (λ ws. not_named v ws d (ap (λ b. b && bytes_eq bs (codes "workers")) f) (ap (λ b. b && bytes_eq bs (codes "block")) f)
      ∙ not_valued v (query_words ws) true (ap (λ b. b && bytes_eq (take 8 bs) (codes "workers=")) f) (ap (λ b. b && bytes_eq (take 6 bs) (codes "block=")) f) refl)
      (no_number (c ∷ bs))

  after_dash : (c : ℕ) (bs : Text) (t : Bool) → (c == 45) ≡ t → IsUtf8 (c ∷ bs) → Sort s (45 ∷ c ∷ bs)
  after_dash c bs true f u = let same : c ≡ 45 = grind (arith, nat_tests) in subst (λ x. Sort s (45 ∷ x ∷ bs)) (sym same) (dashes_sort bs)
  after_dash c bs false f u = short_sort c bs f u

  simple_words : (v : Text) → bytes_eq v (45 ∷ 45 ∷ []) ≡ false → bytes_eq v workers_option ≡ false → bytes_eq v block_option ≡ false → bytes_eq (take 10 v) (codes "--workers=") ≡ false
      → bytes_eq (take 8 v) (codes "--block=") ≡ false → is_option v ≡ false → (ws : List Text) → query_words (v ∷ ws) ≡ with_positional v (query_words ws)
  simple_words v d e f g h o ws = not_named v ws d e f ∙ not_valued v (query_words ws) false g h o

  one_byte : (b : ℕ) (t : Bool) → (b == 45) ≡ t → Sort s (b ∷ [])
  one_byte b true e = simple (rw e refl) (rw e refl) (rw e refl) (simple_words (b ∷ []) (rw e refl) (rw e refl) (rw e refl) (rw e refl) (rw e refl) refl)
  one_byte b false e = simple (rw e refl) (rw e refl) (rw e refl) (simple_words (b ∷ []) (rw e refl) (rw e refl) (rw e refl) (rw e refl) (rw e refl) refl)

  more_bytes : (b c : ℕ) (bs : Text) (t : Bool) → (b == 45) ≡ t → IsUtf8 (b ∷ c ∷ bs) → Sort s (b ∷ c ∷ bs)
  more_bytes b c bs true e u =
      let same : b ≡ 45 = grind (arith, nat_tests) in
      subst (λ x. Sort s (x ∷ c ∷ bs)) (sym same) (after_dash c bs (c == 45) refl (behind_dash b c bs e u))
  more_bytes b c bs false e u = simple (rw e refl) (rw e refl) (rw e refl) (simple_words (b ∷ c ∷ bs) (rw e refl) (rw e refl) (rw e refl) (rw e refl) (rw e refl) e)

  pub sort : (v : Text) → IsUtf8 v → Sort s v
  sort [] u = simple refl refl refl (simple_words [] refl refl refl refl refl refl)
  sort (b ∷ []) u = one_byte b (b == 45) refl
  sort (b ∷ c ∷ bs) u = more_bytes b c bs (b == 45) refl u
