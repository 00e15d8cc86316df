-- The names in a block's text tell variables apart.
use Rattle.std.proofs.Common.{◌≡◌, ◌∙◌, ap, sym, refl, inl, inr, ℕ, suc, ◌<◌, ◌≤◌, ◌^◌, Bool, true, false, ◌||◌, cond, List, [], ◌∷◌, ◌++◌, fold, length, codes, arith}
use Rattle.std.specs.Fmt.{decimal}
use Rattle.std.specs.Ordering.{is_eq}
use Rattle.std.proofs.lemmas.Cmp.{tied_itself}
use Rattle.std.proofs.lemmas.Fmt.{decimal_injective}
use Rattle.std.proofs.lemmas.List.{append_cancel_left}
use Rattle.std.proofs.lemmas.List.Folds.{list_any-append}
use Rattle.fx_terms.specs.Texts.{text_cmp, texts_total}
use Rattle.fx_terms.proofs.SetLemmas.{Among}
use Rattle.fx_algebra.specs.BasicGraphPatterns.{variables}
use Rattle.fx_algebra.specs.Scopes.{is_among, once, with_name}
use Rattle.fx_algebra.specs.declared.units.Unit as unit
use Rattle.fx_algebra.proofs.ForcedLemmas.{name_from}
use Rattle.fx_renaming.specs.Branches.{TellsApart}
use Rattle.fx_values.specs.Values.{number_name, place_of, renamed, sent_name, unit_names}

-- ---- texts

first_of : List ℕ → ℕ
first_of [] = 0
first_of (x ∷ xs) = x

pub sent_apart : (j k : ℕ) → j < 2 ^ 64 → k < 2 ^ 64 → sent_name j ≡ sent_name k → j ≡ k
sent_apart j k a b e = decimal_injective j k a b (append_cancel_left (codes "v") (decimal j) (decimal k) e)

pub sent_is_no_number : (j : ℕ) → sent_name j ≡ number_name → ⊥
unfolding first_of
sent_is_no_number j e = let first : 118 ≡ 107 = ap first_of e in omega (arith, first)

-- ---- names among names

pub eq_itself : (n : List ℕ) → is_eq (text_cmp n n) ≡ true
eq_itself n = ap is_eq (tied_itself texts_total n)

pub test_from : (names : List (List ℕ)) (name : List ℕ) → Among name names → is_among names name ≡ true
test_from [] name m = absurd m
test_from (n ∷ ns) name (inl e) = ap (λ v. is_eq (text_cmp v name) || is_among ns name) e ∙ ap (λ (b : Bool). b || is_among ns name) (eq_itself name)
test_from (n ∷ ns) name (inr m) = or_right (is_eq (text_cmp n name)) (is_among ns name) (test_from ns name m)
  where
    or_right : (b c : Bool) → c ≡ true → (b || c) ≡ true
    or_right true c h = refl
    or_right false c h = h

pub among_from_test : (names : List (List ℕ)) (name : List ℕ) → is_among names name ≡ true → Among name names
among_from_test [] name h = absurd (cc)
among_from_test (n ∷ ns) name h = by (is_eq (text_cmp n name)) refl h (among_from_test ns name)
  where
    by : (b : Bool) → is_eq (text_cmp n name) ≡ b → (b || is_among ns name) ≡ true → (is_among ns name ≡ true → Among name ns) → Among name (n ∷ ns)
    by true e k f = inl (name_from n name e)
    by false e k f = inr (f k)

-- ---- places

pub place_near : (names : List (List ℕ)) (name : List ℕ) → place_of names name ≤ length names
place_near [] name = omega arith
place_near (n ∷ ns) name = by (is_eq (text_cmp n name)) (place_near ns name)
  where
    by : (b : Bool) → place_of ns name ≤ length ns → cond b 0 (suc (place_of ns name)) ≤ suc (length ns)
    by true h = omega arith
    by false h = omega (arith, h)

place_low : (names : List (List ℕ)) (name : List ℕ) → is_among names name ≡ true → place_of names name < length names
place_low [] name h = absurd (cc)
place_low (n ∷ ns) name h = by (is_eq (text_cmp n name)) h (place_low ns name)
  where
    by : (b : Bool) → (b || is_among ns name) ≡ true → (is_among ns name ≡ true → place_of ns name < length ns) → cond b 0 (suc (place_of ns name)) < suc (length ns)
    by true k f = omega arith
    by false k f = let low = f k in omega (arith, low)

place_apart : (names : List (List ℕ)) (m n : List ℕ) → is_among names m ≡ true → is_among names n ≡ true → place_of names m ≡ place_of names n → m ≡ n
place_apart [] m n h k e = absurd (cc)
place_apart (x ∷ xs) m n h k e = by (is_eq (text_cmp x m)) refl (is_eq (text_cmp x n)) refl h k e (place_apart xs m n)
  where
    by : (b : Bool) → is_eq (text_cmp x m) ≡ b → (c : Bool) → is_eq (text_cmp x n) ≡ c → (b || is_among xs m) ≡ true → (c || is_among xs n) ≡ true → cond b 0 (suc (place_of xs m)) ≡ cond c 0 (suc (place_of xs n))
        → (is_among xs m ≡ true → is_among xs n ≡ true → place_of xs m ≡ place_of xs n → m ≡ n) → m ≡ n
    by true p true q h k e f = sym (name_from x m p) ∙ name_from x n q
    by true p false q h k e f = absurd (omega (arith, e))
    by false p true q h k e f = absurd (omega (arith, e))
    by false p false q h k e f = f h k (omega (arith, e))

-- ---- each name once

among_with : (ns : List (List ℕ)) (n name : List ℕ) → is_among (with_name ns n) name ≡ (is_among ns name || is_among (n ∷ []) name)
unfolding with_name
among_with ns n name = pick (is_among ns n) refl
  where
    or_false : (b : Bool) → b ≡ (b || (false || false))
    or_false true = refl
    or_false false = refl

    old : (b : Bool) → is_eq (text_cmp n name) ≡ b → is_among ns n ≡ true → is_among ns name ≡ (is_among ns name || (b || false))
    old true e h = let yes : is_among ns name ≡ true = ap (is_among ns) (sym (name_from n name e)) ∙ h in yes ∙ sym (ap (λ b. b || true) yes)
    old false e h = or_false (is_among ns name)

    pick : (b : Bool) → is_among ns n ≡ b → is_among (cond b ns (ns ++ n ∷ [])) name ≡ (is_among ns name || is_among (n ∷ []) name)
    pick true e = old (is_eq (text_cmp n name)) refl e
    pick false e = list_any-append (λ m. is_eq (text_cmp m name)) ns (n ∷ [])

or_assoc : (a b c : Bool) → ((a || (b || false)) || c) ≡ (a || (b || c))
or_assoc true b c = refl
or_assoc false true c = refl
or_assoc false false c = refl

among_fold : (ns names : List (List ℕ)) (name : List ℕ) → is_among (fold with_name ns names) name ≡ (is_among ns name || is_among names name)
among_fold ns [] name = or_nothing (is_among ns name)
  where
    or_nothing : (b : Bool) → b ≡ (b || false)
    or_nothing true = refl
    or_nothing false = refl
among_fold ns (n ∷ names) name =
    among_fold (with_name ns n) names name
    ∙ ap (λ b. b || is_among names name) (among_with ns n name)
    ∙ or_assoc (is_among ns name) (is_eq (text_cmp n name)) (is_among names name)

pub among_once : (names : List (List ℕ)) (name : List ℕ) → is_among (once names) name ≡ is_among names name
among_once names name = among_fold [] names name

-- ---- the unit's names

module _ (u : unit.Unit) (short : length (unit_names u) < 2 ^ 64) where
  pub one_name : (m n : List ℕ) → is_among (unit_names u) m ≡ true → is_among (unit_names u) n ≡ true → renamed u m ≡ renamed u n → m ≡ n
  one_name m n a b e =
      let near = place_low (unit_names u) m a in
      let far = place_low (unit_names u) n b in
      place_apart (unit_names u) m n a b (sent_apart (place_of (unit_names u) m) (place_of (unit_names u) n) (omega (arith, near, short)) (omega (arith, far, short)) e)

  pub names_apart : TellsApart (renamed u) (variables u.patterns)
  names_apart m n h k e = one_name m n (among_once (variables u.patterns) m ∙ h) (among_once (variables u.patterns) n ∙ k) e
