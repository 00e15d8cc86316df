-- One pattern more, and where groups stand.
use Rattle.std.proofs.Common.{◌≡◌, ◌∙◌, ap, sym, refl, ℕ, zero, suc, ◌<◌, ◌≤◌, Bool, true, false, not, cond, ◌&&◌, if◌then◌else◌, List, [], ◌∷◌, ◌++◌, map, filter, length, set, get_or, Option, Some, None, arith}
use Rattle.std.specs.Prelude.{◌==◌, nat_lt, position, is_some}
use Rattle.std.specs.List.{position_or_len}
use Rattle.std.proofs.lemmas.List.{length-set, length_push}
use Rattle.std.proofs.lemmas.List.Folds.{position_or_len-set, position_or_len_push}
use Rattle.std.proofs.lemmas.List.Sums.{fails_before_first, prefix_len-le-length}
use Rattle.std.proofs.lemmas.Bool.Decides.{nat_tests}
use Rattle.std.proofs.lemmas.List.Elements.{filter-append}
use Rattle.fx_terms.specs.declared.patterns.Pattern.{Pattern}
use Rattle.fx_algebra.specs.declared.units.Unit as unit
use Rattle.fx_plan.specs.Plans.{Asked, by_position, group_of, in_front, is_group_of, is_only, only_source, patterns_of, single_of}
use Rattle.fx_plan.specs.Places.{joined, placed, placed_by, placed_in_group, with_pattern}

-- ---- the only source

only_itself : (m : ℕ) (ms : List ℕ) → only_source ms ≡ Some m → is_only m ms ≡ true
only_itself m [] e = cc
only_itself m (k ∷ []) e = grind (arith, nat_tests)
only_itself m (k ∷ j ∷ ms) e = cc

only_other : (m n : ℕ) (ms : List ℕ) → only_source ms ≡ Some n → is_only m ms ≡ (n == m)
only_other m n [] e = cc
only_other m n (k ∷ []) e = grind (arith, nat_tests)
only_other m n (k ∷ j ∷ ms) e = cc

and_false : (b : Bool) → (b && false) ≡ false
and_false true = refl
and_false false = refl

only_none : (m : ℕ) (ms : List ℕ) → only_source ms ≡ None → is_only m ms ≡ false
only_none m [] e = refl
only_none m (k ∷ []) e = cc
only_none m (k ∷ j ∷ ms) e = and_false (k == m)

-- ---- one pattern more at the end

patterns_snoc : (m : ℕ) (xs : List Asked) (a : Asked) (b : Bool) → is_only m a.1 ≡ b → patterns_of m (xs ++ a ∷ []) ≡ patterns_of m xs ++ (if b then a.0 ∷ [] else [])
patterns_snoc m [] a true e = ap (λ b. map (λ (x : Asked). x.0) (cond b (a ∷ []) [])) e
patterns_snoc m [] a false e = ap (λ b. map (λ (x : Asked). x.0) (cond b (a ∷ []) [])) e
patterns_snoc m (x ∷ xs) a b e = by (patterns_snoc m xs a b e) (is_only m x.1)
  where
    by : patterns_of m (xs ++ a ∷ []) ≡ patterns_of m xs ++ (if b then a.0 ∷ [] else []) → (c : Bool) → map (λ (x : Asked). x.0) (cond c (x ∷ filter (λ (x : Asked). is_only m x.1) (xs ++ a ∷ [])) (filter (λ (x : Asked). is_only m x.1) (xs ++ a ∷ [])))
        ≡ map (λ (x : Asked). x.0) (cond c (x ∷ filter (λ (x : Asked). is_only m x.1) xs) (filter (λ (x : Asked). is_only m x.1) xs)) ++ (if b then a.0 ∷ [] else [])
    by rest true = ap (λ v. x.0 ∷ v) rest
    by rest false = rest

-- the units without the group of a member
abbrev without_group : ℕ → List unit.Unit → List unit.Unit
without_group m us = filter (λ u. not (is_group_of m u)) us

-- a pattern of that member leaves no trace there
kept_same : (m : ℕ) (p : Pattern) (us : List unit.Unit) → without_group m (placed_in_group us p m) ≡ without_group m us
kept_same m p [] = ap (λ b. cond (not b) (group_of m (p ∷ []) ∷ []) []) own
  where
    own : is_group_of m (group_of m (p ∷ [])) ≡ true
    own = grind (arith, nat_tests)
kept_same m p (u ∷ us) = by (kept_same m p us) (is_group_of m u) refl
  where
    by : without_group m (placed_in_group us p m) ≡ without_group m us → (b : Bool) → is_group_of m u ≡ b → without_group m (if b then with_pattern u p ∷ us else u ∷ placed_in_group us p m) ≡ without_group m (u ∷ us)
    by rest true e = ap (λ b. cond (not b) (with_pattern u p ∷ without_group m us) (without_group m us)) e ∙ sym (ap (λ b. cond (not b) (u ∷ without_group m us) (without_group m us)) e)
    by rest false e = ap (λ v. cond (not (is_group_of m u)) (u ∷ v) v) rest

-- a pattern of another member, or a single, is put there xs it is put with the group
kept_other : (m n : ℕ) (p : Pattern) → (n == m) ≡ false → (us : List unit.Unit) → without_group m (placed_in_group us p n) ≡ placed_in_group (without_group m us) p n
kept_other m n p apart [] = ap (λ b. cond (not b) (group_of n (p ∷ []) ∷ []) []) other
  where
    other : is_group_of m (group_of n (p ∷ [])) ≡ false
    other = ap (λ b. b && true) apart
kept_other m n p apart (u ∷ us) = by (kept_other m n p apart us) (is_group_of m u) (is_group_of n u) refl refl
  where
    -- a unit is the group of one member at most
    one : (v : unit.Unit) → is_group_of m v ≡ true → is_group_of n v ≡ true → ⊥
    one v e f = both v.group v.members e f
      where
        both : (g : Bool) (ms : List ℕ) → (g && is_only m ms) ≡ true → (g && is_only n ms) ≡ true → ⊥
        both false ms e f = absurd (cc)
        both true [] e f = absurd (cc)
        both true (k ∷ []) e f = grind (arith, nat_tests, apart)
        both true (k ∷ j ∷ ms) e f = let z : false ≡ true = sym (and_false (k == m)) ∙ e in absurd (cc)

    by : without_group m (placed_in_group us p n) ≡ placed_in_group (without_group m us) p n → (b c : Bool) → is_group_of m u ≡ b → is_group_of n u ≡ c →
        without_group m (if c then with_pattern u p ∷ us else u ∷ placed_in_group us p n) ≡ placed_in_group (cond (not b) (u ∷ without_group m us) (without_group m us)) p n
    by rest true true e f = absurd (one u e f)
    by rest true false e f = ap (λ b. cond (not b) (u ∷ without_group m (placed_in_group us p n)) (without_group m (placed_in_group us p n))) e ∙ rest
    by rest false true e f =
        ap (λ b. cond (not b) (with_pattern u p ∷ without_group m us) (without_group m us)) e
        ∙ sym (ap (λ c. if c then with_pattern u p ∷ without_group m us else u ∷ placed_in_group (without_group m us) p n) f)
    by rest false false e f =
        ap (λ b. cond (not b) (u ∷ without_group m (placed_in_group us p n)) (without_group m (placed_in_group us p n))) e
        ∙ ap (λ v. u ∷ v) rest
        ∙ sym (ap (λ c. if c then with_pattern u p ∷ without_group m us else u ∷ placed_in_group (without_group m us) p n) f)

-- the units of patterns and one more
pub placed_snoc : (xs : List Asked) (a : Asked) → by_position (xs ++ a ∷ []) ≡ placed (by_position xs) a
placed_snoc [] a = by (only_source a.1)
  where
    by : (o : Option ℕ) → in_front a [] o [] ≡ placed_by [] a o
    by None = refl
    by (Some m) = refl
placed_snoc (x ∷ xs) a = by (placed_snoc xs a) (only_source x.1) (only_source a.1) refl
  where
    us : List unit.Unit
    us = by_position xs

    all : List unit.Unit
    all = by_position (xs ++ a ∷ [])

    last : (o : Option ℕ) → only_source a.1 ≡ o → placed us a ≡ placed_by us a o
    last o e = ap (placed_by us a) e

    nil : (ps : List Pattern) → ps ++ [] ≡ ps
    nil [] = refl
    nil (p ∷ ps) = ap (λ v. p ∷ v) (nil ps)

    by : by_position (xs ++ a ∷ []) ≡ placed (by_position xs) a → (o q : Option ℕ) → only_source a.1 ≡ q → in_front x (xs ++ a ∷ []) o all ≡ placed_by (in_front x xs o us) a q
    by more None None e = ap (λ v. single_of x.0 x.1 ∷ v) (more ∙ ap (placed_by us a) e)
    by more None (Some n) e = ap (λ v. single_of x.0 x.1 ∷ v) (more ∙ ap (placed_by us a) e)
    by more (Some m) None e =
        (λ i. group_of m (x.0 ∷ (patterns_snoc m xs a false (only_none m a.1 e) ∙ nil (patterns_of m xs)) i) ∷ without_group m ((more ∙ ap (placed_by us a) e) i))
        ∙ ap (λ v. group_of m (x.0 ∷ patterns_of m xs) ∷ v) (filter-append (λ u. not (is_group_of m u)) us (single_of a.0 a.1 ∷ []))
    by more (Some m) (Some n) e = same (n == m) refl
      where
        same : (b : Bool) → (n == m) ≡ b → in_front x (xs ++ a ∷ []) (Some m) all ≡ placed_in_group (in_front x xs (Some m) us) a.0 n
        same true f =
            (λ i. group_of m (x.0 ∷ patterns_snoc m xs a true (only_other m n a.1 e ∙ f) i) ∷ without_group m ((more ∙ ap (placed_by us a) e) i))
            ∙ ap (λ (k : ℕ). group_of m (x.0 ∷ (patterns_of m xs ++ a.0 ∷ [])) ∷ without_group m (placed_in_group us a.0 k)) (number n m f)
            ∙ ap (λ v. group_of m (x.0 ∷ (patterns_of m xs ++ a.0 ∷ [])) ∷ v) (kept_same m a.0 us)
            ∙ sym (ap (λ b. if b then with_pattern (group_of m (x.0 ∷ patterns_of m xs)) a.0 ∷ without_group m us else group_of m (x.0 ∷ patterns_of m xs) ∷ placed_in_group (without_group m us) a.0 n) (own n m f))
          where
            number : (n m : ℕ) → (n == m) ≡ true → n ≡ m
            number n m f = grind (arith, nat_tests)

            own : (n m : ℕ) → (n == m) ≡ true → is_group_of n (group_of m (x.0 ∷ patterns_of m xs)) ≡ true
            own n m f = grind (arith, nat_tests)
        same false f =
            (λ i. group_of m (x.0 ∷ (patterns_snoc m xs a false (only_other m n a.1 e ∙ f) ∙ nil (patterns_of m xs)) i) ∷ without_group m ((more ∙ ap (placed_by us a) e) i))
            ∙ ap (λ v. group_of m (x.0 ∷ patterns_of m xs) ∷ v) (kept_other m n a.0 f us)
            ∙ sym (ap (λ b. if b then with_pattern (group_of m (x.0 ∷ patterns_of m xs)) a.0 ∷ without_group m us else group_of m (x.0 ∷ patterns_of m xs) ∷ placed_in_group (without_group m us) a.0 n) (other n m f))
          where
            other : (n m : ℕ) → (n == m) ≡ false → is_group_of n (group_of m (x.0 ∷ patterns_of m xs)) ≡ false
            other n m f = grind (arith, nat_tests)

-- ---- places of groups

pub joined_is : (us : List unit.Unit) (at : ℕ) (p : Pattern) (d : unit.Unit) → at < length us → set us at (with_pattern (get_or us at d) p) ≡ joined us at p
joined_is [] at p d h = absurd (omega arith)
joined_is (u ∷ us) zero p d h = refl
joined_is (u ∷ us) (suc at) p d h = ap (λ v. u ∷ v) (joined_is us at p d (omega arith))

pub placed_at : (m : ℕ) (p : Pattern) (us : List unit.Unit) (at : ℕ) (d : unit.Unit) → at < length us → is_group_of m (get_or us at d) ≡ true → ((k : ℕ) → k < at → is_group_of m (get_or us k d) ≡ false) → joined us at p ≡ placed_in_group us p m
placed_at m p [] at d h here before = absurd (omega arith)
placed_at m p (u ∷ us) zero d h here before = sym (ap (λ b. if b then with_pattern u p ∷ us else u ∷ placed_in_group us p m) here)
placed_at m p (u ∷ us) (suc at) d h here before =
    ap (λ v. u ∷ v) (placed_at m p us at d (omega arith) here (λ k l. before (suc k) (omega arith)))
    ∙ sym (ap (λ b. if b then with_pattern u p ∷ us else u ∷ placed_in_group us p m) (before 0 (omega arith)))

pub placed_new : (m : ℕ) (p : Pattern) (us : List unit.Unit) (d : unit.Unit) → ((k : ℕ) → k < length us → is_group_of m (get_or us k d) ≡ false) → us ++ group_of m (p ∷ []) ∷ [] ≡ placed_in_group us p m
placed_new m p [] d none = refl
placed_new m p (u ∷ us) d none =
    ap (λ v. u ∷ v) (placed_new m p us d (λ k l. none (suc k) (omega arith)))
    ∙ sym (ap (λ b. if b then with_pattern u p ∷ us else u ∷ placed_in_group us p m) (none 0 (omega arith)))

within : (b : Bool) (n : ℕ) → cond b (Some n) None ≡ None → b ≡ false
within true n e = cc
within false n e = refl

module _ (p : unit.Unit → Bool) where
  pub none_before : (us : List unit.Unit) (d : unit.Unit) → position p us ≡ None → (k : ℕ) → k < length us → p (get_or us k d) ≡ false
  none_before us d e k h =
      let far = within (nat_lt (position_or_len p us) (length us)) (position_or_len p us) e in
      fails_before_first p us k d (grind (arith, nat_tests, far))

  pub same_position : (us vs : List unit.Unit) → position_or_len p us ≡ position_or_len p vs → length us ≡ length vs → position p us ≡ position p vs
  same_position us vs e l = λ i. cond (nat_lt (e i) (l i)) (Some (e i)) None

  pub position_push : (us : List unit.Unit) (u : unit.Unit) → position p (us ++ u ∷ []) ≡ (if is_some (position p us) then position p us else (if p u then Some (length us) else None))
  position_push us u = by (p u) refl
    where
      low : position_or_len p us ≤ length us
      low = prefix_len-le-length (λ x. not (p x)) us

      by : (b : Bool) → p u ≡ b → position p (us ++ u ∷ []) ≡ (if is_some (position p us) then position p us else (if b then Some (length us) else None))
      by true e = grind (arith, nat_tests, position_or_len_push p us u, length_push us u, low, e)
      by false e = grind (arith, nat_tests, position_or_len_push p us u, length_push us u, low, e)

pub position_joined : (m : ℕ) (us : List unit.Unit) (at : ℕ) (p : Pattern) (d : unit.Unit) → at < length us → position (is_group_of m) (joined us at p) ≡ position (is_group_of m) us
position_joined m us at p d h =
    ap (position (is_group_of m)) (sym (joined_is us at p d h))
    ∙ same_position (is_group_of m) (set us at (with_pattern (get_or us at d) p)) us (position_or_len-set (is_group_of m) us at (with_pattern (get_or us at d) p) d refl) (length-set us at (with_pattern (get_or us at d) p))

pub own_group : (m k : ℕ) (p : Pattern) → is_group_of k (group_of m (p ∷ [])) ≡ (m == k)
own_group m k p = grind (arith, nat_tests)
