-- Joins with the same lists in another order: the same rows.
use Rattle.std.proofs.Common.{◌≡◌, ◌∙◌, ap, sym, subst, refl, ℕ, ◌+◌, Bool, true, false, ◌||◌, T, cond, List, [], ◌∷◌, ◌++◌, map, filter, sum_by, arith, Option, Some, None, is_some, IsPermutation}
use Rattle.std.specs.List.{AllByRecursion}
use Rattle.std.specs.Option.{option_or}
use Rattle.std.proofs.lemmas.List.Sums.{sum_by-cons}
use Rattle.std.proofs.lemmas.Map.Lookups.{exact_bytes}
use Rattle.fx_terms.specs.Texts.{text_cmp, texts_total}
use Rattle.fx_terms.specs.declared.terms.Term.{Term}
use Rattle.fx_terms.specs.declared.patterns.Pattern.{Pattern}
use Rattle.fx_terms.specs.declared.triples.Triple.{Triple}
use Rattle.fx_algebra.specs.BasicGraphPatterns.{bgp}
use Rattle.fx_algebra.specs.Evaluation.{extended, rows_from}
use Rattle.fx_algebra.specs.Orders.{JoinsInAnyOrder}
use Rattle.fx_algebra.specs.Operators.{join, merges}
use Rattle.std.proofs.lemmas.List.Elements.{recursion_from_All}
use Rattle.fx_algebra.specs.Solutions.{Bindings, agree, merge, rises, term_of}
use Rattle.fx_algebra.proofs.ForcedLemmas.{Extends}
use Rattle.fx_algebra.proofs.JoinLemmas.{extended_agree, find-merge, join_extends, join_run, join_weight, merge_extends_left, merge_extends_right, same_rows_from, some_or}
use Rattle.fx_algebra.proofs.PairLemmas.{rises_merge}
use Rattle.fx_algebra.proofs.WeightLemmas.{sum_by_same}
use Rattle.fx_algebra.proofs.RunLemmas.{all_T, to_T}
use Rattle.std.specs.FinMap.Entries.{same_entries}

-- ---- three solutions merge to one, whichever of two comes first

extends_after : (a b r : Bindings) → Extends a b → Extends b r → Extends a r
extends_after a b r x y = record { has = λ n t e. y.has n t (x.has n t e) }

one_of : (o p r : Option Term) (t : Term) → (o ≡ Some t → r ≡ Some t) → (p ≡ Some t → r ≡ Some t) → option_or o p ≡ Some t → r ≡ Some t
one_of None p r t f g e = g e
one_of (Some u) p r t f g e = f e

-- what both have, the merge has
merge_within : (a b r : Bindings) → Extends a r → Extends b r → Extends (merge a b) r
merge_within a b r x y = record { has = λ n t e. one_of (term_of a n) (term_of b n) (term_of r n) t (x.has n t) (y.has n t) (sym (find-merge a b n) ∙ e) }

same_found : (o p : Option Term) → ((t : Term) → o ≡ Some t → p ≡ Some t) → is_some o ≡ is_some p → o ≡ p
same_found None None h e = refl
same_found None (Some b) h e = cc
same_found (Some a) p h e = sym (h a refl)

or_turned : (a b c : Bool) → ((a || c) || b) ≡ ((a || b) || c)
or_turned true b c = refl
or_turned false true true = refl
or_turned false true false = refl
or_turned false false true = refl
or_turned false false false = refl

bound_in : (a b c : Bindings) (n : List ℕ) → is_some (term_of (merge (merge a b) c) n) ≡ ((is_some (term_of a n) || is_some (term_of b n)) || is_some (term_of c n))
bound_in a b c n =
    ap is_some (find-merge (merge a b) c n)
    ∙ some_or (term_of (merge a b) n) (term_of c n)
    ∙ ap (λ (v : Bool). v || is_some (term_of c n)) (ap is_some (find-merge a b n) ∙ some_or (term_of a n) (term_of b n))

pub merged_turned : (a b c : Bindings) → rises a ≡ true → agree a b ≡ true → agree (merge a b) c ≡ true → (agree a c ≡ true) × (agree (merge a c) b ≡ true) × (merge (merge a c) b ≡ merge (merge a b) c)
merged_turned a b c up h k =
    let r = merge (merge a b) c in
    let with_ab : Extends (merge a b) r = merge_extends_left (merge a b) c in
    let with_a : Extends a r = extends_after a (merge a b) r (merge_extends_left a b) with_ab in
    let with_b : Extends b r = extends_after b (merge a b) r (merge_extends_right a b h) with_ab in
    let with_c : Extends c r = merge_extends_right (merge a b) c k in
    let with_ac : Extends (merge a c) r = merge_within a c r with_a with_c in
    let up_ac = rises_merge a c up in
    let all : Extends (merge (merge a c) b) r = merge_within (merge a c) b r with_ac with_b in (
      extended_agree a c r (to_T (rises a) up) with_a with_c,
      extended_agree (merge a c) b r (to_T (rises (merge a c)) up_ac) with_ac with_b,
      same_entries text_cmp texts_total exact_bytes (merge (merge a c) b) r (to_T _ (rises_merge (merge a c) b up_ac)) (to_T _ (rises_merge (merge a b) c (rises_merge a b up)))
          (λ n. same_found (term_of (merge (merge a c) b) n) (term_of r n) (all.has n) (bound_in a c b n ∙ or_turned (is_some (term_of a n)) (is_some (term_of b n)) (is_some (term_of c n)) ∙ sym (bound_in a b c n))),
    )

-- ---- sums

clash : {X : Type 0} → false ≡ true → X
clash h = cc

same_weight : (p q r s : Bool) (m n : ℕ) → (p ≡ true → q ≡ true → (r ≡ true) × (s ≡ true) × (n ≡ m)) → (r ≡ true → s ≡ true → (p ≡ true) × (q ≡ true) × (m ≡ n))
    → cond p (cond q m 0) 0 ≡ cond r (cond s n 0) 0
same_weight true true r s m n to from = let t = to refl refl in sym t.2 ∙ (λ i. cond (sym t.0 i) (cond (sym t.1 i) n 0) 0)
same_weight true false true true m n to from = clash (from refl refl).1
same_weight true false true false m n to from = refl
same_weight true false false s m n to from = refl
same_weight false q true true m n to from = clash (from refl refl).0
same_weight false q true false m n to from = refl
same_weight false q false s m n to from = refl

module _ {X : Type 0} where
  sum_zero : (xs : List X) → sum_by (λ _. 0) xs ≡ 0
  sum_zero [] = refl
  sum_zero (x ∷ xs) = let rest : sum_by (λ (_ : X). 0) xs ≡ 0 = sum_zero xs in omega (arith, sum_by-cons (λ (_ : X). 0) x xs, rest)

  sum_plus : (f g : X → ℕ) (xs : List X) → sum_by (λ x. f x + g x) xs ≡ sum_by f xs + sum_by g xs
  sum_plus f g [] = refl
  sum_plus f g (x ∷ xs) =
      let rest : sum_by (λ y. f y + g y) xs ≡ sum_by f xs + sum_by g xs = sum_plus f g xs in
      omega (arith, sum_by-cons (λ y. f y + g y) x xs, sum_by-cons f x xs, sum_by-cons g x xs, rest)

  sum_if : (b : Bool) (g : X → ℕ) (xs : List X) → cond b (sum_by g xs) 0 ≡ sum_by (λ x. cond b (g x) 0) xs
  sum_if true g xs = refl
  sum_if false g xs = sym (sum_zero xs)

  sum_each : (f g : X → ℕ) (xs : List X) → AllByRecursion (λ x. f x ≡ g x) xs → sum_by f xs ≡ sum_by g xs
  sum_each f g [] h = refl
  sum_each f g (x ∷ xs) h =
      let rest : sum_by f xs ≡ sum_by g xs = sum_each f g xs h.1 in
      omega (arith, sum_by-cons f x xs, sum_by-cons g x xs, h.0, rest)

sums_turned : {X Y : Type 0} (f : X → Y → ℕ) (xs : List X) (ys : List Y) → sum_by (λ x. sum_by (f x) ys) xs ≡ sum_by (λ y. sum_by (λ x. f x y) xs) ys
sums_turned f [] ys = sym (sum_zero ys)
sums_turned f (x ∷ xs) ys =
    sum_by-cons (λ x. sum_by (f x) ys) x xs
    ∙ ap (λ n. sum_by (f x) ys + n) (sums_turned f xs ys)
    ∙ sym (sum_plus (f x) (λ y. sum_by (λ x. f x y) xs) ys)
    ∙ sum_by_same (λ y. f x y + sum_by (λ x. f x y) xs) (λ y. sum_by (λ x. f x y) (x ∷ xs)) ys (λ y m. sym (sum_by-cons (λ x. f x y) x xs))

-- ---- the joins

module _ (h : Bindings → ℕ) where
  -- what a row with one of each list weighs
  abbrev weight_of : Bindings → Bindings → Bindings → ℕ
  weight_of a b c = cond (agree a b) (cond (agree (merge a b) c) (h (merge (merge a b) c)) 0) 0

  joins_weight : (rows xs ys : List Bindings) → sum_by h (join (join rows xs) ys) ≡ sum_by (λ a. sum_by (λ b. sum_by (weight_of a b) ys) xs) rows
  joins_weight rows xs ys =
      join_weight h (join rows xs) ys
      ∙ join_weight (λ r. sum_by (λ c. cond (agree r c) (h (merge r c)) 0) ys) rows xs
      ∙ sum_by_same (λ a. sum_by (λ b. cond (agree a b) (sum_by (λ c. cond (agree (merge a b) c) (h (merge (merge a b) c)) 0) ys) 0) xs) (λ a. sum_by (λ b. sum_by (weight_of a b) ys) xs) rows
      (λ a m. sum_by_same (λ b. cond (agree a b) (sum_by (λ c. cond (agree (merge a b) c) (h (merge (merge a b) c)) 0) ys) 0) (λ b. sum_by (weight_of a b) ys) xs
      (λ b k. sum_if (agree a b) (λ c. cond (agree (merge a b) c) (h (merge (merge a b) c)) 0) ys))

  turned : (a b c : Bindings) → rises a ≡ true → weight_of a b c ≡ weight_of a c b
  turned a b c up =
      same_weight (agree a b) (agree (merge a b) c) (agree a c) (agree (merge a c) b) (h (merge (merge a b) c)) (h (merge (merge a c) b))
      (λ k l. let t = merged_turned a b c up k l in (t.0, t.1, ap h t.2))
      (λ k l. let t = merged_turned a c b up k l in (t.0, t.1, ap h t.2))

  each_row : (xs ys rows : List Bindings) → AllByRecursion (λ s. rises s ≡ true) rows
      → AllByRecursion (λ a. sum_by (λ b. sum_by (weight_of a b) ys) xs ≡ sum_by (λ c. sum_by (weight_of a c) xs) ys) rows
  each_row xs ys [] up = tt
  each_row xs ys (a ∷ rows) up = (
    sums_turned (weight_of a) xs ys
        ∙ sum_by_same (λ c. sum_by (λ b. weight_of a b c) xs) (λ c. sum_by (weight_of a c) xs) ys (λ c m. sum_by_same (λ b. weight_of a b c) (weight_of a c) xs (λ b k. turned a b c up.0)),
    each_row xs ys rows up.1,
  )

-- rows that rise, joined with one list and then with another
pub joins_turned : (rows xs ys : List Bindings) → AllByRecursion (λ s. rises s ≡ true) rows → IsPermutation (join (join rows xs) ys) (join (join rows ys) xs)
joins_turned rows xs ys up =
    same_rows_from (join (join rows xs) ys) (join (join rows ys) xs)
    (λ h. joins_weight h rows xs ys
    ∙ sum_each (λ a. sum_by (λ b. sum_by (weight_of h a b) ys) xs) (λ a. sum_by (λ c. sum_by (weight_of h a c) xs) ys) rows (each_row h xs ys rows up)
    ∙ sym (joins_weight h rows ys xs))

-- ---- patterns among them

rise_append : (xs ys : List Bindings) → AllByRecursion (λ s. rises s ≡ true) xs → AllByRecursion (λ s. rises s ≡ true) ys → AllByRecursion (λ s. rises s ≡ true) (xs ++ ys)
rise_append [] ys h k = k
rise_append (x ∷ xs) ys h k = (h.0, rise_append xs ys h.1 k)

rise_merges : (a : Bindings) (xs : List Bindings) → rises a ≡ true → AllByRecursion (λ s. rises s ≡ true) (merges xs a)
rise_merges a [] up = tt
rise_merges a (x ∷ xs) up = by (agree a x) (rise_merges a xs up)
  where
    by : (b : Bool) → AllByRecursion (λ s. rises s ≡ true) (map (merge a) (filter (agree a) xs)) → AllByRecursion (λ s. rises s ≡ true) (map (merge a) (cond b (x ∷ filter (agree a) xs) (filter (agree a) xs)))
    by true rest = (rises_merge a x up, rest)
    by false rest = rest

pub rise_join : (rows xs : List Bindings) → AllByRecursion (λ s. rises s ≡ true) rows → AllByRecursion (λ s. rises s ≡ true) (join rows xs)
rise_join [] xs up = tt
rise_join (a ∷ rows) xs up = rise_append (merges xs a) (join rows xs) (rise_merges a xs up.0) (rise_join rows xs up.1)

module _ (graph : List Triple) where
  -- a run after a join, or before it
  pub run_past : (rows xs : List Bindings) (ps : List Pattern) → AllByRecursion (λ s. rises s ≡ true) rows → IsPermutation (rows_from graph (join rows xs) ps) (join (rows_from graph rows ps) xs)
  run_past rows xs ps up =
      subst (λ (v : List Bindings). IsPermutation v (join (rows_from graph rows ps) xs)) (join_run graph ps (join rows xs) (all_T (join rows xs) (rise_join rows xs up)))
      (subst (λ (v : List Bindings). IsPermutation (join (join rows xs) (bgp graph ps)) (join v xs)) (join_run graph ps rows (all_T rows up)) (joins_turned rows xs (bgp graph ps) up))

  -- one pattern after another, or before it
  pub patterns_turned : (rows : List Bindings) (p q : Pattern) → AllByRecursion (λ s. rises s ≡ true) rows → IsPermutation (extended graph q (extended graph p rows)) (extended graph p (extended graph q rows))
  patterns_turned rows p q up =
      subst (λ (v : List Bindings). IsPermutation (extended graph q v) (extended graph p (extended graph q rows))) (join_extends graph p rows (all_T rows up))
      (subst (λ (v : List Bindings). IsPermutation (extended graph q (join rows (bgp graph (p ∷ [])))) (extended graph p v)) (join_extends graph q rows (all_T rows up))
      (subst (λ (v : List Bindings). IsPermutation v (extended graph p (join rows (bgp graph (q ∷ []))))) (join_extends graph q (join rows (bgp graph (p ∷ []))) (all_T _ (rise_join rows (bgp graph (p ∷ [])) up)))
      (subst (λ (v : List Bindings). IsPermutation (join (join rows (bgp graph (p ∷ []))) (bgp graph (q ∷ []))) v) (join_extends graph p (join rows (bgp graph (q ∷ []))) (all_T _ (rise_join rows (bgp graph (q ∷ [])) up)))
      (joins_turned rows (bgp graph (p ∷ [])) (bgp graph (q ∷ [])) up))))

pub joins_in_any_order : JoinsInAnyOrder
joins_in_any_order rows xs ys up = joins_turned rows xs ys (recursion_from_All (λ s. rises s ≡ true) rows up)
