-- What was found under the numbers of the rows on the left gives the rows of the left join.
use Rattle.std.proofs.Common.{◌≡◌, ◌∙◌, ap, sym, subst, refl, ℕ, suc, ◌<◌, ◌≤◌, Bool, true, false, not, ◌&&◌, ◌||◌, cond, List, [], ◌∷◌, ◌++◌, length, map, filter, arith, IsTrue, IsPermutation, Contains, append-nil}
use Rattle.std.specs.Prelude.{◌==◌}
use Rattle.std.specs.List.{AllByRecursion, list_all, list_any}
use Rattle.std.proofs.lemmas.Bool.Decides.{nat_tests}
use Rattle.std.proofs.lemmas.List.Elements.{All-contains_itself, All-from_recursion, filter-append, recursion_from_All}
use Rattle.std.proofs.lemmas.List.Folds.{list_all-append}
use Rattle.std.proofs.lemmas.List.Sorted.{IsPermutation-refl, IsPermutation-sym, IsPermutation-trans, IsPermutation-append, length_permutation}
use Rattle.fx_terms.specs.declared.triples.Triple.{Triple}
use Rattle.fx_terms.proofs.SetLemmas.{among_from}
use Rattle.fx_algebra.specs.BasicGraphPatterns.{bgp}
use Rattle.fx_algebra.specs.Conditions.{holds, is_so}
use Rattle.fx_algebra.specs.Groups.{one_empty}
use Rattle.fx_algebra.specs.Operators.{diff, filtered, join, left_join, matches, merges, or_itself}
use Rattle.fx_algebra.specs.Solutions.{Bindings, agree, merge, rises}
use Rattle.fx_algebra.specs.Units.{row_of, row_step, step}
use Rattle.fx_algebra.specs.declared.expressions.Expr.{Expr}
use Rattle.fx_algebra.specs.declared.units.Row.{Row}
use Rattle.fx_algebra.specs.declared.units.Unit as unit
use Rattle.fx_algebra.proofs.JoinLemmas.{same_join, same_rows_from}
use Rattle.fx_algebra.proofs.OperatorLemmas.{filtered_moves, join_one}
use Rattle.fx_algebra.proofs.RunLemmas.{bgp_moves}
use Rattle.fx_algebra.proofs.WeightLemmas.{sum_by-filter, sum_by-map, weights_from}
use Rattle.fx_plan.specs.Plans.{plan}
use Rattle.fx_plan.proofs.LawLemmas.{filters_are_own, filters_of_run}
use Rattle.fx_steps.specs.Optionals.{OptionalIsTheLeftJoin, OptionalLaws, OptionalOfAPlan, OptionalOfFilters, behind, optional_rows}
use Rattle.fx_steps.specs.Steps.{HasItsVariables, numbered, solutions_of, stepped, unit_filters, unit_patterns}
use Rattle.fx_steps.proofs.GroupLemmas.{and_true, left_join_splits, one_holds}
use Rattle.fx_steps.proofs.PlanLemmas.{plan_is_of_the_run, same_as}
use Rattle.fx_steps.proofs.StepLemmas.{filtered_both, steps_join}

-- ---- a left join row by row

module _ (conditions : List Expr) (others : List Bindings) where
  abbrev meets : Bindings → Bindings → Bool
  meets a b = agree a b && holds conditions (merge a b)

  abbrev has_one : List Bindings → Bool
  has_one [] = false
  has_one (s ∷ ss) = true

  has_match : (a : Bindings) (bs : List Bindings) → list_any (meets a) bs ≡ has_one (matches conditions bs a)
  has_match a [] = refl
  has_match a (b ∷ bs) = by (agree a b) (holds conditions (merge a b)) refl (has_match a bs)
    where
      by : (c d : Bool) → holds conditions (merge a b) ≡ d → list_any (meets a) bs ≡ has_one (matches conditions bs a)
          → ((c && holds conditions (merge a b)) || list_any (meets a) bs) ≡ has_one (filtered conditions (map (merge a) (cond c (b ∷ filter (agree a) bs) (filter (agree a) bs))))
      by true true e rest = rw e refl
      by true false e rest = rw e rest
      by false d e rest = rest

  itself_or : (a : Bindings) (found : List Bindings) → found ++ cond (not (has_one found)) (a ∷ []) [] ≡ or_itself a found
  itself_or a [] = refl
  itself_or a (s ∷ found) = append-nil (s ∷ found)

  one_row : (a : Bindings) → left_join (a ∷ []) others conditions ≡ or_itself a (matches conditions others a)
  one_row a =
      ap (λ (v : List Bindings). filtered conditions v ++ diff (a ∷ []) others conditions) (append-nil (merges others a))
      ∙ ap (λ (b : Bool). matches conditions others a ++ cond (not b) (a ∷ []) []) (has_match a others)
      ∙ itself_or a (matches conditions others a)

  or_itself_moves : (a : Bindings) (xs ys : List Bindings) → IsPermutation xs ys → IsPermutation (or_itself a xs) (or_itself a ys)
  or_itself_moves a [] [] h = IsPermutation-refl (a ∷ [])
  or_itself_moves a [] (y ∷ ys) h = let long : length (y ∷ ys) ≡ 0 = length_permutation [] (y ∷ ys) h in absurd (omega (arith, long))
  or_itself_moves a (x ∷ xs) [] h = let long : 0 ≡ length (x ∷ xs) = length_permutation (x ∷ xs) [] h in absurd (omega (arith, long))
  or_itself_moves a (x ∷ xs) (y ∷ ys) h = h

  -- under the number of each row its matches were found
  abbrev AreMatches : ℕ → List Bindings → List Row → Type 0
  AreMatches n [] found = Unit {0}
  AreMatches n (s ∷ left) found = IsPermutation (filtered conditions (behind n found)) (matches conditions others s) × AreMatches (suc n) left found

  from_matches : (n : ℕ) (left : List Bindings) (found : List Row) → AreMatches n left found → IsPermutation (optional_rows conditions n left found) (left_join left others conditions)
  from_matches n [] found h = IsPermutation-refl []
  from_matches n (s ∷ left) found h =
      let own = or_itself s (filtered conditions (behind n found)) in
      let rest = optional_rows conditions (suc n) left found in
      let one = left_join (s ∷ []) others conditions in
      let more = left_join left others conditions in
      IsPermutation-trans (own ++ rest) (one ++ more) (left_join (s ∷ left) others conditions)
      (IsPermutation-append own one rest more
      (subst (λ (v : List Bindings). IsPermutation own v) (sym (one_row s)) (or_itself_moves s (filtered conditions (behind n found)) (matches conditions others s) h.0))
      (from_matches (suc n) left found h.1))
      (IsPermutation-sym (left_join (s ∷ left) others conditions) (one ++ more) (left_join_splits (s ∷ []) left others conditions))

-- ---- rows under their numbers

abbrev is_of : ℕ → Row → Bool
is_of k r = r.origin == k

behind_moves : (k : ℕ) (found others : List Row) → IsPermutation found others → IsPermutation (behind k found) (behind k others)
behind_moves k found others h =
    same_rows_from (behind k found) (behind k others)
    (λ w.
    sum_by-map w (λ (r : Row). r.solution) (filter (is_of k) found)
    ∙ sum_by-filter (λ (r : Row). w r.solution) (is_of k) found
    ∙ weights_from found others h (λ (r : Row). cond (is_of k r) (w r.solution) 0)
    ∙ sym (sum_by-filter (λ (r : Row). w r.solution) (is_of k) others)
    ∙ sym (sum_by-map w (λ (r : Row). r.solution) (filter (is_of k) others)))

either_one : (b : Bool) (rows : List Row) → rows ≡ cond b rows rows
either_one true rows = refl
either_one false rows = refl

all_of_one : (k n : ℕ) (ss : List Bindings) → filter (is_of k) (map (row_of n) ss) ≡ cond (n == k) (map (row_of n) ss) []
all_of_one k n [] = either_one (n == k) []
all_of_one k n (s ∷ ss) = by (n == k) (all_of_one k n ss)
  where
    by : (b : Bool) → filter (is_of k) (map (row_of n) ss) ≡ cond b (map (row_of n) ss) []
        → cond b (row_of n s ∷ filter (is_of k) (map (row_of n) ss)) (filter (is_of k) (map (row_of n) ss)) ≡ cond b (row_of n s ∷ map (row_of n) ss) []
    by true rest = ap (λ (v : List Row). row_of n s ∷ v) rest
    by false rest = rest

module _ (graph : List Triple) (k : ℕ) where
  -- a step keeps the numbers
  step_of_one : (u : unit.Unit) (rows : List Row) → filter (is_of k) (step graph u rows) ≡ step graph u (filter (is_of k) rows)
  step_of_one u [] = refl
  step_of_one u (r ∷ rows) =
      filter-append (is_of k) (row_step graph u r) (step graph u rows)
      ∙ ap (λ (v : List Row). v ++ filter (is_of k) (step graph u rows)) (all_of_one k r.origin (filtered u.filters (merges (bgp graph u.patterns) r.solution)))
      ∙ ap (λ (v : List Row). cond (r.origin == k) (row_step graph u r) [] ++ v) (step_of_one u rows)
      ∙ by (r.origin == k)
    where
      by : (b : Bool) → cond b (row_step graph u r) [] ++ step graph u (filter (is_of k) rows) ≡ step graph u (cond b (r ∷ filter (is_of k) rows) (filter (is_of k) rows))
      by true = refl
      by false = refl

  stepped_of_one : (us : List unit.Unit) (rows : List Row) → filter (is_of k) (stepped graph us rows) ≡ stepped graph us (filter (is_of k) rows)
  stepped_of_one [] rows = refl
  stepped_of_one (u ∷ us) rows = stepped_of_one us (step graph u rows) ∙ ap (stepped graph us) (step_of_one u rows)

differs : (n k : ℕ) → k < n → (n == k) ≡ false
differs n k h = grind (arith, nat_tests)

differs_below : (n k : ℕ) → n < k → (n == k) ≡ false
differs_below n k h = grind (arith, nat_tests)

is_itself : (n : ℕ) → (n == n) ≡ true
is_itself n = grind (arith, nat_tests)

none_behind : (k n : ℕ) (left : List Bindings) → k < n → filter (is_of k) (numbered n left) ≡ []
none_behind k n [] h = refl
none_behind k n (s ∷ left) h =
    ap (λ (b : Bool). cond b (row_of n s ∷ filter (is_of k) (numbered (suc n) left)) (filter (is_of k) (numbered (suc n) left))) (differs n k h) ∙ none_behind k (suc n) left (omega (arith, h))

one_at : (n : ℕ) (s : Bindings) (left : List Bindings) → filter (is_of n) (numbered n (s ∷ left)) ≡ row_of n s ∷ []
one_at n s left =
    ap (λ (b : Bool). cond b (row_of n s ∷ filter (is_of n) (numbered (suc n) left)) (filter (is_of n) (numbered (suc n) left))) (is_itself n)
    ∙ ap (λ (v : List Row). row_of n s ∷ v) (none_behind n (suc n) left (omega arith))

later : (k n : ℕ) (s : Bindings) (left : List Bindings) → n < k → filter (is_of k) (numbered n (s ∷ left)) ≡ filter (is_of k) (numbered (suc n) left)
later k n s left h = ap (λ (b : Bool). cond b (row_of n s ∷ filter (is_of k) (numbered (suc n) left)) (filter (is_of k) (numbered (suc n) left))) (differs_below n k h)

-- ---- conditions among which the filters are

all_hold : (conditions : List Expr) (s : Bindings) → list_all (is_so s) conditions ≡ true → (es : List Expr) → AllByRecursion (Contains conditions) es → list_all (is_so s) es ≡ true
all_hold conditions s h [] c = refl
all_hold conditions s h (e ∷ es) c = and_true (is_so s e) (list_all (is_so s) es) (one_holds conditions s e h (among_from conditions e c.0)) (all_hold conditions s h es c.1)

holds_more : (conditions es : List Expr) → AllByRecursion (Contains conditions) es → (s : Bindings) → holds (es ++ conditions) s ≡ holds conditions s
unfolding holds
holds_more conditions es own s = list_all-append (is_so s) es conditions ∙ by (list_all (is_so s) conditions) refl
  where
    by : (b : Bool) → list_all (is_so s) conditions ≡ b → (list_all (is_so s) es && list_all (is_so s) conditions) ≡ list_all (is_so s) conditions
    by true e = ap (λ (b : Bool). b && list_all (is_so s) conditions) (all_hold conditions s e es own)
    by false e = ap (λ (b : Bool). list_all (is_so s) es && b) e ∙ either (list_all (is_so s) es) ∙ sym e
      where
        either : (b : Bool) → (b && false) ≡ false
        either true = refl
        either false = refl

filtered_more : (conditions es : List Expr) (rows : List Bindings) → AllByRecursion (Contains conditions) es → filtered conditions (filtered es rows) ≡ filtered conditions rows
filtered_more conditions es rows own = filtered_both es conditions rows ∙ ap (λ (p : Bindings → Bool). filter p rows) (λ i s. holds_more conditions es own s i)

-- ---- the laws

-- the rows of the left from a number on stand among all of them
abbrev StandIn : List Row → ℕ → List Bindings → Type 0
StandIn whole n left = (k : ℕ) → n ≤ k → filter (is_of k) whole ≡ filter (is_of k) (numbered n left)

stand_later : (whole : List Row) (n : ℕ) (s : Bindings) (left : List Bindings) → StandIn whole n (s ∷ left) → StandIn whole (suc n) left
stand_later whole n s left h = λ k le. h k (omega (arith, le)) ∙ later k n s left (omega (arith, le))

one_in : (whole : List Row) (n : ℕ) (s : Bindings) (left : List Bindings) → StandIn whole n (s ∷ left) → filter (is_of n) whole ≡ row_of n s ∷ []
one_in whole n s left h = h n (omega arith) ∙ one_at n s left

module _ (graph : List Triple) (us : List unit.Unit) (conditions : List Expr) (others : List Bindings) (own : AllByRecursion HasItsVariables us) (among : AllByRecursion (Contains conditions) (unit_filters us))
    (same : IsPermutation (bgp graph (unit_patterns us)) others) (whole found : List Row) (is : IsPermutation found (stepped graph us whole)) where
  its_matches : (n : ℕ) (s : Bindings) → IsTrue (rises s) → filter (is_of n) whole ≡ row_of n s ∷ [] → IsPermutation (filtered conditions (behind n found)) (matches conditions others s)
  its_matches n s up e =
      let run = bgp graph (unit_patterns us) in
      let alone : filtered conditions (behind n (stepped graph us whole)) ≡ filtered conditions (join (s ∷ []) run) =
      ap (λ (v : List Row). filtered conditions (solutions_of v)) (stepped_of_one graph n us whole ∙ ap (stepped graph us) e)
      ∙ ap (filtered conditions) (steps_join graph us (row_of n s ∷ []) (up, tt) own)
      ∙ filtered_more conditions (unit_filters us) (join (s ∷ []) run) among in
      IsPermutation-trans (filtered conditions (behind n found)) (filtered conditions (join (s ∷ []) run)) (matches conditions others s)
      (subst (λ (v : List Bindings). IsPermutation (filtered conditions (behind n found)) v) alone (filtered_moves conditions (behind n found) (behind n (stepped graph us whole)) (behind_moves n found (stepped graph us whole) is)))
      (subst (λ (v : List Bindings). IsPermutation (filtered conditions (join (s ∷ []) run)) (filtered conditions v)) (append-nil (merges others s))
      (filtered_moves conditions (join (s ∷ []) run) (join (s ∷ []) others) (same_join (s ∷ []) (s ∷ []) run others (IsPermutation-refl (s ∷ [])) same)))

  all_matches : (n : ℕ) (left : List Bindings) → AllByRecursion (λ s. IsTrue (rises s)) left → StandIn whole n left → AreMatches conditions others n left found
  all_matches n [] up h = tt
  all_matches n (s ∷ left) up h = (its_matches n s up.0 (one_in whole n s left h), all_matches (suc n) left up.1 (stand_later whole n s left h))

optional_is_the_left_join : OptionalIsTheLeftJoin
optional_is_the_left_join graph us run conditions left found sorted up own among moved is =
    let others = bgp graph run in
    from_matches conditions others 0 left found
    (all_matches graph us conditions others (recursion_from_All HasItsVariables us own) (recursion_from_All (Contains conditions) (unit_filters us) among) (bgp_moves graph (unit_patterns us) run sorted moved) (numbered 0 left) found is 0 left
    (recursion_from_All (λ s. IsTrue (rises s)) left up)
    (λ k le. refl))

all_in_front : (conditions es fs : List Expr) → AllByRecursion (Contains conditions) es → AllByRecursion (Contains conditions) fs → AllByRecursion (Contains conditions) (es ++ fs)
all_in_front conditions [] fs h k = k
all_in_front conditions (e ∷ es) fs h k = (h.0, all_in_front conditions es fs h.1 k)

all_own : (conditions : List Expr) (us : List unit.Unit) → AllByRecursion (λ u. AllByRecursion (Contains conditions) u.filters) us → AllByRecursion (Contains conditions) (unit_filters us)
all_own conditions [] h = tt
all_own conditions (u ∷ us) h = all_in_front conditions u.filters (unit_filters us) h.0 (all_own conditions us h.1)

optional_of_a_plan : OptionalOfAPlan
optional_of_a_plan graph run sources filters bound left found sorted up same is =
    let us = plan run sources filters bound in
    let own = filters_of_run (Contains filters) run sources filters bound (recursion_from_All (Contains filters) filters (All-contains_itself filters)) in
    optional_is_the_left_join graph us run filters left found sorted up
    (λ k d h. let own = filters_are_own run sources filters bound k d h in λ i e low. (own i e low).covered)
    (All-from_recursion (Contains filters) (unit_filters us) (all_own filters us (recursion_from_All (λ u. AllByRecursion (Contains filters) u.filters) us own)))
    (plan_is_of_the_run run sources filters bound same) is

filters_match : (conditions : List Expr) (whole : List Row) (n : ℕ) (left : List Bindings) → StandIn whole n left → AreMatches conditions one_empty n left whole
filters_match conditions whole n [] h = tt
filters_match conditions whole n (s ∷ left) h = (
  same_as (filtered conditions (behind n whole)) (matches conditions one_empty s)
      (ap (λ (v : List Row). filtered conditions (solutions_of v)) (one_in whole n s left h)
      ∙ ap (filtered conditions) (sym (join_one (s ∷ [])) ∙ append-nil (merges one_empty s))),
  filters_match conditions whole (suc n) left (stand_later whole n s left h),
)

optional_of_filters : OptionalOfFilters
optional_of_filters conditions left = from_matches conditions one_empty 0 left (numbered 0 left) (filters_match conditions (numbered 0 left) 0 left (λ k le. refl))

pub optional_laws : OptionalLaws
optional_laws = record { left_join = optional_is_the_left_join; of_a_plan = optional_of_a_plan; of_filters = optional_of_filters }
