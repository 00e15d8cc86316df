-- The units of a plan have the patterns of its run, each as often as it stands there.
use Rattle.std.proofs.Common.{◌≡◌, ◌∙◌, ap, sym, subst, refl, ℕ, zero, suc, Bool, true, false, not, cond, ◌&&◌, if◌then◌else◌, List, [], ◌∷◌, ◌++◌, map, filter, length, Option, Some, None, IsPermutation, arith, append-nil, append_assoc}
use Rattle.std.specs.Prelude.{◌==◌}
use Rattle.std.specs.List.{zip}
use Rattle.std.proofs.lemmas.Bool.Decides.{nat_tests}
use Rattle.std.proofs.lemmas.List.Sorted.{IsPermutation-refl, IsPermutation-trans, IsPermutation-cons, IsPermutation-append_comm, IsPermutation-append_left, IsPermutation-append_right}
use Rattle.fx_terms.specs.declared.patterns.Pattern.{Pattern}
use Rattle.fx_algebra.specs.BasicGraphPatterns.{variables}
use Rattle.fx_algebra.specs.Units.{is_covered, is_empty, is_pushable}
use Rattle.fx_algebra.specs.declared.expressions.Expr.{Expr}
use Rattle.fx_algebra.specs.declared.units.Unit as unit
use Rattle.fx_plan.specs.Plans.{Asked, by_position, group_of, in_front, in_order, is_group_of, is_only, is_sooner, next, only_source, patterns_of, pushed, shared, taken}
use Rattle.fx_steps.specs.Steps.{PlanIsOfTheRun, unit_patterns}

-- ---- lists in front of each other

pub same_as : {X : Type 0} (xs ys : List X) → xs ≡ ys → IsPermutation xs ys
same_as xs ys e = subst (λ v. IsPermutation xs v) e (IsPermutation-refl xs)

pub swap_fronts : {X : Type 0} (xs ys zs : List X) → IsPermutation (xs ++ (ys ++ zs)) (ys ++ (xs ++ zs))
swap_fronts xs ys zs =
    subst (λ v. IsPermutation v (ys ++ (xs ++ zs))) (append_assoc xs ys zs)
    (subst (λ v. IsPermutation ((xs ++ ys) ++ zs) v) (append_assoc ys xs zs) (IsPermutation-append_left zs (xs ++ ys) (ys ++ xs) (IsPermutation-append_comm xs ys)))

-- ---- the order takes each unit

module _ (known : List (List ℕ)) where
  next_patterns : (u : unit.Unit) (us : List unit.Unit) → IsPermutation (unit_patterns ((next known u us).0 ∷ (next known u us).1)) (unit_patterns (u ∷ us))
  next_patterns u [] = IsPermutation-refl (unit_patterns (u ∷ []))
  next_patterns u (v ∷ vs) = by (is_sooner known (next known v vs).0 u) (next_patterns v vs)
    where
      by : (b : Bool) → IsPermutation (unit_patterns ((next known v vs).0 ∷ (next known v vs).1)) (unit_patterns (v ∷ vs))
          → (λ (r : unit.Unit × List unit.Unit). IsPermutation (unit_patterns (r.0 ∷ r.1)) (unit_patterns (u ∷ v ∷ vs))) (if b then ((next known v vs).0, u ∷ (next known v vs).1) else (u, v ∷ vs))
      by true rest =
          let l = next known v vs in
          IsPermutation-trans (l.0.patterns ++ (u.patterns ++ unit_patterns l.1)) (u.patterns ++ (l.0.patterns ++ unit_patterns l.1)) (u.patterns ++ unit_patterns (v ∷ vs))
          (swap_fronts l.0.patterns u.patterns (unit_patterns l.1))
          (IsPermutation-append_right u.patterns (l.0.patterns ++ unit_patterns l.1) (unit_patterns (v ∷ vs)) rest)
      by false rest = IsPermutation-refl (unit_patterns (u ∷ v ∷ vs))

  next_length : (u : unit.Unit) (us : List unit.Unit) → length (next known u us).1 ≡ length us
  next_length u [] = refl
  next_length u (v ∷ vs) = by (is_sooner known (next known v vs).0 u) (next_length v vs)
    where
      by : (b : Bool) → length (next known v vs).1 ≡ length vs → (λ (r : unit.Unit × List unit.Unit). length r.1 ≡ suc (length vs)) (if b then ((next known v vs).0, u ∷ (next known v vs).1) else (u, v ∷ vs))
      by true rest = ap suc rest
      by false rest = refl

taken_patterns : (n : ℕ) (known : List (List ℕ)) (us : List unit.Unit) → length us ≡ n → IsPermutation (unit_patterns (taken n known us)) (unit_patterns us)
taken_patterns zero known [] e = IsPermutation-refl []
taken_patterns zero known (u ∷ us) e = absurd (cc)
taken_patterns (suc n) known [] e = absurd (cc)
taken_patterns (suc n) known (u ∷ us) e =
    let first = next known u us in
    let left : length first.1 ≡ n = (let l = next_length known u us in omega (arith, l, e)) in
    let rest = taken n (known ++ variables first.0.patterns) first.1 in
    IsPermutation-trans (first.0.patterns ++ unit_patterns rest) (first.0.patterns ++ unit_patterns first.1) (unit_patterns (u ∷ us))
    (IsPermutation-append_right first.0.patterns (unit_patterns rest) (unit_patterns first.1) (taken_patterns n (known ++ variables first.0.patterns) first.1 left))
    (next_patterns known u us)

-- ---- filters change no pattern

shared_patterns : (es : List Expr) (us : List unit.Unit) → unit_patterns (shared es us) ≡ unit_patterns us
shared_patterns es [] = refl
shared_patterns es (u ∷ us) = ap (λ (v : List Pattern). u.patterns ++ v) (shared_patterns (filter (λ e. not (is_covered u.patterns e)) es) us)

-- ---- units by position

abbrev asked_patterns : List Asked → List Pattern
asked_patterns asked = map (λ (a : Asked). a.0) asked

-- those that pass a test and those that don't
split_patterns : (p : unit.Unit → Bool) (us : List unit.Unit) → IsPermutation (unit_patterns (filter p us) ++ unit_patterns (filter (λ u. not (p u)) us)) (unit_patterns us)
split_patterns p [] = IsPermutation-refl []
split_patterns p (u ∷ us) = by (p u) (split_patterns p us)
  where
    by : (b : Bool) → IsPermutation (unit_patterns (filter p us) ++ unit_patterns (filter (λ v. not (p v)) us)) (unit_patterns us)
        → IsPermutation (unit_patterns (cond b (u ∷ filter p us) (filter p us)) ++ unit_patterns (cond (not b) (u ∷ filter (λ v. not (p v)) us) (filter (λ v. not (p v)) us))) (unit_patterns (u ∷ us))
    by true h =
        subst (λ (v : List Pattern). IsPermutation v (unit_patterns (u ∷ us))) (sym (append_assoc u.patterns (unit_patterns (filter p us)) (unit_patterns (filter (λ v. not (p v)) us))))
        (IsPermutation-append_right u.patterns (unit_patterns (filter p us) ++ unit_patterns (filter (λ v. not (p v)) us)) (unit_patterns us) h)
    by false h =
        IsPermutation-trans (unit_patterns (filter p us) ++ (u.patterns ++ unit_patterns (filter (λ v. not (p v)) us))) (u.patterns ++ (unit_patterns (filter p us) ++ unit_patterns (filter (λ v. not (p v)) us))) (unit_patterns (u ∷ us))
        (swap_fronts (unit_patterns (filter p us)) u.patterns (unit_patterns (filter (λ v. not (p v)) us)))
        (IsPermutation-append_right u.patterns (unit_patterns (filter p us) ++ unit_patterns (filter (λ v. not (p v)) us)) (unit_patterns us) h)

-- none of those that don't pass passes
none_pass : (p : unit.Unit → Bool) (us : List unit.Unit) → filter p (filter (λ u. not (p u)) us) ≡ []
none_pass p [] = refl
none_pass p (u ∷ us) = by (p u) refl (none_pass p us)
  where
    by : (b : Bool) → p u ≡ b → filter p (filter (λ v. not (p v)) us) ≡ [] → filter p (cond (not b) (u ∷ filter (λ v. not (p v)) us) (filter (λ v. not (p v)) us)) ≡ []
    by true e h = h
    by false e h = ap (λ (b : Bool). cond b (u ∷ filter p (filter (λ v. not (p v)) us)) (filter p (filter (λ v. not (p v)) us))) e ∙ h

-- where what passes the one test doesn't pass the other, leaving out the others changes nothing
others_pass : (p q : unit.Unit → Bool) → ((u : unit.Unit) → p u ≡ true → q u ≡ false) → (us : List unit.Unit) → filter p (filter (λ u. not (q u)) us) ≡ filter p us
others_pass p q apart [] = refl
others_pass p q apart (u ∷ us) = by (p u) refl (q u) refl (others_pass p q apart us)
  where
    by : (b : Bool) → p u ≡ b → (c : Bool) → q u ≡ c → filter p (filter (λ v. not (q v)) us) ≡ filter p us
        → filter p (cond (not c) (u ∷ filter (λ v. not (q v)) us) (filter (λ v. not (q v)) us)) ≡ cond b (u ∷ filter p us) (filter p us)
    by true e true f h = let no : true ≡ false = sym f ∙ apart u e in absurd (cc)
    by true e false f h = ap (λ (b : Bool). cond b (u ∷ filter p (filter (λ v. not (q v)) us)) (filter p (filter (λ v. not (q v)) us))) e ∙ ap (λ (v : List unit.Unit). u ∷ v) h
    by false e true f h = h
    by false e false f h = ap (λ (b : Bool). cond b (u ∷ filter p (filter (λ v. not (q v)) us)) (filter p (filter (λ v. not (q v)) us))) e ∙ h

two_numbers : (m k n : ℕ) → (m == k) ≡ false → (n == m) ≡ true → (n == k) ≡ false
two_numbers m k n e f = grind (arith, nat_tests)

both_false : (b c : Bool) → b ≡ false → (b && c) ≡ false
both_false true c e = cc
both_false false c e = refl

first_true : (b c : Bool) → (b && c) ≡ true → b ≡ true
first_true true c e = refl
first_true false c e = cc

second_true : (b c : Bool) → (b && c) ≡ true → c ≡ true
second_true true c e = e
second_true false c e = cc

second_false : (b c : Bool) → c ≡ false → (b && c) ≡ false
second_false true c e = e
second_false false c e = refl

one_member : (m k : ℕ) → (m == k) ≡ false → (ms : List ℕ) → is_only m ms ≡ true → is_only k ms ≡ false
one_member m k e [] h = refl
one_member m k e (n ∷ ns) h = both_false (n == k) (is_empty ns) (two_numbers m k n e (first_true (n == m) (is_empty ns) h))

one_group : (m k : ℕ) → (m == k) ≡ false → (u : unit.Unit) → is_group_of m u ≡ true → is_group_of k u ≡ false
one_group m k e u h = second_false u.group (is_only k u.members) (one_member m k e u.members (second_true u.group (is_only m u.members) h))

equal_turned : (k m : ℕ) → (k == m) ≡ false → (m == k) ≡ false
equal_turned k m e = grind (arith, nat_tests)

equal_numbers : (k m : ℕ) → (k == m) ≡ true → k ≡ m
equal_numbers k m e = grind (arith, nat_tests)

and_itself : (b : Bool) → (b && true) ≡ b
and_itself true = refl
and_itself false = refl

no_only : (m : ℕ) (ms : List ℕ) → only_source ms ≡ None → is_only m ms ≡ false
no_only m [] e = refl
no_only m (k ∷ []) e = absurd (cc)
no_only m (k ∷ j ∷ ms) e = second_false (k == m) false refl

an_only : (m k : ℕ) (ms : List ℕ) → only_source ms ≡ Some k → is_only m ms ≡ (k == m)
an_only m k [] e = absurd (cc)
an_only m k (j ∷ []) e = let same : j ≡ k = cc in ap (λ (n : ℕ). (n == m) && true) same ∙ and_itself (k == m)
an_only m k (j ∷ i ∷ ms) e = absurd (cc)

-- the patterns that a member is the only source of, where another stands in front
one_more_of : (m : ℕ) (a : Asked) (rest : List Asked) → patterns_of m (a ∷ rest) ≡ cond (is_only m a.1) (a.0 ∷ patterns_of m rest) (patterns_of m rest)
one_more_of m a rest = by (is_only m a.1)
  where
    by : (b : Bool) → map (λ (x : Asked). x.0) (cond b (a ∷ filter (λ (x : Asked). is_only m x.1) rest) (filter (λ (x : Asked). is_only m x.1) rest)) ≡ cond b (a.0 ∷ patterns_of m rest) (patterns_of m rest)
    by true = refl
    by false = refl

-- the group of a member has the patterns that it is the only source of
group_patterns : (m : ℕ) (asked : List Asked) → unit_patterns (filter (is_group_of m) (by_position asked)) ≡ patterns_of m asked
group_patterns m [] = refl
group_patterns m (a ∷ rest) = by (only_source a.1) refl (group_patterns m rest) ∙ sym (one_more_of m a rest)
  where
    here : (k : ℕ) (b : Bool) → (k == m) ≡ b → unit_patterns (filter (is_group_of m) (by_position rest)) ≡ patterns_of m rest
        → unit_patterns (cond (b && true) (group_of k (a.0 ∷ patterns_of k rest) ∷ filter (is_group_of m) (filter (λ u. not (is_group_of k u)) (by_position rest))) (filter (is_group_of m) (filter (λ u. not (is_group_of k u)) (by_position rest))))
        ≡ cond b (a.0 ∷ patterns_of m rest) (patterns_of m rest)
    here k true e h =
        let same : k ≡ m = equal_numbers k m e in
        ap (λ (n : ℕ). (a.0 ∷ patterns_of n rest) ++ unit_patterns (filter (is_group_of m) (filter (λ u. not (is_group_of n u)) (by_position rest)))) same
        ∙ ap (λ (v : List unit.Unit). (a.0 ∷ patterns_of m rest) ++ unit_patterns v) (none_pass (is_group_of m) (by_position rest))
        ∙ append-nil (a.0 ∷ patterns_of m rest)
    here k false e h =
        ap unit_patterns (others_pass (is_group_of m) (is_group_of k) (one_group m k (equal_turned k m e)) (by_position rest)) ∙ h

    by : (o : Option ℕ) → only_source a.1 ≡ o → unit_patterns (filter (is_group_of m) (by_position rest)) ≡ patterns_of m rest → unit_patterns (filter (is_group_of m) (in_front a rest o (by_position rest))) ≡ cond (is_only m a.1) (a.0 ∷ patterns_of m rest) (patterns_of m rest)
    by None e h = h ∙ ap (λ (b : Bool). cond b (a.0 ∷ patterns_of m rest) (patterns_of m rest)) (sym (no_only m a.1 e))
    by (Some k) e h = here k (k == m) refl h ∙ ap (λ (b : Bool). cond b (a.0 ∷ patterns_of m rest) (patterns_of m rest)) (sym (an_only m k a.1 e))

position_patterns : (asked : List Asked) → IsPermutation (unit_patterns (by_position asked)) (asked_patterns asked)
position_patterns [] = IsPermutation-refl []
position_patterns (a ∷ rest) = by (only_source a.1) (position_patterns rest)
  where
    by : (o : Option ℕ) → IsPermutation (unit_patterns (by_position rest)) (asked_patterns rest) → IsPermutation (unit_patterns (in_front a rest o (by_position rest))) (a.0 ∷ asked_patterns rest)
    by None h = IsPermutation-cons a.0 (unit_patterns (by_position rest)) (asked_patterns rest) h
    by (Some m) h =
        let us = by_position rest in
        let others = unit_patterns (filter (λ u. not (is_group_of m u)) us) in
        IsPermutation-cons a.0 (patterns_of m rest ++ others) (asked_patterns rest)
        (IsPermutation-trans (patterns_of m rest ++ others) (unit_patterns us) (asked_patterns rest)
        (subst (λ (v : List Pattern). IsPermutation (v ++ others) (unit_patterns us)) (group_patterns m rest) (split_patterns (is_group_of m) us))
        h)

zip_patterns : (run : List Pattern) (sources : List (List ℕ)) → length run ≡ length sources → asked_patterns (zip run sources) ≡ run
zip_patterns [] [] e = refl
zip_patterns [] (s ∷ ss) e = absurd (cc)
zip_patterns (p ∷ ps) [] e = absurd (cc)
zip_patterns (p ∷ ps) (s ∷ ss) e = ap (λ (v : List Pattern). p ∷ v) (zip_patterns ps ss (omega (arith, e)))

pub plan_is_of_the_run : PlanIsOfTheRun
plan_is_of_the_run run sources filters bound same =
    let asked = zip run sources in
    let us = pushed filters (by_position asked) in
    IsPermutation-trans (unit_patterns (in_order bound us)) (unit_patterns us) run
    (taken_patterns (length us) bound us refl)
    (subst (λ (v : List Pattern). IsPermutation v run) (sym (shared_patterns (filter is_pushable filters) (by_position asked)))
    (subst (λ (v : List Pattern). IsPermutation (unit_patterns (by_position asked)) v) (zip_patterns run sources same) (position_patterns asked)))
