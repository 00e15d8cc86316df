-- What holds of each unit of a plan.
use Rattle.std.proofs.Common.{◌≡◌, ◌∙◌, ap, sym, refl, ℕ, zero, suc, ◌<◌, ◌⊎◌, inl, inr, Bool, true, false, not, cond, ◌&&◌, if◌then◌else◌, List, [], ◌∷◌, ◌++◌, map, filter, length, All, Option, Some, None, arith}
use Rattle.std.specs.List.{AllByRecursion, zip}
use Rattle.std.specs.Prelude.{◌==◌}
use Rattle.std.proofs.lemmas.Bool.Decides.{nat_tests}
use Rattle.std.proofs.lemmas.List.Elements.{All-from_recursion}
use Rattle.fx_terms.specs.declared.patterns.Pattern.{Pattern}
use Rattle.fx_terms.specs.declared.triples.Triple.{Triple}
use Rattle.fx_algebra.specs.BasicGraphPatterns.{variables}
use Rattle.fx_algebra.specs.Units.{is_covered, is_pushable, sources}
use Rattle.fx_algebra.specs.declared.expressions.Expr.{Expr}
use Rattle.fx_algebra.specs.declared.units.Unit as unit
use Rattle.fx_plan.specs.Laws.{FiltersAreOwn, IsAsked, IsComplete, IsExclusive, IsGroup, IsOwn, IsSingle, NoSourceIsLeftOut, UnitsAreOfTheRun}
use Rattle.fx_plan.specs.Plans.{Asked, by_position, in_front, in_order, is_group_of, is_only, is_sooner, next, only_source, patterns_of, plan, pushed, shared, taken}

-- ---- all of a list, by recursion

module _ {X : Type 0} where
  each_filter : (P : X → Type 0) (p : X → Bool) (xs : List X) → AllByRecursion P xs → AllByRecursion P (filter p xs)
  each_filter P p [] h = tt
  each_filter P p (x ∷ xs) h = by (each_filter P p xs h.1) (p x)
    where
      by : AllByRecursion P (filter p xs) → (b : Bool) → AllByRecursion P (cond b (x ∷ filter p xs) (filter p xs))
      by rest true = (h.0, rest)
      by rest false = rest

  each_weaker : (P Q : X → Type 0) → ((x : X) → P x → Q x) → (xs : List X) → AllByRecursion P xs → AllByRecursion Q xs
  each_weaker P Q f [] h = tt
  each_weaker P Q f (x ∷ xs) h = (f x h.0, each_weaker P Q f xs h.1)

  each_passes : (p : X → Bool) (xs : List X) → AllByRecursion (λ x. p x ≡ true) (filter p xs)
  each_passes p [] = tt
  each_passes p (x ∷ xs) = by (each_passes p xs) (p x) refl
    where
      by : AllByRecursion (λ y. p y ≡ true) (filter p xs) → (b : Bool) → p x ≡ b → AllByRecursion (λ y. p y ≡ true) (cond b (x ∷ filter p xs) (filter p xs))
      by rest true e = (e, rest)
      by rest false e = rest

  each_both : (P Q : X → Type 0) (xs : List X) → AllByRecursion P xs → AllByRecursion Q xs → AllByRecursion (λ x. P x × Q x) xs
  each_both P Q [] h k = tt
  each_both P Q (x ∷ xs) h k = ((h.0, k.0), each_both P Q xs h.1 k.1)

-- ---- the order takes each unit

module _ (P : unit.Unit → Type 0) (known : List (List ℕ)) where
  of_next : (u : unit.Unit) (us : List unit.Unit) → P u → AllByRecursion P us → P (next known u us).0 × AllByRecursion P (next known u us).1
  of_next u [] h k = (h, tt)
  of_next u (v ∷ vs) h k = by (of_next v vs k.0 k.1) (is_sooner known (next known v vs).0 u)
    where
      by : P (next known v vs).0 × AllByRecursion P (next known v vs).1 → (b : Bool) →
          (λ (r : unit.Unit × List unit.Unit). P r.0 × AllByRecursion P r.1) (if b then ((next known v vs).0, u ∷ (next known v vs).1) else (u, v ∷ vs))
      by r true = (r.0, (h, r.1))
      by r false = (h, k)

of_taken : (P : unit.Unit → Type 0) (n : ℕ) (known : List (List ℕ)) (us : List unit.Unit) → AllByRecursion P us → AllByRecursion P (taken n known us)
of_taken P zero known us h = tt
of_taken P (suc n) known [] h = tt
of_taken P (suc n) known (u ∷ us) h =
    let r = of_next P known u us h.0 h.1 in
    (r.0, of_taken P n (known ++ variables (next known u us).0.patterns) (next known u us).1 r.1)

-- ---- filters

own_filters : (ps : List Pattern) (es : List Expr) → AllByRecursion (λ e. is_pushable e ≡ true) es → All (IsOwn ps) (filter (is_covered ps) es)
own_filters ps es h =
    All-from_recursion (IsOwn ps) (filter (is_covered ps) es)
    (each_weaker (λ e. (is_pushable e ≡ true) × (is_covered ps e ≡ true)) (IsOwn ps) (λ e t. record { pushable = t.0; covered = t.1 }) (filter (is_covered ps) es)
    (each_both (λ e. is_pushable e ≡ true) (λ e. is_covered ps e ≡ true) (filter (is_covered ps) es) (each_filter (λ e. is_pushable e ≡ true) (is_covered ps) es h) (each_passes (is_covered ps) es)))

own_shared : (es : List Expr) (us : List unit.Unit) → AllByRecursion (λ e. is_pushable e ≡ true) es → AllByRecursion (λ u. All (IsOwn u.patterns) u.filters) (shared es us)
own_shared es [] h = tt
own_shared es (u ∷ us) h = (own_filters u.patterns es h, own_shared (filter (λ e. not (is_covered u.patterns e)) es) us (each_filter (λ e. is_pushable e ≡ true) (λ e. not (is_covered u.patterns e)) es h))

-- what holds of each filter of the run holds of those that go with a unit
filters_shared : (P : Expr → Type 0) (es : List Expr) (us : List unit.Unit) → AllByRecursion P es → AllByRecursion (λ u. AllByRecursion P u.filters) (shared es us)
filters_shared P es [] h = tt
filters_shared P es (u ∷ us) h = (each_filter P (is_covered u.patterns) es h, filters_shared P (filter (λ e. not (is_covered u.patterns e)) es) us (each_filter P (λ e. not (is_covered u.patterns e)) es h))

pub filters_of_run : (P : Expr → Type 0) (run : List Pattern) (asked : List (List ℕ)) (filters : List Expr) (bound : List (List ℕ)) → AllByRecursion P filters → All (λ u. AllByRecursion P u.filters) (plan run asked filters bound)
filters_of_run P run asked filters bound h =
    let us = pushed filters (by_position (zip run asked)) in
    All-from_recursion (λ u. AllByRecursion P u.filters) (in_order bound us)
    (of_taken (λ u. AllByRecursion P u.filters) (length us) bound us (filters_shared P (filter is_pushable filters) (by_position (zip run asked)) (each_filter P is_pushable filters h)))

pub filters_are_own : FiltersAreOwn
filters_are_own run asked filters bound =
    let us = pushed filters (by_position (zip run asked)) in
    All-from_recursion (λ u. All (IsOwn u.patterns) u.filters) (in_order bound us)
    (of_taken (λ u. All (IsOwn u.patterns) u.filters) (length us) bound us (own_shared (filter is_pushable filters) (by_position (zip run asked)) (each_passes is_pushable filters)))

-- ---- groups and singles

-- a group or a single, by recursion over its patterns
abbrev IsOf : List Asked → unit.Unit → Type 0
IsOf asked u = ((m : ℕ) × (u.members ≡ m ∷ []) × (0 < length u.patterns) × AllByRecursion (λ p. IsAsked asked (p, m ∷ [])) u.patterns) ⊎ ((p : Pattern) × (u.patterns ≡ p ∷ []) × IsAsked asked (p, u.members))

later : (asked : List Asked) (a : Asked) (u : unit.Unit) → IsOf asked u → IsOf (a ∷ asked) u
later asked a u (inl t) = inl (t.0, t.1, t.2, each_weaker (λ p. IsAsked asked (p, t.0 ∷ [])) (λ p. IsAsked (a ∷ asked) (p, t.0 ∷ [])) (λ p h. inr h) u.patterns t.3)
later asked a u (inr t) = inr (t.0, t.1, inr t.2)

and_true : (b c : Bool) → (b && c) ≡ true → (b ≡ true) × (c ≡ true)
and_true true c e = (refl, e)
and_true false c e = cc

only_is : (m : ℕ) (ms : List ℕ) → is_only m ms ≡ true → ms ≡ m ∷ []
only_is m [] e = cc
only_is m (k ∷ []) e = ap (λ (n : ℕ). n ∷ []) (same k m (and_true (k == m) true e).0)
  where
    same : (k m : ℕ) → (k == m) ≡ true → k ≡ m
    same k m e = grind (arith, nat_tests)
only_is m (k ∷ j ∷ ms) e = let f : false ≡ true = (and_true (k == m) false e).1 in absurd (cc)

source_is : (m : ℕ) (ms : List ℕ) → only_source ms ≡ Some m → ms ≡ m ∷ []
source_is m [] e = cc
source_is m (k ∷ []) e = ap (λ (n : ℕ). n ∷ []) (cc)
source_is m (k ∷ j ∷ ms) e = cc

of_patterns : (m : ℕ) (asked : List Asked) → AllByRecursion (λ p. IsAsked asked (p, m ∷ [])) (patterns_of m asked)
of_patterns m [] = tt
of_patterns m (a ∷ asked) = by (each_weaker (λ p. IsAsked asked (p, m ∷ [])) (λ p. IsAsked (a ∷ asked) (p, m ∷ [])) (λ p h. inr h) (patterns_of m asked) (of_patterns m asked)) (is_only m a.1) refl
  where
    by : AllByRecursion (λ p. IsAsked (a ∷ asked) (p, m ∷ [])) (patterns_of m asked) → (b : Bool) → is_only m a.1 ≡ b →
        AllByRecursion (λ p. IsAsked (a ∷ asked) (p, m ∷ [])) (map (λ (x : Asked). x.0) (cond b (a ∷ filter (λ (x : Asked). is_only m x.1) asked) (filter (λ (x : Asked). is_only m x.1) asked)))
    by rest true e = (inl (λ i. (a.0, only_is m a.1 e i)), rest)
    by rest false e = rest

of_position : (asked : List Asked) → AllByRecursion (IsOf asked) (by_position asked)
of_position [] = tt
of_position (a ∷ asked) = by (each_weaker (IsOf asked) (IsOf (a ∷ asked)) (later asked a) (by_position asked) (of_position asked)) (only_source a.1) refl
  where
    by : AllByRecursion (IsOf (a ∷ asked)) (by_position asked) → (o : Option ℕ) → only_source a.1 ≡ o → AllByRecursion (IsOf (a ∷ asked)) (in_front a asked o (by_position asked))
    by rest None e = (inr (a.0, refl, inl refl), rest)
    by rest (Some m) e = (
      inl (m, refl, omega arith, (inl (λ i. (a.0, source_is m a.1 e i)), each_weaker (λ p. IsAsked asked (p, m ∷ [])) (λ p. IsAsked (a ∷ asked) (p, m ∷ [])) (λ p h. inr h) (patterns_of m asked) (of_patterns m asked))),
      each_filter (IsOf (a ∷ asked)) (λ u. not (is_group_of m u)) (by_position asked) rest,
    )

of_shared : (asked : List Asked) (es : List Expr) (us : List unit.Unit) → AllByRecursion (IsOf asked) us → AllByRecursion (IsOf asked) (shared es us)
of_shared asked es [] h = tt
of_shared asked es (u ∷ us) h = (h.0, of_shared asked (filter (λ e. not (is_covered u.patterns e)) es) us h.1)

of_plan : (run : List Pattern) (asked : List (List ℕ)) (filters : List Expr) (bound : List (List ℕ)) → AllByRecursion (IsOf (zip run asked)) (plan run asked filters bound)
of_plan run asked filters bound =
    let us = pushed filters (by_position (zip run asked)) in
    of_taken (IsOf (zip run asked)) (length us) bound us (of_shared (zip run asked) (filter is_pushable filters) (by_position (zip run asked)) (of_position (zip run asked)))

is_of : (asked : List Asked) (u : unit.Unit) → IsOf asked u → IsGroup asked u ⊎ IsSingle asked u
is_of asked u (inl t) = inl (record { member = t.0; alone = t.1; some = t.2; only = All-from_recursion (λ p. IsAsked asked (p, t.0 ∷ [])) u.patterns t.3 })
is_of asked u (inr t) = inr (record { pattern = t.0; alone = t.1; its = t.2 })

pub units_are_of_the_run : UnitsAreOfTheRun
units_are_of_the_run run asked filters bound =
    All-from_recursion (λ u. IsGroup (zip run asked) u ⊎ IsSingle (zip run asked) u) (plan run asked filters bound)
    (each_weaker (IsOf (zip run asked)) (λ u. IsGroup (zip run asked) u ⊎ IsSingle (zip run asked) u) (is_of (zip run asked)) (plan run asked filters bound) (of_plan run asked filters bound))

-- ---- true sources

true_source : (graphs : List (List Triple)) (run : List Pattern) (p : Pattern) (ms : List ℕ) → IsAsked (zip run (map (sources graphs) run)) (p, ms) → ms ≡ sources graphs p
true_source graphs [] p ms h = absurd h
true_source graphs (q ∷ run) p ms (inl e) = sym (ap (λ (a : Asked). a.1) e) ∙ ap (λ (a : Asked). sources graphs a.0) e
true_source graphs (q ∷ run) p ms (inr h) = true_source graphs run p ms h

is_true : (graphs : List (List Triple)) (run : List Pattern) (u : unit.Unit) → IsOf (zip run (map (sources graphs) run)) u → IsExclusive graphs u ⊎ IsComplete graphs u
is_true graphs run u (inl t) = inl (record {
  member = t.0;
  alone = t.1;
  some = t.2;
  only =
      All-from_recursion (λ p. sources graphs p ≡ t.0 ∷ []) u.patterns
      (each_weaker (λ p. IsAsked (zip run (map (sources graphs) run)) (p, t.0 ∷ [])) (λ p. sources graphs p ≡ t.0 ∷ []) (λ p h. sym (true_source graphs run p (t.0 ∷ []) h)) u.patterns t.3);
})
is_true graphs run u (inr t) = inr (record { pattern = t.0; alone = t.1; all = true_source graphs run t.0 u.members t.2 })

pub no_source_is_left_out : NoSourceIsLeftOut
no_source_is_left_out graphs run filters bound =
    All-from_recursion (λ u. IsExclusive graphs u ⊎ IsComplete graphs u) (plan run (map (sources graphs) run) filters bound)
    (each_weaker (IsOf (zip run (map (sources graphs) run))) (λ u. IsExclusive graphs u ⊎ IsComplete graphs u) (is_true graphs run) (plan run (map (sources graphs) run) filters bound) (of_plan run (map (sources graphs) run) filters bound))
