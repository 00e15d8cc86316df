-- The units of a run by position, beside the spots of their patterns.
use Rattle.std.proofs.Common.{◌≡◌, ◌∙◌, ap, sym, subst, refl, ℕ, ◌+◌, ◌<◌, ◌⊎◌, inl, inr, Bool, true, false, not, cond, ◌&&◌, List, [], ◌∷◌, ◌++◌, map, filter, length, AllPairs, Option, Some, None, IsPermutation, arith, append_assoc, append-nil}
use Rattle.std.specs.Prelude.{◌==◌}
use Rattle.std.specs.List.{AllByRecursion, enumerate_from, flat_map}
use Rattle.std.proofs.lemmas.Bool.Decides.{nat_tests}
use Rattle.std.proofs.lemmas.List.Sorted.{IsPermutation-refl, IsPermutation-trans, IsPermutation-cons, IsPermutation-append_comm, IsPermutation-append_left, IsPermutation-append_right}
use Rattle.fx_terms.proofs.SetLemmas.{Among, among_from, contains_from}
use Rattle.fx_terms.specs.declared.patterns.Pattern.{Pattern}
use Rattle.fx_algebra.specs.Units.{is_empty}
use Rattle.fx_algebra.specs.declared.units.Unit as unit
use Rattle.fx_plan.specs.Plans.{Asked, by_position, group_of, in_front, is_group_of, is_only, only_source, patterns_of, single_of}
use Rattle.fx_laws_plans.specs.Rules.{IsGroup, IsSingle, Placed, Spot, first_of, pattern_at, place, sources_at}
use Rattle.fx_laws_plans.proofs.EachLemmas.{EachLater, among_filter, among_kept, each_both, each_filter, each_passes, each_weaker, later_filter, map_filter, map_twice, pairs_from}

-- ---- what a source list says

and_true : (b c : Bool) → (b && c) ≡ true → (b ≡ true) × (c ≡ true)
and_true true c e = (refl, e)
and_true false c e = cc

and_itself : (b : Bool) → (b && true) ≡ b
and_itself true = refl
and_itself false = refl

equal_numbers : (k m : ℕ) → (k == m) ≡ true → k ≡ m
equal_numbers k m e = grind (arith, nat_tests)

same_number : (m : ℕ) → (m == m) ≡ true
same_number m = grind (arith, nat_tests)

other_number : (k m : ℕ) → (k == m) ≡ false → (m == k) ≡ false
other_number k m e = grind (arith, nat_tests)

only_is : (m : ℕ) (ms : List ℕ) → is_only m ms ≡ true → ms ≡ m ∷ []
only_is m [] e = cc
only_is m (k ∷ []) e = ap (λ (n : ℕ). n ∷ []) (equal_numbers k m (and_true (k == m) true e).0)
only_is m (k ∷ j ∷ ms) e = let f : false ≡ true = (and_true (k == m) false e).1 in absurd (cc)

is_only_of : (m : ℕ) (ms : List ℕ) → ms ≡ m ∷ [] → is_only m ms ≡ true
is_only_of m ms e = ap (is_only m) e ∙ (and_itself (m == m) ∙ same_number m)

source_is : (m : ℕ) (ms : List ℕ) → only_source ms ≡ Some m → ms ≡ m ∷ []
source_is m [] e = cc
source_is m (k ∷ []) e = ap (λ (n : ℕ). n ∷ []) (cc)
source_is m (k ∷ j ∷ ms) e = cc

no_source : (m : ℕ) (ms : List ℕ) → only_source ms ≡ None → ms ≡ m ∷ [] → ⊥
no_source m ms e f = let g : only_source ms ≡ Some m = ap only_source f in absurd (cc)

-- ---- units beside their spots

abbrev pub unit_in : Placed → unit.Unit
unit_in u = u.unit

abbrev pub has_only : ℕ → Spot → Bool
has_only m s = is_only m (sources_at s)

abbrev pub group_at : ℕ → List Spot → Placed
group_at m ss = record { spots = ss; unit = group_of m (map pattern_at ss) }

abbrev pub single_at : Spot → Placed
single_at s = record { spots = s ∷ []; unit = single_of (pattern_at s) (sources_at s) }

abbrev in_front_of : Spot → List Spot → Option ℕ → List Placed → List Placed
in_front_of s ss None us = single_at s ∷ us
in_front_of s ss (Some m) us = group_at m (s ∷ filter (has_only m) ss) ∷ filter (λ u. not (is_group_of m (unit_in u))) us

abbrev pub positioned : List Spot → List Placed
positioned [] = []
positioned (s ∷ ss) = in_front_of s ss (only_source (sources_at s)) (positioned ss)

abbrev asked_at : List Spot → List Asked
asked_at ss = map (λ s. s.1) ss

only_patterns : (m : ℕ) (ss : List Spot) → map pattern_at (filter (has_only m) ss) ≡ patterns_of m (asked_at ss)
only_patterns m ss =
    sym (map_twice (λ (s : Spot). s.1) (λ (a : Asked). a.0) (filter (has_only m) ss))
    ∙ ap (λ (v : List Asked). map (λ (a : Asked). a.0) v) (map_filter (λ (s : Spot). s.1) (λ (a : Asked). is_only m a.1) ss)

pub positioned_units : (ss : List Spot) → map unit_in (positioned ss) ≡ by_position (asked_at ss)
positioned_units [] = refl
positioned_units (s ∷ ss) = by (only_source (sources_at s)) (positioned_units ss)
  where
    by : (o : Option ℕ) → map unit_in (positioned ss) ≡ by_position (asked_at ss) → map unit_in (in_front_of s ss o (positioned ss)) ≡ in_front s.1 (asked_at ss) o (by_position (asked_at ss))
    by None h = ap (λ (v : List unit.Unit). single_of (pattern_at s) (sources_at s) ∷ v) h
    by (Some m) h =
        ap (λ (v : List Pattern). group_of m (pattern_at s ∷ v) ∷ map unit_in (filter (λ u. not (is_group_of m (unit_in u))) (positioned ss))) (only_patterns m ss)
        ∙ ap (λ (v : List unit.Unit). group_of m (pattern_at s ∷ patterns_of m (asked_at ss)) ∷ v)
        (map_filter unit_in (λ u. not (is_group_of m u)) (positioned ss) ∙ ap (filter (λ u. not (is_group_of m u))) h)

pub asked_numbered : (n : ℕ) (asked : List Asked) → asked_at (enumerate_from n asked) ≡ asked
asked_numbered n [] = refl
asked_numbered n (a ∷ asked) = ap (λ (v : List Asked). a ∷ v) (asked_numbered (n + 1) asked)

-- ---- their patterns

pub positioned_patterns : (ss : List Spot) → AllByRecursion (λ u. u.unit.patterns ≡ map pattern_at u.spots) (positioned ss)
positioned_patterns [] = tt
positioned_patterns (s ∷ ss) = by (only_source (sources_at s)) (positioned_patterns ss)
  where
    by : (o : Option ℕ) → AllByRecursion (λ u. u.unit.patterns ≡ map pattern_at u.spots) (positioned ss) → AllByRecursion (λ u. u.unit.patterns ≡ map pattern_at u.spots) (in_front_of s ss o (positioned ss))
    by None h = (refl, h)
    by (Some m) h = (refl, each_filter (λ u. u.unit.patterns ≡ map pattern_at u.spots) (λ u. not (is_group_of m (unit_in u))) (positioned ss) h)

-- ---- their places rise

abbrev IsSooner : Spot → Spot → Type 0
IsSooner s t = s.0 < t.0

abbrev pub Rises : List Spot → Type 0
Rises ss = EachLater IsSooner ss

abbrev pub IsEarlier : Placed → Placed → Type 0
IsEarlier u v = place u < place v

pub numbered_rise : (n : ℕ) (asked : List Asked) → AllByRecursion (λ (s : Spot). n < s.0 + 1) (enumerate_from n asked) × Rises (enumerate_from n asked)
numbered_rise n [] = (tt, tt)
numbered_rise n (a ∷ asked) =
    let t = numbered_rise (n + 1) asked in (
      (omega arith, each_weaker (λ (s : Spot). n + 1 < s.0 + 1) (λ (s : Spot). n < s.0 + 1) (λ s h. omega arith) (enumerate_from (n + 1) asked) t.0),
      (each_weaker (λ (s : Spot). n + 1 < s.0 + 1) (λ (s : Spot). n < s.0) (λ s h. omega arith) (enumerate_from (n + 1) asked) t.0, t.1),
    )

-- each has a spot
pub positioned_some : (ss : List Spot) → AllByRecursion (λ u. 0 < length u.spots) (positioned ss)
positioned_some [] = tt
positioned_some (s ∷ ss) = by (only_source (sources_at s)) (positioned_some ss)
  where
    by : (o : Option ℕ) → AllByRecursion (λ u. 0 < length u.spots) (positioned ss) → AllByRecursion (λ u. 0 < length u.spots) (in_front_of s ss o (positioned ss))
    by None h = (omega arith, h)
    by (Some m) h = (omega arith, each_filter (λ u. 0 < length u.spots) (λ u. not (is_group_of m (unit_in u))) (positioned ss) h)

-- all their spots are of the run
positioned_from : (P : Spot → Type 0) (ss : List Spot) → AllByRecursion P ss → AllByRecursion (λ u. AllByRecursion P u.spots) (positioned ss)
positioned_from P [] h = tt
positioned_from P (s ∷ ss) h = by (only_source (sources_at s)) (positioned_from P ss h.1)
  where
    by : (o : Option ℕ) → AllByRecursion (λ u. AllByRecursion P u.spots) (positioned ss) → AllByRecursion (λ u. AllByRecursion P u.spots) (in_front_of s ss o (positioned ss))
    by None k = ((h.0, tt), k)
    by (Some m) k = ((h.0, each_filter P (has_only m) ss h.1), each_filter (λ u. AllByRecursion P u.spots) (λ u. not (is_group_of m (unit_in u))) (positioned ss) k)

first_behind : (n : ℕ) (ss : List Spot) → 0 < length ss → AllByRecursion (λ (s : Spot). n < s.0) ss → n < first_of ss
first_behind n [] h k = absurd (omega arith)
first_behind n (s ∷ ss) h k = k.0

all_behind : (n : ℕ) (ss : List Spot) → AllByRecursion (λ (s : Spot). n < s.0) ss → AllByRecursion (λ u. n < place u) (positioned ss)
all_behind n ss h =
    each_weaker (λ u. (0 < length u.spots) × AllByRecursion (λ (s : Spot). n < s.0) u.spots) (λ u. n < place u) (λ u t. first_behind n u.spots t.0 t.1) (positioned ss)
    (each_both (λ u. 0 < length u.spots) (λ u. AllByRecursion (λ (s : Spot). n < s.0) u.spots) (positioned ss) (positioned_some ss) (positioned_from (λ (s : Spot). n < s.0) ss h))

pub positioned_rise : (ss : List Spot) → Rises ss → EachLater IsEarlier (positioned ss)
positioned_rise [] h = tt
positioned_rise (s ∷ ss) h = by (only_source (sources_at s)) (positioned_rise ss h.1)
  where
    by : (o : Option ℕ) → EachLater IsEarlier (positioned ss) → EachLater IsEarlier (in_front_of s ss o (positioned ss))
    by None k = (all_behind s.0 ss h.0, k)
    by (Some m) k = (
      each_filter (λ u. s.0 < place u) (λ u. not (is_group_of m (unit_in u))) (positioned ss) (all_behind s.0 ss h.0),
      later_filter IsEarlier (λ u. not (is_group_of m (unit_in u))) (positioned ss) k,
    )

-- ---- groups and singles

-- a group by what its spots are
abbrev IsGroupBy : List Spot → Placed → Type 0
IsGroupBy ss u = (m : ℕ) × (u.unit.group ≡ true) × (u.unit.members ≡ m ∷ []) × (0 < length u.spots) × (u.spots ≡ filter (has_only m) ss)

abbrev IsBy : List Spot → Placed → Type 0
IsBy ss u = IsGroupBy ss u ⊎ IsSingle u

group_is : (m k : ℕ) (u : unit.Unit) → u.group ≡ true → u.members ≡ k ∷ [] → is_group_of m u ≡ (k == m)
group_is m k u e f = ap (λ (b : Bool). b && is_only m u.members) e ∙ ap (is_only m) f ∙ and_itself (k == m)

not_false : (b : Bool) → not b ≡ true → b ≡ false
not_false true e = cc
not_false false e = refl

head_not : (m k : ℕ) (s : Spot) → only_source (sources_at s) ≡ Some m → (k == m) ≡ false → has_only k s ≡ false
head_not m k s e f = ap (is_only k) (source_is m (sources_at s) e) ∙ and_itself (m == k) ∙ other_number k m f

none_head : (k : ℕ) (ms : List ℕ) → only_source ms ≡ None → is_only k ms ≡ false
none_head k ms e = by (is_only k ms) refl
  where
    by : (b : Bool) → is_only k ms ≡ b → b ≡ false
    by true f = absurd (no_source k ms e (only_is k ms f))
    by false f = refl

filter_head : (k : ℕ) (s : Spot) (ss : List Spot) → has_only k s ≡ false → filter (has_only k) (s ∷ ss) ≡ filter (has_only k) ss
filter_head k s ss e = ap (λ (b : Bool). cond b (s ∷ filter (has_only k) ss) (filter (has_only k) ss)) e

taken_head : (k : ℕ) (s : Spot) (ss : List Spot) → has_only k s ≡ true → filter (has_only k) (s ∷ ss) ≡ s ∷ filter (has_only k) ss
taken_head k s ss e = ap (λ (b : Bool). cond b (s ∷ filter (has_only k) ss) (filter (has_only k) ss)) e

behind_none : (s : Spot) (ss : List Spot) → only_source (sources_at s) ≡ None → (u : Placed) → IsBy ss u → IsBy (s ∷ ss) u
behind_none s ss e u (inl t) = inl (t.0, t.1, t.2, t.3, t.4 ∙ sym (filter_head t.0 s ss (none_head t.0 (sources_at s) e)))
behind_none s ss e u (inr t) = inr t

behind_some : (m : ℕ) (s : Spot) (ss : List Spot) → only_source (sources_at s) ≡ Some m → (u : Placed) → IsBy ss u × (not (is_group_of m u.unit) ≡ true) → IsBy (s ∷ ss) u
behind_some m s ss e u (inl t, n) =
    let apart : (t.0 == m) ≡ false = sym (group_is m t.0 u.unit t.1 t.2) ∙ not_false (is_group_of m u.unit) n in
    inl (t.0, t.1, t.2, t.3, t.4 ∙ sym (filter_head t.0 s ss (head_not m t.0 s e apart)))
behind_some m s ss e u (inr t, n) = inr t

positioned_by : (ss : List Spot) → AllByRecursion (IsBy ss) (positioned ss)
positioned_by [] = tt
positioned_by (s ∷ ss) = by (only_source (sources_at s)) refl (positioned_by ss)
  where
    by : (o : Option ℕ) → only_source (sources_at s) ≡ o → AllByRecursion (IsBy ss) (positioned ss) → AllByRecursion (IsBy (s ∷ ss)) (in_front_of s ss o (positioned ss))
    by None e h = (
      inr (record { spot = s; kind = refl; alone = refl; members = refl; several = λ m f. no_source m (sources_at s) e f }),
      each_weaker (IsBy ss) (IsBy (s ∷ ss)) (behind_none s ss e) (positioned ss) h,
    )
    by (Some m) e h =
        let keeps = λ (u : Placed). not (is_group_of m (unit_in u)) in (
          inl (m, refl, refl, omega arith, sym (taken_head m s ss (is_only_of m (sources_at s) (source_is m (sources_at s) e)))),
          each_weaker (λ u. IsBy ss u × (keeps u ≡ true)) (IsBy (s ∷ ss)) (behind_some m s ss e) (filter keeps (positioned ss))
              (each_both (IsBy ss) (λ u. keeps u ≡ true) (filter keeps (positioned ss)) (each_filter (IsBy ss) keeps (positioned ss) h) (each_passes keeps (positioned ss))),
        )

is_of : (ss : List Spot) → Rises ss → (u : Placed) → IsBy ss u → IsGroup ss u ⊎ IsSingle u
is_of ss h u (inl t) = inl (record {
  member = t.0;
  kind = t.1;
  alone = t.2;
  some = t.3;
  all = λ s. (
    λ c. let k = among_kept (has_only t.0) s ss (subst (Among s) t.4 (among_from u.spots s c)) in (contains_from ss s k.0, only_is t.0 (sources_at s) k.1),
    λ c. contains_from u.spots s (subst (Among s) (sym t.4) (among_filter (has_only t.0) s ss (among_from ss s c.0) (is_only_of t.0 (sources_at s) c.1))),
  );
  rises = subst (AllPairs IsSooner) (sym t.4) (pairs_from IsSooner (filter (has_only t.0) ss) (later_filter IsSooner (has_only t.0) ss h));
})
is_of ss h u (inr t) = inr t

pub positioned_kinds : (ss : List Spot) → Rises ss → AllByRecursion (λ u. IsGroup ss u ⊎ IsSingle u) (positioned ss)
positioned_kinds ss h = each_weaker (IsBy ss) (λ u. IsGroup ss u ⊎ IsSingle u) (is_of ss h) (positioned ss) (positioned_by ss)

-- ---- each spot once

abbrev pub all_spots : List Placed → List Spot
all_spots us = flat_map (λ u. u.spots) us

pub swap_fronts : {X : Type 0} (xs ys zs : List X) → IsPermutation (xs ++ (ys ++ zs)) (ys ++ (xs ++ zs))
swap_fronts xs ys zs =
    subst (λ v. IsPermutation v (ys ++ (xs ++ zs))) (append_assoc xs ys zs)
    (subst (λ v. IsPermutation ((xs ++ ys) ++ zs) v) (append_assoc ys xs zs) (IsPermutation-append_left zs (xs ++ ys) (ys ++ xs) (IsPermutation-append_comm xs ys)))

-- those that pass a test and those that don't
split_spots : (p : Placed → Bool) (us : List Placed) → IsPermutation (all_spots (filter p us) ++ all_spots (filter (λ u. not (p u)) us)) (all_spots us)
split_spots p [] = IsPermutation-refl []
split_spots p (u ∷ us) = by (p u) (split_spots p us)
  where
    by : (b : Bool) → IsPermutation (all_spots (filter p us) ++ all_spots (filter (λ v. not (p v)) us)) (all_spots us)
        → IsPermutation (all_spots (cond b (u ∷ filter p us) (filter p us)) ++ all_spots (cond (not b) (u ∷ filter (λ v. not (p v)) us) (filter (λ v. not (p v)) us))) (all_spots (u ∷ us))
    by true h =
        subst (λ (v : List Spot). IsPermutation v (all_spots (u ∷ us))) (sym (append_assoc u.spots (all_spots (filter p us)) (all_spots (filter (λ v. not (p v)) us))))
        (IsPermutation-append_right u.spots (all_spots (filter p us) ++ all_spots (filter (λ v. not (p v)) us)) (all_spots us) h)
    by false h =
        IsPermutation-trans (all_spots (filter p us) ++ (u.spots ++ all_spots (filter (λ v. not (p v)) us))) (u.spots ++ (all_spots (filter p us) ++ all_spots (filter (λ v. not (p v)) us))) (all_spots (u ∷ us))
        (swap_fronts (all_spots (filter p us)) u.spots (all_spots (filter (λ v. not (p v)) us)))
        (IsPermutation-append_right u.spots (all_spots (filter p us) ++ all_spots (filter (λ v. not (p v)) us)) (all_spots us) h)

none_pass : (p : Placed → Bool) (us : List Placed) → filter p (filter (λ u. not (p u)) us) ≡ []
none_pass p [] = refl
none_pass p (u ∷ us) = by (p u) refl (none_pass p us)
  where
    by : (b : Bool) → p u ≡ b → filter p (filter (λ v. not (p v)) us) ≡ [] → filter p (cond (not b) (u ∷ filter (λ v. not (p v)) us) (filter (λ v. not (p v)) us)) ≡ []
    by true e h = h
    by false e h = ap (λ (b : Bool). cond b (u ∷ filter p (filter (λ v. not (p v)) us)) (filter p (filter (λ v. not (p v)) us))) e ∙ h

-- where what passes the one test doesn't pass the other, leaving out the others changes nothing
others_pass : (p q : Placed → Bool) → ((u : Placed) → p u ≡ true → q u ≡ false) → (us : List Placed) → filter p (filter (λ u. not (q u)) us) ≡ filter p us
others_pass p q apart [] = refl
others_pass p q apart (u ∷ us) = by (p u) refl (q u) refl (others_pass p q apart us)
  where
    by : (b : Bool) → p u ≡ b → (c : Bool) → q u ≡ c → filter p (filter (λ v. not (q v)) us) ≡ filter p us
        → filter p (cond (not c) (u ∷ filter (λ v. not (q v)) us) (filter (λ v. not (q v)) us)) ≡ cond b (u ∷ filter p us) (filter p us)
    by true e true f h = let no : true ≡ false = sym f ∙ apart u e in absurd (cc)
    by true e false f h = ap (λ (b : Bool). cond b (u ∷ filter p (filter (λ v. not (q v)) us)) (filter p (filter (λ v. not (q v)) us))) e ∙ ap (λ (v : List Placed). u ∷ v) h
    by false e true f h = h
    by false e false f h = ap (λ (b : Bool). cond b (u ∷ filter p (filter (λ v. not (q v)) us)) (filter p (filter (λ v. not (q v)) us))) e ∙ h

two_numbers : (m k n : ℕ) → (m == k) ≡ false → (n == m) ≡ true → (n == k) ≡ false
two_numbers m k n e f = grind (arith, nat_tests)

both_false : (b c : Bool) → b ≡ false → (b && c) ≡ false
both_false true c e = cc
both_false false c e = refl

second_false : (b c : Bool) → c ≡ false → (b && c) ≡ false
second_false true c e = e
second_false false c e = refl

one_member : (m k : ℕ) → (m == k) ≡ false → (ms : List ℕ) → is_only m ms ≡ true → is_only k ms ≡ false
one_member m k e [] h = refl
one_member m k e (n ∷ ns) h = both_false (n == k) (is_empty ns) (two_numbers m k n e (and_true (n == m) (is_empty ns) h).0)

one_group : (m k : ℕ) → (m == k) ≡ false → (u : Placed) → is_group_of m (unit_in u) ≡ true → is_group_of k (unit_in u) ≡ false
one_group m k e u h = second_false u.unit.group (is_only k u.unit.members) (one_member m k e u.unit.members (and_true u.unit.group (is_only m u.unit.members) h).1)

an_only : (m k : ℕ) (s : Spot) → only_source (sources_at s) ≡ Some k → has_only m s ≡ (k == m)
an_only m k s e = ap (is_only m) (source_is k (sources_at s) e) ∙ and_itself (k == m)

one_more : (m : ℕ) (s : Spot) (ss : List Spot) (b : Bool) → has_only m s ≡ b → filter (has_only m) (s ∷ ss) ≡ cond b (s ∷ filter (has_only m) ss) (filter (has_only m) ss)
one_more m s ss b e = ap (λ (b : Bool). cond b (s ∷ filter (has_only m) ss) (filter (has_only m) ss)) e

abbrev groups_of : ℕ → List Placed → List Placed
groups_of m us = filter (λ u. is_group_of m (unit_in u)) us

abbrev others_of : ℕ → List Placed → List Placed
others_of m us = filter (λ u. not (is_group_of m (unit_in u))) us

-- the group of a member has the spots that it is the only source of
group_spots : (m : ℕ) (ss : List Spot) → all_spots (groups_of m (positioned ss)) ≡ filter (has_only m) ss
group_spots m [] = refl
group_spots m (s ∷ ss) = by (only_source (sources_at s)) refl (group_spots m ss)
  where
    here : (k : ℕ) (b : Bool) → (k == m) ≡ b → all_spots (groups_of m (positioned ss)) ≡ filter (has_only m) ss
        → all_spots (cond (b && true) (group_at k (s ∷ filter (has_only k) ss) ∷ groups_of m (others_of k (positioned ss))) (groups_of m (others_of k (positioned ss))))
        ≡ cond b (s ∷ filter (has_only m) ss) (filter (has_only m) ss)
    here k true e h =
        ap (λ (n : ℕ). (s ∷ filter (has_only n) ss) ++ all_spots (groups_of m (others_of n (positioned ss)))) (equal_numbers k m e)
        ∙ (ap (λ (v : List Placed). (s ∷ filter (has_only m) ss) ++ all_spots v) (none_pass (λ u. is_group_of m (unit_in u)) (positioned ss))
        ∙ append-nil (s ∷ filter (has_only m) ss))
    here k false e h = ap all_spots (others_pass (λ u. is_group_of m (unit_in u)) (λ u. is_group_of k (unit_in u)) (one_group m k (other_number k m e)) (positioned ss)) ∙ h

    by : (o : Option ℕ) → only_source (sources_at s) ≡ o → all_spots (groups_of m (positioned ss)) ≡ filter (has_only m) ss → all_spots (groups_of m (in_front_of s ss o (positioned ss))) ≡ filter (has_only m) (s ∷ ss)
    by None e h = h ∙ sym (filter_head m s ss (none_head m (sources_at s) e))
    by (Some k) e h = here k (k == m) refl h ∙ sym (one_more m s ss (k == m) (an_only m k s e))

pub positioned_whole : (ss : List Spot) → IsPermutation (all_spots (positioned ss)) ss
positioned_whole [] = IsPermutation-refl []
positioned_whole (s ∷ ss) = by (only_source (sources_at s)) (positioned_whole ss)
  where
    by : (o : Option ℕ) → IsPermutation (all_spots (positioned ss)) ss → IsPermutation (all_spots (in_front_of s ss o (positioned ss))) (s ∷ ss)
    by None h = IsPermutation-cons s (all_spots (positioned ss)) ss h
    by (Some m) h =
        let us = positioned ss in
        let others = all_spots (others_of m us) in
        IsPermutation-cons s (filter (has_only m) ss ++ others) ss
        (IsPermutation-trans (filter (has_only m) ss ++ others) (all_spots us) ss
        (subst (λ (v : List Spot). IsPermutation (v ++ others) (all_spots us)) (group_spots m ss) (split_spots (λ u. is_group_of m (unit_in u)) us))
        h)
