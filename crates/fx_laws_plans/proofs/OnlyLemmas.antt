-- Nothing but the plan goes by its rules.
use Rattle.std.proofs.Common.{◌≡◌, ◌∙◌, ap, sym, subst, refl, ℕ, suc, ◌<◌, ◌⊎◌, inl, inr, Bool, true, false, not, ◌&&◌, ◌||◌, List, [], ◌∷◌, ◌++◌, map, filter, length, All, AllPairs, append-nil, append_assoc, arith}
use Rattle.std.specs.List.{AllByRecursion, flat_map, list_any}
use Rattle.std.proofs.lemmas.List.Elements.{recursion_from_All}
use Rattle.std.proofs.lemmas.List.Sorted.{Contains-permutation, IsPermutation-sym}
use Rattle.fx_terms.specs.declared.patterns.Pattern.{Pattern}
use Rattle.fx_terms.proofs.SetLemmas.{Among, among_from, contains_from}
use Rattle.fx_algebra.proofs.MemberLemmas.{among_flat_map, among_from_flat_map}
use Rattle.fx_algebra.specs.BasicGraphPatterns.{variables}
use Rattle.fx_algebra.specs.Units.{is_covered, is_pushable}
use Rattle.fx_algebra.specs.declared.expressions.Expr.{Expr}
use Rattle.fx_laws_plans.specs.Rules.{IsBefore, IsGroup, IsPlanned, IsSingle, OnlyThePlanGoesByThem, Placed, Spot, goes_along, has_sooner, names_of, pattern_at, sources_at, spots}
use Rattle.fx_laws_plans.proofs.EachLemmas.{EachLater, each_among, filter_same}
use Rattle.fx_laws_plans.proofs.OrderLemmas.{InOrder, before_on}
use Rattle.fx_laws_plans.proofs.RuleLemmas.{plan_goes_by_its_rules}

-- ---- lists that rise

abbrev IsSooner : Spot → Spot → Type 0
IsSooner s t = s.0 < t.0

pairs_to : (ss : List Spot) → AllPairs IsSooner ss → EachLater IsSooner ss
pairs_to [] h = tt
pairs_to (s ∷ ss) h = (
  recursion_from_All (IsSooner s) ss (λ k d low. h 0 (suc k) d (omega arith) (omega (arith, low))),
  pairs_to ss (λ i j d low high. h (suc i) (suc j) d (omega (arith, low)) (omega (arith, high))),
)

-- two of them that hold the same are one
abbrev Within : List Spot → List Spot → Type 0
Within ss ts = (s : Spot) → Among s ss → Among s ts

behind_within : (s t : Spot) (ss ts : List Spot) → AllByRecursion (IsSooner s) ss → s ≡ t → Within (s ∷ ss) (t ∷ ts) → Within ss ts
behind_within s t ss ts h e w x m = by (w x (inr m))
  where
    by : (t ≡ x) ⊎ Among x ts → Among x ts
    by (inl f) = let low : s.0 < x.0 = each_among (IsSooner s) x ss h m in let same : s.0 ≡ x.0 = ap (λ (v : Spot). v.0) (e ∙ f) in absurd (omega (arith, low, same))
    by (inr n) = n

first_same : (s t : Spot) (ss ts : List Spot) → AllByRecursion (IsSooner s) ss → AllByRecursion (IsSooner t) ts → Among s (t ∷ ts) → Among t (s ∷ ss) → s ≡ t
first_same s t ss ts h k (inl e) n = sym e
first_same s t ss ts h k (inr m) (inl e) = e
first_same s t ss ts h k (inr m) (inr n) =
    let low : t.0 < s.0 = each_among (IsSooner t) s ts k m in
    let high : s.0 < t.0 = each_among (IsSooner s) t ss h n in
    absurd (omega (arith, low, high))

one_list : (ss ts : List Spot) → EachLater IsSooner ss → EachLater IsSooner ts → Within ss ts → Within ts ss → ss ≡ ts
one_list [] [] h k w v = refl
one_list [] (t ∷ ts) h k w v = absurd (v t (inl refl))
one_list (s ∷ ss) [] h k w v = absurd (w s (inl refl))
one_list (s ∷ ss) (t ∷ ts) h k w v =
    let e = first_same s t ss ts h.0 k.0 (w s (inl refl)) (v t (inl refl)) in
    let rest : ss ≡ ts = one_list ss ts h.1 k.1 (behind_within s t ss ts h.0 e w) (behind_within t s ts ss k.0 (sym e) v) in
    ap (λ (x : Spot). x ∷ ss) e ∙ ap (λ (x : List Spot). t ∷ x) rest

-- ---- units that share a spot

-- what two units have alike, if not their filters
record AreAlike (u v : Placed) : Type 0 where
  spots : u.spots ≡ v.spots
  group : u.unit.group ≡ v.unit.group
  members : u.unit.members ≡ v.unit.members

one_member : (m n : ℕ) → m ∷ [] ≡ n ∷ [] → m ≡ n
one_member m n e = cc

alike_singles : (u v : Placed) (s : Spot) → Among s u.spots → Among s v.spots → IsSingle u → IsSingle v → AreAlike u v
alike_singles u v s m n x y =
    let p : x.spot ≡ s = only x.spot (subst (Among s) x.alone m) in
    let q : y.spot ≡ s = only y.spot (subst (Among s) y.alone n) in
    let e : x.spot ≡ y.spot = p ∙ sym q in
    record {
      spots = x.alone ∙ (ap (λ (t : Spot). t ∷ []) e ∙ sym y.alone);
      group = x.kind ∙ sym y.kind;
      members = x.members ∙ (ap sources_at e ∙ sym y.members);
    }
  where
    only : (t : Spot) → Among s (t ∷ []) → t ≡ s
    only t (inl f) = f
    only t (inr f) = absurd f

alike_groups : (run : List Spot) (u v : Placed) (s : Spot) → Among s u.spots → Among s v.spots → IsGroup run u → IsGroup run v → AreAlike u v
alike_groups run u v s m n x y =
    let a : sources_at s ≡ x.member ∷ [] = ((x.all s).0 (contains_from u.spots s m)).1 in
    let b : sources_at s ≡ y.member ∷ [] = ((y.all s).0 (contains_from v.spots s n)).1 in
    let e : x.member ≡ y.member = one_member x.member y.member (sym a ∙ b) in
    record {
      spots = one_list u.spots v.spots (pairs_to u.spots x.rises) (pairs_to v.spots y.rises) (within u v x y e) (within v u y x (sym e));
      group = x.kind ∙ sym y.kind;
      members = x.alone ∙ (ap (λ (k : ℕ). k ∷ []) e ∙ sym y.alone);
    }
  where
    within : (a b : Placed) (x : IsGroup run a) (y : IsGroup run b) → x.member ≡ y.member → Within a.spots b.spots
    within a b x y e t i =
        let f = (x.all t).0 (contains_from a.spots t i) in
        among_from b.spots t ((y.all t).1 (f.0, f.1 ∙ ap (λ (k : ℕ). k ∷ []) e))

apart : (run : List Spot) (u v : Placed) (s : Spot) → Among s u.spots → Among s v.spots → IsGroup run u → IsSingle v → ⊥
apart run u v s m n x y = y.several x.member (ap sources_at (only y.spot (subst (Among s) y.alone n)) ∙ ((x.all s).0 (contains_from u.spots s m)).1)
  where
    only : (t : Spot) → Among s (t ∷ []) → t ≡ s
    only t (inl f) = f
    only t (inr f) = absurd f

alike : (run : List Spot) (u v : Placed) (s : Spot) → Among s u.spots → Among s v.spots → IsGroup run u ⊎ IsSingle u → IsGroup run v ⊎ IsSingle v → AreAlike u v
alike run u v s m n (inl x) (inl y) = alike_groups run u v s m n x y
alike run u v s m n (inl x) (inr y) = absurd (apart run u v s m n x y)
alike run u v s m n (inr x) (inl y) = absurd (apart run v u s n m y x)
alike run u v s m n (inr x) (inr y) = alike_singles u v s m n x y

some_spot : (run : List Spot) (u : Placed) → IsGroup run u ⊎ IsSingle u → (s : Spot) × Among s u.spots
some_spot run u (inl g) = first u.spots g.some
  where
    first : (ss : List Spot) → 0 < length ss → (s : Spot) × Among s ss
    first [] h = absurd (omega arith)
    first (s ∷ ss) h = (s, inl refl)
some_spot run u (inr x) = (x.spot, subst (Among x.spot) (sym x.alone) (inl refl))

-- ---- two lists of units that go by the rules

module _ (run : List Spot) (conditions : List Expr) (bound : List (List ℕ)) where
  abbrev Planned : List Placed → Type 0
  Planned us = IsPlanned run conditions bound us

  kind_of : (us : List Placed) → Planned us → (u : Placed) → Among u us → IsGroup run u ⊎ IsSingle u
  kind_of us p u m = each_among (λ v. IsGroup run v ⊎ IsSingle v) u us (recursion_from_All (λ v. IsGroup run v ⊎ IsSingle v) us p.kinds) m

  patterns_of : (us : List Placed) → Planned us → (u : Placed) → Among u us → u.unit.patterns ≡ map pattern_at u.spots
  patterns_of us p u m = each_among (λ v. v.unit.patterns ≡ map pattern_at v.spots) u us (recursion_from_All (λ v. v.unit.patterns ≡ map pattern_at v.spots) us p.patterns) m

  filters_of : (us : List Placed) → Planned us → (u : Placed) → Among u us → u.unit.filters ≡ filter (goes_along us u) conditions
  filters_of us p u m = each_among (λ v. v.unit.filters ≡ filter (goes_along us v) conditions) u us (recursion_from_All (λ v. v.unit.filters ≡ filter (goes_along us v) conditions) us p.filters) m

  -- a unit of the one with the same spots as one of the other
  record HasAlike (u : Placed) (vs : List Placed) : Type 0 where
    other : Placed
    among : Among other vs
    alike : AreAlike u other
    patterns : u.unit.patterns ≡ other.unit.patterns

  has_alike : (us vs : List Placed) → Planned us → Planned vs → (u : Placed) → Among u us → HasAlike u vs
  has_alike us vs p q u m =
      let s = some_spot run u (kind_of us p u m) in
      let here = among_flat_map (λ v. v.spots) u s.0 us m s.1 in
      let there = Contains-permutation run (flat_map (λ v. v.spots) vs) s.0 (IsPermutation-sym (flat_map (λ v. v.spots) vs) run q.whole)
      (Contains-permutation (flat_map (λ v. v.spots) us) run s.0 p.whole (contains_from (flat_map (λ v. v.spots) us) s.0 here)) in
      let t = among_from_flat_map (λ v. v.spots) s.0 vs (among_from (flat_map (λ v. v.spots) vs) s.0 there) in
      let a = alike run u t.0 s.0 s.1 t.2 (kind_of us p u m) (kind_of vs q t.0 t.1) in
      record { other = t.0; among = t.1; alike = a; patterns = patterns_of us p u m ∙ (ap (map pattern_at) a.spots ∙ sym (patterns_of vs q t.0 t.1)) }

  -- a unit has the variables of a filter sooner in the one as in the other
  one_test : (e : Expr) (w : Placed) (us : List Placed) → list_any (has_sooner e w) us ≡ true → (u : Placed) × Among u us × (has_sooner e w u ≡ true)
  one_test e w [] h = absurd (cc)
  one_test e w (u ∷ us) h = by (has_sooner e w u) refl (one_test e w us) h
    where
      by : (b : Bool) → has_sooner e w u ≡ b → (list_any (has_sooner e w) us ≡ true → (x : Placed) × Among x us × (has_sooner e w x ≡ true)) → (b || list_any (has_sooner e w) us) ≡ true
          → (x : Placed) × Among x (u ∷ us) × (has_sooner e w x ≡ true)
      by true f rest k = (u, inl refl, f)
      by false f rest k = let t = rest k in (t.0, inr t.1, t.2)

  or_right : (b : Bool) → (b || true) ≡ true
  or_right true = refl
  or_right false = refl

  test_one : (e : Expr) (w : Placed) (us : List Placed) (u : Placed) → Among u us → has_sooner e w u ≡ true → list_any (has_sooner e w) us ≡ true
  test_one e w [] u m h = absurd m
  test_one e w (v ∷ vs) u (inl f) h = ap (λ (b : Bool). b || list_any (has_sooner e w) vs) (ap (has_sooner e w) f ∙ h)
  test_one e w (v ∷ vs) u (inr m) h = ap (λ (b : Bool). has_sooner e w v || b) (test_one e w vs u m h) ∙ or_right (has_sooner e w v)

  same_sooner : (e : Expr) (w u v : Placed) → AreAlike u v → u.unit.patterns ≡ v.unit.patterns → has_sooner e w u ≡ has_sooner e w v
  same_sooner e w u v a p =
      ap (λ (ss : List Spot). has_sooner e w (record { spots = ss; unit = u.unit })) a.spots
      ∙ ap (λ (ps : List Pattern). has_sooner e w (record { spots = v.spots; unit = record { patterns = ps; filters = u.unit.filters; members = u.unit.members; group = u.unit.group } })) p

  sooner_too : (us vs : List Placed) → Planned us → Planned vs → (e : Expr) (w : Placed) → list_any (has_sooner e w) us ≡ true → list_any (has_sooner e w) vs ≡ true
  sooner_too us vs p q e w h =
      let t = one_test e w us h in
      let k = has_alike us vs p q t.0 t.1 in
      test_one e w vs k.other k.among (sym (same_sooner e w t.0 k.other k.alike k.patterns) ∙ t.2)

  both_ways : (a b : Bool) → (a ≡ true → b ≡ true) → (b ≡ true → a ≡ true) → a ≡ b
  both_ways true b f g = sym (f refl)
  both_ways false true f g = g refl
  both_ways false false f g = refl

  same_any : (us vs : List Placed) → Planned us → Planned vs → (e : Expr) (w : Placed) → list_any (has_sooner e w) us ≡ list_any (has_sooner e w) vs
  same_any us vs p q e w = both_ways (list_any (has_sooner e w) us) (list_any (has_sooner e w) vs) (sooner_too us vs p q e w) (sooner_too vs us q p e w)

  -- whether a filter goes along hangs on the spots and the patterns alone
  same_along : (us vs : List Placed) → Planned us → Planned vs → (u v : Placed) → AreAlike u v → u.unit.patterns ≡ v.unit.patterns → (e : Expr) → goes_along us u e ≡ goes_along vs v e
  same_along us vs p q u v a k e =
      ap (λ (ps : List Pattern). is_pushable e && (is_covered ps e && not (list_any (has_sooner e u) us))) k
      ∙ (ap (λ (b : Bool). is_pushable e && (is_covered v.unit.patterns e && not b)) (same_any us vs p q e u)
      ∙ ap (λ (ss : List Spot). is_pushable e && (is_covered v.unit.patterns e && not (list_any (has_sooner e (record { spots = ss; unit = u.unit })) vs))) a.spots)

  among_too : (us vs : List Placed) → Planned us → Planned vs → (u : Placed) → Among u us → Among u vs
  among_too us vs p q u m =
      let k = has_alike us vs p q u m in
      let v = k.other in
      let f : u.unit.filters ≡ v.unit.filters =
      filters_of us p u m ∙ (filter_same (goes_along us u) (goes_along vs v) (same_along us vs p q u v k.alike k.patterns) conditions ∙ sym (filters_of vs q v k.among)) in
      let a = k.alike in
      let e : v ≡ u = sym (λ i. record { spots = a.spots i; unit = record { patterns = k.patterns i; filters = f i; members = a.members i; group = a.group i } }) in
      subst (λ (x : Placed). Among x vs) e k.among

  -- ---- one order

  order_to : (known : List (List ℕ)) (us : List Placed) → ((front : List Placed) (u : Placed) (behind : List Placed) → us ≡ front ++ (u ∷ behind) → All (IsBefore (known ++ names_of front) u) behind) → InOrder known us
  order_to known [] h = tt
  order_to known (u ∷ us) h = (
    subst (λ (v : List (List ℕ)). AllByRecursion (IsBefore v u) us) (append-nil known) (recursion_from_All (IsBefore (known ++ []) u) us (h [] u us refl)),
    order_to (known ++ variables u.unit.patterns) us
        (λ front w behind e. subst (λ (v : List (List ℕ)). All (IsBefore v w) behind) (sym (append_assoc known (variables u.unit.patterns) (names_of front))) (h (u ∷ front) w behind (ap (λ (v : List Placed). u ∷ v) e))),
  )

  not_itself : (known : List (List ℕ)) (u : Placed) → IsBefore known u u → ⊥
  not_itself known u (inl h) = absurd (omega (arith, h))
  not_itself known u (inr (e, inl t)) = let no : true ≡ false = sym t.0 ∙ t.1 in absurd (cc)
  not_itself known u (inr (e, inr t)) = let h = t.1 in absurd (omega (arith, h))

  abbrev UnitsWithin : List Placed → List Placed → Type 0
  UnitsWithin us vs = (u : Placed) → Among u us → Among u vs

  left_within : (known : List (List ℕ)) (u v : Placed) (us vs : List Placed) → AllByRecursion (IsBefore known u) us → u ≡ v → UnitsWithin (u ∷ us) (v ∷ vs) → UnitsWithin us vs
  left_within known u v us vs h e w x m = by (w x (inr m))
    where
      by : (v ≡ x) ⊎ Among x vs → Among x vs
      by (inl f) = absurd (not_itself known u (subst (IsBefore known u) (sym (e ∙ f)) (each_among (IsBefore known u) x us h m)))
      by (inr n) = n

  same_first : (known : List (List ℕ)) (u v : Placed) (us vs : List Placed) → AllByRecursion (IsBefore known u) us → AllByRecursion (IsBefore known v) vs → Among u (v ∷ vs) → Among v (u ∷ us) → u ≡ v
  same_first known u v us vs h k (inl e) n = sym e
  same_first known u v us vs h k (inr m) (inl e) = e
  same_first known u v us vs h k (inr m) (inr n) =
      absurd (not_itself known u (before_on known u v u (each_among (IsBefore known u) v us h n) (each_among (IsBefore known v) u vs k m)))

  one_order : (known : List (List ℕ)) (us vs : List Placed) → InOrder known us → InOrder known vs → UnitsWithin us vs → UnitsWithin vs us → us ≡ vs
  one_order known [] [] h k w x = refl
  one_order known [] (v ∷ vs) h k w x = absurd (x v (inl refl))
  one_order known (u ∷ us) [] h k w x = absurd (w u (inl refl))
  one_order known (u ∷ us) (v ∷ vs) h k w x =
      let e = same_first known u v us vs h.0 k.0 (w u (inl refl)) (x v (inl refl)) in
      let order : InOrder (known ++ variables u.unit.patterns) vs = subst (λ (y : Placed). InOrder (known ++ variables y.unit.patterns) vs) (sym e) k.1 in
      let rest : us ≡ vs = one_order (known ++ variables u.unit.patterns) us vs h.1 order (left_within known u v us vs h.0 e w) (left_within known v u vs us k.0 (sym e) x) in
      ap (λ (y : Placed). y ∷ us) e ∙ ap (λ (y : List Placed). v ∷ y) rest

  one_plan : (us vs : List Placed) → Planned us → Planned vs → us ≡ vs
  one_plan us vs p q = one_order bound us vs (order_to bound us p.order) (order_to bound vs q.order) (among_too us vs p q) (among_too vs us q p)

pub only_the_plan_goes_by_them : OnlyThePlanGoesByThem
only_the_plan_goes_by_them run sources filters bound units p =
    let t = plan_goes_by_its_rules run sources filters bound in
    ap (map (λ (u : Placed). u.unit)) (one_plan (spots run sources) filters bound units t.0 p t.2) ∙ sym t.1
