-- The units of a run in the order in which they are taken, beside their spots.
use Rattle.std.proofs.Common.{◌≡◌, ◌∙◌, ap, sym, subst, refl, ℕ, zero, suc, ◌<◌, inl, inr, Bool, true, false, not, ◌&&◌, ◌||◌, if◌then◌else◌, List, [], ◌∷◌, ◌++◌, map, length, IsPermutation, All, arith, append-nil, append_assoc}
use Rattle.std.specs.Prelude.{◌==◌, nat_lt}
use Rattle.std.specs.List.{AllByRecursion, list_any}
use Rattle.std.proofs.lemmas.Bool.Decides.{nat_tests}
use Rattle.std.proofs.lemmas.List.Elements.{All-from_recursion}
use Rattle.std.proofs.lemmas.List.Sorted.{IsPermutation-refl, IsPermutation-trans, IsPermutation-append_right}
use Rattle.fx_algebra.specs.BasicGraphPatterns.{variables}
use Rattle.fx_algebra.specs.declared.units.Unit as unit
use Rattle.fx_plan.specs.Plans.{free, is_sooner, next, taken}
use Rattle.fx_laws_plans.specs.Rules.{IsBefore, IsBeforeAsFree, Placed, names_of, place}
use Rattle.fx_laws_plans.proofs.EachLemmas.{EachLater, each_weaker}
use Rattle.fx_laws_plans.proofs.PositionLemmas.{IsEarlier, all_spots, swap_fronts, unit_in}

-- ---- what comes before what

module _ (known : List (List ℕ)) where
  as_free_on : (u v w : Placed) → IsBeforeAsFree u v → IsBeforeAsFree v w → IsBeforeAsFree u w
  as_free_on u v w (inl a) (inl b) = let no : true ≡ false = sym b.0 ∙ a.1 in absurd (cc)
  as_free_on u v w (inl a) (inr b) = inl (a.0, sym b.0 ∙ a.1)
  as_free_on u v w (inr a) (inl b) = inl (a.0 ∙ b.0, b.1)
  as_free_on u v w (inr a) (inr b) = let h = a.1 in let k = b.1 in inr (a.0 ∙ b.0, omega (arith, h, k))

  pub before_on : (u v w : Placed) → IsBefore known u v → IsBefore known v w → IsBefore known u w
  before_on u v w (inl a) (inl b) = inl (omega arith)
  before_on u v w (inl a) (inr b) = let e = b.0 in inl (omega (arith, e))
  before_on u v w (inr a) (inl b) = let e = a.0 in inl (omega (arith, e))
  before_on u v w (inr a) (inr b) = inr (a.0 ∙ b.0, as_free_on u v w a.1 b.1)

  -- a later one that is taken sooner comes before
  sooner_is : (l u : Placed) → is_sooner known l.unit u.unit ≡ true → IsBefore known l u
  sooner_is l u e = by (nat_lt (free known l.unit) (free known u.unit)) refl (free known l.unit == free known u.unit) refl l.unit.group refl u.unit.group refl e
    where
      by : (a : Bool) → nat_lt (free known l.unit) (free known u.unit) ≡ a → (b : Bool) → (free known l.unit == free known u.unit) ≡ b → (c : Bool) → l.unit.group ≡ c → (d : Bool) → u.unit.group ≡ d
          → (a || (b && (c && not d))) ≡ true → IsBefore known l u
      by true h b i c j d k e = inl (grind (arith, nat_tests))
      by false h true i true j false k e = inr (grind (arith, nat_tests), inl (j, k))
      by false h true i true j true k e = cc
      by false h true i false j d k e = cc
      by false h false i c j d k e = cc

  -- one that isn't stands behind an earlier one
  not_sooner : (l u : Placed) → is_sooner known l.unit u.unit ≡ false → place u < place l → IsBefore known u l
  not_sooner l u e p = by (nat_lt (free known l.unit) (free known u.unit)) refl (free known l.unit == free known u.unit) refl l.unit.group refl u.unit.group refl e
    where
      more : nat_lt (free known l.unit) (free known u.unit) ≡ false → (free known l.unit == free known u.unit) ≡ false → free known u.unit < free known l.unit
      more h i = grind (arith, nat_tests)

      same : (free known l.unit == free known u.unit) ≡ true → free known u.unit ≡ free known l.unit
      same i = grind (arith, nat_tests)

      by : (a : Bool) → nat_lt (free known l.unit) (free known u.unit) ≡ a → (b : Bool) → (free known l.unit == free known u.unit) ≡ b → (c : Bool) → l.unit.group ≡ c → (d : Bool) → u.unit.group ≡ d
          → (a || (b && (c && not d))) ≡ false → IsBefore known u l
      by true h b i c j d k e = cc
      by false h false i c j d k e = inl (more h i)
      by false h true i true j true k e = inr (same i, inr (k ∙ sym j, p))
      by false h true i true j false k e = cc
      by false h true i false j true k e = inr (same i, inl (k, j))
      by false h true i false j false k e = inr (same i, inr (k ∙ sym j, p))

  -- ---- the next

  abbrev pub next_of : Placed → List Placed → Placed × List Placed
  next_of u [] = (u, [])
  next_of u (v ∷ vs) =
      let later = next_of v vs in
      if is_sooner known later.0.unit u.unit then (later.0, u ∷ later.1) else (u, v ∷ vs)

  abbrev bare : Placed × List Placed → unit.Unit × List unit.Unit
  bare r = (r.0.unit, map unit_in r.1)

  next_units : (u : Placed) (us : List Placed) → bare (next_of u us) ≡ next known u.unit (map unit_in us)
  next_units u [] = refl
  next_units u (v ∷ vs) =
      by (is_sooner known (next_of v vs).0.unit u.unit)
      ∙ ap (λ (r : unit.Unit × List unit.Unit). if is_sooner known r.0 u.unit then (r.0, u.unit ∷ r.1) else (u.unit, v.unit ∷ map unit_in vs)) (next_units v vs)
    where
      by : (b : Bool) → bare (if b then ((next_of v vs).0, u ∷ (next_of v vs).1) else (u, v ∷ vs))
          ≡ (if b then ((bare (next_of v vs)).0, u.unit ∷ (bare (next_of v vs)).1) else (u.unit, v.unit ∷ map unit_in vs))
      by true = refl
      by false = refl

  next_length : (u : Placed) (us : List Placed) → length (next_of u us).1 ≡ length us
  next_length u [] = refl
  next_length u (v ∷ vs) = by (is_sooner known (next_of v vs).0.unit u.unit) (next_length v vs)
    where
      by : (b : Bool) → length (next_of v vs).1 ≡ length vs → (λ (r : Placed × List Placed). length r.1 ≡ suc (length vs)) (if b then ((next_of v vs).0, u ∷ (next_of v vs).1) else (u, v ∷ vs))
      by true h = ap suc h
      by false h = refl

  -- it and the others are those that there were
  of_next : (P : Placed → Type 0) (u : Placed) (us : List Placed) → P u → AllByRecursion P us → P (next_of u us).0 × AllByRecursion P (next_of u us).1
  of_next P u [] h k = (h, tt)
  of_next P u (v ∷ vs) h k = by (is_sooner known (next_of v vs).0.unit u.unit) (of_next P v vs k.0 k.1)
    where
      by : (b : Bool) → P (next_of v vs).0 × AllByRecursion P (next_of v vs).1 → (λ (r : Placed × List Placed). P r.0 × AllByRecursion P r.1) (if b then ((next_of v vs).0, u ∷ (next_of v vs).1) else (u, v ∷ vs))
      by true r = (r.0, (h, r.1))
      by false r = (h, k)

  from_next : (P : Placed → Type 0) (u : Placed) (us : List Placed) → P (next_of u us).0 → AllByRecursion P (next_of u us).1 → P u × AllByRecursion P us
  from_next P u [] = λ h k. (h, tt)
  from_next P u (v ∷ vs) = by (is_sooner known (next_of v vs).0.unit u.unit) (from_next P v vs)
    where
      by : (b : Bool) → (P (next_of v vs).0 → AllByRecursion P (next_of v vs).1 → P v × AllByRecursion P vs)
          → (λ (r : Placed × List Placed). P r.0 → AllByRecursion P r.1 → P u × (P v × AllByRecursion P vs)) (if b then ((next_of v vs).0, u ∷ (next_of v vs).1) else (u, v ∷ vs))
      by true rest h k = (k.0, rest h k.1)
      by false rest h k = (h, k)

  next_rise : (u : Placed) (us : List Placed) → EachLater IsEarlier (u ∷ us) → EachLater IsEarlier (next_of u us).1
  next_rise u [] h = tt
  next_rise u (v ∷ vs) h = by (is_sooner known (next_of v vs).0.unit u.unit) (of_next (IsEarlier u) v vs h.0.0 h.0.1).1 (next_rise v vs h.1)
    where
      by : (b : Bool) → AllByRecursion (IsEarlier u) (next_of v vs).1 → EachLater IsEarlier (next_of v vs).1
          → (λ (r : Placed × List Placed). EachLater IsEarlier r.1) (if b then ((next_of v vs).0, u ∷ (next_of v vs).1) else (u, v ∷ vs))
      by true k rest = (k, rest)
      by false k rest = h.1

  -- it comes before all others
  next_first : (u : Placed) (us : List Placed) → EachLater IsEarlier (u ∷ us) → AllByRecursion (IsBefore known (next_of u us).0) (next_of u us).1
  next_first u [] h = tt
  next_first u (v ∷ vs) h = by (is_sooner known (next_of v vs).0.unit u.unit) refl (next_first v vs h.1)
    where
      by : (b : Bool) → is_sooner known (next_of v vs).0.unit u.unit ≡ b → AllByRecursion (IsBefore known (next_of v vs).0) (next_of v vs).1
          → (λ (r : Placed × List Placed). AllByRecursion (IsBefore known r.0) r.1) (if b then ((next_of v vs).0, u ∷ (next_of v vs).1) else (u, v ∷ vs))
      by true e rest = (sooner_is (next_of v vs).0 u e, rest)
      by false e rest =
          let later = not_sooner (next_of v vs).0 u e (of_next (IsEarlier u) v vs h.0.0 h.0.1).0 in
          from_next (IsBefore known u) v vs later
          (each_weaker (IsBefore known (next_of v vs).0) (IsBefore known u) (λ w t. before_on u (next_of v vs).0 w later t) (next_of v vs).1 rest)

  next_spots : (u : Placed) (us : List Placed) → IsPermutation (all_spots ((next_of u us).0 ∷ (next_of u us).1)) (all_spots (u ∷ us))
  next_spots u [] = IsPermutation-refl (all_spots (u ∷ []))
  next_spots u (v ∷ vs) = by (is_sooner known (next_of v vs).0.unit u.unit) (next_spots v vs)
    where
      by : (b : Bool) → IsPermutation (all_spots ((next_of v vs).0 ∷ (next_of v vs).1)) (all_spots (v ∷ vs))
          → (λ (r : Placed × List Placed). IsPermutation (all_spots (r.0 ∷ r.1)) (all_spots (u ∷ v ∷ vs))) (if b then ((next_of v vs).0, u ∷ (next_of v vs).1) else (u, v ∷ vs))
      by true rest =
          let l = next_of v vs in
          IsPermutation-trans (l.0.spots ++ (u.spots ++ all_spots l.1)) (u.spots ++ (l.0.spots ++ all_spots l.1)) (u.spots ++ all_spots (v ∷ vs))
          (swap_fronts l.0.spots u.spots (all_spots l.1))
          (IsPermutation-append_right u.spots (l.0.spots ++ all_spots l.1) (all_spots (v ∷ vs)) rest)
      by false rest = IsPermutation-refl (all_spots (u ∷ v ∷ vs))

  or_turned : (a b c : Bool) → (a || (b || c)) ≡ (b || (a || c))
  or_turned true true c = refl
  or_turned true false c = refl
  or_turned false b c = refl

  next_any : (p : Placed → Bool) (u : Placed) (us : List Placed) → (p (next_of u us).0 || list_any p (next_of u us).1) ≡ (p u || list_any p us)
  next_any p u [] = refl
  next_any p u (v ∷ vs) = by (is_sooner known (next_of v vs).0.unit u.unit) (next_any p v vs)
    where
      by : (b : Bool) → (p (next_of v vs).0 || list_any p (next_of v vs).1) ≡ (p v || list_any p vs)
          → (λ (r : Placed × List Placed). (p r.0 || list_any p r.1) ≡ (p u || (p v || list_any p vs))) (if b then ((next_of v vs).0, u ∷ (next_of v vs).1) else (u, v ∷ vs))
      by true rest = or_turned (p (next_of v vs).0) (p u) (list_any p (next_of v vs).1) ∙ ap (λ (b : Bool). p u || b) rest
      by false rest = refl

-- ---- all of them

abbrev pub taken_of : ℕ → List (List ℕ) → List Placed → List Placed
taken_of zero known us = []
taken_of (suc n) known [] = []
taken_of (suc n) known (u ∷ us) = let first = next_of known u us in first.0 ∷ taken_of n (known ++ variables first.0.unit.patterns) first.1

pub taken_units : (n : ℕ) (known : List (List ℕ)) (us : List Placed) → map unit_in (taken_of n known us) ≡ taken n known (map unit_in us)
taken_units zero known us = refl
taken_units (suc n) known [] = refl
taken_units (suc n) known (u ∷ us) =
    let first = next_of known u us in
    ap (λ (v : List unit.Unit). first.0.unit ∷ v) (taken_units n (known ++ variables first.0.unit.patterns) first.1)
    ∙ ap (λ (r : unit.Unit × List unit.Unit). r.0 ∷ taken n (known ++ variables r.0.patterns) r.1) (next_units known u us)

pub of_taken : (P : Placed → Type 0) (n : ℕ) (known : List (List ℕ)) (us : List Placed) → AllByRecursion P us → AllByRecursion P (taken_of n known us)
of_taken P zero known us h = tt
of_taken P (suc n) known [] h = tt
of_taken P (suc n) known (u ∷ us) h =
    let first = next_of known u us in
    let r = of_next known P u us h.0 h.1 in
    (r.0, of_taken P n (known ++ variables first.0.unit.patterns) first.1 r.1)

pub taken_spots : (n : ℕ) (known : List (List ℕ)) (us : List Placed) → length us ≡ n → IsPermutation (all_spots (taken_of n known us)) (all_spots us)
taken_spots zero known [] e = IsPermutation-refl []
taken_spots zero known (u ∷ us) e = absurd (cc)
taken_spots (suc n) known [] e = absurd (cc)
taken_spots (suc n) known (u ∷ us) e =
    let first = next_of known u us in
    let left : length first.1 ≡ n = (let l = next_length known u us in omega (arith, l, e)) in
    let rest = taken_of n (known ++ variables first.0.unit.patterns) first.1 in
    IsPermutation-trans (first.0.spots ++ all_spots rest) (first.0.spots ++ all_spots first.1) (all_spots (u ∷ us))
    (IsPermutation-append_right first.0.spots (all_spots rest) (all_spots first.1) (taken_spots n (known ++ variables first.0.unit.patterns) first.1 left))
    (next_spots known u us)

pub taken_any : (p : Placed → Bool) (n : ℕ) (known : List (List ℕ)) (us : List Placed) → length us ≡ n → list_any p (taken_of n known us) ≡ list_any p us
taken_any p zero known [] e = refl
taken_any p zero known (u ∷ us) e = absurd (cc)
taken_any p (suc n) known [] e = absurd (cc)
taken_any p (suc n) known (u ∷ us) e =
    let first = next_of known u us in
    let left : length first.1 ≡ n = (let l = next_length known u us in omega (arith, l, e)) in
    ap (λ (b : Bool). p first.0 || b) (taken_any p n (known ++ variables first.0.unit.patterns) first.1 left) ∙ next_any known p u us

-- each comes before all behind it
abbrev pub InOrder : List (List ℕ) → List Placed → Type 0
InOrder known [] = Unit {0}
InOrder known (u ∷ us) = AllByRecursion (IsBefore known u) us × InOrder (known ++ variables u.unit.patterns) us

pub taken_in_order : (n : ℕ) (known : List (List ℕ)) (us : List Placed) → EachLater IsEarlier us → InOrder known (taken_of n known us)
taken_in_order zero known us h = tt
taken_in_order (suc n) known [] h = tt
taken_in_order (suc n) known (u ∷ us) h =
    let first = next_of known u us in (
      of_taken (IsBefore known first.0) n (known ++ variables first.0.unit.patterns) first.1 (next_first known u us h),
      taken_in_order n (known ++ variables first.0.unit.patterns) first.1 (next_rise known u us h),
    )

split_order : (known : List (List ℕ)) (front : List Placed) (u : Placed) (behind : List Placed) → InOrder known (front ++ (u ∷ behind)) → AllByRecursion (IsBefore (known ++ names_of front) u) behind
split_order known [] u behind h = subst (λ (v : List (List ℕ)). AllByRecursion (IsBefore v u) behind) (sym (append-nil known)) h.0
split_order known (f ∷ fs) u behind h =
    subst (λ (v : List (List ℕ)). AllByRecursion (IsBefore v u) behind) (append_assoc known (variables f.unit.patterns) (names_of fs))
    (split_order (known ++ variables f.unit.patterns) fs u behind h.1)

pub order_from : (known : List (List ℕ)) (units : List Placed) → InOrder known units
    → (front : List Placed) (u : Placed) (behind : List Placed) → units ≡ front ++ (u ∷ behind) → All (IsBefore (known ++ names_of front) u) behind
order_from known units h front u behind e = All-from_recursion (IsBefore (known ++ names_of front) u) behind (split_order known front u behind (subst (InOrder known) e h))
