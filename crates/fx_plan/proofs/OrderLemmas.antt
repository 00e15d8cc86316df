-- Which unit is taken next, and what is free then.
use Rattle.std.proofs.Common.{◌≡◌, ◌∙◌, ap, sym, refl, ℕ, zero, suc, ◌+◌, ◌<◌, Bool, true, false, not, cond, ◌&&◌, ◌||◌, if◌then◌else◌, List, [], ◌∷◌, ◌++◌, map, filter, length, get_or, drop, take, remove, append-nil, ◌-◌, arith}
use Rattle.std.specs.Ordering.{is_eq}
use Rattle.std.proofs.Math.ListN.{drop_of_length-le}
use Rattle.std.proofs.Math.Seq.{take-length}
use Rattle.fx_terms.specs.Texts.{text_cmp}
use Rattle.fx_terms.specs.declared.patterns.Pattern.{Pattern}
use Rattle.fx_algebra.specs.BasicGraphPatterns.{variables}
use Rattle.fx_algebra.specs.Scopes.{is_among, once}
use Rattle.fx_algebra.specs.declared.units.Unit as unit
use Rattle.fx_plan.specs.Plans.{free_names, in_order, is_sooner, next, taken}
use Rattle.fx_plan.specs.Places.{first_of, first_place, is_sooner_waiting, place_of, waits, without}
use Rattle.fx_plan.specs.declared.orders.Waiting.{Waiting}
use Rattle.fx_plan.proofs.NameLemmas.{among_both, among_once, filter_same, filter_twice, text_from}

-- ---- what is free

among_kept : (p : List ℕ → Bool) (xs : List (List ℕ)) (name : List ℕ) → p name ≡ true → is_among (filter p xs) name ≡ is_among xs name
among_kept p [] name h = refl
among_kept p (x ∷ xs) name h = by (among_kept p xs name h) (p x) refl
  where
    other : p x ≡ false → (b : Bool) → is_eq (text_cmp x name) ≡ b → b ≡ false
    other e true f = sym h ∙ sym (ap p (text_from (text_cmp x name) x name refl f)) ∙ e
    other e false f = refl

    by : is_among (filter p xs) name ≡ is_among xs name → (b : Bool) → p x ≡ b → is_among (cond b (x ∷ filter p xs) (filter p xs)) name ≡ (is_eq (text_cmp x name) || is_among xs name)
    by rest true e = ap (λ v. is_eq (text_cmp x name) || v) rest
    by rest false e = rest ∙ sym (ap (λ v. v || is_among xs name) (other e (is_eq (text_cmp x name)) refl))

neither : (known : List (List ℕ)) (ps : List Pattern) (name : List ℕ) → not (is_among (known ++ variables ps) name) ≡ (not (is_among known name) && not (is_among (free_names known ps) name))
neither known ps name = ap not (among_both known (variables ps) name) ∙ by (is_among known name) refl
  where
    by : (b : Bool) → is_among known name ≡ b → not (b || is_among (variables ps) name) ≡ (not b && not (is_among (free_names known ps) name))
    by true e = refl
    by false e = ap not (sym (among_kept (λ n. not (is_among known n)) (once (variables ps)) name (ap not e) ∙ among_once (variables ps) name))

-- without what a unit binds
free_after : (known : List (List ℕ)) (ps qs : List Pattern) → filter (λ n. not (is_among (free_names known ps) n)) (free_names known qs) ≡ free_names (known ++ variables ps) qs
free_after known ps qs = filter_twice (λ n. not (is_among known n)) (λ n. not (is_among (free_names known ps) n)) (λ n. not (is_among (known ++ variables ps) n)) (neither known ps) (once (variables qs))

all_after : (known : List (List ℕ)) (ps : List Pattern) (us : List unit.Unit) → map (without (free_names known ps)) (map (waits known) us) ≡ map (waits (known ++ variables ps)) us
all_after known ps [] = refl
all_after known ps (u ∷ us) = λ i. record { unit = u; free = free_after known ps u.patterns i } ∷ all_after known ps us i

-- the same names are known
pub waits_same : (a b : List (List ℕ)) → ((n : List ℕ) → is_among a n ≡ is_among b n) → (us : List unit.Unit) → map (waits a) us ≡ map (waits b) us
waits_same a b h [] = refl
waits_same a b h (u ∷ us) = λ i. record { unit = u; free = filter_same (λ n. not (is_among a n)) (λ n. not (is_among b n)) (λ n. ap not (h n)) (once (variables u.patterns)) i } ∷ waits_same a b h us i

-- ---- the place of the one that is taken next

pub first_get : (w : Waiting) (ws : List Waiting) (d : Waiting) → get_or (w ∷ ws) (place_of w ws) d ≡ first_of w ws
first_get w [] d = refl
first_get w (v ∷ vs) d = by (first_get v vs d) (is_sooner_waiting (first_of v vs) w)
  where
    by : get_or (v ∷ vs) (place_of v vs) d ≡ first_of v vs → (b : Bool) → get_or (w ∷ v ∷ vs) (if b then suc (place_of v vs) else 0) d ≡ (if b then first_of v vs else w)
    by rest true = rest
    by rest false = refl

none : (n : ℕ) → 0 + n ≡ n
none n = omega arith

one : (m n : ℕ) → suc m + n ≡ suc (m + n)
one m n = omega arith

pub drop_get : (ws : List Waiting) (at k : ℕ) (d : Waiting) → get_or ws (at + k) d ≡ get_or (drop at ws) k d
drop_get [] zero k d = refl
drop_get [] (suc at) k d = refl
drop_get (w ∷ ws) zero k d = ap (λ n. get_or (w ∷ ws) n d) (none k)
drop_get (w ∷ ws) (suc at) k d = ap (λ n. get_or (w ∷ ws) n d) (one at k) ∙ drop_get ws at k d

-- the last one alone
pub last_first : (ws : List Waiting) → 0 < length ws → first_place (drop (length ws - 1) ws) ≡ 0
last_first [] h = absurd (omega arith)
last_first (w ∷ []) h = refl
last_first (w ∷ v ∷ vs) h = ap (λ n. first_place (drop n (w ∷ v ∷ vs))) (before (length vs)) ∙ last_first (v ∷ vs) (omega arith)
  where
    before : (n : ℕ) → suc (suc n) - 1 ≡ suc (suc n - 1)
    before n = omega arith

-- one more in front
pub place_step : (x b : Waiting) (ys : List Waiting) → 0 < length ys → b ≡ get_or ys (first_place ys) b → first_place (x ∷ ys) ≡ (if is_sooner_waiting b x then suc (first_place ys) else 0)
place_step x b [] h e = absurd (omega arith)
place_step x b (y ∷ zs) h e = sym (ap (λ (w : Waiting). if is_sooner_waiting w x then suc (place_of y zs) else 0) (e ∙ first_get y zs b))

-- ---- the next unit

abbrev pick : Bool → unit.Unit → unit.Unit × List unit.Unit → List unit.Unit → unit.Unit × List unit.Unit
pick b u later us = if b then (later.0, u ∷ later.1) else (u, us)

module _ (known : List (List ℕ)) where
  first_is : (u : unit.Unit) (us : List unit.Unit) → first_of (waits known u) (map (waits known) us) ≡ waits known (next known u us).0
  first_is u [] = refl
  first_is u (v ∷ vs) = ap (λ (w : Waiting). if is_sooner_waiting w (waits known u) then w else waits known u) (first_is v vs) ∙ by (is_sooner known (next known v vs).0 u)
    where
      by : (b : Bool) → (if b then waits known (next known v vs).0 else waits known u) ≡ waits known (pick b u (next known v vs) (v ∷ vs)).0
      by true = refl
      by false = refl

  place_is : (u v : unit.Unit) (vs : List unit.Unit) → place_of (waits known u) (map (waits known) (v ∷ vs)) ≡ (if is_sooner known (next known v vs).0 u then suc (place_of (waits known v) (map (waits known) vs)) else 0)
  place_is u v vs = ap (λ (w : Waiting). if is_sooner_waiting w (waits known u) then suc (place_of (waits known v) (map (waits known) vs)) else 0) (first_is v vs)

  item_is : (u : unit.Unit) (us : List unit.Unit) (d : Waiting) → get_or (map (waits known) (u ∷ us)) (first_place (map (waits known) (u ∷ us))) d ≡ waits known (next known u us).0
  item_is u us d = first_get (waits known u) (map (waits known) us) d ∙ first_is u us

  rest_is : (u : unit.Unit) (us : List unit.Unit) → remove (map (waits known) (u ∷ us)) (first_place (map (waits known) (u ∷ us))) ≡ map (waits known) (next known u us).1
  rest_is u [] = refl
  rest_is u (v ∷ vs) = ap (remove (map (waits known) (u ∷ v ∷ vs))) (place_is u v vs) ∙ by (rest_is v vs) (is_sooner known (next known v vs).0 u)
    where
      by : remove (map (waits known) (v ∷ vs)) (first_place (map (waits known) (v ∷ vs))) ≡ map (waits known) (next known v vs).1 →
          (b : Bool) → remove (map (waits known) (u ∷ v ∷ vs)) (if b then suc (place_of (waits known v) (map (waits known) vs)) else 0) ≡ map (waits known) (pick b u (next known v vs) (v ∷ vs)).1
      by rest true = ap (λ (ws : List Waiting). waits known u ∷ ws) rest
      by rest false = refl

  rest_length : (u : unit.Unit) (us : List unit.Unit) → length (next known u us).1 ≡ length us
  rest_length u [] = refl
  rest_length u (v ∷ vs) = by (rest_length v vs) (is_sooner known (next known v vs).0 u)
    where
      by : length (next known v vs).1 ≡ length vs → (b : Bool) → length (pick b u (next known v vs) (v ∷ vs)).1 ≡ length (v ∷ vs)
      by rest true = ap suc rest
      by rest false = refl

-- a slice that is written back
pub written : (xs ys : List Waiting) (n : ℕ) → length xs ≡ length ys → n ≡ length ys → take n (xs ++ drop (length xs) ys) ≡ xs
written xs ys n e f =
    ap (λ (v : List Waiting). take n (xs ++ v)) (drop_of_length-le ys (omega (arith, e)))
    ∙ ap (take n) (append-nil xs)
    ∙ ap (λ (k : ℕ). take k xs) (f ∙ sym e)
    ∙ take-length xs

-- what is left after one is taken, and what is taken from it
pub record Follows (known : List (List ℕ)) (us : List unit.Unit) (w : Waiting) (left : List Waiting) : Type 0 where
  pub rest : List unit.Unit
  pub waiting : left ≡ map (waits (known ++ variables w.unit.patterns)) rest
  pub order : in_order known us ≡ w.unit ∷ in_order (known ++ variables w.unit.patterns) rest

pub follows : (known : List (List ℕ)) (ws : List Waiting) (us : List unit.Unit) → ws ≡ map (waits known) us → 0 < length ws → (w : Waiting) → w ≡ get_or ws (first_place ws) w → Follows known us w (map (without w.free) (remove ws (first_place ws)))
follows known ws [] e h w g = absurd (omega (arith, h, ap length e))
follows known ws (u ∷ us) e h w g = record {
  rest = (next known u us).1;
  waiting =
      (λ i. map (without (own i).free) (remove (e i) (first_place (e i))))
      ∙ ap (map (without (free_names known (next known u us).0.patterns))) (rest_is known u us)
      ∙ all_after known (next known u us).0.patterns (next known u us).1
      ∙ ap (λ (v : Waiting). map (waits (known ++ variables v.unit.patterns)) (next known u us).1) (sym own);
  order =
      ap (λ (k : ℕ). (next known u us).0 ∷ taken k (known ++ variables (next known u us).0.patterns) (next known u us).1) (sym (rest_length known u us))
      ∙ ap (λ (v : Waiting). v.unit ∷ in_order (known ++ variables v.unit.patterns) (next known u us).1) (sym own);
}
  where
    own : w ≡ waits known (next known u us).0
    own = g ∙ ap (λ (v : List Waiting). get_or v (first_place v) w) e ∙ item_is known u us w
