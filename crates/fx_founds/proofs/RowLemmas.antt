-- All that was found, in order and each once, is what was found branch by branch.
use Rattle.std.proofs.Common.{◌≡◌, ◌∙◌, ap, sym, subst, refl, inl, inr, ℕ, zero, suc, ◌+◌, ◌<◌, ◌≤◌, Bool, true, false, cond, List, [], ◌∷◌, ◌++◌, map, filter, Contains, arith}
use Rattle.std.specs.Prelude.{All, ◌==◌, slice_get}
use Rattle.std.specs.List.{AllByRecursion, flat_map}
use Rattle.std.specs.List.Sorted.{IsStrictlySortedBy}
use Rattle.std.specs.declared.cmp.Ordering.{Ordering}
use Rattle.std.specs.declared.cmp.Ordering.TheVariants.{Less}
use Rattle.std.specs.Ordering.{nat_cmp, ordering_then}
use Rattle.std.proofs.lemmas.Bool.Decides.{nat_tests}
use Rattle.std.proofs.lemmas.Cmp.{nat_cmp_total, tied_itself}
use Rattle.std.proofs.lemmas.List.{map-append}
use Rattle.std.proofs.lemmas.List.Elements.{recursion_from_All}
use Rattle.fx_terms.specs.Graphs.{set_of}
use Rattle.fx_terms.proofs.SetLemmas.{Among, among_from, among_from_set, among_set, one_rising, rises_set}
use Rattle.fx_algebra.specs.Solutions.{Bindings, solution_cmp, solutions_total}
use Rattle.fx_algebra.specs.Units.{row_of}
use Rattle.fx_algebra.specs.declared.units.Row.{Row}
use Rattle.fx_algebra.specs.declared.units.Unit as unit
use Rattle.fx_algebra.proofs.JoinLemmas.{exact_solutions}
use Rattle.fx_algebra.proofs.MemberLemmas.{among_flat_map, among_from_flat_map, among_from_map, among_map}
use Rattle.fx_founds.specs.FoundOrder.{found_cmp, founds_total}
use Rattle.fx_founds.proofs.FoundLemmas.{exact_founds}
use Rattle.fx_founds.specs.Uniting.{Place, branches, found_for, is_worth_asking, numbers_of, origin_by, places_from, row_by, united}
use Rattle.fx_founds.specs.declared.founds.Found.{Found}
use Rattle.fx_founds.proofs.UnionLemmas.{each_of, in_kept, kept_in}
use Rattle.fx_founds.proofs.UniteLemmas.{number_above}

pub map_both : {X Y Z : Type 0} (f : X → Y) (g : Y → Z) (xs : List X) → map g (map f xs) ≡ map (λ x. g (f x)) xs
map_both f g [] = refl
map_both f g (x ∷ xs) = ap (λ v. g (f x) ∷ v) (map_both f g xs)

pub map_flat : {X Y Z : Type 0} (f : X → List Y) (g : Y → Z) (xs : List X) → map g (flat_map f xs) ≡ flat_map (λ x. map g (f x)) xs
map_flat f g [] = refl
map_flat f g (x ∷ xs) = map-append g (f x) (flat_map f xs) ∙ ap (λ v. map g (f x) ++ v) (map_flat f g xs)

pub flat_each : {X Y : Type 0} (f g : X → List Y) (xs : List X) → ((x : X) → Among x xs → f x ≡ g x) → flat_map f xs ≡ flat_map g xs
flat_each f g [] h = refl
flat_each f g (x ∷ xs) h = let here : f x ≡ g x = h x (inl refl) in let rest : flat_map f xs ≡ flat_map g xs = flat_each f g xs (λ y m. h y (inr m)) in λ i. here i ++ rest i

below_number : (m n : ℕ) → m < n → nat_cmp m n ≡ Less
below_number m n h = grind (arith, nat_tests)

abbrev found : ℕ → Bindings → Found
found number s = record { branch = number; solution = s }

same_branch : (number : ℕ) (s t : Bindings) → solution_cmp s t ≡ Less → found_cmp (found number s) (found number t) ≡ Less
same_branch number s t h = ap (λ (o : Ordering). ordering_then o (solution_cmp s t)) (tied_itself nat_cmp_total number) ∙ h

below_branch : (f g : Found) → f.branch < g.branch → found_cmp f g ≡ Less
below_branch f g h = ap (λ (o : Ordering). ordering_then o (solution_cmp f.solution g.solution)) (below_number f.branch g.branch h)

-- ---- rising lists

all_map : {X Y : Type 0} (f : X → Y) (P : X → Type 0) (Q : Y → Type 0) (xs : List X) → ((x : X) → P x → Q (f x)) → AllByRecursion P xs → AllByRecursion Q (map f xs)
all_map f P Q [] g h = tt
all_map f P Q (x ∷ xs) g h = (g x h.0, all_map f P Q xs g h.1)

all_both : {X : Type 0} (P : X → Type 0) (xs ys : List X) → AllByRecursion P xs → AllByRecursion P ys → AllByRecursion P (xs ++ ys)
all_both P [] ys h k = k
all_both P (x ∷ xs) ys h k = (h.0, all_both P xs ys h.1 k)

all_from : {X : Type 0} (P : X → Type 0) (xs : List X) → ((x : X) → Among x xs → P x) → AllByRecursion P xs
all_from P [] h = tt
all_from P (x ∷ xs) h = (h x (inl refl), all_from P xs (λ y m. h y (inr m)))

one_branch_rises : (number : ℕ) (ss : List Bindings) → IsStrictlySortedBy solution_cmp ss → IsStrictlySortedBy found_cmp (map (found number) ss)
unfolding IsStrictlySortedBy
one_branch_rises number [] h = tt
one_branch_rises number (s ∷ ss) h =
    (all_map (found number) (λ t. solution_cmp s t ≡ Less) (λ f. found_cmp (found number s) f ≡ Less) ss (λ t k. same_branch number s t k) h.0, one_branch_rises number ss h.1)

both_rise : (xs ys : List Found) → IsStrictlySortedBy found_cmp xs → IsStrictlySortedBy found_cmp ys → ((x y : Found) → Among x xs → Among y ys → found_cmp x y ≡ Less) → IsStrictlySortedBy found_cmp (xs ++ ys)
unfolding IsStrictlySortedBy
both_rise [] ys h k apart = k
both_rise (x ∷ xs) ys h k apart =
    (all_both (λ f. found_cmp x f ≡ Less) xs ys h.0 (all_from (λ f. found_cmp x f ≡ Less) ys (λ y m. apart x y (inl refl) m)), both_rise xs ys h.1 k (λ z y m n. apart z y (inr m) n))

-- ---- what was found, branch by branch

module _ (asks : Place → Bool) (founds : List Found) where
  -- what was found for a branch, in order and each once
  abbrev of_branch : Place → List Found
  of_branch b = map (found b.number) (set_of solution_cmp (found_for b.number founds))

  abbrev from_place : ℕ → List Row → List Found
  from_place n rows = flat_map of_branch (filter asks (places_from n rows))

  of_number : (b : Place) (f : Found) → Among f (of_branch b) → f.branch ≡ b.number
  of_number b f m = let s = among_from_map (found b.number) f (set_of solution_cmp (found_for b.number founds)) m in sym (ap (λ (v : Found). v.branch) s.2)

  above : (n : ℕ) (rows : List Row) (f : Found) → Among f (from_place n rows) → n ≤ f.branch
  above n rows f m =
      let b = among_from_flat_map of_branch f (filter asks (places_from n rows)) m in
      let low = number_above n rows b.0 (in_kept asks b.0 (places_from n rows) b.1).0 in
      let same = of_number b.0 f b.2 in
      omega (arith, low, same)

  all_rise : (n : ℕ) (rows : List Row) → IsStrictlySortedBy found_cmp (from_place n rows)
  unfolding IsStrictlySortedBy
  all_rise n [] = tt
  all_rise n (r ∷ rows) = by (all_rise (suc n) rows) (asks (record { number = n; row = r }))
    where
      by : IsStrictlySortedBy found_cmp (from_place (suc n) rows) → (c : Bool) → IsStrictlySortedBy found_cmp (flat_map of_branch (cond c (record { number = n; row = r } ∷ filter asks (places_from (suc n) rows)) (filter asks (places_from (suc n) rows))))
      by rest true =
          both_rise (of_branch (record { number = n; row = r })) (from_place (suc n) rows)
          (one_branch_rises n (set_of solution_cmp (found_for n founds)) (rises_set solution_cmp solutions_total exact_solutions (found_for n founds)))
          rest
          (λ x y m k. let low = above (suc n) rows y k in let same = of_number (record { number = n; row = r }) x m in below_branch x y (omega (arith, low, same)))
      by rest false = rest

  equal_numbers : (m n : ℕ) → (m == n) ≡ true → m ≡ n
  equal_numbers m n h = grind (arith, nat_tests)

  itself : (m n : ℕ) → m ≡ n → (m == n) ≡ true
  itself m n h = grind (arith, nat_tests)

  -- it was found
  was_found : (n : ℕ) (rows : List Row) (f : Found) → Among f (from_place n rows) → Among f founds
  was_found n rows f m =
      let b = among_from_flat_map of_branch f (filter asks (places_from n rows)) m in
      let mine = found_for b.0.number founds in
      let s = among_from_map (found b.0.number) f (set_of solution_cmp mine) b.2 in
      let a = among_from_map (λ (g : Found). g.solution) s.0 (filter (λ (g : Found). g.branch == b.0.number) founds) (among_from_set solution_cmp solutions_total exact_solutions s.0 mine s.1) in
      let k = in_kept (λ (g : Found). g.branch == b.0.number) a.0 founds a.1 in
      let number : a.0.branch ≡ b.0.number = equal_numbers a.0.branch b.0.number k.1 in
      let one : a.0 ≡ f = (λ i. record { branch = number i; solution = a.2 i }) ∙ s.2 in
      subst (λ (v : Found). Among v founds) one k.0

  -- all that was found for these branches is there
  is_there : (n : ℕ) (rows : List Row) (f : Found) → Among f.branch (map (λ (b : Place). b.number) (filter asks (places_from n rows))) → Among f founds → Among f (from_place n rows)
  is_there n rows f branch m =
      let b = among_from_map (λ (c : Place). c.number) f.branch (filter asks (places_from n rows)) branch in
      let mine = found_for b.0.number founds in
      let s : Among f.solution mine = among_map (λ (g : Found). g.solution) f (filter (λ (g : Found). g.branch == b.0.number) founds) (kept_in (λ (g : Found). g.branch == b.0.number) f founds m (itself f.branch b.0.number (sym b.2))) in
      let there = among_map (found b.0.number) f.solution (set_of solution_cmp mine) (among_set solution_cmp solutions_total exact_solutions f.solution mine s) in
      let one : found b.0.number f.solution ≡ f = λ i. record { branch = b.2 i; solution = f.solution } in
      among_flat_map of_branch b.0 f (filter asks (places_from n rows)) b.1 (subst (λ (v : Found). Among v (of_branch b.0)) one there)

  pub set_by_branch : (rows : List Row) → ((f : Found) → Among f founds → Among f.branch (map (λ (b : Place). b.number) (filter asks (places_from 0 rows)))) → set_of found_cmp founds ≡ from_place 0 rows
  set_by_branch rows known =
      one_rising found_cmp founds_total exact_founds (set_of found_cmp founds) (from_place 0 rows) (rises_set found_cmp founds_total exact_founds founds) (all_rise 0 rows)
      (λ f m. let n = among_from_set found_cmp founds_total exact_founds f founds m in is_there 0 rows f (known f n) n)
      (λ f m. among_set found_cmp founds_total exact_founds f founds (was_found 0 rows f m))

-- ---- rows

-- the number of a place leads to its row
origin_found : (n k : ℕ) (rows : List Row) (b : Place) → Among b (places_from n rows) → b.number ≡ n + k → origin_by (slice_get rows k) ≡ b.row.origin
origin_found n k [] b m e = absurd m
origin_found n zero (r ∷ rows) b (inl same) e = ap (λ (v : Place). v.row.origin) same
origin_found n zero (r ∷ rows) b (inr m) e = let low = number_above (suc n) rows b m in absurd (omega (arith, low, e))
origin_found n (suc k) (r ∷ rows) b (inl same) e = let number : n ≡ b.number = ap (λ (v : Place). v.number) same in absurd (omega (arith, number, e))
origin_found n (suc k) (r ∷ rows) b (inr m) e = origin_found (suc n) k rows b m (omega (arith, e))

pub united_is : (u : unit.Unit) (rows : List Row) (lists : List (List Found)) → All (λ (list : List Found). All (λ (f : Found). Contains (numbers_of u rows) f.branch) list) lists
    → map (row_by rows) (set_of found_cmp (flat_map (λ list. list) lists)) ≡ united (branches u rows) lists
united_is u rows lists known =
    let founds = flat_map (λ list. list) lists in
    let asks = is_worth_asking u in
    let of = λ (b : Place). map (found b.number) (set_of solution_cmp (found_for b.number founds)) in
    ap (map (row_by rows)) (set_by_branch asks founds rows each)
    ∙ map_flat of (row_by rows) (branches u rows)
    ∙ flat_each (λ b. map (row_by rows) (of b)) (λ b. map (row_of b.row.origin) (set_of solution_cmp (found_for b.number founds))) (branches u rows)
    (λ b m.
    map_both (found b.number) (row_by rows) (set_of solution_cmp (found_for b.number founds))
    ∙ ap (λ (n : ℕ). map (row_of n) (set_of solution_cmp (found_for b.number founds))) (origin_found 0 b.number rows b (in_kept asks b (places_from 0 rows) m).0 (omega arith)))
  where
    each : (f : Found) → Among f (flat_map (λ list. list) lists) → Among f.branch (numbers_of u rows)
    each f m =
        let list = among_from_flat_map (λ (l : List Found). l) f lists m in
        let all = each_of (λ (l : List Found). All (λ (g : Found). Contains (numbers_of u rows) g.branch) l) lists (recursion_from_All (λ (l : List Found). All (λ (g : Found). Contains (numbers_of u rows) g.branch) l) lists known) list.0 list.1 in
        among_from (numbers_of u rows) f.branch (each_of (λ (g : Found). Contains (numbers_of u rows) g.branch) list.0 (recursion_from_All (λ (g : Found). Contains (numbers_of u rows) g.branch) list.0 all) f list.2)
