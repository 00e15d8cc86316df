-- Each step of the queue of parcels keeps its balance.
use Rattle.std.proofs.Common.{◌≡◌, ◌≢◌, ◌∙◌, ℕ, zero, suc, ◌+◌, ◌-◌, ◌/◌, ◌<◌, ◌≤◌, List, [], ◌∷◌, ◌++◌, set, sum_by, sym, refl, ap, subst, ⊎_elim, arith, All, Option, Some, None}
use mathlib.Core.Option.{some, some-injective, some-ne-none}
use lib.ListN.{get_elem?}
use Rattle.std.proofs.lemmas.List.Elements.{All-append, All-from_recursion, recursion_from_All}
use Rattle.std.proofs.lemmas.List.Sums.{sum_by_push, sum_by-append, sum_by-cons}
use Rattle.atomic_table.proofs.Lists.{at_set, at_snoc}
use Rattle.crossbeam_queue.specs.Fifo.{Pushes, Pops, Forks, Merges, Learns}
use Rattle.fx_flows.specs.Lines.{IsBalanced, IsOf, MayPut, hand}
use Rattle.fx_flows.specs.Parcels.{IsParcelOf, SameParcels}
use Rattle.fx_flows.specs.declared.lines.Hand.{Hand}
use Rattle.fx_flows.specs.declared.parcels.RunShape.{RunShape}
use Rattle.fx_flows.specs.declared.parcels.Parcel.{Parcel}
use Rattle.fx_pool.proofs.ViewLemmas.{sum_set, sum_none}

abbrev parts_of : Hand → ℕ
parts_of v = v.parts

abbrev put_in : (Parcel → ℕ) → Hand → ℕ
put_in h v = sum_by h v.put

abbrev took_in : (Parcel → ℕ) → Hand → ℕ
took_in h v = sum_by h v.took

abbrev IsIdle : Hand → Type 0
IsIdle v = v.parts ≡ 0 → (v.put ≡ []) × (v.took ≡ [])

abbrev Knows : Option RunShape → Hand → Type 0
Knows shape v = 0 < v.parts → v.shape ≡ shape

-- after a change of one view and of the items, where the others know the shape
moved : (items now : List Parcel) (views : List Hand) (pass : ℕ) (v w : Hand) (shape : Option RunShape) → IsBalanced items views → get_elem? views pass ≡ some v → w.parts ≡ v.parts → IsIdle w
    → ((h : Parcel → ℕ) → sum_by h w.put + sum_by h v.took + sum_by h items ≡ sum_by h v.put + sum_by h w.took + sum_by h now)
    → Knows shape w
    → ((j : ℕ) (u : Hand) → j ≢ pass → get_elem? views j ≡ some u → Knows shape u)
    → All (IsOf shape) now
    → IsBalanced now (set views pass w)
moved items now views pass v w shape b at same idle even mine others good = record {
  whole = (let s = sum_set parts_of views pass v w at in omega (arith, s, b.whole));
  even = λ h. (let s = sum_set (put_in h) views pass v w at in let t = sum_set (took_in h) views pass v w at in omega (arith, s, t, b.even h, even h));
  idle = λ j u e. ⊎_elim (λ (t : (j ≡ pass) × (w ≡ u)). subst IsIdle t.1 idle) (λ (t : (j ≢ pass) × (get_elem? views j ≡ some u)). b.idle j u t.1) (at_set views pass j w u e);
  shape = shape;
  same = λ j u e. ⊎_elim (λ (t : (j ≡ pass) × (w ≡ u)). subst (Knows shape) t.1 mine) (λ (t : (j ≢ pass) × (get_elem? views j ≡ some u)). others j u t.0 t.1) (at_set views pass j w u e);
  good = good;
}

-- a pass with every part is the only one that has any
others_idle : (items : List Parcel) (views : List Hand) (pass : ℕ) (v : Hand) → IsBalanced items views → get_elem? views pass ≡ some v → v.parts ≡ 16
    → (f : Hand → ℕ) → (f (hand 0 None [] []) ≡ 0) → ((j : ℕ) (u : Hand) → get_elem? views j ≡ some u → u.parts ≡ 0 → f u ≡ 0) → sum_by f (set views pass (hand 0 None [] [])) ≡ 0
others_idle items views pass v b at whole f at_none at_idle =
    let none : Hand = hand 0 None [] [] in
    let zero_parts : sum_by parts_of (set views pass none) ≡ 0 = (let t = sum_set parts_of views pass v none at in omega (arith, t, b.whole, whole)) in
    sum_none f parts_of (set views pass none)
    (λ j u e idle. ⊎_elim (λ (t : (j ≡ pass) × (none ≡ u)). subst (λ (y : Hand). f y ≡ 0) t.1 at_none)
    (λ (t : (j ≢ pass) × (get_elem? views j ≡ some u)). at_idle j u t.1 idle) (at_set views pass j none u e))
    zero_parts

one_in : (l : List Hand) (j : ℕ) (u : Hand) → get_elem? l j ≡ some u → u.parts ≤ sum_by parts_of l
one_in [] j u e = absurd (some-ne-none u (sym e))
one_in (x ∷ xs) zero u e = let same : x.parts ≡ u.parts = ap parts_of (some-injective x u e) in omega (arith, same, sum_by-cons parts_of x xs)
one_in (x ∷ xs) (suc j) u e = omega (arith, one_in xs j u e, sum_by-cons parts_of x xs)

two_in : (l : List Hand) (i j : ℕ) (v u : Hand) → get_elem? l i ≡ some v → get_elem? l j ≡ some u → j ≢ i → v.parts + u.parts ≤ sum_by parts_of l
two_in [] i j v u e f apart = absurd (some-ne-none v (sym e))
two_in (x ∷ xs) zero zero v u e f apart = absurd (apart refl)
two_in (x ∷ xs) zero (suc j) v u e f apart = let same : x.parts ≡ v.parts = ap parts_of (some-injective x v e) in omega (arith, same, sum_by-cons parts_of x xs, one_in xs j u f)
two_in (x ∷ xs) (suc i) zero v u e f apart = let same : x.parts ≡ u.parts = ap parts_of (some-injective x u f) in omega (arith, same, sum_by-cons parts_of x xs, one_in xs i v e)
two_in (x ∷ xs) (suc i) (suc j) v u e f apart = omega (arith, two_in xs i j v u e f (λ same. apart (ap suc same)), sum_by-cons parts_of x xs)

-- all others with a part know the shape, and all that the queue holds is of it
abbrev OthersKnow : ℕ → List Hand → List Parcel → Option RunShape → Type 0
OthersKnow pass views items shape = ((j : ℕ) (u : Hand) → j ≢ pass → get_elem? views j ≡ some u → Knows shape u) × All (IsOf shape) items

pub puts : (n pass : ℕ) (v : Hand) (x : Parcel) → 0 < v.parts → MayPut x.shape v → IsParcelOf x.shape x → Pushes IsBalanced n pass v x (λ w. w ≡ hand v.parts (Some x.shape) (v.put ++ x ∷ []) v.took)
puts n pass v x some_part may is items views room b at =
    let w : Hand = hand v.parts (Some x.shape) (v.put ++ x ∷ []) v.took in (
      w,
      moved items (items ++ x ∷ []) views pass v w (Some x.shape) b at refl (λ none. absurd (omega arith)) (λ h. omega (arith, sum_by_push h v.put x, sum_by_push h items x)) (λ some. refl)
          (⊎_elim known first may).0 (All-append (IsOf (Some x.shape)) items (x ∷ []) (⊎_elim known first may).1 (All-from_recursion (IsOf (Some x.shape)) (x ∷ []) (is, tt))),
      refl,
    )
  where
    known : v.shape ≡ Some x.shape → OthersKnow pass views items (Some x.shape)
    known e =
        let same : b.shape ≡ Some x.shape = sym (b.same pass v at some_part) ∙ e in
        subst (OthersKnow pass views items) same ((λ j u apart e'. b.same j u e'), b.good)

    no_items : (o : Option RunShape) (l : List Parcel) → o ≡ None → All (IsOf o) l → All (IsOf (Some x.shape)) l
    no_items o [] none good = All-from_recursion (IsOf (Some x.shape)) [] tt
    no_items o (y ∷ l) none good = absurd (subst (λ (p : Option RunShape). IsOf p y) none (recursion_from_All (IsOf o) (y ∷ l) good).0)

    first : (v.shape ≡ None) × (v.parts ≡ 16) → OthersKnow pass views items (Some x.shape)
    first e = (
      (λ j u apart at' some. absurd (let z = no_parts j u apart at' in omega (arith, z, some))),
      no_items b.shape items (sym (b.same pass v at some_part) ∙ e.0) b.good,
    )
      where
        no_parts : (j : ℕ) (u : Hand) → j ≢ pass → get_elem? views j ≡ some u → u.parts ≡ 0
        no_parts j u apart at' = let both = two_in views pass j v u at at' apart in omega (arith, both, b.whole, e.1)

pub takes : (pass : ℕ) (v : Hand) → 0 < v.parts → Pops IsBalanced pass v (λ x w. (w ≡ hand v.parts v.shape v.put (v.took ++ x ∷ [])) × IsOf v.shape x)
takes pass v some_part x items views b at =
    let w : Hand = hand v.parts v.shape v.put (v.took ++ x ∷ []) in
    let mine : v.shape ≡ b.shape = b.same pass v at some_part in
    let good = recursion_from_All (IsOf b.shape) (x ∷ items) b.good in (
      w,
      moved (x ∷ items) items views pass v w b.shape b at refl (λ none. absurd (omega arith)) (λ h. omega (arith, sum_by_push h v.took x, sum_by-cons h x items)) (λ some. mine)
          (λ j u apart e. b.same j u e) (All-from_recursion (IsOf b.shape) items good.1),
      (refl, subst (λ (o : Option RunShape). IsOf o x) (sym mine) good.0),
    )

pub forks : (pass : ℕ) (v : Hand) → 2 ≤ v.parts → Forks IsBalanced pass v (hand (v.parts - v.parts / 2) v.shape v.put v.took) (hand (v.parts / 2) v.shape [] [])
forks pass v two items views b at =
    let l : Hand = hand (v.parts - v.parts / 2) v.shape v.put v.took in
    let r : Hand = hand (v.parts / 2) v.shape [] [] in
    let half : (1 ≤ v.parts / 2) × (v.parts / 2 < v.parts) = (grind arith, grind arith) in
    let vs : List Hand = set views pass l in
    let mine : v.shape ≡ b.shape = b.same pass v at (omega arith) in
    record {
      whole = (let s = sum_set parts_of views pass v l at in let p = sum_by_push parts_of vs r in omega (arith, s, p, b.whole, half.1));
      even = λ h. (let s = sum_set (put_in h) views pass v l at in let t = sum_set (took_in h) views pass v l at in
          let p = sum_by_push (put_in h) vs r in let q = sum_by_push (took_in h) vs r in omega (arith, s, t, p, q, b.even h));
      idle = λ j u e. ⊎_elim
          (λ (o : get_elem? vs j ≡ some u). ⊎_elim (λ (t : (j ≡ pass) × (l ≡ u)). subst IsIdle t.1 (λ none. absurd (omega arith))) (λ (t : (j ≢ pass) × (get_elem? views j ≡ some u)). b.idle j u t.1) (at_set views pass j l u o))
          (λ (t : r ≡ u). subst IsIdle t (λ none. absurd (omega arith))) (at_snoc vs r u j e);
      shape = b.shape;
      same = λ j u e. ⊎_elim
          (λ (o : get_elem? vs j ≡ some u). ⊎_elim (λ (t : (j ≡ pass) × (l ≡ u)). subst (Knows b.shape) t.1 (λ some. mine)) (λ (t : (j ≢ pass) × (get_elem? views j ≡ some u)). b.same j u t.1) (at_set views pass j l u o))
          (λ (t : r ≡ u). subst (Knows b.shape) t (λ some. mine)) (at_snoc vs r u j e);
      good = b.good;
    }

pub merges : (pass : ℕ) (v : Hand) (other : ℕ) (w : Hand) → 0 < v.parts → 0 < w.parts
    → Merges IsBalanced pass v other w (hand (v.parts + w.parts) v.shape (v.put ++ w.put) (v.took ++ w.took)) (hand 0 None [] [])
merges pass v other w some_v some_w items views b at apart at' =
    let both : Hand = hand (v.parts + w.parts) v.shape (v.put ++ w.put) (v.took ++ w.took) in
    let none : Hand = hand 0 None [] [] in
    let vs : List Hand = set views pass both in
    let mine : v.shape ≡ b.shape = b.same pass v at some_v in
    record {
      whole = (let s = sum_set parts_of views pass v both at in let t = sum_set parts_of vs other w none at' in omega (arith, s, t, b.whole));
      even = λ h. (let s = sum_set (put_in h) views pass v both at in let t = sum_set (put_in h) vs other w none at' in
          let p = sum_set (took_in h) views pass v both at in let q = sum_set (took_in h) vs other w none at' in
          omega (arith, s, t, p, q, b.even h, sum_by-append h v.put w.put, sum_by-append h v.took w.took));
      idle = λ j u e. ⊎_elim (λ (t : (j ≡ other) × (none ≡ u)). subst IsIdle t.1 (λ _. (refl, refl)))
          (λ (o : (j ≢ other) × (get_elem? vs j ≡ some u)). ⊎_elim (λ (t : (j ≡ pass) × (both ≡ u)). subst IsIdle t.1 (λ idle. absurd (omega arith))) (λ (t : (j ≢ pass) × (get_elem? views j ≡ some u)). b.idle j u t.1) (at_set views pass j both u o.1))
          (at_set vs other j none u e);
      shape = b.shape;
      same = λ j u e. ⊎_elim (λ (t : (j ≡ other) × (none ≡ u)). subst (Knows b.shape) t.1 (λ some. absurd (omega arith)))
          (λ (o : (j ≢ other) × (get_elem? vs j ≡ some u)). ⊎_elim (λ (t : (j ≡ pass) × (both ≡ u)). subst (Knows b.shape) t.1 (λ some. mine)) (λ (t : (j ≢ pass) × (get_elem? views j ≡ some u)). b.same j u t.1) (at_set views pass j both u o.1))
          (at_set vs other j none u e);
      good = b.good;
    }

pub learns : (pass : ℕ) (v : Hand) → Learns IsBalanced pass v (λ items. v.parts ≡ 16 → SameParcels v.put (v.took ++ items))
learns pass v items views b at whole h =
    let none : Hand = hand 0 None [] [] in
    let puts_none = others_idle items views pass v b at whole (put_in h) refl (λ j u e idle. ap (λ (l : List Parcel). sum_by h l) (b.idle j u e idle).0) in
    let took_none = others_idle items views pass v b at whole (took_in h) refl (λ j u e idle. ap (λ (l : List Parcel). sum_by h l) (b.idle j u e idle).1) in
    let s = sum_set (put_in h) views pass v none at in
    let t = sum_set (took_in h) views pass v none at in
    omega (arith, s, t, puts_none, took_none, b.even h, sum_by-append h v.took items)

pub opened_even : IsBalanced [] (hand 16 None [] [] ∷ [])
opened_even = record {
  whole = refl;
  even = λ h. refl;
  idle = λ pass v e none. first pass v e none;
  shape = None;
  same = λ pass v e some. its pass v e;
  good = All-from_recursion (IsOf None) [] tt;
}
  where
    first : (pass : ℕ) (v : Hand) → get_elem? (hand 16 None [] [] ∷ []) pass ≡ some v → v.parts ≡ 0 → (v.put ≡ []) × (v.took ≡ [])
    first zero v e none = absurd (let same : v.parts ≡ 16 = ap (λ (u : Hand). u.parts) (some-injective v (hand 16 None [] []) (sym e)) in omega (arith, none, same))
    first (suc pass) v e none = cc

    its : (pass : ℕ) (v : Hand) → get_elem? (hand 16 None [] [] ∷ []) pass ≡ some v → v.shape ≡ None
    its zero v e = ap (λ (u : Hand). u.shape) (some-injective v (hand 16 None [] []) (sym e))
    its (suc pass) v e = cc
