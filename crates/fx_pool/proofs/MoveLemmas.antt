-- Lists whose elements change places, and what stands beside these.
use Rattle.std.proofs.Common.{◌≡◌, ◌∙◌, ap, sym, subst, refl, ℕ, zero, suc, ◌+◌, ◌<◌, ◌≤◌, List, [], ◌∷◌, map, set, IsPermutation, get_or, length, arith, zero-add}
use lib.ListN.{get_or-map}
use lib.Seq.{map-set}
use Rattle.std.specs.List.{flat_map, swap}
use Rattle.std.proofs.lemmas.List.{length-map}
use Rattle.std.proofs.lemmas.List.Folds.{flat_map-map}
use Rattle.std.proofs.lemmas.List.Sorted.{IsPermutation-keeps, IsPermutation-refl, IsPermutation-swap, IsPermutation-trans}
use Rattle.fx_pool.proofs.NumberLemmas.{all_moved, counted, times_moved}

map_swapped : {X Y : Type 0} (f : X → Y) (xs : List X) (i j : ℕ) → map f (swap xs i j) ≡ swap (map f xs) i j
map_swapped f [] i j = refl
map_swapped f (d ∷ ys) i j =
    map-set f (set (d ∷ ys) i (get_or (d ∷ ys) j d)) j (get_or (d ∷ ys) i d)
    ∙ (λ k. set ((map-set f (d ∷ ys) i (get_or (d ∷ ys) j d) ∙ ap (set (map f (d ∷ ys)) i) (sym (get_or-map f (d ∷ ys) j d))) k) j (sym (get_or-map f (d ∷ ys) i d) k))

-- a list of which another is made, in the order that the other takes
pub record Follows {X Y : Type 0} (f : X → Y) (xs : List X) (ys : List Y) : Type 0 where
  pub list : List X
  pub same : IsPermutation xs list
  pub makes : map f list ≡ ys

pub followed : {X Y : Type 0} (f : X → Y) (xs : List X) (ys : List Y) → IsPermutation (map f xs) ys → Follows f xs ys
followed f xs ys p = IsPermutation-keeps (map f xs) (Follows f xs) (record { list = xs; same = IsPermutation-refl xs; makes = refl }) step ys p
  where
    step : (l : List _) (i j : ℕ) → i < length l → j < length l → Follows f xs l → Follows f xs (swap l i j)
    step l i j low below h =
        let long : length h.list ≡ length l = sym (length-map h.list f) ∙ ap length h.makes in
        record {
          list = swap h.list i j;
          same = IsPermutation-trans xs h.list (swap h.list i j) h.same (IsPermutation-swap h.list (swap h.list i j) i j (omega (arith, low, long)) (omega (arith, below, long)) refl);
          makes = map_swapped f h.list i j ∙ ap (λ (v : List _). swap v i j) h.makes;
        }

-- ---- lists made of elements that change places

module _ {X : Type 0} (d : X) where
  read_all : (xs : List X) (a : ℕ) (get : ℕ → X) → ((k : ℕ) → k < length xs → get (a + k) ≡ get_or xs k d) → map get (counted a (length xs)) ≡ xs
  read_all [] a get h = refl
  read_all (x ∷ xs) a get h =
      let first : get a ≡ x = ap get (plus a) ∙ h 0 (omega arith) in
      let rest : map get (counted (a + 1) (length xs)) ≡ xs = read_all xs (a + 1) get (λ k low. ap get (plus_one a k) ∙ h (suc k) (omega (arith, low))) in
      ap (λ (v : X). v ∷ map get (counted (a + 1) (length xs))) first ∙ ap (λ (v : List X). x ∷ v) rest
    where
      plus : (m : ℕ) → m ≡ m + 0
      plus m = omega arith

      plus_one : (m k : ℕ) → (m + 1) + k ≡ m + suc k
      plus_one m k = omega arith

  pub made_moved : {Y : Type 0} (f : X → List Y) (xs ys : List X) → IsPermutation xs ys → IsPermutation (flat_map f xs) (flat_map f ys)
  made_moved f xs ys p =
      let get : ℕ → X = λ k. get_or xs k d in
      let numbers : List ℕ = counted 0 (length xs) in
      let whole : map get numbers ≡ xs = read_all xs 0 get (λ k low. ap get (zero-add k)) in
      let moved = followed get numbers ys (subst (λ (v : List X). IsPermutation v ys) (sym whole) p) in
      let left : flat_map f xs ≡ flat_map (λ k. f (get k)) numbers = ap (flat_map f) (sym whole) ∙ flat_map-map f get numbers in
      let right : flat_map f ys ≡ flat_map (λ k. f (get k)) moved.list = ap (flat_map f) (sym moved.makes) ∙ flat_map-map f get moved.list in
      let all : IsPermutation (flat_map (λ k. f (get k)) numbers) (flat_map (λ k. f (get k)) moved.list) = all_moved (λ k. f (get k)) numbers moved.list (λ x. sym (times_moved x numbers moved.list moved.same)) in
      subst (λ (v : List _). IsPermutation v (flat_map f ys)) (sym left) (subst (λ (v : List _). IsPermutation (flat_map (λ k. f (get k)) numbers) v) (sym right) all)

-- ---- short lists

module _ {X : Type 0} where
  alone : (l : List X) (i j : ℕ) → length l ≤ 1 → i < length l → j < length l → swap l i j ≡ l
  alone [] i j few low below = refl
  alone (x ∷ l) zero zero few low below = refl
  alone (x ∷ l) (suc i) j few low below = absurd (omega (arith, few, low))
  alone (x ∷ l) zero (suc j) few low below = absurd (omega (arith, few, below))

  -- a list of one element at most has one order
  pub only_itself : (xs ys : List X) → length xs ≤ 1 → IsPermutation xs ys → ys ≡ xs
  only_itself xs ys short p =
      IsPermutation-keeps xs (λ l. l ≡ xs) refl (λ l i j low below h. alone l i j (subst (λ (v : List X). length v ≤ 1) (sym h) short) low below ∙ h) ys p

pub map_same : {X : Type 0} (xs : List X) → map (λ (x : X). x) xs ≡ xs
map_same [] = refl
map_same {X} (x ∷ xs) = ap (λ (v : List X). x ∷ v) (map_same xs)
