-- The places of a graph's triples in an order.
use Rattle.std.proofs.Common.{◌≡◌, ◌∙◌, ap, sym, refl, ℕ, zero, suc, ◌+◌, ◌<◌, ◌≤◌, Bool, true, false, cond, List, [], ◌∷◌, ◌++◌, map, length, take, get_or, Option, Some, None, IsPermutation, arith, option_map, subst}
use Rattle.std.specs.List.{slice_get, AllByRecursion}
use Rattle.std.specs.List.Sorted.{IsSortedBy}
use Rattle.std.specs.Option.{option_to_list}
use Rattle.std.specs.declared.cmp.Ordering.{Ordering}
use Rattle.std.specs.declared.cmp.Ordering.TheVariants.{Less, Equal, Greater}
use Rattle.std.specs.Ordering.{is_le, is_lt, nat_cmp, ordering_then, ordering_reverse}
use Rattle.std.specs.Cmp.{IsTotalOrder, IsStrictWeakOrder}
use Rattle.std.proofs.lemmas.Cmp.{then_total, on_total, lists_total, tied_itself}
use Rattle.std.proofs.lemmas.List.Elements.{All-from_recursion}
use Rattle.std.proofs.lemmas.List.Sorted.{IsPermutation-map, IsPermutation-trans, All-permutation, length_permutation, ranks_by}
use Rattle.std.proofs.lemmas.Option.{slice_get-map}
use Rattle.fx_terms.specs.Terms.{terms_total}
use Rattle.fx_terms.specs.declared.terms.Term.TheVariants.{Iri}
use Rattle.fx_terms.specs.declared.triples.Triple.{Triple}
use Rattle.fx_terms.proofs.OrderLemmas.{exact_terms}
use Rattle.fx_algebra.specs.Sequences.{sorted_by, insert_by}
use Rattle.fx_algebra.proofs.OrderLemmas.{Le, Ascends, one_order}
use Rattle.fx_store.specs.Orders.{next, term_at, part_cmp, two_cmp, order_cmp, found_cmp, AreAll, AreInOrder, AreFound}
use Rattle.fx_store.specs.declared.orders.Part.{Part}
use Rattle.fx_store.specs.declared.orders.Part.TheVariants.{Subject, Predicate, Object}
use Rattle.fx_store.proofs.SearchLemmas.{there, stands}

-- ---- the orders are total, and tell triples apart

pub part_total : (part : Part) → IsTotalOrder (part_cmp part)
part_total part = on_total (term_at part) terms_total

pub order_total : (first : Part) → IsTotalOrder (order_cmp first)
order_total first = then_total (part_total first) (then_total (part_total (next first)) (part_total (next (next first))))

both_tie : (o p : Ordering) → ordering_then o p ≡ Equal → (o ≡ Equal) × (p ≡ Equal)
both_tie Equal p h = (refl, h)
both_tie Less p h = absurd (cc)
both_tie Greater p h = absurd (cc)

-- triples with the same parts are one
pub of_parts : (a b : Triple) → Iri a.subject ≡ Iri b.subject → Iri a.predicate ≡ Iri b.predicate → a.object ≡ b.object → a ≡ b
of_parts a b s p o = let subject : a.subject ≡ b.subject = cc in let predicate : a.predicate ≡ b.predicate = cc in (λ i. record { subject = subject i; predicate = predicate i; object = o i })

all_parts : (first : Part) (a b : Triple) → term_at first a ≡ term_at first b → term_at (next first) a ≡ term_at (next first) b → term_at (next (next first)) a ≡ term_at (next (next first)) b → a ≡ b
all_parts Subject a b x y z = of_parts a b x y z
all_parts Predicate a b x y z = of_parts a b z x y
all_parts Object a b x y z = of_parts a b y z x

pub exact : (first : Part) (a b : Triple) → order_cmp first a b ≡ Equal → a ≡ b
exact first a b e =
    let front = both_tie (part_cmp first a b) (two_cmp (next first) a b) e in
    let back = both_tie (part_cmp (next first) a b) (part_cmp (next (next first)) a b) front.1 in
    all_parts first a b (exact_terms _ _ front.0) (exact_terms _ _ back.0) (exact_terms _ _ back.1)

pub found_total : {R : Triple → Triple → Ordering} → IsTotalOrder R → IsTotalOrder (found_cmp R)
found_total o = on_total option_to_list (lists_total o)

only : (o : Ordering) → ordering_then o Equal ≡ o
only Less = refl
only Equal = refl
only Greater = refl

-- two triples that are found go by their order
both_found : (R : Triple → Triple → Ordering) (a b : Triple) → found_cmp R (Some a) (Some b) ≡ R a b
both_found R a b = only (R a b)

exact_found : (f : Part) (a b : Option Triple) → found_cmp (order_cmp f) a b ≡ Equal → a ≡ b
exact_found f None None e = refl
exact_found f None (Some b) e = cc
exact_found f (Some a) None e = cc
exact_found f (Some a) (Some b) e = ap Some (exact f a b (sym (both_found (order_cmp f) a b) ∙ e))

-- ---- lists

module _ {X Y : Type 0} (R : Y → Y → Ordering) (S : X → X → Ordering) (g : X → Y) (same : (a b : X) → R (g a) (g b) ≡ S a b) where
  insert_image : (x : X) (xs : List X) → map g (insert_by S x xs) ≡ insert_by R (g x) (map g xs)
  unfolding insert_by
  insert_image x [] = refl
  insert_image x (y ∷ ys) =
      by_test (is_le (S x y)) (insert_image x ys) ∙ ap (λ o. cond (is_le o) (g x ∷ g y ∷ map g ys) (g y ∷ insert_by R (g x) (map g ys))) (sym (same x y))
    where
      by_test : (b : Bool) → map g (insert_by S x ys) ≡ insert_by R (g x) (map g ys) → map g (cond b (x ∷ y ∷ ys) (y ∷ insert_by S x ys)) ≡ cond b (g x ∷ g y ∷ map g ys) (g y ∷ insert_by R (g x) (map g ys))
      by_test true rest = refl
      by_test false rest = ap (λ v. g y ∷ v) rest

  sorted_image : (xs : List X) → map g (sorted_by S xs) ≡ sorted_by R (map g xs)
  unfolding sorted_by
  sorted_image [] = refl
  sorted_image (x ∷ xs) = insert_image x (sorted_by S xs) ∙ ap (insert_by R (g x)) (sorted_image xs)

map_at : {X Y : Type 0} (g : X → Y) (xs : List X) (k : ℕ) (d : Y) (e : X) → k < length xs → get_or (map g xs) k d ≡ g (get_or xs k e)
map_at g [] k d e h = absurd (omega arith)
map_at g (x ∷ xs) zero d e h = refl
map_at g (x ∷ xs) (suc k) d e h = map_at g xs k d e (omega arith)

length-map-here : {X Y : Type 0} (g : X → Y) (xs : List X) → length (map g xs) ≡ length xs
length-map-here g [] = refl
length-map-here g (x ∷ xs) = ap suc (length-map-here g xs)

-- what is in order by what a function gives is in order where it is given
sorted_map : {Y : Type 0} (R : Y → Y → Ordering) (g : ℕ → Y) (xs : List ℕ) → IsSortedBy (λ x y. is_lt (R (g x) (g y))) xs → IsSortedBy (λ x y. is_lt (R x y)) (map g xs)
sorted_map R g xs h k d low high =
    let within : k + 1 < length xs = omega (arith, length-map-here g xs, high) in
    (λ j. is_lt (R (map_at g xs (k + 1) d 0 within j) (map_at g xs k d 0 (omega (arith, within)) j))) ∙ h k 0 low within

-- ---- places

-- the triple at one place is below the one at another
abbrev pub below : (Triple → Triple → Ordering) → List Triple → ℕ → ℕ → Bool
below R graph a b = is_lt (found_cmp R (slice_get graph a) (slice_get graph b))

-- places of some triples that rise by an order give them in this order
found_in_order : (f : Part) (graph ts : List Triple) (ys : List ℕ) → IsPermutation (map Some ts) (map (slice_get graph) ys) → IsSortedBy (below (order_cmp f) graph) ys → map (slice_get graph) ys ≡ map Some (sorted_by (order_cmp f) ts)
found_in_order f graph ts ys p up =
    one_order (found_cmp (order_cmp f)) (found_total (order_total f)) (λ o. Unit {0}) (λ a b p q. exact_found f a b) (map Some ts) (map (slice_get graph) ys) (λ k d h. tt)
    (sorted_map (found_cmp (order_cmp f)) (slice_get graph) ys up) p
    ∙ sym (sorted_image (found_cmp (order_cmp f)) (order_cmp f) Some (both_found (order_cmp f)) ts)

-- what places give, moved as they are
moved : (graph ts : List Triple) (xs ys : List ℕ) → map (slice_get graph) xs ≡ map Some ts → IsPermutation xs ys → IsPermutation (map Some ts) (map (slice_get graph) ys)
moved graph ts xs ys e p = subst (λ v. IsPermutation v (map (slice_get graph) ys)) e (IsPermutation-map (slice_get graph) xs ys p)

places_in_order : (f : Part) (graph ts : List Triple) (xs ys : List ℕ) → map (slice_get graph) xs ≡ map Some ts
    → IsSortedBy (below (order_cmp f) graph) ys → IsPermutation xs ys → map (slice_get graph) ys ≡ map Some (sorted_by (order_cmp f) ts)
places_in_order f graph ts xs ys e up p = found_in_order f graph ts ys (moved graph ts xs ys e p) up

-- ---- the places of all triples

-- the graph's places, moved
pub all_moved : (graph : List Triple) (xs ys : List ℕ) → map (slice_get graph) xs ≡ map Some graph → IsPermutation xs ys → AreAll graph ys
all_moved graph xs ys e p = record { each = moved graph graph xs ys e p }

-- all places, moved again
pub still_all : (graph : List Triple) (xs ys : List ℕ) → AreAll graph xs → IsPermutation xs ys → AreAll graph ys
still_all graph xs ys all p = record {
  each = IsPermutation-trans (map Some graph) (map (slice_get graph) xs) (map (slice_get graph) ys) all.each (IsPermutation-map (slice_get graph) xs ys p);
}

-- all places that rise by an order are in it
pub all_in_order : (f : Part) (graph : List Triple) (ys : List ℕ) → AreAll graph ys → IsSortedBy (below (order_cmp f) graph) ys → AreInOrder (order_cmp f) graph ys
all_in_order f graph ys all up = record {
  all = sym (length-map-here (slice_get graph) ys) ∙ length_permutation (map Some graph) (map (slice_get graph) ys) all.each ∙ length-map-here Some graph;
  sorted = found_in_order f graph graph ys all.each up;
}

pub order_ranks : (f : Part) (graph : List Triple) → IsStrictWeakOrder (below (order_cmp f) graph)
order_ranks f graph = ranks_by (on_total (slice_get graph) (found_total (order_total f))) (λ x. x)

one_up : (i : ℕ) → suc (i + 1) ≡ suc i + 1
one_up i = omega arith

pub one_more : (graph : List Triple) (i : ℕ) → i < length graph → map Some (take i graph) ++ slice_get graph i ∷ [] ≡ map Some (take (i + 1) graph)
one_more [] i h = absurd (omega arith)
one_more (t ∷ ts) zero h = refl
one_more (t ∷ ts) (suc i) h = ap (λ v. Some t ∷ v) (one_more ts i (omega arith)) ∙ ap (λ n. map Some (take n (t ∷ ts))) (one_up i)

-- ---- one place

out : {X : Type 0} (a b : Option X) → option_map Some a ≡ Some b → a ≡ b
out (Some x) b e = cc
out None b e = cc

at : (xs : List ℕ) (k d : ℕ) → k < length xs → slice_get xs k ≡ Some (get_or xs k d)
at [] k d h = absurd (omega arith)
at (x ∷ xs) zero d h = refl
at (x ∷ xs) (suc k) d h = at xs k d (omega arith)

place_is_or : (order : List Triple) (graph : List Triple) (places : List ℕ) (k d : ℕ) → map (slice_get graph) places ≡ map Some order → k < length places → slice_get order k ≡ slice_get graph (get_or places k d)
place_is_or order graph places k d e h =
    out (slice_get order k) (slice_get graph (get_or places k d))
    (sym (slice_get-map Some order k) ∙ ap (λ v. slice_get v k) (sym e) ∙ slice_get-map (slice_get graph) places k ∙ ap (option_map (slice_get graph)) (at places k d h))

pub place_is : (order : List Triple) (graph : List Triple) (places : List ℕ) (k : ℕ) → map (slice_get graph) places ≡ map Some order → k < length places → slice_get order k ≡ slice_get graph (get_or places k 0)
place_is order graph places k e h = place_is_or order graph places k 0 e h

pub place_within : (order : List Triple) (graph : List Triple) (places : List ℕ) (k : ℕ) → map (slice_get graph) places ≡ map Some order → k < length places → get_or places k 0 < length graph
place_within order graph places k e h =
    let same : length order ≡ length places = sym (length-map-here Some order) ∙ ap length (sym e) ∙ length-map-here (slice_get graph) places in
    let found = stands order k (omega (arith, same, h)) in
    there graph (get_or places k 0) found.0 (sym (place_is order graph places k e h) ∙ found.1)

-- ---- places of some triples, in the order of the graph

turned_le : (o : Ordering) → is_le o ≡ true → is_lt (ordering_reverse o) ≡ false
turned_le Less h = refl
turned_le Equal h = refl
turned_le Greater h = cc

module _ (f : Part) where
  -- a triple that stands behind another in order isn't below it
  behind : (x y : Triple) → Le (order_cmp f) (order_total f) x y → is_lt (found_cmp (order_cmp f) (Some y) (Some x)) ≡ false
  behind x y h = ap is_lt (both_found (order_cmp f) y x ∙ (order_total f).antisymm y x) ∙ turned_le (order_cmp f x y) h

  all_behind : (x : Triple) (xs : List Triple) (k : ℕ) → AllByRecursion (Le (order_cmp f) (order_total f) x) xs → k < length xs → is_lt (found_cmp (order_cmp f) (slice_get xs k) (Some x)) ≡ false
  all_behind x [] k h b = absurd (omega arith)
  all_behind x (y ∷ ys) zero h b = behind x y h.0
  all_behind x (y ∷ ys) (suc k) h b = all_behind x ys k h.1 (omega arith)

  goes_up : (ts : List Triple) → Ascends (order_cmp f) (order_total f) ts → (a b : ℕ) → a ≤ b → b < length ts → below (order_cmp f) ts b a ≡ false
  goes_up [] h a b le within = absurd (omega arith)
  goes_up (x ∷ xs) h zero zero le within = ap is_lt (tied_itself (found_total (order_total f)) (Some x))
  goes_up (x ∷ xs) h zero (suc b) le within = all_behind x xs b h.0 (omega arith)
  goes_up (x ∷ xs) h (suc a) zero le within = absurd (omega arith)
  goes_up (x ∷ xs) h (suc a) (suc b) le within = goes_up xs h.1 a b (omega arith) (omega arith)

all_within : (graph : List Triple) (places : List ℕ) (ts : List Triple) → map (slice_get graph) places ≡ map Some ts → AllByRecursion (λ p. p < length graph) places
all_within graph [] ts e = tt
all_within graph (p ∷ ps) [] e = absurd (cc)
all_within graph (p ∷ ps) (t ∷ ts) e = let here : slice_get graph p ≡ Some t = cc in (there graph p t here, all_within graph ps ts (cc))

-- each of the places has a triple
pub within : (graph : List Triple) (places : List ℕ) (ts : List Triple) → map (slice_get graph) places ≡ map Some ts → AreFound graph places
within graph places ts e = All-from_recursion (λ p. p < length graph) places (all_within graph places ts e)

not_below : (a b : ℕ) → is_lt (nat_cmp b a) ≡ false → a ≤ b
not_below a b h = grind arith

-- places that rise give the triples in the order of the graph
pub places_sorted : (graph : List Triple) (ts : List Triple) (xs ys : List ℕ) → Ascends (order_cmp Subject) (order_total Subject) graph → map (slice_get graph) xs ≡ map Some ts
    → IsSortedBy (λ a b. is_lt (nat_cmp a b)) ys → IsPermutation xs ys → map (slice_get graph) ys ≡ map Some (sorted_by (order_cmp Subject) ts)
places_sorted graph ts xs ys h e up p =
    let all : AreFound graph ys = All-permutation (λ p. p < length graph) xs ys p (within graph xs ts e) in
    places_in_order Subject graph ts xs ys e
    (λ k d low high. goes_up Subject graph h (get_or ys k d) (get_or ys (k + 1) d) (not_below (get_or ys k d) (get_or ys (k + 1) d) (up k d low high)) (all (k + 1) d high)) p

-- there are as many places as triples
pub place_count : (graph : List Triple) (places : List ℕ) (ts : List Triple) → map (slice_get graph) places ≡ map Some ts → length places ≡ length ts
place_count graph places ts e = sym (length-map-here (slice_get graph) places) ∙ ap length e ∙ length-map-here Some ts
