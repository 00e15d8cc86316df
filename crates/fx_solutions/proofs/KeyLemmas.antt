-- Rows in the order of their keys and then of what they project to have one order, as far as they are projected.
use Rattle.std.proofs.Common.{◌≡◌, ◌∙◌, ap, sym, refl, ℕ, ◌+◌, Bool, true, false, cond, List, [], ◌∷◌, map, drop, All, IsPermutation, IsTrue, arith}
use Rattle.std.specs.List.{AllByRecursion}
use Rattle.std.specs.List.Sorted.{IsSortedBy}
use Rattle.std.specs.declared.cmp.Ordering.{Ordering}
use Rattle.std.specs.declared.cmp.Ordering.TheVariants.{Less, Equal, Greater}
use Rattle.std.specs.Ordering.{is_lt, is_le, is_eq, ordering_then, ordering_reverse}
use Rattle.std.specs.Cmp.{IsTotalOrder}
use Rattle.std.proofs.lemmas.Cmp.{then_total, on_total, alike_right}
use Rattle.std.proofs.lemmas.List.Elements.{recursion_from_All, All-map, All-weaker}
use Rattle.std.proofs.lemmas.List.Sorted.{sorted_far, ranks_by, All-permutation, IsPermutation-map}
use Rattle.fx_algebra.specs.Solutions.{Bindings, rises}
use Rattle.fx_algebra.specs.Sequences.{row_cmp, rows_total, sorted_by}
use Rattle.fx_algebra.specs.declared.queries.Order.{Order}
use Rattle.fx_algebra.proofs.OrderLemmas.{Le, Ascends, times, times-cons, once_here, least, one_more, none, same_times, ascends_from, all_sorted, sorted_ascends, sorted_times}
use Rattle.fx_algebra.proofs.SequenceLemmas.{IsRowOf, row_of, exact_rows}
use Rattle.fx_algebra.specs.Keys.{key_order, keys_in_order}
use Rattle.fx_algebra.specs.OrderedRows.{keyed, first_key, directed, keys_cmp, keyed_cmp, OneOrder}
use Rattle.fx_algebra.specs.declared.keys.Keyed.{Keyed}

-- ---- an order that tells apart what a function gives

module _ {X Y : Type 0} (R : X → X → Ordering) (o : IsTotalOrder R) (P : X → Type 0) (f : X → Y) (exact : (a b : X) → P a → P b → R a b ≡ Equal → f a ≡ f b) where
  both_le : (x y : X) (a b : Ordering) → R x y ≡ a → a ≡ ordering_reverse b → is_le a ≡ true → is_le b ≡ true → R x y ≡ Equal
  both_le x y Less Less e g h k = absurd (cc)
  both_le x y Less Equal e g h k = absurd (cc)
  both_le x y Less Greater e g h k = absurd (cc)
  both_le x y Equal b e g h k = e
  both_le x y Greater b e g h k = absurd (cc)

  tied : (x y : X) → Le R o x y → Le R o y x → R x y ≡ Equal
  tied x y h k = both_le x y (R x y) (R y x) refl (o.antisymm x y) h k

  -- what ties stands as often
  times_tied : (z x y : X) (ys : List X) → R x y ≡ Equal → times R o z (y ∷ ys) ≡ times R o z (x ∷ ys)
  times_tied z x y ys e =
      times-cons R o z y ys ∙ ap (λ r. cond {A = ℕ} (is_eq r) 1 0 + times R o z ys) (sym (alike_right o x y z e)) ∙ sym (times-cons R o z x ys)

  one_image : (xs ys : List X) → AllByRecursion P xs → AllByRecursion P ys → Ascends R o xs → Ascends R o ys → ((z : X) → times R o z xs ≡ times R o z ys) → map f xs ≡ map f ys
  one_image [] [] p q h k e = refl
  one_image [] (y ∷ ys) p q h k e = absurd (none R o y ys (e y))
  one_image (x ∷ xs) [] p q h k e = absurd (none R o x xs (sym (e x)))
  one_image (x ∷ xs) (y ∷ ys) p q h k e =
      let ties : R x y ≡ Equal = tied x y (least R o y x xs h (omega (arith, e y, once_here R o y ys))) (least R o x y ys k (omega (arith, e x, once_here R o x xs))) in
      let same : f x ≡ f y = exact x y p.0 q.0 ties in
      let rest : map f xs ≡ map f ys = one_image xs ys p.1 q.1 h.1 k.1 (λ z. one_more R o z x xs ys (e z ∙ times_tied z x y ys ties)) in
      λ i. same i ∷ rest i

  -- a list that is in order and has the elements gives what the list in order gives
  pub images_in_order : (xs ys : List X) → All P xs → IsSortedBy (λ x y. is_lt (R x y)) ys → IsPermutation xs ys → map f ys ≡ map f (sorted_by R xs)
  images_in_order xs ys h up p =
      one_image ys (sorted_by R xs)
      (recursion_from_All P ys (All-permutation P xs ys p h))
      (all_sorted R o P xs (recursion_from_All P xs h))
      (ascends_from R o ys (sorted_far (λ x y. is_lt (R x y)) (ranks_by o (λ x. x)) ys up))
      (sorted_ascends R o xs)
      (λ z. same_times R o z xs ys p ∙ sym (sorted_times R o z xs))

  -- the same elements, however they arrived, give the same in order
  pub same_images : (xs ys : List X) → All P xs → IsPermutation xs ys → map f (sorted_by R xs) ≡ map f (sorted_by R ys)
  same_images xs ys h p =
      one_image (sorted_by R xs) (sorted_by R ys)
      (all_sorted R o P xs (recursion_from_All P xs h))
      (all_sorted R o P ys (recursion_from_All P ys (All-permutation P xs ys p h)))
      (sorted_ascends R o xs)
      (sorted_ascends R o ys)
      (λ z. sorted_times R o z xs ∙ sym (same_times R o z xs ys p) ∙ sym (sorted_times R o z ys))

-- ---- the order of keys

less_back : {X : Type 0} (R : X → X → Ordering) (o : IsTotalOrder R) (x y : X) (r : Ordering) → R x y ≡ r → ordering_reverse r ≡ Less → R y x ≡ Less
less_back R o x y Less e h = cc
less_back R o x y Equal e h = cc
less_back R o x y Greater e h = o.antisymm y x ∙ ap ordering_reverse e

reverse_total : {X : Type 0} (R : X → X → Ordering) → IsTotalOrder R → IsTotalOrder (λ x y. ordering_reverse (R x y))
reverse_total R o = record {
  antisymm = λ x y. ap ordering_reverse (o.antisymm x y);
  trans = λ x y z h k. ap ordering_reverse (o.antisymm x z ∙ ap ordering_reverse (o.trans z y x (less_back R o y z (R y z) refl k) (less_back R o x y (R x y) refl h)));
  congr = λ x y z h. ap ordering_reverse (o.congr x y z (equal_back (R x y) h));
}
  where
    equal_back : (r : Ordering) → ordering_reverse r ≡ Equal → r ≡ Equal
    equal_back Less h = cc
    equal_back Equal h = refl
    equal_back Greater h = cc

directed_total : (descending : Bool) → IsTotalOrder (λ a b. directed descending (key_order a b))
directed_total true = reverse_total key_order keys_in_order
directed_total false = keys_in_order

nothing_total : {X : Type 0} → IsTotalOrder (λ (x y : X). Equal)
nothing_total = record { antisymm = λ x y. refl; trans = λ x y z h k. cc; congr = λ x y z h. refl }

keys_total : (orders : List Order) → IsTotalOrder (keys_cmp orders)
keys_total [] = nothing_total
keys_total (o ∷ os) = then_total (on_total first_key (directed_total o.descending)) (on_total (λ ks. drop 1 ks) (keys_total os))

pub keyed_total : (orders : List Order) (columns : List (List ℕ)) → IsTotalOrder (keyed_cmp orders columns)
keyed_total orders columns = then_total (on_total (λ (k : Keyed). k.keys) (keys_total orders)) (on_total (λ (k : Keyed). k.row) (rows_total columns))

pub second : (o p : Ordering) → ordering_then o p ≡ Equal → p ≡ Equal
second Equal p h = h
second Less p h = cc
second Greater p h = cc

-- what ties projects to one row
pub one_row : (orders : List Order) (columns : List (List ℕ)) (a b : Keyed) → IsRowOf columns a.row → IsRowOf columns b.row → keyed_cmp orders columns a b ≡ Equal → a.row ≡ b.row
one_row orders columns a b p q e = exact_rows columns a.row b.row p q (second (keys_cmp orders a.keys b.keys) (row_cmp columns a.row b.row) e)

pub all_keyed : (orders : List Order) (columns : List (List ℕ)) (rows : List Bindings) → All (λ s. IsTrue (rises s)) rows → All (λ k. IsRowOf columns k.row) (map (keyed orders columns) rows)
all_keyed orders columns rows h =
    All-map (λ k. IsRowOf columns k.row) (keyed orders columns) rows (All-weaker (λ s. IsTrue (rises s)) (λ s. IsRowOf columns (keyed orders columns s).row) (row_of columns) rows h)

-- the same rows, however they arrived, come in one order
pub same_in_order : OneOrder
same_in_order orders columns a b h p =
    same_images (keyed_cmp orders columns) (keyed_total orders columns) (λ k. IsRowOf columns k.row) (λ k. k.row) (one_row orders columns)
    (map (keyed orders columns) a) (map (keyed orders columns) b) (all_keyed orders columns a h) (IsPermutation-map (keyed orders columns) a b p)
