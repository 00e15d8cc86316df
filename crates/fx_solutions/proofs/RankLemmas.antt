-- Rows that are ordered whole and projected behind come as those that are projected first.
use Rattle.std.proofs.Common.{◌≡◌, ◌∙◌, ap, sym, refl, ℕ, Bool, true, false, ◌||◌, cond, List, [], ◌∷◌, ◌++◌, map, fold, take, drop, Option, Some, None, All, IsPermutation, IsTrue}
use Rattle.std.specs.List.{list_any}
use Rattle.std.specs.List.Sorted.{IsSortedBy}
use Rattle.std.specs.declared.cmp.Ordering.{Ordering}
use Rattle.std.specs.declared.cmp.Ordering.TheVariants.{Equal}
use Rattle.std.specs.Ordering.{is_eq, is_le, is_lt, ordering_then}
use Rattle.std.specs.Cmp.Lexicographic.{slice_cmp}
use Rattle.std.specs.FinMap.Entries.{find-where_key}
use Rattle.std.proofs.lemmas.Cmp.{tied_itself}
use Rattle.std.proofs.lemmas.List.{map-append, take-map, drop-map}
use Rattle.std.proofs.lemmas.List.Elements.{All-map}
use Rattle.std.proofs.lemmas.Map.Lookups.{exact_bytes}
use Rattle.std.proofs.lemmas.Simd.{map-map}
use Rattle.fx_terms.specs.Texts.{text_cmp, texts_total}
use Rattle.fx_algebra.specs.Scopes.{is_among}
use Rattle.fx_algebra.specs.Solutions.{Bindings, term_of, rises}
use Rattle.fx_algebra.specs.Sequences.{projected, cells, cell_cmp, row_cmp, sorted_by, insert_by, with_row, distinct_rows, limited}
use Rattle.fx_algebra.specs.OrderedRows.{keys_cmp, keyed_cmp, in_order}
use Rattle.fx_algebra.specs.declared.queries.Order.{Order}
use Rattle.fx_algebra.specs.declared.keys.Keyed.{Keyed}
use Rattle.fx_algebra.proofs.SequenceLemmas.{row_of, exact_rows}
use Rattle.fx_solutions.specs.Ranks.{ranked, whole_rows, projected_rows, front}
use Rattle.fx_solutions.proofs.KeyLemmas.{images_in_order, keyed_total, second}

-- ---- a projected row has the same cells

term_kept : (columns : List (List ℕ)) (s : Bindings) (name : List ℕ) → is_among columns name ≡ true → term_of (projected columns s) name ≡ term_of s name
term_kept columns s name h =
    find-where_key text_cmp (is_among columns) name (λ x t. ap (is_among columns) (sym (exact_bytes name x t))) s
    ∙ ap (λ b. cond b (term_of s name) None) h

or_true : (a b : Bool) → b ≡ true → (a || b) ≡ true
or_true true b h = refl
or_true false b h = h

here : (c : List ℕ) (cs : List (List ℕ)) → is_among (c ∷ cs) c ≡ true
here c cs = ap (λ o. is_eq o || is_among cs c) (tied_itself texts_total c)

map_kept : (columns : List (List ℕ)) (s : Bindings) (cs : List (List ℕ)) → ((name : List ℕ) → is_among cs name ≡ true → is_among columns name ≡ true) → map (term_of (projected columns s)) cs ≡ map (term_of s) cs
map_kept columns s [] h = refl
map_kept columns s (c ∷ cs) h =
    let first = term_kept columns s c (h c (here c cs)) in
    let rest = map_kept columns s cs (λ name g. h name (or_true (is_eq (text_cmp c name)) (is_among cs name) g)) in
    λ j. first j ∷ rest j

cells_kept : (columns : List (List ℕ)) (s : Bindings) → cells columns (projected columns s) ≡ cells columns s
cells_kept columns s = map_kept columns s columns (λ name g. g)

row_cmp_kept : (columns : List (List ℕ)) (a b : Bindings) → row_cmp columns (projected columns a) (projected columns b) ≡ row_cmp columns a b
row_cmp_kept columns a b = λ j. slice_cmp cell_cmp (cells_kept columns a j) (cells_kept columns b j)

-- ---- order

-- a function that keeps the order of elements keeps that of lists
module _ {X Y : Type 0} (R : Y → Y → Ordering) (S : X → X → Ordering) (g : X → Y) (same : (a b : X) → R (g a) (g b) ≡ S a b) where
  insert_image : (x : X) (xs : List X) → map g (insert_by S x xs) ≡ insert_by R (g x) (map g xs)
  unfolding insert_by
  insert_image x [] = refl
  insert_image x (y ∷ ys) =
      by_test (is_le (S x y)) (insert_image x ys) ∙ ap (λ o. cond (is_le o) (g x ∷ g y ∷ map g ys) (g y ∷ insert_by R (g x) (map g ys))) (sym (same x y))
    where
      by_test : (b : Bool) → map g (insert_by S x ys) ≡ insert_by R (g x) (map g ys) → map g (cond b (x ∷ y ∷ ys) (y ∷ insert_by S x ys)) ≡ cond b (g x ∷ g y ∷ map g ys) (g y ∷ insert_by R (g x) (map g ys))
      by_test true rest = refl
      by_test false rest = ap (λ v. g y ∷ v) rest

  pub sorted_image : (xs : List X) → map g (sorted_by S xs) ≡ sorted_by R (map g xs)
  unfolding sorted_by
  sorted_image [] = refl
  sorted_image (x ∷ xs) = insert_image x (sorted_by S xs) ∙ ap (insert_by R (g x)) (sorted_image xs)

-- the keys beside the projected row
abbrev part : List (List ℕ) → Keyed → Keyed
part columns k = record { keys = k.keys; row = projected columns k.row }

module _ (orders : List Order) (columns : List (List ℕ)) where
  projected_behind : (rows : List Bindings) → projected_rows columns (sorted_by (keyed_cmp orders columns) (map (ranked orders) rows)) ≡ in_order orders columns rows
  projected_behind rows =
      sym (map-map (λ (k : Keyed). k.row) (part columns) (sorted_by (keyed_cmp orders columns) (map (ranked orders) rows)))
      ∙ ap (map (λ (k : Keyed). k.row)) (sorted_image (keyed_cmp orders columns) (keyed_cmp orders columns) (part columns)
      (λ a b. ap (ordering_then (keys_cmp orders a.keys b.keys)) (row_cmp_kept columns a.row b.row)) (map (ranked orders) rows)
      ∙ ap (sorted_by (keyed_cmp orders columns)) (map-map (part columns) (ranked orders) rows))

  one_part : (a b : Keyed) → IsTrue (rises a.row) → IsTrue (rises b.row) → keyed_cmp orders columns a b ≡ Equal → projected columns a.row ≡ projected columns b.row
  one_part a b p q e =
      exact_rows columns (projected columns a.row) (projected columns b.row) (row_of columns a.row p) (row_of columns b.row q)
      (row_cmp_kept columns a.row b.row ∙ second (keys_cmp orders a.keys b.keys) (row_cmp columns a.row b.row) e)

  pub ranked_are_in_order : (rows : List Bindings) (ks : List Keyed) → All (λ s. IsTrue (rises s)) rows → IsSortedBy (λ x y. is_lt (keyed_cmp orders columns x y)) ks → IsPermutation (map (ranked orders) rows) ks
      → projected_rows columns ks ≡ in_order orders columns rows
  ranked_are_in_order rows ks h up p =
      images_in_order (keyed_cmp orders columns) (keyed_total orders columns) (λ k. IsTrue (rises k.row)) (λ k. projected columns k.row) one_part
      (map (ranked orders) rows) ks (All-map (λ k. IsTrue (rises k.row)) (ranked orders) rows h) up p
      ∙ projected_behind rows

-- ---- each row once

any_kept : (columns : List (List ℕ)) (row : Bindings) (rows : List Bindings) → list_any (λ r. is_eq (row_cmp columns r (projected columns row))) (map (projected columns) rows) ≡ list_any (λ r. is_eq (row_cmp columns r row)) rows
any_kept columns row [] = refl
any_kept columns row (r ∷ rs) = let same = row_cmp_kept columns r row in let rest = any_kept columns row rs in λ j. is_eq (same j) || rest j

with_row_kept : (columns : List (List ℕ)) (rows : List Bindings) (row : Bindings) → map (projected columns) (with_row columns rows row) ≡ with_row columns (map (projected columns) rows) (projected columns row)
with_row_kept columns rows row =
    by_test (list_any (λ r. is_eq (row_cmp columns r row)) rows)
    ∙ ap (λ b. cond b (map (projected columns) rows) (map (projected columns) rows ++ projected columns row ∷ [])) (sym (any_kept columns row rows))
  where
    by_test : (b : Bool) → map (projected columns) (cond b rows (rows ++ row ∷ [])) ≡ cond b (map (projected columns) rows) (map (projected columns) rows ++ projected columns row ∷ [])
    by_test true = refl
    by_test false = map-append (projected columns) rows (row ∷ [])

fold_kept : (columns : List (List ℕ)) (rows done : List Bindings) → map (projected columns) (fold (with_row columns) done rows) ≡ fold (with_row columns) (map (projected columns) done) (map (projected columns) rows)
fold_kept columns [] done = refl
fold_kept columns (r ∷ rs) done = fold_kept columns rs (with_row columns done r) ∙ ap (λ v. fold (with_row columns) v (map (projected columns) rs)) (with_row_kept columns done r)

distinct_kept : (b : Bool) (columns : List (List ℕ)) (rows : List Bindings) → map (projected columns) (distinct_rows b columns rows) ≡ distinct_rows b columns (map (projected columns) rows)
distinct_kept true columns rows = fold_kept columns rows []
distinct_kept false columns rows = refl

projected_are : (columns : List (List ℕ)) (ks : List Keyed) → projected_rows columns ks ≡ map (projected columns) (whole_rows ks)
projected_are columns ks = sym (map-map (projected columns) (λ (k : Keyed). k.row) ks)

pub once_kept : (b : Bool) (columns : List (List ℕ)) (ks js : List Keyed) → whole_rows js ≡ distinct_rows b columns (whole_rows ks) → projected_rows columns js ≡ distinct_rows b columns (projected_rows columns ks)
once_kept b columns ks js e =
    projected_are columns js ∙ ap (map (projected columns)) e ∙ distinct_kept b columns (whole_rows ks) ∙ ap (distinct_rows b columns) (sym (projected_are columns ks))

-- ---- a part of the rows

pub front_kept : (columns : List (List ℕ)) (offset : ℕ) (limit : Option ℕ) (ks : List Keyed) → projected_rows columns (front limit (drop offset ks)) ≡ limited limit (drop offset (projected_rows columns ks))
front_kept columns offset (Some limit) ks = sym (take-map (λ k. projected columns k.row) limit (drop offset ks)) ∙ ap (take limit) (sym (drop-map (λ k. projected columns k.row) offset ks))
front_kept columns offset None ks = sym (drop-map (λ k. projected columns k.row) offset ks)
