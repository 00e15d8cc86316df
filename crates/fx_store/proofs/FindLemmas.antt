-- Whether some triple fits, and how many are tried until one does.
use Rattle.std.proofs.Common.{◌≡◌, ◌∙◌, ap, sym, refl, ℕ, zero, suc, ◌<◌, ◌≤◌, Bool, true, false, cond, List, [], ◌∷◌, length, take, filter, Option, Some, None, is_some, arith}
use Rattle.std.specs.List.{filter_map, cons_option}
use Rattle.std.specs.Option.{option_to_list}
use Rattle.fx_terms.specs.declared.triples.Triple.{Triple}
use Rattle.fx_algebra.specs.Answers.{has_rows}
use Rattle.fx_algebra.specs.Solutions.{Bindings}
use Rattle.fx_store.specs.Orders.{in_order}
use Rattle.fx_store.specs.Lookups.{tried}
use Rattle.fx_store.proofs.RunLemmas.{as_many_with}

-- ---- one outcome

pub nothing : (o : Option Bindings) → is_some o ≡ false → option_to_list o ≡ []
nothing None e = refl
nothing (Some row) e = absurd (cc)

pub something : (o : Option Bindings) → is_some o ≡ true → has_rows (option_to_list o) ≡ true
something None e = absurd (cc)
something (Some row) e = refl

-- as many rows are some where these are
as_many_rows : (xs ys : List Bindings) → length xs ≡ length ys → has_rows xs ≡ has_rows ys
as_many_rows [] [] e = refl
as_many_rows [] (y ∷ ys) e = absurd (omega arith)
as_many_rows (x ∷ xs) [] e = absurd (omega arith)
as_many_rows (x ∷ xs) (y ∷ ys) e = refl

module _ (f : Triple → Option Bindings) where
  abbrev pub passes : Triple → Bool
  passes t = is_some (f t)

  -- ---- whether some triple fits

  as_many_fit : (ts : List Triple) → length (filter_map f ts) ≡ length (filter passes ts)
  as_many_fit [] = refl
  as_many_fit (t ∷ ts) = pick (f t) (as_many_fit ts)
    where
      pick : (o : Option Bindings) → length (filter_map f ts) ≡ length (filter passes ts) → length (cons_option o (filter_map f ts)) ≡ length (cond (is_some o) (t ∷ filter passes ts) (filter passes ts))
      pick None e = e
      pick (Some row) e = ap suc e

  -- some triple of an order fits where some of the graph does
  pub fits_in_order : (order : ℕ) (graph : List Triple) → has_rows (filter_map f (in_order order graph)) ≡ has_rows (filter_map f graph)
  fits_in_order order graph =
      as_many_rows (filter_map f (in_order order graph)) (filter_map f graph)
      (as_many_fit (in_order order graph) ∙ as_many_with passes order graph ∙ sym (as_many_fit graph))

  -- what fits in front fits in a longer front
  pub fits_in_front : (m n : ℕ) (ts : List Triple) → m ≤ n → has_rows (filter_map f (take m ts)) ≡ true → has_rows (filter_map f (take n ts)) ≡ true
  fits_in_front zero n ts h e = let no : false ≡ true = e in absurd (cc)
  fits_in_front (suc m) zero ts h e = absurd (omega arith)
  fits_in_front (suc m) (suc n) [] h e = let no : false ≡ true = e in absurd (cc)
  fits_in_front (suc m) (suc n) (t ∷ ts) h e = pick (f t) e (fits_in_front m n ts (omega arith))
    where
      pick : (o : Option Bindings) → has_rows (cons_option o (filter_map f (take m ts))) ≡ true → (has_rows (filter_map f (take m ts)) ≡ true → has_rows (filter_map f (take n ts)) ≡ true)
          → has_rows (cons_option o (filter_map f (take n ts))) ≡ true
      pick None e later = later e
      pick (Some row) e later = refl

  -- ---- how many are tried

  one_at_least : (b : Bool) (k : ℕ) → 0 < cond b 1 (suc k)
  one_at_least true k = omega arith
  one_at_least false k = omega arith

  -- where none of those in front fits, one more is tried
  pub tried_behind : (n m : ℕ) (ts : List Triple) → m < n → m < length ts → filter_map f (take m ts) ≡ [] → m < tried passes (take n ts)
  tried_behind zero m ts a b e = absurd (omega arith)
  tried_behind (suc n) zero [] a b e = absurd (omega arith)
  tried_behind (suc n) zero (t ∷ ts) a b e = one_at_least (is_some (f t)) (tried passes (take n ts))
  tried_behind (suc n) (suc m) [] a b e = absurd (omega arith)
  tried_behind (suc n) (suc m) (t ∷ ts) a b e = pick (f t) e (tried_behind n m ts (omega arith) (omega arith))
    where
      pick : (o : Option Bindings) → cons_option o (filter_map f (take m ts)) ≡ [] → (filter_map f (take m ts) ≡ [] → m < tried passes (take n ts)) → suc m < cond (is_some o) 1 (suc (tried passes (take n ts)))
      pick None e later = let rest : m < tried passes (take n ts) = later e in omega arith
      pick (Some row) e later = absurd (cc)

  -- where none fits, all are
  pub all_tried : (ts : List Triple) → filter_map f ts ≡ [] → tried passes ts ≡ length ts
  all_tried [] e = refl
  all_tried (t ∷ ts) e = pick (f t) e (all_tried ts)
    where
      pick : (o : Option Bindings) → cons_option o (filter_map f ts) ≡ [] → (filter_map f ts ≡ [] → tried passes ts ≡ length ts) → cond (is_some o) 1 (suc (tried passes ts)) ≡ suc (length ts)
      pick None e later = ap suc (later e)
      pick (Some row) e later = absurd (cc)
