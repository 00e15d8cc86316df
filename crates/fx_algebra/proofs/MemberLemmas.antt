-- What made lists hold, and lists that hold each element once.
use Rattle.std.proofs.Common.{◌≡◌, ◌∙◌, ap, sym, subst, refl, ℕ, zero, suc, ◌<◌, ◌≢◌, List, [], ◌∷◌, ◌++◌, map, ◌⊎◌, inl, inr, length, get_or, arith, Option, Some, None, AllPairs}
use Rattle.std.specs.List.{AllByRecursion, flat_map, filter_map, cons_option}
use Rattle.std.specs.declared.cmp.Ordering.{Ordering}
use Rattle.std.specs.declared.cmp.Ordering.TheVariants.{Less}
use Rattle.std.specs.List.Sorted.{IsStrictlySortedBy}
use Rattle.std.specs.Cmp.{IsTotalOrder}
use Rattle.std.proofs.lemmas.Cmp.{tied_itself}
use Rattle.std.proofs.lemmas.List.Kept.{AllPairs-cons}
use Rattle.fx_terms.proofs.SetLemmas.{Among}

module _ {X : Type 0} where
  pub among_left : (x : X) (xs ys : List X) → Among x xs → Among x (xs ++ ys)
  among_left x [] ys m = absurd m
  among_left x (z ∷ zs) ys (inl e) = inl e
  among_left x (z ∷ zs) ys (inr m) = inr (among_left x zs ys m)

  pub among_right : (x : X) (xs ys : List X) → Among x ys → Among x (xs ++ ys)
  among_right x [] ys m = m
  among_right x (z ∷ zs) ys m = inr (among_right x zs ys m)

  pub among_cases : (x : X) (xs ys : List X) → Among x (xs ++ ys) → Among x xs ⊎ Among x ys
  among_cases x [] ys m = inr m
  among_cases x (z ∷ zs) ys (inl e) = inl (inl e)
  among_cases x (z ∷ zs) ys (inr m) = later (among_cases x zs ys m)
    where
      later : Among x zs ⊎ Among x ys → Among x (z ∷ zs) ⊎ Among x ys
      later (inl n) = inl (inr n)
      later (inr n) = inr n

  among_get : (xs : List X) (k : ℕ) (d : X) → k < length xs → Among (get_or xs k d) xs
  among_get [] k d h = absurd (omega arith)
  among_get (x ∷ xs) zero d h = inl refl
  among_get (x ∷ xs) (suc k) d h = inr (among_get xs k d (omega arith))

  -- no element stands twice
  abbrev pub IsOnce : List X → Type 0
  IsOnce [] = Unit {0}
  IsOnce (x ∷ xs) = (Among x xs → ⊥) × IsOnce xs

  pub pairs_differ : (xs : List X) → IsOnce xs → AllPairs ◌≢◌ xs
  pairs_differ [] h = λ i j d a b. absurd (omega arith)
  pairs_differ (x ∷ xs) h = AllPairs-cons ◌≢◌ x xs (λ k d b e. h.0 (subst (λ (v : X). Among v xs) (sym e) (among_get xs k d b))) (pairs_differ xs h.1)

  -- two lists that share nothing
  pub once_append : (xs ys : List X) → IsOnce xs → IsOnce ys → ((x : X) → Among x xs → Among x ys → ⊥) → IsOnce (xs ++ ys)
  once_append [] ys h k apart = k
  once_append (x ∷ xs) ys h k apart = (λ m. new (among_cases x xs ys m), once_append xs ys h.1 k (λ z a b. apart z (inr a) b))
    where
      new : Among x xs ⊎ Among x ys → ⊥
      new (inl m) = h.0 m
      new (inr m) = apart x (inl refl) m

  module _ (R : X → X → Ordering) (o : IsTotalOrder R) where
    -- what stands after x is above it
    below_each : (x y : X) (ys : List X) → AllByRecursion (λ z. R x z ≡ Less) ys → Among y ys → R x y ≡ Less
    below_each x y [] h m = absurd m
    below_each x y (z ∷ zs) h (inl e) = subst (λ v. R x v ≡ Less) e h.0
    below_each x y (z ∷ zs) h (inr m) = below_each x y zs h.1 m

    not_self : (x : X) → R x x ≡ Less → ⊥
    not_self x e = let same = tied_itself o x in absurd (cc)

    pub once_rising : (xs : List X) → IsStrictlySortedBy R xs → IsOnce xs
    unfolding IsStrictlySortedBy
    once_rising [] h = tt
    once_rising (x ∷ xs) h = (λ m. not_self x (below_each x x xs h.0 m), once_rising xs h.1)

module _ {Y : Type 0} where
  kept : (y : Y) (o : Option Y) (ys : List Y) → o ≡ Some y → Among y (cons_option o ys)
  kept y None ys e = cc
  kept y (Some z) ys e = inl (cc)

  rest_kept : (y : Y) (o : Option Y) (ys : List Y) → Among y ys → Among y (cons_option o ys)
  rest_kept y None ys m = m
  rest_kept y (Some z) ys m = inr m

  -- the one that is put in front, if any, or a later one
  kept_cases : (y : Y) (o : Option Y) (ys : List Y) → Among y (cons_option o ys) → (o ≡ Some y) ⊎ Among y ys
  kept_cases y None ys m = inr m
  kept_cases y (Some z) ys (inl e) = inl (ap Some e)
  kept_cases y (Some z) ys (inr m) = inr m

  once_kept : (o : Option Y) (ys : List Y) → ((y : Y) → o ≡ Some y → Among y ys → ⊥) → IsOnce ys → IsOnce (cons_option o ys)
  once_kept None ys new h = h
  once_kept (Some y) ys new h = (new y refl, h)

module _ {X Y : Type 0} where
  pub among_map : (f : X → Y) (x : X) (xs : List X) → Among x xs → Among (f x) (map f xs)
  among_map f x [] m = absurd m
  among_map f x (z ∷ zs) (inl e) = inl (ap f e)
  among_map f x (z ∷ zs) (inr m) = inr (among_map f x zs m)

  pub among_from_map : (f : X → Y) (y : Y) (xs : List X) → Among y (map f xs) → (x : X) × Among x xs × (f x ≡ y)
  among_from_map f y [] m = absurd m
  among_from_map f y (x ∷ xs) (inl e) = (x, inl refl, e)
  among_from_map f y (x ∷ xs) (inr m) = let t = among_from_map f y xs m in (t.0, inr t.1, t.2)

  pub among_flat_map : (f : X → List Y) (x : X) (y : Y) (xs : List X) → Among x xs → Among y (f x) → Among y (flat_map f xs)
  among_flat_map f x y [] m n = absurd m
  among_flat_map f x y (z ∷ zs) (inl e) n = among_left y (f z) (flat_map f zs) (subst (λ (v : X). Among y (f v)) (sym e) n)
  among_flat_map f x y (z ∷ zs) (inr m) n = among_right y (f z) (flat_map f zs) (among_flat_map f x y zs m n)

  pub among_from_flat_map : (f : X → List Y) (y : Y) (xs : List X) → Among y (flat_map f xs) → (x : X) × Among x xs × Among y (f x)
  among_from_flat_map f y [] m = absurd m
  among_from_flat_map f y (x ∷ xs) m = pick (among_from_flat_map f y xs) (among_cases y (f x) (flat_map f xs) m)
    where
      pick : (Among y (flat_map f xs) → (z : X) × Among z xs × Among y (f z)) → Among y (f x) ⊎ Among y (flat_map f xs) → (z : X) × Among z (x ∷ xs) × Among y (f z)
      pick rest (inl n) = (x, inl refl, n)
      pick rest (inr n) = let t = rest n in (t.0, inr t.1, t.2)

  pub among_filter_map : (f : X → Option Y) (x : X) (y : Y) (xs : List X) → Among x xs → f x ≡ Some y → Among y (filter_map f xs)
  among_filter_map f x y [] m e = absurd m
  among_filter_map f x y (z ∷ zs) (inl h) e = kept y (f z) (filter_map f zs) (ap f h ∙ e)
  among_filter_map f x y (z ∷ zs) (inr m) e = rest_kept y (f z) (filter_map f zs) (among_filter_map f x y zs m e)

  pub among_from_filter_map : (f : X → Option Y) (y : Y) (xs : List X) → Among y (filter_map f xs) → (x : X) × Among x xs × (f x ≡ Some y)
  among_from_filter_map f y [] m = absurd m
  among_from_filter_map f y (x ∷ xs) m = pick (among_from_filter_map f y xs) (kept_cases y (f x) (filter_map f xs) m)
    where
      pick : (Among y (filter_map f xs) → (z : X) × Among z xs × (f z ≡ Some y)) → (f x ≡ Some y) ⊎ Among y (filter_map f xs) → (z : X) × Among z (x ∷ xs) × (f z ≡ Some y)
      pick rest (inl e) = (x, inl refl, e)
      pick rest (inr n) = let t = rest n in (t.0, inr t.1, t.2)

  -- a map that tells all elements apart
  pub once_map : (f : X → Y) → ((a b : X) → f a ≡ f b → a ≡ b) → (xs : List X) → IsOnce xs → IsOnce (map f xs)
  once_map f one [] h = tt
  once_map f one (x ∷ xs) h = (λ m. let t = among_from_map f (f x) xs m in h.0 (subst (λ (v : X). Among v xs) (one t.0 x t.2) t.1), once_map f one xs h.1)

  -- what is kept of elements that stand once stands once, where no two give the same
  pub once_filter_map : (f : X → Option Y) (xs : List X) → ((a b : X) (y : Y) → Among a xs → Among b xs → f a ≡ Some y → f b ≡ Some y → a ≡ b) → IsOnce xs → IsOnce (filter_map f xs)
  once_filter_map f [] one h = tt
  once_filter_map f (x ∷ xs) one h =
      once_kept (f x) (filter_map f xs)
      (λ y e m. let t = among_from_filter_map f y xs m in h.0 (subst (λ (v : X). Among v xs) (one t.0 x y (inr t.1) (inl refl) t.2 e) t.1))
      (once_filter_map f xs (λ a b y m n. one a b y (inr m) (inr n)) h.1)
