-- What holds of each element of a list, of each and those behind it, and of some.
use Rattle.std.proofs.Common.{◌≡◌, ◌∙◌, ap, sym, subst, refl, inl, inr, Bool, true, false, cond, ◌&&◌, ◌||◌, List, [], ◌∷◌, map, filter, AllPairs, arith}
use Rattle.std.specs.List.{AllByRecursion, list_any}
use Rattle.std.proofs.lemmas.List.Elements.{All-from_recursion}
use Rattle.std.proofs.lemmas.List.Kept.{AllPairs-cons}
use Rattle.fx_terms.proofs.SetLemmas.{Among}

module _ {X : Type 0} where
  pub each_filter : (P : X → Type 0) (p : X → Bool) (xs : List X) → AllByRecursion P xs → AllByRecursion P (filter p xs)
  each_filter P p [] h = tt
  each_filter P p (x ∷ xs) h = by (p x) (each_filter P p xs h.1)
    where
      by : (b : Bool) → AllByRecursion P (filter p xs) → AllByRecursion P (cond b (x ∷ filter p xs) (filter p xs))
      by true rest = (h.0, rest)
      by false rest = rest

  pub each_weaker : (P Q : X → Type 0) → ((x : X) → P x → Q x) → (xs : List X) → AllByRecursion P xs → AllByRecursion Q xs
  each_weaker P Q f [] h = tt
  each_weaker P Q f (x ∷ xs) h = (f x h.0, each_weaker P Q f xs h.1)

  pub each_both : (P Q : X → Type 0) (xs : List X) → AllByRecursion P xs → AllByRecursion Q xs → AllByRecursion (λ x. P x × Q x) xs
  each_both P Q [] h k = tt
  each_both P Q (x ∷ xs) h k = ((h.0, k.0), each_both P Q xs h.1 k.1)

  pub each_passes : (p : X → Bool) (xs : List X) → AllByRecursion (λ x. p x ≡ true) (filter p xs)
  each_passes p [] = tt
  each_passes p (x ∷ xs) = by (p x) refl (each_passes p xs)
    where
      by : (b : Bool) → p x ≡ b → AllByRecursion (λ y. p y ≡ true) (filter p xs) → AllByRecursion (λ y. p y ≡ true) (cond b (x ∷ filter p xs) (filter p xs))
      by true e rest = (e, rest)
      by false e rest = rest

  pub each_among : (P : X → Type 0) (x : X) (xs : List X) → AllByRecursion P xs → Among x xs → P x
  each_among P x [] h m = absurd m
  each_among P x (y ∷ ys) h (inl e) = subst P e h.0
  each_among P x (y ∷ ys) h (inr m) = each_among P x ys h.1 m

  pub each_of : (P : X → Type 0) (xs : List X) → ((x : X) → Among x xs → P x) → AllByRecursion P xs
  each_of P [] f = tt
  each_of P (x ∷ xs) f = (f x (inl refl), each_of P xs (λ y m. f y (inr m)))

  -- of each element and those behind it
  abbrev pub EachLater : (X → X → Type 0) → List X → Type 0
  EachLater R [] = Unit {0}
  EachLater R (x ∷ xs) = AllByRecursion (R x) xs × EachLater R xs

  pub later_filter : (R : X → X → Type 0) (p : X → Bool) (xs : List X) → EachLater R xs → EachLater R (filter p xs)
  later_filter R p [] h = tt
  later_filter R p (x ∷ xs) h = by (p x) (later_filter R p xs h.1)
    where
      by : (b : Bool) → EachLater R (filter p xs) → EachLater R (cond b (x ∷ filter p xs) (filter p xs))
      by true rest = (each_filter (R x) p xs h.0, rest)
      by false rest = rest

  pub pairs_from : (R : X → X → Type 0) (xs : List X) → EachLater R xs → AllPairs R xs
  pairs_from R [] h = λ i j d a b. absurd (omega arith)
  pairs_from R (x ∷ xs) h = AllPairs-cons R x xs (All-from_recursion (R x) xs h.0) (pairs_from R xs h.1)

  -- what a filter keeps
  pub among_filter : (p : X → Bool) (x : X) (xs : List X) → Among x xs → p x ≡ true → Among x (filter p xs)
  among_filter p x [] m e = absurd m
  among_filter p x (y ∷ ys) (inl h) e = by (p y) refl
    where
      by : (b : Bool) → p y ≡ b → Among x (cond b (y ∷ filter p ys) (filter p ys))
      by true f = inl h
      by false f = let g : p y ≡ p x = ap p h in absurd (cc)
  among_filter p x (y ∷ ys) (inr m) e = by (p y) (among_filter p x ys m e)
    where
      by : (b : Bool) → Among x (filter p ys) → Among x (cond b (y ∷ filter p ys) (filter p ys))
      by true n = inr n
      by false n = n

  pub among_kept : (p : X → Bool) (x : X) (xs : List X) → Among x (filter p xs) → Among x xs × (p x ≡ true)
  among_kept p x [] m = absurd m
  among_kept p x (y ∷ ys) m = by (p y) refl (among_kept p x ys) m
    where
      by : (b : Bool) → p y ≡ b → (Among x (filter p ys) → Among x ys × (p x ≡ true)) → Among x (cond b (y ∷ filter p ys) (filter p ys)) → Among x (y ∷ ys) × (p x ≡ true)
      by true e rest (inl h) = (inl h, sym (ap p h) ∙ e)
      by true e rest (inr n) = let t = rest n in (inr t.0, t.1)
      by false e rest n = let t = rest n in (inr t.0, t.1)

  -- a test of the elements of a list in another order
  pub any_same : (p q : X → Bool) → ((x : X) → p x ≡ q x) → (xs : List X) → list_any p xs ≡ list_any q xs
  any_same p q h [] = refl
  any_same p q h (x ∷ xs) = λ i. h x i || any_same p q h xs i

  pub filter_same : (p q : X → Bool) → ((x : X) → p x ≡ q x) → (xs : List X) → filter p xs ≡ filter q xs
  filter_same p q h xs = λ i. filter (λ x. h x i) xs

  pub filter_twice : (p q : X → Bool) (xs : List X) → filter q (filter p xs) ≡ filter (λ x. p x && q x) xs
  filter_twice p q [] = refl
  filter_twice p q (x ∷ xs) = by (p x) (filter_twice p q xs)
    where
      by : (b : Bool) → filter q (filter p xs) ≡ filter (λ y. p y && q y) xs
          → filter q (cond b (x ∷ filter p xs) (filter p xs)) ≡ cond (b && q x) (x ∷ filter (λ y. p y && q y) xs) (filter (λ y. p y && q y) xs)
      by true h = ap (λ (v : List X). cond (q x) (x ∷ v) v) h
      by false h = h

module _ {X Y : Type 0} where
  pub map_filter : (f : X → Y) (p : Y → Bool) (xs : List X) → map f (filter (λ x. p (f x)) xs) ≡ filter p (map f xs)
  map_filter f p [] = refl
  map_filter f p (x ∷ xs) = by (p (f x)) (map_filter f p xs)
    where
      by : (b : Bool) → map f (filter (λ y. p (f y)) xs) ≡ filter p (map f xs) → map f (cond b (x ∷ filter (λ y. p (f y)) xs) (filter (λ y. p (f y)) xs)) ≡ cond b (f x ∷ filter p (map f xs)) (filter p (map f xs))
      by true h = ap (λ (v : List Y). f x ∷ v) h
      by false h = h

pub map_twice : {X Y Z : Type 0} (f : X → Y) (g : Y → Z) (xs : List X) → map g (map f xs) ≡ map (λ x. g (f x)) xs
map_twice f g [] = refl
map_twice f g (x ∷ xs) = ap (λ v. g (f x) ∷ v) (map_twice f g xs)
