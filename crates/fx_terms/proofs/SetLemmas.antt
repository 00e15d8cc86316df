-- The elements of a list in their order, each once: one list, and it holds what the list holds.
use Rattle.std.proofs.Common.{◌≡◌, ◌∙◌, ap, sym, subst, refl, ℕ, zero, suc, ◌<◌, List, [], ◌∷◌, ◌⊎◌, inl, inr, length, get_or, arith}
use Rattle.std.specs.Prelude.{Contains, ◌↔◌}
use Rattle.std.specs.List.{AllByRecursion}
use Rattle.std.specs.List.Sorted.{IsStrictlySortedBy}
use Rattle.std.specs.declared.cmp.Ordering.{Ordering}
use Rattle.std.specs.declared.cmp.Ordering.TheVariants.{Less, Equal, Greater}
use Rattle.std.specs.Ordering.{ordering_reverse}
use Rattle.std.specs.FinMap.Entries.{by_order}
use Rattle.std.specs.Cmp.{IsTotalOrder}
use Rattle.std.proofs.lemmas.Cmp.{tied_itself}
use Rattle.fx_terms.specs.Graphs.{put_once, set_of}

-- an element of a list, by cases
abbrev pub Among : {X : Type 0} → X → List X → Type 0
Among x [] = ⊥
Among x (y ∷ ys) = (y ≡ x) ⊎ Among x ys

pub among_at : {X : Type 0} (xs : List X) (x : X) (k : ℕ) → k < length xs → get_or xs k x ≡ x → Among x xs
among_at [] x k h e = absurd (omega arith)
among_at (y ∷ ys) x zero h e = inl e
among_at (y ∷ ys) x (suc k) h e = inr (among_at ys x k (omega arith) e)

pub among_from : {X : Type 0} (xs : List X) (x : X) → Contains xs x → Among x xs
among_from xs x h = among_at xs x h.0 h.1 h.2

pub contains_from : {X : Type 0} (xs : List X) (x : X) → Among x xs → Contains xs x
contains_from [] x h = absurd h
contains_from (y ∷ ys) x (inl e) = (0, omega arith, e)
contains_from (y ∷ ys) x (inr h) = let t = contains_from ys x h in (suc t.0, omega (arith, t.1), t.2)

module _ {X : Type 0} (R : X → X → Ordering) (o : IsTotalOrder R) (exact : (a b : X) → R a b ≡ Equal → a ≡ b) where
  less_back : (x y : X) → R x y ≡ Greater → R y x ≡ Less
  less_back x y e = o.antisymm y x ∙ ap ordering_reverse e

  less_self : (x : X) → R x x ≡ Less → ⊥
  less_self x e = let same = tied_itself o x in absurd (cc)

  less_both : (x y : X) → R x y ≡ Less → R y x ≡ Less → ⊥
  less_both x y e f = less_self x (o.trans x y x e f)

  among_all : (P : X → Type 0) (x : X) (xs : List X) → AllByRecursion P xs → Among x xs → P x
  among_all P x [] h m = absurd m
  among_all P x (y ∷ ys) h (inl e) = subst P e h.0
  among_all P x (y ∷ ys) h (inr m) = among_all P x ys h.1 m

  -- ---- putting one element

  all_put_at : (P : X → Type 0) (x y : X) (ys : List X) (r : Ordering) → P x → P y → AllByRecursion P ys → AllByRecursion P (put_once R x ys) → AllByRecursion P (by_order r (x ∷ y ∷ ys) (y ∷ ys) (y ∷ put_once R x ys))
  all_put_at P x y ys Less p q h k = (p, (q, h))
  all_put_at P x y ys Equal p q h k = (q, h)
  all_put_at P x y ys Greater p q h k = (q, k)

  all_put : (P : X → Type 0) (x : X) (ys : List X) → P x → AllByRecursion P ys → AllByRecursion P (put_once R x ys)
  unfolding put_once
  all_put P x [] p h = (p, tt)
  all_put P x (y ∷ ys) p h = all_put_at P x y ys (R x y) p h.0 h.1 (all_put P x ys p h.1)

  below_all : (x y : X) (ys : List X) → R x y ≡ Less → AllByRecursion (λ z. R y z ≡ Less) ys → AllByRecursion (λ z. R x z ≡ Less) ys
  below_all x y [] e h = tt
  below_all x y (z ∷ zs) e h = (o.trans x y z e h.0, below_all x y zs e h.1)

  rises_put_at : (x y : X) (ys : List X) (r : Ordering) → R x y ≡ r → IsStrictlySortedBy R (y ∷ ys) → IsStrictlySortedBy R (put_once R x ys) → IsStrictlySortedBy R (by_order r (x ∷ y ∷ ys) (y ∷ ys) (y ∷ put_once R x ys))
  unfolding IsStrictlySortedBy
  rises_put_at x y ys Less e h k = ((e, below_all x y ys e h.0), h)
  rises_put_at x y ys Equal e h k = h
  rises_put_at x y ys Greater e h k = (all_put (λ z. R y z ≡ Less) x ys (less_back x y e) h.0, k)

  rises_put : (x : X) (ys : List X) → IsStrictlySortedBy R ys → IsStrictlySortedBy R (put_once R x ys)
  unfolding put_once IsStrictlySortedBy
  rises_put x [] h = (tt, tt)
  rises_put x (y ∷ ys) h = rises_put_at x y ys (R x y) refl h (rises_put x ys h.1)

  pub rises_set : (xs : List X) → IsStrictlySortedBy R (set_of R xs)
  unfolding set_of IsStrictlySortedBy
  rises_set [] = tt
  rises_set (x ∷ xs) = rises_put x (set_of R xs) (rises_set xs)

  -- ---- what a set holds

  among_put_at : (t x y : X) (ys : List X) (r : Ordering) → R x y ≡ r → (Among t ys → Among t (put_once R x ys)) → Among t (x ∷ y ∷ ys) → (Among t (x ∷ ys) → Among t (put_once R x ys)) → Among t (by_order r (x ∷ y ∷ ys) (y ∷ ys) (y ∷ put_once R x ys))
  among_put_at t x y ys Less e later m rest = m
  among_put_at t x y ys Equal e later (inl m) rest = inl (sym (exact x y e) ∙ m)
  among_put_at t x y ys Equal e later (inr m) rest = m
  among_put_at t x y ys Greater e later (inl m) rest = inr (rest (inl m))
  among_put_at t x y ys Greater e later (inr (inl m)) rest = inl m
  among_put_at t x y ys Greater e later (inr (inr m)) rest = inr (rest (inr m))

  among_put : (t x : X) (ys : List X) → Among t (x ∷ ys) → Among t (put_once R x ys)
  unfolding put_once
  among_put t x [] m = m
  among_put t x (y ∷ ys) m = among_put_at t x y ys (R x y) refl (λ n. among_put t x ys (inr n)) m (among_put t x ys)

  among_from_put_at : (t x y : X) (ys : List X) (r : Ordering) → (Among t (put_once R x ys) → Among t (x ∷ ys)) → Among t (by_order r (x ∷ y ∷ ys) (y ∷ ys) (y ∷ put_once R x ys)) → Among t (x ∷ y ∷ ys)
  among_from_put_at t x y ys Less rest m = m
  among_from_put_at t x y ys Equal rest m = inr m
  among_from_put_at t x y ys Greater rest (inl m) = inr (inl m)
  among_from_put_at t x y ys Greater rest (inr m) = kept (rest m)
    where
      kept : Among t (x ∷ ys) → Among t (x ∷ y ∷ ys)
      kept (inl n) = inl n
      kept (inr n) = inr (inr n)

  among_from_put : (t x : X) (ys : List X) → Among t (put_once R x ys) → Among t (x ∷ ys)
  unfolding put_once
  among_from_put t x [] m = m
  among_from_put t x (y ∷ ys) m = among_from_put_at t x y ys (R x y) (among_from_put t x ys) m

  pub among_set : (t : X) (xs : List X) → Among t xs → Among t (set_of R xs)
  unfolding set_of
  among_set t [] m = m
  among_set t (x ∷ xs) (inl m) = among_put t x (set_of R xs) (inl m)
  among_set t (x ∷ xs) (inr m) = among_put t x (set_of R xs) (inr (among_set t xs m))

  pub among_from_set : (t : X) (xs : List X) → Among t (set_of R xs) → Among t xs
  unfolding set_of
  among_from_set t [] m = m
  among_from_set t (x ∷ xs) m = kept (among_from_set t xs) (among_from_put t x (set_of R xs) m)
    where
      kept : (Among t (set_of R xs) → Among t xs) → Among t (x ∷ set_of R xs) → Among t (x ∷ xs)
      kept rest (inl n) = inl n
      kept rest (inr n) = inr (rest n)

  -- ---- one list

  heads : (x y : X) (xs ys : List X) → AllByRecursion (λ z. R x z ≡ Less) xs → AllByRecursion (λ z. R y z ≡ Less) ys → Among x (y ∷ ys) → Among y (x ∷ xs) → x ≡ y
  heads x y xs ys h k (inl e) n = sym e
  heads x y xs ys h k (inr m) (inl e) = e
  heads x y xs ys h k (inr m) (inr n) = absurd (less_both x y (among_all (λ z. R x z ≡ Less) y xs h n) (among_all (λ z. R y z ≡ Less) x ys k m))

  tails : (t x y : X) (xs ys : List X) → x ≡ y → AllByRecursion (λ z. R x z ≡ Less) xs → Among t xs → Among t (y ∷ ys) → Among t ys
  tails t x y xs ys e h m (inl f) = absurd (less_self t (subst (λ z. R z t ≡ Less) (e ∙ f) (among_all (λ z. R x z ≡ Less) t xs h m)))
  tails t x y xs ys e h m (inr n) = n

  -- two rising lists with the same elements are one
  pub one_rising : (xs ys : List X) → IsStrictlySortedBy R xs → IsStrictlySortedBy R ys → ((t : X) → Among t xs → Among t ys) → ((t : X) → Among t ys → Among t xs) → xs ≡ ys
  unfolding IsStrictlySortedBy
  one_rising [] [] h k f g = refl
  one_rising [] (y ∷ ys) h k f g = absurd (g y (inl refl))
  one_rising (x ∷ xs) [] h k f g = absurd (f x (inl refl))
  one_rising (x ∷ xs) (y ∷ ys) h k f g =
      let same : x ≡ y = heads x y xs ys h.0 k.0 (f x (inl refl)) (g y (inl refl)) in
      let rest : xs ≡ ys = one_rising xs ys h.1 k.1 (λ t m. tails t x y xs ys same h.0 m (f t (inr m))) (λ t m. tails t y x ys xs (sym same) k.0 m (g t (inr m))) in
      λ i. same i ∷ rest i

  -- a rising list that holds what a list holds is the list's set
  pub set_is : (xs ys : List X) → IsStrictlySortedBy R ys → ((t : X) → Contains ys t ↔ Contains xs t) → ys ≡ set_of R xs
  set_is xs ys h same =
      one_rising ys (set_of R xs) h (rises_set xs)
      (λ t m. among_set t xs (among_from xs t ((same t).0 (contains_from ys t m))))
      (λ t m. among_from ys t ((same t).1 (contains_from xs t (among_from_set t xs m))))
