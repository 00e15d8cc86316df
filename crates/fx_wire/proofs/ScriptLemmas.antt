-- The replies of a script: what is left where one is taken.
use Rattle.std.proofs.Common.{◌≡◌, ◌∙◌, ◌≢◌, ℕ, zero, suc, ◌+◌, ◌<◌, ◌≤◌, List, [], ◌∷◌, length, map, filter, take, drop, min, Bool, true, false, not, cond, Vec, Some, None, position, slice_get, remove, nat_lt, arith, tests, ap, refl, sym}
use Rattle.std.proofs.lemmas.List.{take_min}
use Rattle.std.specs.List.{position_or_len}
use Rattle.std.specs.Option.{option_map}
use Rattle.std.specs.declared.alloc.Global.{Global}
use Rattle.fx_terms.specs.Texts.{one_text}
use Rattle.fx_wire.specs.Scripts.{is_for, replies_for}

-- ---- the elements of a list that pass a test

module _ {X : Type 0} (p : X → Bool) where
  taken_by : (b : Bool) (x : X) (xs : List X) (i : ℕ) → p x ≡ b
      → ((j : ℕ) → position_or_len p xs ≡ j → j < length xs → filter p (remove xs j) ≡ drop 1 (filter p xs))
      → cond (not b) (1 + position_or_len p xs) 0 ≡ i → i < suc (length xs)
      → filter p (remove (x ∷ xs) i) ≡ drop 1 (cond b (x ∷ filter p xs) (filter p xs))
  taken_by true x xs zero is rest at within = refl
  taken_by true x xs (suc i) is rest at within = absurd (omega arith)
  taken_by false x xs zero is rest at within = absurd (omega arith)
  taken_by false x xs (suc i) is rest at within =
      ap (λ (b : Bool). cond b (x ∷ filter p (remove xs i)) (filter p (remove xs i))) is ∙ rest i (omega arith) (omega arith)

  -- without the first that passes, the others that pass
  taken : (xs : List X) (i : ℕ) → position_or_len p xs ≡ i → i < length xs → filter p (remove xs i) ≡ drop 1 (filter p xs)
  taken [] i at within = absurd (omega arith)
  taken (x ∷ xs) i at within = taken_by (p x) x xs i refl (taken xs) at within

  first_by : (b : Bool) (x : X) (xs : List X) (i : ℕ) → p x ≡ b
      → ((j : ℕ) → position_or_len p xs ≡ j → j < length xs → slice_get (filter p xs) 0 ≡ slice_get xs j)
      → cond (not b) (1 + position_or_len p xs) 0 ≡ i → i < suc (length xs)
      → slice_get (cond b (x ∷ filter p xs) (filter p xs)) 0 ≡ slice_get (x ∷ xs) i
  first_by true x xs zero is rest at within = refl
  first_by true x xs (suc i) is rest at within = absurd (omega arith)
  first_by false x xs zero is rest at within = absurd (omega arith)
  first_by false x xs (suc i) is rest at within = rest i (omega arith) (omega arith)

  -- the first that passes
  first : (xs : List X) (i : ℕ) → position_or_len p xs ≡ i → i < length xs → slice_get (filter p xs) 0 ≡ slice_get xs i
  first [] i at within = absurd (omega arith)
  first (x ∷ xs) i at within = first_by (p x) x xs i refl (first xs) at within

  none_by : (b : Bool) (x : X) (xs : List X) → (position_or_len p xs ≡ length xs → filter p xs ≡ []) → cond (not b) (1 + position_or_len p xs) 0 ≡ suc (length xs) → cond b (x ∷ filter p xs) (filter p xs) ≡ []
  none_by true x xs rest at = absurd (omega arith)
  none_by false x xs rest at = rest (omega arith)

  -- none passes
  none : (xs : List X) → position_or_len p xs ≡ length xs → filter p xs ≡ []
  none [] at = refl
  none (x ∷ xs) at = none_by (p x) x xs (none xs) at

  within_by : (b : Bool) (n l : ℕ) → n ≤ l → cond (not b) (1 + n) 0 ≤ suc l
  within_by true n l le = omega arith
  within_by false n l le = omega arith

  place_within : (xs : List X) → position_or_len p xs ≤ length xs
  place_within [] = omega arith
  place_within (x ∷ xs) = within_by (p x) _ (length xs) (place_within xs)

  module _ (q : X → Bool) (apart : (x : X) → p x ≡ true → q x ≡ false) where
    others_by : (b : Bool) (x : X) (xs : List X) (i : ℕ) → p x ≡ b
        → ((j : ℕ) → position_or_len p xs ≡ j → j < length xs → filter q (remove xs j) ≡ filter q xs)
        → cond (not b) (1 + position_or_len p xs) 0 ≡ i → i < suc (length xs)
        → filter q (remove (x ∷ xs) i) ≡ filter q (x ∷ xs)
    others_by true x xs zero is rest at within = sym (ap (λ (b : Bool). cond b (x ∷ filter q xs) (filter q xs)) (apart x is))
    others_by true x xs (suc i) is rest at within = absurd (omega arith)
    others_by false x xs zero is rest at within = absurd (omega arith)
    others_by false x xs (suc i) is rest at within = ap (λ (ys : List X). cond (q x) (x ∷ ys) ys) (rest i (omega arith) (omega arith))

    -- without the first that passes a test, all that pass another are left
    others : (xs : List X) (i : ℕ) → position_or_len p xs ≡ i → i < length xs → filter q (remove xs i) ≡ filter q xs
    others [] i at within = absurd (omega arith)
    others (x ∷ xs) i at within = others_by (p x) x xs i refl (others xs) at within

-- ---- what a position says

at_by : (b : Bool) (n i : ℕ) → cond b (Some n) None ≡ Some i → n ≡ i
at_by true n i e = cc
at_by false n i e = cc

nowhere_by : (b : Bool) (n l : ℕ) → nat_lt n l ≡ b → n ≤ l → cond b (Some n) None ≡ None → n ≡ l
nowhere_by true n l test le e = cc
nowhere_by false n l test le e = grind (arith, tests)

-- the first bytes, or all where there are no more
pub take_least : (n most : ℕ) (bytes : List ℕ) → n ≡ min (length bytes) most → take n bytes ≡ take most bytes
take_least n most bytes e =
    let least : n ≡ min most (length bytes) = omega (arith, e) in
    ap (λ (k : ℕ). take k bytes) least ∙ take_min most bytes

-- ---- the replies of an address

module _ (replies : List (List ℕ × Vec ℕ Global)) (address : List ℕ) where
  abbrev passes : List ℕ × Vec ℕ Global → Bool
  passes = is_for address

  abbrev bytes_of : List ℕ × Vec ℕ Global → List ℕ
  bytes_of reply = reply.1.items

  drop_map : (rs : List (List ℕ × Vec ℕ Global)) → map bytes_of (drop 1 rs) ≡ drop 1 (map bytes_of rs)
  drop_map [] = refl
  drop_map (r ∷ rs) = refl

  get_map : (rs : List (List ℕ × Vec ℕ Global)) → slice_get (map bytes_of rs) 0 ≡ option_map bytes_of (slice_get rs 0)
  get_map [] = refl
  get_map (r ∷ rs) = refl

  module _ (i : ℕ) (at : position passes replies ≡ Some i) (within : i < length replies) where
    place : position_or_len passes replies ≡ i
    place = at_by _ _ _ at

    -- the reply that is taken
    pub next_left : (reply : List ℕ × Vec ℕ Global) → slice_get replies i ≡ Some reply → slice_get (replies_for replies address) 0 ≡ Some reply.1.items
    next_left reply found = get_map (filter passes replies) ∙ ap (option_map bytes_of) (first passes replies i place within ∙ found)

    -- the replies that are left
    pub rest_left : replies_for (remove replies i) address ≡ drop 1 (replies_for replies address)
    rest_left = ap (map bytes_of) (taken passes replies i place within) ∙ drop_map (filter passes replies)

    other_test : (other : List ℕ) → other ≢ address → (b : Bool) (reply : List ℕ × Vec ℕ Global) → is_for other reply ≡ b → is_for address reply ≡ true → is_for other reply ≡ false
    other_test other apart false reply is here = is
    other_test other apart true reply is here = absurd (apart (sym (one_text reply.0 other is) ∙ one_text reply.0 address here))

    -- the replies of the other addresses
    pub others_left : (other : List ℕ) → other ≢ address → replies_for (remove replies i) other ≡ replies_for replies other
    others_left other apart = ap (map bytes_of) (others passes (is_for other) (λ reply. other_test other apart (is_for other reply) reply refl) replies i place within)

  -- no reply is left
  pub none_left : position passes replies ≡ None → slice_get (replies_for replies address) 0 ≡ None
  none_left e = ap (λ (rs : List (List ℕ × Vec ℕ Global)). slice_get (map bytes_of rs) 0) (none passes replies (nowhere_by _ _ _ refl (place_within passes replies) e))
