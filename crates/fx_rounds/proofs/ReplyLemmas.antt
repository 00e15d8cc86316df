-- Each bad reply has an exchange of its own.
use Rattle.std.proofs.Common.{◌≡◌, ◌∙◌, ap, sym, subst, refl, inl, inr, ℕ, zero, suc, List, [], ◌∷◌, ◌++◌, map, All, Some, IsPermutation, slice_get, arith}
use Rattle.std.specs.Prelude.{◌≢◌, AllPairs, Contains}
use Rattle.std.specs.List.{AllByRecursion}
use Rattle.std.proofs.lemmas.List.{map-append}
use Rattle.std.proofs.lemmas.List.Elements.{All-append, All-cons, All-contains, All-from_recursion, recursion_from_All}
use Rattle.std.proofs.lemmas.List.Sorted.{Contains-permutation, IsPermutation-refl, IsPermutation-append, IsPermutation-append_comm, IsPermutation-append_left, IsPermutation-cons, IsPermutation-sym, IsPermutation-trans}
use Rattle.fx_terms.proofs.SetLemmas.{Among, among_from, contains_from}
use Rattle.fx_outside.specs.Endpoints.{EndpointParts}
use Rattle.fx_traffic.proofs.SentLemmas.{middle_changes}
use Rattle.fx_wire.specs.Exchanges.{Exchange, exchanged}
use Rattle.fx_outcomes.specs.declared.rounds.Left.{Left}
use Rattle.fx_outcomes.specs.declared.rounds.LeftCause.{LeftCause}
use Rattle.fx_outcomes.specs.declared.rounds.LeftCause.TheVariants as left_cause
use Rattle.fx_pool.specs.declared.jobs.BadReply.{BadReply}
use Rattle.fx_rounds.specs.Licences.{Replied, address_of, left_address, left_bad, lefts_bad, replied, replied_in}

-- ---- pairs

module _ {X : Type 0} (R : X → X → Type 0) (x : X) (xs : List X) (h : AllPairs R (x ∷ xs)) where
  pub pairs_head : All (R x) xs
  pairs_head = λ k d low. h 0 (suc k) d (omega arith) (omega (arith, low))

  pub pairs_tail : AllPairs R xs
  pairs_tail = λ i j d low high. h (suc i) (suc j) d (omega (arith, low)) (omega (arith, high))

-- ---- endpoints

pub found_among : (es : List EndpointParts) (at : ℕ) (e : EndpointParts) → slice_get es at ≡ Some e → Among e es
found_among [] at e h = absurd (cc)
found_among (x ∷ es) zero e h = inl (let same : Some x ≡ Some e = h in cc)
found_among (x ∷ es) (suc at) e h = inr (found_among es at e h)

one_there : (x y : EndpointParts) → Some x ≡ Some y → x ≡ y
one_there x y h = cc

-- one of the endpoints has it
module _ (of : EndpointParts → List ℕ) where
  abbrev Apart : EndpointParts → EndpointParts → Type 0
  Apart d e = of d ≢ of e

  not_behind : (z : EndpointParts) (zs : List EndpointParts) → AllPairs Apart (z ∷ zs) → (x : EndpointParts) → Among x zs → of z ≡ of x → ⊥
  not_behind z zs h x m e = All-contains (Apart z) zs x (pairs_head Apart z zs h) (contains_from zs x m) e

  pub one_endpoint : (es : List EndpointParts) → AllPairs Apart es → (x y : EndpointParts) → Among x es → Among y es → of x ≡ of y → x ≡ y
  one_endpoint [] h x y m n e = absurd m
  one_endpoint (z ∷ zs) h x y (inl a) (inl b) e = sym a ∙ b
  one_endpoint (z ∷ zs) h x y (inl a) (inr n) e = absurd (not_behind z zs h y n (ap of a ∙ e))
  one_endpoint (z ∷ zs) h x y (inr m) (inl b) e = absurd (not_behind z zs h x m (ap of b ∙ sym e))
  one_endpoint (z ∷ zs) h x y (inr m) (inr n) e = one_endpoint zs (pairs_tail Apart z zs h) x y m n e

  pub one_number : (es : List EndpointParts) → AllPairs Apart es → (i j : ℕ) (x y : EndpointParts) → slice_get es i ≡ Some x → slice_get es j ≡ Some y → of x ≡ of y → i ≡ j
  one_number [] h i j x y f g e = absurd (cc)
  one_number (z ∷ zs) h zero zero x y f g e = refl
  one_number (z ∷ zs) h zero (suc j) x y f g e = absurd (not_behind z zs h y (found_among zs j y g) (ap of (one_there z x f) ∙ e))
  one_number (z ∷ zs) h (suc i) zero x y f g e = absurd (not_behind z zs h x (found_among zs i x f) (ap of (one_there z y g) ∙ sym e))
  one_number (z ∷ zs) h (suc i) (suc j) x y f g e = ap suc (one_number zs (pairs_tail Apart z zs h) i j x y f g e)

-- ---- one exchange taken out

swapped : (x y : Exchange) (rest : List Exchange) → IsPermutation (x ∷ y ∷ rest) (y ∷ x ∷ rest)
swapped x y rest = IsPermutation-append_left rest (x ∷ y ∷ []) (y ∷ x ∷ []) (IsPermutation-append_comm (x ∷ []) (y ∷ []))

taken : (xs : List Exchange) (x : Exchange) → Among x xs → (rest : List Exchange) × IsPermutation (x ∷ rest) xs
taken [] x m = absurd m
taken (y ∷ ys) x (inl e) = (ys, subst (λ (v : Exchange). IsPermutation (v ∷ ys) (y ∷ ys)) e (IsPermutation-refl (y ∷ ys)))
taken (y ∷ ys) x (inr m) =
    let t = taken ys x m in
    (y ∷ t.0, IsPermutation-trans (x ∷ y ∷ t.0) (y ∷ x ∷ t.0) (y ∷ ys) (swapped x y t.0) (IsPermutation-cons y (x ∷ t.0) ys t.1))

-- ---- exchanges of their own, each with a bad reply

pub record OwnReplies (IsBad : Exchange → Type 0) (xs : List Exchange) (bads : List Replied) : Type 0 where
  pub refused : List Exchange
  pub others : List Exchange
  pub parted : IsPermutation (refused ++ others) xs
  pub each : All IsBad refused
  pub told : map replied_in refused ≡ bads

module _ (IsBad : Exchange → Type 0) where
  pub own_none : (xs : List Exchange) → OwnReplies IsBad xs []
  own_none xs = record { refused = []; others = xs; parted = IsPermutation-refl xs; each = All-from_recursion IsBad [] tt; told = refl }

  pub own_both : (xs ys : List Exchange) (b c : List Replied) → OwnReplies IsBad xs b → OwnReplies IsBad ys c → OwnReplies IsBad (xs ++ ys) (b ++ c)
  own_both xs ys b c h k = record {
    refused = h.refused ++ k.refused;
    others = h.others ++ k.others;
    parted =
        IsPermutation-trans ((h.refused ++ k.refused) ++ (h.others ++ k.others)) ((h.refused ++ h.others) ++ (k.refused ++ k.others)) (xs ++ ys) (middle_changes h.refused k.refused h.others k.others)
        (IsPermutation-append (h.refused ++ h.others) xs (k.refused ++ k.others) ys h.parted k.parted);
    each = All-append IsBad h.refused k.refused h.each k.each;
    told = map-append replied_in h.refused k.refused ∙ ap (λ (v : List Replied). v ++ map replied_in k.refused) h.told ∙ ap (λ (v : List Replied). b ++ v) k.told;
  }

  pub own_in_order : (xs ys : List Exchange) (b : List Replied) → IsPermutation xs ys → OwnReplies IsBad xs b → OwnReplies IsBad ys b
  own_in_order xs ys b same h = record { refused = h.refused; others = h.others; parted = IsPermutation-trans (h.refused ++ h.others) xs ys h.parted same; each = h.each; told = h.told }

  -- ---- the bad replies for which members are left out

  -- where a member of this number is left out for a bad reply, that is among the exchanges
  abbrev pub HasReply : List EndpointParts → List Exchange → ℕ → LeftCause → Type 0
  HasReply es xs at left_cause.Failed = Unit {0}
  HasReply es xs at (left_cause.Bad bad) = (e : EndpointParts) × (slice_get es at ≡ Some e) × Contains xs (exchanged e bad.request bad.reply) × IsBad (exchanged e bad.request bad.reply)
  HasReply es xs at (left_cause.TooLong size) = Unit {0}

  module _ (es : List EndpointParts) (addresses : AllPairs (λ (d e : EndpointParts). d.iri ≢ e.iri) es) where
    module _ (xs rest : List Exchange) (x : Exchange) (same : IsPermutation (x ∷ rest) xs) (at : ℕ) (found : slice_get es at ≡ Some x.at) where
      -- the reply of another member is among the rest
      in_rest : (y : Exchange) (m : ℕ) → at ≢ m → slice_get es m ≡ Some y.at → Among y (x ∷ rest) → Contains rest y
      in_rest y m apart its (inl e) = absurd (apart (one_number (λ (d : EndpointParts). d.iri) es addresses at m x.at y.at found its (ap (λ (v : Exchange). v.at.iri) e)))
      in_rest y m apart its (inr n) = contains_from rest y n

      still_there : (y : Exchange) → Contains xs y → Among y (x ∷ rest)
      still_there y c = among_from (x ∷ rest) y (Contains-permutation xs (x ∷ rest) y (IsPermutation-sym (x ∷ rest) xs same) c)

      still_has : (m : ℕ) (why : LeftCause) → at ≢ m → HasReply es xs m why → HasReply es rest m why
      still_has m left_cause.Failed apart h = tt
      still_has m (left_cause.Bad bad) apart h = let y = exchanged h.0 bad.request bad.reply in (h.0, h.1, in_rest y m apart h.1 (still_there y h.2), h.3)
      still_has m (left_cause.TooLong size) apart h = tt

      all_still_have : (left : List Left) → AllByRecursion (λ (m : Left). at ≢ m.at) left → AllByRecursion (λ (m : Left). HasReply es xs m.at m.why) left → AllByRecursion (λ (m : Left). HasReply es rest m.at m.why) left
      all_still_have [] a h = tt
      all_still_have (m ∷ left) a h = (still_has m.at m.why a.0 h.0, all_still_have left a.1 h.1)

    abbrev OtherNumber : Left → Left → Type 0
    OtherNumber k l = k.at ≢ l.at

    pub lefts_own : (left : List Left) (xs : List Exchange) → AllPairs (λ (k l : Left). k.at ≢ l.at) left → AllByRecursion (λ (l : Left). HasReply es xs l.at l.why) left → OwnReplies IsBad xs (lefts_bad es left)
    lefts_own [] xs p h = own_none xs
    lefts_own (l ∷ left) xs p h = by l.why h.0 (λ ys k. lefts_own left ys (pairs_tail OtherNumber l left p) k)
      where
        apart : AllByRecursion (λ (m : Left). l.at ≢ m.at) left
        apart = recursion_from_All (OtherNumber l) left (pairs_head OtherNumber l left p)

        with_first : (bad : BadReply) (e : EndpointParts) → slice_get es l.at ≡ Some e → IsBad (exchanged e bad.request bad.reply) → (rest : List Exchange) → IsPermutation (exchanged e bad.request bad.reply ∷ rest) xs → OwnReplies IsBad rest (lefts_bad es left)
            → OwnReplies IsBad xs (replied (left_address es l) bad.request bad.reply ∷ lefts_bad es left)
        with_first bad e found is rest same k =
            let x = exchanged e bad.request bad.reply in
            record {
              refused = x ∷ k.refused;
              others = k.others;
              parted = IsPermutation-trans (x ∷ (k.refused ++ k.others)) (x ∷ rest) xs (IsPermutation-cons x (k.refused ++ k.others) rest k.parted) same;
              each = All-cons IsBad x k.refused is k.each;
              told =
                  ap (λ (a : List ℕ). replied a bad.request bad.reply ∷ map replied_in k.refused) (sym (ap address_of found))
                  ∙ ap (λ (v : List Replied). replied (left_address es l) bad.request bad.reply ∷ v) k.told;
            }

        by : (why : LeftCause) → HasReply es xs l.at why → ((ys : List Exchange) → AllByRecursion (λ (m : Left). HasReply es ys m.at m.why) left → OwnReplies IsBad ys (lefts_bad es left)) → OwnReplies IsBad xs (left_bad (left_address es l) why ++ lefts_bad es left)
        by left_cause.Failed r next = next xs h.1
        by (left_cause.Bad bad) r next =
            let x = exchanged r.0 bad.request bad.reply in
            let t = taken xs x (among_from xs x r.2) in
            with_first bad r.0 r.1 r.3 t.0 t.1 (next t.0 (all_still_have xs t.0 x t.1 l.at r.1 left apart h.1))
        by (left_cause.TooLong size) r next = next xs h.1
