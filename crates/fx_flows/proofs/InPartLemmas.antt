-- What was sent in part adds up.
use Rattle.std.proofs.Common.{◌≡◌, ◌∙◌, ap, sym, subst, refl, ℕ, ◌+◌, ◌<◌, ◌≤◌, List, [], ◌∷◌, ◌++◌, Option, Some, None, length, map, slice_get, arith, append-nil, length-append, zero-le, IsPermutation}
use Rattle.std.specs.List.{flat_map}
use Rattle.std.proofs.lemmas.Grind.{flat_map-append}
use Rattle.std.proofs.lemmas.List.Sorted.{IsPermutation-append, IsPermutation-append_right, IsPermutation-refl, IsPermutation-sym, IsPermutation-trans}
use Rattle.fx_outside.specs.Endpoints.{EndpointParts}
use Rattle.fx_algebra.specs.declared.units.Row.{Row}
use Rattle.fx_algebra.specs.declared.units.Unit as unit
use Rattle.fx_bound.specs.Parts.{Parts}
use Rattle.fx_traffic.specs.Batches.{batches_sent, unit_sent}
use Rattle.fx_traffic.specs.Sent.{Sent, Sends, sent_of}
use Rattle.fx_traffic.proofs.SentLemmas.{middle_changes, sent_laws}
use Rattle.fx_wire.specs.Exchanges.{Exchange}
use Rattle.fx_flows.specs.InPart.{AreSentInPart, part_sent, parts_sent}
use Rattle.fx_flows.specs.Parcels.{parcel_sent, parcels_sent, sent_for}
use Rattle.fx_flows.specs.declared.parcels.Parcel.{Parcel}

module _ (es : List EndpointParts) where
  both_parts : (ps qs : List Parts) → parts_sent es (ps ++ qs) ≡ parts_sent es ps ++ parts_sent es qs
  both_parts ps qs = flat_map-append (part_sent es) ps qs

  -- of three kinds of batches of two
  both_kinds : (a b c d e f : List Sent) → IsPermutation ((a ++ b) ++ ((c ++ d) ++ (e ++ f))) ((a ++ (c ++ e)) ++ (b ++ (d ++ f)))
  both_kinds a b c d e f =
      IsPermutation-trans ((a ++ b) ++ ((c ++ d) ++ (e ++ f))) ((a ++ b) ++ ((c ++ e) ++ (d ++ f))) ((a ++ (c ++ e)) ++ (b ++ (d ++ f)))
      (IsPermutation-append_right (a ++ b) ((c ++ d) ++ (e ++ f)) ((c ++ e) ++ (d ++ f)) (middle_changes c d e f))
      (middle_changes a b (c ++ e) (d ++ f))

  pub in_part_together : (m n : ℕ) (w v : List Sent) (xs ys : List Exchange) → AreSentInPart es m w xs → AreSentInPart es n v ys → AreSentInPart es (m + n) (w ++ v) (xs ++ ys)
  in_part_together m n w v xs ys h k = record {
    ended = h.ended ++ k.ended;
    begun = h.begun ++ k.begun;
    rest = h.rest ++ k.rest;
    all =
        subst (λ (l : List Sent). IsPermutation (l ++ (parts_sent es (h.begun ++ k.begun) ++ parts_sent es (h.rest ++ k.rest))) (w ++ v)) (sym (both_parts h.ended k.ended))
        (subst (λ (l : List Sent). IsPermutation ((a ++ b) ++ (l ++ parts_sent es (h.rest ++ k.rest))) (w ++ v)) (sym (both_parts h.begun k.begun))
        (subst (λ (l : List Sent). IsPermutation ((a ++ b) ++ ((c ++ d) ++ l)) (w ++ v)) (sym (both_parts h.rest k.rest))
        (IsPermutation-trans ((a ++ b) ++ ((c ++ d) ++ (e ++ f))) ((a ++ (c ++ e)) ++ (b ++ (d ++ f))) (w ++ v) (both_kinds a b c d e f)
        (IsPermutation-append (a ++ (c ++ e)) w (b ++ (d ++ f)) v h.all k.all))));
    few = (let one : length h.begun ≤ m = h.few in let two : length k.begun ≤ n = k.few in omega (arith, one, two, length-append h.begun k.begun));
    of_ended = h.of_ended ++ k.of_ended;
    of_begun = h.of_begun ++ k.of_begun;
    parted =
        IsPermutation-trans ((h.of_ended ++ k.of_ended) ++ (h.of_begun ++ k.of_begun)) ((h.of_ended ++ h.of_begun) ++ (k.of_ended ++ k.of_begun)) (xs ++ ys)
        (middle_changes h.of_ended k.of_ended h.of_begun k.of_begun)
        (IsPermutation-append (h.of_ended ++ h.of_begun) xs (k.of_ended ++ k.of_begun) ys h.parted k.parted);
    sent = subst (λ (l : List Sent). Sends l [] (h.of_ended ++ k.of_ended)) (sym (both_parts h.ended k.ended)) (sent_laws.together a [] b [] h.of_ended k.of_ended h.sent k.sent);
    left = h.left ++ k.left;
    tied =
        subst (λ (l : List Sent). Sends l (h.left ++ k.left) (h.of_begun ++ k.of_begun)) (sym (both_parts h.begun k.begun))
        (sent_laws.together c h.left d k.left h.of_begun k.of_begun h.tied k.tied);
  }
    where
      a : List Sent
      a = parts_sent es h.ended

      b : List Sent
      b = parts_sent es k.ended

      c : List Sent
      c = parts_sent es h.begun

      d : List Sent
      d = parts_sent es k.begun

      e : List Sent
      e = parts_sent es h.rest

      f : List Sent
      f = parts_sent es k.rest

  -- more may be begun, and the order is free
  pub in_part_wider : (m n : ℕ) (w v : List Sent) (xs ys : List Exchange) → m ≤ n → IsPermutation w v → IsPermutation xs ys → AreSentInPart es m w xs → AreSentInPart es n v ys
  in_part_wider m n w v xs ys le same moved h = record {
    ended = h.ended;
    begun = h.begun;
    rest = h.rest;
    all = IsPermutation-trans (parts_sent es h.ended ++ (parts_sent es h.begun ++ parts_sent es h.rest)) w v h.all same;
    few = (let one : length h.begun ≤ m = h.few in omega (arith, one, le));
    of_ended = h.of_ended;
    of_begun = h.of_begun;
    parted = IsPermutation-trans (h.of_ended ++ h.of_begun) xs ys h.parted moved;
    sent = h.sent;
    left = h.left;
    tied = h.tied;
  }

  -- where all was sent, none was begun alone
  pub in_part_whole : (m : ℕ) (w : List Sent) (xs : List Exchange) → Sends w [] xs → AreSentInPart es m w xs → AreSentInPart es 0 w xs
  in_part_whole m w xs whole h = record {
    ended = h.ended ++ (h.begun ++ h.rest);
    begun = [];
    rest = [];
    all = subst (λ (l : List Sent). IsPermutation l w) (sym (append-nil (parts_sent es (h.ended ++ (h.begun ++ h.rest))) ∙ same)) h.all;
    few = zero-le;
    of_ended = xs;
    of_begun = [];
    parted = subst (λ (l : List Exchange). IsPermutation l xs) (sym (append-nil xs)) (IsPermutation-refl xs);
    sent =
        subst (λ (l : List Sent). Sends l [] xs) (sym same)
        (IsPermutation-trans (map sent_of xs ++ []) w (parts_sent es h.ended ++ (parts_sent es h.begun ++ parts_sent es h.rest)) whole
        (IsPermutation-sym (parts_sent es h.ended ++ (parts_sent es h.begun ++ parts_sent es h.rest)) w h.all));
    left = [];
    tied = IsPermutation-refl [];
  }
    where
      same : parts_sent es (h.ended ++ (h.begun ++ h.rest)) ≡ parts_sent es h.ended ++ (parts_sent es h.begun ++ parts_sent es h.rest)
      same = both_parts h.ended (h.begun ++ h.rest) ∙ ap (λ (l : List Sent). parts_sent es h.ended ++ l) (both_parts h.begun h.rest)

  -- none of these was begun
  pub none_in_part : (ps : List Parts) → AreSentInPart es 0 (parts_sent es ps) []
  none_in_part ps = record {
    ended = [];
    begun = [];
    rest = ps;
    all = IsPermutation-refl (parts_sent es ps);
    few = zero-le;
    of_ended = [];
    of_begun = [];
    parted = IsPermutation-refl [];
    sent = IsPermutation-refl [];
    left = [];
    tied = IsPermutation-refl [];
  }

  -- these were ended, and those begun
  pub both_in_part : (ps qs : List Parts) (n : ℕ) (left : List Sent) (xs ys all : List Exchange) → length qs ≤ n → Sends (parts_sent es ps) [] xs → Sends (parts_sent es qs) left ys → IsPermutation (xs ++ ys) all
      → AreSentInPart es n (parts_sent es ps ++ parts_sent es qs) all
  both_in_part ps qs n left xs ys all le h k parted = record {
    ended = ps;
    begun = qs;
    rest = [];
    all =
        subst (λ (l : List Sent). IsPermutation (parts_sent es ps ++ l) (parts_sent es ps ++ parts_sent es qs)) (sym (append-nil (parts_sent es qs)))
        (IsPermutation-refl (parts_sent es ps ++ parts_sent es qs));
    few = le;
    of_ended = xs;
    of_begun = ys;
    parted = parted;
    sent = h;
    left = left;
    tied = k;
  }

  -- ---- one batch of a unit, and several

  abbrev of_unit : unit.Unit → List Row → Parts
  of_unit u rows = record { unit = u; rows = rows }

  of_batches : (u : unit.Unit) (batches : List (List Row)) → parts_sent es (map (of_unit u) batches) ≡ batches_sent es u batches
  of_batches u [] = refl
  of_batches u (b ∷ batches) = ap (λ (l : List Sent). unit_sent es u b ++ l) (of_batches u batches)

  pub one_in_part : (n : ℕ) (u : unit.Unit) (batch : List Row) (left : List Sent) (xs : List Exchange) → 0 < n → Sends (unit_sent es u batch) left xs → AreSentInPart es n (batches_sent es u (batch ∷ [])) xs
  one_in_part n u batch left xs some h =
      both_in_part [] (of_unit u batch ∷ []) n left [] xs xs (omega (arith, some)) (IsPermutation-refl [])
      (subst (λ (l : List Sent). Sends l left xs) (sym (append-nil (unit_sent es u batch))) h) (IsPermutation-refl xs)

  pub unasked_in_part : (u : unit.Unit) (batches : List (List Row)) → AreSentInPart es 0 (batches_sent es u batches) []
  unasked_in_part u batches = subst (λ (l : List Sent). AreSentInPart es 0 l []) (of_batches u batches) (none_in_part (map (of_unit u) batches))

  -- ---- parcels of a run

  module _ (us : List unit.Unit) where
    abbrev at_unit : Option unit.Unit → List Row → List Parts
    at_unit None rows = []
    at_unit (Some u) rows = record { unit = u; rows = rows } ∷ []

    abbrev of_parcel : Parcel → List Parts
    of_parcel p = at_unit (slice_get us p.step) p.rows

    one_parcel : (o : Option unit.Unit) (rows : List Row) → parts_sent es (at_unit o rows) ≡ sent_for es o rows
    one_parcel None rows = refl
    one_parcel (Some u) rows = append-nil (unit_sent es u rows)

    of_parcels : (ps : List Parcel) → parts_sent es (flat_map of_parcel ps) ≡ parcels_sent es us ps
    of_parcels [] = refl
    of_parcels (p ∷ ps) = both_parts (of_parcel p) (flat_map of_parcel ps) ∙ ap (λ (l : List Sent). l ++ parts_sent es (flat_map of_parcel ps)) (one_parcel (slice_get us p.step) p.rows) ∙ ap (λ (l : List Sent). parcel_sent es us p ++ l) (of_parcels ps)

    one_at_most : (o : Option unit.Unit) (rows : List Row) → length (at_unit o rows) ≤ 1
    one_at_most None rows = omega arith
    one_at_most (Some u) rows = omega arith

    no_more : (ps : List Parcel) → length (flat_map of_parcel ps) ≤ length ps
    no_more [] = zero-le
    no_more (p ∷ ps) =
        let one : length (of_parcel p) ≤ 1 = one_at_most (slice_get us p.step) p.rows in
        let rest : length (flat_map of_parcel ps) ≤ length ps = no_more ps in
        omega (arith, one, rest, length-append (of_parcel p) (flat_map of_parcel ps))

    pub parcels_in_part : (ps qs : List Parcel) (n : ℕ) (left : List Sent) (xs ys all : List Exchange) → length qs ≤ n → Sends (parcels_sent es us ps) [] xs → Sends (parcels_sent es us qs) left ys
        → IsPermutation (xs ++ ys) all → AreSentInPart es n (parcels_sent es us ps ++ parcels_sent es us qs) all
    parcels_in_part ps qs n left xs ys all le h k parted =
        subst (λ (l : List Sent). AreSentInPart es n (l ++ parcels_sent es us qs) all) (of_parcels ps)
        (subst (λ (l : List Sent). AreSentInPart es n (parts_sent es (flat_map of_parcel ps) ++ l) all) (of_parcels qs)
        (both_in_part (flat_map of_parcel ps) (flat_map of_parcel qs) n left xs ys all (let few = no_more qs in omega (arith, few, le))
        (subst (λ (l : List Sent). Sends l [] xs) (sym (of_parcels ps)) h) (subst (λ (l : List Sent). Sends l left ys) (sym (of_parcels qs)) k) parted))
