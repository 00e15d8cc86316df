-- Batches that are put, one after the other.
use Rattle.std.proofs.Common.{◌≡◌, ◌∙◌, ap, sym, refl, ℕ, Bool, cond, inr, append-nil, ◌+◌, ◌<◌, ◌≤◌, List, [], ◌∷◌, ◌++◌, All, Option, Some, None, Ok, Err, Result, IfOk, subst, sum_by, arith}
use Rattle.std.proofs.lemmas.List.{map-append}
use Rattle.std.proofs.lemmas.List.Elements.{All-from_recursion, All-nil}
use Rattle.std.proofs.lemmas.List.Sums.{sum_by-append}
use Rattle.fx_terms.specs.declared.allocation.Memory.{Memory}
use Rattle.fx_algebra.specs.declared.units.Row.{Row}
use Rattle.fx_traffic.specs.Batches.{AreCut}
use Rattle.fx_flows.specs.Followed.{ArePut, HasPassedOn, IsPassedOn, IsPutButOne, in_hand}
use Rattle.fx_flows.specs.Parcels.{IsParcelOf, made_at, parcel, parcels}
use Rattle.fx_flows.specs.declared.lines.Hand.{Hand}
use Rattle.fx_flows.specs.declared.parcels.RunShape.{RunShape}
use Rattle.fx_flows.specs.declared.parcels.Parcel.{Parcel}
use Rattle.fx_flows.proofs.ParcelLemmas.{other_number, same_number}

weight_both : (h : Parcel → ℕ) (c : RunShape) (k : ℕ) (xs ys : List (List Row)) → sum_by h (parcels c k (xs ++ ys)) ≡ sum_by h (parcels c k xs) + sum_by h (parcels c k ys)
weight_both h c k xs ys = ap (sum_by h) (map-append (parcel c k) xs ys) ∙ sum_by-append h (parcels c k xs) (parcels c k ys)

-- memory ran out for one, and the rest isn't put either
pub put_in_part : (from mid to : Hand) (c : RunShape) (k : ℕ) (batches before : List (List Row)) (rows : List Row) (rest : List (List Row))
    → before ++ rows ∷ rest ≡ batches
    → ((h : Parcel → ℕ) → sum_by h mid.put ≡ sum_by h from.put + sum_by h (parcels c k before))
    → mid.took ≡ from.took → mid.parts ≡ from.parts → to ≡ mid
    → ArePut from to (parcels c k batches) (Err record {})
put_in_part from mid to c k batches before rows rest whole put took parts same = record {
  lost = parcels c k (rows ∷ rest);
  put = λ h.
      let now : sum_by h to.put ≡ sum_by h mid.put = ap (λ (v : Hand). sum_by h v.put) same in
      let all : sum_by h (parcels c k batches) ≡ sum_by h (parcels c k before) + sum_by h (parcels c k (rows ∷ rest)) = ap (λ (v : List (List Row)). sum_by h (parcels c k v)) (sym whole) ∙ weight_both h c k before (rows ∷ rest) in
      let so_far = put h in
      omega (arith, now, all, so_far);
  took = ap (λ (v : Hand). v.took) same ∙ took;
  parts = ap (λ (v : Hand). v.parts) same ∙ parts;
  all = tt;
}

-- the others were put, or some of them, and the last is in hand
pub put_but_one : (from to : Hand) (c : RunShape) (k : ℕ) (batches before : List (List Row)) (rows : List Row) (r : Result (Option Parcel) Memory)
    → batches ≡ before ++ rows ∷ [] → (lost : List Parcel)
    → ((h : Parcel → ℕ) → sum_by h to.put + sum_by h lost ≡ sum_by h from.put + sum_by h (parcels c k before)) → to.took ≡ from.took
    → IfOk r (λ next. (lost ≡ []) × (next ≡ Some (parcel c k rows)) × IsParcelOf c (parcel c k rows))
    → IsPutButOne c k from to batches r
put_but_one from to c k batches before rows r whole lost put took ended = record {
  held = lost ++ parcel c k rows ∷ [];
  put = λ h.
      let all : sum_by h (parcels c k batches) ≡ sum_by h (parcels c k before) + sum_by h (parcels c k (rows ∷ [])) = ap (λ (v : List (List Row)). sum_by h (parcels c k v)) whole ∙ weight_both h c k before (rows ∷ []) in
      let balance = put h in
      omega (arith, all, balance, sum_by-append h lost (parcel c k rows ∷ []));
  took = took;
  ended = by r ended;
}
  where
    by : (o : Result (Option Parcel) Memory) → IfOk o (λ next. (lost ≡ []) × (next ≡ Some (parcel c k rows)) × IsParcelOf c (parcel c k rows))
        → IfOk o (λ next. (lost ++ parcel c k rows ∷ [] ≡ in_hand next) × All (IsParcelOf c) (in_hand next))
    by (Ok next) e = (
      ap (λ (l : List Parcel). l ++ parcel c k rows ∷ []) e.0 ∙ ap in_hand (sym e.1),
      subst (λ (o : Option Parcel). All (IsParcelOf c) (in_hand o)) (sym e.1) (All-from_recursion (IsParcelOf c) (parcel c k rows ∷ []) (e.2, tt)),
    )
    by (Err e) k = tt

-- rows behind the last unit are done
pub behind_the_last : (c : RunShape) (k : ℕ) (view : Hand) (found was now : List Row) → k < c.units → c.units ≤ k + 1 → now ≡ was ++ found → IsPassedOn c k view view found was now (Ok None)
behind_the_last c k view found was now below high e =
    let last : k + 1 ≡ c.units = omega (arith, below, high) in
    record {
      cut = [];
      finished = ((λ same. refl), (λ more. absurd (omega (arith, more, high))));
      held = [];
      put = λ h. refl;
      took = refl;
      ended = (refl, e ∙ ap (λ (l : List Row). was ++ l) (sym (ap (λ (b : Bool). cond b found []) (same_number (k + 1) c.units last))), All-nil (IsParcelOf c));
    }

-- rows before it are cut, and the batches put but for one
pub put_on : (c : RunShape) (k : ℕ) (from to : Hand) (found was : List Row) (batches : List (List Row)) (r : Result (Option Parcel) Memory) → k + 1 < c.units → AreCut found c.block batches
    → IsPutButOne c (k + 1) from to batches r → HasPassedOn c k from to found was was r
put_on c k from to found was batches r more cut h = by r h
  where
    fields : (o : Result (Option Parcel) Memory) → IsPutButOne c (k + 1) from to batches o → IsPassedOn c k from to found was was o
    fields o h = record {
      cut = batches;
      finished = ((λ last. absurd (omega (arith, last, more))), (λ more'. cut));
      held = h.held;
      put = h.put;
      took = h.took;
      ended = kept o h.ended;
    }
      where
        none_made : was ≡ was ++ made_at c k found
        none_made = sym (ap (λ (b : Bool). was ++ cond b found []) (other_number (k + 1) c.units more).0 ∙ append-nil was)

        kept : (o : Result (Option Parcel) Memory) → IfOk o (λ next. (h.held ≡ in_hand next) × All (IsParcelOf c) (in_hand next)) → IfOk o (λ next. (h.held ≡ in_hand next) × (was ≡ was ++ made_at c k found) × All (IsParcelOf c) (in_hand next))
        kept (Ok next) e = (e.0, none_made, e.1)
        kept (Err e) k = tt

    by : (o : Result (Option Parcel) Memory) → IsPutButOne c (k + 1) from to batches o → HasPassedOn c k from to found was was o
    by (Ok next) h = fields (Ok next) h
    by (Err e) h = inr (fields (Err e) h)
