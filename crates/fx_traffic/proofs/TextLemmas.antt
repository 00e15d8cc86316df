-- The texts of batches.
use Rattle.std.proofs.Common.{ℕ, List, [], ◌∷◌, All, Contains}
use Rattle.std.proofs.lemmas.List.Elements.{All-append, All-contains_itself, All-nil, All-weaker, recursion_from_All}
use Rattle.std.specs.List.{AllByRecursion}
use Rattle.fx_outside.specs.Endpoints.{EndpointParts}
use Rattle.fx_algebra.specs.declared.units.Row.{Row}
use Rattle.fx_algebra.specs.declared.units.Unit as unit
use Rattle.fx_traffic.specs.Batches.{IsBatchText, IsSized, batches_sent, unit_sent}
use Rattle.fx_traffic.specs.Sent.{Sent}

-- what the batches of a unit send
pub texts_of_batches : (es : List EndpointParts) (block : ℕ) (Of : unit.Unit → Type 0) (u : unit.Unit) → Of u → (batches : List (List Row)) → All (IsSized block) batches → All (IsBatchText es block Of) (batches_sent es u batches)
texts_of_batches es block Of u its batches sized = by batches (recursion_from_All (IsSized block) batches sized)
  where
    of_batch : (batch : List Row) → IsSized block batch → All (IsBatchText es block Of) (unit_sent es u batch)
    of_batch batch size =
        All-weaker (Contains (unit_sent es u batch)) (IsBatchText es block Of) (λ x m. record { unit = u; of_these = its; batch = batch; sized = size; sent = m }) (unit_sent es u batch) (All-contains_itself (unit_sent es u batch))

    by : (bs : List (List Row)) → AllByRecursion (IsSized block) bs → All (IsBatchText es block Of) (batches_sent es u bs)
    by [] h = All-nil (IsBatchText es block Of)
    by (b ∷ bs) h = All-append (IsBatchText es block Of) (unit_sent es u b) (batches_sent es u bs) (of_batch b h.0) (by bs h.1)

-- of more units
pub texts_of_more : (es : List EndpointParts) (block : ℕ) (Of Of_also : unit.Unit → Type 0) → ((u : unit.Unit) → Of u → Of_also u) → (xs : List Sent) → All (IsBatchText es block Of) xs → All (IsBatchText es block Of_also) xs
texts_of_more es block Of Of_also more xs h =
    All-weaker (IsBatchText es block Of) (IsBatchText es block Of_also) (λ x t. record { unit = t.unit; of_these = more t.unit t.of_these; batch = t.batch; sized = t.sized; sent = t.sent }) xs h
