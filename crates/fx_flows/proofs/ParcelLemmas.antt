-- What holds of the parcels of a run, whoever followed them.
use Rattle.std.proofs.Common.{◌≡◌, ◌∙◌, ap, sym, subst, refl, ℕ, zero, suc, Bool, true, false, ◌+◌, ◌*◌, ◌/◌, ◌<◌, ◌≤◌, List, [], ◌∷◌, ◌++◌, cond, eqb, drop, Some, All, IsPermutation, length, slice_get, sum_by, arith, append-nil, length-append, div-mul-le_self}
use Rattle.std.specs.List.{AllByRecursion, flat_map}
use Rattle.std.proofs.lemmas.Bool.Decides.{nat_tests}
use Rattle.std.proofs.lemmas.Grind.{flat_map-append}
use Rattle.std.proofs.lemmas.List.Elements.{All-append, All-from_recursion, recursion_from_All}
use Rattle.std.proofs.lemmas.List.Sorted.{IsPermutation-append_right, IsPermutation-refl, IsPermutation-sym, IsPermutation-trans, length_permutation}
use Rattle.std.proofs.lemmas.List.Sums.{sum_by-append, sum_by-cons}
use Rattle.std.proofs.lemmas.Nat.{le-div}
use Rattle.fx_terms.specs.declared.triples.Triple.{Triple}
use Rattle.fx_outside.specs.Endpoints.{EndpointParts}
use Rattle.fx_algebra.specs.Units.{row_step, step}
use Rattle.fx_algebra.specs.declared.units.Row.{Row}
use Rattle.fx_algebra.specs.declared.units.Unit as unit
use Rattle.fx_algebra.proofs.WeightLemmas.{sum_by-flat_map, weights_from}
use Rattle.fx_steps.specs.Steps.{stepped}
use Rattle.fx_traffic.specs.Batches.{AreBatchesOf, AreCut, IsBatchText, IsRunSent, IsSized, batches_sent, joined, unit_sent}
use Rattle.fx_traffic.specs.Sent.{Sent}
use Rattle.fx_traffic.proofs.CutLemmas.{batch_laws, rows_from, rows_of_cuts}
use Rattle.fx_traffic.proofs.SentLemmas.{middle_changes}
use Rattle.fx_traffic.proofs.TextLemmas.{texts_of_batches}
use Rattle.fx_flows.specs.FlowLaw.{AreAmong, AreEntered, IsNextStep, owed, owed_by}
use Rattle.fx_flows.specs.Parcels.{Finished, IsFinished, IsParcelOf, IsStepOf, at_step, created, entering_at, made, made_by, next_of, of_finished, parcel, parcel_sent, parcels, parcels_sent, sent_for, sent_in_turn}
use Rattle.fx_flows.specs.declared.parcels.RunShape.{RunShape}
use Rattle.fx_flows.specs.declared.parcels.Parcel.{Parcel}

-- ---- numbers

pub same_number : (a b : ℕ) → a ≡ b → eqb a b ≡ true
same_number a b e = grind (arith, nat_tests)

pub other_number : (a b : ℕ) → a < b → (eqb a b ≡ false) × (eqb b a ≡ false)
other_number a b lt = (grind (arith, nat_tests), grind (arith, nat_tests))

is_number : (a b : ℕ) → eqb a b ≡ true → a ≡ b
is_number a b e = grind (arith, nat_tests)

not_number : (a b : ℕ) → eqb a b ≡ false → a ≡ b → ⊥
not_number a b e same = absurd (grind (arith, nat_tests))

-- ---- weights of the rows that come of a row

module _ (graph : List Triple) where
  pub stepped_both : (us : List unit.Unit) (xs ys : List Row) → stepped graph us (xs ++ ys) ≡ stepped graph us xs ++ stepped graph us ys
  stepped_both [] xs ys = refl
  stepped_both (u ∷ us) xs ys = ap (stepped graph us) (flat_map-append (row_step graph u) xs ys) ∙ stepped_both us (step graph u xs) (step graph u ys)

  pub stepped_none : (us : List unit.Unit) → stepped graph us [] ≡ []
  stepped_none [] = refl
  stepped_none (u ∷ us) = stepped_none us

  -- what a row comes to
  comes_to : (Row → ℕ) → List unit.Unit → Row → ℕ
  comes_to h us r = sum_by h (stepped graph us (r ∷ []))

  weight_of : (h : Row → ℕ) (us : List unit.Unit) (rows : List Row) → sum_by h (stepped graph us rows) ≡ sum_by (comes_to h us) rows
  unfolding comes_to
  weight_of h us [] = ap (sum_by h) (stepped_none us)
  weight_of h us (r ∷ rows) =
      ap (sum_by h) (stepped_both us (r ∷ []) rows)
      ∙ sum_by-append h (stepped graph us (r ∷ [])) (stepped graph us rows)
      ∙ ap (λ (n : ℕ). comes_to h us r + n) (weight_of h us rows)
      ∙ sym (sum_by-cons (comes_to h us) r rows)

  -- in another order the same comes of rows
  weight_moved : (h : Row → ℕ) (us : List unit.Unit) (xs ys : List Row) → IsPermutation xs ys → sum_by h (stepped graph us xs) ≡ sum_by h (stepped graph us ys)
  weight_moved h us xs ys same = weight_of h us xs ∙ weights_from xs ys same (comes_to h us) ∙ sym (weight_of h us ys)

  -- of batches what comes of their rows
  weight_of_batches : (h : Row → ℕ) (us : List unit.Unit) (batches : List (List Row)) → sum_by (λ b. sum_by h (stepped graph us b)) batches ≡ sum_by h (stepped graph us (joined batches))
  weight_of_batches h us [] = sym (ap (sum_by h) (stepped_none us))
  weight_of_batches h us (b ∷ batches) =
      sum_by-cons (λ (d : List Row). sum_by h (stepped graph us d)) b batches
      ∙ ap (λ (n : ℕ). sum_by h (stepped graph us b) + n) (weight_of_batches h us batches)
      ∙ sym (ap (sum_by h) (stepped_both us b (joined batches)) ∙ sum_by-append h (stepped graph us b) (stepped graph us (joined batches)))

-- ---- lists without their front

drop_front : (us : List unit.Unit) (k : ℕ) (u : unit.Unit) → slice_get us k ≡ Some u → drop k us ≡ u ∷ drop (suc k) us
drop_front [] k u e = cc
drop_front (v ∷ us) zero u e = let same : v ≡ u = cc in ap (λ (w : unit.Unit). w ∷ us) same
drop_front (v ∷ us) (suc k) u e = drop_front us k u e

drop_at : (us : List unit.Unit) (k : ℕ) (u : unit.Unit) → slice_get us k ≡ Some u → drop k us ≡ u ∷ drop (k + 1) us
drop_at us k u e = let next : suc k ≡ k + 1 = omega arith in drop_front us k u e ∙ ap (λ (n : ℕ). u ∷ drop n us) next

unit_at : (us : List unit.Unit) (k : ℕ) → k < length us → (u : unit.Unit) × (slice_get us k ≡ Some u)
unit_at [] k below = absurd (omega (arith, below))
unit_at (v ∷ us) zero below = (v, refl)
unit_at (v ∷ us) (suc k) below = unit_at us k (omega (arith, below))

drop_all : (us : List unit.Unit) (k : ℕ) → length us ≤ k → drop k us ≡ []
drop_all [] zero high = refl
drop_all [] (suc k) high = refl
drop_all (v ∷ us) zero high = absurd (omega (arith, high))
drop_all (v ∷ us) (suc k) high = drop_all us k (omega (arith, high))

-- ---- what is owed stays

module _ (graph : List Triple) (us : List unit.Unit) (c : RunShape) (units : c.units ≡ length us) where
  -- what a parcel's rows come to behind the last unit
  pub owes : (Row → ℕ) → Parcel → ℕ
  owes h p = sum_by h (owed_by graph us p)

  owes_of_parcels : (h : Row → ℕ) (k : ℕ) (batches : List (List Row)) (d : RunShape) → sum_by (owes h) (parcels d k batches) ≡ sum_by h (stepped graph (drop k us) (joined batches))
  unfolding owes
  owes_of_parcels h k batches d = by batches ∙ weight_of_batches graph h (drop k us) batches
    where
      by : (bs : List (List Row)) → sum_by (owes h) (parcels d k bs) ≡ sum_by (λ b. sum_by h (stepped graph (drop k us) b)) bs
      by [] = refl
      by (b ∷ bs) =
          sum_by-cons (owes h) (parcel d k b) (parcels d k bs)
          ∙ ap (λ (n : ℕ). sum_by h (stepped graph (drop k us) b) + n) (by bs)
          ∙ sym (sum_by-cons (λ (e : List Row). sum_by h (stepped graph (drop k us) e)) b bs)

  -- what a finished parcel made, and what those that came of it owe, is what it owed
  one_owed : (h : Row → ℕ) (f : Finished) → IsFinished c f → IsStepOf graph us f → sum_by h (made_by c f) + sum_by (owes h) (next_of f) ≡ owes h f.of
  unfolding owes
  one_owed h f fin is =
      let at = unit_at us f.of.step (subst (λ (n : ℕ). f.of.step < n) units fin.of_run.below) in
      let u = at.0 in
      let front : drop f.of.step us ≡ u ∷ drop (f.of.step + 1) us = drop_at us f.of.step u at.1 in
      let found : sum_by h (stepped graph (drop (f.of.step + 1) us) f.found) ≡ sum_by h (stepped graph (drop f.of.step us) f.of.rows) =
      weight_moved graph h (drop (f.of.step + 1) us) f.found (step graph u f.of.rows) (is u at.1) ∙ sym (ap (λ (v : List unit.Unit). sum_by h (stepped graph v f.of.rows)) front) in
      by (eqb (f.of.step + 1) c.units) refl found
    where
      below_next : (a b : ℕ) → a < b → (a + 1 ≡ b → ⊥) → a + 1 < b
      below_next a b lt apart = grind (arith, nat_tests)

      by : (b : Bool) → eqb (f.of.step + 1) c.units ≡ b → sum_by h (stepped graph (drop (f.of.step + 1) us) f.found) ≡ sum_by h (stepped graph (drop f.of.step us) f.of.rows)
          → sum_by h (made_by c f) + sum_by (owes h) (next_of f) ≡ sum_by h (stepped graph (drop f.of.step us) f.of.rows)
      by true e found =
          let last : f.of.step + 1 ≡ c.units = is_number (f.of.step + 1) c.units e in
          let made_is : made_by c f ≡ f.found = ap (λ (b : Bool). cond b f.found []) e in
          let none : sum_by (owes h) (next_of f) ≡ 0 = ap (λ (v : List (List Row)). sum_by (owes h) (parcels f.of.shape (f.of.step + 1) v)) (fin.last last) in
          let end : drop (f.of.step + 1) us ≡ [] = drop_all us (f.of.step + 1) (omega (arith, last, units)) in
          let there : sum_by h f.found ≡ sum_by h (stepped graph (drop f.of.step us) f.of.rows) = sym (ap (λ (v : List unit.Unit). sum_by h (stepped graph v f.found)) end) ∙ found in
          let mine : sum_by h (made_by c f) ≡ sum_by h f.found = ap (sum_by h) made_is in
          omega (arith, none, there, mine)
      by false e found =
          let apart : (f.of.step + 1 ≡ c.units → ⊥) = not_number (f.of.step + 1) c.units e in
          let below : f.of.step < c.units = fin.of_run.below in
          let more : f.of.step + 1 < c.units = below_next f.of.step c.units below apart in
          let none : sum_by h (made_by c f) ≡ 0 = ap (λ (b : Bool). sum_by h (cond b f.found [])) e in
          let next : sum_by (owes h) (next_of f) ≡ sum_by h (stepped graph (drop (f.of.step + 1) us) (joined f.cut)) = owes_of_parcels h (f.of.step + 1) f.cut f.of.shape in
          let cut : sum_by h (stepped graph (drop (f.of.step + 1) us) (joined f.cut)) ≡ sum_by h (stepped graph (drop (f.of.step + 1) us) f.found) = ap (λ (v : List Row). sum_by h (stepped graph (drop (f.of.step + 1) us) v)) (fin.more more).of_rows in
          omega (arith, none, next, cut, found)

  all_owed : (h : Row → ℕ) (spent : List Finished) → AllByRecursion (IsFinished c) spent → AllByRecursion (IsStepOf graph us) spent
      → sum_by h (made c spent) + sum_by (owes h) (created spent) ≡ sum_by (owes h) (of_finished spent)
  all_owed h [] fin is = refl
  all_owed h (f ∷ spent) fin is =
      let one = one_owed h f fin.0 is.0 in
      let rest = all_owed h spent fin.1 is.1 in
      omega (arith, one, rest, sum_by-append h (made_by c f) (made c spent), sum_by-append (owes h) (next_of f) (created spent), sum_by-cons (owes h) f.of (of_finished spent))

  weight_owed : (h : Row → ℕ) (ps : List Parcel) → sum_by h (owed graph us ps) ≡ sum_by (owes h) ps
  unfolding owes
  weight_owed h ps = sum_by-flat_map h (owed_by graph us) ps

  -- what was made and what is owed by the others are the rows behind all units
  pub all_rows : (rows : List Row) (batches : List (List Row)) (spent : List Finished) (others : List Parcel) → joined batches ≡ rows → All (IsFinished c) spent → All (IsStepOf graph us) spent
      → ((h : Parcel → ℕ) → sum_by h (parcels c 0 batches) + sum_by h (created spent) ≡ sum_by h (of_finished spent) + sum_by h others)
      → IsPermutation (made c spent ++ owed graph us others) (stepped graph us rows)
  all_rows rows batches spent others whole fin is even = rows_from (made c spent ++ owed graph us others) (stepped graph us rows) (λ h.
      let balance : sum_by (owes h) (parcels c 0 batches) + sum_by (owes h) (created spent) ≡ sum_by (owes h) (of_finished spent) + sum_by (owes h) others = even (owes h) in
      let seeds : sum_by (owes h) (parcels c 0 batches) ≡ sum_by h (stepped graph us rows) = owes_of_parcels h 0 batches c ∙ ap (λ (v : List Row). sum_by h (stepped graph us v)) whole in
      let spent_is = all_owed h spent (recursion_from_All (IsFinished c) spent fin) (recursion_from_All (IsStepOf graph us) spent is) in
      let others_are = weight_owed h others in
      omega (arith, balance, seeds, spent_is, others_are, sum_by-append h (made c spent) (owed graph us others)))

-- ---- the batches that enter a unit

entering_length : (k : ℕ) (ps : List Parcel) → length (entering_at k ps) ≡ sum_by (λ p. length (at_step k p)) ps
entering_length k [] = refl
entering_length k (p ∷ ps) =
    length-append (at_step k p) (entering_at k ps) ∙ ap (λ (n : ℕ). length (at_step k p) + n) (entering_length k ps) ∙ sym (sum_by-cons (λ (q : Parcel). length (at_step k q)) p ps)

entering_weight : (h : Row → ℕ) (k : ℕ) (ps : List Parcel) → sum_by h (joined (entering_at k ps)) ≡ sum_by (λ p. sum_by h (joined (at_step k p))) ps
entering_weight h k [] = refl
entering_weight h k (p ∷ ps) =
    ap (sum_by h) (flat_map-append (λ (b : List Row). b) (at_step k p) (entering_at k ps))
    ∙ sum_by-append h (joined (at_step k p)) (joined (entering_at k ps))
    ∙ ap (λ (n : ℕ). sum_by h (joined (at_step k p)) + n) (entering_weight h k ps)
    ∙ sym (sum_by-cons (λ (q : Parcel). sum_by h (joined (at_step k q))) p ps)

entering_sized : (c : RunShape) (k : ℕ) (ps : List Parcel) → AllByRecursion (IsParcelOf c) ps → All (IsSized c.block) (entering_at k ps)
entering_sized c k [] h = All-from_recursion (IsSized c.block) [] tt
entering_sized c k (p ∷ ps) h = All-append (IsSized c.block) (at_step k p) (entering_at k ps) (one (eqb p.step k)) (entering_sized c k ps h.1)
  where
    one : (b : Bool) → All (IsSized c.block) (cond b (p.rows ∷ []) [])
    one true = All-from_recursion (IsSized c.block) (p.rows ∷ []) (h.0.sized, tt)
    one false = All-from_recursion (IsSized c.block) [] tt

entering_both : (k : ℕ) (ps qs : List Parcel) → entering_at k (ps ++ qs) ≡ entering_at k ps ++ entering_at k qs
entering_both k ps qs = flat_map-append (at_step k) ps qs

at_its_own : (p : Parcel) (k : ℕ) → p.step ≡ k → at_step k p ≡ p.rows ∷ []
at_its_own p k e = ap (λ (b : Bool). cond b (p.rows ∷ []) []) (same_number p.step k e)

at_none : (p : Parcel) (k : ℕ) → eqb p.step k ≡ false → at_step k p ≡ []
at_none p k e = ap (λ (b : Bool). cond b (p.rows ∷ []) []) e

parcels_at : (d : RunShape) (k : ℕ) (batches : List (List Row)) → entering_at k (parcels d k batches) ≡ batches
parcels_at d k [] = refl
parcels_at d k (b ∷ batches) = ap (λ (v : List (List Row)). v ++ entering_at k (parcels d k batches)) (at_its_own (parcel d k b) k refl) ∙ ap (λ (v : List (List Row)). b ∷ v) (parcels_at d k batches)

parcels_elsewhere : (d : RunShape) (j k : ℕ) → eqb j k ≡ false → (batches : List (List Row)) → entering_at k (parcels d j batches) ≡ []
parcels_elsewhere d j k apart [] = refl
parcels_elsewhere d j k apart (b ∷ batches) = ap (λ (v : List (List Row)). v ++ entering_at k (parcels d j batches)) (at_none (parcel d j b) k apart) ∙ parcels_elsewhere d j k apart batches

-- ---- what parcels send, unit after unit

module _ (es : List EndpointParts) where
  sends_nothing : (k : ℕ) (us : List unit.Unit) → sent_in_turn es k us [] ≡ []
  sends_nothing k [] = refl
  sends_nothing k (u ∷ us) = sends_nothing (k + 1) us

  passed_by : (p : Parcel) (k : ℕ) (us : List unit.Unit) → p.step < k → sent_in_turn es k us (p ∷ []) ≡ []
  passed_by p k [] low = refl
  passed_by p k (u ∷ us) low =
      ap (λ (v : List (List Row)). batches_sent es u (v ++ []) ++ sent_in_turn es (k + 1) us (p ∷ [])) (at_none p k (other_number p.step k low).0)
      ∙ passed_by p (k + 1) us (omega (arith, low))

  alone_sends : (p : Parcel) (j k : ℕ) (us : List unit.Unit) → p.step ≡ k + j → sent_in_turn es k us (p ∷ []) ≡ sent_for es (slice_get us j) p.rows
  alone_sends p j k [] e = refl
  alone_sends p zero k (u ∷ us) e =
      let here : p.step ≡ k = e ∙ omega arith in
      ap (λ (v : List (List Row)). batches_sent es u (v ++ []) ++ sent_in_turn es (k + 1) us (p ∷ [])) (at_its_own p k here)
      ∙ ap (λ (v : List Sent). (unit_sent es u p.rows ++ []) ++ v) (passed_by p (k + 1) us (omega (arith, here)))
      ∙ append-nil (unit_sent es u p.rows ++ [])
      ∙ append-nil (unit_sent es u p.rows)
  alone_sends p (suc j) k (u ∷ us) e =
      let later : k < p.step = omega (arith, e) in
      ap (λ (v : List (List Row)). batches_sent es u (v ++ []) ++ sent_in_turn es (k + 1) us (p ∷ [])) (at_none p k (other_number k p.step later).1)
      ∙ alone_sends p j (k + 1) us (omega (arith, e))

  split_turn : (p : Parcel) (ps : List Parcel) (k : ℕ) (us : List unit.Unit) → IsPermutation (sent_in_turn es k us (p ∷ ps)) (sent_in_turn es k us (p ∷ []) ++ sent_in_turn es k us ps)
  split_turn p ps k [] = IsPermutation-refl []
  split_turn p ps k (u ∷ us) =
      let mine : List Sent = batches_sent es u (at_step k p) in
      let theirs : List Sent = batches_sent es u (entering_at k ps) in
      let one : List Sent = sent_in_turn es (k + 1) us (p ∷ []) in
      let rest : List Sent = sent_in_turn es (k + 1) us ps in
      let both : batches_sent es u (entering_at k (p ∷ ps)) ≡ mine ++ theirs = flat_map-append (unit_sent es u) (at_step k p) (entering_at k ps) in
      let alone : batches_sent es u (entering_at k (p ∷ [])) ≡ mine = ap (batches_sent es u) (append-nil (at_step k p)) in
      subst (λ (v : List Sent). IsPermutation (v ++ sent_in_turn es (k + 1) us (p ∷ ps)) ((batches_sent es u (entering_at k (p ∷ [])) ++ one) ++ (theirs ++ rest))) (sym both)
      (subst (λ (v : List Sent). IsPermutation ((mine ++ theirs) ++ sent_in_turn es (k + 1) us (p ∷ ps)) ((v ++ one) ++ (theirs ++ rest))) (sym alone)
      (IsPermutation-trans ((mine ++ theirs) ++ sent_in_turn es (k + 1) us (p ∷ ps)) ((mine ++ theirs) ++ (one ++ rest)) ((mine ++ one) ++ (theirs ++ rest))
      (IsPermutation-append_right (mine ++ theirs) (sent_in_turn es (k + 1) us (p ∷ ps)) (one ++ rest) (split_turn p ps (k + 1) us))
      (middle_changes mine theirs one rest)))

  -- in whatever order they were sent, it is the same unit after unit
  pub turned : (us : List unit.Unit) (ps : List Parcel) → IsPermutation (parcels_sent es us ps) (sent_in_turn es 0 us ps)
  turned us [] = subst (IsPermutation []) (sym (sends_nothing 0 us)) (IsPermutation-refl [])
  turned us (p ∷ ps) =
      let none : p.step ≡ 0 + p.step = omega arith in
      IsPermutation-trans (parcel_sent es us p ++ parcels_sent es us ps) (sent_in_turn es 0 us (p ∷ []) ++ sent_in_turn es 0 us ps) (sent_in_turn es 0 us (p ∷ ps))
      (subst (λ (v : List Sent). IsPermutation (v ++ parcels_sent es us ps) (sent_in_turn es 0 us (p ∷ []) ++ sent_in_turn es 0 us ps)) (alone_sends p p.step 0 us none)
      (IsPermutation-append_right (sent_in_turn es 0 us (p ∷ [])) (parcels_sent es us ps) (sent_in_turn es 0 us ps) (turned us ps)))
      (IsPermutation-sym (sent_in_turn es 0 us (p ∷ ps)) (sent_in_turn es 0 us (p ∷ []) ++ sent_in_turn es 0 us ps) (split_turn p ps 0 us))

  pub texts_in_turn : (c : RunShape) (Of : unit.Unit → Type 0) (ps : List Parcel) → All (IsParcelOf c) ps → (k : ℕ) (us : List unit.Unit) → AllByRecursion Of us → All (IsBatchText es c.block Of) (sent_in_turn es k us ps)
  texts_in_turn c Of ps sized k [] its = All-from_recursion (IsBatchText es c.block Of) [] tt
  texts_in_turn c Of ps sized k (u ∷ us) its =
      All-append (IsBatchText es c.block Of) (batches_sent es u (entering_at k ps)) (sent_in_turn es (k + 1) us ps)
      (texts_of_batches es c.block Of u its.0 (entering_at k ps) (entering_sized c k ps (recursion_from_All (IsParcelOf c) ps sized)))
      (texts_in_turn c Of ps sized (k + 1) us its.1)

-- ---- cuts of the rows that were found

abbrev Cut : Type 0
Cut = List Row × List (List Row)

cut_at : ℕ → Finished → List Cut
cut_at k f = cond (eqb f.of.step k) ((f.found, f.cut) ∷ []) []

cuts_at : ℕ → List Finished → List Cut
unfolding cut_at
cuts_at k spent = flat_map (cut_at k) spent

module _ (graph : List Triple) (us : List unit.Unit) (c : RunShape) where
  created_at : (k : ℕ) (spent : List Finished) → entering_at (k + 1) (created spent) ≡ flat_map (λ (d : Cut). d.1) (cuts_at k spent)
  unfolding cut_at cuts_at
  created_at k [] = refl
  created_at k (f ∷ spent) =
      entering_both (k + 1) (next_of f) (created spent)
      ∙ ap (λ (v : List (List Row)). v ++ entering_at (k + 1) (created spent)) (one (eqb f.of.step k) refl)
      ∙ ap (λ (v : List (List Row)). flat_map (λ (d : Cut). d.1) (cut_at k f) ++ v) (created_at k spent)
      ∙ sym (flat_map-append (λ (d : Cut). d.1) (cut_at k f) (cuts_at k spent))
    where
      next_apart : (a b : ℕ) → eqb a b ≡ false → eqb (a + 1) (b + 1) ≡ false
      next_apart a b e = grind (arith, nat_tests)

      one : (b : Bool) → eqb f.of.step k ≡ b → entering_at (k + 1) (next_of f) ≡ flat_map (λ (d : Cut). d.1) (cond b ((f.found, f.cut) ∷ []) [])
      one true e = ap (λ (n : ℕ). entering_at (n + 1) (next_of f)) (sym (is_number f.of.step k e)) ∙ parcels_at f.of.shape (f.of.step + 1) f.cut ∙ sym (append-nil f.cut)
      one false e = parcels_elsewhere f.of.shape (f.of.step + 1) (k + 1) (next_apart f.of.step k e) f.cut

  cuts_length : (k : ℕ) (spent : List Finished) → length (cuts_at k spent) ≡ length (entering_at k (of_finished spent))
  unfolding cut_at cuts_at
  cuts_length k [] = refl
  cuts_length k (f ∷ spent) =
      length-append (cut_at k f) (cuts_at k spent)
      ∙ ap (λ (n : ℕ). length (cut_at k f) + n) (cuts_length k spent)
      ∙ ap (λ (n : ℕ). n + length (entering_at k (of_finished spent))) (one (eqb f.of.step k))
      ∙ sym (length-append (at_step k f.of) (entering_at k (of_finished spent)))
    where
      one : (b : Bool) → length (cond {A = List Cut} b ((f.found, f.cut) ∷ []) []) ≡ length (cond {A = List (List Row)} b (f.of.rows ∷ []) [])
      one true = refl
      one false = refl

  all_cut : (k : ℕ) (spent : List Finished) → k + 1 < c.units → AllByRecursion (IsFinished c) spent → All (λ (d : Cut). AreCut d.0 c.block d.1) (cuts_at k spent)
  unfolding cut_at cuts_at
  all_cut k [] more fin = All-from_recursion (λ (d : Cut). AreCut d.0 c.block d.1) [] tt
  all_cut k (f ∷ spent) more fin = All-append (λ (d : Cut). AreCut d.0 c.block d.1) (cut_at k f) (cuts_at k spent) (one (eqb f.of.step k) refl) (all_cut k spent more fin.1)
    where
      one : (b : Bool) → eqb f.of.step k ≡ b → All (λ (d : Cut). AreCut d.0 c.block d.1) (cond b ((f.found, f.cut) ∷ []) [])
      one true e = All-from_recursion (λ (d : Cut). AreCut d.0 c.block d.1) ((f.found, f.cut) ∷ []) (fin.0.more (let same = is_number f.of.step k e in omega (arith, same, more)), tt)
      one false e = All-from_recursion (λ (d : Cut). AreCut d.0 c.block d.1) [] tt

  step_both : (u : unit.Unit) (xs ys : List Row) → step graph u (xs ++ ys) ≡ step graph u xs ++ step graph u ys
  step_both u xs ys = flat_map-append (row_step graph u) xs ys

  -- what was found at a unit is what it makes of the rows of the finished ones there
  found_at : (h : Row → ℕ) (k : ℕ) (u : unit.Unit) → slice_get us k ≡ Some u → (spent : List Finished) → AllByRecursion (IsStepOf graph us) spent
      → sum_by h (flat_map (λ (d : Cut). d.0) (cuts_at k spent)) ≡ sum_by h (step graph u (joined (entering_at k (of_finished spent))))
  unfolding cut_at cuts_at
  found_at h k u at [] is = refl
  found_at h k u at (f ∷ spent) is =
      ap (sum_by h) (flat_map-append (λ (d : Cut). d.0) (cut_at k f) (cuts_at k spent))
      ∙ sum_by-append h (flat_map (λ (d : Cut). d.0) (cut_at k f)) (flat_map (λ (d : Cut). d.0) (cuts_at k spent))
      ∙ ap (λ (n : ℕ). sum_by h (flat_map (λ (d : Cut). d.0) (cut_at k f)) + n) (found_at h k u at spent is.1)
      ∙ ap (λ (n : ℕ). n + sum_by h (step graph u (joined (entering_at k (of_finished spent))))) (one (eqb f.of.step k) refl)
      ∙ sym (sum_by-append h (step graph u (joined (at_step k f.of))) (step graph u (joined (entering_at k (of_finished spent)))))
      ∙ ap (sum_by h) (sym (step_both u (joined (at_step k f.of)) (joined (entering_at k (of_finished spent)))))
      ∙ ap (λ (v : List Row). sum_by h (step graph u v)) (sym (flat_map-append (λ (b : List Row). b) (at_step k f.of) (entering_at k (of_finished spent))))
    where
      one : (b : Bool) → eqb f.of.step k ≡ b → sum_by h (flat_map (λ (d : Cut). d.0) (cond {A = List Cut} b ((f.found, f.cut) ∷ []) [])) ≡ sum_by h (step graph u (joined (cond {A = List (List Row)} b (f.of.rows ∷ []) [])))
      one true e =
          let same = is_number f.of.step k e in
          ap (sum_by h) (append-nil f.found)
          ∙ weights_from f.found (step graph u f.of.rows) (is.0 u (ap (slice_get us) same ∙ at)) h
          ∙ ap (λ (v : List Row). sum_by h (step graph u v)) (sym (append-nil f.of.rows))
      one false e = refl

-- ---- what may be sent

pub finished_of_run : (c : RunShape) (spent : List Finished) → All (IsFinished c) spent → All (IsParcelOf c) (of_finished spent)
finished_of_run c spent fin = All-from_recursion (IsParcelOf c) (of_finished spent) (by spent (recursion_from_All (IsFinished c) spent fin))
  where
    by : (fs : List Finished) → AllByRecursion (IsFinished c) fs → AllByRecursion (IsParcelOf c) (of_finished fs)
    by [] h = tt
    by (f ∷ fs) h = (h.0.of_run, by fs h.1)

blocks_rise : (m n block : ℕ) → 0 < block → m ≤ n → m / block ≤ n / block
blocks_rise m n block positive le = le-div (m / block) n block positive (let whole : m / block * block ≤ m = div-mul-le_self m block in omega (arith, whole, le))

module _ (es : List EndpointParts) (graph : List Triple) (us : List unit.Unit) (c : RunShape) (positive : 0 < c.block) (units : c.units ≡ length us)
    (first : List (List Row)) (spent : List Finished) (tried left : List Parcel)
    (fin : All (IsFinished c) spent) (is : All (IsStepOf graph us) spent)
    (even : (h : Parcel → ℕ) → sum_by h (parcels c 0 first) + sum_by h (created spent) ≡ (sum_by h (of_finished spent) + sum_by h tried) + sum_by h left) where
  -- all parcels that there were
  abbrev all : List Parcel
  all = parcels c 0 first ++ created spent

  abbrev asked : List Parcel
  asked = of_finished spent ++ tried

  all_even : (h : Parcel → ℕ) → sum_by h all ≡ (sum_by h (of_finished spent) + sum_by h tried) + sum_by h left
  all_even h = let e = even h in omega (arith, e, sum_by-append h (parcels c 0 first) (created spent))

  asked_even : (h : Parcel → ℕ) → sum_by h all ≡ sum_by h asked + sum_by h left
  asked_even h = let e = all_even h in omega (arith, e, sum_by-append h (of_finished spent) tried)

  -- the batches of those that were asked for are some of all at the unit
  among_at : (k : ℕ) (rows : List Row) (most : ℕ) → AreBatchesOf rows c.block most (entering_at k all) → AreAmong rows most (entering_at k asked)
  among_at k rows most b = record {
    unused = joined (entering_at k left) ++ b.unused;
    of_rows = rows_from (joined (entering_at k asked) ++ (joined (entering_at k left) ++ b.unused)) rows (λ h.
        let e = asked_even (λ p. sum_by h (joined (at_step k p))) in
        let whole : sum_by h (joined (entering_at k all) ++ b.unused) ≡ sum_by h rows = weights_from (joined (entering_at k all) ++ b.unused) rows b.of_rows h in
        omega (
          arith,
          e,
          whole,
          sum_by-append h (joined (entering_at k all)) b.unused,
          sum_by-append h (joined (entering_at k asked)) (joined (entering_at k left) ++ b.unused),
          sum_by-append h (joined (entering_at k left)) b.unused,
          entering_weight h k all,
          entering_weight h k asked,
          entering_weight h k left,
        ));
    few =
        let e = asked_even (λ p. length (at_step k p)) in
        let few : length (entering_at k all) ≤ most = b.few in
        omega (arith, e, few, entering_length k all, entering_length k asked);
  }

  batches_at : (k : ℕ) → entering_at (k + 1) all ≡ flat_map (λ (d : Cut). d.1) (cuts_at k spent)
  batches_at k =
      entering_both (k + 1) (parcels c 0 first) (created spent)
      ∙ ap (λ (v : List (List Row)). v ++ entering_at (k + 1) (created spent)) (parcels_elsewhere c 0 (k + 1) (other_number 0 (k + 1) (omega arith)).0 first)
      ∙ created_at graph us c k spent

  -- those of the next unit are batches of what the unit makes of the rows that enter it
  next_at : (k : ℕ) (u : unit.Unit) → slice_get us k ≡ Some u → k + 1 < c.units → (rows : List Row) (most : ℕ) → AreBatchesOf rows c.block most (entering_at k all)
      → AreBatchesOf (step graph u rows) c.block (most + length (step graph u rows) / c.block) (entering_at (k + 1) all)
  next_at k u at more rows most b =
      let several = batch_laws.several c.block (cuts_at k spent) positive (all_cut graph us c k spent more (recursion_from_All (IsFinished c) spent fin)) in
      let found : List Row = flat_map (λ (d : Cut). d.0) (cuts_at k spent) in
      let here : List Row = joined (entering_at k (of_finished spent)) in
      let others : List Row = (joined (entering_at k tried) ++ joined (entering_at k left)) ++ b.unused in
      let whole : IsPermutation (here ++ others) rows = rows_from (here ++ others) rows (λ h.
      let e = all_even (λ p. sum_by h (joined (at_step k p))) in
      let w : sum_by h (joined (entering_at k all) ++ b.unused) ≡ sum_by h rows = weights_from (joined (entering_at k all) ++ b.unused) rows b.of_rows h in
      omega (
        arith,
        e,
        w,
        sum_by-append h (joined (entering_at k all)) b.unused,
        sum_by-append h here others,
        sum_by-append h (joined (entering_at k tried) ++ joined (entering_at k left)) b.unused,
        sum_by-append h (joined (entering_at k tried)) (joined (entering_at k left)),
        entering_weight h k all,
        entering_weight h k (of_finished spent),
        entering_weight h k tried,
        entering_weight h k left,
      )) in
      let both : IsPermutation (step graph u here ++ step graph u others) (step graph u rows) =
      subst (λ (v : List Row). IsPermutation v (step graph u rows)) (step_both graph us c u here others) (batch_laws.any_order graph u (here ++ others) rows whole) in
      let made_here : (h : Row → ℕ) → sum_by h found ≡ sum_by h (step graph u here) = λ h. found_at graph us c h k u at spent (recursion_from_All (IsStepOf graph us) spent is) in
      let same_found : IsPermutation found (step graph u here) = rows_from found (step graph u here) made_here in
      let batches_are = batches_at k in
      subst (AreBatchesOf (step graph u rows) c.block (most + length (step graph u rows) / c.block)) (sym batches_are)
      (record {
        unused = several.unused ++ step graph u others;
        of_rows = rows_from (joined (flat_map (λ (d : Cut). d.1) (cuts_at k spent)) ++ (several.unused ++ step graph u others)) (step graph u rows) (λ h.
            let s : sum_by h (joined (flat_map (λ (d : Cut). d.1) (cuts_at k spent)) ++ several.unused) ≡ sum_by h found = weights_from (joined (flat_map (λ (d : Cut). d.1) (cuts_at k spent)) ++ several.unused) found several.of_rows h in
            let w : sum_by h (step graph u here ++ step graph u others) ≡ sum_by h (step graph u rows) = weights_from (step graph u here ++ step graph u others) (step graph u rows) both h in
            omega (
              arith,
              s,
              w,
              made_here h,
              sum_by-append h (joined (flat_map (λ (d : Cut). d.1) (cuts_at k spent))) several.unused,
              sum_by-append h (joined (flat_map (λ (d : Cut). d.1) (cuts_at k spent))) (several.unused ++ step graph u others),
              sum_by-append h several.unused (step graph u others),
              sum_by-append h (step graph u here) (step graph u others),
            ));
        sized = several.sized;
        few =
            let e = all_even (λ p. length (at_step k p)) in
            let few : length (entering_at k all) ≤ most = b.few in
            let cuts : length (flat_map (λ (d : Cut). d.1) (cuts_at k spent)) ≤ length (cuts_at k spent) + length found / c.block = several.few in
            let long : length (step graph u here) ≡ length found = length_permutation found (step graph u here) same_found in
            let whole_long : length (step graph u rows) ≡ length (step graph u here ++ step graph u others) = length_permutation (step graph u here ++ step graph u others) (step graph u rows) both in
            let blocks = blocks_rise (length found) (length (step graph u rows)) c.block positive (omega (arith, long, whole_long, length-append (step graph u here) (step graph u others))) in
            omega (arith, e, few, cuts, blocks, cuts_length graph us c k spent, entering_length k all, entering_length k (of_finished spent));
      })

  elsewhere : (fs : List Finished) → entering_at 0 (created fs) ≡ []
  elsewhere [] = refl
  elsewhere (f ∷ fs) =
      entering_both 0 (next_of f) (created fs)
      ∙ ap (λ (v : List (List Row)). v ++ entering_at 0 (created fs)) (parcels_elsewhere f.of.shape (f.of.step + 1) 0 (other_number 0 (f.of.step + 1) (omega arith)).1 f.cut)
      ∙ elsewhere fs

  -- those of the first unit are the first ones
  first_at : entering_at 0 all ≡ first
  first_at =
      entering_both 0 (parcels c 0 first) (created spent) ∙ ap (λ (v : List (List Row)). v ++ entering_at 0 (created spent)) (parcels_at c 0 first) ∙ ap (λ (v : List (List Row)). first ++ v) (elsewhere spent) ∙ append-nil first

  begin : (rows : List Row) → AreCut rows c.block first → AreBatchesOf rows c.block (1 + length rows / c.block) (entering_at 0 all)
  begin rows cut = subst (AreBatchesOf rows c.block (1 + length rows / c.block)) (sym first_at) (batch_laws.cut rows c.block first positive cut)

  -- what enters each unit is of the rows that enter it by definition
  entered_from : (k : ℕ) (behind : List unit.Unit) (rows : List Row) (most : ℕ) → ((j : ℕ) → slice_get behind j ≡ slice_get us (k + j)) → k + length behind ≡ length us
      → (0 < length behind → AreBatchesOf rows c.block (most + length rows / c.block) (entering_at k all))
      → AreEntered graph c.block k most behind rows asked
  entered_from k [] rows most its long b = tt
  entered_from k (u ∷ behind) rows most its long b =
      let here = b (omega arith) in
      let none : k ≡ k + 0 = omega arith in
      let at : slice_get us k ≡ Some u = ap (slice_get us) none ∙ sym (its 0) in (
        among_at k rows (most + length rows / c.block) here,
        entered_from (k + 1) behind (step graph u rows) (most + length rows / c.block)
            (λ j. its (suc j) ∙ ap (slice_get us) (one_on k j))
            (omega (arith, long))
            (λ some. next_at k u at (omega (arith, units, long, some)) rows (most + length rows / c.block) here),
      )
    where
      one_on : (m j : ℕ) → m + suc j ≡ (m + 1) + j
      one_on m j = omega arith

  pub all_entered : (rows : List Row) → AreCut rows c.block first → AreEntered graph c.block 0 1 us rows asked
  all_entered rows cut = entered_from 0 us rows 1 (λ j. ap (slice_get us) (from_start j)) (omega arith) (λ some. begin rows cut)
    where
      from_start : (j : ℕ) → j ≡ 0 + j
      from_start j = omega arith

  -- those of a unit come of the finished ones of the unit before
  pub next_of_step : (k : ℕ) (u : unit.Unit) → slice_get us k ≡ Some u → k + 1 < c.units → (ps : List Parcel) → ((h : Parcel → ℕ) → sum_by h all ≡ sum_by h ps) → IsNextStep graph c.block k u spent ps
  next_of_step k u at more ps same =
      let cuts = all_cut graph us c k spent more (recursion_from_All (IsFinished c) spent fin) in
      let several = batch_laws.several c.block (cuts_at k spent) positive cuts in
      let found : List Row = flat_map (λ (d : Cut). d.0) (cuts_at k spent) in
      let here : List Row = step graph u (joined (entering_at k (of_finished spent))) in
      let batches : List (List Row) = flat_map (λ (d : Cut). d.1) (cuts_at k spent) in
      let made_here : (h : Row → ℕ) → sum_by h found ≡ sum_by h here = λ h. found_at graph us c h k u at spent (recursion_from_All (IsStepOf graph us) spent is) in
      let batches_are : entering_at (k + 1) all ≡ batches = batches_at k in
      let whole : joined batches ≡ found = rows_of_cuts c.block positive (cuts_at k spent) (recursion_from_All (λ (d : Cut). AreCut d.0 c.block d.1) (cuts_at k spent) cuts) in
      record {
        rows_are = rows_from (joined (entering_at (k + 1) ps)) here (λ h.
            let e = same (λ p. sum_by h (joined (at_step (k + 1) p))) in
            let there : sum_by h (joined (entering_at (k + 1) all)) ≡ sum_by h found = ap (λ (v : List (List Row)). sum_by h (joined v)) batches_are ∙ ap (sum_by h) whole in
            omega (arith, e, there, made_here h, entering_weight h (k + 1) all, entering_weight h (k + 1) ps));
        few =
            let e = same (λ p. length (at_step (k + 1) p)) in
            let long : length here ≡ length found = length_permutation found here (rows_from found here made_here) in
            let blocks : length found / c.block ≡ length here / c.block = ap (λ (n : ℕ). n / c.block) (sym long) in
            let count : length batches ≤ length (cuts_at k spent) + length found / c.block = several.few in
            let there : length (entering_at (k + 1) all) ≡ length batches = ap length batches_are in
            omega (arith, e, blocks, count, there, cuts_length graph us c k spent, entering_length (k + 1) all, entering_length (k + 1) ps);
      }

  pub first_of_all : (ps : List Parcel) → ((h : Parcel → ℕ) → sum_by h all ≡ sum_by h ps) → (h : List Row → ℕ) → sum_by h (entering_at 0 ps) ≡ sum_by h first
  first_of_all ps same h =
      sum_by-flat_map h (at_step 0) ps ∙ sym (same (λ p. sum_by h (at_step 0 p))) ∙ sym (sum_by-flat_map h (at_step 0) all) ∙ ap (sum_by h) first_at

  module _ (of_run : All (IsParcelOf c) tried) where
    asked_of_run : All (IsParcelOf c) asked
    asked_of_run = All-append (IsParcelOf c) (of_finished spent) tried (finished_of_run c spent fin) of_run

    asked_at : (k : ℕ) (rows : List Row) (most : ℕ) → AreBatchesOf rows c.block most (entering_at k all) → AreBatchesOf rows c.block most (entering_at k asked)
    asked_at k rows most b =
        let some_of = among_at k rows most b in
        record {
          unused = some_of.unused;
          of_rows = some_of.of_rows;
          sized = entering_sized c k asked (recursion_from_All (IsParcelOf c) asked asked_of_run);
          few = some_of.few;
        }

    run_from : (k : ℕ) (behind : List unit.Unit) (rows : List Row) (most : ℕ) → ((j : ℕ) → slice_get behind j ≡ slice_get us (k + j)) → k + length behind ≡ length us
        → (0 < length behind → AreBatchesOf rows c.block (most + length rows / c.block) (entering_at k all))
        → IsRunSent es graph c.block most behind rows (sent_in_turn es k behind asked)
    run_from k [] rows most its long b = refl
    run_from k (u ∷ behind) rows most its long b =
        let here = b (omega arith) in
        let none : k ≡ k + 0 = omega arith in
        let at : slice_get us k ≡ Some u = ap (slice_get us) none ∙ sym (its 0) in (
          batches_sent es u (entering_at k asked),
          sent_in_turn es (k + 1) behind asked,
          refl,
          record { batches = entering_at k asked; cut = asked_at k rows (most + length rows / c.block) here; texts = refl },
          run_from (k + 1) behind (step graph u rows) (most + length rows / c.block)
              (λ j. its (suc j) ∙ ap (slice_get us) (one_on k j))
              (omega (arith, long))
              (λ some. next_at k u at (omega (arith, units, long, some)) rows (most + length rows / c.block) here),
        )
      where
        one_on : (m j : ℕ) → m + suc j ≡ (m + 1) + j
        one_on m j = omega arith

    -- what was sent is what the run may send
    pub may_be_sent : (rows : List Row) → AreCut rows c.block first → IsRunSent es graph c.block 1 us rows (sent_in_turn es 0 us asked)
    may_be_sent rows cut = run_from 0 us rows 1 (λ j. ap (slice_get us) (none j)) (omega arith) (λ some. begin rows cut)
      where
        none : (j : ℕ) → j ≡ 0 + j
        none j = omega arith
