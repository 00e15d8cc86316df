-- Rows that are cut are batches of these rows, and a step of batches is the step of their rows.
use Rattle.std.proofs.Common.{◌≡◌, ◌∙◌, ap, sym, subst, refl, ℕ, zero, suc, ◌+◌, ◌*◌, ◌/◌, ◌<◌, ◌≤◌, List, [], ◌∷◌, ◌++◌, length, All, arith, IsPermutation, sum_by, append-nil, div-mul-le_self, length-append, suc-mul, add-mul, zero-le}
use Rattle.std.specs.List.{AllByRecursion, flat_map}
use Rattle.std.specs.Cmp.{IsTotalOrder}
use Rattle.std.specs.declared.cmp.Ordering.{Ordering}
use Rattle.std.specs.declared.cmp.Ordering.TheVariants.{Less, Equal, Greater}
use Rattle.std.specs.Ordering.{nat_cmp, ordering_then, then_cmp}
use Rattle.std.proofs.lemmas.Cmp.{nat_cmp_total, on_total, then_total}
use Rattle.std.proofs.lemmas.Grind.{flat_map-append}
use Rattle.std.proofs.lemmas.List.Elements.{All-append, All-from_recursion, recursion_from_All}
use Rattle.std.proofs.lemmas.List.Sorted.{IsPermutation-refl, IsPermutation-trans, length_permutation}
use Rattle.std.proofs.lemmas.Map.Lookups.{exact_unsigned}
use Rattle.std.proofs.lemmas.Nat.{le-div}
use Rattle.fx_terms.specs.declared.triples.Triple.{Triple}
use Rattle.fx_outside.specs.Endpoints.{EndpointParts}
use Rattle.fx_algebra.specs.Solutions.{solution_cmp, solutions_total}
use Rattle.fx_algebra.specs.Units.{row_step, step}
use Rattle.fx_algebra.specs.declared.units.Row.{Row}
use Rattle.fx_algebra.specs.declared.units.Unit as unit
use Rattle.fx_algebra.proofs.JoinLemmas.{exact_solutions}
use Rattle.fx_algebra.proofs.WeightLemmas.{permutation_from, sum_by-flat_map, weights_from}
use Rattle.fx_traffic.specs.Sent.{Sent}
use Rattle.fx_traffic.specs.Batches.{AreCut, BatchLaws, CutsAreBatches, CutsOfSeveral, IsRunSent, IsStepSent, IsSized, MoreMayBe, NothingOfARun, RunInAnyOrder, StepInAnyOrder, StepOfBatches, joined}

-- ---- cuts

-- as few as the rows' number allows are no more than one for each whole block and one
few_pieces : (n block pieces : ℕ) → 0 < block → pieces * block < n + block → pieces ≤ 1 + n / block
few_pieces n block zero positive h = zero-le
few_pieces n block (suc pieces) positive h =
    let whole : pieces * block ≤ n = omega (arith, h, suc-mul pieces block) in
    let some : pieces ≤ n / block = le-div pieces n block positive whole in
    omega (arith, some)

-- whole blocks of two numbers are whole blocks of their sum
blocks_of_both : (m n block : ℕ) → 0 < block → m / block + n / block ≤ (m + n) / block
blocks_of_both m n block positive =
    le-div (m / block + n / block) (m + n) block positive
    (let one : m / block * block ≤ m = div-mul-le_self m block in
    let other : n / block * block ≤ n = div-mul-le_self n block in
    omega (arith, one, other, add-mul (m / block) (n / block) block))

cuts_are_batches : CutsAreBatches
cuts_are_batches rows block batches positive cut = record {
  unused = [];
  of_rows = subst (λ (v : List Row). IsPermutation v rows) (sym (append-nil (joined batches) ∙ cut.of_rows)) (IsPermutation-refl rows);
  sized = cut.sized;
  few = few_pieces (length rows) block (length batches) positive cut.few;
}

rows_of : List (List Row × List (List Row)) → List Row
rows_of cuts = flat_map (λ c. c.0) cuts

batches_of : List (List Row × List (List Row)) → List (List Row)
batches_of cuts = flat_map (λ c. c.1) cuts

module _ (block : ℕ) (positive : 0 < block) where
  joined_cuts : (cuts : List (List Row × List (List Row))) → AllByRecursion (λ c. AreCut c.0 block c.1) cuts → joined (batches_of cuts) ≡ rows_of cuts
  unfolding rows_of batches_of
  joined_cuts [] h = refl
  joined_cuts (c ∷ cuts) h =
      flat_map-append (λ (list : List Row). list) c.1 (batches_of cuts)
      ∙ ap (λ (v : List Row). v ++ joined (batches_of cuts)) h.0.of_rows
      ∙ ap (λ (v : List Row). c.0 ++ v) (joined_cuts cuts h.1)

  sized_cuts : (cuts : List (List Row × List (List Row))) → AllByRecursion (λ c. AreCut c.0 block c.1) cuts → All (IsSized block) (batches_of cuts)
  unfolding rows_of batches_of
  sized_cuts [] h = All-from_recursion (IsSized block) [] tt
  sized_cuts (c ∷ cuts) h = All-append (IsSized block) c.1 (batches_of cuts) h.0.sized (sized_cuts cuts h.1)

  few_cuts : (cuts : List (List Row × List (List Row))) → AllByRecursion (λ c. AreCut c.0 block c.1) cuts → length (batches_of cuts) ≤ length cuts + length (rows_of cuts) / block
  unfolding rows_of batches_of
  few_cuts [] h = zero-le
  few_cuts (c ∷ cuts) h =
      let here : length c.1 ≤ 1 + length c.0 / block = few_pieces (length c.0) block (length c.1) positive h.0.few in
      let rest : length (batches_of cuts) ≤ length cuts + length (rows_of cuts) / block = few_cuts cuts h.1 in
      let both : length c.0 / block + length (rows_of cuts) / block ≤ (length c.0 + length (rows_of cuts)) / block = blocks_of_both (length c.0) (length (rows_of cuts)) block positive in
      let long : length (c.0 ++ rows_of cuts) / block ≡ (length c.0 + length (rows_of cuts)) / block = ap (λ (n : ℕ). n / block) (length-append c.0 (rows_of cuts)) in
      omega (arith, here, rest, both, long, length-append c.1 (batches_of cuts))

-- the batches of cuts have their rows
pub rows_of_cuts : (block : ℕ) → 0 < block → (cuts : List (List Row × List (List Row))) → AllByRecursion (λ (c : List Row × List (List Row)). AreCut c.0 block c.1) cuts
    → joined (flat_map (λ (c : List Row × List (List Row)). c.1) cuts) ≡ flat_map (λ (c : List Row × List (List Row)). c.0) cuts
unfolding rows_of batches_of
rows_of_cuts block positive cuts h = joined_cuts block positive cuts h

cuts_of_several : CutsOfSeveral
unfolding rows_of batches_of
cuts_of_several block cuts positive all =
    let each = recursion_from_All (λ (c : List Row × List (List Row)). AreCut c.0 block c.1) cuts all in
    record {
      unused = [];
      of_rows = subst (λ (v : List Row). IsPermutation v (rows_of cuts)) (sym (append-nil (joined (batches_of cuts)) ∙ joined_cuts block positive cuts each)) (IsPermutation-refl (rows_of cuts));
      sized = sized_cuts block positive cuts each;
      few = few_cuts block positive cuts each;
    }

more_may_be : MoreMayBe
more_may_be rows block most more batches le h = record {
  unused = h.unused;
  of_rows = h.of_rows;
  sized = h.sized;
  few = let few : length batches ≤ most = h.few in omega (arith, le, few);
}

-- ---- a step

step_of_batches : StepOfBatches
step_of_batches graph u [] = refl
step_of_batches graph u (b ∷ batches) = ap (λ (v : List Row). step graph u b ++ v) (step_of_batches graph u batches) ∙ sym (flat_map-append (row_step graph u) b (joined batches))

-- rows by their numbers, and then by their solutions
abbrev row_cmp : Row → Row → Ordering
row_cmp = then_cmp (λ (a b : Row). nat_cmp a.origin b.origin) (λ (a b : Row). solution_cmp a.solution b.solution)

rows_total : IsTotalOrder row_cmp
rows_total = then_total (on_total (λ (r : Row). r.origin) nat_cmp_total) (on_total (λ (r : Row). r.solution) solutions_total)

both_equal : (o p : Ordering) → ordering_then o p ≡ Equal → (o ≡ Equal) × (p ≡ Equal)
both_equal Less p e = cc
both_equal Equal p e = (refl, e)
both_equal Greater p e = cc

exact_rows : (a b : Row) → row_cmp a b ≡ Equal → a ≡ b
exact_rows a b e =
    let both = both_equal (nat_cmp a.origin b.origin) (solution_cmp a.solution b.solution) e in
    let origins : a.origin ≡ b.origin = exact_unsigned a.origin b.origin both.0 in
    let solutions = exact_solutions a.solution b.solution both.1 in
    λ i. record { origin = origins i; solution = solutions i }

-- rows that every weight finds the same are the same in some order
pub rows_from : (rows others : List Row) → ((h : Row → ℕ) → sum_by h rows ≡ sum_by h others) → IsPermutation rows others
rows_from rows others same = permutation_from row_cmp rows_total exact_rows rows others same

step_in_any_order : StepInAnyOrder
step_in_any_order graph u rows others same =
    rows_from (step graph u rows) (step graph u others)
    (λ h. sum_by-flat_map h (row_step graph u) rows ∙ weights_from rows others same (λ r. sum_by h (row_step graph u r)) ∙ sym (sum_by-flat_map h (row_step graph u) others))

-- ---- a run

pub step_sent_any_order : (endpoints : List EndpointParts) (u : unit.Unit) (rows others : List Row) (block most more : ℕ) (wanted : List Sent) → most ≡ more → IsPermutation rows others
    → IsStepSent endpoints u rows block most wanted → IsStepSent endpoints u others block more wanted
step_sent_any_order endpoints u rows others block most more wanted same moved h = record {
  batches = h.batches;
  cut = record {
    unused = h.cut.unused;
    of_rows = IsPermutation-trans (joined h.batches ++ h.cut.unused) rows others h.cut.of_rows moved;
    sized = h.cut.sized;
    few = subst (λ (n : ℕ). length h.batches ≤ n) same h.cut.few;
  };
  texts = h.texts;
}

run_from_any_order : (endpoints : List EndpointParts) (graph : List Triple) (block most more : ℕ) (us : List unit.Unit) (rows others : List Row) (wanted : List Sent) → most ≡ more → IsPermutation rows others
    → IsRunSent endpoints graph block most us rows wanted → IsRunSent endpoints graph block more us others wanted
run_from_any_order endpoints graph block most more [] rows others wanted same moved h = h
run_from_any_order endpoints graph block most more (u ∷ us) rows others wanted same moved h =
    let long : length others ≡ length rows = length_permutation rows others moved in
    let next : most + length rows / block ≡ more + length others / block = ap (λ (n : ℕ). n + length rows / block) same ∙ ap (λ (n : ℕ). more + n / block) (sym long) in (
      h.0,
      h.1,
      h.2,
      step_sent_any_order endpoints u rows others block (most + length rows / block) (more + length others / block) h.0 next moved h.3,
      run_from_any_order endpoints graph block (most + length rows / block) (more + length others / block) us (step graph u rows) (step graph u others) h.1 next (step_in_any_order graph u rows others moved) h.4,
    )

run_in_any_order : RunInAnyOrder
run_in_any_order endpoints graph block most us rows others wanted moved h = run_from_any_order endpoints graph block most most us rows others wanted refl moved h

nothing_allowed : NothingOfARun
nothing_allowed endpoints graph block most [] rows = refl
nothing_allowed endpoints graph block most (u ∷ us) rows = (
  [],
  [],
  refl,
  record { batches = []; cut = record { unused = rows; of_rows = IsPermutation-refl rows; sized = All-from_recursion (IsSized block) [] tt; few = zero-le }; texts = refl },
  nothing_allowed endpoints graph block (most + length rows / block) us (step graph u rows),
)

pub batch_laws : BatchLaws
batch_laws = record { cut = cuts_are_batches; several = cuts_of_several; step = step_of_batches; any_order = step_in_any_order; run_in_any_order = run_in_any_order; more = more_may_be; nothing = nothing_allowed }
