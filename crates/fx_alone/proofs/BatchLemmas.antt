-- Rows asked for batch after batch, and a batch over the first of several wires.
use Rattle.std.proofs.Common.{◌≡◌, ◌∙◌, ap, sym, subst, refl, ℕ, zero, suc, ◌+◌, ◌-◌, ◌*◌, ◌<◌, ◌≤◌, Bool, List, [], ◌∷◌, ◌++◌, map, take, drop, take-append-drop, Some, IfOk, IfErr, IsTrue, Result, Ok, Err, Contains, length, min, get_or, slice_set, arith, append-nil, length-append, add-mul, one-mul, IsPermutation}
use Rattle.std.proofs.lemmas.List.{length-drop, length-take}
use Rattle.std.proofs.lemmas.List.Elements.{All-from_recursion, All-nil, recursion_from_All}
use Rattle.std.proofs.lemmas.List.Sums.{sum_by-cons}
use Rattle.fx_terms.specs.declared.triples.Triple.{Triple}
use Rattle.fx_outside.specs.Endpoints.{EndpointParts}
use Rattle.fx_algebra.specs.Graphs.{union}
use Rattle.fx_algebra.specs.Units.{graph_of, step}
use Rattle.fx_algebra.specs.declared.units.Row.{Row}
use Rattle.fx_spelling.specs.Units.{IsSound}
use Rattle.fx_bound.specs.Parts.{Parts}
use Rattle.fx_traffic.specs.Batches.{AreCut, IsSized, joined}
use Rattle.fx_traffic.specs.Gains.{Tell, TellOf, faults_at}
use Rattle.fx_traffic.proofs.GainLemmas.{gain_laws}
use Rattle.fx_wire.specs.Exchanges.{Exchange, Seen}
use Rattle.fx_flows.specs.Flows.{AreTold, AskedBatch, HasMemberCause, IsBatchCause, IsCause, IsMemberCause}
use Rattle.fx_flows.specs.Teams.{BatchAsked, HasAskedCause, IsAskedCause}
use Rattle.fx_flows.specs.declared.flows.FlowError.{FlowError}
use Rattle.fx_flows.specs.declared.flows.FlowError.TheVariants as flow
use Rattle.fx_pool.specs.Posting.{IsHonestAt}
use Rattle.fx_pool.specs.Runs.{IsHonestOver}
use Rattle.fx_pool.proofs.WireLemmas.{after_itself, honest_over}

-- ---- rows cut into batches

module _ (block : ℕ) (some : 0 < block) where
  -- nothing is cut into no batch
  pub cut_none : (rows : List Row) → rows ≡ [] → AreCut rows block []
  cut_none rows none = record { of_rows = sym none; sized = All-nil (IsSized block); few = omega (arith, some) }

  no_batch : (batches : List (List Row)) → AreCut [] block batches → batches ≡ []
  no_batch [] cut = refl
  no_batch (b ∷ batches) cut =
      let sized = (recursion_from_All (IsSized block) (b ∷ batches) cut.sized).0 in
      let long : 0 < length b = sized.0 in
      let none : length (b ++ joined batches) ≡ 0 = ap length cut.of_rows in
      absurd (omega (arith, long, none, length-append b (joined batches)))

  one_more_long : (n : ℕ) → (n + 1) * block ≡ n * block + block
  one_more_long n = add-mul n 1 block ∙ ap (λ (m : ℕ). n * block + m) (one-mul block)

  few_more : (batch others : List Row) (batches : List (List Row)) → 0 < length batch → (0 < length others → length batch ≡ block) → AreCut others block batches → (length batches + 1) * block < (length batch + length others) + block
  few_more batch [] batches long full cut =
      let none : length batches ≡ 0 = ap length (no_batch batches cut) in
      let few : length batches * block ≡ 0 * block = ap (λ (n : ℕ). n * block) none in
      omega (arith, few, long, one_more_long (length batches))
  few_more batch (r ∷ others) batches long full cut =
      let whole : length batch ≡ block = full (omega arith) in
      let few = cut.few in
      omega (arith, few, whole, one_more_long (length batches))

  -- a batch before the others: it is full, unless there are none
  pub cut_more : (rows batch others : List Row) (batches : List (List Row)) → rows ≡ batch ++ others → IsSized block batch → (0 < length others → length batch ≡ block) → AreCut others block batches → AreCut rows block (batch ∷ batches)
  cut_more rows batch others batches whole sized full cut = record {
    of_rows = ap (λ (l : List Row). batch ++ l) cut.of_rows ∙ sym whole;
    sized = All-from_recursion (IsSized block) (batch ∷ batches) (sized, recursion_from_All (IsSized block) batches cut.sized);
    few = (
        let all : length rows ≡ length batch + length others = ap length whole ∙ length-append batch others in
        let few = few_more batch others batches sized.0 full cut in
        let so : length (batch ∷ batches) * block ≡ (length batches + 1) * block = ap (λ (n : ℕ). n * block) (omega arith) in
        omega (arith, all, few, so)
        );
  }

  cut_within : (fuel : ℕ) (rows : List Row) → length rows ≤ fuel → (batches : List (List Row)) × AreCut rows block batches
  cut_within fuel [] le = ([], cut_none [] refl)
  cut_within zero (r ∷ rows) le = absurd (omega (arith, le))
  cut_within (suc fuel) (r ∷ rows) le =
      let first : length (take block (r ∷ rows)) ≡ min block (length (r ∷ rows)) = length-take block (r ∷ rows) in
      let others : length (drop block (r ∷ rows)) ≡ length (r ∷ rows) - block = length-drop block (r ∷ rows) in
      let rest = cut_within fuel (drop block (r ∷ rows)) (omega (arith, others, le, some)) in (
        take block (r ∷ rows) ∷ rest.0,
        cut_more (r ∷ rows) (take block (r ∷ rows)) (drop block (r ∷ rows)) rest.0 (sym (take-append-drop block (r ∷ rows))) (omega (arith, first, some), omega (arith, first)) (λ more. omega (arith, first, others, more)) rest.1,
      )

  -- rows can be cut
  pub cut_of : (rows : List Row) → (batches : List (List Row)) × AreCut rows block batches
  cut_of rows = cut_within (length rows) rows (omega arith)

-- ---- the first of several wires

module _ (tells alone : Bool) (w t : Seen) (others : List Seen) (es : List EndpointParts) (p : Parts) where
  first_tells : (address : List ℕ) (g : List Triple) → Tell (w ∷ others) address g → w.graph address ≡ Some g
  first_tells address g told = (recursion_from_All (λ (s : Seen). s.graph address ≡ Some g) (w ∷ others) told).0

  first_told : (graphs : List (List Triple)) → TellOf (w ∷ others) es graphs (Contains p.unit.members) → AreTold w.graph es graphs (Contains p.unit.members)
  first_told graphs told = λ at e of found. first_tells e.iri (graph_of graphs at) (told at e of found)

  counts : (first : Seen) (address : List ℕ) → faults_at (first ∷ others) address ≡ first.faults address + faults_at others address
  counts first address = sum_by-cons (λ (s : Seen). s.faults address) first others

  over : (e : EndpointParts) (xs : List Exchange) (why : FlowError) → IsBatchCause w t e p xs why → IsCause (faults_at (w ∷ others) e.iri < faults_at (t ∷ others) e.iri) (Tell (w ∷ others) e.iri) e p xs why
  over e xs (flow.Member at) k = let rose : w.faults e.iri < t.faults e.iri = k in omega (arith, rose, counts w e.iri, counts t e.iri)
  over e xs (flow.BadReply at bad) k = record {
    of_kind = k.of_kind;
    text = k.text;
    of_batch = k.of_batch;
    posts = k.posts;
    exchanged_so = k.exchanged_so;
    fault = k.fault;
    long = λ g told. k.long g (first_tells e.iri g told);
  }
  over e xs (flow.RequestTooLong at size) k = k
  over e xs flow.Memory k = tt

  its : (xs : List Exchange) (why : FlowError) → IsMemberCause w t es p p.unit.members xs why → IsAskedCause (w ∷ others) (t ∷ others) es p p.unit.members xs why
  its xs why k = record { at = k.at; member = k.member; endpoint = k.endpoint; found = k.found; named = k.named; cause = over k.endpoint xs why k.cause }

  first_cause : (xs : List Exchange) (why : FlowError) → HasMemberCause w t es p p.unit.members xs why → HasAskedCause (w ∷ others) (t ∷ others) es p p.unit.members xs why
  first_cause xs (flow.Member at) k = its xs (flow.Member at) k
  first_cause xs (flow.BadReply at bad) k = its xs (flow.BadReply at bad) k
  first_cause xs (flow.RequestTooLong at size) k = its xs (flow.RequestTooLong at size) k
  first_cause xs flow.Memory k = tt

  batch_over : (r : Result (List Row) FlowError) → w.tells_log ≡ tells → AskedBatch alone w t es p r → BatchAsked tells alone (w ∷ others) (t ∷ others) es p r
  batch_over r same h = record {
    exchanges = h.exchanges;
    gained = λ told. (h.exchanges, [], sym (append-nil h.exchanges), h.passed.logged (subst IsTrue (sym same) told), gain_laws.nothing others);
    honest = All-from_recursion (IsHonestOver (w ∷ others)) h.exchanges (honest_over w others h.exchanges (recursion_from_All (IsHonestAt w.graph) h.exchanges h.passed.honest));
    after_all = (record { logged = λ told. (h.exchanges, h.passed.logged told); same = h.passed.same; kept = h.passed.kept }, after_itself others);
    failed = h.failed;
    few = (let one : h.failed ≤ 1 = h.once in omega (arith, one));
    unfailed = h.unfailed;
    counted = λ is address. let few : t.faults address ≤ w.faults address + h.failed = h.passed.counted is address in omega (arith, few, counts w address, counts t address);
    left = h.left;
    sent = h.sent;
    whole = h.whole;
    short = h.short;
    faultless = h.faultless;
    done = done r h.done;
    cause = cause r h.cause;
  }
    where
      done : (o : Result (List Row) FlowError) → IfOk o (λ rows. (graphs : List (List Triple)) → AreTold w.graph es graphs (Contains p.unit.members) → IsSound graphs p.unit → IsPermutation rows (step (union graphs) p.unit p.rows))
          → IfOk o (λ rows. (graphs : List (List Triple)) → TellOf (w ∷ others) es graphs (Contains p.unit.members) → IsSound graphs p.unit → IsPermutation rows (step (union graphs) p.unit p.rows))
      done (Ok rows) k = λ graphs told sound. k graphs (first_told graphs told) sound
      done (Err why) k = tt

      cause : (o : Result (List Row) FlowError) → IfErr o (HasMemberCause w t es p p.unit.members h.exchanges) → IfErr o (HasAskedCause (w ∷ others) (t ∷ others) es p p.unit.members h.exchanges)
      cause (Ok rows) k = tt
      cause (Err why) k = first_cause h.exchanges why k

-- it was asked for a batch
pub first_batch : {W : Type 0} (see : W → Seen) (tells alone : Bool) (wires : List W) (x new : W) (es : List EndpointParts) (p : Parts) (r : Result (List Row) FlowError)
    → ((w : W) → (see w).tells_log ≡ tells) → 0 < length wires → AskedBatch alone (see (get_or wires 0 x)) (see new) es p r → BatchAsked tells alone (map see wires) (map see (slice_set wires 0 new)) es p r
first_batch see tells alone [] x new es p r same some h = absurd (omega (arith, some))
first_batch see tells alone (w ∷ others) x new es p r same some h = batch_over tells alone (see w) (see new) (map see others) es p r (same w) h
