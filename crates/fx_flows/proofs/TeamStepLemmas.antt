-- What asking for the batches of a step by teams side by side leaves of wires, and that it is a run of the one unit.
use Rattle.std.proofs.Common.{◌≡◌, ◌∙◌, ap, sym, subst, refl, ℕ, ◌+◌, ◌<◌, ◌≤◌, Bool, List, [], ◌∷◌, ◌++◌, map, IfOk, IfErr, Result, Ok, Err, All, Contains, length, get_or, arith, append-nil, length-append, IsPermutation, Some, inl}
use Rattle.std.specs.declared.alloc.Global.{Global}
use Rattle.std.specs.declared.vec.Vec.{Vec}
use Rattle.std.proofs.lemmas.Grind.{flat_map-append}
use Rattle.std.proofs.lemmas.List.{map-append}
use Rattle.std.proofs.lemmas.List.Elements.{All-append, All-contains, All-weaker, recursion_from_All}
use Rattle.std.proofs.lemmas.List.Sorted.{IsPermutation-append, IsPermutation-refl}
use Rattle.fx_terms.specs.declared.triples.Triple.{Triple}
use Rattle.fx_terms.proofs.SetLemmas.{among_from, contains_from}
use Rattle.fx_outside.specs.Endpoints.{EndpointParts}
use Rattle.fx_algebra.specs.Graphs.{union}
use Rattle.fx_algebra.specs.Units.{row_step, step}
use Rattle.fx_algebra.specs.declared.units.Row.{Row}
use Rattle.fx_algebra.specs.declared.units.Unit as unit
use Rattle.fx_algebra.proofs.MemberLemmas.{among_flat_map}
use Rattle.fx_spelling.specs.Units.{IsSound}
use Rattle.fx_bound.specs.Parts.{Parts}
use Rattle.fx_steps.specs.Steps.{stepped}
use Rattle.fx_traffic.specs.Batches.{AreCut, IsSized, batches_sent, joined, unit_sent}
use Rattle.fx_traffic.specs.Gains.{AreAfter, IsMemberIn, TellOf}
use Rattle.fx_traffic.specs.Sent.{Sent, Sends}
use Rattle.fx_traffic.proofs.CutLemmas.{batch_laws}
use Rattle.fx_traffic.proofs.GainLemmas.{gain_laws}
use Rattle.fx_traffic.proofs.SentLemmas.{sent_laws}
use Rattle.fx_traffic.proofs.TextLemmas.{texts_of_batches}
use Rattle.fx_wire.specs.Exchanges.{Exchange, Seen}
use Rattle.fx_flows.specs.Flows.{IsBatchRead, IsReadFor, IsShort, rows_in}
use Rattle.fx_flows.specs.Followed.{AreOfBoth}
use Rattle.fx_flows.specs.RunFlows.{HasFlowCause, IsFlowCause, RunFlowed}
use Rattle.fx_flows.specs.Teams.{BatchAsked, HasAskedCause, HasStepCause, IsStepCause, StepAsked}
use Rattle.fx_flows.specs.declared.flows.FlowError.{FlowError}
use Rattle.fx_flows.specs.declared.flows.FlowError.TheVariants as flow
use Rattle.fx_pool.specs.Runs.{IsHonestOver}
use Rattle.fx_pool.proofs.BesideLemmas.{after_beside, back_all, front_all}
use Rattle.fx_flows.proofs.InPartLemmas.{in_part_together, in_part_wider, one_in_part}
use Rattle.fx_flows.proofs.FlowLemmas.{behind, in_front, told_back, told_fewer, told_front}
use Rattle.fx_flows.proofs.TeamLemmas.{asked_wider}

abbrev Made : Type 0
Made = Vec Row Global

-- ---- one batch

module _ (tells alone : Bool) (s t : List Seen) (es : List EndpointParts) (u : unit.Unit) (batch : List Row) where
  abbrev parts : Parts
  parts = record { unit = u; rows = batch }

  one_cause : (xs : List Exchange) (why : FlowError) → HasAskedCause s t es parts u.members xs why → HasStepCause s t es u (batch ∷ []) xs why
  one_cause xs (flow.Member at) k = record { batch = batch; among = contains_from (batch ∷ []) batch (inl refl); asked = k }
  one_cause xs (flow.BadReply at bad) k = record { batch = batch; among = contains_from (batch ∷ []) batch (inl refl); asked = k }
  one_cause xs (flow.RequestTooLong at size) k = record { batch = batch; among = contains_from (batch ∷ []) batch (inl refl); asked = k }
  one_cause xs flow.Memory k = tt

  pub step_of_one : (r : Result (List Row) FlowError) → 0 < length s → BatchAsked tells alone s t es parts r → StepAsked tells alone s t es u (batch ∷ []) r
  step_of_one r some h = record {
    exchanges = h.exchanges;
    gained = h.gained;
    honest = h.honest;
    after_all = h.after_all;
    failed = h.failed;
    few = h.few;
    unfailed = h.unfailed;
    counted = h.counted;
    left = h.left;
    sent = subst (λ (v : List Sent). Sends v h.left h.exchanges) (sym (append-nil (unit_sent es u batch))) h.sent;
    in_part = one_in_part es (length s) u batch h.left h.exchanges some h.sent;
    whole = h.whole;
    short = h.short;
    faultless = faultless r h.faultless;
    done = done r h.done;
    cause = cause r h.cause;
  }
    where
      faultless : (o : Result (List Row) FlowError) → IfOk o (λ _. All (IsReadFor parts) h.exchanges) → IfOk o (λ _. All (IsBatchRead (λ v. v ≡ u)) h.exchanges)
      faultless (Ok rows) k = All-weaker (IsReadFor parts) (IsBatchRead (λ v. v ≡ u)) (λ x read. record { unit = u; of_these = refl; batch = batch; read = read }) h.exchanges k
      faultless (Err why) k = tt

      done : (o : Result (List Row) FlowError) → IfOk o (λ rows. (graphs : List (List Triple)) → TellOf s es graphs (Contains u.members) → IsSound graphs u → IsPermutation rows (step (union graphs) u batch))
          → IfOk o (λ rows. (graphs : List (List Triple)) → TellOf s es graphs (Contains u.members) → IsSound graphs u → IsPermutation rows (step (union graphs) u (joined (batch ∷ []))))
      done (Ok rows) k = λ graphs told sound. subst (λ (v : List Row). IsPermutation rows (step (union graphs) u v)) (sym (append-nil batch)) (k graphs told sound)
      done (Err why) k = tt

      cause : (o : Result (List Row) FlowError) → IfErr o (HasAskedCause s t es parts u.members h.exchanges) → IfErr o (HasStepCause s t es u (batch ∷ []) h.exchanges)
      cause (Ok rows) k = tt
      cause (Err why) k = one_cause h.exchanges why k

-- ---- two halves of the wires and of the batches

abbrev HasRows : List EndpointParts → unit.Unit → List Seen → List (List Row) → List Row → Type 0
HasRows es u wires batches rows = (graphs : List (List Triple)) → TellOf wires es graphs (Contains u.members) → IsSound graphs u → IsPermutation rows (step (union graphs) u (joined batches))

module _ (tells alone : Bool) (es : List EndpointParts) (u : unit.Unit) (s t w v : List Seen) (first others : List (List Row)) where
  left_step : (xs ys : List Exchange) → AreAfter w v → (why : FlowError) → HasStepCause s t es u first xs why → HasStepCause (s ++ w) (t ++ v) es u (first ++ others) (xs ++ ys) why
  left_step xs ys after why k = by why k
    where
      its : (o : FlowError) → IsStepCause s t es u first xs o → IsStepCause (s ++ w) (t ++ v) es u (first ++ others) (xs ++ ys) o
      its o k = record {
        batch = k.batch;
        among = in_front first others k.batch k.among;
        asked = asked_wider s t (s ++ w) (t ++ v) es (record { unit = u; rows = k.batch }) u.members u.members xs (xs ++ ys)
            (λ address rose. omega (arith, rose, gain_laws.add_up s w address, gain_laws.add_up t v address, gain_laws.never_fall w v address after))
            (λ address g tell. front_all (λ (x : Seen). x.graph address ≡ Some g) s w tell)
            (λ at m. m)
            (λ x m. in_front xs ys x m) o k.asked;
      }

      by : (o : FlowError) → HasStepCause s t es u first xs o → HasStepCause (s ++ w) (t ++ v) es u (first ++ others) (xs ++ ys) o
      by (flow.Member at) k = its (flow.Member at) k
      by (flow.BadReply at bad) k = its (flow.BadReply at bad) k
      by (flow.RequestTooLong at size) k = its (flow.RequestTooLong at size) k
      by flow.Memory k = tt

  right_step : (xs ys : List Exchange) → AreAfter s t → (why : FlowError) → HasStepCause w v es u others ys why → HasStepCause (s ++ w) (t ++ v) es u (first ++ others) (xs ++ ys) why
  right_step xs ys after why k = by why k
    where
      its : (o : FlowError) → IsStepCause w v es u others ys o → IsStepCause (s ++ w) (t ++ v) es u (first ++ others) (xs ++ ys) o
      its o k = record {
        batch = k.batch;
        among = behind first others k.batch k.among;
        asked = asked_wider w v (s ++ w) (t ++ v) es (record { unit = u; rows = k.batch }) u.members u.members ys (xs ++ ys)
            (λ address rose. omega (arith, rose, gain_laws.add_up s w address, gain_laws.add_up t v address, gain_laws.never_fall s t address after))
            (λ address g tell. back_all (λ (x : Seen). x.graph address ≡ Some g) s w tell)
            (λ at m. m)
            (λ x m. behind xs ys x m) o k.asked;
      }

      by : (o : FlowError) → HasStepCause w v es u others ys o → HasStepCause (s ++ w) (t ++ v) es u (first ++ others) (xs ++ ys) o
      by (flow.Member at) k = its (flow.Member at) k
      by (flow.BadReply at bad) k = its (flow.BadReply at bad) k
      by (flow.RequestTooLong at size) k = its (flow.RequestTooLong at size) k
      by flow.Memory k = tt

  rows_of_both : (graph : List Triple) → step graph u (joined (first ++ others)) ≡ step graph u (joined first) ++ step graph u (joined others)
  rows_of_both graph = ap (step graph u) (flat_map-append (λ (b : List Row). b) first others) ∙ flat_map-append (row_step graph u) (joined first) (joined others)

  pub steps_beside : (a b o : Result Made FlowError) → AreOfBoth a b o → StepAsked tells alone s t es u first (rows_in a) → StepAsked tells alone w v es u others (rows_in b)
      → StepAsked tells alone (s ++ w) (t ++ v) es u (first ++ others) (rows_in o)
  steps_beside a b o both h k = record {
    exchanges = h.exchanges ++ k.exchanges;
    gained = λ told. gain_laws.beside s t w v h.exchanges k.exchanges (h.gained told) (k.gained told);
    honest =
        All-append (IsHonestOver (s ++ w)) h.exchanges k.exchanges
        (All-weaker (IsHonestOver s) (IsHonestOver (s ++ w)) (λ x honest graph tell. honest graph (front_all (λ (y : Seen). y.graph x.at.iri ≡ Some graph) s w tell)) h.exchanges h.honest)
        (All-weaker (IsHonestOver w) (IsHonestOver (s ++ w)) (λ x honest graph tell. honest graph (back_all (λ (y : Seen). y.graph x.at.iri ≡ Some graph) s w tell)) k.exchanges k.honest);
    after_all = after_beside s t w v h.after_all k.after_all;
    failed = h.failed + k.failed;
    few = (let one : h.failed ≤ length s = h.few in let two : k.failed ≤ length w = k.few in omega (arith, one, two, length-append s w));
    unfailed = unfailed a b o both h.unfailed k.unfailed;
    counted = λ is address. omega (arith, h.counted is address, k.counted is address, gain_laws.add_up s w address, gain_laws.add_up t v address);
    left = h.left ++ k.left;
    sent =
        subst (λ (l : List Sent). Sends l (h.left ++ k.left) (h.exchanges ++ k.exchanges)) (sym (flat_map-append (unit_sent es u) first others))
        (sent_laws.together (batches_sent es u first) h.left (batches_sent es u others) k.left h.exchanges k.exchanges h.sent k.sent);
    in_part =
        in_part_wider es (length s + length w) (length (s ++ w)) (batches_sent es u first ++ batches_sent es u others) (batches_sent es u (first ++ others)) (h.exchanges ++ k.exchanges) (h.exchanges ++ k.exchanges)
        (omega (arith, length-append s w))
        (subst (IsPermutation (batches_sent es u first ++ batches_sent es u others)) (sym (flat_map-append (unit_sent es u) first others)) (IsPermutation-refl (batches_sent es u first ++ batches_sent es u others)))
        (IsPermutation-refl (h.exchanges ++ k.exchanges))
        (in_part_together es (length s) (length w) (batches_sent es u first) (batches_sent es u others) h.exchanges k.exchanges h.in_part k.in_part);
    whole = whole a b o both h.whole k.whole;
    short = All-append IsShort h.exchanges k.exchanges h.short k.short;
    faultless = faultless a b o both h.faultless k.faultless;
    done = done a b o both h.done k.done;
    cause = cause a b o both h.cause k.cause;
  }
    where
      unfailed : (a b o : Result Made FlowError) → AreOfBoth a b o → IfOk (rows_in a) (λ _. h.failed ≡ 0) → IfOk (rows_in b) (λ _. k.failed ≡ 0) → IfOk (rows_in o) (λ _. h.failed + k.failed ≡ 0)
      unfailed (Ok x) (Ok y) (Ok all) is e f = let one : h.failed ≡ 0 = e in let two : k.failed ≡ 0 = f in omega (arith, one, two)
      unfailed (Ok x) (Ok y) (Err why) is e f = tt
      unfailed (Ok x) (Err why) o is e f = subst (λ (r : Result Made FlowError). IfOk (rows_in r) (λ _. h.failed + k.failed ≡ 0)) (sym is) tt
      unfailed (Err why) b o is e f = subst (λ (r : Result Made FlowError). IfOk (rows_in r) (λ _. h.failed + k.failed ≡ 0)) (sym is) tt

      whole : (a b o : Result Made FlowError) → AreOfBoth a b o → IfOk (rows_in a) (λ _. h.left ≡ []) → IfOk (rows_in b) (λ _. k.left ≡ []) → IfOk (rows_in o) (λ _. h.left ++ k.left ≡ [])
      whole (Ok x) (Ok y) (Ok all) is e f = ap (λ (l : List Sent). l ++ k.left) e ∙ f
      whole (Ok x) (Ok y) (Err why) is e f = tt
      whole (Ok x) (Err why) o is e f = subst (λ (r : Result Made FlowError). IfOk (rows_in r) (λ _. h.left ++ k.left ≡ [])) (sym is) tt
      whole (Err why) b o is e f = subst (λ (r : Result Made FlowError). IfOk (rows_in r) (λ _. h.left ++ k.left ≡ [])) (sym is) tt

      faultless : (a b o : Result Made FlowError) → AreOfBoth a b o → IfOk (rows_in a) (λ _. All (IsBatchRead (λ x. x ≡ u)) h.exchanges) → IfOk (rows_in b) (λ _. All (IsBatchRead (λ x. x ≡ u)) k.exchanges)
          → IfOk (rows_in o) (λ _. All (IsBatchRead (λ x. x ≡ u)) (h.exchanges ++ k.exchanges))
      faultless (Ok x) (Ok y) (Ok all) is e f = All-append (IsBatchRead (λ z. z ≡ u)) h.exchanges k.exchanges e f
      faultless (Ok x) (Ok y) (Err why) is e f = tt
      faultless (Ok x) (Err why) o is e f = subst (λ (r : Result Made FlowError). IfOk (rows_in r) (λ _. All (IsBatchRead (λ z. z ≡ u)) (h.exchanges ++ k.exchanges))) (sym is) tt
      faultless (Err why) b o is e f = subst (λ (r : Result Made FlowError). IfOk (rows_in r) (λ _. All (IsBatchRead (λ z. z ≡ u)) (h.exchanges ++ k.exchanges))) (sym is) tt

      done : (a b o : Result Made FlowError) → AreOfBoth a b o → IfOk (rows_in a) (HasRows es u s first) → IfOk (rows_in b) (HasRows es u w others) → IfOk (rows_in o) (HasRows es u (s ++ w) (first ++ others))
      done (Ok x) (Ok y) (Ok all) is e f = λ graphs told sound.
          subst (λ (l : List Row). IsPermutation l (step (union graphs) u (joined (first ++ others)))) (sym is)
          (subst (IsPermutation (x.items ++ y.items)) (sym (rows_of_both (union graphs)))
          (IsPermutation-append x.items (step (union graphs) u (joined first)) y.items (step (union graphs) u (joined others)) (e graphs (told_front s w es graphs (Contains u.members) told) sound) (f graphs (told_back s w es graphs (Contains u.members) told) sound)))
      done (Ok x) (Ok y) (Err why) is e f = tt
      done (Ok x) (Err why) o is e f = subst (λ (r : Result Made FlowError). IfOk (rows_in r) (HasRows es u (s ++ w) (first ++ others))) (sym is) tt
      done (Err why) b o is e f = subst (λ (r : Result Made FlowError). IfOk (rows_in r) (HasRows es u (s ++ w) (first ++ others))) (sym is) tt

      cause : (a b o : Result Made FlowError) → AreOfBoth a b o → IfErr (rows_in a) (HasStepCause s t es u first h.exchanges) → IfErr (rows_in b) (HasStepCause w v es u others k.exchanges)
          → IfErr (rows_in o) (HasStepCause (s ++ w) (t ++ v) es u (first ++ others) (h.exchanges ++ k.exchanges))
      cause (Ok x) (Ok y) (Ok all) is e f = tt
      cause (Ok x) (Ok y) (Err why) is e f = subst (HasStepCause (s ++ w) (t ++ v) es u (first ++ others) (h.exchanges ++ k.exchanges)) (sym is) tt
      cause (Ok x) (Err why) o is e f = subst (λ (r : Result Made FlowError). IfErr (rows_in r) (HasStepCause (s ++ w) (t ++ v) es u (first ++ others) (h.exchanges ++ k.exchanges))) (sym is) (right_step h.exchanges k.exchanges h.after_all why f)
      cause (Err why) b o is e f = subst (λ (r : Result Made FlowError). IfErr (rows_in r) (HasStepCause (s ++ w) (t ++ v) es u (first ++ others) (h.exchanges ++ k.exchanges))) (sym is) (left_step h.exchanges k.exchanges k.after_all why e)

pub both_steps : {W : Type 0} (see : W → Seen) (tells alone : Bool) (es : List EndpointParts) (u : unit.Unit) (whole ws vs xs ys : List W) (batches first others : List (List Row)) (a b o : Result Made FlowError)
    → whole ≡ ws ++ xs → batches ≡ first ++ others
    → StepAsked tells alone (map see ws) (map see vs) es u first (rows_in a) → StepAsked tells alone (map see xs) (map see ys) es u others (rows_in b) → AreOfBoth a b o
    → StepAsked tells alone (map see whole) (map see (vs ++ ys)) es u batches (rows_in o)
both_steps see tells alone es u whole ws vs xs ys batches first others a b o parts cut h k both =
    let before : map see whole ≡ map see ws ++ map see xs = ap (map see) parts ∙ map-append see ws xs in
    let after : map see (vs ++ ys) ≡ map see vs ++ map see ys = map-append see vs ys in
    subst (λ (l : List Seen). StepAsked tells alone l (map see (vs ++ ys)) es u batches (rows_in o)) (sym before)
    (subst (λ (l : List Seen). StepAsked tells alone (map see ws ++ map see xs) l es u batches (rows_in o)) (sym after)
    (subst (λ (l : List (List Row)). StepAsked tells alone (map see ws ++ map see xs) (map see vs ++ map see ys) es u l (rows_in o)) (sym cut)
    (steps_beside tells alone es u (map see ws) (map see vs) (map see xs) (map see ys) first others a b o both h k)))

-- ---- a run of the one unit

pub step_flowed : (tells alone : Bool) (s t : List Seen) (es : List EndpointParts) (u : unit.Unit) (block : ℕ) (rows : List Row) (batches : List (List Row)) (r : Result (List Row) FlowError)
    → 0 < block → AreCut rows block batches → StepAsked tells alone s t es u batches r → RunFlowed tells alone s t es (u ∷ []) block rows r
step_flowed tells alone s t es u block rows batches r some cut h = record {
  exchanges = h.exchanges;
  gained = h.gained;
  honest = h.honest;
  after_all = h.after_all;
  failed = h.failed;
  few = h.few;
  unfailed = h.unfailed;
  counted = h.counted;
  wanted = batches_sent es u batches;
  left = h.left;
  sent = h.sent;
  in_part = h.in_part;
  of_batches = texts_of_batches es block (Contains (u ∷ [])) u its batches cut.sized;
  whole = h.whole;
  short = h.short;
  faultless = faultless r h.faultless;
  of_run = λ graphs told sound. (batches_sent es u batches, [], sym (append-nil (batches_sent es u batches)), record { batches = batches; cut = batch_laws.cut rows block batches some cut; texts = refl }, refl);
  done = done r h.done;
  cause = cause r h.cause;
}
  where
    its : Contains (u ∷ []) u
    its = contains_from (u ∷ []) u (inl refl)

    faultless : (o : Result (List Row) FlowError) → IfOk o (λ _. All (IsBatchRead (λ v. v ≡ u)) h.exchanges) → IfOk o (λ _. All (IsBatchRead (Contains (u ∷ []))) h.exchanges)
    faultless (Ok next) k =
        All-weaker (IsBatchRead (λ v. v ≡ u)) (IsBatchRead (Contains (u ∷ []))) (λ x b. record { unit = b.unit; of_these = contains_from (u ∷ []) b.unit (inl (sym b.of_these)); batch = b.batch; read = b.read }) h.exchanges k
    faultless (Err why) k = tt

    done : (o : Result (List Row) FlowError) → IfOk o (HasRows es u s batches) → IfOk o (λ next. (graphs : List (List Triple)) → TellOf s es graphs (IsMemberIn (u ∷ [])) → All (IsSound graphs) (u ∷ []) → IsPermutation next (stepped (union graphs) (u ∷ []) rows))
    done (Ok next) k = λ graphs told sound.
        subst (λ (l : List Row). IsPermutation next (step (union graphs) u l)) cut.of_rows (k graphs (told_fewer s es graphs (IsMemberIn (u ∷ [])) (Contains u.members) (λ at m. (u, its, m)) told) (recursion_from_All (IsSound graphs) (u ∷ []) sound).0)
    done (Err why) k = tt

    of_batch : (o : FlowError) → IsStepCause s t es u batches h.exchanges o → IsFlowCause s t es (u ∷ []) block (batches_sent es u batches) h.exchanges o
    of_batch o k = record {
      unit = u;
      of_run = its;
      batch = k.batch;
      sized = All-contains (IsSized block) batches k.batch cut.sized k.among;
      allowed = λ x m. contains_from (batches_sent es u batches) x (among_flat_map (unit_sent es u) k.batch x batches (among_from batches k.batch k.among) (among_from (unit_sent es u k.batch) x m));
      at = k.asked.at;
      member = k.asked.member;
      endpoint = k.asked.endpoint;
      found = k.asked.found;
      named = k.asked.named;
      cause = k.asked.cause;
    }

    has : (o : FlowError) → HasStepCause s t es u batches h.exchanges o → HasFlowCause s t es (u ∷ []) block (batches_sent es u batches) h.exchanges o
    has (flow.Member at) k = of_batch (flow.Member at) k
    has (flow.BadReply at bad) k = of_batch (flow.BadReply at bad) k
    has (flow.RequestTooLong at size) k = of_batch (flow.RequestTooLong at size) k
    has flow.Memory k = tt

    cause : (o : Result (List Row) FlowError) → IfErr o (HasStepCause s t es u batches h.exchanges) → IfErr o (HasFlowCause s t es (u ∷ []) block (batches_sent es u batches) h.exchanges)
    cause (Ok next) k = tt
    cause (Err why) k = has why k

-- there is one batch
pub step_of_only : (tells alone : Bool) (s t : List Seen) (es : List EndpointParts) (u : unit.Unit) (batches : List (List Row)) (x y : List Row) (r : Result (List Row) FlowError)
    → 0 < length s → 0 < length batches → length batches < 2 → x ≡ get_or batches 0 x → y ≡ x → BatchAsked tells alone s t es (record { unit = u; rows = y }) r → StepAsked tells alone s t es u batches r
step_of_only tells alone s t es u [] x y r wired some few is same h = absurd (omega (arith, some))
step_of_only tells alone s t es u (b ∷ []) x y r wired some few is same h = step_of_one tells alone s t es u b r wired (subst (λ (v : List Row). BatchAsked tells alone s t es (record { unit = u; rows = v }) r) (same ∙ is) h)
step_of_only tells alone s t es u (b ∷ c ∷ batches) x y r wired some few is same h = absurd (omega (arith, few))
