-- What one worker did, parcel after parcel.
use Rattle.std.proofs.Common.{◌≡◌, ◌∙◌, ap, sym, subst, refl, ℕ, ◌+◌, ◌<◌, ◌≤◌, Bool, List, [], ◌∷◌, ◌++◌, Option, Some, None, Result, Ok, Err, All, Contains, IsPermutation, map, length, slice_get, sum_by, arith, append-nil, append_assoc, inl, inr}
use Rattle.std.specs.declared.alloc.Global.{Global}
use Rattle.std.specs.declared.vec.Vec.{Vec}
use Rattle.std.proofs.lemmas.Grind.{flat_map-append}
use Rattle.std.proofs.lemmas.List.{map-append}
use Rattle.std.proofs.lemmas.List.Elements.{All-append, All-contains, All-from_recursion, All-nil, All-weaker, recursion_from_All}
use Rattle.std.proofs.lemmas.List.Sorted.{IsPermutation-refl, length_permutation}
use Rattle.std.proofs.lemmas.List.Sums.{sum_by-append, sum_by-cons, sum_by_push}
use Rattle.fx_terms.specs.declared.allocation.Memory.{Memory}
use Rattle.fx_terms.specs.declared.triples.Triple.{Triple}
use Rattle.fx_outside.specs.Endpoints.{EndpointParts}
use Rattle.fx_terms.proofs.SetLemmas.{contains_from}
use Rattle.fx_algebra.specs.Graphs.{union}
use Rattle.fx_algebra.specs.Units.{step}
use Rattle.fx_algebra.specs.declared.units.Row.{Row}
use Rattle.fx_algebra.specs.declared.units.Unit as unit
use Rattle.fx_spelling.specs.Units.{IsSound}
use Rattle.fx_traffic.specs.Batches.{AreCut}
use Rattle.fx_traffic.specs.Gains.{IsMemberIn}
use Rattle.fx_traffic.specs.Sent.{Sent, Sends, sent_of}
use Rattle.fx_traffic.proofs.SentLemmas.{sent_laws}
use Rattle.fx_wire.specs.Exchanges.{Exchange, Seen}
use Rattle.fx_flows.specs.Flows.{AreTold, AskedBatch, HasMemberCause, IsBatchRead, IsReadFor, IsShort, Passed}
use Rattle.fx_flows.specs.Followed.{Followed, HasFlowed, HasPassedOn, HasTriedCause, IsEven, IsNext, IsPassedOn, IsSamePass, IsTriedCause, WireFlowed, in_hand}
use Rattle.fx_flows.specs.Lines.{IsOf, hand}
use Rattle.fx_flows.specs.Parcels.{Finished, IsFinished, IsParcelOf, IsStepOf, created, made, made_by, next_of, of_finished, parcels, parcel_sent, parcels_sent, sent_for}
use Rattle.fx_flows.specs.declared.flows.FlowError.{FlowError}
use Rattle.fx_flows.specs.declared.flows.FlowError.TheVariants as flow
use Rattle.fx_flows.specs.declared.lines.Hand.{Hand}
use Rattle.fx_flows.specs.declared.parcels.RunShape.{RunShape}
use Rattle.fx_flows.specs.declared.parcels.Parcel.{Parcel}
use Rattle.fx_flows.proofs.MembersLemmas.{passed_behind, passed_none, same_told}
use Rattle.fx_flows.proofs.CauseLemmas.{has_cause_behind}

-- ---- lists of finished parcels

pub created_both : (xs ys : List Finished) → created (xs ++ ys) ≡ created xs ++ created ys
created_both xs ys = flat_map-append next_of xs ys

pub made_both : (c : RunShape) (xs ys : List Finished) → made c (xs ++ ys) ≡ made c xs ++ made c ys
made_both c xs ys = flat_map-append (made_by c) xs ys

pub finished_both : (xs ys : List Finished) → of_finished (xs ++ ys) ≡ of_finished xs ++ of_finished ys
finished_both xs ys = map-append (λ (f : Finished). f.of) xs ys

pub weight_created : (h : Parcel → ℕ) (xs ys : List Finished) → sum_by h (created (xs ++ ys)) ≡ sum_by h (created xs) + sum_by h (created ys)
weight_created h xs ys = ap (sum_by h) (created_both xs ys) ∙ sum_by-append h (created xs) (created ys)

pub weight_finished : (h : Parcel → ℕ) (xs ys : List Finished) → sum_by h (of_finished (xs ++ ys)) ≡ sum_by h (of_finished xs) + sum_by h (of_finished ys)
weight_finished h xs ys = ap (sum_by h) (finished_both xs ys) ∙ sum_by-append h (of_finished xs) (of_finished ys)

-- what was sent for the finished parcels of two, and what was begun for those that both tried
pub ended_by_both : (es : List EndpointParts) (us : List unit.Unit) (xs ys : List Finished) (es_x es_y : List Exchange)
    → Sends (parcels_sent es us (of_finished xs)) [] es_x → Sends (parcels_sent es us (of_finished ys)) [] es_y → Sends (parcels_sent es us (of_finished (xs ++ ys))) [] (es_x ++ es_y)
ended_by_both es us xs ys es_x es_y h k =
    let both : parcels_sent es us (of_finished (xs ++ ys)) ≡ parcels_sent es us (of_finished xs) ++ parcels_sent es us (of_finished ys) =
    ap (parcels_sent es us) (finished_both xs ys) ∙ flat_map-append (parcel_sent es us) (of_finished xs) (of_finished ys) in
    subst (λ (v : List Sent). Sends v [] (es_x ++ es_y)) (sym both)
    (sent_laws.together (parcels_sent es us (of_finished xs)) [] (parcels_sent es us (of_finished ys)) [] es_x es_y h k)

pub begun_by_both : (es : List EndpointParts) (us : List unit.Unit) (ps qs : List Parcel) (left more : List Sent) (es_x es_y : List Exchange)
    → Sends (parcels_sent es us ps) left es_x → Sends (parcels_sent es us qs) more es_y → Sends (parcels_sent es us (ps ++ qs)) (left ++ more) (es_x ++ es_y)
begun_by_both es us ps qs left more es_x es_y h k =
    subst (λ (v : List Sent). Sends v (left ++ more) (es_x ++ es_y)) (sym (flat_map-append (parcel_sent es us) ps qs))
    (sent_laws.together (parcels_sent es us ps) left (parcels_sent es us qs) more es_x es_y h k)

-- where nothing is wanted, nothing was begun, and nothing is left
pub none_begun : (left : List Sent) (xs : List Exchange) → Sends [] left xs → (xs ≡ []) × (left ≡ [])
none_begun [] [] h = (refl, refl)
none_begun (x ∷ left) [] h = (let long : 0 ≡ length (x ∷ left) = length_permutation (x ∷ left) [] h in absurd (omega (arith, long)))
none_begun left (x ∷ xs) h = (let long : 0 ≡ length (map sent_of (x ∷ xs) ++ left) = length_permutation (map sent_of (x ∷ xs) ++ left) [] h in absurd (omega (arith, long)))

-- where none was tried, either
pub none_tried : (es : List EndpointParts) (us : List unit.Unit) (tried : List Parcel) (left : List Sent) (xs : List Exchange) → Sends (parcels_sent es us tried) left xs → tried ≡ [] → (xs ≡ []) × (left ≡ [])
none_tried es us tried left xs h none = none_begun left xs (subst (λ (ps : List Parcel). Sends (parcels_sent es us ps) left xs) none h)

-- ---- one thing after another

module _ (alone : Bool) (es : List EndpointParts) (us : List unit.Unit) (c : RunShape) where
  -- the wire went through all of it
  pub all_passed : (s t : Seen) (from to : Hand) (given tried held : List Parcel) (rows : List Row) (h : WireFlowed alone s t es us c from to given tried held rows) → Passed alone h.failed s t h.exchanges
  all_passed s t from to given tried held rows h =
      subst (Passed alone h.failed s t) (sym h.parted) (passed_behind alone h.failed s h.between t h.ended h.begun h.unfailed h.stopped)

  -- where none was tried it met no fault
  pub passed_well : (s t : Seen) (from to : Hand) (given held : List Parcel) (rows : List Row) (h : WireFlowed alone s t es us c from to given [] held rows) → (h.exchanges ≡ h.ended) × Passed alone 0 s t h.ended
  passed_well s t from to given held rows h =
      let none : h.failed ≡ 0 = (let few : h.failed ≤ 0 = h.few in omega (arith, few)) in
      let same : h.exchanges ≡ h.ended = h.parted ∙ ap (λ (v : List Exchange). h.ended ++ v) (none_begun h.left h.begun h.tied).0 ∙ append-nil h.ended in (
        same,
        subst (λ (n : ℕ). Passed alone n s t h.ended) none (subst (Passed alone h.failed s t) same (all_passed s t from to given [] held rows h)),
      )

  pub in_turn : (s t v : Seen) (from mid to : Hand) (given held last tried : List Parcel) (rows more : List Row)
      → WireFlowed alone s t es us c from mid given [] held rows → WireFlowed alone t v es us c mid to held tried last more → WireFlowed alone s v es us c from to given tried last (rows ++ more)
  in_turn s t v from mid to given held last tried rows more h k =
      let well = passed_well s t from mid given held rows h in
      record {
        exchanges = h.exchanges ++ k.exchanges;
        ended = h.ended ++ k.ended;
        begun = k.begun;
        parted = ap (λ (l : List Exchange). l ++ k.exchanges) well.0 ∙ ap (λ (l : List Exchange). h.ended ++ l) k.parted ∙ sym (append_assoc h.ended k.ended k.begun);
        between = k.between;
        unfailed = passed_behind alone 0 s t k.between h.ended k.ended well.1 k.unfailed;
        failed = k.failed;
        few = k.few;
        stopped = k.stopped;
        spent = h.spent ++ k.spent;
        finished = All-append (IsFinished c) h.spent k.spent h.finished k.finished;
        of_run = k.of_run;
        even = λ w.
            let one = h.even w in
            let two = k.even w in
            let nil : sum_by w [] ≡ 0 = refl in
            omega (arith, one, two, nil, weight_created w h.spent k.spent, weight_finished w h.spent k.spent);
        rows_are = ap (λ (l : List Row). l ++ more) h.rows_are ∙ ap (λ (l : List Row). made c h.spent ++ l) k.rows_are ∙ sym (made_both c h.spent k.spent);
        sent = ended_by_both es us h.spent k.spent h.ended k.ended h.sent k.sent;
        left = k.left;
        tied = k.tied;
        short = All-append IsShort h.exchanges k.exchanges h.short k.short;
        faultless = All-append (IsBatchRead (Contains us)) h.ended k.ended h.faultless k.faultless;
        steps = λ graphs told sound.
            All-append (IsStepOf (union graphs) us) h.spent k.spent (h.steps graphs told sound)
            (k.steps graphs (same_told s.graph t.graph well.1.same es graphs (IsMemberIn us) told) sound);
      }

  -- nothing was asked for: parcels that were given or taken are those in hand
  pub at_rest : (s : Seen) (from to : Hand) (given held : List Parcel) → IsEven from to given [] [] held → WireFlowed alone s s es us c from to given [] held []
  at_rest s from to given held even = record {
    exchanges = [];
    ended = [];
    begun = [];
    parted = refl;
    between = s;
    unfailed = passed_none alone s;
    failed = 0;
    few = omega arith;
    stopped = passed_none alone s;
    spent = [];
    finished = All-nil (IsFinished c);
    of_run = All-nil (IsParcelOf c);
    even = even;
    rows_are = refl;
    sent = IsPermutation-refl [];
    left = [];
    tied = IsPermutation-refl [];
    short = All-nil IsShort;
    faultless = All-nil (IsBatchRead (Contains us));
    steps = λ graphs told sound. All-nil (IsStepOf (union graphs) us);
  }

  -- nothing has happened yet
  pub unmoved : (from to : Hand) (held : List Parcel) → to ≡ from → IsEven from to held [] [] held
  unmoved from to held same w =
      let put : sum_by w to.put ≡ sum_by w from.put = ap (λ (v : Hand). sum_by w v.put) same in
      let took : sum_by w to.took ≡ sum_by w from.took = ap (λ (v : Hand). sum_by w v.took) same in
      let nil : sum_by w [] ≡ 0 = refl in
      omega (arith, put, took, nil)

  -- one was taken
  pub took_one : (from to : Hand) (p : Parcel) → to ≡ hand from.parts from.shape from.put (from.took ++ p ∷ []) → IsEven from to [] [] [] (p ∷ [])
  took_one from to p is w =
      let put : sum_by w to.put ≡ sum_by w from.put = ap (λ (v : Hand). sum_by w v.put) is in
      let took : sum_by w to.took ≡ sum_by w from.took + w p = ap (λ (v : Hand). sum_by w v.took) is ∙ sum_by_push w from.took p in
      let nil : sum_by w [] ≡ 0 = refl in
      omega (arith, put, took, nil, sum_by-cons w p [])

  module _ (s t : Seen) (p : Parcel) (of_run : IsParcelOf c p) (u : unit.Unit) (at : slice_get us p.step ≡ Some u) (its : Contains us u) (from to : Hand) where
    sent_is : (left : List Sent) (xs : List Exchange) → Sends (sent_for es (Some u) p.rows) left xs → Sends (parcel_sent es us p ++ []) left xs
    sent_is left xs h = subst (λ (v : List Sent). Sends v left xs) (sym (append-nil (parcel_sent es us p) ∙ ap (λ (o : Option unit.Unit). sent_for es o p.rows) at)) h

    all_read : (xs : List Exchange) → All (IsReadFor (record { unit = u; rows = p.rows })) xs → All (IsBatchRead (Contains us)) xs
    all_read xs k =
        All-weaker (IsReadFor (record { unit = u; rows = p.rows })) (IsBatchRead (Contains us)) (λ x r. record { unit = u; of_these = its; batch = p.rows; read = r }) xs k

    -- its rows were found, and passed on
    pub ended_one : (found : List Row) (cut : List (List Row)) (held : List Parcel)
        → AskedBatch alone s t es (record { unit = u; rows = p.rows }) (Ok found)
        → (p.step + 1 ≡ c.units → cut ≡ []) × (p.step + 1 < c.units → AreCut found c.block cut)
        → ((h : Parcel → ℕ) → sum_by h to.put + sum_by h held ≡ sum_by h from.put + sum_by h (parcels c (p.step + 1) cut))
        → to.took ≡ from.took
        → WireFlowed alone s t es us c from to (p ∷ []) [] held (made_by c (record { of = p; found = found; cut = cut }))
    ended_one found cut held k fin put took =
        let f : Finished = record { of = p; found = found; cut = cut } in
        record {
          exchanges = k.exchanges;
          ended = k.exchanges;
          begun = [];
          parted = sym (append-nil k.exchanges);
          between = t;
          unfailed = subst (λ (n : ℕ). Passed alone n s t k.exchanges) k.unfailed k.passed;
          failed = 0;
          few = omega arith;
          stopped = passed_none alone t;
          spent = f ∷ [];
          finished = All-from_recursion (IsFinished c) (f ∷ []) (record { of_run = of_run; last = fin.0; more = fin.1 }, tt);
          of_run = All-nil (IsParcelOf c);
          even = λ w.
              let balance = put w in
              let took_is : sum_by w to.took ≡ sum_by w from.took = ap (sum_by w) took in
              let next : sum_by w (created (f ∷ [])) ≡ sum_by w (parcels c (p.step + 1) cut) =
              ap (sum_by w) (append-nil (next_of f)) ∙ ap (λ (d : RunShape). sum_by w (parcels d (p.step + 1) cut)) of_run.same in
              let nil : sum_by w [] ≡ 0 = refl in
              omega (arith, balance, took_is, next, nil, sum_by-cons w p []);
          rows_are = sym (append-nil (made_by c f));
          sent = subst (λ (v : List Sent). Sends (parcel_sent es us p ++ []) v k.exchanges) k.whole (sent_is k.left k.exchanges k.sent);
          left = [];
          tied = IsPermutation-refl [];
          short = k.short;
          faultless = all_read k.exchanges k.faultless;
          steps = λ graphs told sound. All-from_recursion (IsStepOf (union graphs) us) (f ∷ []) ((λ v at'. its_step graphs told sound v (same_unit v at')), tt);
        }
      where
        same_unit : (v : unit.Unit) → slice_get us p.step ≡ Some v → u ≡ v
        same_unit v at' = let e : Some u ≡ Some v = sym at ∙ at' in cc

        its_step : (graphs : List (List Triple)) → AreTold s.graph es graphs (IsMemberIn us) → All (IsSound graphs) us → (v : unit.Unit) → u ≡ v → IsPermutation found (step (union graphs) v p.rows)
        its_step graphs told sound v same = subst (λ (x : unit.Unit). IsPermutation found (step (union graphs) x p.rows)) same (k.done graphs (λ n e m found. told n e (u, its, m) found) (All-contains (IsSound graphs) us u sound its))

    -- it was tried, and something ended that
    pub tried_one : (r : Result (List Row) FlowError) → AskedBatch alone s t es (record { unit = u; rows = p.rows }) r → to ≡ from → WireFlowed alone s t es us c from to (p ∷ []) (p ∷ []) [] []
    tried_one r k same = record {
      exchanges = k.exchanges;
      ended = [];
      begun = k.exchanges;
      parted = refl;
      between = s;
      unfailed = passed_none alone s;
      failed = k.failed;
      few = k.once;
      stopped = k.passed;
      spent = [];
      finished = All-nil (IsFinished c);
      of_run = All-from_recursion (IsParcelOf c) (p ∷ []) (of_run, tt);
      even = λ w.
          let put : sum_by w to.put ≡ sum_by w from.put = ap (λ (v : Hand). sum_by w v.put) same in
          let took : sum_by w to.took ≡ sum_by w from.took = ap (λ (v : Hand). sum_by w v.took) same in
          let nil : sum_by w [] ≡ 0 = refl in
          omega (arith, put, took, nil);
      rows_are = refl;
      sent = IsPermutation-refl [];
      left = k.left;
      tied = sent_is k.left k.exchanges k.sent;
      short = k.short;
      faultless = All-nil (IsBatchRead (Contains us));
      steps = λ graphs told sound. All-nil (IsStepOf (union graphs) us);
    }

    its_tried : (why : FlowError) (xs : List Exchange) → HasMemberCause s t es (record { unit = u; rows = p.rows }) u.members xs why → IsTriedCause s t es us (p ∷ []) xs why
    its_tried why xs k = record { parcel = p; among = contains_from (p ∷ []) p (inl refl); unit = u; found = at; cause = k }

    pub its_cause : (why : FlowError) → (xs : List Exchange) → HasMemberCause s t es (record { unit = u; rows = p.rows }) u.members xs why → HasTriedCause s t es us (p ∷ []) xs why
    its_cause (flow.Member at') xs k = its_tried (flow.Member at') xs k
    its_cause (flow.BadReply at' bad) xs k = its_tried (flow.BadReply at' bad) xs k
    its_cause (flow.RequestTooLong at' size) xs k = its_tried (flow.RequestTooLong at' size) xs k
    its_cause flow.Memory xs k = tt

-- a cause that came behind other exchanges is one of all of them
pub cause_in_turn : (alone : Bool) (s t v : Seen) (es : List EndpointParts) (us : List unit.Unit) (tried : List Parcel) (xs ys : List Exchange) (why : FlowError) → Passed alone 0 s t xs
    → HasTriedCause t v es us tried ys why → HasTriedCause s v es us tried (xs ++ ys) why
cause_in_turn alone s t v es us tried xs ys why passed k = by why k
  where
    tried_behind : (w : FlowError) → IsTriedCause t v es us tried ys w → IsTriedCause s v es us tried (xs ++ ys) w
    tried_behind w k = record {
      parcel = k.parcel;
      among = k.among;
      unit = k.unit;
      found = k.found;
      cause = has_cause_behind s t v es (record { unit = k.unit; rows = k.parcel.rows }) k.unit.members xs ys w alone 0 passed k.cause;
    }

    by : (w : FlowError) → HasTriedCause t v es us tried ys w → HasTriedCause s v es us tried (xs ++ ys) w
    by (flow.Member at) k = tried_behind (flow.Member at) k
    by (flow.BadReply at bad) k = tried_behind (flow.BadReply at bad) k
    by (flow.RequestTooLong at size) k = tried_behind (flow.RequestTooLong at size) k
    by flow.Memory k = tt

module _ (alone : Bool) (es : List EndpointParts) (us : List unit.Unit) (c : RunShape) where
  module _ (s t : Seen) (p : Parcel) (of_run : IsParcelOf c p) (u : unit.Unit) (at : slice_get us p.step ≡ Some u) (its : Contains us u) (from to : Hand) (was now : List Row) where
    pub followed_refused : (why : FlowError) → AskedBatch alone s t es (record { unit = u; rows = p.rows }) (Err why) → to ≡ from → Followed alone s t es us c from to p was now (Err why)
    unfolding tried_one
    followed_refused why k same = record {
      tried = p ∷ [];
      one = omega arith;
      held = [];
      rows = [];
      did = tried_one alone es us c s t p of_run u at its from to (Err why) k same;
      ended = tt;
      cause = its_cause alone es us c s t p of_run u at its from to why k.exchanges k.cause;
    }

    pub followed_on : (found : List Row) (next : Option Parcel) → AskedBatch alone s t es (record { unit = u; rows = p.rows }) (Ok found) → IsPassedOn c p.step from to found was now (Ok next)
        → Followed alone s t es us c from to p was now (Ok next)
    followed_on found next k on = record {
      tried = [];
      one = omega arith;
      held = on.held;
      rows = made_by c (record { of = p; found = found; cut = on.cut });
      did = ended_one alone es us c s t p of_run u at its from to found on.cut on.held k on.finished on.put on.took;
      ended = (refl, on.ended.0, on.ended.1, on.ended.2);
      cause = tt;
    }

    pub followed_lost : (found : List Row) (e : Memory) → AskedBatch alone s t es (record { unit = u; rows = p.rows }) (Ok found) → HasPassedOn c p.step from to found was now (Err e)
        → Followed alone s t es us c from to p was now (Err flow.Memory)
    followed_lost found e k (inl same) = record {
      tried = p ∷ [];
      one = omega arith;
      held = [];
      rows = [];
      did = tried_one alone es us c s t p of_run u at its from to (Ok found) k same;
      ended = tt;
      cause = tt;
    }
    followed_lost found e k (inr on) = record {
      tried = [];
      one = omega arith;
      held = on.held;
      rows = made_by c (record { of = p; found = found; cut = on.cut });
      did = ended_one alone es us c s t p of_run u at its from to found on.cut on.held k on.finished on.put on.took;
      ended = tt;
      cause = tt;
    }

  -- the next parcel is in hand, whether it was or was taken
  next_even : (before : Option Parcel) (waits : Bool) (from to : Hand) (p : Parcel) → IsNext before waits from to (Some p) → IsEven from to (in_hand before) [] [] (p ∷ [])
  next_even (Some q) waits from to p h = subst (λ (r : Parcel). IsEven from to (r ∷ []) [] [] (p ∷ [])) h.0 (unmoved alone es us c from to (p ∷ []) h.1)
  next_even None waits from to p h = took_one alone es us c from to p h.0

  -- what was in hand was put back
  put_back : (from to : Hand) (q : Parcel) → to ≡ hand from.parts (Some q.shape) (from.put ++ q ∷ []) from.took → IsEven from to (q ∷ []) [] [] []
  put_back from to q is w =
      let put : sum_by w to.put ≡ sum_by w from.put + w q = ap (λ (v : Hand). sum_by w v.put) is ∙ sum_by_push w from.put q in
      let took : sum_by w to.took ≡ sum_by w from.took = ap (λ (v : Hand). sum_by w v.took) is in
      let nil : sum_by w [] ≡ 0 = refl in
      omega (arith, put, took, nil, sum_by-cons w q [])

  module _ (s t v : Seen) (from mid taken to : Hand) (before : Option Parcel) (waits : Bool) (rows now : List Row) (p : Parcel)
      (h : WireFlowed alone s t es us c from mid [] [] (in_hand before) rows) (k : IsNext before waits mid taken (Some p)) where
    with_next : WireFlowed alone s t es us c from taken [] [] (p ∷ []) rows
    with_next =
        subst (λ (l : List Row). WireFlowed alone s t es us c from taken [] [] (p ∷ []) l) (append-nil rows)
        (in_turn alone es us c s t t from mid taken [] (in_hand before) (p ∷ []) [] rows [] h (at_rest alone es us c t mid taken (in_hand before) (p ∷ []) (next_even before waits mid taken p k)))

    pub worked_on : (next : Option Parcel) → Followed alone t v es us c taken to p rows now (Ok next) → WireFlowed alone s v es us c from to [] [] (in_hand next) now
    worked_on next f =
        let all = in_turn alone es us c s t v from taken to [] (p ∷ []) f.held f.tried rows f.rows with_next f.did in
        subst (λ (l : List Parcel). WireFlowed alone s v es us c from to [] [] l now) f.ended.1
        (subst (λ (l : List Parcel). WireFlowed alone s v es us c from to [] l f.held now) f.ended.0
        (subst (λ (l : List Row). WireFlowed alone s v es us c from to [] f.tried f.held l) (sym f.ended.2) all))

    pub worked_until : (why : FlowError) → Followed alone t v es us c taken to p rows now (Err why) → HasFlowed alone s v es us c from to (Err why)
    unfolding in_turn
    worked_until why f = record {
      tried = f.tried;
      one = f.one;
      held = f.held;
      rows = rows ++ f.rows;
      did = in_turn alone es us c s t v from taken to [] (p ∷ []) f.held f.tried rows f.rows with_next f.did;
      ended = tt;
      cause = f.cause;
    }

  -- nothing is in hand, and none came
  pub worked_out : (s t : Seen) (from mid to : Hand) (before : Option Parcel) (waits : Bool) (made_rows : Vec Row Global)
      → WireFlowed alone s t es us c from mid [] [] (in_hand before) made_rows.items → IsNext before waits mid to None → HasFlowed alone s t es us c from to (Ok made_rows)
  worked_out s t from mid to (Some q) waits made_rows h k = record {
    tried = [];
    one = omega arith;
    held = [];
    rows = made_rows.items;
    did =
        subst (λ (l : List Row). WireFlowed alone s t es us c from to [] [] [] l) (append-nil made_rows.items)
        (in_turn alone es us c s t t from mid to [] (q ∷ []) [] [] made_rows.items [] h (at_rest alone es us c t mid to (q ∷ []) [] (put_back mid to q k.1)));
    ended = (refl, refl, refl);
    cause = tt;
  }
  worked_out s t from mid to None waits made_rows h k = record {
    tried = [];
    one = omega arith;
    held = [];
    rows = made_rows.items;
    did = subst (λ (v : Hand). WireFlowed alone s t es us c from v [] [] [] made_rows.items) (sym k.0) h;
    ended = (refl, refl, refl);
    cause = tt;
  }

-- the next parcel is of the run
pub its_parcel : (c : RunShape) (before : Option Parcel) (waits : Bool) (from to : Hand) (p : Parcel) → from.shape ≡ Some c → All (IsParcelOf c) (in_hand before) → IsNext before waits from to (Some p) → IsParcelOf c p
its_parcel c (Some q) waits from to p known held h = subst (IsParcelOf c) (sym h.0) (recursion_from_All (IsParcelOf c) (q ∷ []) held).0
its_parcel c None waits from to p known held h = subst (λ (o : Option RunShape). IsOf o p) known h.1

-- and the pass is the same
pub same_pass : (before : Option Parcel) (waits : Bool) (from to : Hand) (p : Parcel) → IsNext before waits from to (Some p) → IsSamePass from to
same_pass (Some q) waits from to p h = (ap (λ (v : Hand). v.parts) h.1, ap (λ (v : Hand). v.shape) h.1)
same_pass None waits from to p h = (ap (λ (v : Hand). v.parts) h.0, ap (λ (v : Hand). v.shape) h.0)
