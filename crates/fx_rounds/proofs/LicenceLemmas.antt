-- With an answer there is a licence for all that was left out and for all that was down.
use Rattle.std.proofs.Common.{inl, inr, ◌≡◌, ◌∙◌, ap, sym, subst, refl, ℕ, suc, ◌+◌, ◌<◌, ◌≤◌, Bool, true, false, List, [], ◌∷◌, ◌++◌, append-nil, length, map, All, Option, Some, IfOk, Ok, Err, Result, IsPermutation, cond, slice_get, arith}
use Rattle.std.specs.Prelude.{◌≢◌, AllPairs, Contains, bytes_eq}
use Rattle.std.specs.List.{AllByRecursion}
use Rattle.std.proofs.lemmas.Slice.Eq.{bytes_eq-Decides}
use Rattle.std.proofs.lemmas.List.{map-append}
use Rattle.std.proofs.lemmas.List.Concat.{flat_map-append}
use Rattle.std.proofs.lemmas.List.Elements.{All-append, All-contains, All-cons, All-from_recursion, All-weaker, recursion_from_All}
use Rattle.std.proofs.lemmas.List.Sorted.{IsPermutation-refl, IsPermutation-append, IsPermutation-trans}
use Rattle.fx_terms.specs.declared.triples.Triple.{Triple}
use Rattle.fx_terms.proofs.SetLemmas.{among_from}
use Rattle.fx_outside.specs.Endpoints.{EndpointParts}
use Rattle.fx_algebra.specs.declared.queries.Group.{Group}
use Rattle.fx_algebra.specs.declared.queries.Query.{Query}
use Rattle.fx_algebra.specs.declared.units.Row.{Row}
use Rattle.fx_algebra.specs.declared.units.Unit as unit
use Rattle.fx_flows.specs.Flows.{IsBadBatch}
use Rattle.fx_flows.specs.RunFlows.{HasFlowCause}
use Rattle.fx_flows.specs.declared.flows.FlowError.{FlowError}
use Rattle.fx_flows.specs.declared.flows.FlowError.TheVariants as flow
use Rattle.fx_keys.specs.declared.probes.Probe.{Probe}
use Rattle.fx_plan.specs.declared.parts.Part.{Part}
use Rattle.fx_pool.specs.declared.jobs.BadReply.{BadReply}
use Rattle.fx_pool.proofs.WiresLemmas.{still_tell}
use Rattle.fx_services.specs.Beside.{Occurrence}
use Rattle.fx_services.specs.ServicesAsked.{IsBadService}
use Rattle.fx_services.specs.declared.noted.Down.{Down}
use Rattle.fx_services.specs.declared.noted.DownCause.TheVariants as down_cause
use Rattle.fx_sources.specs.Probes.{missing}
use Rattle.fx_sources.specs.Registries.{IsRegistry}
use Rattle.fx_traffic.specs.Gains.{AreAfter, Tell, faults_at}
use Rattle.fx_traffic.specs.Sent.{Sent}
use Rattle.fx_traffic.proofs.GainLemmas.{gain_laws}
use Rattle.fx_traffic.proofs.SentLemmas.{middle_changes}
use Rattle.fx_walks.specs.GroupsAsked.{units_in}
use Rattle.fx_walks.specs.Tasks.{tasks_with}
use Rattle.fx_wire.specs.Exchanges.{Exchange, Seen, exchanged}
use Rattle.fx_outcomes.specs.Asks.{IsBadAsk, IsProbeCause}
use Rattle.fx_outcomes.specs.Calls.{AreAllOrNone, AreCalls, Call, Came, HasComeTo, down_from, down_if, down_in, failed, failure_of, failures_at, lost, occurrences, told}
use Rattle.fx_outcomes.specs.InRounds.{IsLast, plan_over}
use Rattle.fx_outcomes.specs.Mediation.{FailedBeside, IsNamed}
use Rattle.fx_outcomes.specs.RoundEnds.{AreAbandoned, IsAbandoned}
use Rattle.fx_outcomes.specs.Rounds.{AreAnswers, IsLeftAtAsk, IsLeftBy, IsMarked, everybody, without_all}
use Rattle.fx_outcomes.specs.declared.federated.FedError.{FedError}
use Rattle.fx_outcomes.specs.declared.federated.FedError.TheVariants as fed
use Rattle.fx_outcomes.specs.declared.federated.Outcome.{Outcome}
use Rattle.fx_outcomes.specs.declared.rounds.Left.{Left}
use Rattle.fx_outcomes.specs.declared.rounds.LeftCause.{LeftCause}
use Rattle.fx_outcomes.specs.declared.rounds.LeftCause.TheVariants as left_cause
use Rattle.fx_outcomes.specs.declared.rounds.OutcomeInRounds.{OutcomeInRounds}
use Rattle.fx_outcomes.specs.declared.rounds.Round.{Round}
use Rattle.fx_rounds.specs.Gained.{rounds_exchanged}
use Rattle.fx_rounds.specs.LeftOut.{left_in}
use Rattle.fx_rounds.specs.Licences.{AnswersAreLicensed, IsBad, IsPlannedFor, Licence, LicencesInAnyOrder, Replied, address_of, down_bad, down_failure, downs_bad, downs_failed, downs_in, left_address, left_bad, left_failure, lefts_bad, lefts_failed, replied, replied_in}
use Rattle.fx_rounds.proofs.AskedForLemmas.{HasUnitsFor, IsCalledOf, are_called, of_all_probes, units_for}
use Rattle.fx_rounds.proofs.LeftOutLemmas.{all_left, marked, once}
use Rattle.fx_rounds.proofs.ReplyLemmas.{HasReply, OwnReplies, found_among, lefts_own, one_endpoint, one_number, own_both, own_in_order, own_none, pairs_head, pairs_tail}

-- ---- sums

add_in_front : (m n k l : ℕ) → n ≡ k + l → m + n ≡ (m + k) + l
add_in_front m n k l h = omega (arith, h)

behind_none : (n : ℕ) → n ≡ 0 + n
behind_none n = omega arith

still_none : (n : ℕ) → n ≡ 0 → 0 + n ≡ 0
still_none n h = omega (arith, h)

still_low : (m n l : ℕ) → m + n ≤ l → m + (0 + n) ≤ l
still_low m n l h = omega (arith, h)

lefts_append : (es : List EndpointParts) (a : List ℕ) (xs ys : List Left) → lefts_failed es a (xs ++ ys) ≡ lefts_failed es a xs + lefts_failed es a ys
lefts_append es a [] ys = behind_none (lefts_failed es a ys)
lefts_append es a (x ∷ xs) ys =
    add_in_front (cond {A = ℕ} (bytes_eq (left_address es x) a) (left_failure x.why) 0) (lefts_failed es a (xs ++ ys)) (lefts_failed es a xs) (lefts_failed es a ys) (lefts_append es a xs ys)

pub downs_append : (a : List ℕ) (xs ys : List Down) → downs_failed a (xs ++ ys) ≡ downs_failed a xs + downs_failed a ys
downs_append a [] ys = behind_none (downs_failed a ys)
downs_append a (x ∷ xs) ys = add_in_front (cond {A = ℕ} (bytes_eq x.iri a) (down_failure x.why) 0) (downs_failed a (xs ++ ys)) (downs_failed a xs) (downs_failed a ys) (downs_append a xs ys)

-- ---- licences

in_turn : (s t u l m d e lm de : ℕ) → s + (l + d) ≤ t → t + (m + e) ≤ u → lm ≡ l + m → de ≡ d + e → s + (lm + de) ≤ u
in_turn s t u l m d e lm de one two lefts downs = omega (arith, one, two, lefts, downs)

-- the graphs that wires told they tell later on
abbrev Keep : List Seen → List Seen → Type 0
Keep s t = (a : List ℕ) (g : List Triple) → Tell s a g → Tell t a g

after_keep : (s t : List Seen) → AreAfter s t → Keep s t
after_keep s t after = λ a g told. still_tell s t a g after told

module _ (es : List EndpointParts) (q : Query) where
  still_bad : (s t : List Seen) → Keep s t → (x : Exchange) → IsBad es q t x → IsBad es q s x
  still_bad s t keep x h = record { why = h.why; asked = h.asked; long = λ g told. h.long g (keep x.at.iri g told) }

  licence_of_both : (s t u : List Seen) → Keep s t → (xs ys : List Exchange) (l m : List Left) (d e : List Down) → Licence es q s t xs l d → Licence es q t u ys m e → Licence es q s u (xs ++ ys) (l ++ m) (d ++ e)
  licence_of_both s t u keep xs ys l m d e h k = record {
    counted = λ a.
        in_turn (faults_at s a) (faults_at t a) (faults_at u a) (lefts_failed es a l) (lefts_failed es a m) (downs_failed a d) (downs_failed a e) (lefts_failed es a (l ++ m)) (downs_failed a (d ++ e)) (h.counted a) (k.counted a) (lefts_append es a l m)
        (downs_append a d e);
    refused = h.refused ++ k.refused;
    others = h.others ++ k.others;
    parted =
        IsPermutation-trans ((h.refused ++ k.refused) ++ (h.others ++ k.others)) ((h.refused ++ h.others) ++ (k.refused ++ k.others)) (xs ++ ys) (middle_changes h.refused k.refused h.others k.others)
        (IsPermutation-append (h.refused ++ h.others) xs (k.refused ++ k.others) ys h.parted k.parted);
    each = All-append (IsBad es q s) h.refused k.refused h.each (All-weaker (IsBad es q t) (IsBad es q s) (still_bad s t keep) k.refused k.each);
    told =
        subst (λ (v : List Replied). IsPermutation v (lefts_bad es (l ++ m) ++ downs_bad (d ++ e))) (sym (map-append replied_in h.refused k.refused))
        (subst (λ (v : List Replied). IsPermutation (map replied_in h.refused ++ map replied_in k.refused) (v ++ downs_bad (d ++ e))) (sym (flat_map-append (λ (x : Left). left_bad (left_address es x) x.why) l m))
        (subst (λ (v : List Replied). IsPermutation (map replied_in h.refused ++ map replied_in k.refused) ((lefts_bad es l ++ lefts_bad es m) ++ v)) (sym (flat_map-append (λ (x : Down). down_bad x.iri x.why) d e))
        (IsPermutation-trans (map replied_in h.refused ++ map replied_in k.refused) ((lefts_bad es l ++ downs_bad d) ++ (lefts_bad es m ++ downs_bad e)) ((lefts_bad es l ++ lefts_bad es m) ++ (downs_bad d ++ downs_bad e))
        (IsPermutation-append (map replied_in h.refused) (lefts_bad es l ++ downs_bad d) (map replied_in k.refused) (lefts_bad es m ++ downs_bad e) h.told k.told) (middle_changes (lefts_bad es l) (downs_bad d) (lefts_bad es m) (downs_bad e)))));
  }

  licence_from : (s t : List Seen) (xs : List Exchange) (l : List Left) (d : List Down) → ((a : List ℕ) → faults_at s a + (lefts_failed es a l + downs_failed a d) ≤ faults_at t a) → OwnReplies (IsBad es q s) xs (lefts_bad es l ++ downs_bad d) → Licence es q s t xs l d
  licence_from s t xs l d counted own = record {
    counted = counted;
    refused = own.refused;
    others = own.others;
    parted = own.parted;
    each = own.each;
    told = subst (IsPermutation (map replied_in own.refused)) own.told (IsPermutation-refl (map replied_in own.refused));
  }

  -- ---- occurrences

  plus_none : (n : ℕ) → n + 0 ≤ n
  plus_none n = omega arith

  none_low : (n : ℕ) → 0 ≤ n
  none_low n = omega arith

  one_failed : (a : List ℕ) (n : ℕ) (silent : Bool) (iri : List ℕ) (came : Came) → downs_failed a (down_if n silent iri came) ≤ cond {A = ℕ} (bytes_eq iri a) (failure_of came) 0
  one_failed a n silent iri (told rows) = none_low (cond {A = ℕ} (bytes_eq iri a) 0 0)
  one_failed a n true iri (failed down_cause.Failed) = plus_none (cond {A = ℕ} (bytes_eq iri a) 1 0)
  one_failed a n true iri (failed (down_cause.Bad bad)) = plus_none (cond {A = ℕ} (bytes_eq iri a) 0 0)
  one_failed a n true iri (failed (down_cause.TooLong size)) = plus_none (cond {A = ℕ} (bytes_eq iri a) 0 0)
  one_failed a n true iri (failed down_cause.Unknown) = plus_none (cond {A = ℕ} (bytes_eq iri a) 0 0)
  one_failed a n false iri (failed why) = none_low (cond {A = ℕ} (bytes_eq iri a) (failure_of (failed why)) 0)
  one_failed a n true iri lost = none_low (cond {A = ℕ} (bytes_eq iri a) 0 0)
  one_failed a n false iri lost = none_low (cond {A = ℕ} (bytes_eq iri a) 0 0)

  add_low : (both m n k l : ℕ) → both ≡ m + n → m ≤ k → n ≤ l → both ≤ k + l
  add_low both m n k l h one two = omega (arith, h, one, two)

  calls_failed : (a : List ℕ) (n : ℕ) (calls : List Call) → downs_failed a (down_from n calls) ≤ failures_at a calls
  calls_failed a n [] = omega arith
  calls_failed a n (c ∷ cs) =
      let first = down_if n c.of.silent c.of.iri c.came in
      add_low (downs_failed a (first ++ down_from (suc n) cs)) (downs_failed a first) (downs_failed a (down_from (suc n) cs)) (cond {A = ℕ} (bytes_eq c.of.iri a) (failure_of c.came) 0) (failures_at a cs) (downs_append a first (down_from (suc n) cs))
      (one_failed a n c.of.silent c.of.iri c.came) (calls_failed a (suc n) cs)

  module _ (s : List Seen) where
    abbrev Own : List Exchange → List Replied → Type 0
    Own xs bads = OwnReplies (IsBad es q s) xs bads

    none_own : (own : List Exchange) → Own own []
    none_own own = own_none (IsBad es q s) own

    -- the exchange with a bad reply is that of an occurrence of the query
    is_bad_service : (o : Occurrence) → Contains (occurrences q) o → o.silent ≡ true → (bad : BadReply) (own : List Exchange) (e : EndpointParts) → Contains es e → e.iri ≡ o.iri → IsBadService (Tell s o.iri) e o.group own bad → IsBad es q s (exchanged e bad.request bad.reply)
    is_bad_service o its silent bad own e here named h = record {
      why = bad.why;
      asked = inr (inr (record { occurrence = o; of_query = its; silent = silent; endpoint = here; named = named; posts = h.posts; fault = h.fault }));
      long = λ g told. h.long g (subst (λ (a : List ℕ). Tell s a g) named told);
    }

    call_own : (n : ℕ) (silent : Bool) (iri : List ℕ) (g : Group) (came : Came) (own : List Exchange) → Contains (occurrences q) (record { silent = silent; iri = iri; group = g }) → HasComeTo s es iri g came own → Own own (downs_bad (down_if n silent iri came))
    call_own n silent iri g (told rows) own its h = none_own own
    call_own n true iri g (failed down_cause.Failed) own its h = none_own own
    call_own n true iri g (failed (down_cause.Bad bad)) own its h =
        let x = exchanged h.0 bad.request bad.reply in
        let none : List Exchange = [] in
        record {
          refused = x ∷ [];
          others = [];
          parted = subst (IsPermutation (x ∷ none)) (sym h.3.alone) (IsPermutation-refl (x ∷ none));
          each = All-cons (IsBad es q s) x [] (is_bad_service (record { silent = true; iri = iri; group = g }) its refl bad own h.0 h.1 h.2 h.3) (All-from_recursion (IsBad es q s) [] tt);
          told = ap (λ (v : List ℕ). replied v bad.request bad.reply ∷ []) h.2;
        }
    call_own n true iri g (failed (down_cause.TooLong size)) own its h = none_own own
    call_own n true iri g (failed down_cause.Unknown) own its h = none_own own
    call_own n false iri g (failed why) own its h = none_own own
    call_own n true iri g lost own its h = none_own own
    call_own n false iri g lost own its h = none_own own

    calls_own : (n : ℕ) (calls : List Call) (xs : List Exchange) → AllByRecursion (IsCalledOf q) calls → AreCalls s es calls xs → Own xs (downs_bad (down_from n calls))
    calls_own n [] xs its h = none_own xs
    calls_own n (c ∷ cs) xs its h =
        let first = down_if n c.of.silent c.of.iri c.came in
        let rest = down_from (suc n) cs in
        subst (λ (v : List Exchange). Own v (downs_bad (first ++ rest))) (sym h.2)
        (subst (Own (h.0 ++ h.1)) (sym (flat_map-append (λ (d : Down). down_bad d.iri d.why) first rest))
        (own_both (IsBad es q s) h.0 h.1 (downs_bad first) (downs_bad rest) (call_own n c.of.silent c.of.iri c.of.group c.came h.0 its.0 h.3) (calls_own (suc n) cs h.1 its.1 h.5)))

  -- ---- the member that a round leaves out

  not_failed : (b : Bool) → cond {A = ℕ} b 0 0 ≡ 0
  not_failed true = refl
  not_failed false = refl

  module _ (s t : List Seen) (calls : List Call) (counted : (a : List ℕ) → faults_at s a + failures_at a calls ≤ faults_at t a) where
    abbrev Counts : Left → Type 0
    Counts l = (a : List ℕ) → faults_at s a + (lefts_failed es a (l ∷ []) + failures_at a calls) ≤ faults_at t a

    more : (m n k l : ℕ) → m + n ≤ l → k ≡ 0 → m + ((k + 0) + n) ≤ l
    more m n k l h none = omega (arith, h, none)

    one_more : (m n l : ℕ) → m + n < l → m + ((1 + 0) + n) ≤ l
    one_more m n l h = omega (arith, h)

    at_one : (iri : List ℕ) → faults_at s iri + failures_at iri calls < faults_at t iri → (a : List ℕ) → faults_at s a + ((cond {A = ℕ} (bytes_eq iri a) 1 0 + 0) + failures_at a calls) ≤ faults_at t a
    at_one iri rose a = by (bytes_eq iri a) refl
      where
        by : (b : Bool) → bytes_eq iri a ≡ b → faults_at s a + ((cond {A = ℕ} b 1 0 + 0) + failures_at a calls) ≤ faults_at t a
        by true e =
            let here : faults_at s a + failures_at a calls < faults_at t a = subst (λ (v : List ℕ). faults_at s v + failures_at v calls < faults_at t v) ((bytes_eq-Decides iri a).0 e) rose in
            one_more (faults_at s a) (failures_at a calls) (faults_at t a) here
        by false e = more (faults_at s a) (failures_at a calls) 0 (faults_at t a) (counted a) refl

    module _ (registry : IsRegistry es) where
      of_member : (at : ℕ) (error : FedError) → IsNamed es (flow.Member at) error → (error ≡ fed.Memory → ⊥) → FailedBeside s t es q calls error → Counts (record { at = at; why = left_cause.Failed })
      of_member at fed.Memory n known beside = absurd (known refl)
      of_member at (fed.Member name) n known beside =
          let its = beside.1 in
          let same : its.0 ≡ n.0 = one_endpoint (λ (d : EndpointParts). d.name) es registry.names its.0 n.0 (among_from es its.0 its.1) (found_among es at n.0 n.1) (its.2 ∙ sym n.2) in
          let rose : faults_at s n.0.iri + failures_at n.0.iri calls < faults_at t n.0.iri = subst (λ (d : EndpointParts). faults_at s d.iri + failures_at d.iri calls < faults_at t d.iri) same its.3 in
          subst (λ (o : Option EndpointParts). (a : List ℕ) → faults_at s a + ((cond {A = ℕ} (bytes_eq (address_of o) a) 1 0 + 0) + failures_at a calls) ≤ faults_at t a) (sym n.1) (at_one n.0.iri rose)
      of_member at (fed.Service iri) n known beside = absurd n
      of_member at (fed.BadReply name bad) n known beside = absurd n
      of_member at (fed.RequestTooLong name size) n known beside = absurd n
      of_member at (fed.UnknownService iri) n known beside = absurd n

      of_left : (why : FlowError) (l : Left) → IsLeftBy why l → (error : FedError) → IsNamed es why error → (error ≡ fed.Memory → ⊥) → FailedBeside s t es q calls error → Counts l
      of_left (flow.Member at) l its error n known beside = subst Counts (sym its) (of_member at error n known beside)
      of_left (flow.BadReply at bad) l its error n known beside =
          subst Counts (sym its)
          (λ a. more (faults_at s a) (failures_at a calls) (cond {A = ℕ} (bytes_eq (address_of (slice_get es at)) a) 0 0) (faults_at t a) (counted a) (not_failed (bytes_eq (address_of (slice_get es at)) a)))
      of_left (flow.RequestTooLong at size) l its error n known beside =
          subst Counts (sym its)
          (λ a. more (faults_at s a) (failures_at a calls) (cond {A = ℕ} (bytes_eq (address_of (slice_get es at)) a) 0 0) (faults_at t a) (counted a) (not_failed (bytes_eq (address_of (slice_get es at)) a)))
      of_left flow.Memory l its error n known beside = absurd its

  is_bad_batch : (s : List Seen) (bad : BadReply) (e : EndpointParts) (xs : List Exchange) (u : unit.Unit) (rows : List Row) → IsPlannedFor q u → (at : ℕ) → Contains u.members at → slice_get es at ≡ Some e → IsBadBatch (Tell s e.iri) e (record { unit = u; rows = rows }) xs bad
      → IsBad es q s (exchanged e bad.request bad.reply)
  is_bad_batch s bad e xs u rows its at member found h = record {
    why = bad.why;
    asked = inr (inl (record { unit = u; of_query = its; rows = rows; at = at; member = member; found = found; text = h.text; of_batch = h.of_batch; posts = h.posts; fault = h.fault }));
    long = h.long;
  }

  batch_reply : (s t : List Seen) (us : List unit.Unit) → All (IsPlannedFor q) us → (block : ℕ) (wanted : List Sent) (xs : List Exchange) (why : FlowError) (l : Left) → IsLeftBy why l → HasFlowCause s t es us block wanted xs why → HasReply (IsBad es q s) es xs l.at l.why
  batch_reply s t us its_units block wanted xs (flow.Member at) l its k = subst (λ (x : Left). HasReply (IsBad es q s) es xs x.at x.why) (sym its) tt
  batch_reply s t us its_units block wanted xs (flow.BadReply at bad) l its k =
      subst (λ (x : Left). HasReply (IsBad es q s) es xs x.at x.why) (sym its) (
        k.endpoint,
        ap (slice_get es) k.named ∙ k.found,
        k.cause.exchanged_so,
        is_bad_batch s bad k.endpoint xs k.unit k.batch (All-contains (IsPlannedFor q) us k.unit its_units k.of_run) k.at k.member k.found k.cause,
      )
  batch_reply s t us its_units block wanted xs (flow.RequestTooLong at size) l its k = subst (λ (x : Left). HasReply (IsBad es q s) es xs x.at x.why) (sym its) tt
  batch_reply s t us its_units block wanted xs flow.Memory l its k = absurd its

  -- ---- those that ASKs leave out

  -- where it failed, the faults of its endpoint rose
  abbrev HasRisen : List Seen → List Seen → ℕ → LeftCause → Type 0
  HasRisen s t at left_cause.Failed = (e : EndpointParts) × (slice_get es at ≡ Some e) × (faults_at s e.iri < faults_at t e.iri)
  HasRisen s t at (left_cause.Bad bad) = Unit {0}
  HasRisen s t at (left_cause.TooLong size) = Unit {0}

  is_bad_ask : (s : List Seen) (bad : BadReply) (e : EndpointParts) (xs : List Exchange) (p : Probe) → Contains (missing q (length es) []) p → slice_get es p.at ≡ Some e → IsBadAsk (Tell s e.iri) e p xs bad → IsBad es q s (exchanged e bad.request bad.reply)
  is_bad_ask s bad e xs p among found h = record {
    why = bad.why;
    asked = inl (record { probe = p; of_query = among; found = found; posts = h.posts; fault = h.fault });
    long = h.long;
  }

  module _ (s t : List Seen) (probes : List Probe) (of_query : (p : Probe) → Contains probes p → Contains (missing q (length es) []) p) (xs : List Exchange) where
    ask_reply : (why : FlowError) (l : Left) → IsLeftBy why l → IsProbeCause s t es probes xs why → HasReply (IsBad es q s) es xs l.at l.why
    ask_reply (flow.Member at) l its k = subst (λ (x : Left). HasReply (IsBad es q s) es xs x.at x.why) (sym its) tt
    ask_reply (flow.BadReply at bad) l its k =
        subst (λ (x : Left). HasReply (IsBad es q s) es xs x.at x.why) (sym its)
        (k.endpoint, ap (slice_get es) k.named ∙ k.found, k.cause.exchanged_so, is_bad_ask s bad k.endpoint xs k.probe (of_query k.probe k.among) k.found k.cause)
    ask_reply (flow.RequestTooLong at size) l its k = subst (λ (x : Left). HasReply (IsBad es q s) es xs x.at x.why) (sym its) tt
    ask_reply flow.Memory l its k = absurd its

    ask_rose : (why : FlowError) (l : Left) → IsLeftBy why l → IsProbeCause s t es probes xs why → HasRisen s t l.at l.why
    ask_rose (flow.Member at) l its k = subst (λ (x : Left). HasRisen s t x.at x.why) (sym its) (k.endpoint, ap (slice_get es) k.named ∙ k.found, k.cause)
    ask_rose (flow.BadReply at bad) l its k = subst (λ (x : Left). HasRisen s t x.at x.why) (sym its) tt
    ask_rose (flow.RequestTooLong at size) l its k = subst (λ (x : Left). HasRisen s t x.at x.why) (sym its) tt
    ask_rose flow.Memory l its k = absurd its

    all_reply : (left : List Left) → AllByRecursion (IsLeftAtAsk s t es probes xs) left → AllByRecursion (λ (l : Left). HasReply (IsBad es q s) es xs l.at l.why) left
    all_reply [] h = tt
    all_reply (l ∷ left) h = (ask_reply h.0.why l h.0.named h.0.cause, all_reply left h.1)

    all_rose : (left : List Left) → AllByRecursion (IsLeftAtAsk s t es probes xs) left → AllByRecursion (λ (l : Left). HasRisen s t l.at l.why) left
    all_rose [] h = tt
    all_rose (l ∷ left) h = (ask_rose h.0.why l h.0.named h.0.cause, all_rose left h.1)

  -- none of these has the address
  none_else : (a : List ℕ) (left : List Left) → AllByRecursion (λ (m : Left). bytes_eq (left_address es m) a ≡ false) left → lefts_failed es a left ≡ 0
  none_else a [] h = refl
  none_else a (m ∷ left) h = ap (λ (b : Bool). cond {A = ℕ} b (left_failure m.why) 0 + lefts_failed es a left) h.0 ∙ still_none (lefts_failed es a left) (none_else a left h.1)

  is_not_true : (b : Bool) → (b ≡ true → ⊥) → b ≡ false
  is_not_true true h = absurd (h refl)
  is_not_true false h = refl

  module _ (addresses : AllPairs (λ (d e : EndpointParts). d.iri ≢ e.iri) es) (s t : List Seen) (after : AreAfter s t) (a : List ℕ) where
    elsewhere : (l m : Left) → IsMarked true es l.at → IsMarked true es m.at → (l.at ≡ m.at → ⊥) → left_address es l ≡ a → bytes_eq (left_address es m) a ≡ false
    elsewhere l m k n apart here =
        is_not_true (bytes_eq (left_address es m) a)
        (λ e.
        apart
        (one_number (λ (d : EndpointParts). d.iri) es addresses l.at m.at k.0 n.0 k.1 n.1
        (sym (ap address_of k.1) ∙ here ∙ sym ((bytes_eq-Decides (left_address es m) a).0 e) ∙ ap address_of n.1)))

    all_elsewhere : (l : Left) (left : List Left) → IsMarked true es l.at → AllByRecursion (λ (m : Left). IsMarked true es m.at) left → AllByRecursion (λ (m : Left). l.at ≢ m.at) left → left_address es l ≡ a
        → AllByRecursion (λ (m : Left). bytes_eq (left_address es m) a ≡ false) left
    all_elsewhere l [] k n apart here = tt
    all_elsewhere l (m ∷ left) k n apart here = (elsewhere l m k n.0 apart.0 here, all_elsewhere l left k n.1 apart.1 here)

    alone : (m n k l : ℕ) → m + k ≤ l → n ≡ 0 → m + (k + n) ≤ l
    alone m n k l h none = omega (arith, h, none)

    as_low : (m l : ℕ) → m ≤ l → m + 0 ≤ l
    as_low m l h = omega (arith, h)

    and_one : (m l : ℕ) → m < l → m + 1 ≤ l
    and_one m l h = omega (arith, h)

    its_own : (at : ℕ) (why : LeftCause) → HasRisen s t at why → address_of (slice_get es at) ≡ a → faults_at s a + left_failure why ≤ faults_at t a
    its_own at left_cause.Failed h here =
        and_one (faults_at s a) (faults_at t a) (subst (λ (v : List ℕ). faults_at s v < faults_at t v) (sym (ap address_of h.1) ∙ here) h.2)
    its_own at (left_cause.Bad bad) h here = as_low (faults_at s a) (faults_at t a) (gain_laws.never_fall s t a after)
    its_own at (left_cause.TooLong size) h here = as_low (faults_at s a) (faults_at t a) (gain_laws.never_fall s t a after)

    abbrev OtherNumber : Left → Left → Type 0
    OtherNumber k l = k.at ≢ l.at

    asks_counted : (left : List Left) → AllPairs (λ (k l : Left). k.at ≢ l.at) left → AllByRecursion (λ (m : Left). IsMarked true es m.at) left → AllByRecursion (λ (m : Left). HasRisen s t m.at m.why) left → faults_at s a + lefts_failed es a left ≤ faults_at t a
    asks_counted [] p n h = as_low (faults_at s a) (faults_at t a) (gain_laws.never_fall s t a after)
    asks_counted (l ∷ left) p n h = by (bytes_eq (left_address es l) a) refl (asks_counted left (pairs_tail OtherNumber l left p) n.1 h.1)
      where
        by : (b : Bool) → bytes_eq (left_address es l) a ≡ b → faults_at s a + lefts_failed es a left ≤ faults_at t a → faults_at s a + (cond {A = ℕ} b (left_failure l.why) 0 + lefts_failed es a left) ≤ faults_at t a
        by true e rest =
            let here = (bytes_eq-Decides (left_address es l) a).0 e in
            alone (faults_at s a) (lefts_failed es a left) (left_failure l.why) (faults_at t a) (its_own l.at l.why h.0 here)
            (none_else a left (all_elsewhere l left n.0 n.1 (recursion_from_All (OtherNumber l) left (pairs_head OtherNumber l left p)) here))
        by false e rest = still_low (faults_at s a) (lefts_failed es a left) (faults_at t a) rest

  -- ---- a query's rounds

  module _ (registry : IsRegistry es) (tells alone : Bool) (block : ℕ) where
    one_alone : (l : Left) → AllPairs (λ (k m : Left). k.at ≢ m.at) (l ∷ [])
    one_alone l = λ i j d low high. absurd (omega (arith, low, high))

    no_downs : (m l u : ℕ) → m + l ≤ u → m + (l + 0) ≤ u
    no_downs m l u h = omega (arith, h)

    low_downs : (m l n k u : ℕ) → m + (l + n) ≤ u → k ≤ n → m + (l + k) ≤ u
    low_downs m l n k u h low = omega (arith, h, low)

    round_licensed : (s t : List Seen) (plan : List Part) → HasUnitsFor q plan → (r : Round) (h : IsAbandoned tells alone s t es q plan block r) → Licence es q s t h.went.exchanges r.left (down_in h.went.calls)
    round_licensed s t plan units r h =
        let calls = h.went.calls in
        let counts = of_left s t calls h.went.counted registry h.why h.left h.its h.error h.named h.of_member h.went.own_failure in
        let us = units_in (tasks_with plan h.went.found) in
        let alone_left : AllPairs (λ (k l : Left). k.at ≢ l.at) (h.left ∷ []) = one_alone h.left in
        let own = lefts_own (IsBad es q s) es registry.addresses (h.left ∷ []) h.went.of_runs alone_left (batch_reply s t us (units h.went.found) block h.went.texts h.went.of_runs h.why h.left h.its h.cause, tt) in
        let both = own_both (IsBad es q s) h.went.of_runs h.went.of_calls (lefts_bad es (h.left ∷ [])) (downs_bad (down_in calls)) own (calls_own s 0 calls h.went.of_calls (are_called q calls h.went.called) h.went.are_calls) in
        subst (λ (v : List Left). Licence es q s t h.went.exchanges v (down_in calls)) (sym h.left_is)
        (licence_from s t h.went.exchanges (h.left ∷ []) (down_in calls)
        (λ a. low_downs (faults_at s a) (lefts_failed es a (h.left ∷ [])) (failures_at a calls) (downs_failed a (down_in calls)) (faults_at t a) (counts a) (calls_failed a 0 calls))
        (own_in_order (IsBad es q s) (h.went.of_runs ++ h.went.of_calls) h.went.exchanges (lefts_bad es (h.left ∷ []) ++ downs_bad (down_in calls)) h.went.parted both))

    none_licensed : (s : List Seen) → Licence es q s s [] [] []
    none_licensed s = licence_from s s [] [] [] (λ a. omega arith) (own_none (IsBad es q s) [])

    rounds_keep : (plan : List Bool → List Part) (s t : List Seen) (kept last : List Bool) (rounds : List Round) → AreAbandoned tells alone s t es q plan block kept last rounds → Keep s t
    rounds_keep plan s t kept last [] c = λ a g told. subst (λ (v : List Seen). Tell v a g) (sym c.0) told
    rounds_keep plan s t kept last (r ∷ rounds) c = λ a g told. rounds_keep plan c.0 t (without_all r.left kept) last rounds c.3 a g (after_keep s c.0 c.1.went.after_all a g told)

    rounds_licensed : (plan : List Bool → List Part) → ((kept : List Bool) → HasUnitsFor q (plan kept)) → (s t : List Seen) (kept last : List Bool) (rounds : List Round) (c : AreAbandoned tells alone s t es q plan block kept last rounds)
        → Licence es q s t (rounds_exchanged tells alone s t es q plan block kept last rounds c) (left_in rounds) (downs_in tells alone s t es q plan block kept last rounds c)
    rounds_licensed plan units s t kept last [] c = subst (λ (v : List Seen). Licence es q s v [] [] []) (sym c.0) (none_licensed s)
    rounds_licensed plan units s t kept last (r ∷ rounds) c =
        let rest = without_all r.left kept in
        licence_of_both s c.0 t (after_keep s c.0 c.1.went.after_all) c.1.went.exchanges (rounds_exchanged tells alone c.0 t es q plan block rest last rounds c.3) r.left (left_in rounds) (down_in c.1.went.calls) (downs_in tells alone c.0 t es q plan block rest last rounds c.3)
        (round_licensed s c.0 (plan kept) (units kept) r c.1) (rounds_licensed plan units c.0 t rest last rounds c.3)

    -- the ASKs
    pub asks_licensed : (s t : List Seen) (after : AreAfter s t) (probes : List Probe) → ((p : Probe) → Contains probes p → Contains (missing q (length es) []) p) → (xs : List Exchange) (left : List Left) → AllPairs (λ (k l : Left). k.at ≢ l.at) left → All (λ (l : Left). IsMarked true es l.at) left → All (IsLeftAtAsk s t es probes xs) left
        → Licence es q s t xs left []
    asks_licensed s t after probes of_query xs left apart marks causes =
        let each = recursion_from_All (IsLeftAtAsk s t es probes xs) left causes in
        let own = lefts_own (IsBad es q s) es registry.addresses left xs apart (all_reply s t probes of_query xs left each) in
        licence_from s t xs left []
        (λ a.
        no_downs (faults_at s a) (lefts_failed es a left) (faults_at t a)
        (asks_counted registry.addresses s t after a left apart (recursion_from_All (λ (l : Left). IsMarked true es l.at) left marks) (all_rose s t probes of_query xs left each)))
        (subst (OwnReplies (IsBad es q s) xs) (sym (append-nil (lefts_bad es left))) own)

    -- the last one
    last_licensed : (s t : List Seen) (xs of_runs of_calls : List Exchange) (calls : List Call) → IsPermutation (of_runs ++ of_calls) xs → ((a : List ℕ) → faults_at s a + failures_at a calls ≤ faults_at t a) → AreAllOrNone calls (occurrences q) → AreCalls s es calls of_calls → Licence es q s t xs [] (down_in calls)
    last_licensed s t xs of_runs of_calls calls parted counted called are =
        licence_from s t xs [] (down_in calls) (λ a. low_downs (faults_at s a) 0 (failures_at a calls) (downs_failed a (down_in calls)) (faults_at t a) (still_low (faults_at s a) (failures_at a calls) (faults_at t a) (counted a)) (calls_failed a 0 calls))
        (own_in_order (IsBad es q s) (of_runs ++ of_calls) xs (downs_bad (down_in calls)) parted
        (own_both (IsBad es q s) of_runs of_calls [] (downs_bad (down_in calls)) (own_none (IsBad es q s) of_runs) (calls_own s 0 calls of_calls (are_called q calls called) are)))

-- ---- a query

pub last_down : (all : OutcomeInRounds) (down : List Down) (ended : Result Outcome FedError) → IsLast ended (Ok all) → IfOk ended (λ outcome. outcome.down ≡ down) → all.outcome.down ≡ down
last_down all down (Ok outcome) same is = ap (λ (o : Outcome). o.down) same ∙ is
last_down all down (Err e) same is = absurd same

pub answers_are_licensed : AnswersAreLicensed
answers_are_licensed tells alone before after es q old new block all registry w =
    let plan = plan_over es q old w.answers in
    let first = w.answers.left.items in
    let more = left_in w.went.abandoned in
    let probes = missing q (length es) old in
    let fit : AreAnswers es probes w.answers = w.asking.fit in
    let causes : All (IsLeftAtAsk before w.asked es probes w.asking.exchanges) first = w.asking.causes in
    let mid = rounds_exchanged tells alone w.asked w.went.between es q plan block w.answers.kept.items w.went.last_kept w.went.abandoned w.went.rounds in
    let downs = downs_in tells alone w.asked w.went.between es q plan block w.answers.kept.items w.went.last_kept w.went.abandoned w.went.rounds in
    let last = w.went.last in
    let asks = asks_licensed es q registry tells alone block before w.asked w.asking.after_all probes (of_all_probes q (length es) old) w.asking.exchanges first (once es (everybody es) first fit.may_leave) (marked es (everybody es) first fit.may_leave) causes in
    let rounds = rounds_licensed es q registry tells alone block plan (units_for es q old w.answers) w.asked w.went.between w.answers.kept.items w.went.last_kept w.went.abandoned w.went.rounds in
    let end = last_licensed es q registry tells alone block w.went.between after last.exchanges last.of_runs last.of_calls last.calls last.parted last.counted last.called last.are_calls in
    let keep = rounds_keep es q registry tells alone block plan w.asked w.went.between w.answers.kept.items w.went.last_kept w.went.abandoned w.went.rounds in
    let behind = licence_of_both es q w.asked w.went.between after keep mid last.exchanges more [] downs (down_in last.calls) rounds end in
    let whole = licence_of_both es q before w.asked after (after_keep before w.asked w.asking.after_all) w.asking.exchanges (mid ++ last.exchanges) first (more ++ []) [] (downs ++ down_in last.calls) asks behind in
    let xs = w.asking.exchanges ++ (mid ++ last.exchanges) in
    let lefts : left_in all.abandoned ≡ first ++ (more ++ []) = all_left first w.went.abandoned all.abandoned w.listed ∙ ap (λ (v : List Left). first ++ v) (sym (append-nil more)) in
    let down : all.outcome.down ≡ down_in last.calls = last_down all (down_in last.calls) w.went.ended w.told last.down in
    subst (λ (v : List Left). Licence es q before after xs v (downs ++ all.outcome.down)) (sym lefts)
    (subst (λ (v : List Down). Licence es q before after xs (first ++ (more ++ [])) (downs ++ v)) (sym down) whole)

pub licences_in_any_order : LicencesInAnyOrder
licences_in_any_order es q s t xs ys left down same h = record {
  counted = h.counted;
  refused = h.refused;
  others = h.others;
  parted = IsPermutation-trans (h.refused ++ h.others) xs ys h.parted same;
  each = h.each;
  told = h.told;
}
