-- Which endpoint a call in rounds names as failed.
use Rattle.std.proofs.Common.{◌≡◌, ◌∙◌, ap, sym, subst, ◌⊎◌, inl, inr, ℕ, ◌<◌, ◌≤◌, Bool, true, false, List, [], ◌∷◌, length, Some, Ok, Err, Result, arith, slice_get}
use Rattle.fx_outside.specs.Endpoints.{EndpointParts}
use Rattle.fx_algebra.specs.declared.queries.Query.{Query}
use Rattle.fx_algebra.specs.declared.units.Unit as unit
use Rattle.fx_flows.specs.RunFlows.{HasFlowCause}
use Rattle.fx_flows.specs.declared.flows.FlowError.{FlowError}
use Rattle.fx_flows.specs.declared.flows.FlowError.TheVariants as flow
use Rattle.fx_keys.specs.declared.probes.Probe.{Probe}
use Rattle.fx_plan.specs.declared.parts.Part.{Part}
use Rattle.fx_services.specs.declared.noted.DownCause.TheVariants as cause
use Rattle.fx_services.proofs.WentLemmas.{found_here}
use Rattle.fx_sources.specs.Probes.{Entry, missing}
use Rattle.fx_traffic.specs.Gains.{WiresSeen, faults_at}
use Rattle.fx_traffic.specs.Sent.{Sent}
use Rattle.fx_traffic.proofs.GainLemmas.{gain_laws}
use Rattle.fx_walks.specs.GroupsAsked.{units_in}
use Rattle.fx_walks.specs.Tasks.{tasks_with}
use Rattle.fx_wire.specs.Exchanges.{Exchange, Seen}
use Rattle.fx_outcomes.specs.Asks.{HasProbeCause}
use Rattle.fx_outcomes.specs.Calls.{occurrences}
use Rattle.fx_outcomes.specs.InRounds.{IsLast, IsRefusedAtAsks, IsUnasked, WentInRounds, plan_over}
use Rattle.fx_outcomes.specs.Mediation.{AtNamed, HasName, IsNamed}
use Rattle.fx_outcomes.specs.Outcomes.{HasOutcomeCause, HasRefusal, Outcomed}
use Rattle.fx_outcomes.specs.RoundEnds.{AreAbandoned, LeavesOut}
use Rattle.fx_outcomes.specs.Rounds.{IsMarked, IsRequired, without_all}
use Rattle.fx_outcomes.specs.declared.federated.FedError.{FedError}
use Rattle.fx_outcomes.specs.declared.federated.FedError.TheVariants as fed
use Rattle.fx_outcomes.specs.declared.federated.Outcome.{Outcome}
use Rattle.fx_outcomes.specs.declared.rounds.OutcomeInRounds.{OutcomeInRounds}
use Rattle.fx_outcomes.specs.declared.rounds.Round.{Round}
use Rattle.fx_outcomes.proofs.ChoiceLemmas.{its_name}
use Rattle.fx_rounds.specs.Refused.{IsFirstFailed, MembersFailed, RequiredFailed, RoseAt, ServicesFailed}
use Rattle.fx_rounds.proofs.DownLemmas.{all_of}
use Rattle.fx_rounds.proofs.GainedLemmas.{has_begun}

-- ---- where nothing was asked nobody failed

pub unasked_member : (name : List ℕ) (e : FedError) → (e ≡ fed.Memory) ⊎ ((iri : List ℕ) × (e ≡ fed.UnknownService iri)) → fed.Member name ≡ e → ⊥
unasked_member name e (inl lost) same = cc
unasked_member name e (inr unknown) same = let is : e ≡ fed.UnknownService unknown.0 = unknown.1 in cc

pub unasked_service : (name : List ℕ) (e : FedError) → (e ≡ fed.Memory) ⊎ ((iri : List ℕ) × (e ≡ fed.UnknownService iri)) → fed.Service name ≡ e → ⊥
unasked_service name e (inl lost) same = cc
unasked_service name e (inr unknown) same = let is : e ≡ fed.UnknownService unknown.0 = unknown.1 in cc

-- no refusal of an ASK or of a batch names an occurrence
pub no_service_named : (es : List EndpointParts) (iri : List ℕ) (why : FlowError) → IsNamed es why (fed.Service iri) → ⊥
no_service_named es iri (flow.Member at) h = h
no_service_named es iri (flow.BadReply at bad) h = h
no_service_named es iri (flow.RequestTooLong at size) h = h
no_service_named es iri flow.Memory h = h

-- ---- a member that mustn't be left out

-- its count of faults rose over these wires, which were those before later on
module _ (s u t : List Seen) (es : List EndpointParts) (name : List ℕ) (low : (a : List ℕ) → faults_at s a ≤ faults_at u a) where
  abbrev Rose : Type 0
  Rose = AtNamed es name (λ e. (e.optional ≡ false) × (faults_at s e.iri < faults_at t e.iri))

  rose : (at it : ℕ) (e : EndpointParts) → it ≡ at → slice_get es at ≡ Some e → HasName es it name → IsMarked false es it → faults_at u e.iri < faults_at t e.iri → Rose
  rose at it e same found has marked later =
      let here : Some marked.0 ≡ Some e = sym marked.1 ∙ ap (slice_get es) same ∙ found in
      let one : marked.0 ≡ e = cc in
      let required : e.optional ≡ false = sym (ap (λ (d : EndpointParts). d.optional) one) ∙ marked.2 in
      let before : faults_at s e.iri ≤ faults_at u e.iri = low e.iri in
      let risen : faults_at s e.iri < faults_at t e.iri = omega (arith, before, later) in
      (e, found_here es at e found, its_name es at it e name same found has, (required, risen))

  pub named_at_ask : (probes : List Probe) (xs : List Exchange) (why : FlowError) → HasProbeCause u t es probes xs why → IsRequired es why → IsNamed es why (fed.Member name) → Rose
  named_at_ask probes xs (flow.Member at) k marked n = rose k.probe.at at k.endpoint k.named k.found n marked k.cause
  named_at_ask probes xs (flow.BadReply at bad) k marked n = absurd n
  named_at_ask probes xs (flow.RequestTooLong at size) k marked n = absurd n
  named_at_ask probes xs flow.Memory k marked n = absurd n

  named_at_batch : (us : List unit.Unit) (block : ℕ) (texts : List Sent) (xs : List Exchange) (why : FlowError) → HasFlowCause u t es us block texts xs why → IsRequired es why → IsNamed es why (fed.Member name) → Rose
  named_at_batch us block texts xs (flow.Member at) k marked n = rose k.at at k.endpoint k.named k.found n marked k.cause
  named_at_batch us block texts xs (flow.BadReply at bad) k marked n = absurd n
  named_at_batch us block texts xs (flow.RequestTooLong at size) k marked n = absurd n
  named_at_batch us block texts xs flow.Memory k marked n = absurd n

  named_at_last : (Untold : FlowError → Type 0) (tells alone : Bool) (q : Query) (plan : List Part) (block : ℕ) (ended : Result Outcome FedError) → (k : Outcomed (IsRequired es) Untold tells alone u t es q plan block ended) → IsLast ended (Err (fed.Member name)) → Rose
  named_at_last Untold tells alone q plan block (Ok outcome) k same = absurd same
  named_at_last Untold tells alone q plan block (Err e) k same =
      by (subst (HasOutcomeCause (IsRequired es) u t es plan k.found block k.calls k.texts k.of_runs) (sym same) k.cause)
    where
      by : HasOutcomeCause (IsRequired es) u t es plan k.found block k.calls k.texts k.of_runs (fed.Member name) → Rose
      by (inl b) = named_at_batch (units_in (tasks_with plan k.found)) block k.texts k.of_runs b.0 b.1 b.3 b.2
      by (inr r) = absurd r

-- ---- an occurrence

module _ (Untold : FlowError → Type 0) (tells alone : Bool) (u t : List Seen) (es : List EndpointParts) (q : Query) (plan : List Part) (block : ℕ) (iri : List ℕ) where
  service_at_last : (ended : Result Outcome FedError) → (k : Outcomed (IsRequired es) Untold tells alone u t es q plan block ended) → IsLast ended (Err (fed.Service iri)) → HasRefusal u t es k.calls (fed.Service iri)
  service_at_last (Ok outcome) k same = absurd same
  service_at_last (Err e) k same = by (subst (HasOutcomeCause (IsRequired es) u t es plan k.found block k.calls k.texts k.of_runs) (sym same) k.cause)
    where
      by : HasOutcomeCause (IsRequired es) u t es plan k.found block k.calls k.texts k.of_runs (fed.Service iri) → HasRefusal u t es k.calls (fed.Service iri)
      by (inl b) = absurd (no_service_named es iri b.0 b.2)
      by (inr r) = r

-- ---- before the last round

-- no count falls
module _ (tells alone : Bool) (es : List EndpointParts) (q : Query) (plan : List Bool → List Part) (block : ℕ) where
  none_falls : (s t : List Seen) (kept last : List Bool) (rounds : List Round) → AreAbandoned tells alone s t es q plan block kept last rounds → (a : List ℕ) → faults_at s a ≤ faults_at t a
  none_falls s t kept last [] c a = let same : faults_at t a ≡ faults_at s a = ap (λ (v : List Seen). faults_at v a) c.0 in omega (arith, same)
  none_falls s t kept last (r ∷ rounds) c a =
      let one : faults_at s a ≤ faults_at c.0 a = gain_laws.never_fall s c.0 a c.1.went.after_all in
      let rest : faults_at c.0 a ≤ faults_at t a = none_falls c.0 t (without_all r.left kept) last rounds c.3 a in
      omega (arith, one, rest)

module _ (w : WiresSeen) (es : List EndpointParts) (asked : Query) (new : List Entry) (block : ℕ) (result : Result OutcomeInRounds FedError) where
  low_before : (it : WentInRounds w.tells w.alone w.before w.after es asked [] new block result) (a : List ℕ) → faults_at w.before a ≤ faults_at it.went.between a
  low_before it a =
      let first : faults_at w.before a ≤ faults_at it.asked a = gain_laws.never_fall w.before it.asked a it.asking.after_all in
      let rest : faults_at it.asked a ≤ faults_at it.went.between a =
      none_falls w.tells w.alone es asked (plan_over es asked [] it.answers) block it.asked it.went.between it.answers.kept.items it.went.last_kept it.went.abandoned it.went.rounds a in
      omega (arith, first, rest)

-- ---- the laws

abbrev refused : FedError → Result OutcomeInRounds FedError
refused e = Err e

pub members_failed : MembersFailed
members_failed w es asked new block name f = by f.went
  where
    same : (e : FedError) → refused (fed.Member name) ≡ refused e → fed.Member name ≡ e
    same e h = cc

    by : IsUnasked w.before w.after [] new (refused (fed.Member name)) ⊎ (IsRefusedAtAsks w.tells w.alone w.before w.after es asked [] new (refused (fed.Member name)) ⊎ WentInRounds w.tells w.alone w.before w.after es asked [] new block (refused (fed.Member name))) → RequiredFailed w es name
    by (inl n) = absurd (unasked_member name n.error n.unasked (same n.error n.is))
    by (inr (inl h)) =
        named_at_ask w.before w.before w.after es name (λ a. omega arith) (missing asked (length es) []) h.asking.exchanges h.why h.asking.cause h.asking.required (subst (IsNamed es h.why) (sym (same h.error h.is)) h.named)
    by (inr (inr it)) =
        named_at_last w.before it.went.between w.after es name (low_before w es asked new block (refused (fed.Member name)) it) (LeavesOut es) w.tells w.alone asked (plan_over es asked [] it.answers it.went.last_kept) block it.went.ended it.went.last it.told

pub services_failed : ServicesFailed
services_failed w es asked new block iri told f = by f.went
  where
    same : (e : FedError) → refused (fed.Service iri) ≡ refused e → fed.Service iri ≡ e
    same e h = cc

    by : IsUnasked w.before w.after [] new (refused (fed.Service iri)) ⊎ (IsRefusedAtAsks w.tells w.alone w.before w.after es asked [] new (refused (fed.Service iri)) ⊎ WentInRounds w.tells w.alone w.before w.after es asked [] new block (refused (fed.Service iri))) → RoseAt w es iri × IsFirstFailed w es asked iri
    by (inl n) = absurd (unasked_service iri n.error n.unasked (same n.error n.is))
    by (inr (inl h)) = absurd (no_service_named es iri h.why (subst (IsNamed es h.why) (sym (same h.error h.is)) h.named))
    by (inr (inr it)) =
        let last = it.went.last in
        let k = service_at_last (LeavesOut es) w.tells w.alone it.went.between w.after es asked (plan_over es asked [] it.answers it.went.last_kept) block iri it.went.ended it.went.last it.told in
        let before : faults_at w.before iri ≤ faults_at it.went.between iri = low_before w es asked new block (refused (fed.Service iri)) it iri in
        let later : faults_at it.went.between iri < faults_at w.after iri = k.2 in
        let risen : faults_at w.before iri < faults_at w.after iri = omega (arith, before, later) in (
          (k.1, risen),
          record {
            calls = last.calls;
            all_called = all_of last.calls (occurrences asked) cause.Failed iri last.called k.0;
            first = k.0;
            since = it.went.between;
            began = has_begun w.tells w.alone es asked block w.before w.after [] new (refused (fed.Service iri)) told it;
            exchanges = last.exchanges;
            gained = last.gained;
            own = last.of_calls;
            others = last.of_runs;
            parted = last.parted;
            come_to = last.are_calls;
            counted = last.counted;
          },
        )
