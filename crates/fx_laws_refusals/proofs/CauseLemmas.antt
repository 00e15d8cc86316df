-- The cause of a refusal that tells a bad reply, or a text that is too long.
use Rattle.std.proofs.Common.{◌≡◌, ◌∙◌, ap, sym, subst, refl, ◌⊎◌, inl, inr, ℕ, Bool, true, false, List, [], ◌∷◌, map, Some, Ok, Err, Result, slice_get}
use Rattle.std.specs.Prelude.{Contains}
use Rattle.fx_terms.proofs.SetLemmas.{Among, among_from, contains_from}
use Rattle.fx_outside.specs.Endpoints.{EndpointParts}
use Rattle.fx_algebra.specs.declared.queries.Query.{Query}
use Rattle.fx_algebra.specs.declared.units.Row.{Row}
use Rattle.fx_algebra.specs.declared.units.Unit as unit
use Rattle.fx_algebra.proofs.MemberLemmas.{among_flat_map, among_map, among_right}
use Rattle.fx_flows.specs.Flows.{IsBadBatch, IsLongBatch}
use Rattle.fx_flows.specs.RunFlows.{HasFlowCause}
use Rattle.fx_flows.specs.declared.flows.FlowError.{FlowError}
use Rattle.fx_flows.specs.declared.flows.FlowError.TheVariants as flow
use Rattle.fx_http.specs.Requests.{request_of}
use Rattle.fx_keys.specs.declared.probes.Probe.{Probe}
use Rattle.fx_plan.specs.declared.parts.Part.{Part}
use Rattle.fx_pool.specs.declared.jobs.BadReply.{BadReply}
use Rattle.fx_services.specs.Beside.{Occurrence}
use Rattle.fx_services.specs.declared.noted.DownCause.{DownCause}
use Rattle.fx_services.specs.declared.noted.DownCause.TheVariants as cause
use Rattle.fx_services.proofs.WentLemmas.{found_here}
use Rattle.fx_traffic.specs.Batches.{IsSized, member_sent, text_for, text_sent, to_endpoint, unit_sent}
use Rattle.fx_traffic.specs.Gains.{Tell}
use Rattle.fx_traffic.specs.Sent.{Sent}
use Rattle.fx_walks.specs.GroupsAsked.{units_in}
use Rattle.fx_walks.specs.Tasks.{tasks_with}
use Rattle.fx_wire.specs.Exchanges.{Exchange, Seen}
use Rattle.fx_outcomes.specs.Asks.{HasProbeCause, IsBadAsk, IsLongAsk}
use Rattle.fx_outcomes.specs.Calls.{AreAllOrNone, Call, HasFirstRefused, occurrences}
use Rattle.fx_outcomes.specs.InRounds.{IsLast}
use Rattle.fx_outcomes.specs.Mediation.{AtNamed, HasName, IsNamed}
use Rattle.fx_outcomes.specs.Outcomes.{HasOutcomeCause, HasRefusal, Outcomed}
use Rattle.fx_outcomes.specs.Rounds.{IsMarked, IsRequired}
use Rattle.fx_outcomes.specs.declared.federated.FedError.{FedError}
use Rattle.fx_outcomes.specs.declared.federated.FedError.TheVariants as fed
use Rattle.fx_outcomes.specs.declared.federated.Outcome.{Outcome}
use Rattle.fx_outcomes.specs.declared.rounds.OutcomeInRounds.{OutcomeInRounds}
use Rattle.fx_outcomes.proofs.ChoiceLemmas.{its_name}
use Rattle.fx_rounds.proofs.RefusedLemmas.{no_service_named}

-- ---- where nothing was asked

abbrev pub refused : FedError → Result OutcomeInRounds FedError
refused e = Err e

pub same_refusal : (e d : FedError) → refused e ≡ refused d → e ≡ d
same_refusal e d h = cc

abbrev IsNoFault : FedError → Type 0
IsNoFault e = (e ≡ fed.Memory) ⊎ ((iri : List ℕ) × (e ≡ fed.UnknownService iri))

-- no reply is bad, and no text too long
pub unasked_bad : (name : List ℕ) (bad : BadReply) (e : FedError) → IsNoFault e → fed.BadReply name bad ≡ e → ⊥
unasked_bad name bad e (inl lost) same = cc
unasked_bad name bad e (inr unknown) same = let is : e ≡ fed.UnknownService unknown.0 = unknown.1 in cc

pub unasked_long : (name : List ℕ) (size : ℕ) (e : FedError) → IsNoFault e → fed.RequestTooLong name size ≡ e → ⊥
unasked_long name size e (inl lost) same = cc
unasked_long name size e (inr unknown) same = let is : e ≡ fed.UnknownService unknown.0 = unknown.1 in cc

-- ---- the endpoint of this number mustn't be left out

abbrev pub AtRequired : List EndpointParts → List ℕ → (EndpointParts → Type 0) → Type 0
AtRequired es name P = AtNamed es name (λ e. (e.optional ≡ false) × P e)

required_named : (es : List EndpointParts) (name : List ℕ) (P : EndpointParts → Type 0) (at it : ℕ) (e : EndpointParts) → it ≡ at → slice_get es at ≡ Some e → HasName es it name → IsMarked false es it → P e → AtRequired es name P
required_named es name P at it e same found has marked p =
    let here : Some marked.0 ≡ Some e = sym marked.1 ∙ ap (slice_get es) same ∙ found in
    let one : marked.0 ≡ e = cc in
    let required : e.optional ≡ false = sym (ap (λ (d : EndpointParts). d.optional) one) ∙ marked.2 in
    (e, found_here es at e found, its_name es at it e name same found has, (required, p))

-- ---- at an ASK

-- what is so of one of the probes for an endpoint
abbrev pub AtProbe : List EndpointParts → List Probe → (EndpointParts → Probe → Type 0) → EndpointParts → Type 0
AtProbe es probes P e = (p : Probe) × Contains probes p × (slice_get es p.at ≡ Some e) × P e p

module _ (u t : List Seen) (es : List EndpointParts) (probes : List Probe) (xs : List Exchange) where
  pub bad_at_ask : (name : List ℕ) (bad : BadReply) (why : FlowError) → HasProbeCause u t es probes xs why → IsRequired es why → IsNamed es why (fed.BadReply name bad) → AtRequired es name (AtProbe es probes (λ e p. IsBadAsk (Tell u e.iri) e p xs bad))
  bad_at_ask name bad (flow.BadReply at own) k marked n =
      required_named es name (AtProbe es probes (λ e p. IsBadAsk (Tell u e.iri) e p xs bad)) k.probe.at at k.endpoint k.named k.found n.0 marked
      (k.probe, k.among, k.found, subst (λ (b : BadReply). IsBadAsk (Tell u k.endpoint.iri) k.endpoint k.probe xs b) (sym n.1) k.cause)
  bad_at_ask name bad (flow.Member at) k marked n = absurd n
  bad_at_ask name bad (flow.RequestTooLong at size) k marked n = absurd n
  bad_at_ask name bad flow.Memory k marked n = absurd n

  pub long_at_ask : (name : List ℕ) (size : ℕ) (why : FlowError) → HasProbeCause u t es probes xs why → IsRequired es why → IsNamed es why (fed.RequestTooLong name size) → AtRequired es name (AtProbe es probes (λ e p. IsLongAsk p size))
  long_at_ask name size (flow.RequestTooLong at own) k marked n =
      required_named es name (AtProbe es probes (λ e p. IsLongAsk p size)) k.probe.at at k.endpoint k.named k.found n.0 marked
      (k.probe, k.among, k.found, subst (λ (l : ℕ). IsLongAsk k.probe l) (sym n.1) k.cause)
  long_at_ask name size (flow.Member at) k marked n = absurd n
  long_at_ask name size (flow.BadReply at bad) k marked n = absurd n
  long_at_ask name size flow.Memory k marked n = absurd n

-- ---- at a batch

-- what is so of a batch for an endpoint of one of the units, of no more rows than so many, whose texts are among those that were wanted
pub record AtBatch (es : List EndpointParts) (us : List unit.Unit) (block : ℕ) (texts : List Sent) (P : EndpointParts → unit.Unit → List Row → Type 0) (e : EndpointParts) : Type 0 where
  pub unit : unit.Unit
  pub of_run : Contains us unit
  pub rows : List Row
  pub sized : IsSized block rows
  pub allowed : (x : Sent) → Contains (unit_sent es unit rows) x → Contains texts x
  pub at : ℕ
  pub member : Contains unit.members at
  pub found : slice_get es at ≡ Some e
  pub cause : P e unit rows

module _ (u t : List Seen) (es : List EndpointParts) (us : List unit.Unit) (block : ℕ) (texts : List Sent) (xs : List Exchange) where
  pub bad_at_batch : (name : List ℕ) (bad : BadReply) (why : FlowError) → HasFlowCause u t es us block texts xs why → IsRequired es why → IsNamed es why (fed.BadReply name bad)
      → AtRequired es name (AtBatch es us block texts (λ e it rows. IsBadBatch (Tell u e.iri) e (record { unit = it; rows = rows }) xs bad))
  bad_at_batch name bad (flow.BadReply at own) k marked n =
      required_named es name (AtBatch es us block texts (λ e it rows. IsBadBatch (Tell u e.iri) e (record { unit = it; rows = rows }) xs bad)) k.at at k.endpoint k.named k.found n.0 marked
      (record {
        unit = k.unit;
        of_run = k.of_run;
        rows = k.batch;
        sized = k.sized;
        allowed = k.allowed;
        at = k.at;
        member = k.member;
        found = k.found;
        cause = subst (λ (b : BadReply). IsBadBatch (Tell u k.endpoint.iri) k.endpoint (record { unit = k.unit; rows = k.batch }) xs b) (sym n.1) k.cause;
      })
  bad_at_batch name bad (flow.Member at) k marked n = absurd n
  bad_at_batch name bad (flow.RequestTooLong at size) k marked n = absurd n
  bad_at_batch name bad flow.Memory k marked n = absurd n

  pub long_at_batch : (name : List ℕ) (size : ℕ) (why : FlowError) → HasFlowCause u t es us block texts xs why → IsRequired es why → IsNamed es why (fed.RequestTooLong name size)
      → AtRequired es name (AtBatch es us block texts (λ e it rows. IsLongBatch e (record { unit = it; rows = rows }) size))
  long_at_batch name size (flow.RequestTooLong at own) k marked n =
      required_named es name (AtBatch es us block texts (λ e it rows. IsLongBatch e (record { unit = it; rows = rows }) size)) k.at at k.endpoint k.named k.found n.0 marked
      (record {
        unit = k.unit;
        of_run = k.of_run;
        rows = k.batch;
        sized = k.sized;
        allowed = k.allowed;
        at = k.at;
        member = k.member;
        found = k.found;
        cause = subst (λ (l : ℕ). IsLongBatch k.endpoint (record { unit = k.unit; rows = k.batch }) l) (sym n.1) k.cause;
      })
  long_at_batch name size (flow.Member at) k marked n = absurd n
  long_at_batch name size (flow.BadReply at bad) k marked n = absurd n
  long_at_batch name size flow.Memory k marked n = absurd n

-- the text by which an endpoint is asked for a batch is among what is sent to all members of the unit
pub sent_among : (es : List EndpointParts) (u : unit.Unit) (rows : List Row) (at : ℕ) (e : EndpointParts) (text : List ℕ) → Contains u.members at → slice_get es at ≡ Some e → text_for e (record { unit = u; rows = rows }) ≡ Some text
    → Contains (unit_sent es u rows) (record { at = e; request = request_of e text })
sent_among es u rows at e text member found is =
    let sent : Sent = record { at = e; request = request_of e text } in
    let all : member_sent es u rows at ≡ sent ∷ [] = ap (to_endpoint u rows) found ∙ ap (text_sent e) is in
    contains_from (unit_sent es u rows) sent (among_flat_map (member_sent es u rows) at sent u.members (among_from u.members at member) (subst (λ (l : List Sent). Among sent l) (sym all) (inl refl)))

-- ---- the last round was refused for the cause that is told

module _ (Untold : FlowError → Type 0) (tells alone : Bool) (u t : List Seen) (es : List EndpointParts) (q : Query) (plan : List Part) (block : ℕ) where
  abbrev Causes : (ended : Result Outcome FedError) → Outcomed (IsRequired es) Untold tells alone u t es q plan block ended → FedError → Type 0
  Causes ended k e = HasOutcomeCause (IsRequired es) u t es plan k.found block k.calls k.texts k.of_runs e

  bad_cause : (name : List ℕ) (bad : BadReply) (ended : Result Outcome FedError) → (k : Outcomed (IsRequired es) Untold tells alone u t es q plan block ended) → IsLast ended (Err (fed.BadReply name bad)) → Causes ended k (fed.BadReply name bad)
  bad_cause name bad (Ok outcome) k same = absurd same
  bad_cause name bad (Err e) k same = subst (HasOutcomeCause (IsRequired es) u t es plan k.found block k.calls k.texts k.of_runs) (sym same) k.cause

  long_cause : (name : List ℕ) (size : ℕ) (ended : Result Outcome FedError) → (k : Outcomed (IsRequired es) Untold tells alone u t es q plan block ended) → IsLast ended (Err (fed.RequestTooLong name size))
      → Causes ended k (fed.RequestTooLong name size)
  long_cause name size (Ok outcome) k same = absurd same
  long_cause name size (Err e) k same = subst (HasOutcomeCause (IsRequired es) u t es plan k.found block k.calls k.texts k.of_runs) (sym same) k.cause

  pub service_at_last : (iri : List ℕ) (ended : Result Outcome FedError) → (k : Outcomed (IsRequired es) Untold tells alone u t es q plan block ended) → IsLast ended (Err (fed.Service iri)) → HasRefusal u t es k.calls (fed.Service iri)
  service_at_last iri (Ok outcome) k same = absurd same
  service_at_last iri (Err e) k same = by (subst (HasOutcomeCause (IsRequired es) u t es plan k.found block k.calls k.texts k.of_runs) (sym same) k.cause)
    where
      by : HasOutcomeCause (IsRequired es) u t es plan k.found block k.calls k.texts k.of_runs (fed.Service iri) → HasRefusal u t es k.calls (fed.Service iri)
      by (inl b) = absurd (no_service_named es iri b.0 b.2)
      by (inr r) = r

  -- at a batch, or at an occurrence
  pub bad_at_last : (name : List ℕ) (bad : BadReply) (ended : Result Outcome FedError) → (k : Outcomed (IsRequired es) Untold tells alone u t es q plan block ended) → IsLast ended (Err (fed.BadReply name bad))
      → AtRequired es name (AtBatch es (units_in (tasks_with plan k.found)) block k.texts (λ e it rows. IsBadBatch (Tell u e.iri) e (record { unit = it; rows = rows }) k.of_runs bad)) ⊎ AtNamed es name (λ e. HasFirstRefused k.calls (cause.Bad bad) e.iri)
  bad_at_last name bad ended k same = by (bad_cause name bad ended k same)
    where
      by : Causes ended k (fed.BadReply name bad)
          → AtRequired es name (AtBatch es (units_in (tasks_with plan k.found)) block k.texts (λ e it rows. IsBadBatch (Tell u e.iri) e (record { unit = it; rows = rows }) k.of_runs bad)) ⊎ AtNamed es name (λ e. HasFirstRefused k.calls (cause.Bad bad) e.iri)
      by (inl b) = inl (bad_at_batch u t es (units_in (tasks_with plan k.found)) block k.texts k.of_runs name bad b.0 b.1 b.3 b.2)
      by (inr r) = inr r

  pub long_at_last : (name : List ℕ) (size : ℕ) (ended : Result Outcome FedError) → (k : Outcomed (IsRequired es) Untold tells alone u t es q plan block ended) → IsLast ended (Err (fed.RequestTooLong name size))
      → AtRequired es name (AtBatch es (units_in (tasks_with plan k.found)) block k.texts (λ e it rows. IsLongBatch e (record { unit = it; rows = rows }) size)) ⊎ AtNamed es name (λ e. HasFirstRefused k.calls (cause.TooLong size) e.iri)
  long_at_last name size ended k same = by (long_cause name size ended k same)
    where
      by : Causes ended k (fed.RequestTooLong name size)
          → AtRequired es name (AtBatch es (units_in (tasks_with plan k.found)) block k.texts (λ e it rows. IsLongBatch e (record { unit = it; rows = rows }) size)) ⊎ AtNamed es name (λ e. HasFirstRefused k.calls (cause.TooLong size) e.iri)
      by (inl b) = inl (long_at_batch u t es (units_in (tasks_with plan k.found)) block k.texts k.of_runs name size b.0 b.1 b.3 b.2)
      by (inr r) = inr r

-- ---- an occurrence that was refused first

-- it is one of those that were invoked
pub refused_among : (calls : List Call) (why : DownCause) (iri : List ℕ) (h : HasFirstRefused calls why iri) → Among h.refused calls
refused_among calls why iri h = subst (Among h.refused) (sym h.are) (among_right h.refused h.before (h.refused ∷ h.behind) (inl refl))

-- which are the query's
pub of_query : (q : Query) (calls : List Call) (c : Call) → AreAllOrNone calls (occurrences q) → Among c calls → Contains (occurrences q) c.of
of_query q calls c (inl none) m = absurd (subst (λ (l : List Call). Among c l) none m)
of_query q calls c (inr are) m = subst (λ (l : List Occurrence). Contains l c.of) are (contains_from (map (λ (x : Call). x.of) calls) c.of (among_map (λ (x : Call). x.of) c calls m))
