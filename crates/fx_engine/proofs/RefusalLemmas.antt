-- The outcome of a query whose occurrences of SERVICE all passed, or of which one was refused.
use Rattle.std.proofs.Common.{◌≡◌, ◌≢◌, ◌∙◌, ◌⊎◌, ap, sym, subst, refl, inl, inr, ℕ, ◌+◌, ◌<◌, ◌≤◌, Bool, true, cond, List, [], ◌∷◌, ◌++◌, map, length, None, Some, All, Contains, IsTrue, Result, Ok, Err, append-nil, arith, bytes_eq, slice_get}
use Rattle.std.proofs.lemmas.List.Elements.{All-nil}
use Rattle.std.proofs.lemmas.Slice.Eq.{bytes_eq-Decides}
use Rattle.fx_terms.proofs.SetLemmas.{Among}
use Rattle.fx_outside.specs.Endpoints.{EndpointParts}
use Rattle.fx_algebra.specs.Answers.{answer as answer_of}
use Rattle.fx_algebra.specs.Cuts.{seeds, stations}
use Rattle.fx_algebra.specs.Graphs.{union}
use Rattle.fx_algebra.specs.Solutions.{Bindings}
use Rattle.fx_algebra.specs.declared.answers.Answer.{Answer}
use Rattle.fx_algebra.specs.declared.queries.Query.{Query}
use Rattle.fx_algebra.specs.declared.units.Unit as unit
use Rattle.fx_algebra.proofs.CutLemmas.{seeds_for_each}
use Rattle.fx_algebra.proofs.MemberLemmas.{among_map, among_right}
use Rattle.fx_grammar.specs.Accepted.{Accepted}
use Rattle.fx_plan.specs.declared.parts.Part.{Part}
use Rattle.fx_flows.specs.Flows.{IsBatchRead}
use Rattle.fx_flows.specs.RunFlows.{HasFlowCause}
use Rattle.fx_flows.specs.declared.flows.FlowError.{FlowError}
use Rattle.fx_flows.specs.declared.flows.FlowError.TheVariants as flow
use Rattle.fx_pool.specs.declared.jobs.BadReply.{BadReply}
use Rattle.fx_traffic.specs.Gains.{faults_at}
use Rattle.fx_traffic.specs.Sent.{Sent}
use Rattle.fx_traffic.proofs.GainLemmas.{gain_laws}
use Rattle.fx_wire.specs.Exchanges.{Exchange, Seen}
use Rattle.fx_walks.specs.AnswersAsked.{AnswerDue, AnswerGiven}
use Rattle.fx_engine.specs.Asked.{Asked}
use Rattle.fx_outcomes.specs.Calls.{AreAllKnown, Call, HasFirstRefused, IsPassed, down_in, failed, failure_of, failures_at, occurrences}
use Rattle.fx_walks.specs.GroupsAsked.{units_in}
use Rattle.fx_outcomes.specs.Invocations.{AreInvoked, AreLost, Calling, IsAt, IsStopped}
use Rattle.fx_outcomes.specs.Mediation.{FailedBeside, IsNamed}
use Rattle.fx_services.specs.Noted.{cause_of, places}
use Rattle.fx_outcomes.specs.Order.{AreGiven}
use Rattle.fx_outcomes.specs.RoundEnds.{IsAbandoned}
use Rattle.fx_outcomes.specs.Rounds.{IsLeftBy, IsMarked}
use Rattle.fx_outcomes.specs.declared.rounds.Left.{Left}
use Rattle.fx_outcomes.specs.declared.rounds.Round.{Round}
use Rattle.fx_outcomes.specs.Outcomes.{HasBatchEvent, HasBatchRefusal, HasRefusal, IsPlacedAt, IsTold, Outcomed}
use Rattle.fx_walks.specs.Tasks.{tasks_with}
use Rattle.fx_walks.specs.Unknown.{unknown_of}
use Rattle.fx_services.specs.declared.noted.Down.{Down}
use Rattle.fx_services.specs.declared.noted.DownCause.{DownCause}
use Rattle.fx_services.specs.declared.noted.DownCause.TheVariants as cause
use Rattle.fx_outcomes.specs.declared.federated.FedError.{FedError}
use Rattle.fx_outcomes.specs.declared.federated.FedError.TheVariants as fed
use Rattle.fx_outcomes.specs.declared.federated.Outcome.{Outcome}
use Rattle.fx_services.specs.declared.services.ServiceError.{ServiceError}
use Rattle.fx_services.specs.declared.services.ServiceError.TheVariants as error
use Rattle.fx_engine.specs.declared.rows.RowsError.{RowsError}
use Rattle.fx_engine.specs.declared.rows.RowsError.TheVariants as rows_error
use Rattle.fx_engine.proofs.AskedLemmas.{flow_cause_behind, unasked}
use Rattle.fx_outcomes.proofs.CallLemmas.{failures_behind, passed_known}
use Rattle.fx_outcomes.proofs.ChoiceLemmas.{get_below, its_name}
use Rattle.fx_services.proofs.WentLemmas.{found_here}
use Rattle.fx_outcomes.proofs.KnownLemmas.{plain_is_known}
use Rattle.fx_engine.proofs.OutcomeLemmas.{its_answer, none_but_theirs, outcomed}
use Rattle.fx_walks.proofs.StationLemmas.{no_run_sent}
use Rattle.fx_pool.proofs.WiresLemmas.{AllTell}

-- what was asked for where it came to a refusal
abbrev pub refused_as_told : List EndpointParts → Query → List Part → List (List Bindings) → ℕ → Bool → Bool → List Seen → List Seen → RowsError → Type 0
refused_as_told es q plan found block tells alone before after why = Asked {X = Answer} tells alone before after es (tasks_with plan found) block (AnswerGiven es block (tasks_with plan found) q) (AnswerDue es block (tasks_with plan found) q) (Err why)

-- ---- a batch failed beside the occurrences

-- the faults of its endpoint rose behind those that were counted at the occurrences
failed_beside : (s t u : List Seen) (es : List EndpointParts) (q : Query) (block : ℕ) (us : List unit.Unit) (wanted : List Sent) (xs : List Exchange) (calls : List Call) → ((address : List ℕ) → faults_at s address + failures_at address calls ≤ faults_at t address)
    → AreAllKnown calls (occurrences q) → (why : FlowError) (e : FedError) → HasFlowCause t u es us block wanted xs why → IsNamed es why e → FailedBeside s u es q calls e
failed_beside s t u es q block us wanted xs calls counted known (flow.Member at) (fed.Member name) k n =
    let low : faults_at s k.endpoint.iri + failures_at k.endpoint.iri calls ≤ faults_at t k.endpoint.iri = counted k.endpoint.iri in
    let rose : faults_at t k.endpoint.iri < faults_at u k.endpoint.iri = k.cause in
    (known, (k.endpoint, found_here es k.at k.endpoint k.found, its_name es k.at at k.endpoint name k.named k.found n, omega (arith, low, rose)))
failed_beside s t u es q block us wanted xs calls counted known (flow.BadReply at bad) (fed.Member name) k n = absurd n
failed_beside s t u es q block us wanted xs calls counted known (flow.RequestTooLong at size) (fed.Member name) k n = absurd n
failed_beside s t u es q block us wanted xs calls counted known flow.Memory (fed.Member name) k n = absurd n
failed_beside s t u es q block us wanted xs calls counted known why (fed.Service iri) k n = tt
failed_beside s t u es q block us wanted xs calls counted known why (fed.BadReply name bad) k n = tt
failed_beside s t u es q block us wanted xs calls counted known why (fed.RequestTooLong name size) k n = tt
failed_beside s t u es q block us wanted xs calls counted known why (fed.UnknownService iri) k n = tt
failed_beside s t u es q block us wanted xs calls counted known why fed.Memory k n = tt

-- the refusal of a member that there is has a name
named_for : (es : List EndpointParts) (why : FlowError) (l : Left) → IsLeftBy why l → IsMarked true es l.at → (e : FedError) × IsNamed es why e × (e ≢ fed.Memory)
named_for es (flow.Member at) l its m = (fed.Member m.0.name, (m.0, ap (λ (n : ℕ). slice_get es n) (sym (ap (λ (x : Left). x.at) its)) ∙ m.1, refl), λ h. cc)
named_for es (flow.BadReply at bad) l its m = (fed.BadReply m.0.name bad, ((m.0, ap (λ (n : ℕ). slice_get es n) (sym (ap (λ (x : Left). x.at) its)) ∙ m.1, refl), refl), λ h. cc)
named_for es (flow.RequestTooLong at size) l its m = (fed.RequestTooLong m.0.name size, ((m.0, ap (λ (n : ℕ). slice_get es n) (sym (ap (λ (x : Left). x.at) its)) ∙ m.1, refl), refl), λ h. cc)
named_for es flow.Memory l its m = absurd its

module _ (tells alone : Bool) (s t u : List Seen) (a : AllTell tells s) (b : AllTell tells t) (es : List EndpointParts) (q : Query) (text : List ℕ) (accepted : Accepted text q) (plan : List Part) (block : ℕ) (found : List (List Bindings)) where
  abbrev Came : Result Answer RowsError → Type 0
  Came r = Asked tells alone t u es (tasks_with plan found) block (AnswerGiven es block (tasks_with plan found) q) (AnswerDue es block (tasks_with plan found) q) r

  -- ---- all passed

  module _ (down : List Down) (i : AreInvoked tells alone s t es (occurrences q) down found) where
    abbrev calls : List Call
    calls = i.calls ++ []

    same_calls : calls ≡ i.calls
    same_calls = append-nil i.calls

    its_calling : Calling tells alone s t es calls
    its_calling = subst (Calling tells alone s t es) (sym same_calls) i.calling

    exactly : IsTrue alone → (address : List ℕ) → faults_at t address ≡ faults_at s address + failures_at address calls
    exactly is address = subst (λ (v : List Call). faults_at t address ≡ faults_at s address + failures_at address v) (sym same_calls) (i.exact is address)

    are_all : map (λ (c : Call). c.of) calls ≡ occurrences q
    are_all = ap (map (λ (c : Call). c.of)) same_calls ∙ i.are

    pub all_given : (Told Untold : FlowError → Type 0) (outcome : Outcome) (answer : Answer) (k : Came (Ok answer)) → outcome.answer ≡ answer → outcome.down ≡ down → Outcomed Told Untold tells alone s u es q plan block (Ok outcome)
    all_given Told Untold outcome answer k same gone =
        let is_down : outcome.down ≡ down_in calls = gone ∙ i.down_are ∙ ap down_in (sym same_calls) in
        outcomed tells alone s t u a b es q text accepted plan block found i.calls [] i.passed i.rows_are its_calling (inr are_all) (Ok answer) k Told Untold (Ok outcome) k.unfailed exactly are_all (subst (All IsPassed) (sym same_calls) i.passed) is_down
        (λ graphs its over.
        same
        ∙ its_answer tells alone s t u a b es q text accepted plan block found i.calls [] i.passed i.rows_are its_calling (inr are_all) (Ok answer) k answer refl graphs its over
        ∙ ap (λ (v : List Down). answer_of q (union graphs) its (places v)) (sym is_down)) k.whole k.faultless tt tt tt

    known_calls : AreAllKnown calls (occurrences q)
    known_calls = record { are = are_all; known = passed_known calls (subst (All IsPassed) (sym same_calls) i.passed) }

    -- the cause, behind the occurrences
    its_cause : (why : FlowError) (k : Came (Err (rows_error.Flow why))) → HasFlowCause s u es (units_in (tasks_with plan found)) block k.wanted k.exchanges why
    its_cause why k = flow_cause_behind s t u i.calling.after_all k.exchanges k.exchanges (λ x m. m) es (units_in (tasks_with plan found)) block [] k.wanted why k.cause

    pub all_refused : (Told Untold : FlowError → Type 0) (why : FlowError) (e : FedError) (k : Came (Err (rows_error.Flow why))) → IsNamed es why e → Told why → Outcomed Told Untold tells alone s u es q plan block (Err e)
    all_refused Told Untold why e k n may =
        let refused : HasBatchRefusal Told s u es plan found block k.wanted k.exchanges e = (why, its_cause why k, n, may) in
        outcomed tells alone s t u a b es q text accepted plan block found i.calls [] i.passed i.rows_are its_calling (inr are_all) (Err (rows_error.Flow why)) k Told Untold (Err e) tt tt tt tt tt tt tt tt (inl refused)
        (failed_beside s t u es q block (units_in (tasks_with plan found)) k.wanted k.exchanges calls its_calling.counted known_calls why e k.cause n) (inl refused)

    -- memory ran out
    pub all_lost : (Told Untold : FlowError → Type 0) (why : FlowError) (k : Came (Err (rows_error.Flow why))) → Told flow.Memory → Outcomed Told Untold tells alone s u es q plan block (Err fed.Memory)
    all_lost Told Untold why k may =
        let refused : HasBatchRefusal Told s u es plan found block k.wanted k.exchanges fed.Memory = (flow.Memory, tt, tt, may) in
        outcomed tells alone s t u a b es q text accepted plan block found i.calls [] i.passed i.rows_are its_calling (inr are_all) (Err (rows_error.Flow why)) k Told Untold (Err fed.Memory) tt tt tt tt tt tt tt tt (inl refused) tt (inl refused)

    -- The round is abandoned where the refusal names a member that is left out: what is known is what is where that is told.
    pub all_abandoned : (why : FlowError) (k : Came (Err (rows_error.Flow why))) (l : Left) → IsLeftBy why l → IsMarked true es l.at → (r : Round) → r.left ≡ l ∷ [] → r.down ≡ places down → IsAbandoned tells alone s u es q plan block r
    unfolding outcomed
    all_abandoned why k l its marked r one gone =
        let same = λ (it : FlowError). it ≡ why in
        let told = named_for es why l its marked in
        let refused : HasBatchRefusal same s u es plan found block k.wanted k.exchanges told.0 = (why, its_cause why k, told.1, refl) in
        record {
          why = why;
          error = told.0;
          named = told.1;
          of_member = told.2;
          left = l;
          its = its;
          optional = marked;
          left_is = one;
          went =
              outcomed tells alone s t u a b es q text accepted plan block found i.calls [] i.passed i.rows_are its_calling (inr are_all) (Err (rows_error.Flow why)) k same same (Err told.0) tt tt tt tt tt tt tt tt (inl refused)
              (failed_beside s t u es q block (units_in (tasks_with plan found)) k.wanted k.exchanges calls its_calling.counted known_calls why told.0 k.cause told.1) (inl refused);
          cause = its_cause why k;
          all_called = are_all;
          passed = subst (All IsPassed) (sym same_calls) i.passed;
          down_is = gone ∙ ap places i.down_are ∙ ap (λ (v : List Call). places (down_in v)) (sym same_calls);
        }

  -- ---- one was refused

  module _ (e : ServiceError) (h : IsStopped tells alone s t es (occurrences q) found e) where
    abbrev their_calls : List Call
    their_calls = h.front ++ h.refused ∷ h.behind

    -- an endpoint stands under a number once
    one_there : (at : ℕ) (x y : EndpointParts) → slice_get es at ≡ Some x → slice_get es at ≡ Some y → x ≡ y
    one_there at x y p q = let both : Some x ≡ Some y = sym p ∙ q in cc

    first_so : (why : DownCause) (iri : List ℕ) → cause_of e ≡ why → h.refused.of.iri ≡ iri → HasFirstRefused their_calls why iri
    first_so why iri same at = record { before = h.front; refused = h.refused; behind = h.behind; are = refl; passed = h.passed; plain = h.plain; came = h.came ∙ ap failed same; at = at }

    rose : (iri : List ℕ) → h.refused.of.iri ≡ iri → cause_of e ≡ cause.Failed → faults_at t iri ≤ faults_at u iri → faults_at s iri < faults_at u iri
    rose iri same failing low =
        let all : faults_at s iri + failures_at iri their_calls ≤ faults_at t iri = h.calling.counted iri in
        let sum : failures_at iri their_calls ≡ failures_at iri h.front + failures_at iri (h.refused ∷ h.behind) = failures_behind iri h.front (h.refused ∷ h.behind) in
        let here : bytes_eq h.refused.of.iri iri ≡ true = (bytes_eq-Decides h.refused.of.iri iri).1 same in
        let one : cond {A = ℕ} (bytes_eq h.refused.of.iri iri) (failure_of h.refused.came) 0 ≡ 1 =
        ap (λ (v : Bool). cond {A = ℕ} v (failure_of h.refused.came) 0) here
        ∙ ap failure_of (h.came ∙ ap failed failing) in
        omega (arith, all, sum, one, low)

    refusal_so : (w : ServiceError) (fe : FedError) → ((address : List ℕ) → faults_at t address ≤ faults_at u address) → w ≡ e → IsTold es w fe → HasRefusal s u es their_calls fe
    refusal_so w fed.Memory low same told = tt
    refusal_so (error.Failed at) (fed.Service iri) low same told =
        let here = subst (IsAt es h.refused.of.iri) (sym same) h.at in
        let one : told.0 ≡ here.0 = one_there at told.0 here.0 told.1 here.1 in
        let address : h.refused.of.iri ≡ iri = sym here.2 ∙ ap (λ (x : EndpointParts). x.iri) (sym one) ∙ told.2 in
        let its : cause_of e ≡ cause.Failed = ap cause_of (sym same) in (
          first_so cause.Failed iri its address,
          (told.0, found_here es at told.0 told.1, told.2),
          rose iri address its (low iri),
        )
    refusal_so (error.Bad at bad) (fed.BadReply name other) low same told =
        let here = subst (IsAt es h.refused.of.iri) (sym same) h.at in
        let one : told.0.0 ≡ here.0 = one_there at told.0.0 here.0 told.0.1 here.1 in
        let address : h.refused.of.iri ≡ told.0.0.iri = sym here.2 ∙ ap (λ (x : EndpointParts). x.iri) (sym one) in
        (told.0.0, found_here es at told.0.0 told.0.1, told.0.2, first_so (cause.Bad other) told.0.0.iri (ap cause_of (sym same) ∙ ap (λ (v : BadReply). cause.Bad v) (sym told.1)) address)
    refusal_so (error.TooLong at size) (fed.RequestTooLong name other) low same told =
        let here = subst (IsAt es h.refused.of.iri) (sym same) h.at in
        let one : told.0.0 ≡ here.0 = one_there at told.0.0 here.0 told.0.1 here.1 in
        let address : h.refused.of.iri ≡ told.0.0.iri = sym here.2 ∙ ap (λ (x : EndpointParts). x.iri) (sym one) in
        (told.0.0, found_here es at told.0.0 told.0.1, told.0.2, first_so (cause.TooLong other) told.0.0.iri (ap cause_of (sym same) ∙ ap (λ (v : ℕ). cause.TooLong v) (sym told.1)) address)
    refusal_so error.Unknown (fed.Member name) low same told = absurd told
    refusal_so error.Unknown (fed.Service iri) low same told = absurd told
    refusal_so error.Unknown (fed.BadReply name other) low same told = absurd told
    refusal_so error.Unknown (fed.RequestTooLong name other) low same told = absurd told
    refusal_so error.Unknown (fed.UnknownService iri) low same told = absurd told
    refusal_so (error.Failed at) (fed.Member name) low same told = absurd told
    refusal_so (error.Failed at) (fed.BadReply name other) low same told = absurd told
    refusal_so (error.Failed at) (fed.RequestTooLong name other) low same told = absurd told
    refusal_so (error.Failed at) (fed.UnknownService iri) low same told = absurd told
    refusal_so (error.Bad at bad) (fed.Member name) low same told = absurd told
    refusal_so (error.Bad at bad) (fed.Service iri) low same told = absurd told
    refusal_so (error.Bad at bad) (fed.RequestTooLong name other) low same told = absurd told
    refusal_so (error.Bad at bad) (fed.UnknownService iri) low same told = absurd told
    refusal_so (error.TooLong at size) (fed.Member name) low same told = absurd told
    refusal_so (error.TooLong at size) (fed.Service iri) low same told = absurd told
    refusal_so (error.TooLong at size) (fed.BadReply name other) low same told = absurd told
    refusal_so (error.TooLong at size) (fed.UnknownService iri) low same told = absurd told

    known_all : AreAllKnown their_calls (occurrences q)
    known_all = record { are = h.are; known = h.known }

    -- so no endpoint is named as failed
    told_beside : (w : ServiceError) (fe : FedError) → IsTold es w fe → FailedBeside s u es q their_calls fe
    told_beside (error.Failed at) (fed.Member name) told = absurd told
    told_beside (error.Bad at bad) (fed.Member name) told = absurd told
    told_beside (error.TooLong at size) (fed.Member name) told = absurd told
    told_beside error.Unknown (fed.Member name) told = absurd told
    told_beside w (fed.Service iri) told = tt
    told_beside w (fed.BadReply name bad) told = tt
    told_beside w (fed.RequestTooLong name size) told = tt
    told_beside w (fed.UnknownService iri) told = tt
    told_beside w fed.Memory told = tt

    -- the occurrence is told, where what was asked for beside it was given, or a batch was refused of which the like isn't told
    told_refused : (Told Untold : FlowError → Type 0) (v : Result Answer RowsError) (k : Came v) (fe : FedError) → IsTold es e fe
        → HasBatchEvent Untold s u es plan found block k.wanted k.exchanges ⊎ AreGiven alone s u their_calls (IsBatchRead (Contains (units_in (tasks_with plan found)))) k.left k.exchanges → Outcomed Told Untold tells alone s u es q plan block (Err fe)
    told_refused Told Untold v k fe told given =
        outcomed tells alone s t u a b es q text accepted plan block found h.front (h.refused ∷ h.behind) h.passed h.rows_are h.calling (inr h.are) v k Told Untold (Err fe) tt tt tt tt tt tt tt tt
        (inr (refusal_so e fe (λ address. gain_laws.never_fall t u address k.went.after_all) refl told)) (told_beside e fe told) (inr given)

    all_given_before : (v : Result Answer RowsError) (k : Came v) → k.failed ≡ 0 → k.left ≡ [] → All (IsBatchRead (Contains (units_in (tasks_with plan found)))) k.exchanges
        → AreGiven alone s u their_calls (IsBatchRead (Contains (units_in (tasks_with plan found)))) k.left k.exchanges
    all_given_before v k none whole read =
        record { whole = whole; read = read; exact = λ is. none_but_theirs tells alone s t u a b es q text accepted plan block found h.front (h.refused ∷ h.behind) h.passed h.rows_are h.calling (inr h.are) v k none h.exact is }

    -- it was come to behind the runs before it, or these were all of them
    pub told_behind : (Told Untold : FlowError → Type 0) (k : Came (Err rows_error.Refused)) (fe : FedError) → IsTold es e fe → Outcomed Told Untold tells alone s u es q plan block (Err fe)
    told_behind Told Untold k fe told = told_refused Told Untold (Err rows_error.Refused) k fe told (inr (all_given_before (Err rows_error.Refused) k k.unfailed k.whole k.faultless))

    pub told_at_the_end : (Told Untold : FlowError → Type 0) (answer : Answer) (k : Came (Ok answer)) (fe : FedError) → IsTold es e fe → Outcomed Told Untold tells alone s u es q plan block (Err fe)
    told_at_the_end Told Untold answer k fe told = told_refused Told Untold (Ok answer) k fe told (inr (all_given_before (Ok answer) k k.unfailed k.whole k.faultless))

    its_run_cause : (why : FlowError) (k : Came (Err (rows_error.Flow why))) → HasFlowCause s u es (units_in (tasks_with plan found)) block k.wanted k.exchanges why
    its_run_cause why k = flow_cause_behind s t u h.calling.after_all k.exchanges k.exchanges (λ x m. m) es (units_in (tasks_with plan found)) block [] k.wanted why k.cause

    -- a run before it was refused, of which the like isn't told
    pub told_instead : (Told Untold : FlowError → Type 0) (why : FlowError) (k : Came (Err (rows_error.Flow why))) (fe : FedError) → IsTold es e fe → Untold why → Outcomed Told Untold tells alone s u es q plan block (Err fe)
    told_instead Told Untold why k fe told may = told_refused Told Untold (Err (rows_error.Flow why)) k fe told (inl (why, its_run_cause why k, may))

    pub run_refused : (Told Untold : FlowError → Type 0) (why : FlowError) (fe : FedError) (k : Came (Err (rows_error.Flow why))) → IsNamed es why fe → Told why → Outcomed Told Untold tells alone s u es q plan block (Err fe)
    run_refused Told Untold why fe k n may =
        let refused : HasBatchRefusal Told s u es plan found block k.wanted k.exchanges fe = (why, its_run_cause why k, n, may) in
        outcomed tells alone s t u a b es q text accepted plan block found h.front (h.refused ∷ h.behind) h.passed h.rows_are h.calling (inr h.are) (Err (rows_error.Flow why)) k Told Untold (Err fe) tt tt tt tt tt tt tt tt (inl refused)
        (failed_beside s t u es q block (units_in (tasks_with plan found)) k.wanted k.exchanges their_calls h.calling.counted known_all why fe k.cause n) (inl refused)

-- ---- memory ran out while they were invoked

pub lost_outcomed : (tells alone : Bool) (s t : List Seen) (a : AllTell tells s) (b : AllTell tells t) (es : List EndpointParts) (q : Query) (text : List ℕ) → Accepted text q → (plan : List Part) (block : ℕ) → AreLost tells alone s t es (occurrences q)
    → (Told Untold : FlowError → Type 0) → Told flow.Memory → Outcomed Told Untold tells alone s t es q plan block (Err fed.Memory)
lost_outcomed tells alone s t a b es q text accepted plan block h Told Untold may =
    let tasks = tasks_with plan [] in
    let k : Asked tells alone t t es tasks block (AnswerGiven es block tasks q) (AnswerDue es block tasks q) (Err (rows_error.Flow flow.Memory)) =
    unasked tells alone es tasks block (AnswerGiven es block tasks q) (AnswerDue es block tasks q) t
    (λ graphs served is right. no_run_sent es graphs block (stations q) (seeds q (union graphs) served.graphs served.down) (seeds_for_each q (union graphs) served.graphs served.down)) in
    outcomed tells alone s t t a b es q text accepted plan block [] [] h.calls (All-nil IsPassed) refl h.calling h.called (Err (rows_error.Flow flow.Memory)) k Told Untold (Err fed.Memory) tt tt tt tt tt tt tt tt (inr tt) tt (inl (flow.Memory, tt, tt, may))

-- ---- the number in a reason

pub placed_so : (tells alone : Bool) (s t : List Seen) (es : List EndpointParts) (q : Query) (text : List ℕ) → Accepted text q → unknown_of es q ≡ None → (found : List (List Bindings)) (e : ServiceError) → IsStopped tells alone s t es (occurrences q) found e → IsPlacedAt (length es) e
placed_so tells alone s t es q text accepted known found e h = by e h.at
  where
    its : Among h.refused.of (occurrences q)
    its = subst (Among h.refused.of) h.are (among_map (λ (c : Call). c.of) h.refused (h.front ++ h.refused ∷ h.behind) (among_right h.refused h.front (h.refused ∷ h.behind) (inl refl)))

    by : (w : ServiceError) → IsAt es h.refused.of.iri w → IsPlacedAt (length es) w
    by (error.Failed at) is = get_below es at is.0 is.1
    by (error.Bad at bad) is = get_below es at is.0 is.1
    by (error.TooLong at size) is = get_below es at is.0 is.1
    by error.Unknown is = absurd (plain_is_known es text q accepted known h.refused.of its h.plain is)
