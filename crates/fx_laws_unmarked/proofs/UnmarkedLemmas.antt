-- Where queries can do without no endpoint, a query that was asked in rounds was asked in one round, and so it is of a plan.
use Rattle.std.proofs.Common.{◌≡◌, ◌∙◌, ap, sym, subst, refl, inl, inr, ◌⊎◌, ℕ, ◌+◌, ◌≤◌, Bool, true, false, cond, List, [], ◌∷◌, ◌++◌, length, map, replicate, reverse, None, Ok, Err, IfErr, IfOk, IsTrue, Result, append-nil, append_assoc, arith}
use Rattle.std.specs.Prelude.{All, Contains, IsPermutation, filter}
use Rattle.std.specs.List.{zip}
use Rattle.std.proofs.lemmas.List.Elements.{All-append, All-nil, All-weaker, Contains-append_left, Contains-append_right}
use Rattle.std.proofs.lemmas.List.Sorted.{Contains-permutation, IsPermutation-append_right, IsPermutation-refl, IsPermutation-trans}
use Rattle.fx_terms.specs.declared.triples.Triple.{Triple}
use Rattle.fx_terms.proofs.SetLemmas.{Among, among_from, contains_from}
use Rattle.fx_outside.specs.Endpoints.{EndpointParts}
use Rattle.fx_algebra.specs.Answers.{answer as answer_of}
use Rattle.fx_algebra.specs.Cuts.{seeds, stations}
use Rattle.fx_algebra.specs.Graphs.{union}
use Rattle.fx_algebra.specs.Solutions.{Bindings}
use Rattle.fx_algebra.specs.Units.{AreAllKept, is_kept}
use Rattle.fx_algebra.specs.declared.queries.Query.{Query}
use Rattle.fx_algebra.proofs.CutLemmas.{seeds_for_each}
use Rattle.fx_algebra.proofs.KeptLemmas.{all_kept}
use Rattle.fx_grammar.specs.Accepted.{IsSpellable}
use Rattle.fx_plan.specs.Explained.{HasMembers}
use Rattle.fx_plan.specs.declared.parts.Part.{Part}
use Rattle.fx_keys.specs.declared.probes.Probe.{Probe}
use Rattle.fx_sources.specs.Probes.{Entry, chosen, learned, missing, told}
use Rattle.fx_sources.specs.Sources as source
use Rattle.fx_sources.proofs.KeptLemmas.{all_chosen_kept, all_probes_kept, replicate_kept}
use Rattle.fx_sources.proofs.SourceLemmas.{below_missing}
use Rattle.fx_traffic.specs.Batches.{IsBatchText}
use Rattle.fx_traffic.specs.Gains.{faults_at}
use Rattle.fx_traffic.specs.Sent.{Sent, Sends}
use Rattle.fx_traffic.specs.Traffic.{AreAsked}
use Rattle.fx_traffic.proofs.GainLemmas.{gain_laws}
use Rattle.fx_traffic.proofs.SentLemmas.{sent_laws}
use Rattle.fx_wire.specs.Exchanges.{Exchange, Seen}
use Rattle.fx_walks.specs.GroupsAsked.{units_in}
use Rattle.fx_walks.specs.RunsSent.{AreRunsSent}
use Rattle.fx_walks.specs.Sections.{parts_by, sections}
use Rattle.fx_walks.specs.Tasks.{tasks_with}
use Rattle.fx_walks.specs.Unknown.{unknown_of}
use Rattle.fx_walks.specs.declared.tasks.Task.{Task}
use Rattle.fx_walks.proofs.StationLemmas.{no_run_sent}
use Rattle.fx_pool.proofs.WiresLemmas.{gained_both, still_tell_all}
use Rattle.fx_flows.specs.Flows.{IsBatchRead}
use Rattle.fx_flows.specs.declared.flows.FlowError.{FlowError}
use Rattle.fx_flows.specs.declared.flows.FlowError.TheVariants as flow
use Rattle.fx_services.specs.Noted.{places}
use Rattle.fx_laws_unmarked.proofs.AskedLemmas.{AskedAll}
use Rattle.fx_outcomes.specs.Asks.{IsAnsweredBy, IsAskRead}
use Rattle.fx_outcomes.specs.Calls.{AgreesWith, AreCalls, IsPassed, down_in, failures_at, occurrences}
use Rattle.fx_outcomes.specs.InRounds.{FederatedInRounds, HoldsAnswers, IsLast, IsRefusedAtAsks, IsUnasked, PlannedByAnswers, PlannedInRounds, WentInRounds, plan_over}
use Rattle.fx_outcomes.specs.Mediation.{AreKnown, FailedBeside, IsNamed, KnowsServices, Serve}
use Rattle.fx_laws_unmarked.specs.Causes.{FailedAtAsk, HasFedCause, HasPlanCause, IsUnitBefore, IsUnitOf, AreAnswered}
use Rattle.fx_laws_unmarked.specs.Federated.{Federated, HasKept, HoldsBehind, IsRead, Planned}
use Rattle.fx_outcomes.specs.Order.{AreGiven}
use Rattle.fx_outcomes.specs.Outcomes.{AllTell, HasBatchEvent, HasBatchRefusal, HasOutcomeCause, IsPlannedOver, Outcomed}
use Rattle.fx_outcomes.specs.RoundEnds.{LeavesOut}
use Rattle.fx_outcomes.specs.Rounds.{AreAnswers, AskedMembers, IsRequired, everybody, kept_entries, without_all}
use Rattle.fx_outcomes.specs.declared.federated.FedError.{FedError}
use Rattle.fx_outcomes.specs.declared.federated.FedError.TheVariants as fed
use Rattle.fx_outcomes.specs.declared.federated.Outcome.{Outcome}
use Rattle.fx_outcomes.specs.declared.rounds.Answers.{Answers}
use Rattle.fx_outcomes.specs.declared.rounds.Left.{Left}
use Rattle.fx_outcomes.specs.declared.rounds.OutcomeInRounds.{OutcomeInRounds}
use Rattle.fx_outcomes.specs.declared.rounds.PlanInRounds.{PlanInRounds}
use Rattle.fx_outcomes.proofs.CallLemmas.{calls_earlier, first_of}
use Rattle.fx_laws_unmarked.proofs.PlanLemmas.{all_kept as nothing_changed, has_kept, has_learned, parts_are_by_graphs, planned, planned_refused, planned_unasked, stays}
use Rattle.fx_outcomes.proofs.KeptPlanLemmas.{kept_parts}
use Rattle.fx_rounds.proofs.GainedLemmas.{after_both}
use Rattle.fx_engine.specs.RowsAsked.{CanBeAsked}
use Rattle.fx_engine.proofs.AskableLemmas.{tasks_can_be_asked}
use Rattle.fx_laws_unmarked.proofs.BatchLemmas.{batch_cause_behind, read_of_query, texts_of_query}
use Rattle.fx_laws_unmarked.proofs.FederatedLemmas.{federated_refused, federated_unasked, refusal_cause, beside_behind, traffic_of}
use Rattle.fx_laws_unmarked.specs.Unmarked.{outcome_in, parts_of}
use Rattle.fx_rounds.proofs.UnmarkedLemmas.{never_marked, nobody_left, one_round}
use Rattle.fx_rounds.specs.LeftOut.{IsUnmarked}

true_false : true ≡ false → ⊥
true_false same = cc

-- ---- what is of kept members, where each is kept

module _ {X : Type 0} (test : X → Bool) where
  pass_if : (b : Bool) (x : X) (rest xs : List X) → b ≡ true → rest ≡ xs → cond b (x ∷ rest) rest ≡ x ∷ xs
  pass_if true x rest xs is e = ap (λ v. x ∷ v) e
  pass_if false x rest xs is e = absurd (true_false (sym is))

  all_pass : (xs : List X) → ((x : X) → Among x xs → test x ≡ true) → filter test xs ≡ xs
  all_pass [] each = refl
  all_pass (x ∷ xs) each = pass_if (test x) x (filter test xs) xs (each x (inl refl)) (all_pass xs (λ y m. each y (inr m)))

first_among : (ps : List Probe) (ts : List Bool) (entry : Entry) → Among entry (zip ps ts) → Among entry.0 ps
first_among [] ts entry m = absurd m
first_among (p ∷ ps) [] entry m = absurd m
first_among (p ∷ ps) (t ∷ ts) entry (inl e) = inl (ap (λ (x : Entry). x.0) e)
first_among (p ∷ ps) (t ∷ ts) entry (inr m) = inr (first_among ps ts entry m)

-- ---- the ASKs

module _ (tells alone : Bool) (s t : List Seen) (es : List EndpointParts) (none : All IsUnmarked es) (q : Query) (old : List Entry) where
  abbrev lacked : List Probe
  lacked = missing q (length es) old

  -- one was refused
  asked_in_vain : (why : FlowError) → AskedMembers tells alone s t es lacked (Err why) → AskedAll tells alone s t es lacked (Err why)
  asked_in_vain why h = record {
    exchanges = h.exchanges;
    gained = h.gained;
    after_all = h.after_all;
    quiet = λ is. tt;
    asked = h.asked;
    unasked = h.unasked;
    split = h.split;
    wanted = h.wanted;
    left = h.left;
    texts = h.texts;
    sent = h.sent;
    whole = tt;
    many = tt;
    faultless = tt;
    answered = tt;
    told = tt;
    cause = h.cause;
    failed = h.failed;
  }

  module _ (a : Answers) (h : AskedMembers tells alone s t es lacked (Ok a)) where
    abbrev fit : AreAnswers es lacked a
    fit = h.fit

    nobody : a.left.items ≡ []
    nobody = nobody_left es none (everybody es) a.left.items fit.may_leave

    each_mark : AreAllKept a.kept.items (length es)
    each_mark = subst (λ (v : List Bool). AreAllKept v (length es)) (sym (fit.those_kept ∙ ap (λ (v : List Left). without_all v (everybody es)) nobody)) (replicate_kept (length es))

    each_of_kept : (p : Probe) → Among p a.probes.items → is_kept a.kept.items p.at ≡ true
    each_of_kept p m =
        let there : Contains lacked p = Contains-permutation (a.probes.items ++ fit.unanswered) lacked p fit.split (Contains-append_left a.probes.items fit.unanswered p (contains_from a.probes.items p m)) in
        each_mark p.at (below_missing q (length es) old p (among_from lacked p there))

    -- each of the probes has its answer, in their order
    probes_are : a.probes.items ≡ lacked
    probes_are = sym (all_pass (λ (p : Probe). is_kept a.kept.items p.at) a.probes.items each_of_kept) ∙ fit.of_kept ∙ all_probes_kept q a.kept.items (length es) old each_mark

    asked_all : AskedAll tells alone s t es lacked (Ok a.truths.items)
    asked_all = record {
      exchanges = h.exchanges;
      gained = h.gained;
      after_all = h.after_all;
      quiet = λ is. h.quiet is nobody;
      asked = h.asked;
      unasked = h.unasked;
      split = h.split;
      wanted = h.wanted;
      left = h.left;
      texts = h.texts;
      sent = h.sent;
      whole = h.whole nobody;
      many = fit.many ∙ ap length probes_are;
      faultless = h.faultless nobody;
      answered = subst (λ (v : List Probe). All (IsAnsweredBy es h.exchanges) (zip v a.truths.items)) probes_are h.answered;
      told = λ graphs tell. subst (λ (v : List Probe). All (source.Tells graphs) (zip v a.truths.items)) probes_are (h.told graphs tell);
      cause = tt;
      failed = tt;
    }

    -- and the plan is that over all members
    all_plan : plan_over es q old a a.kept.items ≡ parts_by (sections q) (chosen q (length es) (told lacked a.truths.items ++ old))
    all_plan =
        let pairs : List Entry = zip a.probes.items a.truths.items in
        let entries : List Entry = kept_entries a.kept.items pairs old in
        let passes = all_pass (λ (e : Entry). is_kept a.kept.items e.0.at) pairs (λ e m. each_of_kept e.0 (first_among a.probes.items a.truths.items e m)) in
        sym (kept_parts q (length es) a.kept.items entries)
        ∙ ap (parts_by (sections q)) (all_chosen_kept q a.kept.items (length es) entries each_mark)
        ∙ ap (λ (v : List Entry). parts_by (sections q) (chosen q (length es) (reverse v ++ old))) passes
        ∙ ap (λ (v : List Probe). parts_by (sections q) (chosen q (length es) (told v a.truths.items ++ old))) probes_are

    abbrev AreOld : List Entry → List Probe → Type 0
    AreOld new ps = All (λ (e : Entry). Contains old e ⊎ Contains (zip ps a.truths.items) e) new

    held_so : (new : List Entry) → AreOld new a.probes.items → AreOld new lacked
    held_so new kept = subst (AreOld new) probes_are kept

    learned_so : (new : List Entry) → new ≡ learned old a.probes.items a.truths.items → new ≡ learned old lacked a.truths.items
    learned_so new so = so ∙ ap (λ (v : List Probe). learned old v a.truths.items) probes_are

-- ---- refusals

-- with another type of what is given, an error tells as much of SERVICEs
services_of : (X Y : Type 0) (es : List EndpointParts) (q : Query) (e : FedError) → KnowsServices {X = X} es q (Err e) → KnowsServices {X = Y} es q (Err e)
services_of X Y es q (fed.Member name) h = h
services_of X Y es q (fed.Service iri) h = h
services_of X Y es q (fed.BadReply name bad) h = h
services_of X Y es q (fed.RequestTooLong name size) h = h
services_of X Y es q (fed.UnknownService iri) h = h
services_of X Y es q fed.Memory h = tt

-- no endpoint's refusal is that of a SERVICE that names none
not_unknown : (es : List EndpointParts) (why : FlowError) (iri : List ℕ) → IsNamed es why (fed.UnknownService iri) → ⊥
not_unknown es (flow.Member at) iri n = n
not_unknown es (flow.BadReply at bad) iri n = n
not_unknown es (flow.RequestTooLong at size) iri n = n
not_unknown es flow.Memory iri n = n

-- but for want of memory, a last round's refusal is that of all
last_is : (o : Result Outcome FedError) (e : FedError) → (e ≡ fed.Memory → ⊥) → IsLast o (Err e) → o ≡ Err e
last_is (Ok outcome) (fed.Member name) other is = absurd is
last_is (Ok outcome) (fed.Service iri) other is = absurd is
last_is (Ok outcome) (fed.BadReply name bad) other is = absurd is
last_is (Ok outcome) (fed.RequestTooLong name size) other is = absurd is
last_is (Ok outcome) (fed.UnknownService iri) other is = absurd is
last_is (Err why) (fed.Member name) other is = ap (λ (x : FedError). Err x) (sym is)
last_is (Err why) (fed.Service iri) other is = ap (λ (x : FedError). Err x) (sym is)
last_is (Err why) (fed.BadReply name bad) other is = ap (λ (x : FedError). Err x) (sym is)
last_is (Err why) (fed.RequestTooLong name size) other is = ap (λ (x : FedError). Err x) (sym is)
last_is (Err why) (fed.UnknownService iri) other is = ap (λ (x : FedError). Err x) (sym is)
last_is o fed.Memory other is = absurd (other refl)

-- ---- an answer, by the ASKs and one round

module _ (tells alone : Bool) (s t : List Seen) (es : List EndpointParts) (q : Query) (old : List Entry) (block : ℕ) where
  abbrev probes : List Probe
  probes = missing q (length es) old

  abbrev StaysTrue : List Entry → Type 0
  StaysTrue new = (graphs : List (List Triple)) → AreKnown s es old graphs → All (source.Tells graphs) new

  -- memory ran out at the ASKs
  lost_at_asks : (r : Result (List Bool) FlowError) (h : AskedAll tells alone s t es probes r) (new : List Entry) → HasKept es q old new h.exchanges → StaysTrue new → Federated tells alone s t es q old new block (Err fed.Memory)
  lost_at_asks r h new kept still =
      let asked : AreAsked es q old h.wanted = record { probes = h.asked; unasked = h.unasked; lacked = h.split; texts = h.texts } in
      let sent : Sends (h.wanted ++ []) h.left h.exchanges = subst (λ (v : List Sent). Sends v h.left h.exchanges) (sym (append-nil h.wanted)) h.sent in
      let parted : IsPermutation (h.exchanges ++ []) h.exchanges = subst (λ (v : List Exchange). IsPermutation v h.exchanges) (sym (append-nil h.exchanges)) (IsPermutation-refl h.exchanges) in
      record {
        exchanges = h.exchanges;
        gained = h.gained;
        after_all = h.after_all;
        calls = [];
        called = inl refl;
        all_called = tt;
        passed = tt;
        down = tt;
        counted = λ address. let low : faults_at s address ≤ faults_at t address = gain_laws.never_fall s t address h.after_all in omega (arith, low);
        exact = λ is. tt;
        of_calls = [];
        of_others = h.exchanges;
        parted = parted;
        are_calls = refl;
        asks = h.wanted;
        asked = asked;
        texts = [];
        of_batches = All-nil (IsBatchText es block (IsUnitBefore q []));
        of_runs = λ graphs known services serve down agrees. no_run_sent es graphs block (stations q) (seeds q (union graphs) services down) (seeds_for_each q (union graphs) services down);
        left = h.left;
        sent = sent;
        whole = tt;
        faultless = tt;
        traffic = λ graphs known services serve down agrees.
            traffic_of es graphs block services down q old s h.wanted [] h.left [] (occurrences q) h.exchanges [] h.exchanges asked (no_run_sent es graphs block (stations q) (seeds q (union graphs) services down) (seeds_for_each q (union graphs) services down)) sent refl refl parted;
        answer = tt;
        known = tt;
        cause = tt;
        own_failure = inl tt;
        asks_first = inl (refl, refl);
        in_turn = inl tt;
        held = kept;
        stays_true = still;
      }

  module _ (none : All IsUnmarked es) (u : List Seen) (alike : AllTell tells s) (truths : List Bool) (h : AskedAll tells alone s t es probes (Ok truths)) (parts : List Part) (are : parts ≡ parts_by (sections q) (chosen q (length es) (told probes truths ++ old)))
      (r : Result Outcome FedError) (k : Outcomed (IsRequired es) (LeavesOut es) tells alone t u es q parts block r) where
    -- each member is kept
    over_all : (graphs : List (List Triple)) → AreKnown s es old graphs → (services : List ℕ → List Triple) → Serve services es graphs → IsPlannedOver t es q parts graphs services
    over_all graphs known services serve =
        let every = replicate (length graphs) true in
        record {
          all = graphs;
          told = still_tell_all s t h.after_all es graphs known.told;
          served = serve;
          kept = every;
          those_kept = sym (all_kept every graphs (replicate_kept (length graphs)));
          plan_is = are ∙ parts_are_by_graphs s es q old graphs truths known.told known.entries_are h.many (h.told graphs known.told);
        }

    runs_sent : (graphs : List (List Triple)) → AreKnown s es old graphs → (services : List ℕ → List Triple) → Serve services es graphs → (down : List ℕ) → AgreesWith down k.calls → AreRunsSent es graphs block (stations q) (seeds q (union graphs) services down) k.texts
    runs_sent graphs known services serve down agrees = k.runs graphs services (over_all graphs known services serve) down agrees

    abbrev Answered : Result Outcome FedError → Type 0
    Answered o = IfOk o (λ outcome. (graphs : List (List Triple)) → AreKnown s es old graphs → (services : List ℕ → List Triple) → Serve services es graphs → outcome.answer ≡ answer_of q (union graphs) services (places outcome.down))

    is_answered : (outcome : Outcome) → r ≡ Ok outcome → Answered (Ok outcome)
    is_answered outcome same = λ graphs known services serve.
        subst (λ (o : Result Outcome FedError). IfOk o (λ (c : Outcome). (graphs : List (List Triple)) (services : List ℕ → List Triple) → IsPlannedOver t es q parts graphs services → c.answer ≡ answer_of q (union graphs) services (places c.down))) same k.answer graphs services
        (over_all graphs known services serve)

    counted_so : ((address : List ℕ) → faults_at u address ≡ faults_at t address + failures_at address k.calls) → IsTrue alone → (address : List ℕ) → faults_at u address ≡ faults_at s address + failures_at address k.calls
    counted_so f is address =
        let one : faults_at u address ≡ faults_at t address + failures_at address k.calls = f address in
        let same : faults_at t address ≡ faults_at s address = h.quiet is address in
        omega (arith, one, same)

    exactly : (o : Result Outcome FedError) → (IsTrue alone → IfOk o (λ _. (address : List ℕ) → faults_at u address ≡ faults_at t address + failures_at address k.calls)) → IsTrue alone → IfOk o (λ _. (address : List ℕ) → faults_at u address ≡ faults_at s address + failures_at address k.calls)
    exactly (Ok outcome) f is = counted_so (f is) is
    exactly (Err e) f is = tt

    each_read : All (IsBatchRead (IsUnitOf q)) k.of_runs → All (IsRead es q old) (h.exchanges ++ k.of_runs)
    each_read read =
        All-append (IsRead es q old) h.exchanges k.of_runs (All-weaker (IsAskRead probes) (IsRead es q old) (λ x r. inl r) h.exchanges h.faultless) (All-weaker (IsBatchRead (IsUnitOf q)) (IsRead es q old) (λ x r. inr r) k.of_runs read)

    faultless : (o : Result Outcome FedError) → IfOk o (λ _. All (IsBatchRead (IsUnitOf q)) k.of_runs) → IfOk o (λ _. All (IsRead es q old) (h.exchanges ++ k.of_runs))
    faultless (Ok outcome) read = each_read read
    faultless (Err e) read = tt

    abbrev AllIn : List Exchange → List Exchange → Type 0
    AllIn xs all = (x : Exchange) → Contains xs x → Contains all x

    -- each ASK has its answer
    answered : (all : List Exchange) → AllIn h.exchanges all → AreAnswered es probes all
    answered all among =
        let its = has_learned es q old h.exchanges all among truths h.many h.answered (learned old probes truths) refl in
        record { truths = its.truths; many = its.many; answered = its.answered }

    -- nothing is left of what was wanted
    none_left : k.left ≡ [] → h.left ++ k.left ≡ []
    none_left empty = ap (λ (v : List Sent). v ++ k.left) h.whole ∙ empty

    whole : (o : Result Outcome FedError) → IfOk o (λ _. k.left ≡ []) → IfOk o (λ _. h.left ++ k.left ≡ [])
    whole (Ok outcome) empty = none_left empty
    whole (Err e) empty = tt

    own_failure : (o : Result Outcome FedError) → IfErr o (FailedBeside t u es q k.calls) → IfErr o (λ e. FailedAtAsk s u es q old k.calls (h.left ++ k.left) e ⊎ FailedBeside s u es q k.calls e)
    own_failure (Ok outcome) f = tt
    own_failure (Err e) f = inr (beside_behind s t u h.after_all es q k.calls e f)

    federated : (o : Result Outcome FedError) (new : List Entry) → IfOk o (λ _. map (λ c. c.of) k.calls ≡ occurrences q) → IfOk o (λ _. All IsPassed k.calls) → IfOk o (λ outcome. outcome.down ≡ down_in k.calls)
        → (IsTrue alone → IfOk o (λ _. (address : List ℕ) → faults_at u address ≡ faults_at t address + failures_at address k.calls)) → Answered o
        → ((all : List Exchange) → AllIn k.of_runs all → IfErr o (HasFedCause s u es q old k.calls k.calls k.texts all block)) → IfErr o (FailedBeside t u es q k.calls) → ((all : List Exchange) → AllIn h.exchanges all → HoldsBehind es q old new all o)
        → ((all : List Exchange) → AllIn k.of_runs all → IfErr o (λ e. HasFedCause s u es q old k.calls [] k.texts all block e ⊎ AreGiven alone s u k.calls (IsRead es q old) (h.left ++ k.left) (h.exchanges ++ k.of_runs)))
        → All (IsBatchText es block (IsUnitBefore q k.calls)) k.texts → IfOk o (λ _. k.left ≡ []) → IfOk o (λ _. All (IsBatchRead (IsUnitOf q)) k.of_runs) → KnowsServices es q o → StaysTrue new → Federated tells alone s u es q old new block o
    federated o new all_called passed down exact answer cause beside held in_turn of_batches empty read knows still =
        let both = gained_both tells s t u h.exchanges k.exchanges h.gained k.gained in
        let asked : AreAsked es q old h.wanted = record { probes = h.asked; unasked = h.unasked; lacked = h.split; texts = h.texts } in
        let sent : Sends (h.wanted ++ k.texts) (h.left ++ k.left) (h.exchanges ++ k.of_runs) = sent_laws.together h.wanted h.left k.texts k.left h.exchanges k.of_runs h.sent k.sent in
        let parted : IsPermutation ((h.exchanges ++ k.of_runs) ++ k.of_calls) both.all =
        subst (λ (v : List Exchange). IsPermutation v both.all) (sym (append_assoc h.exchanges k.of_runs k.of_calls))
        (IsPermutation-trans (h.exchanges ++ (k.of_runs ++ k.of_calls)) (h.exchanges ++ k.exchanges) both.all (IsPermutation-append_right h.exchanges (k.of_runs ++ k.of_calls) k.exchanges k.parted) both.same) in
        let called : AreCalls s es k.calls k.of_calls = calls_earlier s t h.after_all es k.calls k.of_calls k.are_calls in
        record {
          exchanges = both.all;
          gained = both.gained;
          after_all = after_both tells s t u both.all alike both.gained h.after_all k.after_all;
          calls = k.calls;
          called = k.called;
          all_called = all_called;
          passed = passed;
          down = down;
          counted = λ address.
              let low : faults_at s address ≤ faults_at t address = gain_laws.never_fall s t address h.after_all in
              let one : faults_at t address + failures_at address k.calls ≤ faults_at u address = k.counted address in
              omega (arith, low, one);
          exact = exactly o exact;
          of_calls = k.of_calls;
          of_others = h.exchanges ++ k.of_runs;
          parted = parted;
          are_calls = called;
          asks = h.wanted;
          asked = asked;
          texts = k.texts;
          of_batches = of_batches;
          of_runs = runs_sent;
          left = h.left ++ k.left;
          sent = sent;
          whole = whole o empty;
          faultless = faultless o read;
          traffic = λ graphs known services serve down agrees.
              traffic_of es graphs block services down q old s h.wanted k.texts (h.left ++ k.left) k.calls (first_of k.calls (occurrences q) k.called).others (h.exchanges ++ k.of_runs) k.of_calls both.all asked (runs_sent graphs known services serve down agrees) sent (first_of k.calls (occurrences q) k.called).are called parted;
          answer = answer;
          known = knows;
          cause = cause (h.exchanges ++ k.of_runs) (λ x m. Contains-append_right h.exchanges k.of_runs x m);
          own_failure = own_failure o beside;
          asks_first = inr (answered both.all (λ x m. Contains-permutation (h.exchanges ++ k.exchanges) both.all x both.same (Contains-append_left h.exchanges k.exchanges x m)));
          in_turn = in_turn (h.exchanges ++ k.of_runs) (λ x m. Contains-append_right h.exchanges k.of_runs x m);
          held = held both.all (λ x m. Contains-permutation (h.exchanges ++ k.exchanges) both.all x both.same (Contains-append_left h.exchanges k.exchanges x m));
          stays_true = still;
        }

    -- ---- each end

    abbrev entries : List Entry
    entries = told probes truths ++ old

    module _ (can : (found : List (List Bindings)) → All (CanBeAsked (length es)) (tasks_with parts found)) where
      abbrev tasks : List Task
      tasks = tasks_with parts k.found

      tasks_are : tasks ≡ tasks_with (parts_by (sections q) (chosen q (length es) entries)) k.found
      tasks_are = ap (λ (v : List Part). tasks_with v k.found) are

      its_texts : All (IsBatchText es block (IsUnitBefore q k.calls)) k.texts
      its_texts = texts_of_query es q (length es) entries k.found tasks tasks_are (can k.found) k.calls k.behind block k.texts k.of_batches

      cause_so : (e : FedError) → HasOutcomeCause (IsRequired es) t u es parts k.found block k.calls k.texts k.of_runs e → (all : List Exchange) → AllIn k.of_runs all → HasFedCause s u es q old k.calls k.calls k.texts all block e
      cause_so e (inl c) all among = batch_cause_behind es q old (length es) entries k.found tasks tasks_are (can k.found) block s t u h.after_all k.of_runs all among k.calls k.calls k.behind k.texts c.0 e c.1 c.2
      cause_so e (inr c) all among = refusal_cause s t u h.after_all es q old block k.calls all k.texts e c

      -- a refusal is of a batch, or all batches were given
      in_turn_so : (e : FedError) → HasBatchRefusal (IsRequired es) t u es parts k.found block k.texts k.of_runs e ⊎ (HasBatchEvent (LeavesOut es) t u es parts k.found block k.texts k.of_runs ⊎ AreGiven alone t u k.calls (IsBatchRead (Contains (units_in tasks))) k.left k.of_runs) → (all : List Exchange) → AllIn k.of_runs all
          → HasFedCause s u es q old k.calls [] k.texts all block e ⊎ AreGiven alone s u k.calls (IsRead es q old) (h.left ++ k.left) (h.exchanges ++ k.of_runs)
      in_turn_so e (inl c) all among = inl (batch_cause_behind es q old (length es) entries k.found tasks tasks_are (can k.found) block s t u h.after_all k.of_runs all among k.calls [] k.behind k.texts c.0 e c.1 c.2)
      in_turn_so e (inr (inl event)) all among = absurd (never_marked es none event.2.0.at event.2.2)
      in_turn_so e (inr (inr g)) all among = inr (record { whole = none_left g.whole; read = each_read (read_of_query es q (length es) entries k.found tasks tasks_are (can k.found) k.of_runs g.read); exact = λ is. counted_so (g.exact is) is })

      not_for_unknown : (iri : List ℕ) → r ≡ Err (fed.UnknownService iri) → ⊥
      not_for_unknown iri same = of_cause (subst (λ (o : Result Outcome FedError). IfErr o (HasOutcomeCause (IsRequired es) t u es parts k.found block k.calls k.texts k.of_runs)) same k.cause)
        where
          of_cause : HasOutcomeCause (IsRequired es) t u es parts k.found block k.calls k.texts k.of_runs (fed.UnknownService iri) → ⊥
          of_cause (inl c) = not_unknown es c.0 iri c.2
          of_cause (inr c) = c

      stopped : (e : FedError) → r ≡ Err e → KnowsServices {X = Outcome} es q (Err e) → Federated tells alone s u es q old old block (Err e)
      stopped e same knows =
          let why = subst (λ (o : Result Outcome FedError). IfErr o (HasOutcomeCause (IsRequired es) t u es parts k.found block k.calls k.texts k.of_runs)) same k.cause in
          let beside = subst (λ (o : Result Outcome FedError). IfErr o (FailedBeside t u es q k.calls)) same k.own_failure in
          let turn =
          subst (λ (o : Result Outcome FedError). IfErr o (λ (x : FedError). HasBatchRefusal (IsRequired es) t u es parts k.found block k.texts k.of_runs x ⊎ (HasBatchEvent (LeavesOut es) t u es parts k.found block k.texts k.of_runs ⊎ AreGiven alone t u k.calls (IsBatchRead (Contains (units_in tasks))) k.left k.of_runs))) same k.in_turn in
          federated (Err e) old tt tt tt (λ is. tt) tt (cause_so e why) beside (λ all among. stays Outcome es q old all e) (in_turn_so e turn) its_texts tt tt knows (λ graphs is. is.entries_are)

      lost : (new : List Entry) → All (λ (x : Entry). Contains old x ⊎ Contains (zip probes truths) x) new → StaysTrue new → Federated tells alone s u es q old new block (Err fed.Memory)
      lost new kept still = federated (Err fed.Memory) new tt tt tt (λ is. tt) tt (λ all among. tt) tt (λ all among. has_kept es q old h.exchanges all among truths h.answered new kept) (λ all among. inl tt) its_texts tt tt tt still

      given : (outcome : Outcome) → r ≡ Ok outcome → unknown_of es q ≡ None → (new : List Entry) → new ≡ learned old probes truths → StaysTrue new → Federated tells alone s u es q old new block (Ok outcome)
      given outcome same known new so still =
          let of_ok : (P : Outcome → Type 0) → IfOk r P → P outcome = λ P p. subst (λ (o : Result Outcome FedError). IfOk o P) same p in
          federated (Ok outcome) new (of_ok (λ c. map (λ c. c.of) k.calls ≡ occurrences q) k.all_called) (of_ok (λ c. All IsPassed k.calls) k.passed) (of_ok (λ c. c.down ≡ down_in k.calls) k.down)
          (λ is. of_ok (λ c. (address : List ℕ) → faults_at u address ≡ faults_at t address + failures_at address k.calls) (k.exact is)) (is_answered outcome same) (λ all among. tt) tt
          (λ all among. has_learned es q old h.exchanges all among truths h.many h.answered new so) (λ all among. tt) its_texts (of_ok (λ c. k.left ≡ []) k.whole)
          (read_of_query es q (length es) entries k.found tasks tasks_are (can k.found) k.of_runs (of_ok (λ c. All (IsBatchRead (Contains (units_in tasks))) k.of_runs) k.faultless)) known still

-- ---- a query that was asked in rounds

module _ (tells alone : Bool) (s u : List Seen) (es : List EndpointParts) (none : All IsUnmarked es) (q : Query) (old new : List Entry) (block : ℕ) (still : (graphs : List (List Triple)) → AreKnown s es old graphs → All (source.Tells graphs) new) where
  abbrev Fed : Result Outcome FedError → Type 0
  Fed o = Federated tells alone s u es q old new block o

  -- nothing was asked
  not_asked : (e : FedError) → u ≡ s → new ≡ old → KnowsServices {X = Outcome} es q (Err e) → (e ≡ fed.Memory) ⊎ ((iri : List ℕ) × (e ≡ fed.UnknownService iri)) → Fed (Err e)
  not_asked e same kept known why =
      subst (λ (v : List Seen). Federated tells alone s v es q old new block (Err e)) (sym same)
      (subst (λ (v : List Entry). Federated tells alone s s es q old v block (Err e)) (sym kept) (federated_unasked tells alone s es q old block e known (its_cause why)))
    where
      its_cause : (e ≡ fed.Memory) ⊎ ((iri : List ℕ) × (e ≡ fed.UnknownService iri)) → HasFedCause s s es q old [] [] [] [] block e
      its_cause (inl is) = subst (λ (x : FedError). HasFedCause s s es q old [] [] [] [] block x) (sym is) tt
      its_cause (inr is) = subst (λ (x : FedError). HasFedCause s s es q old [] [] [] [] block x) (sym is.1) (refl, refl, refl)

  -- an ASK was refused
  stopped_at_asks : (why : FlowError) → AskedMembers tells alone s u es (missing q (length es) old) (Err why) → new ≡ old → (e : FedError) → IsNamed es why e → KnowsServices {X = Outcome} es q (Err e) → Fed (Err e)
  stopped_at_asks why h kept e named known = by e named known
    where
      asking : AskedAll tells alone s u es (missing q (length es) old) (Err why)
      asking = asked_in_vain tells alone s u es none q old why h

      back : (e : FedError) → Federated tells alone s u es q old old block (Err e) → Fed (Err e)
      back e f = subst (λ (v : List Entry). Federated tells alone s u es q old v block (Err e)) (sym kept) f

      by : (e : FedError) → IsNamed es why e → KnowsServices {X = Outcome} es q (Err e) → Fed (Err e)
      by fed.Memory n k = lost_at_asks tells alone s u es q old block (Err why) asking new (subst (λ (v : List Entry). HasKept es q old v asking.exchanges) (sym kept) (nothing_changed es q old asking.exchanges)) still
      by (fed.Member name) n k = back (fed.Member name) (federated_refused tells alone s u es q old k block why (fed.Member name) asking n)
      by (fed.Service iri) n k = back (fed.Service iri) (federated_refused tells alone s u es q old k block why (fed.Service iri) asking n)
      by (fed.BadReply name bad) n k = back (fed.BadReply name bad) (federated_refused tells alone s u es q old k block why (fed.BadReply name bad) asking n)
      by (fed.RequestTooLong name size) n k = back (fed.RequestTooLong name size) (federated_refused tells alone s u es q old k block why (fed.RequestTooLong name size) asking n)
      by (fed.UnknownService iri) n k = absurd (not_unknown es why iri n)

  -- the ASKs were asked, and then there was one round
  module _ (spellable : IsSpellable q) (alike : AllTell tells s) (t : List Seen) (a : Answers) (h : AskedMembers tells alone s t es (missing q (length es) old) (Ok a)) (r : Result Outcome FedError)
      (k : Outcomed (IsRequired es) (LeavesOut es) tells alone t u es q (plan_over es q old a a.kept.items) block r) where
    abbrev asking : AskedAll tells alone s t es (missing q (length es) old) (Ok a.truths.items)
    asking = asked_all tells alone s t es none q old a h

    abbrev plan_is : plan_over es q old a a.kept.items ≡ parts_by (sections q) (chosen q (length es) (told (missing q (length es) old) a.truths.items ++ old))
    plan_is = all_plan tells alone s t es none q old a h

    can_be_asked : (found : List (List Bindings)) → All (CanBeAsked (length es)) (tasks_with (plan_over es q old a a.kept.items) found)
    can_be_asked found = subst (λ (v : List Part). All (CanBeAsked (length es)) (tasks_with v found)) (sym plan_is) (tasks_can_be_asked spellable.0 q spellable.1 (length es) (told (missing q (length es) old) a.truths.items ++ old) found)

    stopped_so : (e : FedError) → r ≡ Err e → KnowsServices {X = Outcome} es q (Err e) → new ≡ old → Fed (Err e)
    stopped_so e same known kept =
        subst (λ (v : List Entry). Federated tells alone s u es q old v block (Err e)) (sym kept)
        (stopped tells alone s t es q old block none u alike a.truths.items asking (plan_over es q old a a.kept.items) plan_is r k can_be_asked e same known)

    -- by how that ended
    by_result : (all : Result OutcomeInRounds FedError) → KnowsServices es q all → IsLast r all → HoldsAnswers old new a all → Fed (outcome_in all)
    by_result (Ok all) known last held = by r refl last
      where
        by : (o : Result Outcome FedError) → r ≡ o → IsLast o (Ok all) → Fed (Ok all.outcome)
        by (Ok outcome) same is =
            subst (λ (v : Outcome). Fed (Ok v)) (sym is)
            (given tells alone s t es q old block none u alike a.truths.items asking (plan_over es q old a a.kept.items) plan_is r k can_be_asked outcome same known new (learned_so tells alone s t es none q old a h new held) still)
        by (Err e) same is = absurd is
    by_result (Err fed.Memory) known last held = lost tells alone s t es q old block none u alike a.truths.items asking (plan_over es q old a a.kept.items) plan_is r k can_be_asked new (held_so tells alone s t es none q old a h new held) still
    by_result (Err (fed.Member name)) known last held = stopped_so (fed.Member name) (last_is r (fed.Member name) (λ e. cc) last) known held
    by_result (Err (fed.Service iri)) known last held = stopped_so (fed.Service iri) (last_is r (fed.Service iri) (λ e. cc) last) known held
    by_result (Err (fed.BadReply name bad)) known last held = stopped_so (fed.BadReply name bad) (last_is r (fed.BadReply name bad) (λ e. cc) last) known held
    by_result (Err (fed.RequestTooLong name size)) known last held = stopped_so (fed.RequestTooLong name size) (last_is r (fed.RequestTooLong name size) (λ e. cc) last) known held
    by_result (Err (fed.UnknownService iri)) known last held =
        absurd (not_for_unknown tells alone s t es q old block none u alike a.truths.items asking (plan_over es q old a a.kept.items) plan_is r k can_be_asked iri (last_is r (fed.UnknownService iri) (λ e. cc) last))

pub as_federated : (tells alone : Bool) (before after : List Seen) (es : List EndpointParts) (q : Query) (old new : List Entry) (block : ℕ) (result : Result OutcomeInRounds FedError) → IsSpellable q → AllTell tells before → All IsUnmarked es
    → FederatedInRounds tells alone before after es q old new block result → Federated tells alone before after es q old new block (outcome_in result)
as_federated tells alone before after es q old new block result spellable alike none f = by f.went
  where
    of_error : (e : FedError) → result ≡ Err e → (KnowsServices {X = Outcome} es q (Err e) → Federated tells alone before after es q old new block (Err e)) → Federated tells alone before after es q old new block (outcome_in result)
    of_error e is g =
        subst (λ (r : Result OutcomeInRounds FedError). Federated tells alone before after es q old new block (outcome_in r)) (sym is)
        (g (services_of OutcomeInRounds Outcome es q e (subst (λ (r : Result OutcomeInRounds FedError). KnowsServices es q r) is f.known)))

    by : IsUnasked before after old new result ⊎ (IsRefusedAtAsks tells alone before after es q old new result ⊎ WentInRounds tells alone before after es q old new block result) → Federated tells alone before after es q old new block (outcome_in result)
    by (inl w) = of_error w.error w.is (λ known. not_asked tells alone before after es none q old new block f.stays_true w.error w.same w.kept known w.unasked)
    by (inr (inl w)) = of_error w.error w.is (λ known. stopped_at_asks tells alone before after es none q old new block f.stays_true w.why w.asking w.kept w.error w.named known)
    by (inr (inr w)) =
        let one = one_round tells alone w.asked w.went.between es none q (plan_over es q old w.answers) block w.answers.kept.items w.went.last_kept w.went.abandoned w.went.rounds in
        let last : Outcomed (IsRequired es) (LeavesOut es) tells alone w.asked after es q (plan_over es q old w.answers w.answers.kept.items) block w.went.ended =
        subst (λ (v : List Seen). Outcomed (IsRequired es) (LeavesOut es) tells alone v after es q (plan_over es q old w.answers w.answers.kept.items) block w.went.ended) one.0
        (subst (λ (v : List Bool). Outcomed (IsRequired es) (LeavesOut es) tells alone w.went.between after es q (plan_over es q old w.answers v) block w.went.ended) one.1 w.went.last) in
        by_result tells alone before after es none q old new block f.stays_true spellable alike w.asked w.answers w.asking w.went.ended last result f.known w.told w.held

-- ---- a plan in rounds

module _ (tells alone : Bool) (s t : List Seen) (es : List EndpointParts) (none : All IsUnmarked es) (q : Query) (old new : List Entry) (still : (graphs : List (List Triple)) → AreKnown s es old graphs → All (source.Tells graphs) new) where
  abbrev PlannedSo : Result (List Part) FedError → Type 0
  PlannedSo o = Planned tells alone s t es q old new o

  -- memory ran out
  lost_plan : (r : Result (List Bool) FlowError) (h : AskedAll tells alone s t es (missing q (length es) old) r) → HasKept es q old new h.exchanges → PlannedSo (Err fed.Memory)
  lost_plan r h kept = record {
    exchanges = h.exchanges;
    gained = h.gained;
    after_all = h.after_all;
    quiet = λ is. tt;
    asks = h.wanted;
    asked = record { probes = h.asked; unasked = h.unasked; lacked = h.split; texts = h.texts };
    left = h.left;
    sent = h.sent;
    whole = tt;
    faultless = tt;
    parts = tt;
    by_answers = tt;
    within = tt;
    known = tt;
    cause = tt;
    held = kept;
    stays_true = still;
  }

  not_planned : (e : FedError) → t ≡ s → new ≡ old → KnowsServices {X = List Part} es q (Err e) → (e ≡ fed.Memory) ⊎ ((iri : List ℕ) × (e ≡ fed.UnknownService iri)) → PlannedSo (Err e)
  not_planned e same kept known why =
      subst (λ (v : List Seen). Planned tells alone s v es q old new (Err e)) (sym same)
      (subst (λ (v : List Entry). Planned tells alone s s es q old v (Err e)) (sym kept) (planned_unasked tells alone s es q old e known (its_cause why)))
    where
      its_cause : (e ≡ fed.Memory) ⊎ ((iri : List ℕ) × (e ≡ fed.UnknownService iri)) → HasPlanCause s s es q old [] e
      its_cause (inl is) = subst (λ (x : FedError). HasPlanCause s s es q old [] x) (sym is) tt
      its_cause (inr is) = subst (λ (x : FedError). HasPlanCause s s es q old [] x) (sym is.1) (refl, refl)

  plan_stopped : (why : FlowError) → AskedMembers tells alone s t es (missing q (length es) old) (Err why) → new ≡ old → (e : FedError) → IsNamed es why e → KnowsServices {X = List Part} es q (Err e) → PlannedSo (Err e)
  plan_stopped why h kept e named known = by e named known
    where
      asking : AskedAll tells alone s t es (missing q (length es) old) (Err why)
      asking = asked_in_vain tells alone s t es none q old why h

      back : (e : FedError) → Planned tells alone s t es q old old (Err e) → PlannedSo (Err e)
      back e p = subst (λ (v : List Entry). Planned tells alone s t es q old v (Err e)) (sym kept) p

      by : (e : FedError) → IsNamed es why e → KnowsServices {X = List Part} es q (Err e) → PlannedSo (Err e)
      by fed.Memory n k = lost_plan (Err why) asking (subst (λ (v : List Entry). HasKept es q old v asking.exchanges) (sym kept) (nothing_changed es q old asking.exchanges))
      by (fed.Member name) n k = back (fed.Member name) (planned_refused tells alone s t es q old k why (fed.Member name) asking n)
      by (fed.Service iri) n k = back (fed.Service iri) (planned_refused tells alone s t es q old k why (fed.Service iri) asking n)
      by (fed.BadReply name bad) n k = back (fed.BadReply name bad) (planned_refused tells alone s t es q old k why (fed.BadReply name bad) asking n)
      by (fed.RequestTooLong name size) n k = back (fed.RequestTooLong name size) (planned_refused tells alone s t es q old k why (fed.RequestTooLong name size) asking n)
      by (fed.UnknownService iri) n k = absurd (not_unknown es why iri n)

  module _ (a : Answers) (h : AskedMembers tells alone s t es (missing q (length es) old) (Ok a)) where
    by_plan : (r : Result PlanInRounds FedError) → KnowsServices es q r → IfErr r (λ e. e ≡ fed.Memory) → HoldsAnswers old new a r → IfOk r (λ p. p.parts.items ≡ plan_over es q old a a.kept.items) → IfOk r (λ p. All (HasMembers (length es)) p.parts.items) → PlannedSo (parts_of r)
    by_plan (Ok p) known memory held are within =
        planned tells alone s t es q old known a.truths.items (asked_all tells alone s t es none q old a h) new p.parts.items (learned_so tells alone s t es none q old a h new held) (are ∙ all_plan tells alone s t es none q old a h) within
    by_plan (Err e) known memory held are within =
        let asking = asked_all tells alone s t es none q old a h in
        let kept = held_so tells alone s t es none q old a h new (subst (λ (x : FedError). HoldsAnswers {X = PlanInRounds} old new a (Err x)) memory held) in
        subst (λ (x : FedError). PlannedSo (Err x)) (sym memory) (lost_plan (Ok a.truths.items) asking (has_kept es q old asking.exchanges asking.exchanges (λ x m. m) a.truths.items asking.answered new kept))

pub as_planned : (tells alone : Bool) (before after : List Seen) (es : List EndpointParts) (q : Query) (old new : List Entry) (result : Result PlanInRounds FedError) → All IsUnmarked es → PlannedInRounds tells alone before after es q old new result
    → Planned tells alone before after es q old new (parts_of result)
as_planned tells alone before after es q old new result none p = by p.went
  where
    of_error : (e : FedError) → result ≡ Err e → (KnowsServices {X = List Part} es q (Err e) → Planned tells alone before after es q old new (Err e)) → Planned tells alone before after es q old new (parts_of result)
    of_error e is g =
        subst (λ (r : Result PlanInRounds FedError). Planned tells alone before after es q old new (parts_of r)) (sym is)
        (g (services_of PlanInRounds (List Part) es q e (subst (λ (r : Result PlanInRounds FedError). KnowsServices es q r) is p.known)))

    by : IsUnasked before after old new result ⊎ (IsRefusedAtAsks tells alone before after es q old new result ⊎ PlannedByAnswers tells alone before after es q old new result) → Planned tells alone before after es q old new (parts_of result)
    by (inl w) = of_error w.error w.is (λ known. not_planned tells alone before after es none q old new p.stays_true w.error w.same w.kept known w.unasked)
    by (inr (inl w)) = of_error w.error w.is (λ known. plan_stopped tells alone before after es none q old new p.stays_true w.why w.asking w.kept w.error w.named known)
    by (inr (inr w)) = by_plan tells alone before after es none q old new p.stays_true w.answers w.asking result p.known w.lost w.held w.plan_is w.within
