-- A query of which nothing was asked, or an ASK was refused, and the cause of a refusal.
use Rattle.std.proofs.Common.{◌≡◌, sym, subst, refl, inl, inr, ◌⊎◌, ℕ, ◌+◌, ◌<◌, ◌≤◌, Bool, List, [], ◌∷◌, ◌++◌, length, map, None, Err, append-nil, append_assoc, arith}
use Rattle.std.specs.Prelude.{All, IsPermutation}
use Rattle.std.proofs.lemmas.List.Elements.{All-nil}
use Rattle.std.proofs.lemmas.List.Sorted.{IsPermutation-append_right, IsPermutation-refl, IsPermutation-trans}
use Rattle.fx_terms.specs.declared.triples.Triple.{Triple}
use Rattle.fx_outside.specs.Endpoints.{EndpointParts}
use Rattle.fx_algebra.specs.Cuts.{seeds, stations}
use Rattle.fx_algebra.specs.Graphs.{union}
use Rattle.fx_algebra.specs.declared.queries.Query.{Query}
use Rattle.fx_algebra.proofs.CutLemmas.{seeds_for_each}
use Rattle.fx_flows.specs.declared.flows.FlowError.{FlowError}
use Rattle.fx_flows.specs.declared.flows.FlowError.TheVariants as flow
use Rattle.fx_pool.proofs.WireLemmas.{after_itself}
use Rattle.fx_keys.specs.declared.probes.Probe.{Probe}
use Rattle.fx_sources.specs.Probes.{Entry, missing, told}
use Rattle.fx_sources.specs.Sources as source
use Rattle.fx_traffic.specs.Batches.{IsBatchText}
use Rattle.fx_traffic.specs.Gains.{AreAfter, faults_at}
use Rattle.fx_traffic.specs.Sent.{Sent, Sends}
use Rattle.fx_traffic.specs.Traffic.{AreAsked, IsServiceSent, IsTraffic}
use Rattle.fx_traffic.proofs.GainLemmas.{gain_laws}
use Rattle.fx_traffic.proofs.SentLemmas.{sent_laws}
use Rattle.fx_wire.specs.Exchanges.{Exchange, Seen}
use Rattle.fx_laws_unmarked.proofs.AskedLemmas.{AskedAll}
use Rattle.fx_outcomes.specs.Asks.{HasFailedAsk}
use Rattle.fx_outcomes.specs.Calls.{AreCalls, Call, failures_at, occurrences}
use Rattle.fx_services.specs.Beside.{Occurrence}
use Rattle.fx_outcomes.specs.Mediation.{AreKnown, FailedBeside, IsNamed, KnowsServices}
use Rattle.fx_laws_unmarked.specs.Causes.{FailedAtAsk, HasFedCause, HasPlanCause, IsUnitBefore}
use Rattle.fx_laws_unmarked.specs.Federated.{Federated}
use Rattle.fx_outcomes.specs.Outcomes.{HasRefusal}
use Rattle.fx_walks.specs.RunsSent.{AreRunsSent}
use Rattle.fx_walks.specs.Unknown.{unknown_of}
use Rattle.fx_outcomes.specs.declared.federated.FedError.{FedError}
use Rattle.fx_outcomes.specs.declared.federated.FedError.TheVariants as fed
use Rattle.fx_outcomes.specs.declared.federated.Outcome.{Outcome}
use Rattle.fx_laws_unmarked.proofs.PlanLemmas.{plan_cause, stays}
use Rattle.fx_outcomes.proofs.ChoiceLemmas.{its_name}
use Rattle.fx_services.proofs.WentLemmas.{found_here}
use Rattle.fx_outcomes.proofs.MediationLemmas.{known_named}
use Rattle.fx_outcomes.proofs.RunsSentLemmas.{AreCalled, sent_by_all}
use Rattle.fx_walks.proofs.StationLemmas.{no_run_sent}

-- no ASK is asked
pub none_asked : (es : List EndpointParts) (q : Query) (old : List Entry) → AreAsked es q old []
none_asked es q old = record { probes = []; unasked = missing q (length es) old; lacked = IsPermutation-refl (missing q (length es) old); texts = refl }

-- ---- the texts of occurrences

none_called : (es : List EndpointParts) (os : List Occurrence) → AreCalled es os []
none_called es [] = refl
none_called es (o ∷ os) = ([], [], refl, inl refl, none_called es os)

-- what is sent for occurrences that were invoked: each text once at most, and some of that
record CalledTexts (es : List EndpointParts) (os : List Occurrence) (xs : List Exchange) : Type 0 where
  texts : List Sent
  left : List Sent
  called : AreCalled es os texts
  sent : Sends texts left xs

called_texts : (wires : List Seen) (es : List EndpointParts) (calls : List Call) (others os : List Occurrence) (xs : List Exchange) → map (λ c. c.of) calls ++ others ≡ os → AreCalls wires es calls xs → CalledTexts es os xs
called_texts wires es [] others os xs are h = record { texts = []; left = []; called = none_called es os; sent = subst (Sends [] []) (sym h) (IsPermutation-refl []) }
called_texts wires es (c ∷ cs) others [] xs are h = absurd (cc)
called_texts wires es (c ∷ cs) others (o ∷ os) xs are h =
    let both : c.of ∷ (map (λ (d : Call). d.of) cs ++ others) ≡ o ∷ os = are in
    let same : c.of ≡ o = cc in
    let behind : map (λ (d : Call). d.of) cs ++ others ≡ os = cc in
    let rest = called_texts wires es cs others os h.1 behind h.5 in
    record {
      texts = h.4.wanted ++ rest.texts;
      left = h.4.left ++ rest.left;
      called = (h.4.wanted, rest.texts, refl, subst (λ (v : Occurrence). (h.4.wanted ≡ []) ⊎ IsServiceSent es v.iri v.group h.4.wanted) same h.4.text, rest.called);
      sent = subst (Sends (h.4.wanted ++ rest.texts) (h.4.left ++ rest.left)) (sym h.2) (sent_laws.together h.4.wanted h.4.left rest.texts rest.left h.0 h.1 h.4.sent rest.sent);
    }

-- all that a query sends, from what it sends for its runs and for its occurrences
module _ (es : List EndpointParts) (graphs : List (List Triple)) (block : ℕ) (services : List ℕ → List Triple) (down : List ℕ) (q : Query) (old : List Entry) (wires : List Seen) where
  pub traffic_of : (asks texts left : List Sent) (calls : List Call) (others : List Occurrence) (xs ys all : List Exchange) → AreAsked es q old asks → AreRunsSent es graphs block (stations q) (seeds q (union graphs) services down) texts → Sends (asks ++ texts) left xs
      → map (λ c. c.of) calls ++ others ≡ occurrences q → AreCalls wires es calls ys → IsPermutation (xs ++ ys) all → (unsent : List Sent) × IsTraffic es graphs block services down q old unsent all
  traffic_of asks texts left calls others xs ys all asked runs sent are called same =
      let c = called_texts wires es calls others (occurrences q) ys are called in
      let m = sent_by_all es graphs block (stations q) (seeds q (union graphs) services down) texts c.texts runs c.called in
      let together : Sends ((asks ++ texts) ++ c.texts) (left ++ c.left) (xs ++ ys) = sent_laws.together (asks ++ texts) left c.texts c.left xs ys sent c.sent in
      let moved : Sends ((asks ++ texts) ++ c.texts) (left ++ c.left) all = sent_laws.any_order ((asks ++ texts) ++ c.texts) (left ++ c.left) (xs ++ ys) all same together in
      let other : IsPermutation (asks ++ (texts ++ c.texts)) (asks ++ m.all) = IsPermutation-append_right asks (texts ++ c.texts) m.all m.same in
      let wanted : IsPermutation ((asks ++ texts) ++ c.texts) (asks ++ m.all) = subst (λ (v : List Sent). IsPermutation v (asks ++ m.all)) (sym (append_assoc asks texts c.texts)) other in
      (left ++ c.left, record { asks = asks; asked = asked; texts = m.all; of_stations = m.sent; sent = IsPermutation-trans _ ((asks ++ texts) ++ c.texts) (asks ++ m.all) moved wanted })

-- ---- nothing was asked

-- where a SERVICE is unknown, or memory lacks
pub federated_unasked : (tells alone : Bool) (wires : List Seen) (es : List EndpointParts) (q : Query) (old : List Entry) (block : ℕ) (e : FedError) → KnowsServices {X = Outcome} es q (Err e) → HasFedCause wires wires es q old [] [] [] [] block e
    → Federated tells alone wires wires es q old old block (Err e)
federated_unasked tells alone wires es q old block e known cause = record {
  exchanges = [];
  gained = λ told. gain_laws.nothing wires;
  after_all = after_itself wires;
  calls = [];
  called = inl refl;
  all_called = tt;
  passed = tt;
  down = tt;
  counted = λ address. omega arith;
  exact = λ is. tt;
  of_calls = [];
  of_others = [];
  parted = IsPermutation-refl [];
  are_calls = refl;
  asks = [];
  asked = none_asked es q old;
  texts = [];
  of_batches = All-nil (IsBatchText es block (IsUnitBefore q []));
  of_runs = λ graphs known services serve down agrees. no_run_sent es graphs block (stations q) (seeds q (union graphs) services down) (seeds_for_each q (union graphs) services down);
  left = [];
  sent = IsPermutation-refl [];
  whole = tt;
  faultless = tt;
  traffic = λ graphs known services serve down agrees.
      traffic_of es graphs block services down q old wires [] [] [] [] (occurrences q) [] [] [] (none_asked es q old) (no_run_sent es graphs block (stations q) (seeds q (union graphs) services down) (seeds_for_each q (union graphs) services down)) (IsPermutation-refl []) refl refl (IsPermutation-refl []);
  answer = tt;
  known = known;
  cause = cause;
  own_failure = none_rose e cause;
  asks_first = inl (refl, refl);
  in_turn = inl cause;
  held = stays Outcome es q old [] e;
  stays_true = λ graphs is. is.entries_are;
}
  where
    none_rose : (e : FedError) → HasFedCause wires wires es q old [] [] [] [] block e → FailedAtAsk wires wires es q old [] [] e ⊎ FailedBeside wires wires es q [] e
    none_rose (fed.Member name) k = let rose : faults_at wires k.1.0.iri < faults_at wires k.1.0.iri = k.1.3 in absurd (omega (arith, rose))
    none_rose (fed.Service iri) k = inl tt
    none_rose (fed.BadReply name bad) k = inl tt
    none_rose (fed.RequestTooLong name size) k = inl tt
    none_rose (fed.UnknownService iri) k = inl tt
    none_rose fed.Memory k = inl tt

-- ---- by what was asked first

-- with the cause of a plan there is one of an answer
fed_cause : (s t : List Seen) (es : List EndpointParts) (q : Query) (old : List Entry) (block : ℕ) (xs : List Exchange) (e : FedError) → HasPlanCause s t es q old xs e → HasFedCause s t es q old [] [] [] xs block e
fed_cause s t es q old block xs (fed.Member name) k = k
fed_cause s t es q old block xs (fed.Service iri) k = absurd k
fed_cause s t es q old block xs (fed.BadReply name bad) k = (k.0, k.1, k.2, inl k.3)
fed_cause s t es q old block xs (fed.RequestTooLong name size) k = (k.0, k.1, k.2, inl k.3)
fed_cause s t es q old block xs (fed.UnknownService iri) k = (k.0, k.1, refl)
fed_cause s t es q old block xs fed.Memory k = tt

-- and where an endpoint is named as failed, one of its ASKs is left
failed_at_ask : (s t : List Seen) (es : List EndpointParts) (q : Query) (old : List Entry) (left : List Sent) (why : FlowError) (e : FedError) → HasFailedAsk s t es (missing q (length es) old) left why → IsNamed es why e → FailedAtAsk s t es q old [] left e
failed_at_ask s t es q old left (flow.Member at) (fed.Member name) k n = (refl, (k.0, found_here es at k.0 k.1, its_name es at at k.0 name refl k.1 n, (k.2, k.3)))
failed_at_ask s t es q old left (flow.BadReply at bad) (fed.Member name) k n = absurd n
failed_at_ask s t es q old left (flow.RequestTooLong at size) (fed.Member name) k n = absurd n
failed_at_ask s t es q old left flow.Memory (fed.Member name) k n = absurd n
failed_at_ask s t es q old left why (fed.Service iri) k n = tt
failed_at_ask s t es q old left why (fed.BadReply name bad) k n = tt
failed_at_ask s t es q old left why (fed.RequestTooLong name size) k n = tt
failed_at_ask s t es q old left why (fed.UnknownService iri) k n = tt
failed_at_ask s t es q old left why fed.Memory k n = tt

-- behind ASKs it failed beside the occurrences, too
pub beside_behind : (s t u : List Seen) → AreAfter s t → (es : List EndpointParts) (q : Query) (calls : List Call) (e : FedError) → FailedBeside t u es q calls e → FailedBeside s u es q calls e
beside_behind s t u after es q calls (fed.Member name) k =
    let at = k.1.0 in
    let low : faults_at s at.iri ≤ faults_at t at.iri = gain_laws.never_fall s t at.iri after in
    let rose : faults_at t at.iri + failures_at at.iri calls < faults_at u at.iri = k.1.3 in
    (k.0, (at, k.1.1, k.1.2, omega (arith, low, rose)))
beside_behind s t u after es q calls (fed.Service iri) k = tt
beside_behind s t u after es q calls (fed.BadReply name bad) k = tt
beside_behind s t u after es q calls (fed.RequestTooLong name size) k = tt
beside_behind s t u after es q calls (fed.UnknownService iri) k = tt
beside_behind s t u after es q calls fed.Memory k = tt

-- and so there is with that of an occurrence
pub refusal_cause : (s t u : List Seen) → AreAfter s t → (es : List EndpointParts) (q : Query) (old : List Entry) (block : ℕ) (calls : List Call) (xs : List Exchange) (texts : List Sent) (e : FedError) → HasRefusal t u es calls e
    → HasFedCause s u es q old calls calls texts xs block e
refusal_cause s t u after es q old block calls xs texts (fed.Member name) k = absurd k
refusal_cause s t u after es q old block calls xs texts (fed.Service iri) k =
    let low : faults_at s iri ≤ faults_at t iri = gain_laws.never_fall s t iri after in
    let rose : faults_at t iri < faults_at u iri = k.2 in
    (k.0, k.1, omega (arith, low, rose))
refusal_cause s t u after es q old block calls xs texts (fed.BadReply name bad) k = (k.0, k.1, k.2, inr (inr k.3))
refusal_cause s t u after es q old block calls xs texts (fed.RequestTooLong name size) k = (k.0, k.1, k.2, inr (inr k.3))
refusal_cause s t u after es q old block calls xs texts (fed.UnknownService iri) k = absurd k
refusal_cause s t u after es q old block calls xs texts fed.Memory k = tt

module _ (tells alone : Bool) (s t : List Seen) (es : List EndpointParts) (q : Query) (old : List Entry) (known : unknown_of es q ≡ None) (block : ℕ) where
  abbrev probes : List Probe
  probes = missing q (length es) old

  abbrev StaysTrue : List Entry → Type 0
  StaysTrue new = (graphs : List (List Triple)) → AreKnown s es old graphs → All (source.Tells graphs) new

  pub federated_refused : (why : FlowError) (e : FedError) → AskedAll tells alone s t es probes (Err why) → IsNamed es why e → Federated tells alone s t es q old old block (Err e)
  federated_refused why e h n =
      let asked : AreAsked es q old h.wanted = record { probes = h.asked; unasked = h.unasked; lacked = h.split; texts = h.texts } in
      let sent : Sends (h.wanted ++ []) h.left h.exchanges = subst (λ (v : List Sent). Sends v h.left h.exchanges) (sym (append-nil h.wanted)) h.sent in
      let own : h.exchanges ++ [] ≡ h.exchanges = append-nil h.exchanges in
      record {
        exchanges = h.exchanges;
        gained = h.gained;
        after_all = h.after_all;
        calls = [];
        called = inl refl;
        all_called = tt;
        passed = tt;
        down = tt;
        counted = λ address. let low : faults_at s address ≤ faults_at t address = gain_laws.never_fall s t address h.after_all in omega (arith, low);
        exact = λ is. tt;
        of_calls = [];
        of_others = h.exchanges;
        parted = subst (λ (v : List Exchange). IsPermutation v h.exchanges) (sym own) (IsPermutation-refl h.exchanges);
        are_calls = refl;
        asks = h.wanted;
        asked = asked;
        texts = [];
        of_batches = All-nil (IsBatchText es block (IsUnitBefore q []));
        of_runs = λ graphs known services serve down agrees. no_run_sent es graphs block (stations q) (seeds q (union graphs) services down) (seeds_for_each q (union graphs) services down);
        left = h.left;
        sent = sent;
        whole = tt;
        faultless = tt;
        traffic = λ graphs known services serve down agrees.
            traffic_of es graphs block services down q old s h.wanted [] h.left [] (occurrences q) h.exchanges [] h.exchanges asked (no_run_sent es graphs block (stations q) (seeds q (union graphs) services down) (seeds_for_each q (union graphs) services down)) sent refl refl
            (subst (λ (v : List Exchange). IsPermutation v h.exchanges) (sym own) (IsPermutation-refl h.exchanges));
        answer = tt;
        known = known_named Outcome es q why e n known;
        cause = fed_cause s t es q old block h.exchanges e (plan_cause es q old s t h.exchanges why e h.cause n);
        own_failure = inl (failed_at_ask s t es q old h.left why e h.failed n);
        asks_first = inl (refl, refl);
        in_turn = inl (fed_cause s t es q old block h.exchanges e (plan_cause es q old s t h.exchanges why e h.cause n));
        held = stays Outcome es q old h.exchanges e;
        stays_true = λ graphs is. is.entries_are;
      }
