-- What the occurrences of SERVICE come to where nothing fails that is needed and nothing is too long.
use Rattle.std.proofs.Common.{◌≡◌, ◌≢◌, ◌∙◌, ap, sym, subst, refl, ℕ, ◌+◌, ◌≤◌, ◌<◌, Bool, true, false, not, cond, bytes_eq, Some, slice_get, List, [], ◌∷◌, ◌++◌, map, All, Result, length, inl, inr, arith}
use Rattle.std.specs.Prelude.{Contains}
use Rattle.std.specs.List.{flat_map, list_any}
use Rattle.std.proofs.lemmas.List.Elements.{All-contains, Contains-append_left, Contains-append_right}
use Rattle.std.proofs.lemmas.List.Sorted.{Contains-permutation}
use Rattle.std.proofs.lemmas.Slice.Eq.{bytes_eq-Decides}
use Rattle.fx_terms.specs.declared.triples.Triple.{Triple}
use Rattle.fx_algebra.proofs.MemberLemmas.{among_right}
use Rattle.fx_terms.proofs.SetLemmas.{Among, among_from, contains_from}
use Rattle.fx_outside.specs.Endpoints.{EndpointParts}
use Rattle.fx_algebra.specs.Answers.{is_empty_list}
use Rattle.fx_algebra.specs.Cuts.{seeds, stations}
use Rattle.fx_algebra.specs.Graphs.{union}
use Rattle.fx_algebra.specs.Groups.{is_down}
use Rattle.fx_algebra.specs.Solutions.{Bindings}
use Rattle.fx_algebra.specs.Stations.{Station}
use Rattle.fx_algebra.specs.Stations as station
use Rattle.fx_algebra.specs.Units.{of_kept, sources}
use Rattle.fx_algebra.specs.declared.queries.Query.{Query}
use Rattle.fx_algebra.proofs.CutLemmas.{seeds_for_each}
use Rattle.fx_http.specs.Requests.{request_of}
use Rattle.fx_plan.specs.Plans.{plan}
use Rattle.fx_sources.specs.Probes.{Entry}
use Rattle.fx_traffic.specs.Gains.{Tell, TellAll, WiresSeen, faults_at}
use Rattle.fx_traffic.specs.Sent.{Sent}
use Rattle.fx_traffic.specs.Traffic.{AreStationsSent, IsStationSent, SentUnless}
use Rattle.fx_traffic.proofs.CutLemmas.{batch_laws}
use Rattle.fx_wire.specs.Exchanges.{Exchange, Seen, exchanged}
use Rattle.fx_outcomes.specs.Calls.{AgreesWith, AreAllOrNone, AreCalls, Call, Came, HasComeTo, HasFirstRefused, down_in, failed, failure_of, failures_at, lost, occurrence_in, occurrences, told}
use Rattle.fx_outcomes.specs.InRounds.{WentInRounds}
use Rattle.fx_services.specs.Beside.{Occurrence}
use Rattle.fx_outcomes.specs.Mediation.{Serve}
use Rattle.fx_outcomes.specs.Outcomes.{AllTell}
use Rattle.fx_outcomes.specs.Rounds.{everybody}
use Rattle.fx_services.specs.Noted.{places}
use Rattle.fx_walks.specs.RunsSent.{AreRunsSent, IsSentForRun}
use Rattle.fx_services.specs.ServicesAsked.{service_text}
use Rattle.fx_walks.specs.Unknown.{is_registered}
use Rattle.fx_services.specs.declared.noted.DownCause.{DownCause}
use Rattle.fx_services.specs.declared.noted.DownCause.TheVariants as cause
use Rattle.fx_outcomes.specs.declared.federated.FedError.{FedError}
use Rattle.fx_outcomes.specs.declared.rounds.OutcomeInRounds.{OutcomeInRounds}
use Rattle.fx_outcomes.proofs.DownLemmas.{down_at, has_gone}
use Rattle.fx_walks.proofs.RegisteredLemmas.{unregistered_by}
use Rattle.fx_program.specs.Completeness.{AreRepliesShort, AreTextsShort, AreWell, IsNeeded, MayBeDown}
use Rattle.fx_rounds.specs.Down.{unregistered}
use Rattle.fx_program.proofs.DownLemmas.{agree_with, call_at, down_left, down_right, no_unregistered, none_down_behind, unregistered_at, unregistered_may}
use Rattle.fx_program.proofs.HeadlineLemmas.{of_query}
use Rattle.fx_program.proofs.KeptLemmas.{everybody_keeps}
use Rattle.fx_program.proofs.LastRoundLemmas.{kept_at_last, low_at_last, planned_at_last, short_at_last, told_at_last}

-- the text that is sent isn't longer than it may be
abbrev pub IsShort : Sent → Type 0
IsShort x = (text : List ℕ) → x.request ≡ request_of x.at text → length text ≤ 67108864

-- ---- occurrences of SERVICE

-- the graph that is told of one of the endpoints
graph_of : (wires : List Seen) (es : List EndpointParts) (graphs : List (List Triple)) (e : EndpointParts) → TellAll wires es graphs → Among e es → (g : List Triple) × Tell wires e.iri g
graph_of wires [] graphs e h m = absurd m
graph_of wires (x ∷ es) [] e h m = absurd h
graph_of wires (x ∷ es) (g ∷ graphs) e h (inl same) = (g, subst (λ (v : EndpointParts). Tell wires v.iri g) same h.0)
graph_of wires (x ∷ es) (g ∷ graphs) e h (inr m) = graph_of wires es graphs e h.1 m

-- queries can do without an endpoint that has the address
abbrev pub IsAtOptional : List EndpointParts → List ℕ → Type 0
IsAtOptional es iri = (e : EndpointParts) × Contains es e × (e.iri ≡ iri) × (e.optional ≡ true)

-- what an occurrence comes to where nothing fails that is needed and nothing is too long: rows, or no endpoint has its IRI, or the exchange failed with one that queries can do without, unless memory runs out
abbrev pub IsHarmless : List EndpointParts → List ℕ → Came → Type 0
IsHarmless es iri (told rows) = Unit {0}
IsHarmless es iri (failed cause.Unknown) = All (λ (e : EndpointParts). e.iri ≢ iri) es
IsHarmless es iri (failed cause.Failed) = IsAtOptional es iri
IsHarmless es iri (failed (cause.Bad bad)) = ⊥
IsHarmless es iri (failed (cause.TooLong size)) = ⊥
IsHarmless es iri lost = Unit {0}

-- at no address of an endpoint that is needed did an exchange fail
abbrev NoneFailed : List EndpointParts → List Call → Type 0
NoneFailed es calls = (e : EndpointParts) → Contains es e → 0 < failures_at e.iri calls → e.optional ≡ true

-- the text that asks for the group of an occurrence of an endpoint isn't longer than it may be
abbrev IsShortFor : List EndpointParts → Occurrence → Type 0
IsShortFor es o = (e : EndpointParts) → Contains es e → e.iri ≡ o.iri → length (service_text o.group) ≤ 67108864

-- no reply is longer than it may be
abbrev AreShort : List Exchange → Type 0
AreShort xs = (x : Exchange) → Contains xs x → length x.reply ≤ 67108864

counted_some : (b : Bool) (n m : ℕ) → b ≡ true → 0 < n → 0 < cond {A = ℕ} b n 0 + m
counted_some true n m is h = omega (arith, h)
counted_some false n m is h = absurd (cc)

module _ (before : List Seen) (es : List EndpointParts) (graphs : List (List Triple)) (are_told : TellAll before es graphs) where
  harmless_one : (o : Occurrence) (came : Came) (own : List Exchange) → ((e : EndpointParts) → Contains es e → e.iri ≡ o.iri → 0 < failure_of came → e.optional ≡ true) → AreShort own → IsShortFor es o → HasComeTo before es o.iri o.group came own → IsHarmless es o.iri came
  harmless_one o (told rows) own none replies short h = tt
  harmless_one o (failed cause.Unknown) own none replies short h = h.0
  harmless_one o (failed cause.Failed) own none replies short h = (h.0, h.1, h.2, none h.0 h.1 h.2 (omega arith))
  harmless_one o (failed (cause.Bad bad)) own none replies short (e, among, same, is) =
      let x : Exchange = exchanged e bad.request bad.reply in
      let graph = graph_of before es graphs e are_told (among_from es e among) in
      let long : 67108864 < length bad.reply = (is.long graph.0 (subst (λ (a : List ℕ). Tell before a graph.0) same graph.1)).1 in
      let fits : length bad.reply ≤ 67108864 = replies x (subst (λ (l : List Exchange). Contains l x) (sym is.alone) (contains_from (x ∷ []) x (inl refl))) in
      absurd (omega (arith, long, fits))
  harmless_one o (failed (cause.TooLong size)) own none replies short (e, among, same, (nothing, is, long)) =
      let fits : length (service_text o.group) ≤ 67108864 = short e among same in
      let more : 67108864 < size = long in
      let equal : size ≡ length (service_text o.group) = is in
      absurd (omega (arith, fits, more, equal))
  harmless_one o lost own none replies short h = tt

  -- so it is of all that were invoked
  harmless : (calls : List Call) (xs : List Exchange) → AreCalls before es calls xs → NoneFailed es calls → AreShort xs → ((c : Call) → Among c calls → IsShortFor es c.of) → (c : Call) → Among c calls → IsHarmless es c.of.iri c.came
  harmless [] xs h none replies short c m = absurd m
  harmless (first ∷ cs) xs h none replies short c (inl same) =
      subst (λ (v : Call). IsHarmless es v.of.iri v.came) same
      (harmless_one first.of first.came h.0
      (λ e among at rose. none e among (counted_some (bytes_eq first.of.iri e.iri) (failure_of first.came) (failures_at e.iri cs) ((bytes_eq-Decides first.of.iri e.iri).1 (sym at)) rose))
      (λ x among. replies x (subst (λ (l : List Exchange). Contains l x) (sym h.2) (Contains-append_left h.0 h.1 x among)))
      (short first (inl refl))
      h.3)
  harmless (first ∷ cs) xs h none replies short c (inr m) =
      harmless cs h.1 h.5
      (λ e among rose. none e among (let some : 0 < failures_at e.iri cs = rose in omega (arith, some)))
      (λ x among. replies x (subst (λ (l : List Exchange). Contains l x) (sym h.2) (Contains-append_right h.0 h.1 x among)))
      (λ d n. short d (inr n))
      c
      m

-- ---- which may be down

-- one that is down and names an endpoint is silent, and queries can do without that endpoint
gone_so : (es : List EndpointParts) (silent : Bool) (iri : List ℕ) (came : Came) → IsHarmless es iri came → has_gone silent came ≡ true → is_registered es iri ≡ true → (silent ≡ true) × IsAtOptional es iri
gone_so es true iri (failed cause.Failed) harm gone is = (refl, harm)
gone_so es true iri (failed cause.Unknown) harm gone is = let none : is_registered es iri ≡ false = unregistered_by es iri harm in absurd (let clash : true ≡ false = sym is ∙ none in cc)
gone_so es true iri (failed (cause.Bad bad)) harm gone is = absurd harm
gone_so es true iri (failed (cause.TooLong size)) harm gone is = absurd harm
gone_so es false iri (failed why) harm gone is = absurd (cc)
gone_so es silent iri (told rows) harm gone is = absurd (cc)
gone_so es silent iri lost harm gone is = absurd (cc)

-- so those that are down, with those that name no endpoint, may be
may_be_down : (es : List EndpointParts) (asked : Query) (calls : List Call) → AreAllOrNone calls (occurrences asked) → ((c : Call) → Among c calls → IsHarmless es c.of.iri c.came) → MayBeDown es asked (places (down_in calls) ++ unregistered es 0 (occurrences asked))
may_be_down es asked calls called each = record {
  unknown = λ k o there none. down_right (places (down_in calls)) others k (unregistered_at es (occurrences asked) k o there ∙ ap not none);
  known = λ k o there is down. by called k o there is (sym (down_left (places (down_in calls)) others k (unregistered_at es (occurrences asked) k o there ∙ ap not is)) ∙ down);
  no_other = λ k none. down_left (places (down_in calls)) others k (no_unregistered es (occurrences asked) k none) ∙ none_down_behind calls (occurrences asked) k called none;
}
  where
    others : List ℕ
    others = unregistered es 0 (occurrences asked)

    none_down : (k : ℕ) → is_down (places (down_in [])) k ≡ true → ⊥
    none_down k h = cc

    by : AreAllOrNone calls (occurrences asked) → (k : ℕ) (o : Occurrence) → slice_get (occurrences asked) k ≡ Some o → is_registered es o.iri ≡ true → is_down (places (down_in calls)) k ≡ true → (o.silent ≡ true) × IsAtOptional es o.iri
    by (inl none) k o there is down = absurd (none_down k (subst (λ (l : List Call). is_down (places (down_in l)) k ≡ true) none down))
    by (inr are) k o there is down =
        let its = call_at calls k o (subst (λ (l : List Occurrence). slice_get l k ≡ Some o) (sym are) there) in
        let c = its.call in
        let same : 0 + k ≡ k = omega arith in
        let gone : has_gone c.of.silent c.came ≡ true = sym (down_at 0 calls k c its.there) ∙ ap (is_down (places (down_in calls))) same ∙ down in
        let registered : is_registered es c.of.iri ≡ true = ap (λ (v : Occurrence). is_registered es v.iri) its.of_it ∙ is in
        subst (λ (v : Occurrence). (v.silent ≡ true) × IsAtOptional es v.iri) its.of_it (gone_so es c.of.silent c.of.iri c.came (each c its.among) gone registered)

-- ---- texts of occurrences

module _ (es : List EndpointParts) (graphs : List (List Triple)) (block : ℕ) where
  none_unless : (b : Bool) (P : Type 0) → P → SentUnless b [] P
  none_unless true P h = refl
  none_unless false P h = h

  nothing_of : (s : Station) (rows : List Bindings) → IsStationSent es graphs block s rows []
  nothing_of (station.run ps filters before) rows = none_unless (list_any is_empty_list (map (sources graphs) ps)) _ (batch_laws.nothing es (union graphs) block 1 (plan ps (map (sources graphs) ps) filters before) _)
  nothing_of (station.service number silent iri g) rows = inl refl

  -- stations may send nothing
  nothing_sent_of : (stations : List Station) (seeds : List (List Bindings)) → length seeds ≡ length stations → AreStationsSent es graphs block stations seeds []
  nothing_sent_of [] [] h = refl
  nothing_sent_of [] (rows ∷ seeds) h = absurd (cc)
  nothing_sent_of (s ∷ stations) [] h = absurd (cc)
  nothing_sent_of (s ∷ stations) (rows ∷ seeds) h = let rest : length seeds ≡ length stations = omega arith in ([], [], refl, nothing_of s rows, nothing_sent_of stations seeds rest)

  -- what a station sends with nothing before it, and what others send with nothing behind it
  later : (s : Station) (stations : List Station) (rows : List Bindings) (seeds : List (List Bindings)) (texts : List Sent) → AreStationsSent es graphs block stations seeds texts → AreStationsSent es graphs block (s ∷ stations) (rows ∷ seeds) texts
  later s stations rows seeds texts h = ([], texts, refl, nothing_of s rows, h)

  alone : (s : Station) (others : List Station) (rows : List Bindings) (seeds : List (List Bindings)) (x : Sent) → length seeds ≡ length others → IsStationSent es graphs block s rows (x ∷ []) → AreStationsSent es graphs block (s ∷ others) (rows ∷ seeds) (x ∷ [])
  alone s others rows seeds x many h = (x ∷ [], [], refl, h, nothing_sent_of others seeds many)

  -- the text of an occurrence
  abbrev text_to : EndpointParts → Occurrence → Sent
  text_to e o = record { at = e; request = request_of e (service_text o.group) }

  -- may be sent alone
  text_sent_alone : (stations : List Station) (seeds : List (List Bindings)) (o : Occurrence) (e : EndpointParts) → length seeds ≡ length stations → Among o (flat_map occurrence_in stations) → Contains es e → e.iri ≡ o.iri → AreStationsSent es graphs block stations seeds (text_to e o ∷ [])
  text_sent_alone [] seeds o e many m among same = absurd m
  text_sent_alone (s ∷ stations) [] o e many m among same = absurd (cc)
  text_sent_alone (station.run ps filters before ∷ stations) (rows ∷ seeds) o e many m among same =
      let rest : length seeds ≡ length stations = omega arith in
      later (station.run ps filters before) stations rows seeds (text_to e o ∷ []) (text_sent_alone stations seeds o e rest m among same)
  text_sent_alone (station.service number silent iri g ∷ stations) (rows ∷ seeds) o e many (inr m) among same =
      let rest : length seeds ≡ length stations = omega arith in
      later (station.service number silent iri g) stations rows seeds (text_to e o ∷ []) (text_sent_alone stations seeds o e rest m among same)
  text_sent_alone (station.service number silent iri g ∷ stations) (rows ∷ seeds) o e many (inl here) among same =
      let rest : length seeds ≡ length stations = omega arith in
      let mine : Occurrence = record { silent = silent; iri = iri; group = g } in
      let at : e.iri ≡ iri = same ∙ sym (ap (λ (v : Occurrence). v.iri) here) in
      subst (λ (v : Occurrence). AreStationsSent es graphs block (station.service number silent iri g ∷ stations) (rows ∷ seeds) (text_to e v ∷ [])) here
      (alone (station.service number silent iri g) stations rows seeds (text_to e mine) rest (inr (record { member = e; known = among; at = at; text = refl })))

-- no text of an occurrence of an endpoint is longer than it may be
short_for : (es : List EndpointParts) (graphs : List (List Triple)) (graph_at : List ℕ → List Triple) (block : ℕ) (asked : Query) (o : Occurrence) → AreTextsShort es graphs graph_at block asked → Contains (occurrences asked) o → IsShortFor es o
short_for es graphs graph_at block asked o short among e known same =
    let all = of_kept (everybody es) graphs in
    let down = unregistered es 0 (occurrences asked) in
    let rows = seeds asked (union all) graph_at down in
    let x : Sent = text_to es all block e o in
    let sent = text_sent_alone es all block (stations asked) rows o e (seeds_for_each asked (union all) graph_at down) (among_from (occurrences asked) o among) known same in
    All-contains IsShort (x ∷ []) x (short (everybody es) (everybody_keeps es) down (unregistered_may es asked) (x ∷ []) sent) (contains_from (x ∷ []) x (inl refl)) (service_text o.group) refl

-- ---- runs

-- what runs send is among what stations may send
runs_are_stations : (es : List EndpointParts) (graphs : List (List Triple)) (block : ℕ) (stations : List Station) (seeds : List (List Bindings)) (texts : List Sent) → AreRunsSent es graphs block stations seeds texts → AreStationsSent es graphs block stations seeds texts
runs_are_stations es graphs block [] [] texts h = h
runs_are_stations es graphs block [] (rows ∷ seeds) texts h = absurd h
runs_are_stations es graphs block (s ∷ stations) [] texts h = absurd h
runs_are_stations es graphs block (s ∷ stations) (rows ∷ seeds) texts h = (h.0, h.1, h.2, one s h.3, runs_are_stations es graphs block stations seeds h.1 h.4)
  where
    one : (s : Station) → IsSentForRun es graphs block s rows h.0 → IsStationSent es graphs block s rows h.0
    one (station.run ps filters before) k = k
    one (station.service number silent iri g) k = inl k

-- ---- the last round

-- what is known where nothing fails that is needed and nothing is too long
pub record AllIsWell (es : List EndpointParts) (calls : List Call) (texts : List Sent) : Type 0 where
  pub each_harmless : (c : Call) → Among c calls → IsHarmless es c.of.iri c.came
  pub texts_short : All IsShort texts

-- an endpoint at whose address a fault was counted isn't needed
pub not_needed : (w : WiresSeen) (es : List EndpointParts) (asked : Query) (e : EndpointParts) → AreWell w es asked → Contains es e → faults_at w.before e.iri < faults_at w.after e.iri → IsNeeded asked e → ⊥
not_needed w es asked e well among rose needed =
    let same : faults_at w.after e.iri ≡ faults_at w.before e.iri = All-contains (λ (x : EndpointParts). IsNeeded asked x → faults_at w.after x.iri ≡ faults_at w.before x.iri) es e well.1 among needed in
    omega (arith, same, rose)

is_optional : (b : Bool) → (b ≡ false → ⊥) → b ≡ true
is_optional true h = refl
is_optional false h = absurd (h refl)

pub all_is_well : (w : WiresSeen) (es : List EndpointParts) (asked : Query) (graphs : List (List Triple)) (graph_at : List ℕ → List Triple) (entries : List Entry) (block : ℕ) (r : Result OutcomeInRounds FedError) → AllTell w.tells w.before → TellAll w.before es graphs → Serve graph_at es graphs
    → (it : WentInRounds w.tells w.alone w.before w.after es asked [] entries block r) → AreWell w es asked → AreRepliesShort w → AreTextsShort es graphs graph_at block asked → AllIsWell es it.went.last.calls it.went.last.texts
all_is_well w es asked graphs graph_at entries block r alike are_told serve it well replies short =
    let last = it.went.last in
    let calls = last.calls in
    let kept = it.went.last_kept in
    let theirs = of_kept kept graphs in
    let none : NoneFailed es calls = λ e among some.
    let some_failed : 0 < failures_at e.iri calls = some in
    let counted : faults_at it.went.between e.iri + failures_at e.iri calls ≤ faults_at w.after e.iri = last.counted e.iri in
    let before : faults_at w.before e.iri ≤ faults_at it.went.between e.iri = low_at_last w es asked entries block r alike it e.iri in
    let rose : faults_at w.before e.iri < faults_at w.after e.iri = omega (arith, some_failed, counted, before) in
    is_optional e.optional (λ required. not_needed w es asked e well among rose (inl required)) in
    let fit : AreShort last.of_calls = λ x among.
    short_at_last w es asked entries block r alike it well replies x (Contains-permutation (last.of_runs ++ last.of_calls) last.exchanges x last.parted (Contains-append_right last.of_runs last.of_calls x among)) in
    let each = harmless it.went.between es graphs (told_at_last w es asked entries block r alike it graphs are_told) calls last.of_calls last.are_calls none fit (λ c m. short_for es graphs graph_at block asked c.of short (of_query asked calls c last.called (contains_from calls c m))) in
    let down : List ℕ = places (down_in calls) ++ unregistered es 0 (occurrences asked) in
    let agrees : AgreesWith down calls = agree_with it.went.between es asked calls last.of_calls last.called last.are_calls in
    let over = planned_at_last w es asked entries block r alike it graphs graph_at are_told serve in
    let sent = runs_are_stations es theirs block (stations asked) (seeds asked (union theirs) graph_at down) last.texts (last.runs theirs graph_at over down agrees) in
    record {
      each_harmless = each;
      texts_short = short kept (kept_at_last w es asked entries block r alike it) down (may_be_down es asked calls last.called each) last.texts sent;
    }

-- no occurrence without SILENT has a bad reply, or a text that is too long
pub no_plain : (es : List EndpointParts) (calls : List Call) (why : DownCause) (iri : List ℕ) → ((address : List ℕ) → IsHarmless es address (failed why) → ⊥) → ((c : Call) → Among c calls → IsHarmless es c.of.iri c.came) → HasFirstRefused calls why iri → ⊥
no_plain es calls why iri harm each h =
    let its : Among h.refused calls = subst (Among h.refused) (sym h.are) (among_right h.refused h.before (h.refused ∷ h.behind) (inl refl)) in
    harm h.refused.of.iri (subst (IsHarmless es h.refused.of.iri) h.came (each h.refused its))
