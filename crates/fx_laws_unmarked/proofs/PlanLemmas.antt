-- A plan of all members by their answers, what a cache holds behind, and the cause where there is none.
use Rattle.std.proofs.Common.{◌≡◌, ◌∙◌, ap, sym, subst, refl, ℕ, ◌<◌, ◌⊎◌, inl, inr, Bool, List, [], ◌∷◌, ◌++◌, map, length, Ok, Err, arith, None}
use Rattle.std.specs.Prelude.{All, Contains, fold}
use Rattle.std.specs.List.{flat_map, range_with_len, zip}
use Rattle.std.proofs.lemmas.List.Elements.{All-contains, All-contains_itself, All-weaker}
use Rattle.fx_terms.specs.declared.triples.Triple.{Triple}
use Rattle.fx_terms.specs.declared.patterns.Pattern.{Pattern}
use Rattle.fx_terms.proofs.SetLemmas.{Among, among_from, contains_from}
use Rattle.fx_outside.specs.Endpoints.{EndpointParts}
use Rattle.fx_algebra.specs.Units.{sources}
use Rattle.fx_algebra.specs.declared.queries.Query.{Query}
use Rattle.fx_keys.specs.Probes.{key_of}
use Rattle.fx_keys.specs.declared.probes.Probe.{Probe}
use Rattle.fx_sources.specs.Patterns.{patterns}
use Rattle.fx_sources.specs.Probes.{Entry, chosen, learned, missing, missing_at, told, with_key}
use Rattle.fx_sources.specs.Sources as source
use Rattle.fx_sources.proofs.SourceLemmas.{chooses, kept_tells, learned_tells}
use Rattle.fx_traffic.specs.Gains.{Tell, TellAll}
use Rattle.fx_wire.specs.Exchanges.{Exchange, Seen}
use Rattle.fx_flows.specs.declared.flows.FlowError.{FlowError}
use Rattle.fx_flows.specs.declared.flows.FlowError.TheVariants as flow
use Rattle.fx_pool.specs.declared.jobs.BadReply.{BadReply}
use Rattle.fx_services.proofs.WentLemmas.{found_here}
use Rattle.fx_laws_unmarked.proofs.AskedLemmas.{AskedAll}
use Rattle.fx_outcomes.specs.Asks.{HasProbeCause, IsAnsweredBy, IsBadAsk, IsProbeCause}
use Rattle.fx_outcomes.specs.Mediation.{IsNamed, AreKnown, KnowsServices}
use Rattle.fx_laws_unmarked.specs.Causes.{HasPlanCause}
use Rattle.fx_laws_unmarked.specs.Federated.{HasKept, HasLearned, HoldsBehind, Planned}
use Rattle.fx_walks.specs.Sections.{parts_by, parts_with, sections}
use Rattle.fx_outcomes.specs.declared.federated.FedError.{FedError}
use Rattle.fx_outcomes.specs.declared.federated.FedError.TheVariants as fed
use Rattle.fx_walks.proofs.PartLemmas.{by_function}
use Rattle.fx_walks.proofs.SectionLemmas.{runs_have}
use Rattle.std.proofs.lemmas.List.Sorted.{IsPermutation-refl}
use Rattle.fx_plan.specs.Explained.{HasMembers}
use Rattle.fx_plan.specs.declared.parts.Part.{Part}
use Rattle.fx_traffic.proofs.GainLemmas.{gain_laws}
use Rattle.fx_pool.proofs.WireLemmas.{after_itself}
use Rattle.fx_walks.specs.Unknown.{unknown_of}
use Rattle.fx_outcomes.proofs.ChoiceLemmas.{as_many_graphs, its_name}
use Rattle.fx_outcomes.proofs.MediationLemmas.{known_named}

-- ---- the parts, where graphs are told

abbrev AreByGraphs : Query → List Entry → List (List Triple) → List Bool → ℕ → Type 0
AreByGraphs q old graphs truths n =
    length truths ≡ length (missing q n old)
    → All (source.Tells graphs) (zip (missing q n old) truths)
    → parts_by (sections q) (chosen q n (told (missing q n old) truths ++ old)) ≡ parts_with (sources graphs) q

pub parts_are_by_graphs : (wires : List Seen) (es : List EndpointParts) (q : Query) (old : List Entry) (graphs : List (List Triple)) (truths : List Bool) → TellAll wires es graphs → All (source.Tells graphs) old → AreByGraphs q old graphs truths (length es)
parts_are_by_graphs wires es q old graphs truths tell held =
    subst (AreByGraphs q old graphs truths) (as_many_graphs wires es graphs tell)
    (λ many answers.
    ap (parts_by (sections q)) (chooses q graphs old truths many held answers ∙ ap (map (sources graphs)) (sym (runs_have q)))
    ∙ by_function (sources graphs) (sections q))

-- ---- what a cache holds

module _ (es : List EndpointParts) (q : Query) (old : List Entry) (xs all : List Exchange) (among : (x : Exchange) → Contains xs x → Contains all x) (truths : List Bool) where
  abbrev lacked : List Probe
  lacked = missing q (length es) old

  answered_among : (entry : Entry) → IsAnsweredBy es xs entry → IsAnsweredBy es all entry
  answered_among entry a = record { exchange = a.exchange; among = among a.exchange a.among; found = a.found; posts = a.posts; told = a.told }

  pub has_learned : length truths ≡ length lacked → All (IsAnsweredBy es xs) (zip lacked truths) → (new : List Entry) → new ≡ learned old lacked truths → HasLearned es q old new all
  has_learned many answered new so = record { truths = truths; many = many; answered = All-weaker (IsAnsweredBy es xs) (IsAnsweredBy es all) answered_among (zip lacked truths) answered; learned_so = so }

  zip_first : (ps : List Probe) (ts : List Bool) (entry : Entry) → Among entry (zip ps ts) → Among entry.0 ps
  zip_first [] ts entry m = absurd m
  zip_first (p ∷ ps) [] entry m = absurd m
  zip_first (p ∷ ps) (t ∷ ts) entry (inl e) = inl (ap (λ (x : Entry). x.0) e)
  zip_first (p ∷ ps) (t ∷ ts) entry (inr m) = inr (zip_first ps ts entry m)

  each_kept : All (IsAnsweredBy es xs) (zip lacked truths) → (entry : Entry) → Contains old entry ⊎ Contains (zip lacked truths) entry → Contains old entry ⊎ (Contains lacked entry.0 × IsAnsweredBy es all entry)
  each_kept answered entry (inl m) = inl m
  each_kept answered entry (inr m) =
      inr (contains_from lacked entry.0 (zip_first lacked truths entry (among_from (zip lacked truths) entry m)), answered_among entry (All-contains (IsAnsweredBy es xs) (zip lacked truths) entry answered m))

  pub has_kept : All (IsAnsweredBy es xs) (zip lacked truths) → (new : List Entry) → All (λ (e : Entry). Contains old e ⊎ Contains (zip lacked truths) e) new → HasKept es q old new all
  has_kept answered new kept = record { each = All-weaker (λ (e : Entry). Contains old e ⊎ Contains (zip lacked truths) e) (λ (e : Entry). Contains old e ⊎ (Contains lacked e.0 × IsAnsweredBy es all e)) (each_kept answered) new kept }

-- nothing changed
pub all_kept : (es : List EndpointParts) (q : Query) (old : List Entry) (xs : List Exchange) → HasKept es q old old xs
all_kept es q old xs = record { each = All-weaker (Contains old) (λ (e : Entry). Contains old e ⊎ (Contains (missing q (length es) old) e.0 × IsAnsweredBy es xs e)) (λ e m. inl m) old (All-contains_itself old) }

-- ---- a query that has a probe has a pattern

none_at_members : (old : List Entry) (members : List ℕ) → flat_map (missing_at old []) members ≡ []
none_at_members old [] = refl
none_at_members old (at ∷ members) = none_at_members old members

some_patterns : (q : Query) (n : ℕ) (old : List Entry) (p : Probe) → Contains (missing q n old) p → 0 < length (patterns q)
some_patterns q n old p m = by (patterns q) refl
  where
    by : (ps : List Pattern) → patterns q ≡ ps → 0 < length ps
    by [] e =
        let none : missing q n old ≡ [] = ap (λ (ps : List Pattern). flat_map (missing_at old (fold with_key [] (map key_of ps))) (range_with_len 0 n)) e ∙ none_at_members old (range_with_len 0 n) in
        absurd (among_from [] p (subst (λ (v : List Probe). Contains v p) none m))
    by (x ∷ ps) e = omega arith

-- ---- the cause

module _ (es : List EndpointParts) (q : Query) (old : List Entry) (s t : List Seen) (xs : List Exchange) where
  named_cause : (why : FlowError) (e : FedError) → IsProbeCause s t es (missing q (length es) old) xs why → IsNamed es why e → HasPlanCause s t es q old xs e
  named_cause why fed.Memory k n = tt
  named_cause (flow.Member at) (fed.Member name) k n =
      (some_patterns q (length es) old k.probe k.among, (k.endpoint, found_here es k.probe.at k.endpoint k.found, its_name es k.probe.at at k.endpoint name k.named k.found n, k.cause))
  named_cause (flow.BadReply at bad) (fed.BadReply name other) k n = (
    k.endpoint,
    found_here es k.probe.at k.endpoint k.found,
    its_name es k.probe.at at k.endpoint name k.named k.found n.0,
    (k.probe, record { lacked = k.among; found = k.found }, subst (λ (b : BadReply). IsBadAsk (Tell s k.endpoint.iri) k.endpoint k.probe xs b) (sym n.1) k.cause),
  )
  named_cause (flow.RequestTooLong at size) (fed.RequestTooLong name other) k n = (
    k.endpoint,
    found_here es k.probe.at k.endpoint k.found,
    its_name es k.probe.at at k.endpoint name k.named k.found n.0,
    (k.probe, record { lacked = k.among; found = k.found }, (n.1 ∙ k.cause.0, subst (λ (size : ℕ). 67108864 < size) (sym n.1) k.cause.1)),
  )
  named_cause (flow.Member at) (fed.BadReply name other) k n = absurd n
  named_cause (flow.Member at) (fed.RequestTooLong name other) k n = absurd n
  named_cause (flow.BadReply at bad) (fed.Member name) k n = absurd n
  named_cause (flow.BadReply at bad) (fed.RequestTooLong name other) k n = absurd n
  named_cause (flow.RequestTooLong at size) (fed.Member name) k n = absurd n
  named_cause (flow.RequestTooLong at size) (fed.BadReply name other) k n = absurd n
  named_cause flow.Memory (fed.Member name) k n = absurd n
  named_cause flow.Memory (fed.BadReply name other) k n = absurd n
  named_cause flow.Memory (fed.RequestTooLong name other) k n = absurd n
  named_cause (flow.Member at) (fed.Service iri) k n = absurd n
  named_cause (flow.Member at) (fed.UnknownService iri) k n = absurd n
  named_cause (flow.BadReply at bad) (fed.Service iri) k n = absurd n
  named_cause (flow.BadReply at bad) (fed.UnknownService iri) k n = absurd n
  named_cause (flow.RequestTooLong at size) (fed.Service iri) k n = absurd n
  named_cause (flow.RequestTooLong at size) (fed.UnknownService iri) k n = absurd n
  named_cause flow.Memory (fed.Service iri) k n = absurd n
  named_cause flow.Memory (fed.UnknownService iri) k n = absurd n

  pub plan_cause : (why : FlowError) (e : FedError) → HasProbeCause s t es (missing q (length es) old) xs why → IsNamed es why e → HasPlanCause s t es q old xs e
  plan_cause (flow.Member at) e k n = named_cause (flow.Member at) e k n
  plan_cause (flow.BadReply at bad) e k n = named_cause (flow.BadReply at bad) e k n
  plan_cause (flow.RequestTooLong at size) e k n = named_cause (flow.RequestTooLong at size) e k n
  plan_cause flow.Memory fed.Memory k n = tt
  plan_cause flow.Memory (fed.Member name) k n = absurd n
  plan_cause flow.Memory (fed.BadReply name other) k n = absurd n
  plan_cause flow.Memory (fed.RequestTooLong name other) k n = absurd n
  plan_cause flow.Memory (fed.Service iri) k n = absurd n
  plan_cause flow.Memory (fed.UnknownService iri) k n = absurd n

-- ---- a plan

-- after a refusal the cache is as before, or memory ran out
pub stays : (X : Type 0) (es : List EndpointParts) (q : Query) (old : List Entry) (xs : List Exchange) (e : FedError) → HoldsBehind {X = X} es q old old xs (Err e)
stays X es q old xs fed.Memory = all_kept es q old xs
stays X es q old xs (fed.Member name) = refl
stays X es q old xs (fed.Service iri) = refl
stays X es q old xs (fed.BadReply name bad) = refl
stays X es q old xs (fed.RequestTooLong name size) = refl
stays X es q old xs (fed.UnknownService iri) = refl

-- nothing is asked where a SERVICE is unknown, or memory lacks
pub planned_unasked : (tells alone : Bool) (wires : List Seen) (es : List EndpointParts) (q : Query) (old : List Entry) (e : FedError) → KnowsServices {X = List Part} es q (Err e) → HasPlanCause wires wires es q old [] e → Planned tells alone wires wires es q old old (Err e)
planned_unasked tells alone wires es q old e known cause = record {
  exchanges = [];
  gained = λ told. gain_laws.nothing wires;
  after_all = after_itself wires;
  quiet = λ is. tt;
  asks = [];
  asked = record { probes = []; unasked = missing q (length es) old; lacked = IsPermutation-refl (missing q (length es) old); texts = refl };
  left = [];
  sent = IsPermutation-refl [];
  whole = tt;
  faultless = tt;
  parts = tt;
  by_answers = tt;
  within = tt;
  known = known;
  cause = cause;
  held = stays (List Part) es q old [] e;
  stays_true = λ graphs is. is.entries_are;
}

module _ (tells alone : Bool) (s t : List Seen) (es : List EndpointParts) (q : Query) (old : List Entry) (known : unknown_of es q ≡ None) where
  abbrev probes : List Probe
  probes = missing q (length es) old

  -- the entries are true of graphs that are told
  abbrev StaysTrue : List Entry → Type 0
  StaysTrue new = (graphs : List (List Triple)) → AreKnown s es old graphs → All (source.Tells graphs) new

  pub stays_as_known : StaysTrue old
  stays_as_known graphs known = known.entries_are

  -- ---- a plan

  pub planned_refused : (why : FlowError) (e : FedError) → AskedAll tells alone s t es probes (Err why) → IsNamed es why e → Planned tells alone s t es q old old (Err e)
  planned_refused why e h n = record {
    exchanges = h.exchanges;
    gained = h.gained;
    after_all = h.after_all;
    quiet = λ is. tt;
    asks = h.wanted;
    asked = record { probes = h.asked; unasked = h.unasked; lacked = h.split; texts = h.texts };
    left = h.left;
    sent = h.sent;
    whole = tt;
    faultless = tt;
    parts = tt;
    by_answers = tt;
    within = tt;
    known = known_named (List Part) es q why e n known;
    cause = plan_cause es q old s t h.exchanges why e h.cause n;
    held = stays (List Part) es q old h.exchanges e;
    stays_true = stays_as_known;
  }

  module _ (truths : List Bool) (h : AskedAll tells alone s t es probes (Ok truths)) where
    pub learned_true : (new : List Entry) → new ≡ learned old probes truths → StaysTrue new
    learned_true new so graphs known = subst (All (source.Tells graphs)) (sym so) (learned_tells graphs old probes truths known.entries_are (h.told graphs known.told))

    pub kept_true : (new : List Entry) → All (λ (e : Entry). Contains old e ⊎ Contains (zip probes truths) e) new → StaysTrue new
    kept_true new kept graphs known = kept_tells graphs old (zip probes truths) new known.entries_are (h.told graphs known.told) kept

    pub planned : (new : List Entry) (parts : List Part) → new ≡ learned old probes truths → parts ≡ parts_by (sections q) (chosen q (length es) (told probes truths ++ old)) → All (HasMembers (length es)) parts → Planned tells alone s t es q old new (Ok parts)
    planned new parts so are within =
        let learns : HasLearned es q old new h.exchanges = record { truths = truths; many = h.many; answered = h.answered; learned_so = so } in
        record {
          exchanges = h.exchanges;
          gained = h.gained;
          after_all = h.after_all;
          quiet = h.quiet;
          asks = h.wanted;
          asked = record { probes = h.asked; unasked = h.unasked; lacked = h.split; texts = h.texts };
          left = h.left;
          sent = h.sent;
          whole = h.whole;
          faultless = h.faultless;
          parts = λ graphs known. are ∙ parts_are_by_graphs s es q old graphs truths known.told known.entries_are h.many (h.told graphs known.told);
          by_answers = record { answers = learns; parts_are = are };
          within = within;
          known = known;
          cause = tt;
          held = learns;
          stays_true = learned_true new so;
        }

    pub planned_lost : (new : List Entry) → All (λ (e : Entry). Contains old e ⊎ Contains (zip probes truths) e) new → Planned tells alone s t es q old new (Err fed.Memory)
    planned_lost new kept = record {
      exchanges = h.exchanges;
      gained = h.gained;
      after_all = h.after_all;
      quiet = λ is. tt;
      asks = h.wanted;
      asked = record { probes = h.asked; unasked = h.unasked; lacked = h.split; texts = h.texts };
      left = h.left;
      sent = h.sent;
      whole = tt;
      faultless = tt;
      parts = tt;
      by_answers = tt;
      within = tt;
      known = tt;
      cause = tt;
      held = has_kept es q old h.exchanges h.exchanges (λ x m. m) truths h.answered new kept;
      stays_true = kept_true new kept;
    }
