-- What it rests on that members were left out, and occurrences of SERVICE were down, since an exchange failed or a reply was bad.
use Rattle.std.specs.Prelude.{◌≡◌, ◌⊎◌, ◌<◌, ◌≤◌, ◌+◌, ◌++◌, ◌∷◌, ℕ, Bool, true, List, [], All, Contains, IsPermutation, Option, None, Some, Ok, length, map, slice_get, bytes_eq, cond}
use Rattle.std.specs.List.{flat_map}
use Rattle.fx_terms.specs.declared.triples.Triple.{Triple}
use Rattle.fx_outside.specs.Endpoints.{EndpointParts}
use Rattle.fx_algebra.specs.Scopes.{scope}
use Rattle.fx_algebra.specs.declared.queries.Query.{Query}
use Rattle.fx_algebra.specs.declared.units.Row.{Row}
use Rattle.fx_algebra.specs.declared.units.Unit as unit
use Rattle.fx_grammar.specs.Accepted.{Accepted}
use Rattle.fx_http.specs.Requests.{request_of}
use Rattle.fx_http.specs.declared.replies.ReplyError.TheVariants.{TooLong}
use Rattle.fx_keys.specs.declared.probes.Probe.{Probe}
use Rattle.fx_plan.specs.declared.parts.Part.{Part}
use Rattle.fx_pool.specs.Reading.{HasFault, a_service, an_ask, carried_for}
use Rattle.fx_pool.specs.declared.faults.ReplyFault.{ReplyFault}
use Rattle.fx_pool.specs.declared.faults.ReplyFault.TheVariants.{Http}
use Rattle.fx_services.specs.Beside.{Occurrence}
use Rattle.fx_services.specs.ServicesAsked.{service_text}
use Rattle.fx_services.specs.declared.noted.Down.{Down}
use Rattle.fx_services.specs.declared.noted.DownCause.{DownCause}
use Rattle.fx_services.specs.declared.noted.DownCause.TheVariants as down_cause
use Rattle.fx_sources.specs.Patterns.{patterns}
use Rattle.fx_sources.specs.Probes.{Entry, missing}
use Rattle.fx_sources.specs.Registries.{IsRegistry}
use Rattle.fx_sources.specs.Sources.{ask_text}
use Rattle.fx_spelling.specs.Units.{IsFit}
use Rattle.fx_traffic.specs.Batches.{text_for}
use Rattle.fx_traffic.specs.Gains.{Tell, faults_at}
use Rattle.fx_wire.specs.Exchanges.{Exchange, Seen}
use Rattle.fx_outcomes.specs.Calls.{down_in, occurrences}
use Rattle.fx_outcomes.specs.InRounds.{WentInRounds, plan_over}
use Rattle.fx_outcomes.specs.RoundEnds.{AreAbandoned}
use Rattle.fx_outcomes.specs.Rounds.{without_all}
use Rattle.fx_outcomes.specs.declared.rounds.Left.{Left}
use Rattle.fx_outcomes.specs.declared.rounds.LeftCause.{LeftCause}
use Rattle.fx_outcomes.specs.declared.rounds.LeftCause.TheVariants as left_cause
use Rattle.fx_outcomes.specs.declared.rounds.OutcomeInRounds.{OutcomeInRounds}
use Rattle.fx_outcomes.specs.declared.rounds.Round.{Round}
use Rattle.fx_rounds.specs.Gained.{went_exchanged}
use Rattle.fx_rounds.specs.LeftOut.{left_in}

-- ---- exchanges that failed

abbrev pub left_failure : LeftCause → ℕ
left_failure left_cause.Failed = 1
left_failure (left_cause.Bad bad) = 0
left_failure (left_cause.TooLong size) = 0

abbrev pub down_failure : DownCause → ℕ
down_failure down_cause.Failed = 1
down_failure (down_cause.Bad bad) = 0
down_failure (down_cause.TooLong size) = 0
down_failure down_cause.Unknown = 0

-- the address of an endpoint, where there is one
abbrev pub address_of : Option EndpointParts → List ℕ
address_of None = []
address_of (Some e) = e.iri

-- that of the member which is left out
abbrev pub left_address : List EndpointParts → Left → List ℕ
left_address endpoints l = address_of (slice_get endpoints l.at)

-- how many of these members are left out since an exchange with this address failed
abbrev pub lefts_failed : List EndpointParts → List ℕ → List Left → ℕ
lefts_failed endpoints address [] = 0
lefts_failed endpoints address (l ∷ left) = cond {A = ℕ} (bytes_eq (left_address endpoints l) address) (left_failure l.why) 0 + lefts_failed endpoints address left

-- how many of these occurrences are down for it
abbrev pub downs_failed : List ℕ → List Down → ℕ
downs_failed address [] = 0
downs_failed address (d ∷ down) = cond {A = ℕ} (bytes_eq d.iri address) (down_failure d.why) 0 + downs_failed address down

-- ---- bad replies

-- a request to an address, and the reply
pub record Replied : Type 0 where
  pub address : List ℕ
  pub request : List ℕ
  pub reply : List ℕ

abbrev pub replied : List ℕ → List ℕ → List ℕ → Replied
replied address request reply = record { address = address; request = request; reply = reply }

abbrev pub replied_in : Exchange → Replied
replied_in x = replied x.at.iri x.request x.reply

-- the bad reply from this address for which a member is left out, if it is for one
abbrev pub left_bad : List ℕ → LeftCause → List Replied
left_bad address left_cause.Failed = []
left_bad address (left_cause.Bad bad) = replied address bad.request bad.reply ∷ []
left_bad address (left_cause.TooLong size) = []

abbrev pub lefts_bad : List EndpointParts → List Left → List Replied
lefts_bad endpoints left = flat_map (λ l. left_bad (left_address endpoints l) l.why) left

-- for which an occurrence is down
abbrev pub down_bad : List ℕ → DownCause → List Replied
down_bad address down_cause.Failed = []
down_bad address (down_cause.Bad bad) = replied address bad.request bad.reply ∷ []
down_bad address (down_cause.TooLong size) = []
down_bad address down_cause.Unknown = []

abbrev pub downs_bad : List Down → List Replied
downs_bad down = flat_map (λ d. down_bad d.iri d.why) down

-- ---- what was asked, and the fault of the reply

-- The exchange is the ASK of one of the query's probes, for the probe's endpoint, and its reply has this first fault for an ASK.
pub record HasAskFault (endpoints : List EndpointParts) (q : Query) (x : Exchange) (why : ReplyFault) : Type 0 where
  pub probe : Probe
  pub of_query : Contains (missing q (length endpoints) []) probe
  pub found : slice_get endpoints probe.at ≡ Some x.at
  pub posts : x.request ≡ request_of x.at (ask_text probe.key.pattern)
  pub fault : HasFault an_ask x.reply why

-- A unit of the query's patterns outside SERVICE. Where some text is accepted as the query it can be asked for.
pub record IsPlannedFor (q : Query) (u : unit.Unit) : Type 0 where
  pub of_query : All (Contains (patterns q)) u.patterns
  pub fit : (text : List ℕ) → Accepted text q → IsFit u

-- The exchange asks a member of such a unit for a batch of it, these rows, in the form that the member takes, and its reply has this first fault for that batch in that form.
pub record HasBatchFault (endpoints : List EndpointParts) (q : Query) (x : Exchange) (why : ReplyFault) : Type 0 where
  pub unit : unit.Unit
  pub of_query : IsPlannedFor q unit
  pub rows : List Row
  pub at : ℕ
  pub member : Contains unit.members at
  pub found : slice_get endpoints at ≡ Some x.at
  pub text : List ℕ
  pub of_batch : text_for x.at (record { unit = unit; rows = rows }) ≡ Some text
  pub posts : x.request ≡ request_of x.at text
  pub fault : HasFault (carried_for x.at (record { unit = unit; rows = rows })) x.reply why

-- The exchange asks the endpoint that a silent occurrence of SERVICE of the query names for its group, and its reply has this first fault for the rows of that group.
pub record HasServiceFault (endpoints : List EndpointParts) (q : Query) (x : Exchange) (why : ReplyFault) : Type 0 where
  pub occurrence : Occurrence
  pub of_query : Contains (occurrences q) occurrence
  pub silent : occurrence.silent ≡ true
  pub endpoint : Contains endpoints x.at
  pub named : x.at.iri ≡ occurrence.iri
  pub posts : x.request ≡ request_of x.at (service_text occurrence.group)
  pub fault : HasFault (a_service (scope occurrence.group)) x.reply why

-- The exchange asks for something of the query, and its reply has a fault for that very thing: an ASK of one of its probes, a batch of a unit of its patterns, or the group of one of its occurrences of
-- SERVICE. Where these wires tell the graph of its address, the fault is that the reply is too long, and it is longer than a reply may be.
pub record IsBad (endpoints : List EndpointParts) (q : Query) (before : List Seen) (x : Exchange) : Type 0 where
  pub why : ReplyFault
  pub asked : HasAskFault endpoints q x why ⊎ (HasBatchFault endpoints q x why ⊎ HasServiceFault endpoints q x why)
  pub long : (graph : List Triple) → Tell before x.at.iri graph → (why ≡ Http TooLong) × (67108864 < length x.reply)

-- ---- a licence

-- At each address as many faults were counted at least as members were left out and occurrences were down since an exchange there failed. Where they were for bad replies,
-- each of these is that of an exchange of its own, which has this request to the address, and asks for something of the query for which this reply is bad.
pub record Licence (endpoints : List EndpointParts) (q : Query) (before after : List Seen) (xs : List Exchange) (left : List Left) (down : List Down) : Type 0 where
  pub counted : (address : List ℕ) → faults_at before address + (lefts_failed endpoints address left + downs_failed address down) ≤ faults_at after address
  pub refused : List Exchange
  pub others : List Exchange
  pub parted : IsPermutation (refused ++ others) xs
  pub each : All (IsBad endpoints q before) refused
  pub told : IsPermutation (map replied_in refused) (lefts_bad endpoints left ++ downs_bad down)

-- in another order the exchanges license as much
abbrev pub LicencesInAnyOrder : Type 0
LicencesInAnyOrder = (endpoints : List EndpointParts) (q : Query) (before after : List Seen) (xs ys : List Exchange) (left : List Left) (down : List Down) → IsPermutation xs ys
    → Licence endpoints q before after xs left down → Licence endpoints q before after ys left down

-- ---- of a query

-- what was down in each of these rounds, in their order
abbrev pub downs_in : (tells alone : Bool) (before after : List Seen) (endpoints : List EndpointParts) (q : Query) (plan : List Bool → List Part) (block : ℕ) (kept last : List Bool) (rounds : List Round)
    → AreAbandoned tells alone before after endpoints q plan block kept last rounds → List Down
downs_in tells alone before after endpoints q plan block kept last [] c = []
downs_in tells alone before after endpoints q plan block kept last (r ∷ rounds) c =
    down_in c.1.went.calls ++ downs_in tells alone c.0 after endpoints q plan block (without_all r.left kept) last rounds c.3

-- With an answer there is a licence for all members that are left out, and for all occurrences that were down in a round that was abandoned, or are in the last one.
abbrev pub AnswersAreLicensed : Type 0
AnswersAreLicensed = (tells alone : Bool) (before after : List Seen) (endpoints : List EndpointParts) (q : Query) (old new : List Entry) (block : ℕ) (all : OutcomeInRounds)
    → IsRegistry endpoints → (w : WentInRounds tells alone before after endpoints q old new block (Ok all))
    → Licence endpoints q before after (went_exchanged tells alone before after endpoints q old new block (Ok all) w) (left_in all.abandoned)
    (downs_in tells alone w.asked w.went.between endpoints q (plan_over endpoints q old w.answers) block w.answers.kept.items w.went.last_kept w.went.abandoned w.went.rounds ++ all.outcome.down)
