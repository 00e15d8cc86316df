-- What an answer in rounds rests on: who is left out, what is down, what was exchanged for it, and how many faults were counted.
use Rattle.std.specs.Prelude.{◌≡◌, ◌≤◌, ◌+◌, ◌++◌, ◌∷◌, ℕ, Bool, List, [], All, IsPermutation, IsTrue, Ok}
use Rattle.std.specs.List.{flat_map}
use Rattle.fx_terms.specs.declared.triples.Triple.{Triple}
use Rattle.fx_outside.specs.Endpoints.{EndpointParts}
use Rattle.fx_algebra.specs.Answers.{answer}
use Rattle.fx_algebra.specs.Graphs.{union}
use Rattle.fx_algebra.specs.Units.{of_kept, sources}
use Rattle.fx_algebra.specs.declared.queries.Query.{Query}
use Rattle.fx_services.specs.Noted.{places}
use Rattle.fx_services.specs.declared.noted.Down.{Down}
use Rattle.fx_services.specs.declared.noted.DownCause.TheVariants as cause
use Rattle.fx_sources.specs.Probes.{Entry}
use Rattle.fx_sources.specs.Registries.{IsRegistry}
use Rattle.fx_traffic.specs.Gains.{AreAfter, HaveGained, TellAll, WiresSeen, faults_at}
use Rattle.fx_traffic.specs.Sent.{Sent, Sends}
use Rattle.fx_traffic.specs.Traffic.{AreAsked}
use Rattle.fx_walks.specs.Sections.{parts_with}
use Rattle.fx_wire.specs.Exchanges.{Exchange, Seen}
use Rattle.fx_outcomes.specs.Calls.{AreCalls, occurrences}
use Rattle.fx_outcomes.specs.InRounds.{FederatedInRounds, PlannedInRounds, by_asks}
use Rattle.fx_outcomes.specs.Mediation.{Serve}
use Rattle.fx_outcomes.specs.Outcomes.{AllTell}
use Rattle.fx_outcomes.specs.Rounds.{everybody, without_all}
use Rattle.fx_outcomes.specs.declared.rounds.Left.{Left}
use Rattle.fx_outcomes.specs.declared.rounds.OutcomeInRounds.{OutcomeInRounds}
use Rattle.fx_outcomes.specs.declared.rounds.PlanInRounds.{PlanInRounds}
use Rattle.fx_outcomes.specs.declared.rounds.Round.{Round}
use Rattle.fx_rounds.specs.Down.{AreDown, unregistered}
use Rattle.fx_rounds.specs.LeftOut.{AreLeftOut, IsByNumber, LeavesSomebody, left_in}
use Rattle.fx_rounds.specs.Licences.{Licence, downs_failed, lefts_failed}
use Rattle.fx_rounds.specs.Sums.{AreEnough}
use Rattle.fx_rounds.specs.Traffic.{SendsRound}

-- ---- what was exchanged

-- These are the exchanges of rounds that were abandoned, by their rounds: what each sent over the graphs of the members that were kept in it, where those occurrences of SERVICE were down that it lists.
abbrev pub EachSent : List EndpointParts → List (List Triple) → ℕ → (List ℕ → List Triple) → Query → List Bool → List Round → List (List Exchange) → Type 0
EachSent endpoints graphs block services q kept [] [] = Unit {0}
EachSent endpoints graphs block services q kept [] (xs ∷ parts) = ⊥
EachSent endpoints graphs block services q kept (r ∷ rounds) [] = ⊥
EachSent endpoints graphs block services q kept (r ∷ rounds) (xs ∷ parts) =
    SendsRound endpoints (of_kept kept graphs) block services r.down q xs × EachSent endpoints graphs block services q (without_all r.left kept) rounds parts

-- The exchanges of a call with a new cache: ASKs, each for another one of the keys of the query; those of the rounds that were abandoned, where the members that the ASKs left out aren't asked; and
-- those of the last round, over the members that are kept at last, where the occurrences of SERVICE of these numbers are down.
pub record SentInRounds (w : WiresSeen) (endpoints : List EndpointParts) (asked : Query) (block : ℕ) (kept : List Bool) (rounds : List Round) (down : List ℕ) (exchanges : List Exchange) : Type 0 where
  pub left : List Left
  pub abandoned : List Round
  pub rounds_are : rounds ≡ by_asks left ++ abandoned
  pub asks : List Exchange
  pub parts : List (List Exchange)
  pub last : List Exchange
  pub parted : IsPermutation (asks ++ (flat_map (λ (xs : List Exchange). xs) parts ++ last)) exchanges
  pub texts : List Sent
  pub unsent : List Sent
  pub are_asks : AreAsked endpoints asked [] texts
  pub sent : Sends texts unsent asks
  pub each : (graphs : List (List Triple)) → TellAll w.before endpoints graphs → (services : List ℕ → List Triple) → Serve services endpoints graphs
      → EachSent endpoints graphs block services asked (without_all left (everybody endpoints)) abandoned parts × SendsRound endpoints (of_kept kept graphs) block services down asked last

-- ---- an answer

-- Each round leaves somebody out, and lists who it leaves out by number. The members that rounds leave out may be left out, each once, and the others are kept. Each occurrence of SERVICE came in the last round to what it did by its own exchanges alone, which are some of that
-- round's, and these are down. No address has more members that were left out and occurrences that are down since an exchange failed than its count of faults rose by; and each that is for a bad reply
-- has an exchange of its own with this reply, which is bad for what that exchange asks for of the query, as those have that were down in rounds which were abandoned. Where there is no other reason than
-- that the IRI is no endpoint's, those are down of which this is so.
pub record AreLicensed (w : WiresSeen) (endpoints : List EndpointParts) (asked : Query) (block : ℕ) (kept : List Bool) (rounds : List Round) (noted : List Down) : Type 0 where
  pub left_out : AreLeftOut endpoints (left_in rounds) kept
  pub leave : All LeavesSomebody rounds
  pub by_number : All IsByNumber rounds
  pub down : AreDown asked noted
  pub counted : (address : List ℕ) → faults_at w.before address + (lefts_failed endpoints address (left_in rounds) + downs_failed address noted) ≤ faults_at w.after address
  pub exchanges : List Exchange
  pub gained : IsTrue w.tells → HaveGained w.before w.after exchanges
  pub earlier : List Down
  pub licence : Licence endpoints asked w.before w.after exchanges (left_in rounds) (earlier ++ noted)
  pub enough : AreEnough w.tells w.before w.after endpoints asked rounds noted
  pub in_rounds : SentInRounds w endpoints asked block kept rounds (places noted) exchanges
  pub since : List Seen
  pub began : AreAfter w.before since
  pub own : List Exchange
  pub others : List Exchange
  pub own_part : IsPermutation (others ++ own) in_rounds.last
  pub come_to : AreCalls since endpoints down.calls own
  pub all_unknown : All (λ (d : Down). d.why ≡ cause.Unknown) noted → places noted ≡ unregistered endpoints 0 (occurrences asked)

-- where graphs are told the answer is that over the union of the graphs of the members that are kept
abbrev pub IsAnswerOver : WiresSeen → List EndpointParts → Query → List Bool → OutcomeInRounds → Type 0
IsAnswerOver w endpoints asked kept all =
    (graphs : List (List Triple)) → TellAll w.before endpoints graphs → (services : List ℕ → List Triple) → Serve services endpoints graphs
    → all.outcome.answer ≡ answer asked (union (of_kept kept graphs)) services (places all.outcome.down)

-- so it is with an answer, for one and the same list of who is kept
abbrev pub AnswersRestOnThis : Type 0
AnswersRestOnThis = (w : WiresSeen) (endpoints : List EndpointParts) (asked : Query) (new : List Entry) (block : ℕ) (all : OutcomeInRounds)
    → AllTell w.tells w.before → IsRegistry endpoints → (f : FederatedInRounds w.tells w.alone w.before w.after endpoints asked [] new block (Ok all))
    → (kept : List Bool) × AreLicensed w endpoints asked block kept all.abandoned all.outcome.down × IsAnswerOver w endpoints asked kept all

-- by wires that count each address alone, where no member is left out, as many faults were counted as exchanges of the occurrences failed that are down
abbrev pub FaultsAreTold : Type 0
FaultsAreTold = (w : WiresSeen) (endpoints : List EndpointParts) (asked : Query) (new : List Entry) (block : ℕ) (all : OutcomeInRounds)
    → FederatedInRounds w.tells w.alone w.before w.after endpoints asked [] new block (Ok all) → IsTrue w.alone → all.abandoned ≡ []
    → (address : List ℕ) → faults_at w.after address ≡ faults_at w.before address + downs_failed address all.outcome.down

-- ---- a plan

-- The members that the ASKs of a query leave out may be left out, each once, listed by number, and the others are kept. Nothing but ASKs was exchanged; no address has more members that were left out since an
-- exchange failed than its count of faults rose by; and each that is for a bad reply has an exchange of its own with this reply, which is bad for what that exchange asks for of the query.
pub record IsPlanLicensed (w : WiresSeen) (endpoints : List EndpointParts) (asked : Query) (kept : List Bool) (rounds : List Round) : Type 0 where
  pub left_out : AreLeftOut endpoints (left_in rounds) kept
  pub leave : All LeavesSomebody rounds
  pub by_number : All IsByNumber rounds
  pub counted : (address : List ℕ) → faults_at w.before address + lefts_failed endpoints address (left_in rounds) ≤ faults_at w.after address
  pub exchanges : List Exchange
  pub gained : IsTrue w.tells → HaveGained w.before w.after exchanges
  pub licence : Licence endpoints asked w.before w.after exchanges (left_in rounds) []
  pub texts : List Sent
  pub unsent : List Sent
  pub are_asks : AreAsked endpoints asked [] texts
  pub sent : Sends texts unsent exchanges

-- where graphs are told it is the plan by the sources of the patterns among the members that are kept
abbrev pub IsPlanOver : WiresSeen → List EndpointParts → Query → List Bool → PlanInRounds → Type 0
IsPlanOver w endpoints asked kept p = (graphs : List (List Triple)) → TellAll w.before endpoints graphs → p.parts.items ≡ parts_with (sources (of_kept kept graphs)) asked

abbrev pub PlansRestOnThis : Type 0
PlansRestOnThis = (w : WiresSeen) (endpoints : List EndpointParts) (asked : Query) (new : List Entry) (p : PlanInRounds)
    → IsRegistry endpoints → PlannedInRounds w.tells w.alone w.before w.after endpoints asked [] new (Ok p)
    → (kept : List Bool) × IsPlanLicensed w endpoints asked kept p.abandoned × IsPlanOver w endpoints asked kept p

-- by wires that count each address alone, where no member is left out, no fault was counted
abbrev pub PlansCountNone : Type 0
PlansCountNone = (w : WiresSeen) (endpoints : List EndpointParts) (asked : Query) (new : List Entry) (p : PlanInRounds)
    → PlannedInRounds w.tells w.alone w.before w.after endpoints asked [] new (Ok p) → IsTrue w.alone → p.abandoned ≡ []
    → (address : List ℕ) → faults_at w.after address ≡ faults_at w.before address
