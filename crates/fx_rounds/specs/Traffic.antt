-- What is sent in rounds: in each a part of the query's traffic over the graphs of the members that are kept in it.
use Rattle.std.specs.Prelude.{ℕ, Bool, List, [], ◌∷◌, Result}
use Rattle.fx_terms.specs.declared.triples.Triple.{Triple}
use Rattle.fx_outside.specs.Endpoints.{EndpointParts}
use Rattle.fx_algebra.specs.Cuts.{seeds, stations}
use Rattle.fx_algebra.specs.Graphs.{union}
use Rattle.fx_algebra.specs.Units.{of_kept}
use Rattle.fx_algebra.specs.declared.queries.Query.{Query}
use Rattle.fx_plan.specs.declared.parts.Part.{Part}
use Rattle.fx_sources.specs.Probes.{Entry}
use Rattle.fx_traffic.specs.Sent.{Sent, Sends}
use Rattle.fx_traffic.specs.Traffic.{AreStationsSent}
use Rattle.fx_wire.specs.Exchanges.{Exchange, Seen}
use Rattle.fx_outcomes.specs.Calls.{AgreesWith}
use Rattle.fx_outcomes.specs.InRounds.{WentInRounds, plan_over}
use Rattle.fx_outcomes.specs.Mediation.{AreKnown, Serve}
use Rattle.fx_outcomes.specs.RoundEnds.{AreAbandoned}
use Rattle.fx_outcomes.specs.Rounds.{without_all}
use Rattle.fx_outcomes.specs.declared.federated.FedError.{FedError}
use Rattle.fx_outcomes.specs.declared.rounds.OutcomeInRounds.{OutcomeInRounds}
use Rattle.fx_outcomes.specs.declared.rounds.Round.{Round}

-- What a round sends over these graphs, where the occurrences of SERVICE of these numbers are down: batches of the query's runs, and the texts of its SERVICEs, and no ASK. What is left of it wasn't sent.
pub record IsRoundSent (endpoints : List EndpointParts) (graphs : List (List Triple)) (block : ℕ) (services : List ℕ → List Triple) (down : List ℕ) (q : Query) (left : List Sent) (exchanges : List Exchange) : Type 0 where
  pub texts : List Sent
  pub of_stations : AreStationsSent endpoints graphs block (stations q) (seeds q (union graphs) services down) texts
  pub sent : Sends texts left exchanges

abbrev pub SendsRound : List EndpointParts → List (List Triple) → ℕ → (List ℕ → List Triple) → List ℕ → Query → List Exchange → Type 0
SendsRound endpoints graphs block services down q exchanges = (left : List Sent) × IsRoundSent endpoints graphs block services down q left exchanges

-- each round that was abandoned sent that, over the graphs of the members that were kept in it, where those were down that it lists
abbrev pub RoundsSend : (tells alone : Bool) (before after : List Seen) (endpoints : List EndpointParts) (q : Query) (plan : List Bool → List Part) (block : ℕ) (kept last : List Bool) (rounds : List Round)
    → AreAbandoned tells alone before after endpoints q plan block kept last rounds → List (List Triple) → (List ℕ → List Triple) → Type 0
RoundsSend tells alone before after endpoints q plan block kept last [] c graphs services = Unit {0}
RoundsSend tells alone before after endpoints q plan block kept last (r ∷ rounds) c graphs services =
    SendsRound endpoints (of_kept kept graphs) block services r.down q c.1.went.exchanges × RoundsSend tells alone c.0 after endpoints q plan block (without_all r.left kept) last rounds c.3 graphs services

-- So it is where the graphs are told and what the cache held is true of them; and the last round sent that, whichever are down of the occurrences that didn't pass, or stand behind one that didn't.
abbrev pub RoundsAreTraffic : Type 0
RoundsAreTraffic = (tells alone : Bool) (before after : List Seen) (endpoints : List EndpointParts) (q : Query) (old new : List Entry) (block : ℕ) (result : Result OutcomeInRounds FedError)
    → (w : WentInRounds tells alone before after endpoints q old new block result) → (graphs : List (List Triple)) → AreKnown before endpoints old graphs → (services : List ℕ → List Triple) → Serve services endpoints graphs
    → RoundsSend tells alone w.asked w.went.between endpoints q (plan_over endpoints q old w.answers) block w.answers.kept.items w.went.last_kept w.went.abandoned w.went.rounds graphs services
    × ((down : List ℕ) → AgreesWith down w.went.last.calls → SendsRound endpoints (of_kept w.went.last_kept graphs) block services down q w.went.last.exchanges)
