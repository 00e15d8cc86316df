-- Where no member may be left out, a query that was asked in rounds was asked in one, of all members.
use Rattle.std.specs.Prelude.{ℕ, Bool, List, All, Result, Ok, Err}
use Rattle.fx_outside.specs.Endpoints.{EndpointParts}
use Rattle.fx_algebra.specs.declared.queries.Query.{Query}
use Rattle.fx_grammar.specs.Accepted.{IsSpellable}
use Rattle.fx_plan.specs.declared.parts.Part.{Part}
use Rattle.fx_sources.specs.Probes.{Entry}
use Rattle.fx_wire.specs.Exchanges.{Seen}
use Rattle.fx_outcomes.specs.InRounds.{FederatedInRounds, PlannedInRounds}
use Rattle.fx_outcomes.specs.Outcomes.{AllTell}
use Rattle.fx_outcomes.specs.declared.federated.FedError.{FedError}
use Rattle.fx_outcomes.specs.declared.federated.Outcome.{Outcome}
use Rattle.fx_outcomes.specs.declared.rounds.OutcomeInRounds.{OutcomeInRounds}
use Rattle.fx_outcomes.specs.declared.rounds.PlanInRounds.{PlanInRounds}
use Rattle.fx_rounds.specs.LeftOut.{IsUnmarked}
use Rattle.fx_laws_unmarked.specs.Federated.{Federated, Planned}

-- what the last round gave, or the refusal
abbrev pub outcome_in : Result OutcomeInRounds FedError → Result Outcome FedError
outcome_in (Ok all) = Ok all.outcome
outcome_in (Err e) = Err e

-- the parts of the plan, or the refusal
abbrev pub parts_of : Result PlanInRounds FedError → Result (List Part) FedError
parts_of (Ok p) = Ok p.parts.items
parts_of (Err e) = Err e

-- all that is known of a query that is asked in one round, where all wires tell their logs or none does
abbrev pub UnmarkedAreFederated : Type 0
UnmarkedAreFederated = (tells alone : Bool) (before after : List Seen) (endpoints : List EndpointParts) (q : Query) (old new : List Entry) (block : ℕ) (result : Result OutcomeInRounds FedError)
    → IsSpellable q → AllTell tells before → All IsUnmarked endpoints
    → FederatedInRounds tells alone before after endpoints q old new block result → Federated tells alone before after endpoints q old new block (outcome_in result)

-- and of its plan
abbrev pub UnmarkedArePlanned : Type 0
UnmarkedArePlanned = (tells alone : Bool) (before after : List Seen) (endpoints : List EndpointParts) (q : Query) (old new : List Entry) (result : Result PlanInRounds FedError)
    → All IsUnmarked endpoints → PlannedInRounds tells alone before after endpoints q old new result → Planned tells alone before after endpoints q old new (parts_of result)
