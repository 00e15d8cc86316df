-- What the steps of `fedx query` and `fedx explain` give. `IsQueryReported` and `IsExplainReported` say what the whole gives.
use Rattle.std.specs.Prelude.{◌≡◌, ◌⊎◌, ℕ, List, Result, Ok, Err}
use Rattle.fx_outside.specs.Endpoints.{EndpointParts}
use Rattle.fx_algebra.specs.declared.queries.Query.{Query}
use Rattle.fx_sources.specs.Registries.{IsRegistry}
use Rattle.fx_outcomes.specs.declared.federated.FedError.{FedError}
use Rattle.fx_outcomes.specs.declared.federated.FedError.TheVariants as fed
use Rattle.fx_outcomes.specs.declared.rounds.OutcomeInRounds.{OutcomeInRounds}
use Rattle.fx_outcomes.specs.declared.rounds.PlanInRounds.{PlanInRounds}
use Rattle.fx_local.specs.declared.statuses.Status.{Status}
use Rattle.fx_local.specs.declared.statuses.Status.TheVariants as status
use Rattle.fx_commands.specs.Asking.{IsUnasked, WasAsked, WasPlanned}
use Rattle.fx_traffic.specs.Gains.{WiresSeen}
use Rattle.fx_commands.specs.FedRefusals.{IsEnd}
use Rattle.fx_local.specs.Lines.{no_memory}
use Rattle.fx_lines.specs.MemberLines.{answer_lines, plan_lines}
use Rattle.fx_commands.specs.Explain.{IsPlanCut, IsPlanWritten}
use Rattle.fx_commands.specs.Query.{IsOutcomeCut, IsOutcomeWritten}
use Rattle.fx_local.specs.Sinks.{SinkWritten}

-- a query was asked for with a new cache, unless there was no memory for that
abbrev pub IsAnswered : WiresSeen → List EndpointParts → Query → ℕ → Result OutcomeInRounds FedError → Type 0
IsAnswered w endpoints q block result = (IsUnasked w × (result ≡ Err fed.Memory)) ⊎ WasAsked w endpoints q block result

abbrev pub IsLaidOut : WiresSeen → List EndpointParts → Query → Result PlanInRounds FedError → Type 0
IsLaidOut w endpoints q result = (IsUnasked w × (result ≡ Err fed.Memory)) ⊎ WasPlanned w endpoints q result

-- memory ran out
abbrev pub IsWant : Status → List ℕ → Type 0
IsWant s text = (s ≡ status.NoMemory) × (text ≡ no_memory)

-- what answering a query over endpoints reports
abbrev pub IsAnswerReported : WiresSeen → List EndpointParts → Query → ℕ → Status → List ℕ → Type 0
IsAnswerReported w endpoints q block s text =
    (IsUnasked w × IsWant s text)
    ⊎ ((result : Result OutcomeInRounds FedError) × IsRegistry endpoints × WasAsked w endpoints q block result × IsEnd (answer_lines endpoints) result s text)

-- the members gave something, and this was written
abbrev pub IsAnswerDone : WiresSeen → List EndpointParts → Query → ℕ → SinkWritten → SinkWritten → Type 0
IsAnswerDone w endpoints q block out err = (all : OutcomeInRounds) × IsRegistry endpoints × WasAsked w endpoints q block (Ok all) × IsOutcomeWritten endpoints all out err

-- the members gave something, and a front of it was written
abbrev pub IsAnswerCut : WiresSeen → List EndpointParts → Query → ℕ → SinkWritten → Type 0
IsAnswerCut w endpoints q block out = (all : OutcomeInRounds) × IsRegistry endpoints × WasAsked w endpoints q block (Ok all) × IsOutcomeCut all out

-- what printing the plan of a query reports
abbrev pub IsLayoutReported : WiresSeen → List EndpointParts → Query → Status → List ℕ → Type 0
IsLayoutReported w endpoints q s text =
    (IsUnasked w × IsWant s text)
    ⊎ ((result : Result PlanInRounds FedError) × IsRegistry endpoints × WasPlanned w endpoints q result × IsEnd (plan_lines endpoints) result s text)

-- the plan was made, and it and the lines behind it were written
abbrev pub IsLayoutDone : WiresSeen → List EndpointParts → Query → SinkWritten → SinkWritten → Type 0
IsLayoutDone w endpoints q out err = (p : PlanInRounds) × IsRegistry endpoints × WasPlanned w endpoints q (Ok p) × IsPlanWritten endpoints p out err

-- the plan was made, and a front of it was written
abbrev pub IsLayoutCut : WiresSeen → List EndpointParts → Query → SinkWritten → Type 0
IsLayoutCut w endpoints q out = (p : PlanInRounds) × IsRegistry endpoints × WasPlanned w endpoints q (Ok p) × IsPlanCut endpoints p out
