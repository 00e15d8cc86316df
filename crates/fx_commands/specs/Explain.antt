-- What `fedx explain` does.
use Rattle.std.specs.Prelude.{◌≡◌, ◌⊎◌, ◌+◌, ◌≤◌, ◌++◌, ℕ, Bool, List, [], All, IfSome, IsTrue, Ok, Result}
use Rattle.fx_terms.specs.declared.triples.Triple.{Triple}
use Rattle.fx_outside.specs.Endpoints.{EndpointParts}
use Rattle.fx_outside.specs.Streams.{AppendsFront}
use Rattle.fx_algebra.specs.Units.{of_kept, sources}
use Rattle.fx_algebra.specs.declared.queries.Query.{Query}
use Rattle.fx_grammar.specs.Accepted.{Accepted}
use Rattle.fx_plan.specs.Explained.{explained}
use Rattle.fx_sources.specs.Registries.{IsRegistry, read_registry}
use Rattle.fx_traffic.specs.Gains.{TellAll, WiresSeen, faults_at}
use Rattle.fx_wire.specs.Exchanges.{Seen}
use Rattle.fx_walks.specs.Sections.{parts_with}
use Rattle.fx_outcomes.specs.declared.federated.FedError.{FedError}
use Rattle.fx_outcomes.specs.declared.rounds.Left.{Left}
use Rattle.fx_outcomes.specs.declared.rounds.PlanInRounds.{PlanInRounds}
use Rattle.fx_outcomes.specs.declared.rounds.Round.{Round}
use Rattle.fx_rounds.specs.LeftOut.{AreLeftOut, LeavesSomebody, left_in}
use Rattle.fx_rounds.specs.Licences.{lefts_failed}
use Rattle.fx_local.specs.declared.statuses.Status.{Status}
use Rattle.fx_commands.specs.Asking.{IsUnasked, IsRefusedBefore, WasPlanned}
use Rattle.fx_commands.specs.FedRefusals.{IsEnd}
use Rattle.fx_local.specs.Files.{FileRead, IsQueryOf, IsRegistryOf}
use Rattle.fx_lines.specs.MemberLines.{left_lines, plan_lines}
use Rattle.fx_local.specs.Sinks.{SinkWritten, Wrote}

-- ---- the text of the plan

-- Members are left out that may be, each once. Where the graphs of all endpoints are told, the text is that of the query's parts, where each triple pattern is asked of those of the other members
-- whose graphs it fits.
abbrev pub IsPlanText : List Seen → List EndpointParts → Query → List ℕ → Type 0
IsPlanText wires endpoints q text =
    (left : List Left) × (kept : List Bool) × AreLeftOut endpoints left kept
    × ((graphs : List (List Triple)) → TellAll wires endpoints graphs → text ≡ explained (parts_with (sources (of_kept kept graphs)) q) endpoints)

-- of the endpoints of a registry and the query of a text
pub record IsExplanationOf (wires : List Seen) (registry query text : List ℕ) : Type 0 where
  pub endpoints : List EndpointParts
  pub registered : read_registry registry ≡ Ok endpoints
  pub asked : Query
  pub accepted : Accepted query asked
  pub text_is : IsPlanText wires endpoints asked text

-- where both contents are told, the text is that one
abbrev pub IsExplanation : List Seen → FileRead → FileRead → List ℕ → Type 0
IsExplanation wires r q text = IfSome r.content (λ registry. IfSome q.content (λ query. IsExplanationOf wires registry query text))

-- ---- statuses

-- The members of the registry were asked with a new cache which of the query's patterns they have anything for, and nothing else, if each SERVICE without
-- SILENT names one: what was exchanged, the plan by what they answered, and else the cause at the one that the refusal names.
pub record IsPlanned (w : WiresSeen) (r q : FileRead) (result : Result PlanInRounds FedError) : Type 0 where
  pub endpoints : List EndpointParts
  pub registered : IsRegistryOf r endpoints
  pub registry : IsRegistry endpoints
  pub asked : Query
  pub accepted : IsQueryOf q asked
  pub planned : WasPlanned w endpoints asked result

-- the cause of each status, and its lines on standard error: nothing is asked where a file is refused
abbrev pub IsExplainReported : WiresSeen → FileRead → FileRead → Status → List ℕ → Type 0
IsExplainReported w r q s text =
    (IsUnasked w × IsRefusedBefore r q s text)
    ⊎ ((result : Result PlanInRounds FedError) × (f : IsPlanned w r q result) × IsEnd (plan_lines f.endpoints) result s text)

-- what each status leaves on standard output: the text, a front of it where a write failed, and else nothing new
abbrev pub IsExplainWritten : List Seen → FileRead → FileRead → Status → List ℕ → List ℕ → Type 0
IsExplainWritten wires r q s old new = Wrote (IsExplanation wires r q) s old new

-- ---- a plan that is printed

-- standard output gained the text of the plan, and standard error a line for each member that is left out
abbrev pub IsPlanWritten : List EndpointParts → PlanInRounds → SinkWritten → SinkWritten → Type 0
IsPlanWritten endpoints p out err = (IsTrue out.tells → out.new ≡ out.old ++ explained p.parts.items endpoints) × (IsTrue err.tells → err.new ≡ err.old ++ plan_lines endpoints p)

-- there is a plan, and this was written
abbrev pub IsExplainDone : WiresSeen → FileRead → FileRead → SinkWritten → SinkWritten → Type 0
IsExplainDone w r q out err = (p : PlanInRounds) × (f : IsPlanned w r q (Ok p)) × IsPlanWritten f.endpoints p out err

-- ---- a plan whose text is cut short

-- standard output has a front of the text of the plan
abbrev pub IsPlanCut : List EndpointParts → PlanInRounds → SinkWritten → Type 0
IsPlanCut endpoints p out = IsTrue out.tells → AppendsFront out.old out.new (explained p.parts.items endpoints)

-- there is a plan, and standard output has a front of its text
abbrev pub IsExplainCut : WiresSeen → FileRead → FileRead → SinkWritten → Type 0
IsExplainCut w r q out = (p : PlanInRounds) × (f : IsPlanned w r q (Ok p)) × IsPlanCut f.endpoints p out

-- ---- faults

-- At each address as many faults were counted at least as lines on standard error say of it that the wire failed, each for a member that is left out; and where none is, no fault was counted.
pub record CountsLeftBy (endpoints : List EndpointParts) (before after : List Seen) (err : SinkWritten) : Type 0 where
  pub rounds : List Round
  pub kept : List Bool
  pub left_out : AreLeftOut endpoints (left_in rounds) kept
  pub leave : All LeavesSomebody rounds
  pub lines : IsTrue err.tells → err.new ≡ err.old ++ left_lines endpoints rounds
  pub counted : (address : List ℕ) → faults_at before address + lefts_failed endpoints address (left_in rounds) ≤ faults_at after address
  pub exact : rounds ≡ [] → (address : List ℕ) → faults_at after address ≡ faults_at before address

-- so it is of the registry of a file
pub record CountsLeft (r : FileRead) (before after : List Seen) (err : SinkWritten) : Type 0 where
  pub endpoints : List EndpointParts
  pub registered : IsRegistryOf r endpoints
  pub counts : CountsLeftBy endpoints before after err
