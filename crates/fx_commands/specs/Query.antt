-- What `fedx query` does.
use Rattle.std.specs.Prelude.{◌≡◌, ◌⊎◌, ◌+◌, ◌≤◌, ℕ, Bool, List, [], ◌++◌, All, IfSome, IsTrue, Ok, Result}
use Rattle.fx_outside.specs.Endpoints.{EndpointParts}
use Rattle.fx_outside.specs.Streams.{AppendsFront}
use Rattle.fx_terms.specs.declared.triples.Triple.{Triple}
use Rattle.fx_algebra.specs.Answers.{answer}
use Rattle.fx_algebra.specs.Graphs.{union}
use Rattle.fx_algebra.specs.Units.{of_kept}
use Rattle.fx_algebra.specs.declared.queries.Query.{Query}
use Rattle.fx_grammar.specs.Accepted.{Accepted}
use Rattle.fx_results.specs.Documents.{document}
use Rattle.fx_sources.specs.Registries.{IsRegistry, read_registry}
use Rattle.fx_traffic.specs.Gains.{TellAll, WiresSeen, faults_at}
use Rattle.fx_wire.specs.Exchanges.{Seen}
use Rattle.fx_outcomes.specs.Mediation.{Serve}
use Rattle.fx_outcomes.specs.declared.federated.FedError.{FedError}
use Rattle.fx_outcomes.specs.declared.rounds.Left.{Left}
use Rattle.fx_outcomes.specs.declared.rounds.OutcomeInRounds.{OutcomeInRounds}
use Rattle.fx_outcomes.specs.declared.rounds.Round.{Round}
use Rattle.fx_rounds.specs.Down.{AreDown}
use Rattle.fx_rounds.specs.LeftOut.{AreLeftOut, LeavesSomebody, left_in}
use Rattle.fx_rounds.specs.Licences.{downs_failed, lefts_failed}
use Rattle.fx_services.specs.Noted.{places}
use Rattle.fx_services.specs.declared.noted.Down.{Down}
use Rattle.fx_local.specs.declared.statuses.Status.{Status}
use Rattle.fx_commands.specs.Asking.{IsUnasked, IsRefusedBefore, WasAsked}
use Rattle.fx_commands.specs.FedRefusals.{IsEnd}
use Rattle.fx_local.specs.Files.{FileRead, IsQueryOf, IsRegistryOf}
use Rattle.fx_lines.specs.MemberLines.{answer_lines, down_lines, left_lines}
use Rattle.fx_local.specs.Sinks.{SinkWritten, Wrote}

-- ---- the answer over the union

-- Members are left out that may be, each once, and occurrences of SERVICE SILENT are down. Where the graphs of all endpoints are told, the text is the document of the query's answer over the union of
-- those of the other members, where each IRI that is the address of an endpoint has its graph.
abbrev pub IsUnionDocument : List Seen → List EndpointParts → Query → List ℕ → Type 0
IsUnionDocument wires endpoints q text =
    (left : List Left) × (kept : List Bool) × (noted : List Down) × AreLeftOut endpoints left kept × AreDown q noted
    × ((graphs : List (List Triple)) → TellAll wires endpoints graphs → (services : List ℕ → List Triple) → Serve services endpoints graphs → text ≡ document (answer q (union (of_kept kept graphs)) services (places noted)))

-- of the endpoints of a registry and the query of a text
pub record IsUnionAnswerOf (wires : List Seen) (registry query text : List ℕ) : Type 0 where
  pub endpoints : List EndpointParts
  pub registered : read_registry registry ≡ Ok endpoints
  pub asked : Query
  pub accepted : Accepted query asked
  pub document_is : IsUnionDocument wires endpoints asked text

-- where both contents are told, the text is that document
abbrev pub IsUnionAnswer : List Seen → FileRead → FileRead → List ℕ → Type 0
IsUnionAnswer wires r q text = IfSome r.content (λ registry. IfSome q.content (λ query. IsUnionAnswerOf wires registry query text))

-- ---- statuses

-- The members of the registry were asked for the query in rounds, with a new cache, in batches of so many rows at most: what was exchanged, what the members
-- gave, and else the cause at the one that the refusal names.
pub record IsFederated (w : WiresSeen) (r q : FileRead) (block : ℕ) (result : Result OutcomeInRounds FedError) : Type 0 where
  pub endpoints : List EndpointParts
  pub registered : IsRegistryOf r endpoints
  pub registry : IsRegistry endpoints
  pub asked : Query
  pub accepted : IsQueryOf q asked
  pub federated : WasAsked w endpoints asked block result

-- the cause of each status, and its lines on standard error: nothing is asked where a file is refused
abbrev pub IsQueryReported : WiresSeen → FileRead → FileRead → ℕ → Status → List ℕ → Type 0
IsQueryReported w r q block s text =
    (IsUnasked w × IsRefusedBefore r q s text)
    ⊎ ((result : Result OutcomeInRounds FedError) × (f : IsFederated w r q block result) × IsEnd (answer_lines f.endpoints) result s text)

-- what each status leaves on standard output: the document, a front of it where a write failed, and else nothing new
abbrev pub IsQueryWritten : List Seen → FileRead → FileRead → Status → List ℕ → List ℕ → Type 0
IsQueryWritten wires r q s old new = Wrote (IsUnionAnswer wires r q) s old new

-- ---- a query that is done

-- standard output gained the document of what the members gave, and standard error a line for each member that is left out, and for each occurrence that is down in it
abbrev pub IsOutcomeWritten : List EndpointParts → OutcomeInRounds → SinkWritten → SinkWritten → Type 0
IsOutcomeWritten endpoints all out err = (IsTrue out.tells → out.new ≡ out.old ++ document all.outcome.answer) × (IsTrue err.tells → err.new ≡ err.old ++ answer_lines endpoints all)

-- the members gave something, and this was written
abbrev pub IsQueryDone : WiresSeen → FileRead → FileRead → ℕ → SinkWritten → SinkWritten → Type 0
IsQueryDone w r q block out err = (all : OutcomeInRounds) × (f : IsFederated w r q block (Ok all)) × IsOutcomeWritten f.endpoints all out err

-- ---- a query whose document is cut short

-- standard output has a front of the document of what the members gave
abbrev pub IsOutcomeCut : OutcomeInRounds → SinkWritten → Type 0
IsOutcomeCut all out = IsTrue out.tells → AppendsFront out.old out.new (document all.outcome.answer)

-- the members gave something, and standard output has a front of its document
abbrev pub IsQueryCut : WiresSeen → FileRead → FileRead → ℕ → SinkWritten → Type 0
IsQueryCut w r q block out = (all : OutcomeInRounds) × IsFederated w r q block (Ok all) × IsOutcomeCut all out

-- ---- faults

-- For a query, at each address as many faults were counted at least as lines on standard error say of it that the wire failed, each for a member that is left out or for an occurrence of SERVICE SILENT
-- of this query; and where no member is left out, no more.
pub record CountsDownBy (endpoints : List EndpointParts) (asked : Query) (before after : List Seen) (err : SinkWritten) : Type 0 where
  pub rounds : List Round
  pub noted : List Down
  pub kept : List Bool
  pub left_out : AreLeftOut endpoints (left_in rounds) kept
  pub leave : All LeavesSomebody rounds
  pub down : AreDown asked noted
  pub lines : IsTrue err.tells → err.new ≡ err.old ++ (left_lines endpoints rounds ++ down_lines noted)
  pub counted : (address : List ℕ) → faults_at before address + (lefts_failed endpoints address (left_in rounds) + downs_failed address noted) ≤ faults_at after address
  pub exact : rounds ≡ [] → (address : List ℕ) → faults_at after address ≡ faults_at before address + downs_failed address noted

-- so it is of the registry and the query of files
pub record CountsDown (r q : FileRead) (before after : List Seen) (err : SinkWritten) : Type 0 where
  pub endpoints : List EndpointParts
  pub registered : IsRegistryOf r endpoints
  pub asked : Query
  pub accepted : IsQueryOf q asked
  pub counts : CountsDownBy endpoints asked before after err
