-- The theorem of `run`, to be read first: what is written where the wires tell the graphs of the members, and which endpoint is named as failed.
use Rattle.std.specs.Prelude.{◌≡◌, ◌<◌, ◌++◌, ◌⊎◌, ℕ, false, List, [], Contains, IsTrue, Option, Some, Ok, Err}
use Rattle.fx_terms.specs.declared.triples.Triple.{Triple}
use Rattle.fx_outside.specs.Endpoints.{EndpointParts}
use Rattle.fx_outside.specs.Streams.{AppendsFront}
use Rattle.fx_algebra.specs.Answers.{answer, no_graphs}
use Rattle.fx_algebra.specs.Occurrences.{services}
use Rattle.fx_algebra.specs.declared.queries.Query.{Query}
use Rattle.fx_grammar.specs.Accepted.{Accepted}
use Rattle.fx_results.specs.Documents.{document}
use Rattle.fx_sources.specs.Registries.{read_registry}
use Rattle.fx_traffic.specs.Gains.{TellAll, WiresSeen, faults_at}
use Rattle.fx_outcomes.specs.Mediation.{Serve}
use Rattle.fx_outcomes.specs.declared.federated.FedError.TheVariants as fed
use Rattle.fx_rounds.specs.Refused.{IsFirstFailed}
use Rattle.fx_local.specs.Limits.{graph_limit, query_limit, registry_limit}
use Rattle.fx_local.specs.declared.statuses.Status.{Status}
use Rattle.fx_local.specs.declared.statuses.Status.TheVariants as status
use Rattle.fx_words.specs.Commands.{Asked, over_file, over_members, planned, generated}
use Rattle.fx_local.specs.Files.{FileRead, Holds}
use Rattle.fx_local.specs.GraphTexts.{IsGraphText}
use Rattle.fx_commands.specs.Asking.{WasAsked, WasPlanned}
use Rattle.fx_commands.specs.Generator.{summary}
use Rattle.fx_local.specs.Lines.{Gains}
use Rattle.fx_lines.specs.MemberLines.{member_failed, service_failed}
use Rattle.fx_local.specs.Services.{all_numbers, silent_lines}
use Rattle.fx_program.specs.Given.{Gives, Plans}
use Rattle.fx_local.specs.Sinks.{SinkWritten}

-- the registry has these endpoints, the query is this, and each wire tells the graph of each endpoint
pub record IsTold (w : WiresSeen) (r q : FileRead) (endpoints : List EndpointParts) (asked : Query) (graphs : List (List Triple)) : Type 0 where
  pub registry : Holds r registry_limit (λ content. read_registry content ≡ Ok endpoints)
  pub query : Holds q query_limit (λ content. Accepted content asked)
  pub graphs_are : TellAll w.before endpoints graphs

-- standard output gained this and nothing else, and standard error these lines; or standard output has a front of it
abbrev pub AreWritten : List ℕ → List ℕ → SinkWritten → SinkWritten → Type 0
AreWritten text lines out err = (IsTrue out.tells → out.new ≡ out.old ++ text) × (IsTrue err.tells → err.new ≡ err.old ++ lines)

abbrev pub IsFront : List ℕ → SinkWritten → Type 0
IsFront text out = IsTrue out.tells → AppendsFront out.old out.new text

-- an endpoint is named as failed, by a line that is so, only where exchanges with it failed: the count of faults at its address rose
abbrev pub NamesFailed : WiresSeen → List EndpointParts → (EndpointParts → List ℕ → Type 0) → Status → SinkWritten → Type 0
NamesFailed w endpoints IsLine s err =
    s ≡ status.EndpointFault → (e : EndpointParts) × (line : List ℕ) × Contains endpoints e × (faults_at w.before e.iri < faults_at w.after e.iri) × IsLine e line × (IsTrue err.tells → Gains err.old err.new err.before err.after line)

-- With `Done` `query` wrote the document that the members gave, and `explain` the plan, with the lines of this very run; with `WriteFault` a front of it. `local` wrote the document of the answer over the graph of
-- the file, with a line for each SERVICE SILENT; and `generate` the four lines of the members that it makes, the last of which has the number of rows of its query over the union of their graphs. An endpoint is named
-- as failed where the members were asked so, and it is the one that ended this: a member that may be left out isn't, unless a SERVICE without SILENT names its address.
abbrev pub Headline : (List ℕ → FileRead) → WiresSeen → Option Asked → Status → SinkWritten → SinkWritten → Type 0
Headline read w (Some (over_members r q workers block)) s out err =
    (endpoints : List EndpointParts) (asked : Query) (graphs : List (List Triple)) (graph_at : List ℕ → List Triple) → IsTold w (read r) (read q) endpoints asked graphs → Serve graph_at endpoints graphs
    → (s ≡ status.Done → Gives w endpoints asked block graphs graph_at (λ text lines. AreWritten text lines out err))
    × (s ≡ status.WriteFault → Gives w endpoints asked block graphs graph_at (λ text lines. IsFront text out))
    × NamesFailed w endpoints (λ e line. ((e.optional ≡ false) × WasAsked w endpoints asked block (Err (fed.Member e.name)) × (line ≡ member_failed e.name))
    ⊎ (WasAsked w endpoints asked block (Err (fed.Service e.iri)) × IsFirstFailed w endpoints asked e.iri × (line ≡ service_failed e.iri))) s err
Headline read w (Some (planned r q)) s out err =
    (endpoints : List EndpointParts) (asked : Query) (graphs : List (List Triple)) → IsTold w (read r) (read q) endpoints asked graphs
    → (s ≡ status.Done → Plans w endpoints asked graphs (λ text lines. AreWritten text lines out err))
    × (s ≡ status.WriteFault → Plans w endpoints asked graphs (λ text lines. IsFront text out))
    × NamesFailed w endpoints (λ e line. (e.optional ≡ false) × WasPlanned w endpoints asked (Err (fed.Member e.name)) × (line ≡ member_failed e.name)) s err
Headline read w (Some (over_file g q)) s out err =
    (graph : List Triple) (asked : Query) → Holds (read g) graph_limit (λ content. IsGraphText g content graph) → Holds (read q) query_limit (λ content. Accepted content asked)
    → s ≡ status.Done → AreWritten (document (answer asked graph no_graphs (all_numbers (services asked)))) (silent_lines (services asked)) out err
Headline read w (Some (generated size)) s out err = s ≡ status.Done → AreWritten (summary size) [] out err
Headline read w asked s out err = Unit {0}
