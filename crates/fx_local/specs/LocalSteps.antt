-- What the steps of `fedx local` give. `IsReported` and `IsWritten` say what the whole gives.
use Rattle.std.specs.Prelude.{◌≡◌, ◌⊎◌, ℕ, ◌≤◌, List, [], ◌++◌, Result, Ok, Err, IfSome, length}
use Rattle.std.specs.declared.vec.Vec.{Vec}
use Rattle.std.specs.declared.alloc.Global.{Global}
use Rattle.fx_terms.specs.declared.triples.Triple.{Triple}
use Rattle.fx_algebra.specs.declared.queries.Query.{Query}
use Rattle.fx_algebra.specs.Answers.{answer, no_graphs}
use Rattle.fx_algebra.specs.Occurrences.{services}
use Rattle.fx_outside.specs.Streams.{AppendsFront}
use Rattle.fx_results.specs.Documents.{document}
use Rattle.fx_grammar.specs.Accepted.{Accepted}
use Rattle.fx_local.specs.Limits.{graph_limit, query_limit}
use Rattle.fx_ntriples.specs.declared.faults.NtError.TheVariants as error
use Rattle.fx_local.specs.GraphTexts.{IsGraphText}
use Rattle.fx_local.specs.declared.refusals.GraphFault.TheVariants as fault
use Rattle.fx_local.specs.declared.refusals.GraphRefusal.{GraphRefusal}
use Rattle.fx_local.specs.declared.refusals.GraphRefusal.TheVariants as graph
use Rattle.fx_local.specs.declared.refusals.FileRefusal.{FileRefusal}
use Rattle.fx_local.specs.declared.refusals.FileRefusal.TheVariants as file
use Rattle.fx_local.specs.declared.refusals.QueryRefusal.{QueryRefusal}
use Rattle.fx_local.specs.declared.refusals.QueryRefusal.TheVariants as query
use Rattle.fx_local.specs.declared.documents.Report.{Report}
use Rattle.fx_local.specs.declared.refusals.Refusal.{Refusal}
use Rattle.fx_local.specs.declared.refusals.Refusal.TheVariants as refusal
use Rattle.fx_local.specs.declared.statuses.Status.{Status}
use Rattle.fx_local.specs.declared.statuses.Status.TheVariants as status
use Rattle.fx_local.specs.Files.{FileRead, HasFailed, IsTooLong, IsGraph, IsNoGraph, IsNoQuery, IsQueryThat}
use Rattle.fx_local.specs.Lines.{cannot_read, graph_refused, graph_too_long, query_refused, query_too_long, unknown_service, no_memory}
use Rattle.fx_local.specs.Local.{IsAnswer, HasLines, HasPlain}
use Rattle.fx_local.specs.Services.{all_numbers}

-- the whole content of a file within a limit, or why there is none
abbrev pub GivesFile : FileRead → ℕ → Result (Vec ℕ Global) FileRefusal → Type 0
GivesFile f limit (Ok bytes) = IfSome f.content (λ all. (bytes.items ≡ all) × (length all ≤ limit))
GivesFile f limit (Err file.Fault) = HasFailed f
GivesFile f limit (Err file.TooLong) = IsTooLong limit f
GivesFile f limit (Err file.Memory) = Unit {0}

-- the graph of a file, or why there is none
abbrev pub GivesGraph : FileRead → Result (List Triple) GraphRefusal → Type 0
GivesGraph f (Ok graph) = IfSome f.content (λ all. (length all ≤ graph_limit) × IsGraphText f.name all graph)
GivesGraph f (Err graph.Fault) = HasFailed f
GivesGraph f (Err graph.TooLong) = IsTooLong graph_limit f
GivesGraph f (Err (graph.Refused (fault.Triples error.Memory))) = Unit {0}
GivesGraph f (Err (graph.Refused e)) = IsNoGraph f e
GivesGraph f (Err graph.Memory) = Unit {0}

-- the query of a file, or why there is none
abbrev pub GivesQuery : FileRead → Result Query QueryRefusal → Type 0
GivesQuery f (Ok query) = IfSome f.content (λ all. (length all ≤ query_limit) × Accepted all query)
GivesQuery f (Err query.Fault) = HasFailed f
GivesQuery f (Err query.TooLong) = IsTooLong query_limit f
GivesQuery f (Err (query.Refused kind place)) = IsNoQuery f kind place
GivesQuery f (Err query.Memory) = Unit {0}

-- the document of the answer and the lines behind it, or why there is none
abbrev pub GivesAnswer : FileRead → FileRead → Result Report Refusal → Type 0
GivesAnswer g q (Ok report) = IsGraph g × IsQueryThat q (HasLines report.lines.items) × IsAnswer g q report.document.items
GivesAnswer g q (Err (refusal.Graph r)) = GivesGraph g (Err r)
GivesAnswer g q (Err (refusal.Query r)) = IsGraph g × GivesQuery q (Err r)
GivesAnswer g q (Err (refusal.UnknownService iri)) = IsGraph g × IsQueryThat q (HasPlain iri)
GivesAnswer g q (Err refusal.Memory) = Unit {0}

-- the document of the answer that a query has over a graph, and the lines behind it, or why there is none
abbrev pub GivesReport : List Triple → Query → Result Report Refusal → Type 0
GivesReport graph asked (Ok report) = HasLines report.lines.items asked × (report.document.items ≡ document (answer asked graph no_graphs (all_numbers (services asked))))
GivesReport graph asked (Err (refusal.Graph r)) = ⊥
GivesReport graph asked (Err (refusal.Query r)) = ⊥
GivesReport graph asked (Err (refusal.UnknownService iri)) = HasPlain iri asked
GivesReport graph asked (Err refusal.Memory) = Unit {0}

-- the same of the query of a file
abbrev pub GivesDocument : List Triple → FileRead → Result Report Refusal → Type 0
GivesDocument graph q (Ok report) = IsQueryThat q (λ asked. GivesReport graph asked (Ok report))
GivesDocument graph q (Err (refusal.Graph r)) = ⊥
GivesDocument graph q (Err (refusal.Query r)) = GivesQuery q (Err r)
GivesDocument graph q (Err (refusal.UnknownService iri)) = IsQueryThat q (HasPlain iri)
GivesDocument graph q (Err refusal.Memory) = Unit {0}

-- ---- what is written of a report

-- which lines are to be written behind a document
abbrev pub IsLineReported : List ℕ → Status → List ℕ → Type 0
IsLineReported lines status.Done text = text ≡ lines
IsLineReported lines status.WriteFault text = (text ≡ []) ⊎ (text ≡ lines)
IsLineReported lines s text = ⊥

-- the document, or a front of it
abbrev pub IsDocumentWritten : List ℕ → Status → List ℕ → List ℕ → Type 0
IsDocumentWritten document status.Done old new = new ≡ old ++ document
IsDocumentWritten document status.WriteFault old new = AppendsFront old new document
IsDocumentWritten document s old new = ⊥

-- ---- lines of refusals

abbrev pub graph_line : GraphRefusal → List ℕ → List ℕ
graph_line graph.Fault name = cannot_read name
graph_line graph.TooLong name = graph_too_long name
graph_line (graph.Refused e) name = graph_refused e
graph_line graph.Memory name = no_memory

abbrev pub query_line : QueryRefusal → List ℕ → List ℕ
query_line query.Fault name = cannot_read name
query_line query.TooLong name = query_too_long name
query_line (query.Refused kind place) name = query_refused kind place
query_line query.Memory name = no_memory

-- the line of a refusal, by the names of the graph's file and the query's file
abbrev pub refusal_line : Refusal → List ℕ → List ℕ → List ℕ
refusal_line (refusal.Graph r) g q = graph_line r g
refusal_line (refusal.Query r) g q = query_line r q
refusal_line (refusal.UnknownService iri) g q = unknown_service iri
refusal_line refusal.Memory g q = no_memory
