-- What `fedx local` does.
use Rattle.std.specs.Prelude.{◌≡◌, ◌⊎◌, ℕ, List, [], IfSome, Some, None}
use Rattle.fx_terms.specs.declared.triples.Triple.{Triple}
use Rattle.fx_algebra.specs.Answers.{answer, no_graphs}
use Rattle.fx_algebra.specs.Occurrences.{services}
use Rattle.fx_algebra.specs.declared.queries.Query.{Query}
use Rattle.fx_grammar.specs.Accepted.{Accepted}
use Rattle.fx_grammar.specs.declared.refusals.SyntaxKind.{SyntaxKind}
use Rattle.fx_results.specs.Documents.{document}
use Rattle.fx_local.specs.GraphTexts.{IsGraphText}
use Rattle.fx_local.specs.declared.refusals.GraphFault.{GraphFault}
use Rattle.fx_local.specs.Limits.{graph_limit, query_limit}
use Rattle.fx_local.specs.declared.statuses.Status.{Status}
use Rattle.fx_local.specs.declared.statuses.Status.TheVariants as status
use Rattle.fx_local.specs.Files.{FileRead, HasFailed, IsTooLong, IsGraph, IsNoGraph, IsNoQuery, IsQueryThat}
use Rattle.fx_local.specs.Lines.{cannot_read, graph_refused, graph_too_long, query_refused, query_too_long, unknown_service, no_memory}
use Rattle.fx_local.specs.Services.{first_plain, all_numbers, silent_lines}
use Rattle.fx_local.specs.Sinks.{Wrote}

-- ---- the answer

-- The text is the document of the answer that the one file's query has over the graph of the other, which has a name. Each SERVICE is silent, and
-- down, since no endpoint is registered here.
pub record IsAnswerOf (name file query text : List ℕ) : Type 0 where
  pub graph : List Triple
  pub read : IsGraphText name file graph
  pub asked : Query
  pub accepted : Accepted query asked
  pub silent : first_plain (services asked) ≡ None
  pub document_is : text ≡ document (answer asked graph no_graphs (all_numbers (services asked)))

-- where both contents are told, the text is that document
abbrev pub IsAnswer : FileRead → FileRead → List ℕ → Type 0
IsAnswer g q text = IfSome g.content (λ graph. IfSome q.content (λ query. IsAnswerOf g.name graph query text))

-- the query has no SERVICE without SILENT, and these are the lines of its occurrences
abbrev pub HasLines : List ℕ → Query → Type 0
HasLines text asked = (first_plain (services asked) ≡ None) × (text ≡ silent_lines (services asked))

-- the first SERVICE without SILENT names the IRI
abbrev pub HasPlain : List ℕ → Query → Type 0
HasPlain iri asked = first_plain (services asked) ≡ Some iri

-- ---- statuses

-- the cause of each status, and what it writes on standard error: the graph's file is read first, then its graph, then the
-- query's file and its query, and then its occurrences of SERVICE are looked at
abbrev pub IsReported : FileRead → FileRead → Status → List ℕ → Type 0
IsReported g q status.Done text = IsGraph g × IsQueryThat q (HasLines text)
IsReported g q status.WriteFault text = IsGraph g × ((lines : List ℕ) × IsQueryThat q (HasLines lines) × ((text ≡ []) ⊎ (text ≡ lines)))
IsReported g q status.NoMemory text = text ≡ no_memory
IsReported g q status.Usage text = ⊥
IsReported g q status.RegistryRefused text = ⊥
IsReported g q status.EndpointFault text = ⊥
IsReported g q status.BadReply text = ⊥
IsReported g q status.RequestTooLong text = ⊥
IsReported g q status.DoorFault text = ⊥
IsReported g q status.GraphRefused text = (e : GraphFault) × IsNoGraph g e × (text ≡ graph_refused e)
IsReported g q status.QueryRefused text = IsGraph g × ((kind : SyntaxKind) × (at : ℕ) × IsNoQuery q kind at × (text ≡ query_refused kind at))
IsReported g q status.UnknownService text = IsGraph g × ((iri : List ℕ) × IsQueryThat q (HasPlain iri) × (text ≡ unknown_service iri))
IsReported g q status.ReadFault text = (HasFailed g × (text ≡ cannot_read g.name)) ⊎ (IsGraph g × HasFailed q × (text ≡ cannot_read q.name))
IsReported g q status.FileTooLong text = (IsTooLong graph_limit g × (text ≡ graph_too_long g.name)) ⊎ (IsGraph g × IsTooLong query_limit q × (text ≡ query_too_long q.name))

-- what each status leaves on standard output: the document, a front of it where a write failed, and else nothing new
abbrev pub IsWritten : FileRead → FileRead → Status → List ℕ → List ℕ → Type 0
IsWritten g q s old new = Wrote (IsAnswer g q) s old new
