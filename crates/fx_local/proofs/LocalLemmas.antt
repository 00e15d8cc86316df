-- What `local` gives, by the steps behind the graph's file.
use Rattle.std.proofs.Common.{◌≡◌, subst, ℕ, ◌≤◌, List, Option, None, Some, Result, Ok, Err, length}
use Rattle.std.specs.Prelude.{IfSome}
use Rattle.fx_terms.specs.declared.triples.Triple.{Triple}
use Rattle.fx_outside.specs.Storage.{FilesSeen}
use Rattle.fx_algebra.specs.declared.queries.Query.{Query}
use Rattle.fx_grammar.specs.Accepted.{Accepted}
use Rattle.fx_local.specs.GraphTexts.{IsGraphText}
use Rattle.fx_local.specs.declared.documents.Report.{Report}
use Rattle.fx_local.specs.Limits.{graph_limit, query_limit}
use Rattle.fx_local.specs.declared.refusals.Refusal.{Refusal}
use Rattle.fx_local.specs.declared.refusals.Refusal.TheVariants as refusal
use Rattle.fx_local.specs.Files.{FileRead, file_read}
use Rattle.fx_local.specs.Local.{HasLines, IsAnswerOf}
use Rattle.fx_local.specs.LocalSteps.{GivesAnswer, GivesDocument, GivesGraph, GivesReport}

-- nothing was counted in between, and the contents are the same
same_file : (before mid after : FilesSeen) (name : List ℕ) → mid.content name ≡ before.content name → mid.faults name ≡ before.faults name → file_read mid after name ≡ file_read before after name
same_file before mid after name content faults = cc

module _ (name : List ℕ) (store : List Triple) where
  is_graph : (o : Option (List ℕ)) → IfSome o (λ all. (length all ≤ graph_limit) × IsGraphText name all store) → IfSome o (λ all. (length all ≤ graph_limit) × ((graph : List Triple) × IsGraphText name all graph))
  is_graph None h = tt
  is_graph (Some all) h = (h.0, (store, h.1))

  has_lines : (report : Report) (o : Option (List ℕ)) → IfSome o (λ all. (length all ≤ query_limit) × ((q : Query) × Accepted all q × GivesReport store q (Ok report))) → IfSome o (λ all. (length all ≤ query_limit) × ((q : Query) × Accepted all q × HasLines report.lines.items q))
  has_lines report None h = tt
  has_lines report (Some all) (fits, (asked, accepted, given)) = (fits, (asked, accepted, given.0))

  of_query : (report : Report) (file : List ℕ) → IsGraphText name file store → (o : Option (List ℕ)) → IfSome o (λ all. (length all ≤ query_limit) × ((q : Query) × Accepted all q × GivesReport store q (Ok report))) → IfSome o (λ query. IsAnswerOf name file query report.document.items)
  of_query report file read None h = tt
  of_query report file read (Some all) (fits, (asked, accepted, (lines, document_is))) = record { graph = store; read = read; asked = asked; accepted = accepted; silent = lines.0; document_is = document_is }

  is_answer : (report : Report) (go qo : Option (List ℕ)) → IfSome go (λ all. (length all ≤ graph_limit) × IsGraphText name all store) → IfSome qo (λ all. (length all ≤ query_limit) × ((q : Query) × Accepted all q × GivesReport store q (Ok report)))
      → IfSome go (λ graph. IfSome qo (λ query. IsAnswerOf name graph query report.document.items))
  is_answer report None qo h k = tt
  is_answer report (Some file) qo h k = of_query report file h.1 qo k

-- what a query's file gives over the store of a graph's file
over_graph : (store : List Triple) (g q : FileRead) (result : Result Report Refusal) → GivesGraph g (Ok store) → GivesDocument store q result → GivesAnswer g q result
over_graph store g q (Ok report) h k = (is_graph g.name store g.content h, has_lines g.name store report q.content k, is_answer g.name store report g.content q.content h k)
over_graph store g q (Err (refusal.Graph r)) h k = absurd k
over_graph store g q (Err (refusal.Query r)) h k = (is_graph g.name store g.content h, k)
over_graph store g q (Err (refusal.UnknownService iri)) h k = (is_graph g.name store g.content h, k)
over_graph store g q (Err refusal.Memory) h k = tt

-- so it is where the graph's file was read first
pub local_gives : (before mid after : FilesSeen) (graph query : List ℕ) (store : List Triple) (result : Result Report Refusal) → mid.content query ≡ before.content query → mid.faults query ≡ before.faults query
    → GivesGraph (file_read before mid graph) (Ok store) → GivesDocument store (file_read mid after query) result → GivesAnswer (file_read before after graph) (file_read before after query) result
local_gives before mid after graph query store result content faults h k =
    over_graph store (file_read before after graph) (file_read before after query) result h (subst (λ (f : FileRead). GivesDocument store f result) (same_file before mid after query content faults) k)
