-- Files that a command reads, and what they hold.
use Rattle.std.specs.Prelude.{◌≡◌, ℕ, ◌<◌, ◌≤◌, List, Option, IfSome, Ok, Err, length, slice_get, Some}
use Rattle.fx_terms.specs.declared.triples.Triple.{Triple}
use Rattle.fx_outside.specs.Endpoints.{EndpointParts}
use Rattle.fx_outside.specs.Storage.{FilesSeen}
use Rattle.fx_algebra.specs.declared.queries.Query.{Query}
use Rattle.fx_grammar.specs.Accepted.{Accepted}
use Rattle.fx_grammar.specs.Refused.{IsRefused}
use Rattle.fx_grammar.specs.declared.refusals.SyntaxKind.{SyntaxKind}
use Rattle.fx_sources.specs.Registries.{read_registry}
use Rattle.fx_sources.specs.declared.errors.RegistryError.{RegistryError}
use Rattle.fx_local.specs.GraphTexts.{IsGraphFault, IsGraphText}
use Rattle.fx_local.specs.declared.refusals.GraphFault.{GraphFault}
use Rattle.fx_local.specs.Limits.{graph_limit, query_limit, registry_limit}

-- ---- a file that is read

-- its name, its content where that is told, and how often its reading had failed before the call and after it
pub record FileRead : Type 0 where
  pub name : List ℕ
  pub content : Option (List ℕ)
  pub before : ℕ
  pub after : ℕ

abbrev pub file_read : FilesSeen → FilesSeen → List ℕ → FileRead
file_read before after name = record { name = name; content = before.content name; before = before.faults name; after = after.faults name }

-- it tells its content, which is within a limit and so
abbrev pub Holds : FileRead → ℕ → (List ℕ → Type 0) → Type 0
Holds f limit P = (content : List ℕ) × (f.content ≡ Some content) × (length content ≤ limit) × P content

-- its reading failed in the call
abbrev pub HasFailed : FileRead → Type 0
HasFailed f = f.before < f.after

-- where the content is told, it has more bytes than its limit
abbrev pub IsTooLong : ℕ → FileRead → Type 0
IsTooLong limit f = IfSome f.content (λ all. limit < length all)

-- where the content is told, it is within its limit, and a document of a graph
abbrev pub IsGraph : FileRead → Type 0
IsGraph f = IfSome f.content (λ all. (length all ≤ graph_limit) × ((graph : List Triple) × IsGraphText f.name all graph))

-- where the content is told, it is within its limit and refused as a document
abbrev pub IsNoGraph : FileRead → GraphFault → Type 0
IsNoGraph f e = IfSome f.content (λ all. (length all ≤ graph_limit) × IsGraphFault f.name all e)

-- where the content is told, it is within its limit, and refused as a query for this reason at this place
abbrev pub IsNoQuery : FileRead → SyntaxKind → ℕ → Type 0
IsNoQuery f kind place = IfSome f.content (λ all. (length all ≤ query_limit) × IsRefused all kind place)

-- where the content is told, it is a query within its limit that is so
abbrev pub IsQueryThat : FileRead → (Query → Type 0) → Type 0
IsQueryThat f P = IfSome f.content (λ all. (length all ≤ query_limit) × ((q : Query) × Accepted all q × P q))

-- where the content is told, it is a registry within its limit
abbrev pub IsRegistryFile : FileRead → Type 0
IsRegistryFile f = IfSome f.content (λ all. (length all ≤ registry_limit) × ((es : List EndpointParts) × (read_registry all ≡ Ok es)))

-- where the content is told, it is within its limit and refused as a registry
abbrev pub IsNoRegistry : FileRead → RegistryError → Type 0
IsNoRegistry f e = IfSome f.content (λ all. (length all ≤ registry_limit) × (read_registry all ≡ Err e))

-- where the content is told, it is within its limit, and these are the registry's endpoints
abbrev pub IsRegistryOf : FileRead → List EndpointParts → Type 0
IsRegistryOf f es = IfSome f.content (λ all. (length all ≤ registry_limit) × (read_registry all ≡ Ok es))

-- where the content is told, it is within its limit and accepted as this query
abbrev pub IsQueryOf : FileRead → Query → Type 0
IsQueryOf f q = IfSome f.content (λ all. (length all ≤ query_limit) × Accepted all q)

-- where the content is told, it is within its limit, and the registry has this endpoint
abbrev pub IsMember : FileRead → EndpointParts → Type 0
IsMember f e = IfSome f.content (λ all. (length all ≤ registry_limit) × ((es : List EndpointParts) × (at : ℕ) × (read_registry all ≡ Ok es) × (slice_get es at ≡ Some e)))
