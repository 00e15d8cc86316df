-- What is seen of the wires of a run that asks the members of a registry, why it ends before any is asked, and what it means that they were asked.
use Rattle.std.specs.Prelude.{◌≡◌, ◌⊎◌, ℕ, List, [], Result}
use Rattle.fx_outside.specs.Endpoints.{EndpointParts}
use Rattle.fx_algebra.specs.declared.queries.Query.{Query}
use Rattle.fx_sources.specs.Probes.{Entry}
use Rattle.fx_traffic.specs.Gains.{WiresSeen}
use Rattle.fx_outcomes.specs.InRounds.{FederatedInRounds, PlannedInRounds}
use Rattle.fx_outcomes.specs.Outcomes.{AllTell}
use Rattle.fx_outcomes.specs.declared.federated.FedError.{FedError}
use Rattle.fx_outcomes.specs.declared.rounds.OutcomeInRounds.{OutcomeInRounds}
use Rattle.fx_outcomes.specs.declared.rounds.PlanInRounds.{PlanInRounds}
use Rattle.fx_grammar.specs.declared.refusals.SyntaxKind.{SyntaxKind}
use Rattle.fx_sources.specs.declared.errors.RegistryError.{RegistryError}
use Rattle.fx_local.specs.Limits.{query_limit, registry_limit}
use Rattle.fx_local.specs.declared.statuses.Status.{Status}
use Rattle.fx_local.specs.declared.statuses.Status.TheVariants as status
use Rattle.fx_local.specs.Files.{FileRead, HasFailed, IsTooLong, IsNoQuery, IsRegistryFile, IsNoRegistry}
use Rattle.fx_local.specs.Lines.{cannot_read, query_refused, query_too_long, registry_too_long, registry_refused, no_memory}

-- nothing was exchanged, and no exchange failed
abbrev pub IsUnasked : WiresSeen → Type 0
IsUnasked w = w.after ≡ w.before

-- Why `query` and `explain` end before they ask anything, and the line on standard error: the registry's file is read first, then its registry,
-- then the query's file and its query.
abbrev pub IsRefusedBefore : FileRead → FileRead → Status → List ℕ → Type 0
IsRefusedBefore r q status.RegistryRefused text = (e : RegistryError) × IsNoRegistry r e × (text ≡ registry_refused e)
IsRefusedBefore r q status.QueryRefused text = IsRegistryFile r × ((kind : SyntaxKind) × (at : ℕ) × IsNoQuery q kind at × (text ≡ query_refused kind at))
IsRefusedBefore r q status.ReadFault text = (HasFailed r × (text ≡ cannot_read r.name)) ⊎ (IsRegistryFile r × HasFailed q × (text ≡ cannot_read q.name))
IsRefusedBefore r q status.FileTooLong text = (IsTooLong registry_limit r × (text ≡ registry_too_long r.name)) ⊎ (IsRegistryFile r × IsTooLong query_limit q × (text ≡ query_too_long q.name))
IsRefusedBefore r q status.NoMemory text = text ≡ no_memory
IsRefusedBefore r q s text = ⊥

-- ---- members that were asked

-- Endpoints were asked for a query in rounds, with a new cache and in batches of so many rows at most, by wires of which all tell their logs or none.
pub record WasAsked (w : WiresSeen) (endpoints : List EndpointParts) (asked : Query) (block : ℕ) (result : Result OutcomeInRounds FedError) : Type 0 where
  pub alike : AllTell w.tells w.before
  pub entries : List Entry
  pub in_rounds : FederatedInRounds w.tells w.alone w.before w.after endpoints asked [] entries block result

-- so it was for its plan
pub record WasPlanned (w : WiresSeen) (endpoints : List EndpointParts) (asked : Query) (result : Result PlanInRounds FedError) : Type 0 where
  pub entries : List Entry
  pub in_rounds : PlannedInRounds w.tells w.alone w.before w.after endpoints asked [] entries result
