-- What asking over several wires leaves of them, whatever was asked for.
use Rattle.std.specs.Prelude.{◌≡◌, ℕ, Bool, List, [], IfErr, All, Contains, Result, Ok, Err}
use Rattle.fx_terms.specs.declared.triples.Triple.{Triple}
use Rattle.fx_outside.specs.Endpoints.{EndpointParts}
use Rattle.fx_traffic.specs.Batches.{IsBatchText}
use Rattle.fx_traffic.specs.Gains.{IsMemberIn, TellOf}
use Rattle.fx_traffic.specs.Sent.{Sent, Sends}
use Rattle.fx_wire.specs.Exchanges.{Exchange, Seen}
use Rattle.fx_flows.specs.Flows.{IsBatchRead}
use Rattle.fx_flows.specs.RunFlows.{HasFlowCause}
use Rattle.fx_services.specs.Went.{Went}
use Rattle.fx_walks.specs.GroupsAsked.{units_in}
use Rattle.fx_engine.specs.declared.rows.RowsError.{RowsError}
use Rattle.fx_engine.specs.declared.rows.RowsError.TheVariants as rows_error
use Rattle.fx_walks.specs.declared.tasks.Task.{Task}
use Rattle.fx_walks.specs.declared.tasks.Task.TheVariants as task

-- what is known over the graphs of the endpoints, with what was wanted: of something given the one, of a refusal the other
abbrev pub Knows : {X : Type 0} → (List (List Triple) → List Sent → X → Type 0) → (List (List Triple) → List Sent → Type 0) → List (List Triple) → List Sent → Result X RowsError → Type 0
Knows Given Due graphs wanted (Ok x) = Given graphs wanted x
Knows Given Due graphs wanted (Err e) = Due graphs wanted

-- no batch was refused: something is given, or an occurrence of SERVICE was refused
abbrev pub IfRefused : RowsError → Type 0 → Type 0
IfRefused (rows_error.Flow e) P = Unit {0}
IfRefused rows_error.Refused P = P

abbrev pub IfGiven : {X : Type 0} → Result X RowsError → Type 0 → Type 0
IfGiven (Ok x) P = P
IfGiven (Err e) P = IfRefused e P

-- why there are no rows: that of a refusal of a batch of one of the tasks' units, or one of the tasks is an occurrence of SERVICE that was refused
abbrev pub HasRowsCause : List Seen → List Seen → List EndpointParts → List Task → ℕ → List Sent → List Exchange → RowsError → Type 0
HasRowsCause before after endpoints tasks block wanted xs (rows_error.Flow e) = HasFlowCause before after endpoints (units_in tasks) block wanted xs e
HasRowsCause before after endpoints tasks block wanted xs rows_error.Refused = Contains tasks task.Refused

-- Something was asked for, by units of these tasks: what was exchanged, what was wanted of it, which is texts of batches of no more rows than so many,
-- and what is known of that and of the result where the graphs of the members of these units are told. Where no batch was refused each text was sent, and each reply read, without a fault.
-- At each address no more faults were counted, together, than exchanges failed, and none did where no batch was refused.
pub record Asked {X : Type 0} (tells alone : Bool) (before after : List Seen) (endpoints : List EndpointParts) (tasks : List Task) (block : ℕ) (Given : List (List Triple) → List Sent → X → Type 0) (Due : List (List Triple) → List Sent → Type 0) (result : Result X RowsError) : Type 0 where
  pub exchanges : List Exchange
  pub failed : ℕ
  pub unfailed : IfGiven result (failed ≡ 0)
  pub went : Went tells alone failed before after exchanges
  pub wanted : List Sent
  pub left : List Sent
  pub sent : Sends wanted left exchanges
  pub whole : IfGiven result (left ≡ [])
  pub of_batches : All (IsBatchText endpoints block (Contains (units_in tasks))) wanted
  pub faultless : IfGiven result (All (IsBatchRead (Contains (units_in tasks))) exchanges)
  pub known : (graphs : List (List Triple)) → TellOf before endpoints graphs (IsMemberIn (units_in tasks)) → Knows Given Due graphs wanted result
  pub cause : IfErr result (HasRowsCause before after endpoints tasks block wanted exchanges)
