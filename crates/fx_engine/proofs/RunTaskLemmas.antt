-- The task of a run: what it says of its patterns, and what its units send and give.
use Rattle.std.proofs.Common.{if◌then◌else◌, ◌≡◌, ◌∙◌, ap, sym, subst, refl, ℕ, Bool, true, false, List, [], ◌++◌, map, All, Contains, IsPermutation}
use Rattle.std.specs.List.{list_any}
use Rattle.fx_terms.specs.declared.triples.Triple.{Triple}
use Rattle.fx_terms.specs.declared.patterns.Pattern.{Pattern}
use Rattle.fx_outside.specs.Endpoints.{EndpointParts}
use Rattle.fx_algebra.specs.Answers.{is_empty_list}
use Rattle.fx_algebra.specs.Graphs.{union}
use Rattle.fx_algebra.specs.Solutions.{Bindings}
use Rattle.fx_algebra.specs.Stations as station
use Rattle.fx_algebra.specs.Units.{sources}
use Rattle.fx_algebra.specs.declared.expressions.Expr.{Expr}
use Rattle.fx_algebra.specs.declared.units.Row.{Row}
use Rattle.fx_algebra.specs.declared.units.Unit as unit
use Rattle.fx_plan.specs.Plans.{plan}
use Rattle.fx_plan.specs.declared.parts.Part.TheVariants as part
use Rattle.fx_spelling.specs.Units.{IsFit, IsSound}
use Rattle.fx_steps.specs.Steps.{numbered, stepped}
use Rattle.fx_traffic.specs.Batches.{IsRunSent}
use Rattle.fx_traffic.specs.Sent.{Sent}
use Rattle.fx_traffic.specs.Traffic.{SentUnless}
use Rattle.fx_traffic.proofs.FewerLemmas.{fewer_laws}
use Rattle.fx_wire.specs.Exchanges.{Exchange, Seen}
use Rattle.fx_flows.specs.RunFlows.{HasFlowCause, IsFlowCause}
use Rattle.fx_flows.specs.declared.flows.FlowError.{FlowError}
use Rattle.fx_flows.specs.declared.flows.FlowError.TheVariants as flow
use Rattle.fx_walks.specs.GroupsAsked.{ComesOf, IsRunFound, run_task}
use Rattle.fx_walks.specs.Laws.{HasFitUnits, HasSoundUnits}
use Rattle.fx_walks.specs.RunsSent.{IsSentForRun}
use Rattle.fx_walks.specs.Sections.{part_with}
use Rattle.fx_walks.specs.declared.sections.Section.TheVariants.{Run}
use Rattle.fx_walks.specs.declared.tasks.Task.{Task}
use Rattle.fx_walks.specs.declared.tasks.Task.TheVariants as task
use Rattle.fx_walks.proofs.StationLemmas.{nothing_of}
use Rattle.fx_walks.proofs.UnitLemmas.{sound_part}

-- ---- what a run with a task is

-- the task of a run: none of its patterns lacks a source, and its units are those of its plan
record IsPlanOf (graphs : List (List Triple)) (ps : List Pattern) (filters : List Expr) (known : List (List ℕ)) (units : List unit.Unit) : Type 0 where
  full : list_any is_empty_list (map (sources graphs) ps) ≡ false
  units_are : units ≡ plan ps (map (sources graphs) ps) filters known

module _ (graphs : List (List Triple)) (ps : List Pattern) (filters : List Expr) (known : List (List ℕ)) where
  abbrev its_plan : List unit.Unit
  its_plan = plan ps (map (sources graphs) ps) filters known

  abbrev by_lack : Bool → Task
  by_lack b = if b then task.EmptyRun else task.Run its_plan

  is_plan : (units : List unit.Unit) → run_task graphs ps filters known ≡ task.Run units → IsPlanOf graphs ps filters known units
  is_plan units h = by (list_any is_empty_list (map (sources graphs) ps)) refl
    where
      by : (b : Bool) → list_any is_empty_list (map (sources graphs) ps) ≡ b → IsPlanOf graphs ps filters known units
      by true e = let lacks : task.EmptyRun ≡ task.Run units = sym (ap by_lack e) ∙ h in absurd (cc)
      by false e = let same : task.Run its_plan ≡ task.Run units = sym (ap by_lack e) ∙ h in record { full = e; units_are = cc }

  -- as a part of a plan
  part_is : (units : List unit.Unit) → IsPlanOf graphs ps filters known units → part_with (sources graphs) (Run ps filters known) ≡ part.Run units known
  part_is units k = ap (λ (b : Bool). if b then part.EmptyRun else part.Run its_plan known) k.full ∙ ap (λ (us : List unit.Unit). part.Run us known) (sym k.units_are)

  pub lacks_one : run_task graphs ps filters known ≡ task.EmptyRun → list_any is_empty_list (map (sources graphs) ps) ≡ true
  lacks_one h = by (list_any is_empty_list (map (sources graphs) ps)) refl
    where
      by : (b : Bool) → list_any is_empty_list (map (sources graphs) ps) ≡ b → list_any is_empty_list (map (sources graphs) ps) ≡ true
      by true e = e
      by false e = let same : task.Run its_plan ≡ task.EmptyRun = sym (ap by_lack e) ∙ h in absurd (cc)

  pub no_service : (rows : List Bindings) → run_task graphs ps filters known ≡ task.Service rows → ⊥
  no_service rows h = by (list_any is_empty_list (map (sources graphs) ps)) h
    where
      by : (b : Bool) → by_lack b ≡ task.Service rows → ⊥
      by true e = cc
      by false e = cc

  pub none_refused : run_task graphs ps filters known ≡ task.Refused → ⊥
  none_refused h = by (list_any is_empty_list (map (sources graphs) ps)) h
    where
      by : (b : Bool) → by_lack b ≡ task.Refused → ⊥
      by true e = cc
      by false e = cc

-- ---- what its units send and give, where these rows enter the first

module _ (endpoints : List EndpointParts) (block : ℕ) (rows : List Bindings) (it : Task) (units : List unit.Unit) (is_run : it ≡ task.Run units) (fit : All IsFit units) where
  pub sound : (graphs : List (List Triple)) (ps : List Pattern) (filters : List Expr) (known : List (List ℕ)) → run_task graphs ps filters known ≡ it → All (IsSound graphs) units
  sound graphs ps filters known is =
      let whole = part_is graphs ps filters known units (is_plan graphs ps filters known units (is ∙ is_run)) in
      subst (HasSoundUnits graphs) whole (sound_part graphs (Run ps filters known) (subst HasFitUnits (sym whole) fit))

  pub sent_so : (graphs : List (List Triple)) (ps : List Pattern) (filters : List Expr) (known : List (List ℕ)) (gone defined : List Bindings) (wanted : List Sent) → IsPermutation (rows ++ gone) defined → run_task graphs ps filters known ≡ it
      → IsRunSent endpoints (union graphs) block 1 units (numbered 0 rows) wanted → IsSentForRun endpoints graphs block (station.run ps filters known) defined wanted
  sent_so graphs ps filters known gone defined wanted moved is h = by (list_any is_empty_list (map (sources graphs) ps)) (is_plan graphs ps filters known units (is ∙ is_run)).full
    where
      us : List unit.Unit
      us = plan ps (map (sources graphs) ps) filters known

      by : (b : Bool) → b ≡ false → SentUnless b wanted (IsRunSent endpoints (union graphs) block 1 us (numbered 0 defined) wanted)
      by true e = absurd (cc)
      by false e =
          subst (λ (v : List unit.Unit). IsRunSent endpoints (union graphs) block 1 v (numbered 0 defined) wanted) (is_plan graphs ps filters known units (is ∙ is_run)).units_are
          (fewer_laws.run endpoints (union graphs) block units rows gone defined wanted moved h)

  pub found_so : (graphs : List (List Triple)) (ps : List Pattern) (filters : List Expr) (known : List (List ℕ)) (found : List Row) → run_task graphs ps filters known ≡ it → IsPermutation found (stepped (union graphs) units (numbered 0 rows))
      → IsRunFound graphs ps filters known rows found
  found_so graphs ps filters known found is h =
      let whole = is_plan graphs ps filters known units (is ∙ is_run) in
      subst (λ (b : Bool). ComesOf b (union graphs) (plan ps (map (sources graphs) ps) filters known) rows found) (sym whole.full)
      (subst (λ (v : List unit.Unit). IsPermutation found (stepped (union graphs) v (numbered 0 rows))) whole.units_are h)

-- a run that isn't asked for sends nothing, and where it is because its task has no units nothing comes of it
module _ (endpoints : List EndpointParts) (graphs : List (List Triple)) (block : ℕ) (ps : List Pattern) (filters : List Expr) (known : List (List ℕ)) where
  pub nothing_sent : (defined : List Bindings) → IsSentForRun endpoints graphs block (station.run ps filters known) defined []
  nothing_sent defined = nothing_of endpoints graphs block (station.run ps filters known) defined

pub nothing_found : (graphs : List (List Triple)) (ps : List Pattern) (filters : List Expr) (known : List (List ℕ)) (rows : List Bindings) (t : Task) → ((units : List unit.Unit) → t ≡ task.Run units → ⊥) → run_task graphs ps filters known ≡ t → IsRunFound graphs ps filters known rows []
nothing_found graphs ps filters known rows t none is = by (list_any is_empty_list (map (sources graphs) ps)) is
  where
    us : List unit.Unit
    us = plan ps (map (sources graphs) ps) filters known

    by : (b : Bool) → (if b then task.EmptyRun else task.Run us) ≡ t → ComesOf b (union graphs) us rows []
    by true e = refl
    by false e = absurd (none us (sym e))

-- the cause of a refusal of some units is one of more
module _ (before after : List Seen) (endpoints : List EndpointParts) (us more : List unit.Unit) (block : ℕ) (of_more : (u : unit.Unit) → Contains us u → Contains more u) where
  one_of_more : (wanted : List Sent) (xs : List Exchange) (why : FlowError) → IsFlowCause before after endpoints us block wanted xs why → IsFlowCause before after endpoints more block wanted xs why
  one_of_more wanted xs why k = record {
    unit = k.unit;
    of_run = of_more k.unit k.of_run;
    batch = k.batch;
    sized = k.sized;
    allowed = k.allowed;
    at = k.at;
    member = k.member;
    endpoint = k.endpoint;
    found = k.found;
    named = k.named;
    cause = k.cause;
  }

  pub cause_of_more : (wanted : List Sent) (xs : List Exchange) (why : FlowError) → HasFlowCause before after endpoints us block wanted xs why → HasFlowCause before after endpoints more block wanted xs why
  cause_of_more wanted xs (flow.Member at) k = one_of_more wanted xs (flow.Member at) k
  cause_of_more wanted xs (flow.BadReply at bad) k = one_of_more wanted xs (flow.BadReply at bad) k
  cause_of_more wanted xs (flow.RequestTooLong at size) k = one_of_more wanted xs (flow.RequestTooLong at size) k
  cause_of_more wanted xs flow.Memory k = tt
