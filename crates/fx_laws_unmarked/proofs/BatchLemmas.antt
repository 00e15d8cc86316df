-- The cause of a refusal of a query's batches, with the name of the endpoint.
use Rattle.std.proofs.Common.{◌≡◌, sym, subst, ℕ, zero, suc, ◌<◌, ◌≤◌, ◌⊎◌, inl, inr, Bool, true, false, if◌then◌else◌, List, [], ◌∷◌, map, length, arith}
use Rattle.std.specs.Prelude.{All, Contains, Some, slice_get}
use Rattle.std.specs.List.{AllByRecursion, flat_map, list_any, zip}
use Rattle.std.proofs.lemmas.List.Elements.{All-contains, All-contains_itself, All-from_recursion, recursion_from_All}
use Rattle.fx_terms.specs.declared.patterns.Pattern.{Pattern}
use Rattle.fx_terms.proofs.SetLemmas.{Among, among_from}
use Rattle.fx_outside.specs.Endpoints.{EndpointParts}
use Rattle.fx_algebra.specs.Answers.{is_empty_list}
use Rattle.fx_algebra.specs.Cuts.{stations}
use Rattle.fx_algebra.specs.Solutions.{Bindings}
use Rattle.fx_algebra.specs.Stations.{Station}
use Rattle.fx_algebra.specs.Stations as station
use Rattle.fx_algebra.specs.declared.expressions.Expr.{Expr}
use Rattle.fx_algebra.specs.declared.queries.Query.{Query}
use Rattle.fx_algebra.specs.declared.units.Unit as unit
use Rattle.fx_plan.specs.Laws.{IsGroup, IsSingle}
use Rattle.fx_plan.specs.Plans.{plan}
use Rattle.fx_plan.specs.declared.parts.Part.{Part}
use Rattle.fx_plan.proofs.LawLemmas.{units_are_of_the_run}
use Rattle.fx_keys.specs.Probes.{key_of}
use Rattle.fx_sources.specs.Patterns.{patterns}
use Rattle.fx_sources.specs.Probes.{Entry, chosen, members_of}
use Rattle.fx_spelling.specs.Units.{IsFit}
use Rattle.fx_traffic.specs.Batches.{IsBatchText}
use Rattle.fx_traffic.specs.Gains.{AreAfter, Tell}
use Rattle.fx_traffic.specs.Sent.{Sent}
use Rattle.fx_traffic.proofs.TextLemmas.{texts_of_more}
use Rattle.fx_wire.specs.Exchanges.{Exchange, Seen}
use Rattle.fx_flows.specs.Flows.{IsBadBatch, IsBatchRead, IsLongBatch}
use Rattle.fx_flows.specs.RunFlows.{HasFlowCause, IsFlowCause}
use Rattle.fx_flows.specs.declared.flows.FlowError.{FlowError}
use Rattle.fx_flows.specs.declared.flows.FlowError.TheVariants as flow
use Rattle.fx_pool.specs.declared.jobs.BadReply.{BadReply}
use Rattle.fx_outcomes.specs.Calls.{Call, IsRefused}
use Rattle.fx_walks.specs.GroupsAsked.{task_units, units_in}
use Rattle.fx_engine.specs.RowsAsked.{CanBeAsked}
use Rattle.fx_outcomes.specs.Mediation.{IsNamed}
use Rattle.fx_laws_unmarked.specs.Causes.{HasFedCause, IsBatchFor, IsUnitBefore, IsUnitOf, patterns_before}
use Rattle.fx_walks.specs.Sections.{part_with, parts_by, run_patterns, section_of, sections}
use Rattle.fx_walks.specs.Tasks.{tasks_with}
use Rattle.fx_outcomes.specs.declared.federated.FedError.{FedError}
use Rattle.fx_outcomes.specs.declared.federated.FedError.TheVariants as fed
use Rattle.fx_walks.specs.declared.sections.Section.{Section}
use Rattle.fx_walks.specs.declared.sections.Section.TheVariants.{Run, Service}
use Rattle.fx_walks.specs.declared.tasks.Task.{Task}
use Rattle.fx_walks.specs.declared.tasks.Task.TheVariants as task
use Rattle.fx_engine.proofs.AskableLemmas.{by_members}
use Rattle.fx_engine.proofs.AskedLemmas.{flow_cause_behind, read_of_more}
use Rattle.fx_outcomes.proofs.ChoiceLemmas.{its_name}
use Rattle.fx_services.proofs.WentLemmas.{found_here}
use Rattle.fx_walks.proofs.FrontLemmas.{all_both, all_split, units_in_front}
use Rattle.fx_walks.proofs.SectionLemmas.{runs_have}
use Rattle.fx_outcomes.proofs.TaskLemmas.{run_in_front}
use Rattle.fx_walks.proofs.UnitLemmas.{of_asked}

-- ---- the units of a plan have patterns of its query

module _ (P : Pattern → Type 0) (f : Pattern → List ℕ) where
  abbrev HasAll : unit.Unit → Type 0
  HasAll u = All P u.patterns

  unit_of_run : (ps : List Pattern) (u : unit.Unit) → IsGroup (zip ps (map f ps)) u ⊎ IsSingle (zip ps (map f ps)) u → AllByRecursion P ps → HasAll u
  unit_of_run ps u (inl g) h = λ k d low. of_asked f P ps _ (g.member ∷ []) h (g.only k d low)
  unit_of_run ps u (inr s) h = subst (All P) (sym s.alone) (All-from_recursion P (s.pattern ∷ []) (of_asked f P ps s.pattern u.members h s.its, tt))

  run_units : (b : Bool) (ps : List Pattern) (filters : List Expr) (bound : List (List ℕ)) → AllByRecursion P ps → AllByRecursion HasAll (task_units (if b then task.EmptyRun else task.Run (plan ps (map f ps) filters bound)))
  run_units true ps filters bound h = tt
  run_units false ps filters bound h =
      recursion_from_All HasAll (plan ps (map f ps) filters bound) (λ k d low. unit_of_run ps _ (units_are_of_the_run ps (map f ps) filters bound k d low) h)

  all_units : (ss : List Section) (found : List (List Bindings)) → AllByRecursion P (flat_map run_patterns ss) → AllByRecursion HasAll (flat_map task_units (tasks_with (map (part_with f) ss) found))
  all_units [] found h = tt
  all_units (Run ps filters bound ∷ ss) found h =
      let own = all_split P ps (flat_map run_patterns ss) h in
      let lacks = list_any is_empty_list (map f ps) in
      let units = plan ps (map f ps) filters bound in
      let parts = map (part_with f) ss in
      subst (λ (v : List Task). AllByRecursion HasAll (flat_map task_units v)) (sym (run_in_front lacks units bound parts found))
      (all_both HasAll (task_units (if lacks then task.EmptyRun else task.Run units)) (flat_map task_units (tasks_with parts found)) (run_units lacks ps filters bound own.0) (all_units ss found own.1))
  all_units (Service iri ∷ ss) [] h = all_units ss [] h
  all_units (Service iri ∷ ss) (rows ∷ found) h = all_units ss found h

  -- those that may be asked for have patterns that stand before the first occurrence without rows at hand
  run_before : (b : Bool) (units : List unit.Unit) (tasks : List Task) → AllByRecursion HasAll (task_units (if b then task.EmptyRun else task.Run units)) → AllByRecursion HasAll (units_in tasks)
      → AllByRecursion HasAll (units_in ((if b then task.EmptyRun else task.Run units) ∷ tasks))
  run_before true units tasks h k = k
  run_before false units tasks h k = all_both HasAll units (units_in tasks) h k

  units_before : (k : ℕ) (ss : List Station) (found : List (List Bindings)) → length found ≤ k → AllByRecursion P (patterns_before k ss) → AllByRecursion HasAll (units_in (tasks_with (map (part_with f) (map section_of ss)) found))
  units_before k [] found few h = tt
  units_before k (station.run ps filters bound ∷ ss) found few h =
      let own = all_split P ps (patterns_before k ss) h in
      let lacks = list_any is_empty_list (map f ps) in
      let units = plan ps (map f ps) filters bound in
      let parts = map (part_with f) (map section_of ss) in
      subst (λ (v : List Task). AllByRecursion HasAll (units_in v)) (sym (run_in_front lacks units bound parts found))
      (run_before lacks units (tasks_with parts found) (run_units lacks ps filters bound own.0) (units_before k ss found few own.1))
  units_before k (station.service number silent iri g ∷ ss) [] few h = tt
  units_before zero (station.service number silent iri g ∷ ss) (rows ∷ found) few h = absurd (omega (arith, few))
  units_before (suc k) (station.service number silent iri g ∷ ss) (rows ∷ found) few h = units_before k ss found (omega (arith, few)) h

units_have_patterns : (q : Query) (n : ℕ) (entries : List Entry) (found : List (List Bindings)) → All (λ u. All (Contains (patterns q)) u.patterns) (units_in (tasks_with (parts_by (sections q) (chosen q n entries)) found))
units_have_patterns q n entries found =
    let f : Pattern → List ℕ = λ p. members_of entries n (key_of p) in
    let own : AllByRecursion (Contains (patterns q)) (flat_map run_patterns (sections q)) = subst (AllByRecursion (Contains (patterns q))) (sym (runs_have q)) (recursion_from_All (Contains (patterns q)) (patterns q) (All-contains_itself (patterns q))) in
    let tasks = tasks_with (map (part_with f) (sections q)) found in
    let each = units_in_front (λ u. All (Contains (patterns q)) u.patterns) tasks (all_units (Contains (patterns q)) f (sections q) found own) in
    subst (λ (v : List Part). All (λ u. All (Contains (patterns q)) u.patterns) (units_in (tasks_with v found))) (sym (by_members q n entries))
    (All-from_recursion (λ u. All (Contains (patterns q)) u.patterns) (units_in tasks) each)

units_stand_before : (q : Query) (n : ℕ) (entries : List Entry) (found : List (List Bindings)) (k : ℕ) → length found ≤ k → All (λ u. All (Contains (patterns_before k (stations q))) u.patterns) (units_in (tasks_with (parts_by (sections q) (chosen q n entries)) found))
units_stand_before q n entries found k few =
    let f : Pattern → List ℕ = λ p. members_of entries n (key_of p) in
    let front = patterns_before k (stations q) in
    let tasks = tasks_with (map (part_with f) (sections q)) found in
    let each = units_before (Contains front) f k (stations q) found few (recursion_from_All (Contains front) front (All-contains_itself front)) in
    subst (λ (v : List Part). All (λ u. All (Contains front) u.patterns) (units_in (tasks_with v found))) (sym (by_members q n entries))
    (All-from_recursion (λ u. All (Contains front) u.patterns) (units_in tasks) each)

-- ---- they are fit

task_fit : (n : ℕ) (t : Task) → CanBeAsked n t → AllByRecursion IsFit (task_units t)
task_fit n (task.Run units) h = recursion_from_All IsFit units h.fit
task_fit n task.EmptyRun h = tt
task_fit n (task.Service rows) h = tt
task_fit n task.Refused h = tt

units_fit : (n : ℕ) (tasks : List Task) → AllByRecursion (CanBeAsked n) tasks → AllByRecursion IsFit (flat_map task_units tasks)
units_fit n [] h = tt
units_fit n (t ∷ tasks) h = all_both IsFit (task_units t) (flat_map task_units tasks) (task_fit n t h.0) (units_fit n tasks h.1)

module _ (es : List EndpointParts) (q : Query) (n : ℕ) (entries : List Entry) (found : List (List Bindings)) (tasks : List Task) (are : tasks ≡ tasks_with (parts_by (sections q) (chosen q n entries)) found) (can : All (CanBeAsked (length es)) tasks) where
  unit_of_query : (u : unit.Unit) → Contains (units_in tasks) u → IsUnitOf q u
  unit_of_query u its = record {
    fit = All-contains IsFit (units_in tasks) u (All-from_recursion IsFit (units_in tasks) (units_in_front IsFit tasks (units_fit (length es) tasks (recursion_from_All (CanBeAsked (length es)) tasks can)))) its;
    of_query = All-contains (λ u. All (Contains (patterns q)) u.patterns) (units_in tasks) u (subst (λ (v : List Task). All (λ u. All (Contains (patterns q)) u.patterns) (units_in v)) (sym are) (units_have_patterns q n entries found)) its;
  }

  module _ (calls : List Call) (behind : (k : ℕ) (c : Call) → slice_get calls k ≡ Some c → IsRefused c → length found ≤ k) where
    pub unit_before : (u : unit.Unit) → Contains (units_in tasks) u → IsUnitBefore q calls u
    unit_before u its = record {
      of_query = unit_of_query u its;
      before = λ k c there refused.
          All-contains (λ u. All (Contains (patterns_before k (stations q))) u.patterns) (units_in tasks) u
          (subst (λ (v : List Task). All (λ u. All (Contains (patterns_before k (stations q))) u.patterns) (units_in v)) (sym are) (units_stand_before q n entries found k (behind k c there refused))) its;
    }

    -- so the texts of their batches are of the query, before each occurrence that was refused
    pub texts_of_query : (block : ℕ) (xs : List Sent) → All (IsBatchText es block (Contains (units_in tasks))) xs → All (IsBatchText es block (IsUnitBefore q calls)) xs
    texts_of_query block xs h = texts_of_more es block (Contains (units_in tasks)) (IsUnitBefore q calls) unit_before xs h

  -- and what is read of their replies
  pub read_of_query : (xs : List Exchange) → All (IsBatchRead (Contains (units_in tasks))) xs → All (IsBatchRead (IsUnitOf q)) xs
  read_of_query xs h = read_of_more (Contains (units_in tasks)) (IsUnitOf q) unit_of_query xs h

-- ---- the cause

some_pattern : (q : Query) (u : unit.Unit) → IsFit u → All (Contains (patterns q)) u.patterns → 0 < length (patterns q)
some_pattern q u fit of = by u.patterns fit.some (recursion_from_All (Contains (patterns q)) u.patterns of)
  where
    more : (ps : List Pattern) (p : Pattern) → Among p ps → 0 < length ps
    more [] p m = absurd m
    more (x ∷ ps) p m = omega arith

    by : (ps : List Pattern) → 0 < length ps → AllByRecursion (Contains (patterns q)) ps → 0 < length (patterns q)
    by [] some h = absurd (omega arith)
    by (p ∷ ps) some h = more (patterns q) p (among_from (patterns q) p h.0)

module _ (es : List EndpointParts) (q : Query) (old : List Entry) (n : ℕ) (entries : List Entry) (found : List (List Bindings)) (tasks : List Task) (are : tasks ≡ tasks_with (parts_by (sections q) (chosen q n entries)) found) (can : All (CanBeAsked (length es)) tasks) (block : ℕ) (s t : List Seen) (xs : List Exchange) (calls plain : List Call) (behind : (k : ℕ) (c : Call) → slice_get calls k ≡ Some c → IsRefused c → length found ≤ k) (wanted : List Sent) where
  batch_for : (why : FlowError) (k : IsFlowCause s t es (units_in tasks) block wanted xs why) → IsBatchFor es q calls block k.endpoint k.unit k.batch
  batch_for why k = record { of_query = unit_before es q n entries found tasks are can calls behind k.unit k.of_run; sized = k.sized; at = k.at; member = k.member; found = k.found }

  named_batch_cause : (why : FlowError) (e : FedError) → IsFlowCause s t es (units_in tasks) block wanted xs why → IsNamed es why e → HasFedCause s t es q old calls plain wanted xs block e
  named_batch_cause why fed.Memory k n = tt
  named_batch_cause (flow.Member at) (fed.Member name) k n =
      let b = batch_for (flow.Member at) k in
      (some_pattern q k.unit b.of_query.of_query.fit b.of_query.of_query.of_query, (k.endpoint, found_here es k.at k.endpoint k.found, its_name es k.at at k.endpoint name k.named k.found n, k.cause))
  named_batch_cause (flow.BadReply at bad) (fed.BadReply name other) k n =
      let is : IsBadBatch (Tell s k.endpoint.iri) k.endpoint (record { unit = k.unit; rows = k.batch }) xs other = subst (λ (b : BadReply). IsBadBatch (Tell s k.endpoint.iri) k.endpoint (record { unit = k.unit; rows = k.batch }) xs b) (sym n.1) k.cause in (
        k.endpoint,
        found_here es k.at k.endpoint k.found,
        its_name es k.at at k.endpoint name k.named k.found n.0,
        inr (inl (record { unit = k.unit; batch = k.batch; asked = batch_for (flow.BadReply at bad) k; is_bad = is })),
      )
  named_batch_cause (flow.RequestTooLong at size) (fed.RequestTooLong name other) k n = (
    k.endpoint,
    found_here es k.at k.endpoint k.found,
    its_name es k.at at k.endpoint name k.named k.found n.0,
    inr (inl (record { unit = k.unit; batch = k.batch; asked = batch_for (flow.RequestTooLong at size) k; allowed = k.allowed; is_long = subst (IsLongBatch k.endpoint (record { unit = k.unit; rows = k.batch })) (sym n.1) k.cause })),
  )
  named_batch_cause (flow.Member at) (fed.BadReply name other) k n = absurd n
  named_batch_cause (flow.Member at) (fed.RequestTooLong name other) k n = absurd n
  named_batch_cause (flow.BadReply at bad) (fed.Member name) k n = absurd n
  named_batch_cause (flow.BadReply at bad) (fed.RequestTooLong name other) k n = absurd n
  named_batch_cause (flow.RequestTooLong at size) (fed.Member name) k n = absurd n
  named_batch_cause (flow.RequestTooLong at size) (fed.BadReply name other) k n = absurd n
  named_batch_cause flow.Memory (fed.Member name) k n = absurd n
  named_batch_cause flow.Memory (fed.BadReply name other) k n = absurd n
  named_batch_cause flow.Memory (fed.RequestTooLong name other) k n = absurd n
  named_batch_cause (flow.Member at) (fed.Service iri) k n = absurd n
  named_batch_cause (flow.Member at) (fed.UnknownService iri) k n = absurd n
  named_batch_cause (flow.BadReply at bad) (fed.Service iri) k n = absurd n
  named_batch_cause (flow.BadReply at bad) (fed.UnknownService iri) k n = absurd n
  named_batch_cause (flow.RequestTooLong at size) (fed.Service iri) k n = absurd n
  named_batch_cause (flow.RequestTooLong at size) (fed.UnknownService iri) k n = absurd n
  named_batch_cause flow.Memory (fed.Service iri) k n = absurd n
  named_batch_cause flow.Memory (fed.UnknownService iri) k n = absurd n

  batch_cause : (why : FlowError) (e : FedError) → HasFlowCause s t es (units_in tasks) block wanted xs why → IsNamed es why e → HasFedCause s t es q old calls plain wanted xs block e
  batch_cause (flow.Member at) e k n = named_batch_cause (flow.Member at) e k n
  batch_cause (flow.BadReply at bad) e k n = named_batch_cause (flow.BadReply at bad) e k n
  batch_cause (flow.RequestTooLong at size) e k n = named_batch_cause (flow.RequestTooLong at size) e k n
  batch_cause flow.Memory fed.Memory k n = tt
  batch_cause flow.Memory (fed.Member name) k n = absurd n
  batch_cause flow.Memory (fed.BadReply name other) k n = absurd n
  batch_cause flow.Memory (fed.RequestTooLong name other) k n = absurd n
  batch_cause flow.Memory (fed.Service iri) k n = absurd n
  batch_cause flow.Memory (fed.UnknownService iri) k n = absurd n

-- the cause behind other exchanges
pub batch_cause_behind : (es : List EndpointParts) (q : Query) (old : List Entry) (n : ℕ) (entries : List Entry) (found : List (List Bindings)) (tasks : List Task) → tasks ≡ tasks_with (parts_by (sections q) (chosen q n entries)) found → All (CanBeAsked (length es)) tasks → (block : ℕ) (s t u : List Seen) → AreAfter s t
    → (xs all : List Exchange) → ((x : Exchange) → Contains xs x → Contains all x) → (calls plain : List Call) → ((k : ℕ) (c : Call) → slice_get calls k ≡ Some c → IsRefused c → length found ≤ k) → (wanted : List Sent) (why : FlowError) (e : FedError)
    → HasFlowCause t u es (units_in tasks) block wanted xs why → IsNamed es why e → HasFedCause s u es q old calls plain wanted all block e
batch_cause_behind es q old n entries found tasks are can block s t u after xs all among calls plain behind wanted why e k named =
    batch_cause es q old n entries found tasks are can block s u all calls plain behind wanted why e (flow_cause_behind s t u after xs all among es (units_in tasks) block [] wanted why k) named
