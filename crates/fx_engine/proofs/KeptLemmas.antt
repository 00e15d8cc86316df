-- Where a query is asked of some of the members, its plan has no others: so what is known over graphs needs those of the kept members alone.
use Rattle.std.proofs.Common.{◌≡◌, ◌∙◌, ap, sym, subst, refl, ℕ, Bool, true, false, if◌then◌else◌, List, [], ◌∷◌, map, filter, inl, inr, All, Contains}
use Rattle.std.specs.List.{AllByRecursion, flat_map, list_any}
use Rattle.std.proofs.lemmas.List.Elements.{All-contains, All-contains_itself, All-from_recursion, All-weaker, recursion_from_All}
use Rattle.fx_terms.specs.declared.patterns.Pattern.{Pattern}
use Rattle.fx_terms.specs.declared.triples.Triple.{Triple}
use Rattle.fx_terms.proofs.SetLemmas.{Among, among_from, contains_from}
use Rattle.fx_outside.specs.Endpoints.{EndpointParts}
use Rattle.fx_algebra.specs.Answers.{is_empty_list}
use Rattle.fx_algebra.specs.Solutions.{Bindings}
use Rattle.fx_algebra.specs.Units.{graph_of, is_kept, of_kept, sources}
use Rattle.fx_algebra.specs.declared.expressions.Expr.{Expr}
use Rattle.fx_algebra.specs.declared.queries.Query.{Query}
use Rattle.fx_algebra.specs.declared.units.Unit as unit
use Rattle.fx_algebra.proofs.KeptLemmas.{kept_graphs, kept_sources}
use Rattle.fx_algebra.proofs.MemberLemmas.{among_from_flat_map}
use Rattle.fx_plan.specs.Plans.{plan}
use Rattle.fx_plan.specs.declared.parts.Part.{Part}
use Rattle.fx_sources.proofs.SourceLemmas.{from_filter}
use Rattle.fx_traffic.specs.Batches.{joined}
use Rattle.fx_traffic.specs.Gains.{IsMemberIn, Tell, TellAll, TellOf}
use Rattle.fx_traffic.proofs.GainLemmas.{gain_laws}
use Rattle.fx_traffic.proofs.PlannedLemmas.{planned_laws}
use Rattle.fx_wire.specs.Exchanges.{Seen}
use Rattle.fx_walks.specs.GroupsAsked.{task_units, units_in}
use Rattle.fx_walks.specs.Sections.{part_with, parts_with, sections}
use Rattle.fx_walks.specs.Tasks.{tasks_with}
use Rattle.fx_walks.specs.declared.sections.Section.{Section}
use Rattle.fx_walks.specs.declared.sections.Section.TheVariants.{Run, Service}
use Rattle.fx_walks.specs.declared.tasks.Task.{Task}
use Rattle.fx_walks.specs.declared.tasks.Task.TheVariants as task
use Rattle.fx_walks.proofs.FrontLemmas.{all_both, units_in_front}
use Rattle.fx_outcomes.proofs.TaskLemmas.{run_in_front}

-- ---- the members of a plan's units are those that its patterns have

module _ (P : ℕ → Type 0) (f : Pattern → List ℕ) (its : (p : Pattern) → All P (f p)) where
  abbrev HasAll : unit.Unit → Type 0
  HasAll u = All P u.members

  of_lists : (ps : List Pattern) (at : ℕ) → Contains (joined (map f ps)) at → P at
  of_lists ps at m = let there = among_from_flat_map (λ (list : List ℕ). list) at (map f ps) (among_from (joined (map f ps)) at m) in of_one ps at there.0 there.1 there.2
    where
      of_one : (ps : List Pattern) (at : ℕ) (list : List ℕ) → Among list (map f ps) → Among at list → P at
      of_one [] at list m n = absurd m
      of_one (p ∷ ps) at list (inl e) n = All-contains P (f p) at (its p) (contains_from (f p) at (subst (λ (v : List ℕ). Among at v) (sym e) n))
      of_one (p ∷ ps) at list (inr m) n = of_one ps at list m n

  run_units : (b : Bool) (ps : List Pattern) (filters : List Expr) (bound : List (List ℕ)) → AllByRecursion HasAll (task_units (if b then task.EmptyRun else task.Run (plan ps (map f ps) filters bound)))
  run_units true ps filters bound = tt
  run_units false ps filters bound =
      recursion_from_All HasAll (plan ps (map f ps) filters bound)
      (All-weaker (λ u. All (Contains (joined (map f ps))) u.members) HasAll (λ u h. All-weaker (Contains (joined (map f ps))) P (of_lists ps) u.members h) (plan ps (map f ps) filters bound) (planned_laws.members ps (map f ps) filters bound))

  all_units : (ss : List Section) (found : List (List Bindings)) → AllByRecursion HasAll (flat_map task_units (tasks_with (map (part_with f) ss) found))
  all_units [] found = tt
  all_units (Run ps filters bound ∷ ss) found =
      let lacks = list_any is_empty_list (map f ps) in
      let units = plan ps (map f ps) filters bound in
      let parts = map (part_with f) ss in
      subst (λ (v : List Task). AllByRecursion HasAll (flat_map task_units v)) (sym (run_in_front lacks units bound parts found))
      (all_both HasAll (task_units (if lacks then task.EmptyRun else task.Run units)) (flat_map task_units (tasks_with parts found)) (run_units lacks ps filters bound) (all_units ss found))
  all_units (Service iri ∷ ss) [] = all_units ss []
  all_units (Service iri ∷ ss) (rows ∷ found) = all_units ss found

  pub its_member : (q : Query) (found : List (List Bindings)) (at : ℕ) → IsMemberIn (units_in (tasks_with (parts_with f q) found)) at → P at
  its_member q found at m =
      let tasks = tasks_with (parts_with f q) found in
      let all = All-from_recursion HasAll (units_in tasks) (units_in_front HasAll tasks (all_units (sections q) found)) in
      All-contains P m.0.members at (All-contains HasAll (units_in tasks) m.0 all m.1) m.2

-- ---- which are kept

-- a source among the graphs of kept members is kept
source_kept : (kept : List Bool) (graphs : List (List Triple)) (p : Pattern) → All (λ at. is_kept kept at ≡ true) (sources (of_kept kept graphs) p)
source_kept kept graphs p =
    subst (All (λ at. is_kept kept at ≡ true)) (sym (kept_sources kept graphs p))
    (All-weaker (Contains those) (λ at. is_kept kept at ≡ true) (λ at m. (from_filter (is_kept kept) at (sources graphs p) (among_from those at m)).1) those (All-contains_itself those))
  where
    those : List ℕ
    those = filter (is_kept kept) (sources graphs p)

-- the graph of a kept member is its own
graph_kept : (kept : List Bool) (graphs : List (List Triple)) (at : ℕ) (b : Bool) → is_kept kept at ≡ b → b ≡ true → graph_of (of_kept kept graphs) at ≡ graph_of graphs at
graph_kept kept graphs at b is kept_so = kept_graphs kept graphs at ∙ ap (λ (c : Bool). if c then graph_of graphs at else []) (is ∙ kept_so)

pub told_kept : (wires : List Seen) (es : List EndpointParts) (kept : List Bool) (graphs : List (List Triple)) (q : Query) (found : List (List Bindings)) → TellAll wires es graphs
    → TellOf wires es (of_kept kept graphs) (IsMemberIn (units_in (tasks_with (parts_with (sources (of_kept kept graphs)) q) found)))
told_kept wires es kept graphs q found tell at e m there =
    let keeps : is_kept kept at ≡ true = its_member (λ at. is_kept kept at ≡ true) (sources (of_kept kept graphs)) (source_kept kept graphs) q found at m in
    subst (Tell wires e.iri) (sym (graph_kept kept graphs at true keeps refl)) (gain_laws.each_tells wires es graphs tell at e there)

-- of a plan by these sources
pub told_over : (wires : List Seen) (es : List EndpointParts) (q : Query) (parts : List Part) (graphs : List (List Triple)) (found : List (List Bindings)) (all : List (List Triple)) → TellAll wires es all → (kept : List Bool) → graphs ≡ of_kept kept all
    → parts ≡ parts_with (sources graphs) q → TellOf wires es graphs (IsMemberIn (units_in (tasks_with parts found)))
told_over wires es q parts graphs found all tell kept those is =
    subst (λ (v : List Part). TellOf wires es graphs (IsMemberIn (units_in (tasks_with v found)))) (sym is)
    (subst (λ (v : List (List Triple)). TellOf wires es v (IsMemberIn (units_in (tasks_with (parts_with (sources v) q) found)))) (sym those) (told_kept wires es kept all q found tell))
