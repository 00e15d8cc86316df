-- The tasks of the parts of a plan: what they are to the stations of its query.
use Rattle.std.proofs.Common.{if◌then◌else◌, ◌≡◌, ◌∙◌, ap, sym, subst, refl, ℕ, Bool, true, false, List, [], ◌∷◌, map, length, None, Option, Some, Contains, arith}
use Rattle.std.specs.List.{AllByRecursion, flat_map, list_any}
use Rattle.std.proofs.lemmas.List.Elements.{All-contains, All-from_recursion}
use Rattle.fx_terms.specs.declared.patterns.Pattern.{Pattern}
use Rattle.fx_terms.specs.declared.triples.Triple.{Triple}
use Rattle.fx_algebra.specs.Answers.{is_empty_list}
use Rattle.fx_algebra.specs.Cuts.{stations}
use Rattle.fx_algebra.specs.Solutions.{Bindings}
use Rattle.fx_algebra.specs.Stations.{Station}
use Rattle.fx_algebra.specs.Stations as station
use Rattle.fx_algebra.specs.Units.{sources}
use Rattle.fx_algebra.specs.declared.queries.Query.{Query}
use Rattle.fx_algebra.specs.declared.units.Unit as unit
use Rattle.fx_plan.specs.Plans.{plan}
use Rattle.fx_plan.specs.declared.parts.Part.{Part}
use Rattle.fx_plan.specs.declared.parts.Part.TheVariants as part
use Rattle.fx_outcomes.specs.Calls.{occurrence_in}
use Rattle.fx_walks.specs.GroupsAsked.{all_planned, planned, service_task}
use Rattle.fx_walks.specs.Served.{Served}
use Rattle.fx_walks.specs.Sections.{part_with, section_of}
use Rattle.fx_outcomes.specs.Outcomes.{IsAllOf, IsPlanOf}
use Rattle.fx_walks.specs.Tasks.{tasks_with}
use Rattle.fx_walks.specs.declared.tasks.Task.{Task}
use Rattle.fx_walks.specs.declared.tasks.Task.TheVariants as task

-- the task of a run in front of others
pub run_in_front : (lacks : Bool) (units : List unit.Unit) (bound : List (List ℕ)) (parts : List Part) (found : List (List Bindings))
    → tasks_with ((if lacks then part.EmptyRun else part.Run units bound) ∷ parts) found ≡ (if lacks then task.EmptyRun else task.Run units) ∷ tasks_with parts found
run_in_front true units bound parts found = refl
run_in_front false units bound parts found = refl

-- ---- by the stations

-- the rows at hand of the occurrences of SERVICE among stations, in text order; where there are fewer, the others have none
abbrev pub AreAtHand : Served → List Station → List (List Bindings) → Type 0
AreAtHand served [] found = Unit {0}
AreAtHand served (station.run ps filters before ∷ ss) found = AreAtHand served ss found
AreAtHand served (station.service number silent iri g ∷ ss) [] = (served.rows number ≡ None) × AreAtHand served ss []
AreAtHand served (station.service number silent iri g ∷ ss) (rows ∷ found) = (served.rows number ≡ Some rows) × AreAtHand served ss found

-- the tasks of a plan by the sources that patterns have in graphs are those of its stations
pub tasks_are_planned : (served : Served) (graphs : List (List Triple)) (ss : List Station) (found : List (List Bindings)) → AreAtHand served ss found → tasks_with (map (part_with (sources graphs)) (map section_of ss)) found ≡ all_planned served graphs ss
tasks_are_planned served graphs [] found h = refl
tasks_are_planned served graphs (station.run ps filters before ∷ ss) found h =
    run_in_front (list_any is_empty_list (map (sources graphs) ps)) (plan ps (map (sources graphs) ps) filters before) before (map (part_with (sources graphs)) (map section_of ss)) found
    ∙ ap (λ (v : List Task). planned served graphs (station.run ps filters before) ∷ v) (tasks_are_planned served graphs ss found h)
tasks_are_planned served graphs (station.service number silent iri g ∷ ss) [] h =
    ap (λ (v : List Task). task.Refused ∷ v) (tasks_are_planned served graphs ss [] h.1)
    ∙ ap (λ (o : Option (List Bindings)). service_task o ∷ all_planned served graphs ss) (sym h.0)
tasks_are_planned served graphs (station.service number silent iri g ∷ ss) (rows ∷ found) h =
    ap (λ (v : List Task). task.Service rows ∷ v) (tasks_are_planned served graphs ss found h.1)
    ∙ ap (λ (o : Option (List Bindings)). service_task o ∷ all_planned served graphs ss) (sym h.0)

-- ---- no task is refused

abbrev pub IsUnrefused : Task → Type 0
IsUnrefused (task.Run units) = Unit {0}
IsUnrefused task.EmptyRun = Unit {0}
IsUnrefused (task.Service rows) = Unit {0}
IsUnrefused task.Refused = ⊥

run_unrefused : (lacks : Bool) (units : List unit.Unit) → IsUnrefused (if lacks then task.EmptyRun else task.Run units)
run_unrefused true units = tt
run_unrefused false units = tt

-- where there are rows for each SERVICE, no task is refused
none_refused : (f : Pattern → List ℕ) (ss : List Station) (found : List (List Bindings)) → length found ≡ length (flat_map occurrence_in ss) → AllByRecursion IsUnrefused (tasks_with (map (part_with f) (map section_of ss)) found)
none_refused f [] found h = tt
none_refused f (station.run ps filters before ∷ ss) found h =
    let parts = map (part_with f) (map section_of ss) in
    let lacks = list_any is_empty_list (map f ps) in
    let units = plan ps (map f ps) filters before in
    subst (AllByRecursion IsUnrefused) (sym (run_in_front lacks units before parts found)) (run_unrefused lacks units, none_refused f ss found h)
none_refused f (station.service number silent iri g ∷ ss) [] h = absurd (cc)
none_refused f (station.service number silent iri g ∷ ss) (rows ∷ found) h = (tt, none_refused f ss found (omega (arith, h)))

pub all_at_hand : (q : Query) (plan : List Part) → IsPlanOf q plan → (found : List (List Bindings)) → IsAllOf q found → Contains (tasks_with plan found) task.Refused → ⊥
all_at_hand q plan is found all refused =
    let none : AllByRecursion IsUnrefused (tasks_with plan found) = subst (λ (v : List Part). AllByRecursion IsUnrefused (tasks_with v found)) (sym is.1) (none_refused is.0 (stations q) found all) in
    All-contains IsUnrefused (tasks_with plan found) task.Refused (All-from_recursion IsUnrefused (tasks_with plan found) none) refused
