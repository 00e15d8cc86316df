-- Runs that begin with the one empty solution, asked for together: what each of their tasks has for requests, and what is found.
use Rattle.std.specs.Prelude.{◌≡◌, ◌+◌, ◌&&◌, ℕ, Bool, true, false, List, [], ◌∷◌, ◌++◌, length, Result, Ok, Err, IsPermutation}
use Rattle.std.specs.List.{flat_map, list_all}
use Rattle.std.specs.declared.vec.Vec.{Vec}
use Rattle.std.specs.declared.alloc.Global.{Global}
use Rattle.fx_terms.specs.declared.patterns.Pattern.{Pattern}
use Rattle.fx_terms.specs.declared.triples.Triple.{Triple}
use Rattle.fx_outside.specs.Endpoints.{EndpointParts}
use Rattle.fx_algebra.specs.Groups.{one_empty}
use Rattle.fx_algebra.specs.Operators.{filtered}
use Rattle.fx_algebra.specs.Solutions.{Bindings}
use Rattle.fx_algebra.specs.Stations as station
use Rattle.fx_algebra.specs.declared.expressions.Expr.{Expr}
use Rattle.fx_algebra.specs.declared.queries.Element.{Element}
use Rattle.fx_algebra.specs.declared.queries.Element.TheVariants as element
use Rattle.fx_algebra.specs.declared.queries.Group.{Group}
use Rattle.fx_algebra.specs.declared.units.Row.{Row}
use Rattle.fx_algebra.specs.declared.units.Unit as unit
use Rattle.fx_flows.specs.declared.flows.FlowError.{FlowError}
use Rattle.fx_flows.specs.declared.flows.FlowError.TheVariants as flow
use Rattle.fx_steps.specs.Steps.{solutions_of}
use Rattle.fx_traffic.specs.Sent.{Sent}
use Rattle.fx_wire.specs.Exchanges.{Seen}
use Rattle.fx_engine.specs.Asked.{Asked}
use Rattle.fx_walks.specs.GroupsAsked.{AlternativesDue, AlternativesGiven, ElementDue, ElementGiven, EndDue, EndGiven, IsRunFound, is_run, own_patterns, run_task}
use Rattle.fx_walks.specs.RunsSent.{IsSentForRun}
use Rattle.fx_walks.specs.SectionSteps.{group_of}
use Rattle.fx_walks.specs.Tasks.{AreNext}
use Rattle.fx_engine.specs.declared.rows.RowsError.{RowsError}
use Rattle.fx_engine.specs.declared.rows.RowsError.TheVariants as rows_error
use Rattle.fx_walks.specs.declared.tasks.Task.{Task}
use Rattle.fx_walks.specs.declared.tasks.Task.TheVariants as task
use Rattle.fx_engine.specs.declared.together.BehindRun.{BehindRun}
use Rattle.fx_engine.specs.declared.together.BehindRun.TheVariants as behind

-- ---- tasks in turn

-- the task of a run was done: what was sent for it, where at least the one empty solution enters it by definition, and what came of that
abbrev pub TaskGiven : List EndpointParts → ℕ → Task → List (List Triple) → List Sent → List Row → Type 0
TaskGiven endpoints block t graphs wanted found =
    (ps : List Pattern) (filters : List Expr) (known : List (List ℕ)) (gone defined : List Bindings)
    → IsPermutation (one_empty ++ gone) defined
    → run_task graphs ps filters known ≡ t
    → IsSentForRun endpoints graphs block (station.run ps filters known) defined wanted × IsRunFound graphs ps filters known one_empty found

abbrev pub TaskDue : List EndpointParts → ℕ → Task → List (List Triple) → List Sent → Type 0
TaskDue endpoints block t graphs wanted =
    (ps : List Pattern) (filters : List Expr) (known : List (List ℕ)) (gone defined : List Bindings)
    → IsPermutation (one_empty ++ gone) defined
    → run_task graphs ps filters known ≡ t
    → IsSentForRun endpoints graphs block (station.run ps filters known) defined wanted

abbrev pub TasksGiven : List EndpointParts → ℕ → List Task → List (List Triple) → List Sent → List (List Row) → Type 0
TasksGiven endpoints block [] graphs wanted [] = wanted ≡ []
TasksGiven endpoints block [] graphs wanted (found ∷ founds) = ⊥
TasksGiven endpoints block (t ∷ its) graphs wanted [] = ⊥
TasksGiven endpoints block (t ∷ its) graphs wanted (found ∷ founds) =
    (own : List Sent) × (rest : List Sent) × (wanted ≡ own ++ rest) × TaskGiven endpoints block t graphs own found × TasksGiven endpoints block its graphs rest founds

abbrev pub TasksDue : List EndpointParts → ℕ → List Task → List (List Triple) → List Sent → Type 0
TasksDue endpoints block [] graphs wanted = wanted ≡ []
TasksDue endpoints block (t ∷ its) graphs wanted =
    (own : List Sent) × (rest : List Sent) × (wanted ≡ own ++ rest) × TaskDue endpoints block t graphs own × TasksDue endpoints block its graphs rest

-- ---- the tasks that are next

-- the units of those that are runs
abbrev pub units_of_run : Task → List (List unit.Unit)
units_of_run (task.Run units) = units ∷ []
units_of_run task.EmptyRun = []
units_of_run (task.Service rows) = []
units_of_run task.Refused = []

abbrev pub runs_in : List Task → List (List unit.Unit)
runs_in its = flat_map units_of_run its

-- ---- results as lists

abbrev pub founds_in : Result (Vec (List Row) Global) RowsError → Result (List (List Row)) RowsError
founds_in (Ok founds) = Ok founds.items
founds_in (Err e) = Err e

-- rows in front of those of the others, unless these were refused
abbrev pub with_first : List Row → Result (List (List Row)) FlowError → Result (List (List Row)) FlowError
with_first found (Ok founds) = Ok (found ∷ founds)
with_first found (Err e) = Err e

-- what was found for each task, from what came of the runs among them in turn: nothing for a task that is no run, and else the first refusal
abbrev pub founds_by : List Task → List (Result (List Row) FlowError) → Result (List (List Row)) FlowError
founds_by [] results = Ok []
founds_by (task.Run units ∷ its) [] = with_first [] (founds_by its [])
founds_by (task.Run units ∷ its) (Ok found ∷ results) = with_first found (founds_by its results)
founds_by (task.Run units ∷ its) (Err e ∷ results) = Err e
founds_by (task.EmptyRun ∷ its) results = with_first [] (founds_by its results)
founds_by (task.Service rows ∷ its) results = with_first [] (founds_by its results)
founds_by (task.Refused ∷ its) results = with_first [] (founds_by its results)

-- what was found for the first of tasks, where the results in front of it become those behind it
abbrev pub IsFoundBy : Task → List (Result (List Row) FlowError) → List (Result (List Row) FlowError) → Result (List Row) FlowError → Type 0
IsFoundBy t before behind (Ok found) = (its : List Task) → founds_by (t ∷ its) before ≡ with_first found (founds_by its behind)
IsFoundBy t before behind (Err e) = (its : List Task) → founds_by (t ∷ its) before ≡ Err e

-- that, or want of memory
abbrev pub AreFounds : Result (List (List Row)) FlowError → Result (List (List Row)) RowsError → Type 0
AreFounds (Ok founds) (Ok given) = given ≡ founds
AreFounds (Err e) (Ok given) = ⊥
AreFounds wanted (Err (rows_error.Flow flow.Memory)) = Unit {0}
AreFounds (Err e) (Err why) = why ≡ rows_error.Flow e
AreFounds (Ok founds) (Err why) = ⊥

-- ---- groups of which each is one run

-- a group that holds triple patterns and filters alone, and a pattern at least
abbrev pub is_one_run : Group → Bool
is_one_run g = (group_of g).is_simple && is_run (own_patterns g)

-- such groups, and so many tasks that are next, theirs among them
pub record AreOneRuns (tasks : List Task) (next count : ℕ) (gs : List Group) (its : List Task) (end : ℕ) : Type 0 where
  pub ones : list_all is_one_run gs ≡ true
  pub are_next : AreNext tasks next count its end

-- the rows of such a group, from what was found for its run
abbrev pub rows_of_one : Group → List Row → List Bindings
rows_of_one g found = filtered (group_of g).filters (solutions_of found)

-- those of several, one group's behind the other's
abbrev pub rows_of_runs : List Group → List (List Row) → List Bindings
rows_of_runs [] founds = []
rows_of_runs (g ∷ gs) [] = []
rows_of_runs (g ∷ gs) (found ∷ founds) = rows_of_one g found ++ rows_of_runs gs founds

-- ---- with the run before them

-- an operator with such groups, whose tasks are next behind that of a run
abbrev pub IsBehindRun : Element → List Task → ℕ → BehindRun → Type 0
IsBehindRun e tasks next (behind.Union gs it) = (e ≡ element.Union gs.now) × AreOneRuns tasks next (1 + length gs.now) gs.now it.its.now it.end
IsBehindRun e tasks next (behind.Minus g it) = (e ≡ element.Minus g.now) × AreOneRuns tasks next (1 + length (g.now ∷ [])) (g.now ∷ []) it.its.now it.end
IsBehindRun e tasks next behind.Apart = Unit {0}

-- the run was asked for from the one empty solution on, and so were the groups
abbrev pub BothGiven : List EndpointParts → ℕ → List Task → ℕ → ℕ → List Group → List (List Triple) → List Sent → List Bindings × List Bindings → Type 0
BothGiven endpoints block tasks next end gs graphs wanted both =
    (own : List Sent) × (more : List Sent) × (wanted ≡ own ++ more) × EndGiven endpoints block tasks next (next + 1) true one_empty graphs own both.0 × AlternativesGiven endpoints block tasks (next + 1) end gs graphs more both.1

abbrev pub BothDue : List EndpointParts → ℕ → List Task → ℕ → List Group → List (List Triple) → List Sent → Type 0
BothDue endpoints block tasks next gs graphs wanted =
    (own : List Sent) × (more : List Sent) × (wanted ≡ own ++ more) × EndDue endpoints block tasks next true one_empty graphs own × AlternativesDue endpoints block tasks (next + 1) gs graphs more

-- whatever the tasks are that these are the next of
abbrev pub RunAndGroups : Bool → Bool → List Seen → List Seen → List EndpointParts → ℕ → List Group → List Task → Result (List Bindings × List Bindings) RowsError → Type 0
RunAndGroups tells alone before after endpoints block gs its result =
    (tasks : List Task) (next end : ℕ) → AreOneRuns tasks next (1 + length gs) gs its end
    → Asked tells alone before after endpoints tasks block (BothGiven endpoints block tasks next end gs) (BothDue endpoints block tasks next gs) result

-- the operator with these groups was gone through, behind that run
abbrev pub GoesBehind : Bool → Bool → List Seen → List Seen → List EndpointParts → ℕ → Element → List Group → List Task → Result (List Bindings) RowsError → Type 0
GoesBehind tells alone before after endpoints block e gs its result =
    (tasks : List Task) (next end : ℕ) → AreOneRuns tasks next (1 + length gs) gs its end
    → Asked tells alone before after endpoints tasks block (ElementGiven endpoints block tasks next end true false e one_empty) (ElementDue endpoints block tasks next true e one_empty) result

-- rows of both as lists
abbrev pub both_in : Result (Vec Bindings Global × Vec Bindings Global) RowsError → Result (List Bindings × List Bindings) RowsError
both_in (Ok both) = Ok (both.0.items, both.1.items)
both_in (Err e) = Err e

-- the solutions that were found for the first, and the groups' rows by what was found for the others, each in some order
abbrev pub AreParted : List Group → List (List Row) → List Bindings → List Bindings → Type 0
AreParted gs founds rows found = (first : List Row) (others : List (List Row)) → founds ≡ first ∷ others → IsPermutation rows (solutions_of first) × IsPermutation found (rows_of_runs gs others)
