-- The rows of groups, asked for by the tasks of their query: what is sent, and what comes of it.
use Rattle.std.specs.Prelude.{if◌then◌else◌, ◌≡◌, ◌+◌, ℕ, Bool, true, false, List, [], ◌∷◌, ◌++◌, map, drop, length, All, IfSome, IsPermutation, Option, None, Some}
use Rattle.std.specs.List.{flat_map, list_any}
use Rattle.fx_terms.specs.declared.patterns.Pattern.{Pattern}
use Rattle.fx_terms.specs.declared.triples.Triple.{Triple}
use Rattle.fx_outside.specs.Endpoints.{EndpointParts}
use Rattle.fx_algebra.specs.Answers.{is_empty_list}
use Rattle.fx_algebra.specs.BasicGraphPatterns.{bgp}
use Rattle.fx_algebra.specs.Graphs.{union}
use Rattle.fx_algebra.specs.Groups.{Part as GroupPart, pattern, condition, operator, Step, with_pattern, with_part, stations_of, seeds_of, after, group_rows, alternatives, alternative_seeds, alternative_stations, one_empty, service_rows}
use Rattle.fx_algebra.specs.Operators.{join}
use Rattle.fx_algebra.specs.Scopes.{once}
use Rattle.fx_algebra.specs.Solutions.{Bindings}
use Rattle.fx_algebra.specs.Stations.{Station}
use Rattle.fx_algebra.specs.Stations as station
use Rattle.fx_algebra.specs.Units.{sources}
use Rattle.fx_algebra.specs.declared.expressions.Expr.{Expr}
use Rattle.fx_algebra.specs.declared.queries.Element.{Element}
use Rattle.fx_algebra.specs.declared.queries.Group.{Group}
use Rattle.fx_algebra.specs.declared.units.Row.{Row}
use Rattle.fx_algebra.specs.declared.units.Unit as unit
use Rattle.fx_plan.specs.Plans.{plan}
use Rattle.fx_steps.specs.Fewer.{AreFewer}
use Rattle.fx_steps.specs.Steps.{numbered, stepped}
use Rattle.fx_traffic.specs.Sent.{Sent}
use Rattle.fx_walks.specs.Served.{Served, element_in, group_in}
use Rattle.fx_walks.specs.RunsSent.{AreRunsSent}
use Rattle.fx_walks.specs.SectionSteps.{part_of, part_patterns}
use Rattle.fx_walks.specs.Tasks.{front_of}
use Rattle.fx_walks.specs.declared.tasks.Task.{Task}
use Rattle.fx_walks.specs.declared.tasks.Task.TheVariants as task

-- the rows at hand of an occurrence of SERVICE are its rows, in some order
abbrev pub HasRows : Served → Station → Type 0
HasRows served (station.run ps filters before) = Unit {0}
HasRows served (station.service number silent iri g) = IfSome (served.rows number) (λ rows. IsPermutation rows (service_rows served.graphs served.down iri (group_in served g) number))

-- ---- the tasks

-- the task of a run, by the sources that its patterns have in graphs
abbrev pub run_task : List (List Triple) → List Pattern → List Expr → List (List ℕ) → Task
run_task graphs ps filters before = if list_any is_empty_list (map (sources graphs) ps) then task.EmptyRun else task.Run (plan ps (map (sources graphs) ps) filters before)

-- the task of an occurrence of SERVICE, by its rows at hand
abbrev pub service_task : Option (List Bindings) → Task
service_task None = task.Refused
service_task (Some rows) = task.Service rows

-- the task of a station
abbrev pub planned : Served → List (List Triple) → Station → Task
planned served graphs (station.run ps filters before) = run_task graphs ps filters before
planned served graphs (station.service number silent iri g) = service_task (served.rows number)

abbrev pub all_planned : Served → List (List Triple) → List Station → List Task
all_planned served graphs stations = map (planned served graphs) stations

abbrev pub task_units : Task → List unit.Unit
task_units (task.Run units) = units
task_units task.EmptyRun = []
task_units (task.Service rows) = []
task_units task.Refused = []

-- the units of tasks that may be asked for: nothing is behind an occurrence of SERVICE that was refused
abbrev pub units_in : List Task → List unit.Unit
units_in tasks = flat_map task_units (front_of tasks)

-- ---- what was asked for

-- These stations were asked for, before which by definition these rows stand, and the tasks go on with the rest.
pub record AreAskedFor (endpoints : List EndpointParts) (graphs : List (List Triple)) (block : ℕ) (tasks : List Task) (later : ℕ) (rest : List Task) (stations : List Station) (seeds : List (List Bindings)) (wanted : List Sent) : Type 0 where
  pub behind : drop later tasks ≡ rest
  pub sent : AreRunsSent endpoints graphs block stations seeds wanted

-- The tasks go on with those of stations, and then with the rest; the rows at hand of these stations' occurrences of SERVICE are theirs.
pub record IsNext (tasks : List Task) (next : ℕ) (graphs : List (List Triple)) (served : Served) (stations : List Station) (rest : List Task) : Type 0 where
  pub next_is : drop next tasks ≡ all_planned served graphs stations ++ rest
  pub right : All (HasRows served) stations

-- ---- a run

-- what comes of the units of a run: nothing where a pattern has no source, and else what they make of the rows under their numbers
abbrev pub ComesOf : Bool → List Triple → List unit.Unit → List Bindings → List Row → Type 0
ComesOf true graph us rows found = found ≡ []
ComesOf false graph us rows found = IsPermutation found (stepped graph us (numbered 0 rows))

-- the rows are what comes of a run of patterns, with the filters of its group and the names before it
abbrev pub IsRunFound : List (List Triple) → List Pattern → List Expr → List (List ℕ) → List Bindings → List Row → Type 0
IsRunFound graphs ps filters known rows found = ComesOf (list_any is_empty_list (map (sources graphs) ps)) (union graphs) (plan ps (map (sources graphs) ps) filters known) rows found

-- the run whose task is next was asked for; the rows that entered it are some of those that do by definition
abbrev pub RunGiven : List EndpointParts → ℕ → List Task → ℕ → ℕ → List Bindings → List (List Triple) → List Sent → List Row → Type 0
RunGiven endpoints block tasks next later rows graphs wanted found =
    (ps : List Pattern) (filters : List Expr) (known : List (List ℕ)) (gone defined : List Bindings) (rest : List Task)
    → IsPermutation (rows ++ gone) defined
    → drop next tasks ≡ run_task graphs ps filters known ∷ rest
    → AreAskedFor endpoints graphs block tasks later rest (station.run ps filters known ∷ []) (defined ∷ []) wanted × IsRunFound graphs ps filters known rows found

abbrev pub RunDue : List EndpointParts → ℕ → List Task → ℕ → List Bindings → List (List Triple) → List Sent → Type 0
RunDue endpoints block tasks next rows graphs wanted =
    (ps : List Pattern) (filters : List Expr) (known : List (List ℕ)) (gone defined : List Bindings) (rest : List Task)
    → IsPermutation (rows ++ gone) defined
    → drop next tasks ≡ run_task graphs ps filters known ∷ rest
    → AreRunsSent endpoints graphs block (station.run ps filters known ∷ []) (defined ∷ []) wanted

-- ---- a run of a group that may have no pattern

abbrev pub is_run : List Pattern → Bool
is_run [] = false
is_run (p ∷ ps) = true

-- the triple patterns of a group's own
abbrev pub own_patterns : Group → List Pattern
own_patterns g = flat_map part_patterns (map part_of g.elements)

-- the station that it is, with the filters of its group and the names before it
abbrev pub run_stations : List Expr → List (List ℕ) → List Pattern → List Station
run_stations filters known [] = []
run_stations filters known (p ∷ ps) = station.run (p ∷ ps) filters (once known) ∷ []

-- its task
abbrev pub run_tasks : List (List Triple) → List Expr → List (List ℕ) → List Pattern → List Task
run_tasks graphs filters known [] = []
run_tasks graphs filters known (p ∷ ps) = run_task graphs (p ∷ ps) filters (once known) ∷ []

-- the rows that enter it
abbrev pub run_seeds : List Bindings → List Pattern → List (List Bindings)
run_seeds rows [] = []
run_seeds rows (p ∷ ps) = rows ∷ []

-- the rows behind it
abbrev pub run_joined : List Triple → List Bindings → List Pattern → List Bindings
run_joined graph rows [] = rows
run_joined graph rows (p ∷ ps) = join rows (bgp graph (p ∷ ps))

-- the run before an operator or the end of its group was asked for
abbrev pub EndGiven : List EndpointParts → ℕ → List Task → ℕ → ℕ → Bool → List Bindings → List (List Triple) → List Sent → List Bindings → Type 0
EndGiven endpoints block tasks next later in_run before graphs wanted rows =
    (ps : List Pattern) (filters : List Expr) (known : List (List ℕ)) (defined : List Bindings) (rest : List Task)
    → in_run ≡ is_run ps
    → AreFewer filters before defined
    → drop next tasks ≡ run_tasks graphs filters known ps ++ rest
    → AreAskedFor endpoints graphs block tasks later rest (run_stations filters known ps) (run_seeds defined ps) wanted × AreFewer filters rows (run_joined (union graphs) defined ps)

abbrev pub EndDue : List EndpointParts → ℕ → List Task → ℕ → Bool → List Bindings → List (List Triple) → List Sent → Type 0
EndDue endpoints block tasks next in_run before graphs wanted =
    (ps : List Pattern) (filters : List Expr) (known : List (List ℕ)) (defined : List Bindings) (rest : List Task)
    → in_run ≡ is_run ps
    → AreFewer filters before defined
    → drop next tasks ≡ run_tasks graphs filters known ps ++ rest
    → AreRunsSent endpoints graphs block (run_stations filters known ps) (run_seeds defined ps) wanted

-- ---- groups

-- the stations of a group that stands by itself, and over graphs the rows that enter them; its first SERVICE has the number
abbrev pub stations_in : Served → ℕ → Group → List Station
stations_in served number g = (group_in served g).cut.stations number []

abbrev pub seeds_in : Served → ℕ → List (List Triple) → Group → List (List Bindings)
seeds_in served number graphs g = (group_in served g).cut.seeds (union graphs) number one_empty

abbrev pub GroupDue : List EndpointParts → ℕ → List Task → ℕ → Group → List (List Triple) → List Sent → Type 0
GroupDue endpoints block tasks next g graphs wanted =
    (served : Served) (number : ℕ) (rest : List Task)
    → IsNext tasks next graphs served (stations_in served number g) rest
    → AreRunsSent endpoints graphs block (stations_in served number g) (seeds_in served number graphs g) wanted

-- a group was asked for: its rows, in some order, however SERVICE is served, and whatever number the first one has
abbrev pub GroupGiven : List EndpointParts → ℕ → List Task → ℕ → ℕ → Group → List (List Triple) → List Sent → List Bindings → Type 0
GroupGiven endpoints block tasks next later g graphs wanted rows =
    (served : Served) (number : ℕ) (rest : List Task)
    → IsNext tasks next graphs served (stations_in served number g) rest
    → AreAskedFor endpoints graphs block tasks later rest (stations_in served number g) (seeds_in served number graphs g) wanted
    × IsPermutation rows (group_rows (group_in served g) (union graphs) number)

-- its rows before its filters, less some that these refuse
abbrev pub UnfilteredGiven : List EndpointParts → ℕ → List Task → ℕ → ℕ → Group → List (List Triple) → List Sent → List Bindings → Type 0
UnfilteredGiven endpoints block tasks next later g graphs wanted rows =
    (served : Served) (number : ℕ) (rest : List Task)
    → IsNext tasks next graphs served (stations_in served number g) rest
    → AreAskedFor endpoints graphs block tasks later rest (stations_in served number g) (seeds_in served number graphs g) wanted
    × AreFewer (group_in served g).filters rows ((group_in served g).rows (union graphs) number)

-- groups were asked for, one after the other
abbrev pub AlternativesDue : List EndpointParts → ℕ → List Task → ℕ → List Group → List (List Triple) → List Sent → Type 0
AlternativesDue endpoints block tasks next gs graphs wanted =
    (served : Served) (number : ℕ) (rest : List Task)
    → IsNext tasks next graphs served (alternative_stations (map (group_in served) gs) number) rest
    → AreRunsSent endpoints graphs block (alternative_stations (map (group_in served) gs) number) (alternative_seeds (map (group_in served) gs) (union graphs) number) wanted

abbrev pub AlternativesGiven : List EndpointParts → ℕ → List Task → ℕ → ℕ → List Group → List (List Triple) → List Sent → List Bindings → Type 0
AlternativesGiven endpoints block tasks next later gs graphs wanted rows =
    (served : Served) (number : ℕ) (rest : List Task)
    → IsNext tasks next graphs served (alternative_stations (map (group_in served) gs) number) rest
    → AreAskedFor endpoints graphs block tasks later rest (alternative_stations (map (group_in served) gs) number) (alternative_seeds (map (group_in served) gs) (union graphs) number) wanted
    × IsPermutation rows (alternatives (map (group_in served) gs) (union graphs) number)

-- ---- an operator

-- what an operator of a group has for requests, and the rows behind it; a pattern and a filter are none
abbrev pub operator_stations : ℕ → GroupPart → List (List ℕ) → List Station
operator_stations number (pattern p) known = []
operator_stations number (condition e) known = []
operator_stations number (operator o) known = o.cut.stations number known

abbrev pub operator_seeds : ℕ → GroupPart → List Triple → List Bindings → List (List Bindings)
operator_seeds number (pattern p) graph rows = []
operator_seeds number (condition e) graph rows = []
operator_seeds number (operator o) graph rows = o.cut.seeds graph number rows

abbrev pub operator_rows : ℕ → GroupPart → List Triple → List Bindings → List Bindings
operator_rows number (pattern p) graph rows = rows
operator_rows number (condition e) graph rows = rows
operator_rows number (operator o) graph rows = o.rows graph number rows

-- the number of the next SERVICE behind it
abbrev pub number_behind : ℕ → GroupPart → ℕ
number_behind number (pattern p) = number
number_behind number (condition e) = number
number_behind number (operator o) = number + o.services

abbrev pub OperatorDue : List EndpointParts → ℕ → List Task → ℕ → Element → List Bindings → List (List Triple) → List Sent → Type 0
OperatorDue endpoints block tasks next e before graphs wanted =
    (served : Served) (number : ℕ) (filters : List Expr) (known : List (List ℕ)) (defined : List Bindings) (rest : List Task)
    → AreFewer filters before defined
    → IsNext tasks next graphs served (operator_stations number (element_in served e) known) rest
    → AreRunsSent endpoints graphs block (operator_stations number (element_in served e) known) (operator_seeds number (element_in served e) (union graphs) defined) wanted

abbrev pub OperatorGiven : List EndpointParts → ℕ → List Task → ℕ → ℕ → Element → List Bindings → List (List Triple) → List Sent → List Bindings → Type 0
OperatorGiven endpoints block tasks next later e before graphs wanted rows =
    (served : Served) (number : ℕ) (filters : List Expr) (known : List (List ℕ)) (defined : List Bindings) (rest : List Task)
    → AreFewer filters before defined
    → IsNext tasks next graphs served (operator_stations number (element_in served e) known) rest
    → AreAskedFor endpoints graphs block tasks later rest (operator_stations number (element_in served e) known) (operator_seeds number (element_in served e) (union graphs) defined) wanted
    × AreFewer filters rows (operator_rows number (element_in served e) (union graphs) defined)

-- ---- the elements of a group, one after the other

-- a run that hasn't ended, in front of steps
abbrev pub with_run : List Pattern → List Step → List Step
with_run [] steps = steps
with_run (p ∷ ps) steps = with_pattern p (with_run ps steps)

-- steps have rows for each of their stations
abbrev pub AreEven : List Step → Type 0
AreEven steps = (filters : List Expr) (graph : List Triple) (number other : ℕ) (rows : List Bindings) (known : List (List ℕ)) → length (seeds_of graph number rows steps) ≡ length (stations_of filters other known steps)

-- A place in a group: the number of the next SERVICE, the patterns of the run that hasn't ended there, the names before that and the rows by
-- definition, of which those at hand are some. Behind it the tasks go on with those of the steps' stations.
pub record IsPlace (graphs : List (List Triple)) (tasks : List Task) (served : Served) (next : ℕ) (in_run : Bool) (filters : List Expr) (number : ℕ) (known : List (List ℕ)) (run : List Pattern) (before defined : List Bindings) (steps : List Step) (rest : List Task) : Type 0 where
  pub runs : in_run ≡ is_run run
  pub fewer : AreFewer filters before defined
  pub next_is : IsNext tasks next graphs served (stations_of filters number known (with_run run steps)) rest

-- what is sent from a place on
abbrev pub AreSentFrom : List EndpointParts → List (List Triple) → ℕ → List Expr → ℕ → List (List ℕ) → List Pattern → List Bindings → List Step → List Sent → Type 0
AreSentFrom endpoints graphs block filters number known run defined steps wanted =
    AreRunsSent endpoints graphs block (stations_of filters number known (with_run run steps)) (seeds_of (union graphs) number defined (with_run run steps)) wanted

-- a place, where the next SERVICE has the last number, was reached from an earlier one
pub record IsReached (endpoints : List EndpointParts) (graphs : List (List Triple)) (block : ℕ) (tasks : List Task) (served : Served) (later : ℕ) (in_run : Bool) (filters : List Expr) (number : ℕ) (known : List (List ℕ)) (run : List Pattern) (defined : List Bindings) (steps : List Step) (rest : List Task) (last : ℕ) (behind : List Step) (wanted : List Sent) (rows : List Bindings) : Type 0 where
  pub names : List (List ℕ)
  pub patterns : List Pattern
  pub solutions : List Bindings
  pub place : IsPlace graphs tasks served later in_run filters last names patterns rows solutions behind rest
  pub goes_on : (more : List Sent) → AreSentFrom endpoints graphs block filters last names patterns solutions behind more → AreSentFrom endpoints graphs block filters number known run defined steps (wanted ++ more)
  pub comes_out : after (union graphs) last solutions (with_run patterns behind) ≡ after (union graphs) number defined (with_run run steps)

-- an element was gone through
abbrev pub ElementGiven : List EndpointParts → ℕ → List Task → ℕ → ℕ → Bool → Bool → Element → List Bindings → List (List Triple) → List Sent → List Bindings → Type 0
ElementGiven endpoints block tasks next later was_run in_run e before graphs wanted rows =
    (served : Served) (number : ℕ) (filters : List Expr) (known : List (List ℕ)) (run : List Pattern) (defined : List Bindings) (steps : List Step) (rest : List Task)
    → IsPlace graphs tasks served next was_run filters number known run before defined (with_part (element_in served e) steps) rest
    → IsReached endpoints graphs block tasks served later in_run filters number known run defined (with_part (element_in served e) steps) rest (number_behind number (element_in served e)) steps wanted rows

abbrev pub ElementDue : List EndpointParts → ℕ → List Task → ℕ → Bool → Element → List Bindings → List (List Triple) → List Sent → Type 0
ElementDue endpoints block tasks next was_run e before graphs wanted =
    (served : Served) (number : ℕ) (filters : List Expr) (known : List (List ℕ)) (run : List Pattern) (defined : List Bindings) (steps : List Step) (rest : List Task)
    → AreEven steps
    → IsPlace graphs tasks served next was_run filters number known run before defined (with_part (element_in served e) steps) rest
    → AreSentFrom endpoints graphs block filters number known run defined (with_part (element_in served e) steps) wanted
