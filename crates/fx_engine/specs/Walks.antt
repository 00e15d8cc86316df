-- What a walk through the groups of a query leaves of the wires, and what it gives.
use Rattle.std.specs.Prelude.{ℕ, Bool, List, Result, All, Contains, length}
use Rattle.fx_algebra.specs.Solutions.{Bindings}
use Rattle.fx_algebra.specs.declared.answers.Answer.{Answer}
use Rattle.fx_algebra.specs.declared.queries.Element.{Element}
use Rattle.fx_algebra.specs.declared.queries.Group.{Group}
use Rattle.fx_algebra.specs.declared.queries.Query.{Query}
use Rattle.fx_algebra.specs.declared.units.Row.{Row}
use Rattle.fx_outside.specs.Endpoints.{EndpointParts}
use Rattle.fx_traffic.specs.Gains.{WiresSeen}
use Rattle.fx_walks.specs.AnswersAsked.{AnswerDue, AnswerGiven}
use Rattle.fx_engine.specs.Asked.{Asked}
use Rattle.fx_walks.specs.GroupsAsked.{AlternativesDue, AlternativesGiven, ElementDue, ElementGiven, EndDue, EndGiven, GroupDue, GroupGiven, OperatorDue, OperatorGiven, RunDue, RunGiven, UnfilteredGiven}
use Rattle.fx_engine.specs.RowsAsked.{CanBeAsked}
use Rattle.fx_walks.specs.Tasks.{front_of}
use Rattle.fx_engine.specs.Together.{AreOneRuns, GoesBehind, RunAndGroups, TasksDue, TasksGiven}
use Rattle.fx_engine.specs.declared.rows.RowsError.{RowsError}
use Rattle.fx_walks.specs.declared.tasks.Task.{Task}
use Rattle.fx_engine.specs.declared.walks.Walk.{Walk}

-- the tasks of a walk can be asked for
abbrev pub CanBeWalked : Walk → Type 0
CanBeWalked k = All (CanBeAsked (length k.endpoints.now)) k.tasks.now

-- ---- groups

-- a group was asked for, and its last task stands before this place
abbrev pub GroupAsked : WiresSeen → Walk → ℕ → ℕ → Group → Result (List Bindings) RowsError → Type 0
GroupAsked w k next later g rows =
    Asked w.tells w.alone w.before w.after k.endpoints.now k.tasks.now k.block (GroupGiven k.endpoints.now k.block k.tasks.now next later g) (GroupDue k.endpoints.now k.block k.tasks.now next g) rows

-- its rows before its filters were
abbrev pub UnfilteredAsked : WiresSeen → Walk → ℕ → ℕ → Group → Result (List Bindings) RowsError → Type 0
UnfilteredAsked w k next later g rows =
    Asked w.tells w.alone w.before w.after k.endpoints.now k.tasks.now k.block (UnfilteredGiven k.endpoints.now k.block k.tasks.now next later g) (GroupDue k.endpoints.now k.block k.tasks.now next g) rows

-- an element was gone through behind these rows, in a run or not, before and after
abbrev pub ElementAsked : WiresSeen → Walk → ℕ → ℕ → Bool → Bool → Element → List Bindings → Result (List Bindings) RowsError → Type 0
ElementAsked w k next later was_run in_run e before rows =
    Asked w.tells w.alone w.before w.after k.endpoints.now k.tasks.now k.block (ElementGiven k.endpoints.now k.block k.tasks.now next later was_run in_run e before) (ElementDue k.endpoints.now k.block k.tasks.now next was_run e before) rows

-- an operator was, where no run goes on
abbrev pub OperatorAsked : WiresSeen → Walk → ℕ → ℕ → Element → List Bindings → Result (List Bindings) RowsError → Type 0
OperatorAsked w k next later e before rows =
    Asked w.tells w.alone w.before w.after k.endpoints.now k.tasks.now k.block (OperatorGiven k.endpoints.now k.block k.tasks.now next later e before) (OperatorDue k.endpoints.now k.block k.tasks.now next e before) rows

-- groups were asked for, one's rows behind the other's
abbrev pub AlternativesAsked : WiresSeen → Walk → ℕ → ℕ → List Group → Result (List Bindings) RowsError → Type 0
AlternativesAsked w k next later gs rows =
    Asked w.tells w.alone w.before w.after k.endpoints.now k.tasks.now k.block (AlternativesGiven k.endpoints.now k.block k.tasks.now next later gs) (AlternativesDue k.endpoints.now k.block k.tasks.now next gs) rows

-- the run whose task is next was, from these rows on
abbrev pub RunAsked : WiresSeen → Walk → ℕ → ℕ → List Bindings → Result (List Row) RowsError → Type 0
RunAsked w k next later rows found =
    Asked w.tells w.alone w.before w.after k.endpoints.now k.tasks.now k.block (RunGiven k.endpoints.now k.block k.tasks.now next later rows) (RunDue k.endpoints.now k.block k.tasks.now next rows) found

-- the run that ends was, if there is one
abbrev pub EndAsked : WiresSeen → Walk → ℕ → ℕ → Bool → List Bindings → Result (List Bindings) RowsError → Type 0
EndAsked w k next later in_run before rows =
    Asked w.tells w.alone w.before w.after k.endpoints.now k.tasks.now k.block (EndGiven k.endpoints.now k.block k.tasks.now next later in_run before) (EndDue k.endpoints.now k.block k.tasks.now next in_run before) rows

-- a query was answered
abbrev pub AnswerAsked : WiresSeen → List EndpointParts → ℕ → List Task → Query → Result Answer RowsError → Type 0
AnswerAsked w endpoints block tasks q answer = Asked w.tells w.alone w.before w.after endpoints tasks block (AnswerGiven endpoints block tasks q) (AnswerDue endpoints block tasks q) answer

-- ---- runs that go together, whatever the tasks are that these are the next of

abbrev pub TasksAsked : WiresSeen → Walk → List Task → Result (List (List Row)) RowsError → Type 0
TasksAsked w k its founds =
    (tasks : List Task) → All (Contains (front_of tasks)) its
    → Asked w.tells w.alone w.before w.after k.endpoints.now tasks k.block (TasksGiven k.endpoints.now k.block its) (TasksDue k.endpoints.now k.block its) founds

-- groups of which each is one run
abbrev pub OneRunsAsked : WiresSeen → Walk → List Group → List Task → Result (List Bindings) RowsError → Type 0
OneRunsAsked w k gs its rows =
    (tasks : List Task) (next end : ℕ) → AreOneRuns tasks next (length gs) gs its end
    → Asked w.tells w.alone w.before w.after k.endpoints.now tasks k.block (AlternativesGiven k.endpoints.now k.block tasks next end gs) (AlternativesDue k.endpoints.now k.block tasks next gs) rows

-- a run from the one empty solution on, and the groups of an operator behind it
abbrev pub BothAsked : WiresSeen → Walk → List Group → List Task → Result (List Bindings × List Bindings) RowsError → Type 0
BothAsked w k gs its both = RunAndGroups w.tells w.alone w.before w.after k.endpoints.now k.block gs its both

-- that operator was gone through
abbrev pub BehindAsked : WiresSeen → Walk → Element → List Group → List Task → Result (List Bindings) RowsError → Type 0
BehindAsked w k e gs its rows = GoesBehind w.tells w.alone w.before w.after k.endpoints.now k.block e gs its rows
