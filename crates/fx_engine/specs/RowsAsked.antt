-- The results of a walk through groups, and what it takes.
use Rattle.std.specs.Prelude.{◌≡◌, ℕ, List, ◌∷◌, drop, Contains, IsPermutation, Result, Ok, Err}
use Rattle.std.specs.declared.vec.Vec.{Vec}
use Rattle.std.specs.declared.alloc.Global.{Global}
use Rattle.fx_algebra.specs.Operators.{join}
use Rattle.fx_algebra.specs.Solutions.{Bindings}
use Rattle.fx_algebra.specs.declared.units.Row.{Row}
use Rattle.fx_flows.specs.declared.flows.FlowError.TheVariants as flow
use Rattle.fx_side_by_side.specs.SideBySide.{CanAsk}
use Rattle.fx_walks.specs.declared.tasks.Task.{Task}
use Rattle.fx_walks.specs.declared.tasks.Task.TheVariants as task
use Rattle.fx_engine.specs.declared.rows.RowsError.{RowsError}
use Rattle.fx_engine.specs.declared.rows.RowsError.TheVariants as rows_error

-- a task whose units can be asked for, if it is a run that has any
abbrev pub CanBeAsked : ℕ → Task → Type 0
CanBeAsked count (task.Run units) = CanAsk count units
CanBeAsked count task.EmptyRun = Unit {0}
CanBeAsked count (task.Service rows) = Unit {0}
CanBeAsked count task.Refused = Unit {0}

-- ---- results as lists

abbrev pub solutions_in : Result (Vec Bindings Global) RowsError → Result (List Bindings) RowsError
solutions_in (Ok rows) = Ok rows.items
solutions_in (Err e) = Err e

abbrev pub found_in : Result (Vec Row Global) RowsError → Result (List Row) RowsError
found_in (Ok rows) = Ok rows.items
found_in (Err e) = Err e

-- ---- an occurrence of SERVICE

-- its task is next: the rows before it were joined with its rows, and the tasks go on behind it; it wasn't refused
pub record IsJoined (tasks : List Task) (next later : ℕ) (before rows : List Bindings) : Type 0 where
  pub joined : (found : List Bindings) (rest : List Task) → drop next tasks ≡ task.Service found ∷ rest → (drop later tasks ≡ rest) × IsPermutation (join before found) rows
  pub unrefused : (rest : List Task) → drop next tasks ≡ task.Refused ∷ rest → ⊥

-- what comes of it, or why nothing does
abbrev pub IsBehindService : List Task → ℕ → ℕ → List Bindings → Result (List Bindings) RowsError → Type 0
IsBehindService tasks next later before (Ok rows) = IsJoined tasks next later before rows
IsBehindService tasks next later before (Err (rows_error.Flow e)) = e ≡ flow.Memory
IsBehindService tasks next later before (Err rows_error.Refused) = Contains tasks task.Refused
