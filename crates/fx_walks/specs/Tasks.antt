-- What is to be done for the places of a query that requests are sent for: the parts of its plan, with the rows of its occurrences of SERVICE.
use Rattle.std.specs.Prelude.{◌≡◌, ◌+◌, ℕ, Bool, true, false, List, [], ◌∷◌, ◌++◌, All, Contains, drop, length, if◌then◌else◌}
use Rattle.fx_algebra.specs.Solutions.{Bindings}
use Rattle.fx_plan.specs.declared.parts.Part.{Part}
use Rattle.fx_plan.specs.declared.parts.Part.TheVariants as part
use Rattle.fx_walks.specs.declared.tasks.Task.{Task}
use Rattle.fx_walks.specs.declared.tasks.Task.TheVariants as task

-- The tasks of parts, with the rows of their occurrences of SERVICE in text order. Where there are fewer of these, the others were refused.
abbrev pub tasks_with : List Part → List (List Bindings) → List Task
tasks_with [] found = []
tasks_with (part.Run units bound ∷ parts) found = task.Run units ∷ tasks_with parts found
tasks_with (part.EmptyRun ∷ parts) found = task.EmptyRun ∷ tasks_with parts found
tasks_with (part.Service iri ∷ parts) [] = task.Refused ∷ tasks_with parts []
tasks_with (part.Service iri ∷ parts) (rows ∷ found) = task.Service rows ∷ tasks_with parts found

-- an occurrence of SERVICE that was refused, or stands behind one that was
abbrev pub is_refused : Task → Bool
is_refused (task.Run units) = false
is_refused task.EmptyRun = false
is_refused (task.Service rows) = false
is_refused task.Refused = true

-- the tasks before the first such
abbrev pub front_of : List Task → List Task
front_of [] = []
front_of (t ∷ tasks) = if is_refused t then [] else t ∷ front_of tasks

-- These are so many tasks, the next of all, before the first occurrence of SERVICE that was refused, and this is the place behind them.
pub record AreNext (tasks : List Task) (next count : ℕ) (its : List Task) (end : ℕ) : Type 0 where
  pub others : List Task
  pub next_are : drop next tasks ≡ its ++ others
  pub many : length its ≡ count
  pub in_front : All (Contains (front_of tasks)) its
  pub end_is : end ≡ next + count
