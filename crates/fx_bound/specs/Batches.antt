-- The query that a batch asks: one SELECT over the UNION of its branches.
use Rattle.std.specs.Prelude.{◌≡◌, ◌<◌, ◌≤◌, ◌^◌, ℕ, pos, false, List, [], ◌∷◌, ◌++◌, map, length, None, Ok, All, IsTrue, IsPermutation}
use Rattle.std.specs.List.{flat_map}
use Rattle.fx_terms.specs.declared.triples.Triple.{Triple}
use Rattle.fx_algebra.specs.Answers.{answer_alone}
use Rattle.fx_algebra.specs.Graphs.{union}
use Rattle.fx_algebra.specs.Solutions.{Bindings, rises}
use Rattle.fx_algebra.specs.Units.{graph_of, step}
use Rattle.fx_algebra.specs.Values.{integer}
use Rattle.fx_algebra.specs.declared.answers.Answer.TheVariants.{Table}
use Rattle.fx_algebra.specs.declared.expressions.Expr.{Expr-F, roll-Expr}
use Rattle.fx_algebra.specs.declared.queries.Element.{Element}
use Rattle.fx_algebra.specs.declared.queries.Element.TheVariants as element
use Rattle.fx_algebra.specs.declared.queries.Form.TheVariants as form
use Rattle.fx_algebra.specs.declared.queries.Group.{Group, roll-Group}
use Rattle.fx_algebra.specs.declared.queries.Query.{Query}
use Rattle.fx_algebra.specs.declared.units.Row.{Row}
use Rattle.fx_algebra.specs.declared.units.Unit as unit
use Rattle.fx_spelling.specs.Units.{IsFit, IsSound}
use Rattle.fx_renaming.specs.Branches.{bound_expr, bound_pattern}
use Rattle.fx_bound.specs.Reading.{all_columns, branch_rows, check_name, free_names, read_row, renamed, unit_names}
use Rattle.fx_founds.specs.Uniting.{Place, branches, united}
use Rattle.fx_founds.specs.declared.founds.Found.{Found}

-- where no variable is left, the branch says that it has a solution
abbrev pub check_elements : ℕ → List (List ℕ) → List Element
check_elements branch [] = element.Bind (roll-Expr (Expr-F.Constant (integer (pos 1)))) (check_name branch) ∷ []
check_elements branch (name ∷ names) = []

-- a branch: the unit's patterns and then its filters, with the row's terms in them
abbrev pub branch_elements : unit.Unit → Place → List Element
branch_elements u b =
    map (λ p. element.Triple (bound_pattern (renamed u b.number) b.row.solution p)) u.patterns
    ++ (map (λ e. element.Filter (bound_expr (renamed u b.number) b.row.solution e)) u.filters ++ check_elements b.number (free_names u b.row.solution))

abbrev pub branch_group : unit.Unit → Place → Group
branch_group u b = roll-Group (record { elements = branch_elements u b })

-- the columns by branch, and then by variable
abbrev pub batch_query : unit.Unit → List Place → Query
batch_query u bs = record {
  form = form.Select false (all_columns u bs);
  group = roll-Group (record { elements = element.Union (map (branch_group u) bs) ∷ [] });
  order = [];
  offset = 0;
  limit = None;
  inline = None;
}

-- ---- the law

-- the answer over a graph is a table of the rows of the branches, in some order
pub record HasTheRows (graph : List Triple) (u : unit.Unit) (bs : List Place) : Type 0 where
  pub rows : List Bindings
  pub answer_is : answer_alone (batch_query u bs) graph ≡ Table (all_columns u bs) rows
  pub rows_are : IsPermutation rows (flat_map (branch_rows graph u) bs)

abbrev pub BatchHasTheRows : Type 0
BatchHasTheRows = (graph : List Triple) (u : unit.Unit) (bs : List Place) → IsFit u → HasTheRows graph u bs

-- ---- the whole way of a batch

-- rows, in any order, of the answer of a batch over a graph
pub record AreAnswered (graph : List Triple) (u : unit.Unit) (bs : List Place) (rows : List Bindings) : Type 0 where
  pub told_rows : List Bindings
  pub answer_is : answer_alone (batch_query u bs) graph ≡ Table (all_columns u bs) told_rows
  pub same : IsPermutation rows told_rows

-- the answers of members, one for each
abbrev pub AreAnswersOf : List (List Triple) → unit.Unit → List Place → List ℕ → List (List Bindings) → Type 0
AreAnswersOf graphs u bs [] [] = Unit {0}
AreAnswersOf graphs u bs [] (answer ∷ answers) = ⊥
AreAnswersOf graphs u bs (at ∷ members) [] = ⊥
AreAnswersOf graphs u bs (at ∷ members) (answer ∷ answers) = AreAnswered (graph_of graphs at) u bs answer × AreAnswersOf graphs u bs members answers

-- answers as what is read of them, each row without a fault
abbrev pub AreReadAs : unit.Unit → List Place → List (List Bindings) → List (List Found) → Type 0
AreReadAs u bs [] [] = Unit {0}
AreReadAs u bs [] (list ∷ lists) = ⊥
AreReadAs u bs (answer ∷ answers) [] = ⊥
AreReadAs u bs (answer ∷ answers) (list ∷ lists) = (map (read_row u bs) answer ≡ map Ok list) × AreReadAs u bs answers lists

-- what is read of the answers unites to the step
pub record UniteToTheStep (graphs : List (List Triple)) (u : unit.Unit) (rows : List Row) (answers : List (List Bindings)) : Type 0 where
  pub lists : List (List Found)
  pub read : AreReadAs u (branches u rows) answers lists
  pub step_is : IsPermutation (united (branches u rows) lists) (step (union graphs) u rows)

-- Where a unit is sound over graphs, the answers of its members to the batch of at most 64 rows, each in any order, are read without a
-- fault and unite to what the unit makes of the rows over the union of the graphs.
abbrev pub BatchIsTheStep : Type 0
BatchIsTheStep = (graphs : List (List Triple)) (u : unit.Unit) (rows : List Row) (answers : List (List Bindings))
    → IsSound graphs u
    → All (λ r. IsTrue (rises r.solution)) rows
    → length rows ≤ 64
    → length (unit_names u) < 2 ^ 64
    → AreAnswersOf graphs u (branches u rows) u.members answers
    → UniteToTheStep graphs u rows answers
