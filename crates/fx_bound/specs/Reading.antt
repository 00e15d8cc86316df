-- The columns of a batch, and what a row of its answer tells.
use Rattle.std.specs.Prelude.{◌≡◌, ◌<◌, ◌≤◌, ℕ, ◌^◌, Bool, not, if◌then◌else◌, List, [], ◌∷◌, ◌++◌, map, filter, length, codes, Some, is_some, is_none, Result, Ok, Err, pos, All, IsTrue, IsPermutation}
use Rattle.std.specs.List.{flat_map, list_all, list_any}
use Rattle.std.specs.Fmt.{decimal}
use Rattle.std.specs.Ordering.{is_eq}
use Rattle.std.proofs.Common.{suc}
use Rattle.fx_terms.specs.Names.{IsName}
use Rattle.fx_terms.specs.Texts.{text_cmp}
use Rattle.fx_terms.specs.declared.triples.Triple.{Triple}
use Rattle.fx_algebra.specs.BasicGraphPatterns.{bgp, variables}
use Rattle.fx_algebra.specs.Operators.{filtered, with_value}
use Rattle.fx_algebra.specs.Scopes.{is_among, once}
use Rattle.fx_algebra.specs.Solutions.{Bindings, rises, term_of}
use Rattle.fx_algebra.specs.Values.{integer}
use Rattle.fx_algebra.specs.declared.units.Row.{Row}
use Rattle.fx_algebra.specs.declared.units.Unit as unit
use Rattle.fx_spelling.specs.Units.{IsFit}
use Rattle.fx_renaming.specs.Branches.{bound_expr, bound_pattern, told}
use Rattle.fx_founds.specs.Uniting.{Place, branches, tells}
use Rattle.fx_bound.specs.declared.faults.RowFault.{RowFault}
use Rattle.fx_bound.specs.declared.faults.RowFault.TheVariants.{Foreign, Mixed, Partial}
use Rattle.fx_founds.specs.declared.founds.Found.{Found}

-- ---- names in the text

-- a variable by its number among the unit's, and the number of its branch
abbrev pub sent_name : ℕ → ℕ → List ℕ
sent_name variable branch = codes "v" ++ (decimal variable ++ 95 ∷ decimal branch)

-- the column of a branch in which no variable is left
abbrev pub check_name : ℕ → List ℕ
check_name branch = codes "k_" ++ decimal branch

-- the variables of a unit, each at its first place
abbrev pub unit_names : unit.Unit → List (List ℕ)
unit_names u = once (variables u.patterns)

abbrev pub place_of : List (List ℕ) → List ℕ → ℕ
place_of [] name = 0
place_of (n ∷ ns) name = if is_eq (text_cmp n name) then 0 else suc (place_of ns name)

-- the other name that a variable has in a branch, by its place among names
abbrev pub named : List (List ℕ) → ℕ → List ℕ → List ℕ
named names branch name = sent_name (place_of names name) branch

abbrev pub renamed : unit.Unit → ℕ → List ℕ → List ℕ
renamed u = named (unit_names u)

-- ---- columns

-- the names that a row leaves free
abbrev pub free_among : List (List ℕ) → Bindings → List (List ℕ)
free_among names row = filter (λ name. is_none (term_of row name)) names

-- the variables of a unit that a row leaves free
abbrev pub free_names : unit.Unit → Bindings → List (List ℕ)
free_names u = free_among (unit_names u)

abbrev pub columns_by : ℕ → List (List ℕ) → List (List ℕ)
columns_by branch [] = check_name branch ∷ []
columns_by branch (name ∷ names) = name ∷ names

-- the columns of a branch: the other names of its free variables, or the one that it has where none is left
abbrev pub columns_of : unit.Unit → Place → List (List ℕ)
columns_of u b = columns_by b.number (map (renamed u b.number) (free_names u b.row.solution))

-- ---- rows of the answer

-- the solutions of a branch over a graph
abbrev pub branch_solutions : List Triple → unit.Unit → Place → List Bindings
branch_solutions graph u b =
    filtered (map (bound_expr (renamed u b.number) b.row.solution) u.filters) (bgp graph (map (bound_pattern (renamed u b.number) b.row.solution) u.patterns))

-- where no variable is left, a row says that the branch has a solution
abbrev pub checked_by : ℕ → List (List ℕ) → Bindings → Bindings
checked_by branch [] s = with_value s (check_name branch) (Some (integer (pos 1)))
checked_by branch (name ∷ names) s = s

-- the rows of the answer that are of a branch
abbrev pub branch_rows : List Triple → unit.Unit → Place → List Bindings
branch_rows graph u b = map (checked_by b.number (free_names u b.row.solution)) (branch_solutions graph u b)

-- ---- reading

abbrev pub binds_one : List (List ℕ) → Bindings → Bool
binds_one columns row = list_any (λ name. is_some (term_of row name)) columns

abbrev pub binds_all : List (List ℕ) → Bindings → Bool
binds_all columns row = list_all (λ name. is_some (term_of row name)) columns

abbrev pub all_columns : unit.Unit → List Place → List (List ℕ)
all_columns u bs = flat_map (columns_of u) bs

-- a row of these branches, those of which it binds a column
abbrev pub read_bound : unit.Unit → Bindings → List Place → Result Found RowFault
read_bound u row [] = Err Partial
read_bound u row (b ∷ []) = if binds_all (columns_of u b) row then Ok (record { branch = b.number; solution = told (renamed u b.number) (unit_names u) b.row.solution row }) else Err Partial
read_bound u row (b ∷ c ∷ bs) = Err Mixed

abbrev pub read_row : unit.Unit → List Place → Bindings → Result Found RowFault
read_row u bs row = if list_any (λ e. not (is_among (all_columns u bs) e.0)) row then Err Foreign else read_bound u row (filter (λ b. binds_one (columns_of u b) row) bs)

-- ---- laws

-- each column is a name
pub record AreColumnNames (variable branch : ℕ) : Type 0 where
  pub sent : IsName (sent_name variable branch)
  pub check : IsName (check_name branch)

abbrev pub ColumnsAreNames : Type 0
ColumnsAreNames = (variable branch : ℕ) → variable < 2 ^ 64 → branch < 2 ^ 64 → AreColumnNames variable branch

-- an answer's rows are read, each as what it tells of its branch
pub record AreRead (u : unit.Unit) (bs : List Place) (graph : List Triple) (answer : List Bindings) : Type 0 where
  pub founds : List Found
  pub read : map (read_row u bs) answer ≡ map Ok founds
  pub told_all : IsPermutation founds (flat_map (tells graph u) bs)

-- The rows of an answer, in any order, that are those of the branches of at most 64 rows tell exactly what the graph has for each.
abbrev pub AnswerTellsBranches : Type 0
AnswerTellsBranches = (graph : List Triple) (u : unit.Unit) (rows : List Row) (answer : List Bindings)
    → IsFit u
    → All (λ r. IsTrue (rises r.solution)) rows
    → length rows ≤ 64
    → length (unit_names u) < 2 ^ 64
    → IsPermutation answer (flat_map (branch_rows graph u) (branches u rows))
    → AreRead u (branches u rows) graph answer
