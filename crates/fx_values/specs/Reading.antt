-- What a row of the answer tells, and of which row.
use Rattle.std.specs.Prelude.{◌≡◌, ◌<◌, ◌≤◌, ◌^◌, Bool, true, false, not, ◌&&◌, if◌then◌else◌, List, [], ◌∷◌, map, filter, length, Option, Some, None, is_none, Result, Ok, Err, pos, All, IsTrue, IsPermutation}
use Rattle.std.specs.List.{flat_map, list_all, list_any}
use Rattle.fx_terms.specs.declared.terms.Term.{Term}
use Rattle.fx_terms.specs.declared.triples.Triple.{Triple}
use Rattle.fx_algebra.specs.Answers.{answer_alone}
use Rattle.fx_algebra.specs.Scopes.{is_among}
use Rattle.fx_algebra.specs.Solutions.{Bindings, rises, same_term, term_of}
use Rattle.fx_algebra.specs.Units.{step}
use Rattle.fx_algebra.specs.Values.{integer}
use Rattle.fx_algebra.specs.declared.answers.Answer.TheVariants.{Table}
use Rattle.fx_algebra.specs.declared.units.Row.{Row}
use Rattle.fx_algebra.specs.declared.units.Unit as unit
use Rattle.fx_spelling.specs.Units.{IsFit}
use Rattle.fx_renaming.specs.Branches.{told}
use Rattle.fx_founds.specs.Uniting.{Place, branches, row_by, tells}
use Rattle.fx_founds.specs.declared.founds.Found.{Found}
use Rattle.fx_values.specs.Values.{columns, number_name, renamed, unit_names, values_query}
use Rattle.fx_values.specs.declared.faults.RowFault.{RowFault}
use Rattle.fx_values.specs.declared.faults.RowFault.TheVariants.{Foreign, Partial, Mixed}
use Rattle.fx_values.specs.declared.located.Located.{Located}

-- ---- reading

-- a row binds a name that is no column
abbrev pub is_foreign : unit.Unit → Bindings → Bool
is_foreign u t = list_any (λ e. not (is_among (columns u) e.0)) t

-- it leaves a column unbound
abbrev pub is_partial : unit.Unit → Bindings → Bool
is_partial u t = list_any (λ name. is_none (term_of t name)) (columns u)

-- what is bound is this term
abbrev pub is_that : Term → Option Term → Bool
is_that own None = false
is_that own (Some term) = same_term own term

-- the same where there is a term
abbrev pub is_own : Option Term → Option Term → Bool
is_own None bound = true
is_own (Some own) bound = is_that own bound

-- it has the number of a row that was sent, and under the other name of each variable the row's own term, where the row has one
abbrev pub is_of : unit.Unit → Bindings → Place → Bool
is_of u t b =
    is_that (integer (pos b.number)) (term_of t number_name)
    && list_all (λ name. is_own (term_of b.row.solution name) (term_of t (renamed u name))) (unit_names u)

-- what it tells of that row: the row with the terms under the unit's own names
abbrev pub located : unit.Unit → Bindings → Place → Located
located u t b = record { row = b.number; solution = told (renamed u) (unit_names u) b.row.solution t }

abbrev pub located_by : unit.Unit → Bindings → List Place → Result Located RowFault
located_by u t [] = Err Mixed
located_by u t (b ∷ bs) = Ok (located u t b)

abbrev pub read_row : unit.Unit → List Place → Bindings → Result Located RowFault
read_row u bs t = if is_foreign u t then Err Foreign else (if is_partial u t then Err Partial else located_by u t (filter (is_of u t) bs))

-- a located row as what was found for the branch of its number
abbrev pub found_of : Located → Found
found_of l = record { branch = l.row; solution = l.solution }

-- ---- laws

-- rows, in any order, of the answer over a graph
pub record AreAnswered (graph : List Triple) (u : unit.Unit) (bs : List Place) (rows : List Bindings) : Type 0 where
  pub told_rows : List Bindings
  pub answer_is : answer_alone (values_query u bs) graph ≡ Table (columns u) told_rows
  pub same : IsPermutation rows told_rows

-- they are read, each without a fault, and tell what the graph has
pub record AreRead (graph : List Triple) (u : unit.Unit) (bs : List Place) (rows : List Bindings) : Type 0 where
  pub all : List Located
  pub read : map (read_row u bs) rows ≡ map Ok all
  pub told_all : IsPermutation (map found_of all) (flat_map (tells graph u) bs)

-- The rows of the answer over a graph that asks for at most 64 rows, in any order, tell exactly what the graph has for each of these.
abbrev pub AnswerTellsRows : Type 0
AnswerTellsRows = (graph : List Triple) (u : unit.Unit) (rows : List Row) (answer : List Bindings)
    → IsFit u
    → All (λ r. IsTrue (rises r.solution)) rows
    → length rows ≤ 64
    → length (unit_names u) < 2 ^ 64
    → AreAnswered graph u (branches u rows) answer
    → AreRead graph u (branches u rows) answer

-- as rows between two units they are what the unit makes of the rows
pub record AreTheStep (graph : List Triple) (u : unit.Unit) (rows : List Row) (answer : List Bindings) : Type 0 where
  pub all : List Located
  pub read : map (read_row u (branches u rows)) answer ≡ map Ok all
  pub step_is : IsPermutation (map (λ l. row_by rows (found_of l)) all) (step graph u rows)

-- Each under the number that its row came with, what these rows tell is the unit's step over the graph.
abbrev pub AnswerIsTheStep : Type 0
AnswerIsTheStep = (graph : List Triple) (u : unit.Unit) (rows : List Row) (answer : List Bindings)
    → IsFit u
    → All (λ r. IsTrue (rises r.solution)) rows
    → length rows ≤ 64
    → length (unit_names u) < 2 ^ 64
    → AreAnswered graph u (branches u rows) answer
    → AreTheStep graph u rows answer
