-- What is read of the answer of a batch, and what is united of that.
use Rattle.std.specs.Prelude.{◌≡◌, ℕ, List, [], ◌∷◌, ◌++◌, Result, Ok, Err, IsPermutation}
use Rattle.std.specs.List.{flat_map}
use Rattle.std.proofs.Common.{suc}
use Rattle.fx_terms.specs.declared.triples.Triple.{Triple}
use Rattle.fx_algebra.specs.Solutions.{Bindings}
use Rattle.fx_algebra.specs.Units.{graph_of}
use Rattle.fx_algebra.specs.declared.answers.Answer.{Answer}
use Rattle.fx_algebra.specs.declared.answers.Answer.TheVariants.{Table, Truth}
use Rattle.fx_bound.specs.Batches.{AreAnswered}
use Rattle.fx_bound.specs.Parts.{Parts, places}
use Rattle.fx_bound.specs.Reading.{read_row}
use Rattle.fx_founds.specs.Uniting.{numbers_of, tells}
use Rattle.fx_bound.specs.declared.faults.BatchError.{BatchError}
use Rattle.fx_bound.specs.declared.faults.BatchError.TheVariants as error
use Rattle.fx_bound.specs.declared.faults.RowFault.{RowFault}
use Rattle.fx_bound.specs.declared.faults.RowFault.TheVariants.{Foreign, Mixed, Partial}
use Rattle.fx_founds.specs.declared.founds.Found.{Found}

-- ---- the answer, read

abbrev pub fault_at : ℕ → RowFault → BatchError
fault_at number Foreign = error.Foreign number
fault_at number Mixed = error.Mixed number
fault_at number Partial = error.Partial number

-- the fault of a row, with its number
abbrev pub numbered : ℕ → Result Found RowFault → Result Found BatchError
numbered number (Ok found) = Ok found
numbered number (Err fault) = Err (fault_at number fault)

-- what is found in rows, behind what was found before
abbrev pub behind : List Found → Result (List Found) BatchError → Result (List Found) BatchError
behind founds (Ok more) = Ok (founds ++ more)
behind founds (Err e) = Err e

abbrev pub in_front : Result Found BatchError → Result (List Found) BatchError → Result (List Found) BatchError
in_front (Ok found) more = behind (found ∷ []) more
in_front (Err e) more = Err e

-- what each row tells, in their order, or the first fault with the number of its row
abbrev pub read_rows : (Bindings → Result Found RowFault) → ℕ → List Bindings → Result (List Found) BatchError
read_rows read number [] = Ok []
read_rows read number (row ∷ rows) = in_front (numbered number (read row)) (read_rows read (suc number) rows)

abbrev pub read_answer : Parts → Answer → Result (List Found) BatchError
read_answer p (Table columns rows) = read_rows (read_row p.unit (places p)) 0 rows
read_answer p (Truth truth) = Err error.NotTable

-- unless memory ran out, the answer is the wanted one
abbrev pub AnswersBatch : {X : Type 0} → Result X BatchError → Result X BatchError → Type 0
AnswersBatch (Ok x) wanted = wanted ≡ Ok x
AnswersBatch (Err error.Memory) wanted = Unit {0}
AnswersBatch (Err e) wanted = wanted ≡ Err e

-- ---- an answer of the batch over a graph

-- a table of the rows that the batch's query has over the graph, in any order
abbrev pub IsAnswered : List Triple → Parts → Answer → Type 0
IsAnswered graph p (Table columns rows) = AreAnswered graph p.unit (places p) rows
IsAnswered graph p (Truth truth) = ⊥

-- what is read of it is what the graph has for each branch, in some order
abbrev pub Tells : List Triple → Parts → Result (List Found) BatchError → Type 0
Tells graph p (Ok founds) = IsPermutation founds (flat_map (tells graph p.unit) (places p))
Tells graph p (Err error.Memory) = Unit {0}
Tells graph p (Err e) = ⊥

-- ---- what is united

-- what is read of an answer of the batch over a graph
pub record IsRead (graph : List Triple) (p : Parts) (founds : List Found) : Type 0 where
  pub answer : Answer
  pub answered : IsAnswered graph p answer
  pub read : read_answer p answer ≡ Ok founds

-- one list for each member: what is read of its answer
abbrev pub AreReadOf : List (List Triple) → Parts → List ℕ → List (List Found) → Type 0
AreReadOf graphs p [] [] = Unit {0}
AreReadOf graphs p [] (list ∷ lists) = ⊥
AreReadOf graphs p (at ∷ members) [] = ⊥
AreReadOf graphs p (at ∷ members) (list ∷ lists) = IsRead (graph_of graphs at) p list × AreReadOf graphs p members lists

-- the numbers of its branches
abbrev pub numbers : Parts → List ℕ
numbers p = numbers_of p.unit p.rows
