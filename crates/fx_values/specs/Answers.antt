-- What is read of the answer to a batch.
use Rattle.std.specs.Prelude.{◌≡◌, ℕ, List, [], ◌∷◌, ◌++◌, map, Result, Ok, Err, IsPermutation}
use Rattle.std.specs.List.{flat_map}
use Rattle.std.proofs.Common.{suc}
use Rattle.fx_terms.specs.declared.triples.Triple.{Triple}
use Rattle.fx_algebra.specs.Solutions.{Bindings}
use Rattle.fx_algebra.specs.declared.answers.Answer.{Answer}
use Rattle.fx_algebra.specs.declared.answers.Answer.TheVariants.{Table, Truth}
use Rattle.fx_founds.specs.Uniting.{tells}
use Rattle.fx_values.specs.Parts.{Parts}
use Rattle.fx_values.specs.Reading.{AreAnswered, found_of, read_row}
use Rattle.fx_values.specs.declared.faults.RowFault.{RowFault}
use Rattle.fx_values.specs.declared.faults.RowFault.TheVariants.{Foreign, Partial, Mixed}
use Rattle.fx_values.specs.declared.faults.ValuesError.{ValuesError}
use Rattle.fx_values.specs.declared.faults.ValuesError.TheVariants as error
use Rattle.fx_values.specs.declared.located.Located.{Located}

-- ---- the answer, read

abbrev pub fault_at : ℕ → RowFault → ValuesError
fault_at number Foreign = error.Foreign number
fault_at number Partial = error.Partial number
fault_at number Mixed = error.Mixed number

-- the fault of a row, with its number
abbrev pub numbered : ℕ → Result Located RowFault → Result Located ValuesError
numbered number (Ok l) = Ok l
numbered number (Err fault) = Err (fault_at number fault)

-- what rows tell, behind what was told before
abbrev pub behind : List Located → Result (List Located) ValuesError → Result (List Located) ValuesError
behind all (Ok more) = Ok (all ++ more)
behind all (Err e) = Err e

abbrev pub in_front : Result Located ValuesError → Result (List Located) ValuesError → Result (List Located) ValuesError
in_front (Ok l) more = behind (l ∷ []) more
in_front (Err e) more = Err e

-- what each row tells, in their order, or the first fault with the number of its row
abbrev pub read_rows : (Bindings → Result Located RowFault) → ℕ → List Bindings → Result (List Located) ValuesError
read_rows read number [] = Ok []
read_rows read number (row ∷ rows) = in_front (numbered number (read row)) (read_rows read (suc number) rows)

abbrev pub read_answer : Parts → Answer → Result (List Located) ValuesError
read_answer p (Table columns rows) = read_rows (read_row p.unit p.places) 0 rows
read_answer p (Truth truth) = Err error.NotTable

-- unless memory ran out, the answer is the wanted one
abbrev pub AnswersValues : {X : Type 0} → Result X ValuesError → Result X ValuesError → Type 0
AnswersValues (Ok x) wanted = wanted ≡ Ok x
AnswersValues (Err error.Memory) wanted = Unit {0}
AnswersValues (Err e) wanted = wanted ≡ Err e

-- ---- an answer of the batch over a graph

-- a table of the rows that the batch's query has over the graph, in any order
abbrev pub IsAnswered : List Triple → Parts → Answer → Type 0
IsAnswered graph p (Table columns rows) = AreAnswered graph p.unit p.places rows
IsAnswered graph p (Truth truth) = ⊥

-- what is read of it, as what was found for branches, is what the graph has for each of the rows, in some order
abbrev pub Tells : List Triple → Parts → Result (List Located) ValuesError → Type 0
Tells graph p (Ok all) = IsPermutation (map found_of all) (flat_map (tells graph p.unit) p.places)
Tells graph p (Err error.Memory) = Unit {0}
Tells graph p (Err e) = ⊥

-- the numbers of its rows
abbrev pub numbers : Parts → List ℕ
numbers p = map (λ b. b.number) p.places
