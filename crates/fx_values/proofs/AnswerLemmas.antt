-- What is read of the answers to a batch.
use Rattle.std.proofs.Common.{◌≡◌, ◌∙◌, ap, sym, subst, refl, inl, ℕ, suc, Bool, true, false, cond, List, [], ◌∷◌, ◌++◌, map, filter, Ok, Err, IfOk, IsTrue, IsPermutation, append_assoc, append-nil}
use Rattle.std.specs.Prelude.{Result, All, Contains}
use Rattle.std.specs.List.{AllByRecursion, flat_map}
use Rattle.std.proofs.lemmas.List.Elements.{All-from_recursion, recursion_from_All}
use Rattle.fx_terms.specs.declared.triples.Triple.{Triple}
use Rattle.fx_terms.proofs.SetLemmas.{Among, contains_from}
use Rattle.fx_algebra.specs.Solutions.{Bindings, rises}
use Rattle.fx_algebra.specs.declared.answers.Answer.{Answer}
use Rattle.fx_algebra.specs.declared.answers.Answer.TheVariants.{Table, Truth}
use Rattle.fx_algebra.specs.declared.units.Row.{Row}
use Rattle.fx_algebra.specs.declared.units.Unit as unit
use Rattle.fx_algebra.proofs.MemberLemmas.{among_from_map, among_map}
use Rattle.fx_founds.specs.Uniting.{Place, tells}
use Rattle.fx_founds.proofs.UnionLemmas.{in_kept}
use Rattle.fx_values.specs.Answers.{AnswersValues, IsAnswered, Tells, behind, in_front, numbered, numbers, read_answer, read_rows}
use Rattle.fx_values.specs.Parts.{IsKnown, IsValues, Parts}
use Rattle.fx_values.specs.Reading.{AreAnswered, AreRead, found_of, is_foreign, is_of, is_partial, located, located_by, read_row}
use Rattle.fx_values.specs.declared.faults.RowFault.{RowFault}
use Rattle.fx_values.specs.declared.faults.RowFault.TheVariants.{Foreign, Partial}
use Rattle.fx_values.specs.declared.faults.ValuesError.{ValuesError}
use Rattle.fx_values.specs.declared.faults.ValuesError.TheVariants as error
use Rattle.fx_values.specs.declared.located.Located.{Located}
use Rattle.fx_values.proofs.ReadingLemmas.{answer_tells_rows}

-- ---- rows, one after another

pub behind_one : (all : List Located) (f : Located) (more : Result (List Located) ValuesError) → behind all (behind (f ∷ []) more) ≡ behind (all ++ f ∷ []) more
behind_one all f (Ok more) = ap (λ (v : List Located). Ok v) (sym (append_assoc all (f ∷ []) more))
behind_one all f (Err e) = refl

pub behind_end : (all : List Located) → behind all (Ok []) ≡ Ok all
behind_end all = ap (λ (v : List Located). Ok v) (append-nil all)

-- rows that all tell something
pub rows_read : (read : Bindings → Result Located RowFault) (number : ℕ) (rows : List Bindings) (all : List Located) → map read rows ≡ map Ok all → read_rows read number rows ≡ Ok all
rows_read read number [] [] h = refl
rows_read read number [] (f ∷ fs) h = cc
rows_read read number (row ∷ rows) [] h = cc
rows_read read number (row ∷ rows) (f ∷ fs) h =
    let here : read row ≡ Ok f = cc in
    let rest : map read rows ≡ map Ok fs = cc in
    ap (λ v. in_front (numbered number v) (read_rows read (suc number) rows)) here ∙ ap (behind (f ∷ [])) (rows_read read (suc number) rows fs rest)

-- each of them is what a row told
told_each : (P : Located → Type 0) (read : Bindings → Result Located RowFault) → ((row : Bindings) (f : Located) → read row ≡ Ok f → P f)
    → (number : ℕ) (rows : List Bindings) (all : List Located) → read_rows read number rows ≡ Ok all → AllByRecursion P all
told_each P read each number [] [] h = tt
told_each P read each number [] (f ∷ fs) h = absurd (cc)
told_each P read each number (row ∷ rows) all h = by (told_each P read each (suc number) rows) (read row) refl (read_rows read (suc number) rows) refl h
  where
    by : ((fs : List Located) → read_rows read (suc number) rows ≡ Ok fs → AllByRecursion P fs) → (v : Result Located RowFault) → read row ≡ v → (more : Result (List Located) ValuesError) → read_rows read (suc number) rows ≡ more → in_front (numbered number v) more ≡ Ok all → AllByRecursion P all
    by rest (Ok f) e (Ok fs) g k =
        let both : f ∷ fs ≡ all = cc in
        subst (AllByRecursion P) both (each row f e, rest fs g)
    by rest (Ok f) e (Err x) g k = absurd (cc)
    by rest (Err x) e more g k = absurd (cc)

-- ---- the row of what a row tells

its_number : (u : unit.Unit) (t : Bindings) (bs : List Place) (l : Located) → located_by u t bs ≡ Ok l → Among l.row (map (λ (b : Place). b.number) bs)
its_number u t [] l h = absurd (cc)
its_number u t (b ∷ bs) l h = let same : located u t b ≡ l = cc in inl (ap (λ (v : Located). v.row) same)

-- numbers of places that were kept are numbers of places
kept_numbers : (p : Place → Bool) (bs : List Place) (n : ℕ) → Among n (map (λ (b : Place). b.number) (filter p bs)) → Among n (map (λ (b : Place). b.number) bs)
kept_numbers p bs n m = let b = among_from_map (λ (b : Place). b.number) n (filter p bs) m in subst (λ (v : ℕ). Among v (map (λ (c : Place). c.number) bs)) b.2 (among_map (λ (c : Place). c.number) b.0 bs (in_kept p b.0 bs b.1).0)

row_number : (p : Parts) (t : Bindings) (l : Located) → read_row p.unit p.places t ≡ Ok l → Contains (numbers p) l.row
row_number p t l h = by (is_foreign p.unit t) (is_partial p.unit t) h
  where
    by : (c d : Bool) → cond c (Err Foreign) (cond d (Err Partial) (located_by p.unit t (filter (is_of p.unit t) p.places))) ≡ Ok l → Contains (numbers p) l.row
    by true d k = absurd (cc)
    by false true k = absurd (cc)
    by false false k = contains_from (numbers p) l.row (kept_numbers (is_of p.unit t) p.places l.row (its_number p.unit t (filter (is_of p.unit t) p.places) l k))

-- what is read of an answer is of rows of the batch
numbers_known : (p : Parts) (answer : Answer) (all : List Located) → read_answer p answer ≡ Ok all → All (λ (l : Located). Contains (numbers p) l.row) all
numbers_known p (Table columns rows) all h =
    All-from_recursion (λ (l : Located). Contains (numbers p) l.row) all (told_each (λ l. Contains (numbers p) l.row) (read_row p.unit p.places) (row_number p) 0 rows all h)
numbers_known p (Truth truth) all h = absurd (cc)

pub all_of_rows : (p : Parts) (answer : Answer) (result : Result (List Located) ValuesError) → AnswersValues result (read_answer p answer) → IfOk result (λ all. All (λ (l : Located). Contains (numbers p) l.row) all)
all_of_rows p answer (Ok all) h = numbers_known p answer all h
all_of_rows p answer (Err e) h = tt

-- ---- the answer over a graph

rises_known : (rows : List Row) → AllByRecursion (λ r. IsKnown r.solution) rows → AllByRecursion (λ r. IsTrue (rises r.solution)) rows
rises_known [] h = tt
rises_known (r ∷ rows) h = (h.0.rising, rises_known rows h.1)

told_by_all : (p : Parts) (graph : List Triple) (rows : List Bindings) → IsValues p → AreAnswered graph p.unit p.places rows → AreRead graph p.unit p.places rows
told_by_all p graph rows known h =
    subst (λ (bs : List Place). AreRead graph p.unit bs rows) (sym known.asked)
    (answer_tells_rows graph p.unit known.rows rows known.fit
    (All-from_recursion (λ (r : Row). IsTrue (rises r.solution)) known.rows (rises_known known.rows (recursion_from_All (λ (r : Row). IsKnown r.solution) known.rows known.known))) known.few known.named
    (subst (λ (bs : List Place). AreAnswered graph p.unit bs rows) known.asked h))

told_is : (p : Parts) (graph : List Triple) (answer : Answer) (all : List Located) → IsValues p → IsAnswered graph p answer → read_answer p answer ≡ Ok all → IsPermutation (map found_of all) (flat_map (tells graph p.unit) p.places)
told_is p graph (Table columns rows) all known h e =
    let a = told_by_all p graph rows known h in
    let its : read_answer p (Table columns rows) ≡ Ok a.all = rows_read (read_row p.unit p.places) 0 rows a.all a.read in
    let same : a.all ≡ all = cc in
    subst (λ (v : List Located). IsPermutation (map found_of v) (flat_map (tells graph p.unit) p.places)) same a.told_all
told_is p graph (Truth truth) all known h e = absurd h

no_fault : (p : Parts) (graph : List Triple) (answer : Answer) (e : ValuesError) → IsValues p → IsAnswered graph p answer → read_answer p answer ≡ Err e → ⊥
no_fault p graph (Table columns rows) e known h k =
    let a = told_by_all p graph rows known h in
    let its : read_answer p (Table columns rows) ≡ Ok a.all = rows_read (read_row p.unit p.places) 0 rows a.all a.read in
    cc
no_fault p graph (Truth truth) e known h k = absurd h

-- an answer over a graph has no fault, and tells what the graph has
pub tells_graph : (p : Parts) (answer : Answer) (result : Result (List Located) ValuesError) → IsValues p → AnswersValues result (read_answer p answer) → (graph : List Triple) → IsAnswered graph p answer → Tells graph p result
tells_graph p answer (Ok all) known h graph k = told_is p graph answer all known k h
tells_graph p answer (Err error.Memory) known h graph k = tt
tells_graph p answer (Err error.NotTable) known h graph k = no_fault p graph answer error.NotTable known k h
tells_graph p answer (Err (error.Foreign row)) known h graph k = no_fault p graph answer (error.Foreign row) known k h
tells_graph p answer (Err (error.Partial row)) known h graph k = no_fault p graph answer (error.Partial row) known k h
tells_graph p answer (Err (error.Mixed row)) known h graph k = no_fault p graph answer (error.Mixed row) known k h

pub table_read : (p : Parts) (columns : List (List ℕ)) (slice rows : List Bindings) (answer : Answer) (result : Result (List Located) ValuesError)
    → AnswersValues result (read_rows (read_row p.unit p.places) 0 slice) → slice ≡ rows → answer ≡ Table columns rows → AnswersValues result (read_answer p answer)
table_read p columns slice rows answer result h same is =
    subst (λ (v : Answer). AnswersValues result (read_answer p v)) (sym is) (subst (λ (v : List Bindings). AnswersValues result (read_rows (read_row p.unit p.places) 0 v)) same h)
