-- What is read of the answers to a batch.
use Rattle.std.proofs.Common.{◌≡◌, ◌∙◌, ap, sym, subst, refl, inl, ℕ, suc, Bool, true, false, not, cond, List, [], ◌∷◌, ◌++◌, map, filter, Ok, Err, IfOk, IsTrue, IsPermutation, append_assoc, append-nil}
use Rattle.std.specs.Prelude.{Result, All, Contains}
use Rattle.std.specs.List.{AllByRecursion, flat_map, list_any}
use Rattle.std.proofs.lemmas.List.Elements.{All-from_recursion, recursion_from_All}
use Rattle.fx_terms.specs.declared.terms.Term.{Term}
use Rattle.fx_terms.specs.declared.triples.Triple.{Triple}
use Rattle.fx_terms.proofs.SetLemmas.{Among, contains_from}
use Rattle.fx_algebra.specs.Graphs.{union}
use Rattle.fx_algebra.specs.Scopes.{is_among}
use Rattle.fx_algebra.specs.Solutions.{Bindings, rises}
use Rattle.fx_algebra.specs.Units.{graph_of, step}
use Rattle.fx_algebra.specs.declared.answers.Answer.{Answer}
use Rattle.fx_algebra.specs.declared.answers.Answer.TheVariants.{Table, Truth}
use Rattle.fx_algebra.specs.declared.units.Row.{Row}
use Rattle.fx_algebra.specs.declared.units.Unit as unit
use Rattle.fx_algebra.proofs.MemberLemmas.{among_from_map, among_map}
use Rattle.fx_spelling.specs.Units.{IsSound}
use Rattle.fx_bound.specs.Answers.{AnswersBatch, AreReadOf, IsAnswered, Tells, behind, in_front, numbered, numbers, read_answer, read_rows}
use Rattle.fx_bound.specs.Batches.{AreAnswered}
use Rattle.fx_bound.specs.Parts.{IsBatch, IsKnown, Parts, places}
use Rattle.fx_bound.specs.Reading.{AreRead, all_columns, binds_all, binds_one, columns_of, read_bound, read_row}
use Rattle.fx_founds.specs.Uniting.{AreAll, AreToldBy, Place, tells, united}
use Rattle.fx_bound.specs.declared.faults.BatchError.{BatchError}
use Rattle.fx_bound.specs.declared.faults.BatchError.TheVariants as error
use Rattle.fx_bound.specs.declared.faults.RowFault.{RowFault}
use Rattle.fx_bound.specs.declared.faults.RowFault.TheVariants.{Foreign, Partial}
use Rattle.fx_founds.specs.declared.founds.Found.{Found}
use Rattle.fx_bound.proofs.BatchLemmas.{answer_read_as}
use Rattle.fx_bound.proofs.SentLemmas.{found_of}
use Rattle.fx_founds.proofs.UnionLemmas.{in_kept}
use Rattle.fx_founds.proofs.UniteLemmas.{united_is_the_step}

-- ---- rows, one after another

pub behind_one : (founds : List Found) (f : Found) (more : Result (List Found) BatchError) → behind founds (behind (f ∷ []) more) ≡ behind (founds ++ f ∷ []) more
behind_one founds f (Ok more) = ap (λ (v : List Found). Ok v) (sym (append_assoc founds (f ∷ []) more))
behind_one founds f (Err e) = refl

pub behind_end : (founds : List Found) → behind founds (Ok []) ≡ Ok founds
behind_end founds = ap (λ (v : List Found). Ok v) (append-nil founds)

-- rows that all tell something
pub all_read : (read : Bindings → Result Found RowFault) (number : ℕ) (rows : List Bindings) (founds : List Found) → map read rows ≡ map Ok founds → read_rows read number rows ≡ Ok founds
all_read read number [] [] h = refl
all_read read number [] (f ∷ fs) h = cc
all_read read number (row ∷ rows) [] h = cc
all_read read number (row ∷ rows) (f ∷ fs) h =
    let here : read row ≡ Ok f = cc in
    let rest : map read rows ≡ map Ok fs = cc in
    ap (λ v. in_front (numbered number v) (read_rows read (suc number) rows)) here ∙ ap (behind (f ∷ [])) (all_read read (suc number) rows fs rest)

-- each of them is what a row told
told_each : (P : Found → Type 0) (read : Bindings → Result Found RowFault) → ((row : Bindings) (f : Found) → read row ≡ Ok f → P f)
    → (number : ℕ) (rows : List Bindings) (founds : List Found) → read_rows read number rows ≡ Ok founds → AllByRecursion P founds
told_each P read each number [] [] h = tt
told_each P read each number [] (f ∷ fs) h = absurd (cc)
told_each P read each number (row ∷ rows) founds h = by (told_each P read each (suc number) rows) (read row) refl (read_rows read (suc number) rows) refl h
  where
    by : ((fs : List Found) → read_rows read (suc number) rows ≡ Ok fs → AllByRecursion P fs) → (v : Result Found RowFault) → read row ≡ v → (more : Result (List Found) BatchError) → read_rows read (suc number) rows ≡ more → in_front (numbered number v) more ≡ Ok founds → AllByRecursion P founds
    by rest (Ok f) e (Ok fs) g k =
        let both : f ∷ fs ≡ founds = cc in
        subst (AllByRecursion P) both (each row f e, rest fs g)
    by rest (Ok f) e (Err x) g k = absurd (cc)
    by rest (Err x) e more g k = absurd (cc)

-- ---- the branch of what a row tells

its_number : (u : unit.Unit) (t : Bindings) (bs : List Place) (f : Found) → read_bound u t bs ≡ Ok f → Among f.branch (map (λ (b : Place). b.number) bs)
its_number u t [] f h = absurd (cc)
its_number u t (b ∷ []) f h = by (binds_all (columns_of u b) t) h
  where
    by : (c : Bool) → cond c (Ok (found_of u t b)) (Err Partial) ≡ Ok f → Among f.branch (b.number ∷ [])
    by true k = let same : found_of u t b ≡ f = cc in inl (ap (λ (v : Found). v.branch) same)
    by false k = absurd (cc)
its_number u t (b ∷ c ∷ bs) f h = absurd (cc)

row_number : (p : Parts) (t : Bindings) (f : Found) → read_row p.unit (places p) t ≡ Ok f → Contains (numbers p) f.branch
row_number p t f h = by (list_any (λ (e : List ℕ × Term). not (is_among (all_columns p.unit (places p)) e.0)) t) h
  where
    by : (c : Bool) → cond c (Err Foreign) (read_bound p.unit t (filter (λ b. binds_one (columns_of p.unit b) t) (places p))) ≡ Ok f → Contains (numbers p) f.branch
    by true k = absurd (cc)
    by false k =
        let bs = places p in
        let m = its_number p.unit t (filter (λ b. binds_one (columns_of p.unit b) t) bs) f k in
        let b = among_from_map (λ (b : Place). b.number) f.branch (filter (λ b. binds_one (columns_of p.unit b) t) bs) m in
        let there = (in_kept (λ (b : Place). binds_one (columns_of p.unit b) t) b.0 bs b.1).0 in
        contains_from (numbers p) f.branch (subst (λ (v : ℕ). Among v (numbers p)) b.2 (among_map (λ (b : Place). b.number) b.0 bs there))

-- what is read of an answer is of branches of the batch
pub numbers_known : (p : Parts) (answer : Answer) (founds : List Found) → read_answer p answer ≡ Ok founds → All (λ (f : Found). Contains (numbers p) f.branch) founds
numbers_known p (Table columns rows) founds h =
    All-from_recursion (λ (f : Found). Contains (numbers p) f.branch) founds (told_each (λ f. Contains (numbers p) f.branch) (read_row p.unit (places p)) (row_number p) 0 rows founds h)
numbers_known p (Truth truth) founds h = absurd (cc)

-- ---- the answer over a graph

rises_known : (rows : List Row) → AllByRecursion (λ r. IsKnown r.solution) rows → AllByRecursion (λ r. IsTrue (rises r.solution)) rows
rises_known [] h = tt
rises_known (r ∷ rows) h = (h.0.rising, rises_known rows h.1)

pub rows_rise : (p : Parts) → IsBatch p → All (λ (r : Row). IsTrue (rises r.solution)) p.rows
rows_rise p known = All-from_recursion (λ (r : Row). IsTrue (rises r.solution)) p.rows (rises_known p.rows (recursion_from_All (λ (r : Row). IsKnown r.solution) p.rows known.known))

told_by_all : (p : Parts) (graph : List Triple) (rows : List Bindings) → IsBatch p → AreAnswered graph p.unit (places p) rows → AreRead p.unit (places p) graph rows
told_by_all p graph rows known h = answer_read_as [] p.unit p.rows known.fit (rows_rise p known) known.few known.named graph rows h

pub told_is : (p : Parts) (graph : List Triple) (answer : Answer) (founds : List Found) → IsBatch p → IsAnswered graph p answer → read_answer p answer ≡ Ok founds → IsPermutation founds (flat_map (tells graph p.unit) (places p))
told_is p graph (Table columns rows) founds known h e =
    let a = told_by_all p graph rows known h in
    let its : read_answer p (Table columns rows) ≡ Ok a.founds = all_read (read_row p.unit (places p)) 0 rows a.founds a.read in
    let same : a.founds ≡ founds = cc in
    subst (λ (v : List Found). IsPermutation v (flat_map (tells graph p.unit) (places p))) same a.told_all
told_is p graph (Truth truth) founds known h e = absurd h

no_fault : (p : Parts) (graph : List Triple) (answer : Answer) (e : BatchError) → IsBatch p → IsAnswered graph p answer → read_answer p answer ≡ Err e → ⊥
no_fault p graph (Table columns rows) e known h k =
    let a = told_by_all p graph rows known h in
    let its : read_answer p (Table columns rows) ≡ Ok a.founds = all_read (read_row p.unit (places p)) 0 rows a.founds a.read in
    cc
no_fault p graph (Truth truth) e known h k = absurd h

-- an answer over a graph has no fault, and tells what the graph has
pub tells_graph : (p : Parts) (answer : Answer) (result : Result (List Found) BatchError) → IsBatch p → AnswersBatch result (read_answer p answer) → (graph : List Triple) → IsAnswered graph p answer → Tells graph p result
tells_graph p answer (Ok founds) known h graph k = told_is p graph answer founds known k h
tells_graph p answer (Err error.Memory) known h graph k = tt
tells_graph p answer (Err error.NotTable) known h graph k = no_fault p graph answer error.NotTable known k h
tells_graph p answer (Err (error.Foreign row)) known h graph k = no_fault p graph answer (error.Foreign row) known k h
tells_graph p answer (Err (error.Mixed row)) known h graph k = no_fault p graph answer (error.Mixed row) known k h
tells_graph p answer (Err (error.Partial row)) known h graph k = no_fault p graph answer (error.Partial row) known k h

-- ---- the answers of members

record AreTold (graphs : List (List Triple)) (p : Parts) (members : List ℕ) (lists : List (List Found)) : Type 0 where
  told : AreToldBy graphs p.unit (places p) members lists
  all : AreAll members lists

are_told : (graphs : List (List Triple)) (p : Parts) → IsBatch p → (members : List ℕ) (lists : List (List Found)) → AreReadOf graphs p members lists → AreTold graphs p members lists
are_told graphs p known [] [] h = record { told = tt; all = tt }
are_told graphs p known [] (list ∷ lists) h = absurd h
are_told graphs p known (at ∷ members) [] h = absurd h
are_told graphs p known (at ∷ members) (list ∷ lists) h =
    let rest = are_told graphs p known members lists h.1 in
    record { told = (told_is p (graph_of graphs at) h.0.answer list known h.0.answered h.0.read, rest.told); all = rest.all }

-- what is read of the answers of a sound unit's members unites to the step
pub united_step : (p : Parts) (lists : List (List Found)) → IsBatch p → (graphs : List (List Triple)) → IsSound graphs p.unit → AreReadOf graphs p p.unit.members lists → IsPermutation (united (places p) lists) (step (union graphs) p.unit p.rows)
united_step p lists known graphs sound h =
    let t = are_told graphs p known p.unit.members lists h in
    united_is_the_step graphs p.unit p.rows lists sound (rows_rise p known) t.told t.all

pub stepped : {V E : Type 0} (items : V → List Row) (result : Result V E) (rows others : List Row) → IfOk result (λ v. items v ≡ rows) → IsPermutation rows others → IfOk result (λ v. IsPermutation (items v) others)
stepped items (Ok v) rows others e h = subst (λ (w : List Row). IsPermutation w others) (sym e) h
stepped items (Err e) rows others h k = tt

pub all_of_branches : (p : Parts) (answer : Answer) (result : Result (List Found) BatchError) → AnswersBatch result (read_answer p answer) → IfOk result (λ founds. All (λ (f : Found). Contains (numbers p) f.branch) founds)
all_of_branches p answer (Ok founds) h = numbers_known p answer founds h
all_of_branches p answer (Err e) h = tt

pub table_read : (p : Parts) (columns : List (List ℕ)) (slice rows : List Bindings) (answer : Answer) (result : Result (List Found) BatchError)
    → AnswersBatch result (read_rows (read_row p.unit (places p)) 0 slice) → slice ≡ rows → answer ≡ Table columns rows → AnswersBatch result (read_answer p answer)
table_read p columns slice rows answer result h same is =
    subst (λ (v : Answer). AnswersBatch result (read_answer p v)) (sym is) (subst (λ (v : List Bindings). AnswersBatch result (read_rows (read_row p.unit (places p)) 0 v)) same h)
