-- What was found for tasks in turn, and the rows of groups by that.
use Rattle.std.proofs.Common.{◌≡◌, ◌∙◌, ap, sym, subst, refl, ℕ, ◌+◌, ◌<◌, List, [], ◌∷◌, ◌++◌, drop, get_or, length, IfOk, Result, Ok, Err, append_assoc, append-nil, IsPermutation, arith}
use Rattle.std.proofs.lemmas.List.{drop_more, map-append}
use Rattle.std.proofs.lemmas.List.Sorted.{IsPermutation-append, IsPermutation-append_comm, IsPermutation-refl, IsPermutation-trans}
use Rattle.std.specs.declared.alloc.Global.{Global}
use Rattle.std.specs.declared.vec.Vec.{Vec}
use Rattle.fx_algebra.specs.Operators.{filtered}
use Rattle.fx_algebra.specs.Solutions.{Bindings}
use Rattle.fx_algebra.specs.declared.queries.Group.{Group}
use Rattle.fx_algebra.specs.declared.units.Row.{Row}
use Rattle.fx_flows.specs.declared.flows.FlowError.{FlowError}
use Rattle.fx_flows.specs.declared.flows.FlowError.TheVariants as flow
use Rattle.fx_steps.specs.Steps.{solutions_of}
use Rattle.fx_steps.proofs.FewerLemmas.{fewer_laws}
use Rattle.fx_walks.specs.SectionSteps.{group_of}
use Rattle.fx_engine.specs.Together.{AreFounds, IsFoundBy, founds_by, rows_of_one, rows_of_runs, with_first}
use Rattle.fx_engine.specs.declared.rows.RowsError.{RowsError}
use Rattle.fx_engine.specs.declared.rows.RowsError.TheVariants as rows_error
use Rattle.fx_walks.specs.declared.tasks.Task.{Task}
use Rattle.fx_walks.proofs.FrontLemmas.{next_task}

-- rows for some tasks in front of those of the others, unless these were refused
abbrev pub with_those : List (List Row) → Result (List (List Row)) FlowError → Result (List (List Row)) FlowError
with_those founds (Ok more) = Ok (founds ++ more)
with_those founds (Err e) = Err e

pub with_none : (r : Result (List (List Row)) FlowError) → with_those [] r ≡ r
with_none (Ok more) = refl
with_none (Err e) = refl

pub with_one_more : (founds : List (List Row)) (found : List Row) (r : Result (List (List Row)) FlowError) → with_those founds (with_first found r) ≡ with_those (founds ++ found ∷ []) r
with_one_more founds found (Ok more) = ap (λ (v : List (List Row)). Ok v) (sym (append_assoc founds (found ∷ []) more))
with_one_more founds found (Err e) = refl

pub refused_by : (f : Result (List (List Row)) FlowError) (e : FlowError) → f ≡ Err e → AreFounds f (Err (rows_error.Flow e))
refused_by f e is = subst (λ (v : Result (List (List Row)) FlowError). AreFounds v (Err (rows_error.Flow e))) (sym is) (by e)
  where
    by : (why : FlowError) → AreFounds (Err why) (Err (rows_error.Flow why))
    by (flow.Member at) = refl
    by (flow.BadReply at bad) = refl
    by (flow.RequestTooLong at size) = refl
    by flow.Memory = tt

pub lacking : (f : Result (List (List Row)) FlowError) → AreFounds f (Err (rows_error.Flow flow.Memory))
lacking (Ok founds) = tt
lacking (Err e) = tt

-- one more of the tasks was come to
pub found_more : (its : List Task) (at : ℕ) (t : Task) (founds pushed : List (List Row)) (found : List Row) (old new : List (Result (List Row) FlowError)) (whole : Result (List (List Row)) FlowError) → at < length its → t ≡ get_or its at t → pushed ≡ founds ++ found ∷ []
    → IsFoundBy t old new (Ok found) → with_those founds (founds_by (drop at its) old) ≡ whole → with_those pushed (founds_by (drop (at + 1) its) new) ≡ whole
found_more its at t founds pushed found old new whole below is push by so =
    let others = drop (at + 1) its in
    ap (λ (v : List (List Row)). with_those v (founds_by others new)) push
    ∙ sym (with_one_more founds found (founds_by others new))
    ∙ ap (with_those founds) (sym (by others))
    ∙ ap (λ (v : List Task). with_those founds (founds_by v old)) (sym (next_task its at t below is))
    ∙ so

-- or refused
pub found_refused : (its : List Task) (at : ℕ) (t : Task) (founds : List (List Row)) (e : FlowError) (old new : List (Result (List Row) FlowError)) (whole : Result (List (List Row)) FlowError) → at < length its → t ≡ get_or its at t
    → IsFoundBy t old new (Err e) → with_those founds (founds_by (drop at its) old) ≡ whole → whole ≡ Err e
found_refused its at t founds e old new whole below is by so =
    sym so ∙ ap (λ (v : List Task). with_those founds (founds_by v old)) (next_task its at t below is) ∙ ap (with_those founds) (by (drop (at + 1) its))

-- ---- solutions, the last first

pub popped : (rows pushed : List Bindings) (old new : List Row) (r : Row) (whole : List Bindings) → old ≡ new ++ r ∷ [] → pushed ≡ rows ++ r.solution ∷ [] → IsPermutation (rows ++ solutions_of old) whole → IsPermutation (pushed ++ solutions_of new) whole
popped rows pushed old new r whole parts push so =
    let last = r.solution ∷ [] in
    let news = solutions_of new in
    let olds : solutions_of old ≡ news ++ last = ap solutions_of parts ∙ map-append (λ (x : Row). x.solution) new (r ∷ []) in
    let moved : IsPermutation (rows ++ (last ++ news)) (rows ++ (news ++ last)) = IsPermutation-append rows rows (last ++ news) (news ++ last) (IsPermutation-refl rows) (IsPermutation-append_comm last news) in
    subst (λ (v : List Bindings). IsPermutation (v ++ news) whole) (sym push)
    (subst (λ (v : List Bindings). IsPermutation v whole) (sym (append_assoc rows last news))
    (IsPermutation-trans (rows ++ (last ++ news)) (rows ++ (news ++ last)) whole moved (subst (λ (v : List Bindings). IsPermutation (rows ++ v) whole) olds so)))

pub all_popped : (rows : List Bindings) (left : List Row) (whole : List Bindings) → left ≡ [] → IsPermutation (rows ++ solutions_of left) whole → IsPermutation rows whole
all_popped rows left whole none so =
    subst (λ (v : List Bindings). IsPermutation v whole) (append-nil rows) (subst (λ (v : List Row). IsPermutation (rows ++ solutions_of v) whole) none so)

-- ---- the rows of groups

pub rows_of_none : (gs : List Group) → rows_of_runs gs [] ≡ []
rows_of_none [] = refl
rows_of_none (g ∷ gs) = refl

-- those of one more
pub rows_more : (gs : List Group) (g : Group) (found : List Row) (founds : List (List Row)) (rows more whole : List Bindings) → IsPermutation more (rows_of_one g found)
    → ((all : List Bindings) → IsPermutation all (rows_of_runs (g ∷ gs) (found ∷ founds)) → IsPermutation (rows ++ all) whole)
    → (all : List Bindings) → IsPermutation all (rows_of_runs gs founds) → IsPermutation ((rows ++ more) ++ all) whole
rows_more gs g found founds rows more whole p f = λ all q.
    subst (λ (v : List Bindings). IsPermutation v whole) (sym (append_assoc rows more all)) (f (more ++ all) (IsPermutation-append more (rows_of_one g found) all (rows_of_runs gs founds) p q))

pub rows_whole : (rows whole : List Bindings) → ((all : List Bindings) → IsPermutation all [] → IsPermutation (rows ++ all) whole) → IsPermutation rows whole
rows_whole rows whole f = subst (λ (v : List Bindings). IsPermutation v whole) (append-nil rows) (f [] (IsPermutation-refl []))

-- its filters applied to the solutions in another order
pub filtered_so : (g : Group) (found : List Row) (solutions : List Bindings) → IsPermutation solutions (solutions_of found) → (r : Result (Vec Bindings Global) RowsError) → IfOk r (λ rows. rows.items ≡ filtered (group_of g).filters solutions)
    → IfOk r (λ rows. IsPermutation rows.items (rows_of_one g found))
filtered_so g found solutions p (Ok rows) is =
    let conditions = (group_of g).filters in
    subst (λ (v : List Bindings). IsPermutation v (rows_of_one g found)) (sym is) (fewer_laws.at_the_end conditions solutions (solutions_of found) (fewer_laws.none conditions solutions (solutions_of found) p))
filtered_so g found solutions p (Err e) is = tt

-- one more of the groups was gone through
pub groups_go_on : (gs : List Group) (at : ℕ) (g : Group) (found : List Row) (old new : List (List Row)) (rows more appended whole : List Bindings) → at < length gs → g ≡ get_or gs at g → old ≡ found ∷ new → appended ≡ rows ++ more → IsPermutation more (rows_of_one g found)
    → ((all : List Bindings) → IsPermutation all (rows_of_runs (drop at gs) old) → IsPermutation (rows ++ all) whole)
    → (all : List Bindings) → IsPermutation all (rows_of_runs (drop (at + 1) gs) new) → IsPermutation (appended ++ all) whole
groups_go_on gs at g found old new rows more appended whole below is taken append p so = λ all q.
    let others = drop (at + 1) gs in
    let first : drop at gs ≡ g ∷ others = drop_more gs at g below ∙ ap (λ (v : Group). v ∷ others) (sym is) in
    subst (λ (v : List Bindings). IsPermutation (v ++ all) whole) (sym append)
    (rows_more others g found new rows more whole p
    (λ all q. so all (subst (λ (v : List (List Row)). IsPermutation all (rows_of_runs (drop at gs) v)) (sym taken) (subst (λ (v : List Group). IsPermutation all (rows_of_runs v (found ∷ new))) (sym first) q)))
    all q)

pub nothing_left : {X : Type 0} (xs : List X) → length xs ≡ 0 → xs ≡ []
nothing_left [] h = refl
nothing_left (x ∷ xs) h = absurd (omega (arith, h))
