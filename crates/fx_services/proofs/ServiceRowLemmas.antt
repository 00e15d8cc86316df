-- The rows that an honest reply to the text of a SERVICE tells.
use Rattle.std.proofs.Common.{◌≡◌, ◌∙◌, ap, sym, subst, refl, ℕ, ◌<◌, ◌≤◌, Bool, true, false, ◌||◌, not, cond, get_or, List, [], ◌∷◌, map, length, None, Some, is_some, Contains, IsPermutation}
use Rattle.std.specs.Prelude.{position}
use Rattle.std.specs.List.{AllByRecursion, list_any}
use Rattle.std.specs.declared.cmp.Ordering.{Ordering}
use Rattle.std.specs.Ordering.{is_eq, is_le}
use Rattle.std.proofs.lemmas.Cmp.{tied_itself}
use Rattle.std.proofs.lemmas.List.Elements.{All-contains, All-from_recursion, Contains-get_or}
use Rattle.std.proofs.lemmas.List.Quantifiers.{position-Some}
use Rattle.std.proofs.lemmas.List.Sorted.{Contains-permutation, IsPermutation-refl, IsPermutation-sym, IsPermutation-trans, IsPermutation-cons, IsPermutation-middle, IsPermutation-map}
use Rattle.fx_terms.specs.Texts.{text_cmp, texts_total}
use Rattle.fx_terms.specs.declared.triples.Triple.{Triple}
use Rattle.fx_algebra.specs.Answers.{answer_alone, no_graphs}
use Rattle.fx_algebra.specs.Groups.{group_rows}
use Rattle.fx_algebra.specs.OrderedRows.{in_order, keyed, keyed_cmp}
use Rattle.fx_algebra.specs.Scopes.{group_mentions, is_among, scope}
use Rattle.fx_algebra.specs.Sequences.{insert_by, projected, sorted_by}
use Rattle.fx_algebra.specs.Solutions.{Bindings, term_of}
use Rattle.fx_algebra.specs.declared.answers.Answer.{Answer}
use Rattle.fx_algebra.specs.declared.answers.Answer.TheVariants.{Table, Truth}
use Rattle.fx_algebra.specs.declared.queries.Group.{Group}
use Rattle.fx_algebra.proofs.CutLemmas.{has_the_names}
use Rattle.fx_bound.proofs.NamingLemmas.{among_once}
use Rattle.fx_http.specs.Requests.{IsRequest}
use Rattle.fx_http.specs.declared.replies.ReplyError.TheVariants as http
use Rattle.fx_results.specs.Meanings.{SameAnswer}
use Rattle.fx_traffic.specs.Traffic.{service_query}
use Rattle.fx_wire.specs.Honest.{IsHonest}
use Rattle.fx_pool.specs.Reading.{a_service, HasFault, HasResults, HasTable, IsUnfit, is_foreign}
use Rattle.fx_pool.specs.declared.faults.ReplyFault.{ReplyFault}
use Rattle.fx_pool.specs.declared.faults.ReplyFault.TheVariants as fault
use Rattle.fx_pool.proofs.FaultLemmas.{faultless_by, long_fault}
use Rattle.fx_pool.proofs.HonestLemmas.{honest_results}
use Rattle.fx_walks.specs.Served.{Served, group_in}
use Rattle.fx_services.specs.ServicesAsked.{AreRowsOver, IsServable, service_text}
use Rattle.fx_services.proofs.FreeLemmas.{rows_free}
use Rattle.fx_services.proofs.WithinLemmas.{AllBind, Binds, group_rows_bind}

-- ---- what is sorted is the same in some order

insert_moves : {X : Type 0} (R : X → X → Ordering) (x : X) (xs : List X) → IsPermutation (x ∷ xs) (insert_by R x xs)
unfolding insert_by
insert_moves R x [] = IsPermutation-refl (x ∷ [])
insert_moves R x (y ∷ ys) = pick (is_le (R x y)) (insert_moves R x ys)
  where
    pick : (b : Bool) → IsPermutation (x ∷ ys) (insert_by R x ys) → IsPermutation (x ∷ y ∷ ys) (cond b (x ∷ y ∷ ys) (y ∷ insert_by R x ys))
    pick true rest = IsPermutation-refl (x ∷ y ∷ ys)
    pick false rest =
        IsPermutation-trans (x ∷ y ∷ ys) (y ∷ x ∷ ys) (y ∷ insert_by R x ys)
        (IsPermutation-sym (y ∷ x ∷ ys) (x ∷ y ∷ ys) (IsPermutation-middle (y ∷ []) x ys))
        (IsPermutation-cons y (x ∷ ys) (insert_by R x ys) rest)

sorted_moves : {X : Type 0} (R : X → X → Ordering) (xs : List X) → IsPermutation xs (sorted_by R xs)
unfolding sorted_by
sorted_moves R [] = IsPermutation-refl []
sorted_moves R (x ∷ xs) =
    IsPermutation-trans (x ∷ xs) (x ∷ sorted_by R xs) (insert_by R x (sorted_by R xs))
    (IsPermutation-cons x xs (sorted_by R xs) (sorted_moves R xs))
    (insert_moves R x (sorted_by R xs))

rows_kept : (columns : List (List ℕ)) (rows : List Bindings) → map (λ k. k.row) (map (keyed [] columns) rows) ≡ map (projected columns) rows
rows_kept columns [] = refl
rows_kept columns (s ∷ rows) = ap (λ rest. projected columns s ∷ rest) (rows_kept columns rows)

-- ---- rows that bind columns alone are all projected

itself : (name : List ℕ) → is_eq (text_cmp name name) ≡ true
itself name = ap is_eq (tied_itself texts_total name)

-- a pair of a row has its name bound
all_among : (columns : List (List ℕ)) (s : Bindings) → ((name : List ℕ) → is_some (term_of s name) ≡ true → is_among columns name ≡ true) → AllByRecursion (λ e. is_among columns e.0 ≡ true) s
all_among columns [] h = tt
all_among columns (e ∷ s) h = (
  h e.0 (ap (λ (b : Bool). is_some (cond b (Some e.1) (term_of s e.0))) (itself e.0)),
  all_among columns s (λ name k. h name (more name (is_eq (text_cmp name e.0)) k)),
)
  where
    more : (name : List ℕ) (b : Bool) → is_some (term_of s name) ≡ true → is_some (cond b (Some e.1) (term_of s name)) ≡ true
    more name true k = refl
    more name false k = k

all_stay : (columns : List (List ℕ)) (s : Bindings) → AllByRecursion (λ e. is_among columns e.0 ≡ true) s → projected columns s ≡ s
all_stay columns [] h = refl
all_stay columns (e ∷ s) h =
    ap (λ (b : Bool). cond b (e ∷ projected columns s) (projected columns s)) h.0
    ∙ ap (λ (v : Bindings). e ∷ v) (all_stay columns s h.1)

all_projected : (columns : List (List ℕ)) (rows : List Bindings) → AllBind columns rows → map (projected columns) rows ≡ rows
all_projected columns [] h = refl
all_projected columns (s ∷ rows) h =
    let here : projected columns s ≡ s = all_stay columns s (all_among columns s h.0) in
    let rest : map (projected columns) rows ≡ rows = all_projected columns rows h.1 in
    λ i. here i ∷ rest i

ordered_moves : (columns : List (List ℕ)) (rows : List Bindings) → AllBind columns rows → IsPermutation (in_order [] columns rows) rows
ordered_moves columns rows h =
    let all = map (keyed [] columns) rows in
    let same : map (λ k. k.row) all ≡ rows = rows_kept columns rows ∙ all_projected columns rows h in
    let sorted = sorted_by (keyed_cmp [] columns) all in
    subst (λ (v : List Bindings). IsPermutation (map (λ k. k.row) sorted) v) same (IsPermutation-map (λ k. k.row) sorted all (IsPermutation-sym all sorted (sorted_moves (keyed_cmp [] columns) all)))

-- ---- the rows of a group

abbrev alone : Served
alone = record { graphs = no_graphs; down = []; rows = λ number. None }

wider : (names others : List (List ℕ)) → ((name : List ℕ) → is_among names name ≡ is_among others name) → (rows : List Bindings) → AllBind names rows → AllBind others rows
wider names others same [] h = tt
wider names others same (s ∷ rows) h = ((λ name k. sym (same name) ∙ h.0 name k), wider names others same rows h.1)

scope_binds : (g : Group) (graph : List Triple) → AllBind (scope g) (group_rows (group_in alone g) graph 0)
scope_binds g graph =
    wider (group_mentions g) (scope g) (λ name. sym (among_once (group_mentions g) name)) (group_rows (group_in alone g) graph 0)
    (subst (λ (names : List (List ℕ)). AllBind names (group_rows (group_in alone g) graph 0)) (has_the_names g no_graphs []) (group_rows_bind alone g graph 0))

-- what an honest reply tells is the group's rows, in some order
pub honest_table : (g : Group) → IsServable g → (graph : List Triple) (request bytes : List ℕ) (rows : List Bindings)
    → IsHonest graph request bytes → IsRequest request (service_text g) → length (service_text g) ≤ 67108864 → HasTable bytes (scope g) rows → AreRowsOver graph g rows
honest_table g ok graph request bytes rows honest posts short told = λ graphs down number.
    let own = group_rows (group_in alone g) graph 0 in
    let same = honest_results graph request bytes (service_text g) (service_query g) (Table told.named rows) honest posts short ok.accepted ok.alone told.results in
    let free = rows_free alone (record { graphs = graphs; down = down; rows = λ number. None }) g ok.alone graph 0 number in
    subst (λ (v : List Bindings). IsPermutation rows v) free
    (IsPermutation-trans rows (in_order [] (scope g) own) own same.1 (ordered_moves (scope g) own (scope_binds g graph)))

-- ---- the faults of a reply

row_fits : (columns : List (List ℕ)) (s : Bindings) → Binds columns s → is_foreign columns s ≡ false
row_fits columns s h = go s (all_among columns s h)
  where
    go : (es : Bindings) → AllByRecursion (λ e. is_among columns e.0 ≡ true) es → list_any (λ e. not (is_among columns e.0)) es ≡ false
    go [] k = refl
    go (e ∷ es) k = ap (λ (b : Bool). not b || list_any (λ d. not (is_among columns d.0)) es) k.0 ∙ go es k.1

-- rows that bind columns alone have no foreign one
none_foreign : (columns : List (List ℕ)) (rows : List Bindings) → ((s : Bindings) → Contains rows s → Binds columns s) → (row : ℕ) → position (is_foreign columns) rows ≡ Some row → ⊥
none_foreign columns rows h row is =
    let k = position-Some (is_foreign columns) rows row [] is in
    let fits : is_foreign columns (get_or rows row []) ≡ false = row_fits columns (get_or rows row []) (h (get_or rows row []) (Contains-get_or rows row [] k.0)) in
    let foreign : is_foreign columns (get_or rows row []) ≡ true = k.1 in
    cc

-- a reply that is too long has no other fault
pub long_service : (columns : List (List ℕ)) (bytes : List ℕ) (why : ReplyFault) → 67108864 < length bytes → HasFault (a_service columns) bytes why → why ≡ fault.Http http.TooLong
long_service columns bytes why l h = long_fault (a_service columns) bytes why l h

-- ---- an honest reply that isn't too long has no fault

module _ (g : Group) (graph : List Triple) where
  within : (rows : List Bindings) → IsPermutation rows (in_order [] (scope g) (group_rows (group_in alone g) graph 0)) → (s : Bindings) → Contains rows s → Binds (scope g) s
  within rows same s m =
      let own = group_rows (group_in alone g) graph 0 in
      let moved = IsPermutation-trans rows (in_order [] (scope g) own) own same (ordered_moves (scope g) own (scope_binds g graph)) in
      All-contains (Binds (scope g)) own s (All-from_recursion (Binds (scope g)) own (scope_binds g graph)) (Contains-permutation rows own s moved m)

  none_unfit : (told : Answer) (why : ReplyFault) → SameAnswer told (answer_alone (service_query g) graph) → IsUnfit (a_service (scope g)) told why → ⊥
  none_unfit (Truth truth) why same u = same
  none_unfit (Table columns rows) (fault.Http e) same u = u
  none_unfit (Table columns rows) (fault.Results e) same u = u
  none_unfit (Table columns rows) (fault.Batch e) same u = u
  none_unfit (Table columns rows) (fault.Values e) same u = u
  none_unfit (Table columns rows) fault.NotTruth same u = u
  none_unfit (Table columns rows) fault.NotTable same u = u
  none_unfit (Table columns rows) (fault.Foreign row) same u = none_foreign (scope g) rows (within rows same.1) row u

  module _ (bytes : List ℕ) (told : Answer) (results : HasResults bytes told) (same : SameAnswer told (answer_alone (service_query g) graph)) where
    faultless : (why : ReplyFault) → HasFault (a_service (scope g)) bytes why → ⊥
    faultless why h = faultless_by (a_service (scope g)) bytes told results (λ why u. none_unfit told why same u) why h

pub honest_faultless : (g : Group) → IsServable g → (graph : List Triple) (request bytes : List ℕ) (why : ReplyFault)
    → IsHonest graph request bytes → IsRequest request (service_text g) → length (service_text g) ≤ 67108864 → length bytes ≤ 67108864 → HasFault (a_service (scope g)) bytes why → ⊥
honest_faultless g ok graph request bytes why honest posts few short h =
    let x = honest (service_text g) (service_query g) posts few ok.accepted ok.alone in
    faultless g graph bytes x.denotes.told (record { body = x.body; replied = (short, x.replied); read = x.denotes.read }) x.denotes.same why h
