-- The answer of a batch over a graph has the rows of its branches.
use Rattle.std.proofs.Common.{◌≡◌, ◌∙◌, ap, sym, subst, refl, inl, inr, ℕ, ◌<◌, ◌≤◌, ◌+◌, ◌^◌, Bool, true, false, ◌&&◌, T, cond, List, [], ◌∷◌, ◌++◌, map, filter, length, Option, Some, None, is_none, IsTrue, IsPermutation, arith, append-nil}
use Rattle.std.specs.Prelude.{All, pos}
use Rattle.std.specs.List.{AllByRecursion, flat_map, list_all}
use Rattle.std.specs.FinMap.Entries.{same_entries}
use Rattle.std.specs.Option.{option_or}
use Rattle.std.specs.declared.cmp.Ordering.{Ordering}
use Rattle.std.specs.Ordering.{is_le}
use Rattle.std.proofs.lemmas.List.{length-map, map-append}
use Rattle.std.proofs.lemmas.List.Elements.{recursion_from_All}
use Rattle.std.proofs.lemmas.List.Sorted.{IsPermutation-refl, IsPermutation-sym, IsPermutation-trans, IsPermutation-cons, IsPermutation-middle, IsPermutation-map}
use Rattle.std.proofs.lemmas.Map.Lookups.{exact_bytes}
use Rattle.fx_terms.specs.Texts.{text_cmp, texts_total}
use Rattle.fx_terms.specs.declared.terms.Term.{Term}
use Rattle.fx_terms.specs.declared.triples.Triple.{Triple}
use Rattle.fx_terms.specs.declared.patterns.Pattern.{Pattern}
use Rattle.fx_terms.proofs.SetLemmas.{Among}
use Rattle.fx_algebra.specs.Answers.{form_answer, no_graphs, query_rows}
use Rattle.fx_algebra.specs.BasicGraphPatterns.{bgp, variables}
use Rattle.fx_algebra.specs.Conditions.{holds}
use Rattle.fx_algebra.specs.Groups.{Part, pattern, condition, operator, Operator, Step, run, apply, Meaning, meaning, element_meaning, group_meaning, with_pattern, steps_of, after, conditions_of, no_station, one_empty, group_rows, alternatives}
use Rattle.fx_algebra.specs.OrderedRows.{in_order, keyed, keyed_cmp}
use Rattle.fx_algebra.specs.Operators.{extend, extended, filtered, join, merges, with_value}
use Rattle.fx_algebra.specs.Scopes.{is_among}
use Rattle.fx_algebra.specs.Sequences.{insert_by, projected, sorted_by}
use Rattle.fx_algebra.specs.Solutions.{Bindings, agree, merge, rises, term_of}
use Rattle.fx_algebra.specs.Units.{expr_names, is_covered}
use Rattle.fx_algebra.specs.Values.{integer, value, value_step}
use Rattle.fx_algebra.specs.declared.expressions.Expr.{Expr, Expr-F, fold-roll-Expr, roll-Expr}
use Rattle.fx_algebra.specs.declared.queries.Element.{Element, Element-F, fold-roll-Element}
use Rattle.fx_algebra.specs.declared.queries.Element.TheVariants as element
use Rattle.fx_algebra.specs.declared.queries.Group.{Group, fold-roll-Group, roll-Group}
use Rattle.fx_algebra.specs.declared.units.Row.{Row}
use Rattle.fx_algebra.specs.declared.units.Unit as unit
use Rattle.fx_algebra.proofs.CutLemmas.{part_of}
use Rattle.fx_algebra.proofs.JoinLemmas.{find-merge, join_first}
use Rattle.fx_algebra.proofs.MemberLemmas.{among_flat_map, among_from_flat_map, among_from_map}
use Rattle.fx_algebra.proofs.OperatorLemmas.{filtered_by_none}
use Rattle.fx_algebra.proofs.PairLemmas.{rises_merge}
use Rattle.fx_spelling.specs.Units.{IsFit, IsPushed}
use Rattle.fx_algebra.specs.declared.answers.Answer.TheVariants.{Table}
use Rattle.fx_algebra.specs.Units.{graph_of}
use Rattle.fx_bound.specs.Batches.{AreAnswered, AreAnswersOf, AreReadAs, BatchHasTheRows, BatchIsTheStep, HasTheRows, batch_query, branch_elements, branch_group, check_elements}
use Rattle.fx_renaming.specs.Branches.{bound_expr, bound_pattern}
use Rattle.fx_bound.specs.Reading.{AreRead, all_columns, branch_rows, branch_solutions, check_name, checked_by, columns_of, free_names, renamed, unit_names}
use Rattle.fx_founds.specs.Uniting.{AreAll, AreToldBy, Place, branches}
use Rattle.fx_founds.specs.declared.founds.Found.{Found}
use Rattle.fx_renaming.proofs.BranchLemmas.{AreTold, holds_kept, value_rises}
use Rattle.fx_bound.proofs.NamingLemmas.{among_from_test, among_once, test_from}
use Rattle.fx_bound.proofs.ReadingLemmas.{BindsJust, answer_tells_branches, found_some, no_free, row_binds, solution_rises}
use Rattle.fx_founds.proofs.UniteLemmas.{all_covered, united_is_the_step}

to_T : (b : Bool) → b ≡ true → T b
to_T true h = tt
to_T false h = cc

-- ---- a sorted list is a permutation

insert_moves : {X : Type 0} (R : X → X → Ordering) (x : X) (xs : List X) → IsPermutation (x ∷ xs) (insert_by R x xs)
unfolding insert_by
insert_moves R x [] = IsPermutation-refl (x ∷ [])
insert_moves R x (y ∷ ys) = pick (is_le (R x y)) (insert_moves R x ys)
  where
    pick : (b : Bool) → IsPermutation (x ∷ ys) (insert_by R x ys) → IsPermutation (x ∷ y ∷ ys) (cond b (x ∷ y ∷ ys) (y ∷ insert_by R x ys))
    pick true rest = IsPermutation-refl (x ∷ y ∷ ys)
    pick false rest =
        IsPermutation-trans (x ∷ y ∷ ys) (y ∷ x ∷ ys) (y ∷ insert_by R x ys)
        (IsPermutation-sym (y ∷ x ∷ ys) (x ∷ y ∷ ys) (IsPermutation-middle (y ∷ []) x ys))
        (IsPermutation-cons y (x ∷ ys) (insert_by R x ys) rest)

sorted_moves : {X : Type 0} (R : X → X → Ordering) (xs : List X) → IsPermutation xs (sorted_by R xs)
unfolding sorted_by
sorted_moves R [] = IsPermutation-refl []
sorted_moves R (x ∷ xs) =
    IsPermutation-trans (x ∷ xs) (x ∷ sorted_by R xs) (insert_by R x (sorted_by R xs))
    (IsPermutation-cons x xs (sorted_by R xs) (sorted_moves R xs))
    (insert_moves R x (sorted_by R xs))

keeps_all : {X : Type 0} (p : X → Bool) (xs : List X) → ((x : X) → Among x xs → p x ≡ true) → filter p xs ≡ xs
keeps_all p [] h = refl
keeps_all p (x ∷ xs) h = ap (λ b. cond b (x ∷ filter p xs) (filter p xs)) (h x (inl refl)) ∙ ap (λ v. x ∷ v) (keeps_all p xs (λ y m. h y (inr m)))

map_same : {X : Type 0} (f : X → X) (xs : List X) → ((x : X) → Among x xs → f x ≡ x) → map f xs ≡ xs
map_same f [] h = refl
map_same f (x ∷ xs) h = let here : f x ≡ x = h x (inl refl) in let rest : map f xs ≡ xs = map_same f xs (λ y m. h y (inr m)) in λ i. here i ∷ rest i

rows_kept : (columns : List (List ℕ)) (rows : List Bindings) → map (λ k. k.row) (map (keyed [] columns) rows) ≡ map (projected columns) rows
rows_kept columns [] = refl
rows_kept columns (s ∷ rows) = ap (λ rest. projected columns s ∷ rest) (rows_kept columns rows)

-- rows whose names are all columns come in some order
ordered_moves : (columns : List (List ℕ)) (rows : List Bindings) → ((s : Bindings) → Among s rows → projected columns s ≡ s) → IsPermutation (in_order [] columns rows) rows
ordered_moves columns rows h =
    let all = map (keyed [] columns) rows in
    let same : map (λ k. k.row) all ≡ rows = rows_kept columns rows ∙ map_same (projected columns) rows h in
    let sorted = sorted_by (keyed_cmp [] columns) all in
    subst (λ (v : List Bindings). IsPermutation (map (λ k. k.row) sorted) v) same (IsPermutation-map (λ k. k.row) sorted all (IsPermutation-sym all sorted (sorted_moves (keyed_cmp [] columns) all)))

-- ---- the join with the one empty solution

or_other : (o : Option Term) → option_or None o ≡ o
or_other o = refl

agree_nothing : (s : Bindings) → agree [] s ≡ true
agree_nothing s = refl

merge_nothing : (s : Bindings) → IsTrue (rises s) → merge [] s ≡ s
merge_nothing s up = same_entries text_cmp texts_total exact_bytes (merge [] s) s (to_T (rises (merge [] s)) (rises_merge [] s refl)) (to_T (rises s) up) (λ n. find-merge [] s n)

empty_first : (rows : List Bindings) → AllByRecursion (λ s. IsTrue (rises s)) rows → join one_empty rows ≡ rows
empty_first rows up = append-nil (merges rows []) ∙ ap (map (merge [])) (keeps_all (agree []) rows (λ s m. refl)) ∙ merged rows up
  where
    merged : (xs : List Bindings) → AllByRecursion (λ s. IsTrue (rises s)) xs → map (merge []) xs ≡ xs
    merged [] h = refl
    merged (x ∷ xs) h = let here : merge [] x ≡ x = merge_nothing x h.0 in let rest : map (merge []) xs ≡ xs = merged xs h.1 in λ i. here i ∷ rest i

-- ---- the parts of a branch

-- a name bound to a term
abbrev bind_operator : Term → List ℕ → Operator
bind_operator t name = record {
  tree = element.Bind (roll-Expr (Expr-F.Constant t)) name;
  services = 0;
  rows = λ graph number rows. extend rows name (roll-Expr (Expr-F.Constant t));
  cut = no_station (name ∷ []);
}

abbrev parts : List Element → List Part
parts es = map (part_of no_graphs []) es

triple_is : (p : Pattern) → part_of no_graphs [] (element.Triple p) ≡ pattern p
triple_is p = ap (part_of no_graphs []) (sym (element.rolls-Triple p)) ∙ fold-roll-Element Part Meaning (element_meaning no_graphs []) group_meaning (Element-F.Triple p)

filter_is : (e : Expr) → part_of no_graphs [] (element.Filter e) ≡ condition e
filter_is e = ap (part_of no_graphs []) (sym (element.rolls-Filter e)) ∙ fold-roll-Element Part Meaning (element_meaning no_graphs []) group_meaning (Element-F.Filter e)

bind_is : (t : Term) (name : List ℕ) → part_of no_graphs [] (element.Bind (roll-Expr (Expr-F.Constant t)) name) ≡ operator (bind_operator t name)
bind_is t name = let e = roll-Expr (Expr-F.Constant t) in ap (part_of no_graphs []) (sym (element.rolls-Bind e name)) ∙ fold-roll-Element Part Meaning (element_meaning no_graphs []) group_meaning (Element-F.Bind e name)

union_is : (gs : List Group) → part_of no_graphs [] (element.Union gs) ≡ element_meaning no_graphs [] (Element-F.Union (map (meaning no_graphs []) gs))
union_is gs = ap (part_of no_graphs []) (sym (element.rolls-Union gs)) ∙ fold-roll-Element Part Meaning (element_meaning no_graphs []) group_meaning (Element-F.Union gs)

group_is : (es : List Element) → meaning no_graphs [] (roll-Group (record { elements = es })) ≡ group_meaning (record { elements = parts es })
group_is es = fold-roll-Group Part Meaning (element_meaning no_graphs []) group_meaning (record { elements = es })

patterns_are : {X : Type 0} (f : X → Pattern) (xs : List X) → parts (map (λ x. element.Triple (f x)) xs) ≡ map pattern (map f xs)
patterns_are f [] = refl
patterns_are f (x ∷ xs) = ap (λ (v : Part). v ∷ parts (map (λ y. element.Triple (f y)) xs)) (triple_is (f x)) ∙ ap (λ (v : List Part). pattern (f x) ∷ v) (patterns_are f xs)

conditions_are : {X : Type 0} (f : X → Expr) (xs : List X) → parts (map (λ x. element.Filter (f x)) xs) ≡ map condition (map f xs)
conditions_are f [] = refl
conditions_are f (x ∷ xs) = ap (λ (v : Part). v ∷ parts (map (λ y. element.Filter (f y)) xs)) (filter_is (f x)) ∙ ap (λ (v : List Part). condition (f x) ∷ v) (conditions_are f xs)

-- filters and steps of patterns, then filters, then what is left
behind_patterns : (ps : List Pattern) (rest : List Part) → conditions_of (map pattern ps ++ rest) ≡ conditions_of rest
behind_patterns [] rest = refl
behind_patterns (p ∷ ps) rest = behind_patterns ps rest

behind_filters : (es : List Expr) (rest : List Part) → conditions_of (map condition es ++ rest) ≡ es ++ conditions_of rest
behind_filters [] rest = refl
behind_filters (e ∷ es) rest = ap (λ (v : List Expr). e ∷ v) (behind_filters es rest)

steps_behind : (es : List Expr) (rest : List Part) → steps_of (map condition es ++ rest) ≡ steps_of rest
steps_behind [] rest = refl
steps_behind (e ∷ es) rest = steps_behind es rest

one_run : (p : Pattern) (ps : List Pattern) (rest : List Part) → steps_of rest ≡ [] → steps_of (map pattern (p ∷ ps) ++ rest) ≡ run (p ∷ ps) ∷ []
one_run p [] rest e = ap (with_pattern p) e
one_run p (q ∷ ps) rest e = ap (with_pattern p) (one_run q ps rest e)

run_before : (p : Pattern) (ps : List Pattern) (rest : List Part) (o : Operator) → steps_of rest ≡ apply o ∷ [] → steps_of (map pattern (p ∷ ps) ++ rest) ≡ run (p ∷ ps) ∷ apply o ∷ []
run_before p [] rest o e = ap (with_pattern p) e
run_before p (q ∷ ps) rest o e = ap (with_pattern p) (run_before q ps rest o e)

both_true : (b c : Bool) → (b && c) ≡ true → (b ≡ true) × (c ≡ true)
both_true true c e = (refl, e)
both_true false c e = cc

-- ---- the rows of a branch

each_extended : (name : List ℕ) (t : Term) (rows : List Bindings) → extend rows name (roll-Expr (Expr-F.Constant t)) ≡ map (λ s. with_value s name (Some t)) rows
unfolding extended
each_extended name t [] = refl
each_extended name t (s ∷ rows) =
    let here : with_value s name (value (roll-Expr (Expr-F.Constant t)) s) ≡ with_value s name (Some t) = ap (with_value s name) (fold-roll-Expr (Option Term) (value_step s) (Expr-F.Constant t)) in
    let rest : extend rows name (roll-Expr (Expr-F.Constant t)) ≡ map (λ v. with_value v name (Some t)) rows = each_extended name t rows in
    λ i. here i ∷ rest i

module _ (graph : List Triple) (number : ℕ) (ps : List Pattern) (es : List Expr) where
  -- patterns and filters alone
  plain_rows : (p : Pattern) (qs : List Pattern) → ps ≡ p ∷ qs → (rest : List Part) → rest ≡ [] → group_rows (group_meaning (record { elements = map pattern ps ++ (map condition es ++ rest) })) graph number ≡ filtered es (bgp graph ps)
  plain_rows p qs is rest none =
      let behind = map condition es ++ rest in
      let filters : conditions_of (map pattern ps ++ behind) ≡ es = behind_patterns ps behind ∙ behind_filters es rest ∙ ap (λ (v : List Part). es ++ conditions_of v) none ∙ append-nil es in
      let steps : steps_of (map pattern ps ++ behind) ≡ run ps ∷ [] =
      ap (λ (v : List Pattern). steps_of (map pattern v ++ behind)) is ∙ one_run p qs behind (steps_behind es rest ∙ ap steps_of none) ∙ ap (λ (v : List Pattern). run v ∷ []) (sym is) in
      ap (λ (fs : List Expr). filtered fs (after graph number one_empty (steps_of (map pattern ps ++ behind)))) filters
      ∙ ap (λ (ss : List Step). filtered es (after graph number one_empty ss)) steps
      ∙ ap (filtered es) (join_first graph ps)

  -- with a term bound behind them
  bound_rows : (p : Pattern) (qs : List Pattern) → ps ≡ p ∷ qs → (name : List ℕ) (t : Term) (rest : List Part) → rest ≡ operator (bind_operator t name) ∷ []
      → group_rows (group_meaning (record { elements = map pattern ps ++ (map condition es ++ rest) })) graph number ≡ filtered es (map (λ s. with_value s name (Some t)) (bgp graph ps))
  bound_rows p qs is name t rest one =
      let behind = map condition es ++ rest in
      let e = roll-Expr (Expr-F.Constant t) in
      let filters : conditions_of (map pattern ps ++ behind) ≡ es = behind_patterns ps behind ∙ behind_filters es rest ∙ ap (λ (v : List Part). es ++ conditions_of v) one ∙ append-nil es in
      let steps : steps_of (map pattern ps ++ behind) ≡ run ps ∷ apply (bind_operator t name) ∷ [] =
      ap (λ (v : List Pattern). steps_of (map pattern v ++ behind)) is ∙ run_before p qs behind (bind_operator t name) (steps_behind es rest ∙ ap steps_of one) ∙ ap (λ (v : List Pattern). run v ∷ apply (bind_operator t name) ∷ []) (sym is) in
      ap (λ (fs : List Expr). filtered fs (after graph number one_empty (steps_of (map pattern ps ++ behind)))) filters
      ∙ ap (λ (ss : List Step). filtered es (after graph number one_empty ss)) steps
      ∙ ap (λ (v : List Bindings). filtered es (extend v name e)) (join_first graph ps)
      ∙ ap (filtered es) (each_extended name t (bgp graph ps))

filtered_mapped : (es : List Expr) (f : Bindings → Bindings) (rows : List Bindings) → ((s : Bindings) → holds es (f s) ≡ holds es s) → filtered es (map f rows) ≡ map f (filtered es rows)
filtered_mapped es f [] h = refl
filtered_mapped es f (s ∷ rows) h = ap (λ (b : Bool). cond b (f s ∷ filtered es (map f rows)) (filtered es (map f rows))) (h s) ∙ by (holds es s) (filtered_mapped es f rows h)
  where
    by : (b : Bool) → filtered es (map f rows) ≡ map f (filtered es rows) → cond b (f s ∷ filtered es (map f rows)) (filtered es (map f rows)) ≡ map f (cond b (s ∷ filtered es rows) (filtered es rows))
    by true k = ap (λ (v : List Bindings). f s ∷ v) k
    by false k = k

-- the first pattern
first_pattern : (ps : List Pattern) → 0 < length ps → (p : Pattern) × (qs : List Pattern) × (ps ≡ p ∷ qs)
first_pattern [] h = absurd (omega arith)
first_pattern (p ∷ ps) h = (p, ps, refl)

module _ (u : unit.Unit) (b : Place) (covered : AllByRecursion (λ e. is_covered u.patterns e ≡ true) u.filters) where
  -- where the row binds all variables, filters say the same of all solutions
  names_told : (t : Bindings) → free_names u b.row.solution ≡ [] → (names : List (List ℕ)) → list_all (is_among (variables u.patterns)) names ≡ true → AreTold (renamed u b.number) b.row.solution b.row.solution t names
  names_told t e [] c = tt
  names_told t e (n ∷ ns) c =
      let k = both_true (is_among (variables u.patterns) n) (list_all (is_among (variables u.patterns)) ns) c in
      (kept (term_of b.row.solution n) (no_free (unit_names u) b.row.solution e n (among_from_test (unit_names u) n (among_once (variables u.patterns) n ∙ k.0))), names_told t e ns k.1)
    where
      kept : (o : Option Term) → is_none o ≡ false → o ≡ option_or o (term_of t (renamed u b.number n))
      kept None f = absurd (cc)
      kept (Some x) f = refl

  all_told : (t : Bindings) → free_names u b.row.solution ≡ [] → (es : List Expr) → AllByRecursion (λ e. is_covered u.patterns e ≡ true) es → AllByRecursion (λ e. AreTold (renamed u b.number) b.row.solution b.row.solution t (expr_names e)) es
  all_told t e [] c = tt
  all_told t e (f ∷ fs) c = (names_told t e (expr_names f) c.0, all_told t e fs c.1)

  filters_alike : free_names u b.row.solution ≡ [] → (s t : Bindings) → holds (map (bound_expr (renamed u b.number) b.row.solution) u.filters) s ≡ holds (map (bound_expr (renamed u b.number) b.row.solution) u.filters) t
  filters_alike e s t =
      holds_kept (renamed u b.number) b.row.solution b.row.solution s u.filters (all_told s e u.filters covered)
      ∙ sym (holds_kept (renamed u b.number) b.row.solution b.row.solution t u.filters (all_told t e u.filters covered))

  abbrev row : Bindings
  row = b.row.solution

  abbrev bound_ps : List Pattern
  bound_ps = map (bound_pattern (renamed u b.number) b.row.solution) u.patterns

  abbrev bound_es : List Expr
  bound_es = map (bound_expr (renamed u b.number) b.row.solution) u.filters

  made : parts (branch_elements u b) ≡ map pattern bound_ps ++ (map condition bound_es ++ parts (check_elements b.number (free_names u b.row.solution)))
  made =
      let last = check_elements b.number (free_names u b.row.solution) in
      map-append (part_of no_graphs []) (map (λ p. element.Triple (bound_pattern (renamed u b.number) b.row.solution p)) u.patterns) (map (λ e. element.Filter (bound_expr (renamed u b.number) b.row.solution e)) u.filters ++ last)
      ∙ ap (λ (v : List Part). v ++ parts (map (λ e. element.Filter (bound_expr (renamed u b.number) b.row.solution e)) u.filters ++ last)) (patterns_are (bound_pattern (renamed u b.number) b.row.solution) u.patterns)
      ∙ ap (λ (v : List Part). map pattern bound_ps ++ v) (map-append (part_of no_graphs []) (map (λ e. element.Filter (bound_expr (renamed u b.number) b.row.solution e)) u.filters) last
      ∙ ap (λ (v : List Part). v ++ parts last) (conditions_are (bound_expr (renamed u b.number) b.row.solution) u.filters))

  made_rows : (graph : List Triple) (number : ℕ) → (p : Pattern) × (qs : List Pattern) × (bound_ps ≡ p ∷ qs) → (free : List (List ℕ)) → free_names u b.row.solution ≡ free
      → group_rows (group_meaning (record { elements = map pattern bound_ps ++ (map condition bound_es ++ parts (check_elements b.number free)) })) graph number ≡ map (checked_by b.number free) (filtered bound_es (bgp graph bound_ps))
  made_rows graph number first [] e =
      let name = check_name b.number in
      let t = integer (pos 1) in
      bound_rows graph number bound_ps bound_es first.0 first.1 first.2 name t (parts (check_elements b.number [])) (ap (λ (v : Part). v ∷ []) (bind_is t name))
      ∙ filtered_mapped bound_es (λ s. with_value s name (Some t)) (bgp graph bound_ps) (λ s. filters_alike e (with_value s name (Some t)) s)
  made_rows graph number first (n ∷ ns) e =
      plain_rows graph number bound_ps bound_es first.0 first.1 first.2 [] refl ∙ sym (map_same (λ s. s) (filtered bound_es (bgp graph bound_ps)) (λ s m. refl))

  branch_is : (graph : List Triple) (number : ℕ) → 0 < length u.patterns → group_rows (meaning no_graphs [] (branch_group u b)) graph number ≡ branch_rows graph u b
  branch_is graph number some =
      let first = first_pattern bound_ps (subst (λ (n : ℕ). 0 < n) (sym (length-map u.patterns (bound_pattern (renamed u b.number) b.row.solution))) some) in
      ap (λ (m : Meaning). group_rows m graph number) (group_is (branch_elements u b) ∙ ap (λ (v : List Part). group_meaning (record { elements = v })) made)
      ∙ made_rows graph number first (free_names u b.row.solution) refl

-- ---- all branches

all_from : (P : Bindings → Type 0) (rows : List Bindings) → ((s : Bindings) → Among s rows → P s) → AllByRecursion P rows
all_from P [] f = tt
all_from P (s ∷ rows) f = (f s (inl refl), all_from P rows (λ t m. f t (inr m)))

module _ (graph : List Triple) (u : unit.Unit) (fit : IsFit u) where
  covered : AllByRecursion (λ e. is_covered u.patterns e ≡ true) u.filters
  covered = all_covered u.patterns u.filters (recursion_from_All (IsPushed u.patterns) u.filters fit.filters)

  all_branches : (bs : List Place) (number : ℕ) → alternatives (map (meaning no_graphs []) (map (branch_group u) bs)) graph number ≡ flat_map (branch_rows graph u) bs
  unfolding covered
  all_branches [] number = refl
  all_branches (b ∷ bs) number =
      let m = meaning no_graphs [] (branch_group u b) in
      let rest = alternatives (map (meaning no_graphs []) (map (branch_group u) bs)) graph (number + m.services) in
      ap (λ (v : List Bindings). v ++ rest) (branch_is u b (all_covered u.patterns u.filters (recursion_from_All (IsPushed u.patterns) u.filters fit.filters)) graph number fit.some)
      ∙ ap (λ (v : List Bindings). branch_rows graph u b ++ v) (all_branches bs (number + m.services))

  -- each row rises, and its names are columns
  its_branch : (bs : List Place) (row : Bindings) → Among row (flat_map (branch_rows graph u) bs) → (b : Place) × Among b bs × (s : Bindings) × Among s (branch_solutions graph u b) × (checked_by b.number (free_names u b.row.solution) s ≡ row)
  its_branch bs row m =
      let a = among_from_flat_map (branch_rows graph u) row bs m in
      let s = among_from_map (checked_by a.0.number (free_names u a.0.row.solution)) row (branch_solutions graph u a.0) a.2 in
      (a.0, a.1, s.0, s.1, s.2)

  row_rises : (b : Place) (s : Bindings) (free : List (List ℕ)) → IsTrue (rises s) → IsTrue (rises (checked_by b.number free s))
  row_rises b s [] up = value_rises s (check_name b.number) (Some (integer (pos 1))) up
  row_rises b s (n ∷ ns) up = up

  rows_rise : (bs : List Place) → AllByRecursion (λ s. IsTrue (rises s)) (flat_map (branch_rows graph u) bs)
  rows_rise bs =
      all_from (λ s. IsTrue (rises s)) (flat_map (branch_rows graph u) bs)
      (λ row m. let a = its_branch bs row m in subst (λ (v : Bindings). IsTrue (rises v)) a.4 (row_rises a.0 a.2 (free_names u a.0.row.solution) (solution_rises graph u a.0 a.2 a.3)))

  row_kept : (bs : List Place) (row : Bindings) → Among row (flat_map (branch_rows graph u) bs) → projected (all_columns u bs) row ≡ row
  row_kept bs row m =
      let a = its_branch bs row m in
      let binds : BindsJust (columns_of u a.0) row = subst (BindsJust (columns_of u a.0)) a.4 (row_binds graph u a.0 a.2 a.3) in
      keeps_all (λ (e : List ℕ × Term). is_among (all_columns u bs) e.0) row
      (λ e k. test_from (all_columns u bs) e.0 (among_flat_map (columns_of u) a.0 e.0 bs a.1 (among_from_test (columns_of u a.0) e.0 (sym (binds e.0) ∙ found_some row e k))))

  query_rows_are : (bs : List Place) → query_rows (batch_query u bs) graph no_graphs [] ≡ flat_map (branch_rows graph u) bs
  query_rows_are bs =
      let gs = map (branch_group u) bs in
      let rows = flat_map (branch_rows graph u) bs in
      ap (λ (m : Meaning). group_rows m graph 0) (group_is (element.Union gs ∷ []) ∙ ap (λ (v : Part). group_meaning (record { elements = v ∷ [] })) (union_is gs))
      ∙ filtered_by_none (join one_empty (alternatives (map (meaning no_graphs []) gs) graph 0))
      ∙ ap (join one_empty) (all_branches bs 0)
      ∙ empty_first rows (rows_rise bs)

  has_the_rows : (bs : List Place) → HasTheRows graph u bs
  has_the_rows bs = record {
    rows = in_order [] (all_columns u bs) (flat_map (branch_rows graph u) bs);
    answer_is = ap (λ (rows : List Bindings). form_answer (batch_query u bs) (batch_query u bs).form rows) (query_rows_are bs);
    rows_are = ordered_moves (all_columns u bs) (flat_map (branch_rows graph u) bs) (row_kept bs);
  }

pub batch_has_the_rows : BatchHasTheRows
batch_has_the_rows graph u bs fit = has_the_rows graph u fit bs

-- ---- the whole way of a batch

-- the rows of two tables that are one
same_rows : (columns : List (List ℕ)) (xs ys : List Bindings) → Table columns xs ≡ Table columns ys → xs ≡ ys
same_rows columns xs ys e = cc

module _ (graphs : List (List Triple)) (u : unit.Unit) (rows : List Row) (fit : IsFit u) (up : All (λ r. IsTrue (rises r.solution)) rows) (few : length rows ≤ 64) (short : length (unit_names u) < 2 ^ 64) where
  pub answer_read_as : (graph : List Triple) (answer : List Bindings) → AreAnswered graph u (branches u rows) answer → AreRead u (branches u rows) graph answer
  answer_read_as graph answer h =
      let has = has_the_rows graph u fit (branches u rows) in
      let same : h.told_rows ≡ has.rows = same_rows (all_columns u (branches u rows)) h.told_rows has.rows (sym h.answer_is ∙ has.answer_is) in
      answer_tells_branches graph u rows answer fit up few short
      (IsPermutation-trans answer has.rows (flat_map (branch_rows graph u) (branches u rows)) (subst (λ (v : List Bindings). IsPermutation answer v) same h.same) has.rows_are)

  -- what is read of each answer
  record AllRead (members : List ℕ) (answers : List (List Bindings)) : Type 0 where
    lists : List (List Found)
    read : AreReadAs u (branches u rows) answers lists
    told_by : AreToldBy graphs u (branches u rows) members lists
    all : AreAll members lists

  each_read : (members : List ℕ) (answers : List (List Bindings)) → AreAnswersOf graphs u (branches u rows) members answers → AllRead members answers
  each_read [] [] h = record { lists = []; read = tt; told_by = tt; all = tt }
  each_read [] (answer ∷ answers) h = absurd h
  each_read (at ∷ members) [] h = absurd h
  each_read (at ∷ members) (answer ∷ answers) h =
      let one = answer_read_as (graph_of graphs at) answer h.0 in
      let rest = each_read members answers h.1 in
      record { lists = one.founds ∷ rest.lists; read = (one.read, rest.read); told_by = (one.told_all, rest.told_by); all = rest.all }

pub batch_is_the_step : BatchIsTheStep
batch_is_the_step graphs u rows answers sound up few short h =
    let a = each_read graphs u rows sound.fit up few short u.members answers h in
    record { lists = a.lists; read = a.read; step_is = united_is_the_step graphs u rows a.lists sound up a.told_by a.all }
