-- The answer over a graph has what each row of the block merges to with the solutions of the unit.
use Rattle.std.proofs.Common.{◌≡◌, ◌∙◌, ap, sym, subst, refl, inl, inr, ℕ, ◌<◌, Bool, true, false, ◌||◌, T, cond, List, [], ◌∷◌, ◌++◌, map, filter, fold, length, Option, Some, None, is_some, IsTrue, IsPermutation, arith, append-nil}
use Rattle.std.specs.List.{AllByRecursion, flat_map, zip}
use Rattle.std.specs.FinMap.Entries.{same_entries}
use Rattle.std.specs.Option.{option_or}
use Rattle.std.specs.declared.cmp.Ordering.{Ordering}
use Rattle.std.specs.Ordering.{is_eq, is_le}
use Rattle.std.proofs.lemmas.Cmp.{tied_itself}
use Rattle.std.proofs.lemmas.List.{length-map, map-append}
use Rattle.std.proofs.lemmas.List.Elements.{filter-append}
use Rattle.std.proofs.lemmas.List.Sorted.{IsPermutation-refl, IsPermutation-sym, IsPermutation-trans, IsPermutation-cons, IsPermutation-middle, IsPermutation-map}
use Rattle.std.proofs.lemmas.Map.Lookups.{exact_bytes}
use Rattle.fx_terms.specs.Texts.{text_cmp, texts_total}
use Rattle.fx_terms.specs.declared.terms.Term.{Term}
use Rattle.fx_terms.specs.declared.triples.Triple.{Triple}
use Rattle.fx_terms.specs.declared.patterns.Pattern.{Pattern}
use Rattle.fx_terms.specs.declared.patterns.PatternTerm.{PatternTerm}
use Rattle.fx_terms.specs.declared.patterns.PatternTerm.TheVariants.{Variable, Constant}
use Rattle.fx_terms.proofs.SetLemmas.{Among, contains_from}
use Rattle.fx_algebra.specs.Answers.{form_answer, no_graphs, query_rows}
use Rattle.fx_algebra.specs.BasicGraphPatterns.{bgp, variables}
use Rattle.fx_algebra.specs.Conditions.{holds}
use Rattle.fx_algebra.specs.Groups.{Part, pattern, condition, operator, Operator, Step, run, Meaning, meaning, element_meaning, group_meaning, with_pattern, steps_of, after, conditions_of, no_station, one_empty, group_rows}
use Rattle.fx_algebra.specs.OrderedRows.{in_order, keyed, keyed_cmp}
use Rattle.fx_algebra.specs.Operators.{filtered, inline_row, inline_rows, join, merges, with_cell, with_value}
use Rattle.fx_algebra.specs.Scopes.{is_among, once, part_names, pattern_names}
use Rattle.fx_algebra.specs.Sequences.{insert_by, projected, sorted_by}
use Rattle.fx_algebra.specs.Solutions.{Bindings, agree, merge, rises, term_of}
use Rattle.fx_algebra.specs.declared.expressions.Expr.{Expr}
use Rattle.fx_algebra.specs.declared.queries.Element.{Element, Element-F, fold-roll-Element}
use Rattle.fx_algebra.specs.declared.queries.Element.TheVariants as element
use Rattle.fx_algebra.specs.declared.queries.Group.{fold-roll-Group, roll-Group}
use Rattle.fx_algebra.specs.declared.queries.Inline.{Inline}
use Rattle.fx_algebra.specs.declared.units.Unit as unit
use Rattle.fx_algebra.proofs.BgpLemmas.{solution_of}
use Rattle.fx_algebra.proofs.CutLemmas.{part_of}
use Rattle.fx_algebra.proofs.ForcedLemmas.{name_from}
use Rattle.fx_algebra.proofs.JoinLemmas.{find-merge, some_or}
use Rattle.fx_algebra.proofs.MemberLemmas.{among_from_flat_map, among_from_map, among_map}
use Rattle.fx_algebra.proofs.PairLemmas.{rises_merge}
use Rattle.fx_spelling.specs.Units.{IsFit}
use Rattle.fx_renaming.specs.Branches.{bound_expr, bound_part, bound_pattern}
use Rattle.fx_renaming.proofs.BranchLemmas.{value_rises}
use Rattle.fx_founds.specs.Uniting.{Place}
use Rattle.fx_founds.proofs.UnionLemmas.{in_kept}
use Rattle.fx_values.specs.Values.{HasTheRows, ValuesHaveTheRows, block, cells, columns, elements, number_name, renamed, rows_of, unit_names, values_query}
use Rattle.fx_values.proofs.NamingLemmas.{among_from_test, among_once, eq_itself, test_from}

to_T : (b : Bool) → b ≡ true → T b
to_T true h = tt
to_T false h = cc

-- ---- a sorted list is a permutation

insert_moves : {X : Type 0} (R : X → X → Ordering) (x : X) (xs : List X) → IsPermutation (x ∷ xs) (insert_by R x xs)
unfolding insert_by
insert_moves R x [] = IsPermutation-refl (x ∷ [])
insert_moves R x (y ∷ ys) = pick (is_le (R x y)) (insert_moves R x ys)
  where
    pick : (b : Bool) → IsPermutation (x ∷ ys) (insert_by R x ys) → IsPermutation (x ∷ y ∷ ys) (cond b (x ∷ y ∷ ys) (y ∷ insert_by R x ys))
    pick true rest = IsPermutation-refl (x ∷ y ∷ ys)
    pick false rest =
        IsPermutation-trans (x ∷ y ∷ ys) (y ∷ x ∷ ys) (y ∷ insert_by R x ys)
        (IsPermutation-sym (y ∷ x ∷ ys) (x ∷ y ∷ ys) (IsPermutation-middle (y ∷ []) x ys))
        (IsPermutation-cons y (x ∷ ys) (insert_by R x ys) rest)

sorted_moves : {X : Type 0} (R : X → X → Ordering) (xs : List X) → IsPermutation xs (sorted_by R xs)
unfolding sorted_by
sorted_moves R [] = IsPermutation-refl []
sorted_moves R (x ∷ xs) =
    IsPermutation-trans (x ∷ xs) (x ∷ sorted_by R xs) (insert_by R x (sorted_by R xs))
    (IsPermutation-cons x xs (sorted_by R xs) (sorted_moves R xs))
    (insert_moves R x (sorted_by R xs))

keeps_all : {X : Type 0} (p : X → Bool) (xs : List X) → ((x : X) → Among x xs → p x ≡ true) → filter p xs ≡ xs
keeps_all p [] h = refl
keeps_all p (x ∷ xs) h = ap (λ b. cond b (x ∷ filter p xs) (filter p xs)) (h x (inl refl)) ∙ ap (λ v. x ∷ v) (keeps_all p xs (λ y m. h y (inr m)))

map_same : {X : Type 0} (f : X → X) (xs : List X) → ((x : X) → Among x xs → f x ≡ x) → map f xs ≡ xs
map_same f [] h = refl
map_same f (x ∷ xs) h = let here : f x ≡ x = h x (inl refl) in let rest : map f xs ≡ xs = map_same f xs (λ y m. h y (inr m)) in λ i. here i ∷ rest i

rows_kept : (columns : List (List ℕ)) (rows : List Bindings) → map (λ k. k.row) (map (keyed [] columns) rows) ≡ map (projected columns) rows
rows_kept columns [] = refl
rows_kept columns (s ∷ rows) = ap (λ rest. projected columns s ∷ rest) (rows_kept columns rows)

-- rows whose names are all columns come in some order
ordered_moves : (columns : List (List ℕ)) (rows : List Bindings) → ((s : Bindings) → Among s rows → projected columns s ≡ s) → IsPermutation (in_order [] columns rows) rows
ordered_moves columns rows h =
    let all = map (keyed [] columns) rows in
    let same : map (λ k. k.row) all ≡ rows = rows_kept columns rows ∙ map_same (projected columns) rows h in
    let sorted = sorted_by (keyed_cmp [] columns) all in
    subst (λ (v : List Bindings). IsPermutation (map (λ k. k.row) sorted) v) same (IsPermutation-map (λ k. k.row) sorted all (IsPermutation-sym all sorted (sorted_moves (keyed_cmp [] columns) all)))

-- ---- the join with the one empty solution

pub merge_nothing : (s : Bindings) → IsTrue (rises s) → merge [] s ≡ s
merge_nothing s up = same_entries text_cmp texts_total exact_bytes (merge [] s) s (to_T (rises (merge [] s)) (rises_merge [] s refl)) (to_T (rises s) up) (λ n. find-merge [] s n)

pub merges_nothing : (rows : List Bindings) → AllByRecursion (λ s. IsTrue (rises s)) rows → merges rows [] ≡ rows
merges_nothing rows up = ap (map (merge [])) (keeps_all (agree []) rows (λ s m. refl)) ∙ merged rows up
  where
    merged : (xs : List Bindings) → AllByRecursion (λ s. IsTrue (rises s)) xs → map (merge []) xs ≡ xs
    merged [] h = refl
    merged (x ∷ xs) h = let here : merge [] x ≡ x = merge_nothing x h.0 in let rest : map (merge []) xs ≡ xs = merged xs h.1 in λ i. here i ∷ rest i

pub all_from : (P : Bindings → Type 0) (rows : List Bindings) → ((s : Bindings) → Among s rows → P s) → AllByRecursion P rows
all_from P [] f = tt
all_from P (s ∷ rows) f = (f s (inl refl), all_from P rows (λ t m. f t (inr m)))

-- ---- the parts of the group

-- the rows of a block, joined
abbrev block_operator : Inline → Operator
block_operator inline = record { tree = element.Values inline; services = 0; rows = λ graph number rows. join rows (inline_rows inline); cut = no_station inline.columns }

abbrev parts : List Element → List Part
parts es = map (part_of no_graphs []) es

triple_is : (p : Pattern) → part_of no_graphs [] (element.Triple p) ≡ pattern p
triple_is p = ap (part_of no_graphs []) (sym (element.rolls-Triple p)) ∙ fold-roll-Element Part Meaning (element_meaning no_graphs []) group_meaning (Element-F.Triple p)

filter_is : (e : Expr) → part_of no_graphs [] (element.Filter e) ≡ condition e
filter_is e = ap (part_of no_graphs []) (sym (element.rolls-Filter e)) ∙ fold-roll-Element Part Meaning (element_meaning no_graphs []) group_meaning (Element-F.Filter e)

block_is : (inline : Inline) → part_of no_graphs [] (element.Values inline) ≡ operator (block_operator inline)
block_is inline = ap (part_of no_graphs []) (sym (element.rolls-Values inline)) ∙ fold-roll-Element Part Meaning (element_meaning no_graphs []) group_meaning (Element-F.Values inline)

group_is : (es : List Element) → meaning no_graphs [] (roll-Group (record { elements = es })) ≡ group_meaning (record { elements = parts es })
group_is es = fold-roll-Group Part Meaning (element_meaning no_graphs []) group_meaning (record { elements = es })

patterns_are : {X : Type 0} (f : X → Pattern) (xs : List X) → parts (map (λ x. element.Triple (f x)) xs) ≡ map pattern (map f xs)
patterns_are f [] = refl
patterns_are f (x ∷ xs) = ap (λ (v : Part). v ∷ parts (map (λ y. element.Triple (f y)) xs)) (triple_is (f x)) ∙ ap (λ (v : List Part). pattern (f x) ∷ v) (patterns_are f xs)

conditions_are : {X : Type 0} (f : X → Expr) (xs : List X) → parts (map (λ x. element.Filter (f x)) xs) ≡ map condition (map f xs)
conditions_are f [] = refl
conditions_are f (x ∷ xs) = ap (λ (v : Part). v ∷ parts (map (λ y. element.Filter (f y)) xs)) (filter_is (f x)) ∙ ap (λ (v : List Part). condition (f x) ∷ v) (conditions_are f xs)

-- filters and steps of patterns, then filters
behind_patterns : (ps : List Pattern) (rest : List Part) → conditions_of (map pattern ps ++ rest) ≡ conditions_of rest
behind_patterns [] rest = refl
behind_patterns (p ∷ ps) rest = behind_patterns ps rest

all_filters : (es : List Expr) → conditions_of (map condition es) ≡ es
all_filters [] = refl
all_filters (e ∷ es) = ap (λ (v : List Expr). e ∷ v) (all_filters es)

no_steps : (es : List Expr) → steps_of (map condition es) ≡ []
no_steps [] = refl
no_steps (e ∷ es) = no_steps es

one_run : (p : Pattern) (ps : List Pattern) (rest : List Part) → steps_of rest ≡ [] → steps_of (map pattern (p ∷ ps) ++ rest) ≡ run (p ∷ ps) ∷ []
one_run p [] rest e = ap (with_pattern p) e
one_run p (q ∷ ps) rest e = ap (with_pattern p) (one_run q ps rest e)

-- the block, then patterns, then filters
block_rows : (graph : List Triple) (inline : Inline) (ps : List Pattern) (es : List Expr) → (p : Pattern) (qs : List Pattern) → ps ≡ p ∷ qs
    → group_rows (group_meaning (record { elements = operator (block_operator inline) ∷ (map pattern ps ++ map condition es) })) graph 0 ≡ filtered es (join (join one_empty (inline_rows inline)) (bgp graph ps))
block_rows graph inline ps es p qs is =
    let behind = map pattern ps ++ map condition es in
    let filters : conditions_of behind ≡ es = behind_patterns ps (map condition es) ∙ all_filters es in
    let steps : steps_of behind ≡ run ps ∷ [] = ap (λ (v : List Pattern). steps_of (map pattern v ++ map condition es)) is ∙ one_run p qs (map condition es) (no_steps es) ∙ ap (λ (v : List Pattern). run v ∷ []) (sym is) in
    let first = join one_empty (inline_rows inline) in
    ap (λ (fs : List Expr). filtered fs (after graph 0 first (steps_of behind))) filters ∙ ap (λ (ss : List Step). filtered es (after graph 0 first ss)) steps

first_pattern : (ps : List Pattern) → 0 < length ps → (p : Pattern) × (qs : List Pattern) × (ps ≡ p ∷ qs)
first_pattern [] h = absurd (omega arith)
first_pattern (p ∷ ps) h = (p, ps, refl)

-- the filtered join is that of each row, one after the other
filtered_both : (es : List Expr) (xs ys : List Bindings) → filtered es (xs ++ ys) ≡ filtered es xs ++ filtered es ys
filtered_both es xs ys = filter-append (holds es) xs ys

each_joined : {X : Type 0} (es : List Expr) (right : List Bindings) (f : X → Bindings) (xs : List X) → filtered es (join (map f xs) right) ≡ flat_map (λ x. filtered es (merges right (f x))) xs
each_joined es right f [] = refl
each_joined es right f (x ∷ xs) =
    filtered_both es (merges right (f x)) (join (map f xs) right) ∙ ap (λ (v : List Bindings). filtered es (merges right (f x)) ++ v) (each_joined es right f xs)

rows_each : {X : Type 0} (f : X → List (Option Term)) (names : List (List ℕ)) (xs : List X) → map (inline_row names) (map f xs) ≡ map (λ x. inline_row names (f x)) xs
rows_each f names [] = refl
rows_each f names (x ∷ xs) = ap (λ (v : List Bindings). inline_row names (f x) ∷ v) (rows_each f names xs)

-- ---- a row of the block

cells_rise : (cs : List (List ℕ × Option Term)) (s : Bindings) → IsTrue (rises s) → IsTrue (rises (fold with_cell s cs))
cells_rise [] s up = up
cells_rise (c ∷ cs) s up = cells_rise cs (with_cell s c) (value_rises s c.0 c.1 up)

pub block_rises : (names : List (List ℕ)) (row : List (Option Term)) → IsTrue (rises (inline_row names row))
block_rises names row = cells_rise (zip names row) [] refl

or_none : (o : Option Term) → option_or o None ≡ o
or_none None = refl
or_none (Some t) = refl

-- the term of a name with one more value
pub value_term : (s : Bindings) (name : List ℕ) (o : Option Term) (n : List ℕ) → term_of (with_value s name o) n ≡ option_or (term_of s n) (cond (is_eq (text_cmp n name)) o None)
value_term s name None n = by (is_eq (text_cmp n name))
  where
    by : (b : Bool) → term_of s n ≡ option_or (term_of s n) (cond b None None)
    by true = sym (or_none (term_of s n))
    by false = sym (or_none (term_of s n))
value_term s name (Some t) n = find-merge s ((name, t) ∷ []) n

pub missed_too : (m n : List ℕ) → is_eq (text_cmp n m) ≡ false → is_eq (text_cmp m n) ≡ false
missed_too m n h = by (is_eq (text_cmp m n)) refl
  where
    by : (b : Bool) → is_eq (text_cmp m n) ≡ b → is_eq (text_cmp m n) ≡ false
    by true e = let two : true ≡ false = sym (eq_itself n) ∙ ap (λ v. is_eq (text_cmp n v)) (sym (name_from m n e)) ∙ h in absurd (cc)
    by false e = e

-- a name that is no column has no term
pub cells_outside : (names : List (List ℕ)) (row : List (Option Term)) (s : Bindings) (n : List ℕ) → is_among names n ≡ false → term_of (fold with_cell s (zip names row)) n ≡ term_of s n
cells_outside [] row s n h = refl
cells_outside (name ∷ names) [] s n h = refl
cells_outside (name ∷ names) (o ∷ row) s n h =
    let k = neither (is_eq (text_cmp name n)) (is_among names n) h in
    cells_outside names row (with_value s name o) n k.1
    ∙ value_term s name o n
    ∙ ap (λ (b : Bool). option_or (term_of s n) (cond b o None)) (missed_too n name k.0)
    ∙ or_none (term_of s n)
  where
    neither : (a b : Bool) → (a || b) ≡ false → (a ≡ false) × (b ≡ false)
    neither true b e = absurd (cc)
    neither false b e = (refl, e)

pub block_outside : (names : List (List ℕ)) (row : List (Option Term)) (n : List ℕ) → is_among names n ≡ false → term_of (inline_row names row) n ≡ None
block_outside names row n h = cells_outside names row [] n h

-- ---- the names of renamed patterns

module _ (rename : List ℕ → List ℕ) where
  part_renamed : (part : PatternTerm) → part_names (bound_part rename [] part) ≡ map rename (part_names part)
  part_renamed (Constant t) = refl
  part_renamed (Variable name) = refl

  pub pattern_renamed : (p : Pattern) → pattern_names (bound_pattern rename [] p) ≡ map rename (pattern_names p)
  pattern_renamed p =
      (λ i. part_renamed p.subject i ++ (part_renamed p.predicate i ++ part_renamed p.object i))
      ∙ ap (λ (v : List (List ℕ)). map rename (part_names p.subject) ++ v) (sym (map-append rename (part_names p.predicate) (part_names p.object)))
      ∙ sym (map-append rename (part_names p.subject) (part_names p.predicate ++ part_names p.object))

  variables_renamed : (ps : List Pattern) → variables (map (bound_pattern rename []) ps) ≡ map rename (variables ps)
  variables_renamed [] = refl
  variables_renamed (p ∷ ps) = (λ i. pattern_renamed p i ++ variables_renamed ps i) ∙ sym (map-append rename (pattern_names p) (variables ps))

pub same_tests : (b c : Bool) → (b ≡ true → c ≡ true) → (c ≡ true → b ≡ true) → b ≡ c
same_tests true c f g = sym (f refl)
same_tests false true f g = g refl
same_tests false false f g = refl

-- each other name once is among the same
once_renamed : (rename : List ℕ → List ℕ) (names : List (List ℕ)) (n : List ℕ) → is_among (map rename names) n ≡ is_among (map rename (once names)) n
once_renamed rename names n =
    same_tests (is_among (map rename names) n) (is_among (map rename (once names)) n)
    (into names (once names) (λ m k. among_from_test (once names) m (among_once names m ∙ test_from names m k)))
    (into (once names) names (λ m k. among_from_test names m (sym (among_once names m) ∙ test_from (once names) m k)))
  where
    into : (xs ys : List (List ℕ)) → ((m : List ℕ) → Among m xs → Among m ys) → is_among (map rename xs) n ≡ true → is_among (map rename ys) n ≡ true
    into xs ys f h =
        let a = among_from_map rename n xs (among_from_test (map rename xs) n h) in
        test_from (map rename ys) n (subst (λ (v : List ℕ). Among v (map rename ys)) a.2 (among_map rename a.0 ys (f a.0 a.1)))

-- ---- the rows

-- a row binds just these names
abbrev pub BindsJust : List (List ℕ) → Bindings → Type 0
BindsJust names row = (name : List ℕ) → is_some (term_of row name) ≡ is_among names name

module _ (graph : List Triple) (u : unit.Unit) where
  pub solution_binds : (t : Bindings) → Among t (bgp graph (map (bound_pattern (renamed u) []) u.patterns)) → BindsJust (map (renamed u) (unit_names u)) t
  solution_binds t m name =
      (solution_of graph (map (bound_pattern (renamed u) []) u.patterns) t (contains_from (bgp graph (map (bound_pattern (renamed u) []) u.patterns)) t m)).binds name
      ∙ ap (λ (v : List (List ℕ)). is_among v name) (variables_renamed (renamed u) u.patterns)
      ∙ once_renamed (renamed u) (variables u.patterns) name

  pub solution_rises : (t : Bindings) → Among t (bgp graph (map (bound_pattern (renamed u) []) u.patterns)) → IsTrue (rises t)
  solution_rises t m = (solution_of graph (map (bound_pattern (renamed u) []) u.patterns) t (contains_from (bgp graph (map (bound_pattern (renamed u) []) u.patterns)) t m)).rises

  -- a row of the block binds columns alone
  block_binds : (b : Place) (name : List ℕ) → is_among (columns u) name ≡ false → term_of (inline_row (columns u) (cells u b)) name ≡ None
  block_binds b name h = block_outside (columns u) (cells u b) name h

  pub its_parts : (b : Place) (s : Bindings) → Among s (rows_of graph u b) → (t : Bindings) × Among t (bgp graph (map (bound_pattern (renamed u) []) u.patterns)) × (agree (inline_row (columns u) (cells u b)) t ≡ true) × (merge (inline_row (columns u) (cells u b)) t ≡ s)
  its_parts b s m =
      let r = inline_row (columns u) (cells u b) in
      let solutions = bgp graph (map (bound_pattern (renamed u) []) u.patterns) in
      let k = in_kept (holds (map (bound_expr (renamed u) []) u.filters)) s (merges solutions r) m in
      let a = among_from_map (merge r) s (filter (agree r) solutions) k.0 in
      let c = in_kept (agree r) a.0 solutions a.1 in
      (a.0, c.0, c.1, a.2)

  -- what a row of the block merges to binds columns alone
  pub row_columns : (b : Place) (s : Bindings) → Among s (rows_of graph u b) → (name : List ℕ) → is_some (term_of s name) ≡ true → is_among (columns u) name ≡ true
  row_columns b s m name h =
      let a = its_parts b s m in
      let r = inline_row (columns u) (cells u b) in
      by a.0 a.1 (is_among (columns u) name) refl (sym (ap is_some (ap (λ v. term_of v name) (sym a.3) ∙ find-merge r a.0 name) ∙ some_or (term_of r name) (term_of a.0 name)) ∙ h)
    where
      by : (t : Bindings) → Among t (bgp graph (map (bound_pattern (renamed u) []) u.patterns)) → (c : Bool) → is_among (columns u) name ≡ c
          → (is_some (term_of (inline_row (columns u) (cells u b)) name) || is_some (term_of t name)) ≡ true → is_among (columns u) name ≡ true
      by t n true e f = e
      by t n false e f =
          let none : is_some (term_of (inline_row (columns u) (cells u b)) name) ≡ false = ap is_some (block_binds b name e) in
          let bound : is_some (term_of t name) ≡ true = ap (λ (v : Bool). v || is_some (term_of t name)) (sym none) ∙ f in
          let there : is_among (map (renamed u) (unit_names u)) name ≡ true = sym (solution_binds t n name) ∙ bound in
          among_more (is_eq (text_cmp number_name name)) there
        where
          among_more : (v : Bool) → is_among (map (renamed u) (unit_names u)) name ≡ true → (v || is_among (map (renamed u) (unit_names u)) name) ≡ true
          among_more true k = refl
          among_more false k = k

pub found_some : (es : Bindings) (e : List ℕ × Term) → Among e es → is_some (term_of es e.0) ≡ true
found_some [] e m = absurd m
found_some (f ∷ fs) e m = pick (is_eq (text_cmp e.0 f.0)) refl m (found_some fs e)
  where
    pick : (b : Bool) → is_eq (text_cmp e.0 f.0) ≡ b → Among e (f ∷ fs) → (Among e fs → is_some (term_of fs e.0) ≡ true) → is_some (cond b (Some f.1) (term_of fs e.0)) ≡ true
    pick true g m later = refl
    pick false g (inl k) later = let tied : is_eq (text_cmp e.0 f.0) ≡ true = ap (λ (n : List ℕ). is_eq (text_cmp e.0 n)) (ap (λ (x : List ℕ × Term). x.0) k) ∙ ap is_eq (tied_itself texts_total e.0) in absurd (cc)
    pick false g (inr k) later = later k

-- ---- the law

module _ (graph : List Triple) (u : unit.Unit) (fit : IsFit u) (bs : List Place) where
  made : parts (elements u bs) ≡ operator (block_operator (block u bs)) ∷ (map pattern (map (bound_pattern (renamed u) []) u.patterns) ++ map condition (map (bound_expr (renamed u) []) u.filters))
  made =
      (λ i.
      block_is (block u bs) i
      ∷ map-append (part_of no_graphs []) (map (λ p. element.Triple (bound_pattern (renamed u) [] p)) u.patterns) (map (λ e. element.Filter (bound_expr (renamed u) [] e)) u.filters) i)
      ∙ (λ i. operator (block_operator (block u bs)) ∷ (patterns_are (bound_pattern (renamed u) []) u.patterns i ++ conditions_are (bound_expr (renamed u) []) u.filters i))

  query_rows_are : query_rows (values_query u bs) graph no_graphs [] ≡ flat_map (rows_of graph u) bs
  query_rows_are =
      let ps = map (bound_pattern (renamed u) []) u.patterns in
      let es = map (bound_expr (renamed u) []) u.filters in
      let first = first_pattern ps (subst (λ (n : ℕ). 0 < n) (sym (length-map u.patterns (bound_pattern (renamed u) []))) fit.some) in
      let rows = map (λ (b : Place). inline_row (columns u) (cells u b)) bs in
      let blocked : inline_rows (block u bs) ≡ rows = rows_each (cells u) (columns u) bs in
      let up : AllByRecursion (λ s. IsTrue (rises s)) rows =
      all_from (λ s. IsTrue (rises s)) rows (λ s m. let a = among_from_map (λ (b : Place). inline_row (columns u) (cells u b)) s bs m in subst (λ (v : Bindings). IsTrue (rises v)) a.2 (block_rises (columns u) (cells u a.0))) in
      ap (λ (m : Meaning). group_rows m graph 0) (group_is (elements u bs) ∙ ap (λ (v : List Part). group_meaning (record { elements = v })) made)
      ∙ block_rows graph (block u bs) ps es first.0 first.1 first.2
      ∙ ap (λ (v : List Bindings). filtered es (join (join one_empty v) (bgp graph ps))) blocked
      ∙ ap (λ (v : List Bindings). filtered es (join v (bgp graph ps))) (append-nil (merges rows []) ∙ merges_nothing rows up)
      ∙ each_joined es (bgp graph ps) (λ (b : Place). inline_row (columns u) (cells u b)) bs

  row_kept : (row : Bindings) → Among row (flat_map (rows_of graph u) bs) → projected (columns u) row ≡ row
  row_kept row m =
      let a = among_from_flat_map (rows_of graph u) row bs m in
      keeps_all (λ (e : List ℕ × Term). is_among (columns u) e.0) row (λ e k. row_columns graph u a.0 row a.2 e.0 (found_some row e k))

  pub has_the_rows : HasTheRows graph u bs
  has_the_rows = record {
    rows = in_order [] (columns u) (flat_map (rows_of graph u) bs);
    answer_is = ap (λ (rows : List Bindings). form_answer (values_query u bs) (values_query u bs).form rows) query_rows_are;
    rows_are = ordered_moves (columns u) (flat_map (rows_of graph u) bs) row_kept;
  }

pub values_have_the_rows : ValuesHaveTheRows
values_have_the_rows graph u bs fit = has_the_rows graph u fit bs
