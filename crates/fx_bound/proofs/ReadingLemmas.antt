-- The rows of an answer tell of each branch what the graph has for it.
use Rattle.std.proofs.Common.{◌≡◌, ◌∙◌, ap, sym, subst, refl, inl, inr, ◌⊎◌, ℕ, suc, ◌<◌, ◌≤◌, ◌+◌, ◌^◌, Bool, true, false, not, ◌&&◌, ◌||◌, T, cond, List, [], ◌∷◌, ◌++◌, map, filter, length, Option, Some, None, is_some, is_none, Ok, Err, IsTrue, IsPermutation, arith}
use Rattle.std.specs.Prelude.{Result, pos}
use Rattle.std.specs.List.{AllByRecursion, flat_map, list_all, list_any}
use Rattle.std.specs.FinMap.Entries.{same_entries}
use Rattle.std.specs.Option.{option_or}
use Rattle.std.specs.Ordering.{is_eq}
use Rattle.std.proofs.lemmas.Cmp.{tied_itself}
use Rattle.std.proofs.lemmas.List.{map-append}
use Rattle.std.proofs.lemmas.List.Elements.{All-from_recursion, filter-append, recursion_from_All}
use Rattle.std.proofs.lemmas.List.Sorted.{IsPermutation-map}
use Rattle.std.proofs.lemmas.Map.Lookups.{exact_bytes}
use Rattle.fx_terms.specs.Texts.{text_cmp, texts_total}
use Rattle.fx_terms.specs.declared.terms.Term.{Term}
use Rattle.fx_terms.specs.declared.triples.Triple.{Triple}
use Rattle.fx_terms.specs.declared.patterns.Pattern.{Pattern}
use Rattle.fx_terms.specs.declared.patterns.PatternTerm.{PatternTerm}
use Rattle.fx_terms.specs.declared.patterns.PatternTerm.TheVariants.{Variable, Constant}
use Rattle.fx_terms.proofs.SetLemmas.{Among, contains_from}
use Rattle.fx_algebra.specs.BasicGraphPatterns.{bgp, variables}
use Rattle.fx_algebra.specs.Conditions.{holds}
use Rattle.fx_algebra.specs.Operators.{with_value}
use Rattle.fx_algebra.specs.Scopes.{is_among, once, part_names, pattern_names}
use Rattle.fx_algebra.specs.Solutions.{Bindings, rises, term_of, with_pair}
use Rattle.fx_algebra.specs.Units.{is_covered}
use Rattle.fx_algebra.specs.Values.{integer}
use Rattle.fx_algebra.specs.declared.units.Row.{Row}
use Rattle.fx_algebra.specs.declared.units.Unit as unit
use Rattle.fx_algebra.proofs.BgpLemmas.{solution_of}
use Rattle.fx_algebra.proofs.ForcedLemmas.{name_from, with_pair_has}
use Rattle.fx_algebra.proofs.MemberLemmas.{IsOnce, among_flat_map, among_from_map, among_map}
use Rattle.fx_spelling.specs.Units.{IsFit, IsPushed}
use Rattle.fx_renaming.specs.Branches.{TellsApart, bound_expr, bound_part, bound_pattern, part_by, told}
use Rattle.fx_bound.specs.Reading.{AnswerTellsBranches, AreRead, all_columns, binds_all, binds_one, branch_rows, branch_solutions, check_name, checked_by, columns_by, columns_of, free_names, place_of, read_bound, read_row, renamed, unit_names}
use Rattle.fx_founds.specs.Unions.{beside}
use Rattle.fx_founds.specs.Uniting.{Place, branches, is_worth_asking, places_from, tells}
use Rattle.fx_bound.specs.declared.faults.RowFault.{RowFault}
use Rattle.fx_bound.specs.declared.faults.RowFault.TheVariants.{Foreign, Partial}
use Rattle.fx_founds.specs.declared.founds.Found.{Found}
use Rattle.fx_renaming.proofs.BranchLemmas.{branch_tells_its_row, told_rises, told_term}
use Rattle.fx_bound.proofs.NamingLemmas.{among_from_test, among_once, check_apart, place_apart, place_low, sent_apart, sent_is_no_check, test_from}
use Rattle.fx_founds.proofs.RowLemmas.{flat_each, map_both, map_flat}
use Rattle.fx_founds.proofs.UnionLemmas.{in_kept, kept_in, once_kept}
use Rattle.fx_founds.proofs.UniteLemmas.{all_covered, its_row, number_above, one_place, permuted}

to_T : (b : Bool) → b ≡ true → T b
to_T true h = tt
to_T false h = cc

-- ---- lists

pub map_each : {X Y : Type 0} (f g : X → Y) (xs : List X) → ((x : X) → Among x xs → f x ≡ g x) → map f xs ≡ map g xs
map_each f g [] h = refl
map_each f g (x ∷ xs) h = let here : f x ≡ g x = h x (inl refl) in let rest : map f xs ≡ map g xs = map_each f g xs (λ y m. h y (inr m)) in λ i. here i ∷ rest i

pub all_pass : {X : Type 0} (p : X → Bool) (xs : List X) → ((x : X) → Among x xs → p x ≡ true) → list_all p xs ≡ true
all_pass p [] h = refl
all_pass p (x ∷ xs) h = ap (λ (b : Bool). b && list_all p xs) (h x (inl refl)) ∙ all_pass p xs (λ y m. h y (inr m))

none_pass : {X : Type 0} (p : X → Bool) (xs : List X) → ((x : X) → Among x xs → p x ≡ false) → list_any p xs ≡ false
none_pass p [] h = refl
none_pass p (x ∷ xs) h = ap (λ (b : Bool). b || list_any p xs) (h x (inl refl)) ∙ none_pass p xs (λ y m. h y (inr m))

some_pass : {X : Type 0} (p : X → Bool) (xs : List X) (x : X) → Among x xs → p x ≡ true → list_any p xs ≡ true
some_pass p [] x m h = absurd m
some_pass p (y ∷ ys) x (inl e) h = ap (λ (b : Bool). b || list_any p ys) (ap p e ∙ h)
some_pass p (y ∷ ys) x (inr m) h = or_right (p y) (list_any p ys) (some_pass p ys x m h)
  where
    or_right : (b c : Bool) → c ≡ true → (b || c) ≡ true
    or_right true c k = refl
    or_right false c k = k

-- ---- the other names of the variables that are left

module _ (rename : List ℕ → List ℕ) (row : Bindings) where
  part_left : (part : PatternTerm) → part_names (bound_part rename row part) ≡ map rename (filter (λ name. is_none (term_of row name)) (part_names part))
  part_left (Constant t) = refl
  part_left (Variable name) = by (term_of row name)
    where
      by : (o : Option Term) → part_names (part_by rename name o) ≡ map rename (cond (is_none o) (name ∷ []) [])
      by None = refl
      by (Some t) = refl

  both_left : (xs ys : List (List ℕ)) → map rename (filter (λ name. is_none (term_of row name)) (xs ++ ys)) ≡ map rename (filter (λ name. is_none (term_of row name)) xs) ++ map rename (filter (λ name. is_none (term_of row name)) ys)
  both_left xs ys =
      ap (map rename) (filter-append (λ name. is_none (term_of row name)) xs ys)
      ∙ map-append rename (filter (λ name. is_none (term_of row name)) xs) (filter (λ name. is_none (term_of row name)) ys)

  abbrev pub left : List (List ℕ) → List (List ℕ)
  left names = map rename (filter (λ name. is_none (term_of row name)) names)

  pub pattern_left : (p : Pattern) → pattern_names (bound_pattern rename row p) ≡ left (pattern_names p)
  pattern_left p =
      ap (λ (v : List (List ℕ)). v ++ (part_names (bound_part rename row p.predicate) ++ part_names (bound_part rename row p.object))) (part_left p.subject)
      ∙ ap (λ (v : List (List ℕ)). left (part_names p.subject) ++ (v ++ part_names (bound_part rename row p.object))) (part_left p.predicate)
      ∙ ap (λ (v : List (List ℕ)). left (part_names p.subject) ++ (left (part_names p.predicate) ++ v)) (part_left p.object)
      ∙ ap (λ (v : List (List ℕ)). left (part_names p.subject) ++ v) (sym (both_left (part_names p.predicate) (part_names p.object)))
      ∙ sym (both_left (part_names p.subject) (part_names p.predicate ++ part_names p.object))

  variables_left : (ps : List Pattern) → variables (map (bound_pattern rename row) ps) ≡ left (variables ps)
  variables_left [] = refl
  variables_left (p ∷ ps) =
      ap (λ (v : List (List ℕ)). v ++ variables (map (bound_pattern rename row) ps)) (pattern_left p)
      ∙ ap (λ (v : List (List ℕ)). left (pattern_names p) ++ v) (variables_left ps)
      ∙ sym (both_left (pattern_names p) (variables ps))

-- the names that are left are the same where each stands once
once_left : (rename : List ℕ → List ℕ) (row : Bindings) (names : List (List ℕ)) (name : List ℕ) → is_among (left rename row names) name ≡ is_among (left rename row (once names)) name
once_left rename row names name = same_tests (is_among (left rename row names) name) (is_among (left rename row (once names)) name) (into names (once names) (λ n m. among_from_test (once names) n (among_once names n ∙ test_from names n m)))
    (into (once names) names (λ n m. among_from_test names n (sym (among_once names n) ∙ test_from (once names) n m)))
  where
    into : (xs ys : List (List ℕ)) → ((n : List ℕ) → Among n xs → Among n ys) → is_among (left rename row xs) name ≡ true → is_among (left rename row ys) name ≡ true
    into xs ys f h =
        let a = among_from_map rename name (filter (λ n. is_none (term_of row n)) xs) (among_from_test (left rename row xs) name h) in
        let k = in_kept (λ n. is_none (term_of row n)) a.0 xs a.1 in
        test_from (left rename row ys) name (subst (λ (v : List ℕ). Among v (left rename row ys)) a.2 (among_map rename a.0 (filter (λ n. is_none (term_of row n)) ys) (kept_in (λ n. is_none (term_of row n)) a.0 ys (f a.0 k.0) k.1)))

    same_tests : (b c : Bool) → (b ≡ true → c ≡ true) → (c ≡ true → b ≡ true) → b ≡ c
    same_tests true c f g = sym (f refl)
    same_tests false true f g = g refl
    same_tests false false f g = refl

-- ---- rows that bind just the columns of a branch

abbrev pub BindsJust : List (List ℕ) → Bindings → Type 0
BindsJust columns row = (name : List ℕ) → is_some (term_of row name) ≡ is_among columns name

module _ (graph : List Triple) (u : unit.Unit) (b : Place) where
  abbrev solved : Bindings → Type 0
  solved s = Among s (branch_solutions graph u b)

  solution_binds : (s : Bindings) → solved s → BindsJust (map (renamed u b.number) (free_names u b.row.solution)) s
  solution_binds s m name =
      let qs = map (bound_pattern (renamed u b.number) b.row.solution) u.patterns in
      let k = in_kept (holds (map (bound_expr (renamed u b.number) b.row.solution) u.filters)) s (bgp graph qs) m in
      (solution_of graph qs s (contains_from (bgp graph qs) s k.0)).binds name
      ∙ ap (λ (v : List (List ℕ)). is_among v name) (variables_left (renamed u b.number) b.row.solution u.patterns)
      ∙ once_left (renamed u b.number) b.row.solution (variables u.patterns) name

  pub solution_rises : (s : Bindings) → solved s → IsTrue (rises s)
  solution_rises s m =
      let qs = map (bound_pattern (renamed u b.number) b.row.solution) u.patterns in
      let k = in_kept (holds (map (bound_expr (renamed u b.number) b.row.solution) u.filters)) s (bgp graph qs) m in
      (solution_of graph qs s (contains_from (bgp graph qs) s k.0)).rises

-- a solution that binds nothing has no pair
nothing_bound : (s : Bindings) → IsTrue (rises s) → BindsJust [] s → s ≡ []
nothing_bound s up h = same_entries text_cmp texts_total exact_bytes s [] (to_T (rises s) up) tt (λ name. by (term_of s name) (h name))
  where
    by : (o : Option Term) → is_some o ≡ false → o ≡ None
    by None e = refl
    by (Some t) e = cc

one_column : (number : ℕ) (t : Term) → BindsJust (check_name number ∷ []) (with_value [] (check_name number) (Some t))
one_column number t name =
    ap is_some (with_pair_has [] (check_name number) t name)
    ∙ by (is_eq (text_cmp name (check_name number))) refl (is_eq (text_cmp (check_name number) name)) refl
  where
    itself : (n : List ℕ) → is_eq (text_cmp n n) ≡ true
    itself n = ap is_eq (tied_itself texts_total n)

    by : (c : Bool) → is_eq (text_cmp name (check_name number)) ≡ c → (d : Bool) → is_eq (text_cmp (check_name number) name) ≡ d → is_some (cond c (Some t) None) ≡ (is_eq (text_cmp (check_name number) name) || false)
    by true e true f = sym (ap (λ (x : Bool). x || false) f)
    by true e false f = let two : true ≡ false = sym (itself (check_name number)) ∙ ap (λ v. is_eq (text_cmp (check_name number) v)) (sym (name_from name (check_name number) e)) ∙ f in absurd (cc)
    by false e true f = let two : true ≡ false = sym (itself name) ∙ ap (λ v. is_eq (text_cmp name v)) (sym (name_from (check_name number) name f)) ∙ e in absurd (cc)
    by false e false f = sym (ap (λ (x : Bool). x || false) f)

columns_bound : (number : ℕ) (names : List (List ℕ)) (left : List (List ℕ)) (s : Bindings) → IsTrue (rises s) → left ≡ names → BindsJust left s → (count : List (List ℕ)) → (left ≡ [] → count ≡ []) → (count ≡ [] → left ≡ []) → BindsJust (columns_by number left) (checked_by number count s)
columns_bound number names [] s up e h [] f g = subst (λ (v : Bindings). BindsJust (check_name number ∷ []) (with_value v (check_name number) (Some (integer (pos 1))))) (sym (nothing_bound s up h)) (one_column number (integer (pos 1)))
columns_bound number names [] s up e h (n ∷ ns) f g = let no : n ∷ ns ≡ [] = f refl in absurd (cc)
columns_bound number names (l ∷ ls) s up e h [] f g = let no : l ∷ ls ≡ [] = g refl in absurd (cc)
columns_bound number names (l ∷ ls) s up e h (n ∷ ns) f g = h

map_none : (rename : List ℕ → List ℕ) (names : List (List ℕ)) → map rename names ≡ [] → names ≡ []
map_none rename [] h = refl
map_none rename (n ∷ ns) h = cc

pub row_binds : (graph : List Triple) (u : unit.Unit) (b : Place) (s : Bindings) → Among s (branch_solutions graph u b) → BindsJust (columns_of u b) (checked_by b.number (free_names u b.row.solution) s)
row_binds graph u b s m =
    let left = map (renamed u b.number) (free_names u b.row.solution) in
    columns_bound b.number left left s (solution_rises graph u b s m) refl (solution_binds graph u b s m) (free_names u b.row.solution) (map_none (renamed u b.number) (free_names u b.row.solution)) (ap (map (renamed u b.number)))

-- ---- columns tell branches apart

low_number : (number n : ℕ) → number < n → n ≤ 64 → number < 2 ^ 64
low_number number n h k = omega arith

number_below : (n : ℕ) (rows : List Row) (b : Place) → Among b (places_from n rows) → b.number < n + length rows
number_below n [] b m = absurd m
number_below n (r ∷ rows) b (inl e) = let same : n ≡ b.number = ap (λ (v : Place). v.number) e in omega (arith, same)
number_below n (r ∷ rows) b (inr m) = let low = number_below (suc n) rows b m in omega (arith, low)

module _ (u : unit.Unit) (short : length (unit_names u) < 2 ^ 64) where
  -- a column is the other name of a variable, or the one of a branch that has none
  abbrev pub IsColumn : ℕ → List ℕ → Type 0
  IsColumn number column = ((n : List ℕ) × (is_among (unit_names u) n ≡ true) × (renamed u number n ≡ column)) ⊎ (check_name number ≡ column)

  column_by : (number : ℕ) (free columns : List (List ℕ)) → columns ≡ map (renamed u number) free → ((n : List ℕ) → Among n free → is_among (unit_names u) n ≡ true) → (column : List ℕ) → Among column (columns_by number columns) → IsColumn number column
  column_by number free [] e f column (inl same) = inr same
  column_by number free [] e f column (inr m) = absurd m
  column_by number free (c ∷ cs) e f column m =
      let a = among_from_map (renamed u number) column free (subst (Among column) e m) in
      inl (a.0, f a.0 a.1, a.2)

  pub is_column : (b : Place) (column : List ℕ) → Among column (columns_of u b) → IsColumn b.number column
  is_column b column m =
      column_by b.number (free_names u b.row.solution) (map (renamed u b.number) (free_names u b.row.solution)) refl
      (λ n k. test_from (unit_names u) n (in_kept (λ name. is_none (term_of b.row.solution name)) n (unit_names u) k).0) column m

  pub one_number : (i l : ℕ) → i < 2 ^ 64 → l < 2 ^ 64 → (column : List ℕ) → IsColumn i column → IsColumn l column → i ≡ l
  one_number i l low high column (inl a) (inl b) =
      (sent_apart (place_of (unit_names u) a.0) i (place_of (unit_names u) b.0) l (near a.0 a.1) low (near b.0 b.1) high (a.2 ∙ sym b.2)).1
    where
      near : (n : List ℕ) → is_among (unit_names u) n ≡ true → place_of (unit_names u) n < 2 ^ 64
      near n h = let here = place_low (unit_names u) n h in omega (arith, here, short)
  one_number i l low high column (inl a) (inr b) = absurd (sent_is_no_check (place_of (unit_names u) a.0) i l (a.2 ∙ sym b))
  one_number i l low high column (inr a) (inl b) = absurd (sent_is_no_check (place_of (unit_names u) b.0) l i (b.2 ∙ sym a))
  one_number i l low high column (inr a) (inr b) = check_apart i l low high (a ∙ sym b)

  -- no two of a unit's variables have one other name in a branch
  names_apart : (i : ℕ) → i < 2 ^ 64 → TellsApart (renamed u i) (variables u.patterns)
  names_apart i low m n h k e =
      let a : is_among (unit_names u) m ≡ true = among_once (variables u.patterns) m ∙ h in
      let b : is_among (unit_names u) n ≡ true = among_once (variables u.patterns) n ∙ k in
      let near = place_low (unit_names u) m a in
      let far = place_low (unit_names u) n b in
      place_apart (unit_names u) m n a b (sent_apart (place_of (unit_names u) m) i (place_of (unit_names u) n) i (omega (arith, near, short)) low (omega (arith, far, short)) low e).0

-- ---- one row is read

pub found_some : (es : Bindings) (e : List ℕ × Term) → Among e es → is_some (term_of es e.0) ≡ true
found_some [] e m = absurd m
found_some (f ∷ fs) e m = pick (is_eq (text_cmp e.0 f.0)) refl m (found_some fs e)
  where
    pick : (b : Bool) → is_eq (text_cmp e.0 f.0) ≡ b → Among e (f ∷ fs) → (Among e fs → is_some (term_of fs e.0) ≡ true) → is_some (cond b (Some f.1) (term_of fs e.0)) ≡ true
    pick true g m later = refl
    pick false g (inl k) later = let tied : is_eq (text_cmp e.0 f.0) ≡ true = ap (λ (n : List ℕ). is_eq (text_cmp e.0 n)) (ap (λ (x : List ℕ × Term). x.0) k) ∙ ap is_eq (tied_itself texts_total e.0) in absurd (cc)
    pick false g (inr k) later = later k

a_column : (number : ℕ) (columns : List (List ℕ)) → (c : List ℕ) × Among c (columns_by number columns)
a_column number [] = (check_name number, inl refl)
a_column number (c ∷ cs) = (c, inl refl)

none_stays : (p : Place → Bool) (ds : List Place) → ((d : Place) → Among d ds → p d ≡ false) → filter p ds ≡ []
none_stays p [] h = refl
none_stays p (d ∷ ds) h = ap (λ (v : Bool). cond v (d ∷ filter p ds) (filter p ds)) (h d (inl refl)) ∙ none_stays p ds (λ e k. h e (inr k))

-- of places with different numbers one alone passes
alone_passes : (p : Place → Bool) (bs : List Place) (b : Place) → Among b bs → p b ≡ true → ((c : Place) → Among c bs → p c ≡ true → c ≡ b) → IsOnce bs → filter p bs ≡ b ∷ []
alone_passes p [] b m passes only apart = absurd m
alone_passes p (c ∷ cs) b m passes only apart = by (p c) refl m (λ n. alone_passes p cs b n passes (λ d k. only d (inr k)) apart.1)
  where
    fails : (d : Place) → Among d cs → c ≡ b → (v : Bool) → p d ≡ v → p d ≡ false
    fails d k same true e = absurd (apart.0 (subst (λ (x : Place). Among x cs) (only d (inr k) e ∙ sym same) k))
    fails d k same false e = e

    by : (v : Bool) → p c ≡ v → Among b (c ∷ cs) → (Among b cs → filter p cs ≡ b ∷ []) → cond v (c ∷ filter p cs) (filter p cs) ≡ b ∷ []
    by true e k f =
        let same : c ≡ b = only c (inl refl) e in
        ap (λ (x : Place). x ∷ filter p cs) same ∙ ap (λ (ds : List Place). b ∷ ds) (none_stays p cs (λ d n. fails d n same (p d) refl))
    by false e (inl same) f = let two : true ≡ false = sym passes ∙ ap p (sym same) ∙ e in absurd (cc)
    by false e (inr n) f = f n

pub places_once : (n : ℕ) (rows : List Row) → IsOnce (places_from n rows)
places_once n [] = tt
places_once n (r ∷ rows) = ((λ m. let low = number_above (suc n) rows (record { number = n; row = r }) m in absurd (omega (arith, low))), places_once (suc n) rows)

-- a column that is bound
one_bound : (row : Bindings) (names : List (List ℕ)) → binds_one names row ≡ true → (n : List ℕ) × Among n names × (is_some (term_of row n) ≡ true)
one_bound row [] e = absurd (cc)
one_bound row (n ∷ ns) e = pick (is_some (term_of row n)) refl e (one_bound row ns)
  where
    pick : (v : Bool) → is_some (term_of row n) ≡ v → (v || binds_one ns row) ≡ true → (binds_one ns row ≡ true → (k : List ℕ) × Among k ns × (is_some (term_of row k) ≡ true)) → (k : List ℕ) × Among k (n ∷ ns) × (is_some (term_of row k) ≡ true)
    pick true f g later = (n, inl refl, f)
    pick false f g later = let x = later g in (x.0, inr x.1, x.2)

module _ (u : unit.Unit) (rows : List Row) (few : length rows ≤ 64) (short : length (unit_names u) < 2 ^ 64) where
  pub low : (b : Place) → Among b (branches u rows) → b.number < 2 ^ 64
  low b m =
      let k = in_kept (is_worth_asking u) b (places_from 0 rows) m in
      let h = number_below 0 rows b k.0 in
      low_number b.number (length rows) (omega (arith, h)) few

  -- a row that binds just the columns of a branch is read as that branch's
  pub row_read : (b : Place) (row : Bindings) → Among b (branches u rows) → BindsJust (columns_of u b) row
      → read_row u (branches u rows) row ≡ Ok (record { branch = b.number; solution = told (renamed u b.number) (unit_names u) b.row.solution row })
  row_read b row m h =
      let bs = branches u rows in
      let known : list_any (λ (e : List ℕ × Term). not (is_among (all_columns u bs) e.0)) row ≡ false =
      none_pass (λ (e : List ℕ × Term). not (is_among (all_columns u bs) e.0)) row
      (λ e k. ap not (test_from (all_columns u bs) e.0 (among_flat_map (columns_of u) b e.0 bs m (among_from_test (columns_of u b) e.0 (sym (h e.0) ∙ found_some row e k))))) in
      let first = a_column b.number (map (renamed u b.number) (free_names u b.row.solution)) in
      let mine : binds_one (columns_of u b) row ≡ true = some_pass (λ name. is_some (term_of row name)) (columns_of u b) first.0 first.1 (h first.0 ∙ test_from (columns_of u b) first.0 first.1) in
      let alone : filter (λ c. binds_one (columns_of u c) row) bs ≡ b ∷ [] =
      alone_passes (λ c. binds_one (columns_of u c) row) bs b m mine (λ c k e. others c k e) (once_kept (is_worth_asking u) (places_from 0 rows) (places_once 0 rows)) in
      let whole : binds_all (columns_of u b) row ≡ true = all_pass (λ name. is_some (term_of row name)) (columns_of u b) (λ name k. h name ∙ test_from (columns_of u b) name k) in
      ap (λ (v : Bool). cond v (Err Foreign) (read_bound u row (filter (λ c. binds_one (columns_of u c) row) bs))) known
      ∙ ap (read_bound u row) alone
      ∙ ap (λ (v : Bool). cond v (Ok (record { branch = b.number; solution = told (renamed u b.number) (unit_names u) b.row.solution row })) (Err Partial)) whole
    where
      others : (c : Place) → Among c (branches u rows) → binds_one (columns_of u c) row ≡ true → c ≡ b
      others c k e =
          let x = one_bound row (columns_of u c) e in
          let there = among_from_test (columns_of u b) x.0 (sym (h x.0) ∙ x.2) in
          let same = one_number u short c.number b.number (low c k) (low b m) x.0 (is_column u short c x.0 x.1) (is_column u short b x.0 there) in
          one_place 0 rows c b (in_kept (is_worth_asking u) c (places_from 0 rows) k).0 (in_kept (is_worth_asking u) b (places_from 0 rows) m).0 same

-- ---- what it tells

-- a row that binds all names keeps what it has
told_bound : (rename : List ℕ → List ℕ) (names : List (List ℕ)) (row t : Bindings) → ((n : List ℕ) → Among n names → is_none (term_of row n) ≡ false) → told rename names row t ≡ row
told_bound rename [] row t h = refl
told_bound rename (n ∷ ns) row t h =
    ap (λ (v : Bindings). told rename ns v t) (kept (term_of t (rename n)) (term_of row n) refl (h n (inl refl))) ∙ told_bound rename ns row t (λ m k. h m (inr k))
  where
    kept : (o p : Option Term) → term_of row n ≡ p → is_none p ≡ false → with_value row n o ≡ row
    kept None p e f = refl
    kept (Some x) None e f = absurd (cc)
    kept (Some x) (Some y) e f = ap (λ (v : Option Term). cond (is_some v) row (with_pair row n x)) e

-- the same names tell the same
told_alike : (rename : List ℕ → List ℕ) (xs ys : List (List ℕ)) (row t : Bindings) → IsTrue (rises row) → ((n : List ℕ) → is_among xs n ≡ is_among ys n) → told rename xs row t ≡ told rename ys row t
told_alike rename xs ys row t up same =
    same_entries text_cmp texts_total exact_bytes (told rename xs row t) (told rename ys row t) (to_T (rises (told rename xs row t)) (told_rises rename xs row t up)) (to_T (rises (told rename ys row t)) (told_rises rename ys row t up))
    (λ n. told_term rename xs row t n ∙ ap (λ (b : Bool). cond b (option_or (term_of row n) (term_of t (rename n))) (term_of row n)) (same n) ∙ sym (told_term rename ys row t n))

pub no_free : (names : List (List ℕ)) (row : Bindings) → filter (λ n. is_none (term_of row n)) names ≡ [] → (n : List ℕ) → Among n names → is_none (term_of row n) ≡ false
no_free names row e n m = by (is_none (term_of row n)) refl
  where
    by : (b : Bool) → is_none (term_of row n) ≡ b → is_none (term_of row n) ≡ false
    by true f = absurd (subst (Among n) e (kept_in (λ k. is_none (term_of row k)) n names m f))
    by false f = f

row_tells : (u : unit.Unit) (b : Place) (s : Bindings) → IsTrue (rises b.row.solution)
    → told (renamed u b.number) (unit_names u) b.row.solution (checked_by b.number (free_names u b.row.solution) s) ≡ told (renamed u b.number) (variables u.patterns) b.row.solution s
row_tells u b s up = by (free_names u b.row.solution) refl
  where
    by : (free : List (List ℕ)) → free_names u b.row.solution ≡ free → told (renamed u b.number) (unit_names u) b.row.solution (checked_by b.number free s) ≡ told (renamed u b.number) (variables u.patterns) b.row.solution s
    by [] e =
        let all = no_free (unit_names u) b.row.solution e in
        told_bound (renamed u b.number) (unit_names u) b.row.solution (checked_by b.number [] s) all
        ∙ sym (told_bound (renamed u b.number) (variables u.patterns) b.row.solution s (λ n m. all n (among_from_test (unit_names u) n (among_once (variables u.patterns) n ∙ test_from (variables u.patterns) n m))))
    by (n ∷ ns) e = told_alike (renamed u b.number) (unit_names u) (variables u.patterns) b.row.solution s up (λ m. among_once (variables u.patterns) m)

-- ---- the law

nothing : Found
nothing = record { branch = 0; solution = [] }

abbrev what_is_read : Result Found RowFault → Found
what_is_read (Ok f) = f
what_is_read (Err e) = nothing

module _ (graph : List Triple) (u : unit.Unit) (rows : List Row) (fit : IsFit u) (up : AllByRecursion (λ r. IsTrue (rises r.solution)) rows) (few : length rows ≤ 64) (short : length (unit_names u) < 2 ^ 64) where
  abbrev bs : List Place
  bs = branches u rows

  rising : (b : Place) → Among b (branches u rows) → IsTrue (rises b.row.solution)
  rising b m = its_row (λ r. IsTrue (rises r.solution)) 0 rows up b (in_kept (is_worth_asking u) b (places_from 0 rows) m).0

  -- the rows of one branch
  branch_read : (b : Place) → Among b (branches u rows) → map (read_row u (branches u rows)) (branch_rows graph u b) ≡ map Ok (tells graph u b)
  branch_read b m =
      let row = b.row.solution in
      let solutions = branch_solutions graph u b in
      let covered = All-from_recursion (λ e. is_covered u.patterns e ≡ true) u.filters (all_covered u.patterns u.filters (recursion_from_All (IsPushed u.patterns) u.filters fit.filters)) in
      let its : map (told (renamed u b.number) (variables u.patterns) row) solutions ≡ beside graph u row =
      branch_tells_its_row graph u.patterns u.filters row (renamed u b.number) (rising b m) (names_apart u short b.number (low u rows few short b m)) covered in
      map_both (checked_by b.number (free_names u row)) (read_row u (branches u rows)) solutions
      ∙ map_each (λ s. read_row u (branches u rows) (checked_by b.number (free_names u row) s)) (λ s. Ok (record { branch = b.number; solution = told (renamed u b.number) (variables u.patterns) row s })) solutions
      (λ s n.
      row_read u rows few short b (checked_by b.number (free_names u row) s) m (row_binds graph u b s n)
      ∙ ap (λ (v : Bindings). Ok (record { branch = b.number; solution = v })) (row_tells u b s (rising b m)))
      ∙ sym (map_both (told (renamed u b.number) (variables u.patterns) row) (λ (v : Bindings). Ok (record { branch = b.number; solution = v })) solutions)
      ∙ ap (map (λ (v : Bindings). Ok (record { branch = b.number; solution = v }))) its
      ∙ sym (map_both (λ (v : Bindings). record { branch = b.number; solution = v }) Ok (beside graph u row))

  all_read : map (read_row u (branches u rows)) (flat_map (branch_rows graph u) (branches u rows)) ≡ map Ok (flat_map (tells graph u) (branches u rows))
  all_read =
      map_flat (branch_rows graph u) (read_row u (branches u rows)) (branches u rows)
      ∙ flat_each (λ b. map (read_row u (branches u rows)) (branch_rows graph u b)) (λ b. map Ok (tells graph u b)) (branches u rows) branch_read
      ∙ sym (map_flat (tells graph u) Ok (branches u rows))

  founds_of : List Bindings → List Found
  founds_of answer = map (λ row. what_is_read (read_row u (branches u rows) row)) answer

  all_found : founds_of (flat_map (branch_rows graph u) (branches u rows)) ≡ flat_map (tells graph u) (branches u rows)
  unfolding founds_of
  all_found =
      sym (map_both (read_row u (branches u rows)) what_is_read (flat_map (branch_rows graph u) (branches u rows)))
      ∙ ap (map what_is_read) all_read
      ∙ map_both Ok what_is_read (flat_map (tells graph u) (branches u rows))
      ∙ map_same (flat_map (tells graph u) (branches u rows))
    where
      map_same : (xs : List Found) → map (λ x. x) xs ≡ xs
      map_same [] = refl
      map_same (x ∷ xs) = ap (λ (v : List Found). x ∷ v) (map_same xs)

  -- each row of the branches is read
  one_read : (xs : List Bindings) (fs : List Found) → map (read_row u (branches u rows)) xs ≡ map Ok fs → (row : Bindings) → Among row xs → read_row u (branches u rows) row ≡ Ok (what_is_read (read_row u (branches u rows) row))
  one_read [] fs e row m = absurd m
  one_read (x ∷ xs) [] e row m = absurd (cc)
  one_read (x ∷ xs) (f ∷ fs) e row (inl same) =
      let here : read_row u (branches u rows) x ≡ Ok f = cc in
      let its : read_row u (branches u rows) row ≡ Ok f = ap (read_row u (branches u rows)) (sym same) ∙ here in
      its ∙ sym (ap (λ v. Ok (what_is_read v)) its)
  one_read (x ∷ xs) (f ∷ fs) e row (inr m) = let rest : map (read_row u (branches u rows)) xs ≡ map Ok fs = cc in one_read xs fs rest row m

  answer_read : (answer : List Bindings) → IsPermutation answer (flat_map (branch_rows graph u) (branches u rows)) → AreRead u (branches u rows) graph answer
  unfolding founds_of
  answer_read answer moved =
      let whole = flat_map (branch_rows graph u) (branches u rows) in
      record {
        founds = founds_of answer;
        read =
            map_each (read_row u (branches u rows)) (λ row. Ok (what_is_read (read_row u (branches u rows) row))) answer
            (λ row m. one_read whole (flat_map (tells graph u) (branches u rows)) all_read row (permuted row answer whole moved m))
            ∙ sym (map_both (λ row. what_is_read (read_row u (branches u rows) row)) Ok answer);
        told_all = subst (λ (v : List Found). IsPermutation (founds_of answer) v) all_found (IsPermutation-map (λ row. what_is_read (read_row u (branches u rows) row)) answer whole moved);
      }

pub answer_tells_branches : AnswerTellsBranches
answer_tells_branches graph u rows answer fit up few short moved =
    answer_read graph u rows fit (recursion_from_All (λ (r : Row). IsTrue (rises r.solution)) rows up) few short answer moved
