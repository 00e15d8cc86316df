-- The rows of an answer are read, and tell of each row of the block what the graph has beside it.
use Rattle.std.proofs.Common.{◌≡◌, ◌∙◌, ap, sym, subst, refl, inl, inr, ℕ, suc, ◌<◌, ◌≤◌, ◌+◌, ◌^◌, Bool, true, false, not, ◌&&◌, ◌||◌, cond, List, [], ◌∷◌, map, filter, length, Option, Some, None, is_some, is_none, Ok, Err, IsTrue, IsPermutation, arith}
use Rattle.std.specs.Prelude.{Result, pos}
use Rattle.std.specs.List.{AllByRecursion, flat_map, list_all, list_any}
use Rattle.std.proofs.lemmas.Fmt.{decimal_injective}
use Rattle.std.proofs.lemmas.List.Elements.{recursion_from_All}
use Rattle.std.proofs.lemmas.List.Sorted.{IsPermutation-map, IsPermutation-trans}
use Rattle.fx_terms.specs.declared.terms.Term.{Term}
use Rattle.fx_terms.specs.declared.terms.Term.TheVariants.{Iri, Literal}
use Rattle.fx_terms.specs.declared.triples.Triple.{Triple}
use Rattle.fx_terms.proofs.SetLemmas.{Among}
use Rattle.fx_algebra.specs.Operators.{inline_row}
use Rattle.fx_algebra.specs.Scopes.{is_among}
use Rattle.fx_algebra.specs.Solutions.{Bindings, rises, term_of}
use Rattle.fx_algebra.specs.Units.{is_covered}
use Rattle.fx_algebra.specs.Values.{integer}
use Rattle.fx_algebra.specs.declared.answers.Answer.TheVariants.{Table}
use Rattle.fx_algebra.specs.declared.units.Row.{Row}
use Rattle.fx_algebra.specs.declared.units.Unit as unit
use Rattle.fx_algebra.proofs.ForcedLemmas.{same_from, same_itself}
use Rattle.fx_algebra.proofs.JoinLemmas.{find-merge, merge_extends_left, some_or}
use Rattle.fx_algebra.proofs.MemberLemmas.{IsOnce, among_from_flat_map}
use Rattle.fx_spelling.specs.Units.{IsFit, IsPushed}
use Rattle.fx_renaming.specs.Branches.{told}
use Rattle.fx_founds.specs.Uniting.{Place, branches, is_worth_asking, places_from, tells}
use Rattle.fx_founds.specs.declared.founds.Found.{Found}
use Rattle.fx_founds.proofs.RowLemmas.{flat_each, map_both, map_flat}
use Rattle.fx_founds.proofs.UnionLemmas.{in_kept, once_kept}
use Rattle.fx_founds.proofs.UniteLemmas.{all_covered, its_row, number_above, one_place, permuted}
use Rattle.fx_values.specs.Reading.{AnswerTellsRows, AreRead, found_of, is_foreign, is_of, is_own, is_partial, is_that, located, located_by, read_row}
use Rattle.fx_values.specs.Values.{cells, columns, number_name, renamed, rows_of, unit_names}
use Rattle.fx_values.specs.declared.faults.RowFault.{RowFault}
use Rattle.fx_values.specs.declared.faults.RowFault.TheVariants.{Foreign, Partial}
use Rattle.fx_values.specs.declared.located.Located.{Located}
use Rattle.fx_values.proofs.BlockLemmas.{found_some, has_the_rows, its_parts, row_columns, solution_binds}
use Rattle.fx_values.proofs.NamingLemmas.{test_from}
use Rattle.fx_values.proofs.TellingLemmas.{block_number, block_own, rows_tell}

-- ---- lists

map_each : {X Y : Type 0} (f g : X → Y) (xs : List X) → ((x : X) → Among x xs → f x ≡ g x) → map f xs ≡ map g xs
map_each f g [] h = refl
map_each f g (x ∷ xs) h = let here : f x ≡ g x = h x (inl refl) in let rest : map f xs ≡ map g xs = map_each f g xs (λ y m. h y (inr m)) in λ i. here i ∷ rest i

all_pass : {X : Type 0} (p : X → Bool) (xs : List X) → ((x : X) → Among x xs → p x ≡ true) → list_all p xs ≡ true
all_pass p [] h = refl
all_pass p (x ∷ xs) h = ap (λ (b : Bool). b && list_all p xs) (h x (inl refl)) ∙ all_pass p xs (λ y m. h y (inr m))

none_pass : {X : Type 0} (p : X → Bool) (xs : List X) → ((x : X) → Among x xs → p x ≡ false) → list_any p xs ≡ false
none_pass p [] h = refl
none_pass p (x ∷ xs) h = ap (λ (b : Bool). b || list_any p xs) (h x (inl refl)) ∙ none_pass p xs (λ y m. h y (inr m))

none_stays : (p : Place → Bool) (ds : List Place) → ((d : Place) → Among d ds → p d ≡ false) → filter p ds ≡ []
none_stays p [] h = refl
none_stays p (d ∷ ds) h = ap (λ (v : Bool). cond v (d ∷ filter p ds) (filter p ds)) (h d (inl refl)) ∙ none_stays p ds (λ e k. h e (inr k))

-- of places with different numbers one alone passes
alone_passes : (p : Place → Bool) (bs : List Place) (b : Place) → Among b bs → p b ≡ true → ((c : Place) → Among c bs → p c ≡ true → c ≡ b) → IsOnce bs → filter p bs ≡ b ∷ []
alone_passes p [] b m passes only apart = absurd m
alone_passes p (c ∷ cs) b m passes only apart = by (p c) refl m (λ n. alone_passes p cs b n passes (λ d k. only d (inr k)) apart.1)
  where
    fails : (d : Place) → Among d cs → c ≡ b → (v : Bool) → p d ≡ v → p d ≡ false
    fails d k same true e = absurd (apart.0 (subst (λ (x : Place). Among x cs) (only d (inr k) e ∙ sym same) k))
    fails d k same false e = e

    by : (v : Bool) → p c ≡ v → Among b (c ∷ cs) → (Among b cs → filter p cs ≡ b ∷ []) → cond v (c ∷ filter p cs) (filter p cs) ≡ b ∷ []
    by true e k f =
        let same : c ≡ b = only c (inl refl) e in
        ap (λ (x : Place). x ∷ filter p cs) same ∙ ap (λ (ds : List Place). b ∷ ds) (none_stays p cs (λ d n. fails d n same (p d) refl))
    by false e (inl same) f = let two : true ≡ false = sym passes ∙ ap p (sym same) ∙ e in absurd (cc)
    by false e (inr n) f = f n

places_once : (n : ℕ) (rows : List Row) → IsOnce (places_from n rows)
places_once n [] = tt
places_once n (r ∷ rows) = ((λ m. let low = number_above (suc n) rows (record { number = n; row = r }) m in absurd (omega (arith, low))), places_once (suc n) rows)

number_below : (n : ℕ) (rows : List Row) (b : Place) → Among b (places_from n rows) → b.number < n + length rows
number_below n [] b m = absurd m
number_below n (r ∷ rows) b (inl e) = let same : n ≡ b.number = ap (λ (v : Place). v.number) e in omega (arith, same)
number_below n (r ∷ rows) b (inr m) = let low = number_below (suc n) rows b m in omega (arith, low)

low_number : (number n : ℕ) → number < n → n ≤ 64 → number < 2 ^ 64
low_number number n h k = omega arith

-- ---- numbers as terms

-- the form of a term, or nothing
form_of : Term → List ℕ
form_of (Iri a) = []
form_of (Literal l) = l.form

-- numbers that are one term are one
pub one_integer : (m n : ℕ) → m < 2 ^ 64 → n < 2 ^ 64 → integer (pos m) ≡ integer (pos n) → m ≡ n
unfolding integer form_of
one_integer m n a b e = decimal_injective m n a b (ap form_of e)

two : (a b : Bool) → (a && b) ≡ true → (a ≡ true) × (b ≡ true)
two true b h = (refl, h)
two false b h = absurd (cc)

pub is_the_term : (own : Term) (o : Option Term) → is_that own o ≡ true → o ≡ Some own
is_the_term own None h = absurd (cc)
is_the_term own (Some t) h = ap (λ (v : Term). Some v) (sym (same_from own t h))

pub the_term_is : (own : Term) (o : Option Term) → o ≡ Some own → is_that own o ≡ true
the_term_is own o e = ap (is_that own) e ∙ same_itself own own refl

-- ---- one row

module _ (u : unit.Unit) (rows : List Row) (few : length rows ≤ 64) (short : length (unit_names u) < 2 ^ 64) where
  pub low : (b : Place) → Among b (branches u rows) → b.number < 2 ^ 64
  low b m =
      let k = in_kept (is_worth_asking u) b (places_from 0 rows) m in
      let h = number_below 0 rows b k.0 in
      low_number b.number (length rows) (omega (arith, h)) few

  -- two rows that were sent and have one number are one
  pub one_row : (b c : Place) → Among b (branches u rows) → Among c (branches u rows) → b.number ≡ c.number → b ≡ c
  one_row b c m k same = one_place 0 rows b c (in_kept (is_worth_asking u) b (places_from 0 rows) m).0 (in_kept (is_worth_asking u) c (places_from 0 rows) k).0 same

  pub all_once : IsOnce (branches u rows)
  all_once = once_kept (is_worth_asking u) (places_from 0 rows) (places_once 0 rows)

  -- a row of the answer is of one alone of the rows that were sent
  pub alone : (t : Bindings) (b : Place) → Among b (branches u rows) → is_of u t b ≡ true → filter (is_of u t) (branches u rows) ≡ b ∷ []
  alone t b m h = alone_passes (is_of u t) (branches u rows) b m h (λ c k e. one_row c b k m (one_integer c.number b.number (low c k) (low b m) (same c e))) all_once
    where
      its : (c : Place) → is_of u t c ≡ true → term_of t number_name ≡ Some (integer (pos c.number))
      its c e = is_the_term (integer (pos c.number)) (term_of t number_name) (two (is_that (integer (pos c.number)) (term_of t number_name)) (list_all (λ name. is_own (term_of c.row.solution name) (term_of t (renamed u name))) (unit_names u)) e).0

      one_value : (x y : Term) → Some x ≡ Some y → x ≡ y
      one_value x y e = cc

      same : (c : Place) → is_of u t c ≡ true → integer (pos c.number) ≡ integer (pos b.number)
      same c e = one_value (integer (pos c.number)) (integer (pos b.number)) (sym (its c e) ∙ its b h)

  module _ (graph : List Triple) (b : Place) (s : Bindings) (m : Among s (rows_of graph u b)) where
    not_foreign : is_foreign u s ≡ false
    not_foreign = none_pass (λ (e : List ℕ × Term). not (is_among (columns u) e.0)) s (λ e k. ap not (row_columns graph u b s m e.0 (found_some s e k)))

    -- what the row of the block has, the row of the answer has
    has_block : (name : List ℕ) (t : Term) → term_of (inline_row (columns u) (cells u b)) name ≡ Some t → term_of s name ≡ Some t
    has_block name t e =
        let a = its_parts graph u b s m in
        ap (λ (v : Bindings). term_of v name) (sym a.3) ∙ (merge_extends_left (inline_row (columns u) (cells u b)) a.0).has name t e

    has_number : term_of s number_name ≡ Some (integer (pos b.number))
    has_number = has_block number_name (integer (pos b.number)) (block_number u short b)

    has_names : (name : List ℕ) → Among name (map (renamed u) (unit_names u)) → is_some (term_of s name) ≡ true
    has_names name k =
        let a = its_parts graph u b s m in
        let r = inline_row (columns u) (cells u b) in
        ap (λ (v : Bindings). is_some (term_of v name)) (sym a.3)
        ∙ ap is_some (find-merge r a.0 name)
        ∙ some_or (term_of r name) (term_of a.0 name)
        ∙ or_right (is_some (term_of r name)) (is_some (term_of a.0 name)) (solution_binds graph u a.0 a.1 name ∙ test_from (map (renamed u) (unit_names u)) name k)
      where
        or_right : (c d : Bool) → d ≡ true → (c || d) ≡ true
        or_right true d e = refl
        or_right false d e = e

    bound : (o : Option Term) → is_some o ≡ true → is_none o ≡ false
    bound None e = absurd (cc)
    bound (Some t) e = refl

    not_partial : is_partial u s ≡ false
    not_partial = none_pass (λ name. is_none (term_of s name)) (columns u) by
      where
        by : (name : List ℕ) → Among name (columns u) → is_none (term_of s name) ≡ false
        by name (inl e) = bound (term_of s name) (ap (λ v. is_some (term_of s v)) (sym e) ∙ ap is_some has_number)
        by name (inr k) = bound (term_of s name) (has_names name k)

    own_terms : (name : List ℕ) → Among name (unit_names u) → (o : Option Term) → term_of b.row.solution name ≡ o → is_own o (term_of s (renamed u name)) ≡ true
    own_terms name k None e = refl
    own_terms name k (Some t) e = the_term_is t (term_of s (renamed u name)) (has_block (renamed u name) t (block_own u short b name (test_from (unit_names u) name k) ∙ e))

    its_own : is_of u s b ≡ true
    its_own =
        ap (λ (c : Bool). c && list_all (λ name. is_own (term_of b.row.solution name) (term_of s (renamed u name))) (unit_names u)) (the_term_is (integer (pos b.number)) (term_of s number_name) has_number)
        ∙ all_pass (λ name. is_own (term_of b.row.solution name) (term_of s (renamed u name))) (unit_names u) (λ name k. own_terms name k (term_of b.row.solution name) refl)

    pub row_read : Among b (branches u rows) → read_row u (branches u rows) s ≡ Ok (located u s b)
    row_read k =
        ap (λ (c : Bool). cond c (Err Foreign) (cond (is_partial u s) (Err Partial) (located_by u s (filter (is_of u s) (branches u rows))))) not_foreign
        ∙ ap (λ (c : Bool). cond c (Err Partial) (located_by u s (filter (is_of u s) (branches u rows)))) not_partial
        ∙ ap (located_by u s) (alone s b k its_own)

-- ---- the law

nowhere : Located
nowhere = record { row = 0; solution = [] }

abbrev what_is_read : Result Located RowFault → Located
what_is_read (Ok l) = l
what_is_read (Err e) = nowhere

module _ (graph : List Triple) (u : unit.Unit) (rows : List Row) (fit : IsFit u) (up : AllByRecursion (λ r. IsTrue (rises r.solution)) rows) (few : length rows ≤ 64) (short : length (unit_names u) < 2 ^ 64) where
  rising : (b : Place) → Among b (branches u rows) → IsTrue (rises b.row.solution)
  rising b m = its_row (λ r. IsTrue (rises r.solution)) 0 rows up b (in_kept (is_worth_asking u) b (places_from 0 rows) m).0

  covered : AllByRecursion (λ e. is_covered u.patterns e ≡ true) u.filters
  covered = all_covered u.patterns u.filters (recursion_from_All (IsPushed u.patterns) u.filters fit.filters)

  -- what the rows of one row of the block tell
  one_tells : (b : Place) → Among b (branches u rows) → map (λ s. found_of (what_is_read (read_row u (branches u rows) s))) (rows_of graph u b) ≡ tells graph u b
  one_tells b m =
      map_each (λ s. found_of (what_is_read (read_row u (branches u rows) s))) (λ s. record { branch = b.number; solution = told (renamed u) (unit_names u) b.row.solution s }) (rows_of graph u b)
      (λ s k. ap (λ v. found_of (what_is_read v)) (row_read u rows few short graph b s k m))
      ∙ sym (map_both (told (renamed u) (unit_names u) b.row.solution) (λ (v : Bindings). record { branch = b.number; solution = v }) (rows_of graph u b))
      ∙ ap (map (λ (v : Bindings). record { branch = b.number; solution = v })) (rows_tell u short graph b (rising b m) covered)

  all_tell : map (λ s. found_of (what_is_read (read_row u (branches u rows) s))) (flat_map (rows_of graph u) (branches u rows)) ≡ flat_map (tells graph u) (branches u rows)
  all_tell =
      map_flat (rows_of graph u) (λ s. found_of (what_is_read (read_row u (branches u rows) s))) (branches u rows)
      ∙ flat_each (λ b. map (λ s. found_of (what_is_read (read_row u (branches u rows) s))) (rows_of graph u b)) (tells graph u) (branches u rows) one_tells

  each_read : (s : Bindings) → Among s (flat_map (rows_of graph u) (branches u rows)) → read_row u (branches u rows) s ≡ Ok (what_is_read (read_row u (branches u rows) s))
  each_read s m =
      let a = among_from_flat_map (rows_of graph u) s (branches u rows) m in
      let its = row_read u rows few short graph a.0 s a.2 a.1 in
      its ∙ sym (ap (λ v. Ok (what_is_read v)) its)

  answer_read : (answer : List Bindings) → IsPermutation answer (flat_map (rows_of graph u) (branches u rows)) → AreRead graph u (branches u rows) answer
  answer_read answer moved =
      let whole = flat_map (rows_of graph u) (branches u rows) in
      record {
        all = map (λ s. what_is_read (read_row u (branches u rows) s)) answer;
        read =
            map_each (read_row u (branches u rows)) (λ s. Ok (what_is_read (read_row u (branches u rows) s))) answer (λ s m. each_read s (permuted s answer whole moved m))
            ∙ sym (map_both (λ s. what_is_read (read_row u (branches u rows) s)) Ok answer);
        told_all =
            subst (λ (v : List Found). IsPermutation v (flat_map (tells graph u) (branches u rows))) (sym (map_both (λ s. what_is_read (read_row u (branches u rows) s)) found_of answer))
            (subst (λ (v : List Found). IsPermutation (map (λ s. found_of (what_is_read (read_row u (branches u rows) s))) answer) v) all_tell (IsPermutation-map (λ s. found_of (what_is_read (read_row u (branches u rows) s))) answer whole moved));
      }

-- the rows of two tables that are one
same_rows : (columns : List (List ℕ)) (xs ys : List Bindings) → Table columns xs ≡ Table columns ys → xs ≡ ys
same_rows columns xs ys e = cc

pub answer_tells_rows : AnswerTellsRows
answer_tells_rows graph u rows answer fit up few short h =
    let has = has_the_rows graph u fit (branches u rows) in
    let same : h.told_rows ≡ has.rows = same_rows (columns u) h.told_rows has.rows (sym h.answer_is ∙ has.answer_is) in
    answer_read graph u rows fit (recursion_from_All (λ (r : Row). IsTrue (rises r.solution)) rows up) few short answer
    (IsPermutation-trans answer has.rows (flat_map (rows_of graph u) (branches u rows)) (subst (λ (v : List Bindings). IsPermutation answer v) same h.same) has.rows_are)
