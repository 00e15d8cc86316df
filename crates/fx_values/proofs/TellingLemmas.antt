-- What the rows of one row of the block tell is what the graph has beside the row itself.
use Rattle.std.proofs.Common.{◌≡◌, ◌∙◌, ap, sym, subst, refl, inl, inr, ℕ, ◌<◌, ◌^◌, Bool, true, false, ◌&&◌, T, cond, List, [], ◌∷◌, ◌++◌, map, filter, fold, length, Option, Some, None, is_some, IsTrue}
use Rattle.std.specs.Prelude.{pos}
use Rattle.std.specs.List.{AllByRecursion, list_all, zip}
use Rattle.std.specs.FinMap.Entries.{same_entries}
use Rattle.std.specs.Option.{option_or}
use Rattle.std.specs.Ordering.{is_eq}
use Rattle.std.proofs.lemmas.List.Elements.{All-from_recursion}
use Rattle.std.proofs.lemmas.Map.Lookups.{exact_bytes}
use Rattle.fx_terms.specs.Texts.{text_cmp, texts_total}
use Rattle.fx_terms.specs.declared.terms.Term.{Term}
use Rattle.fx_terms.specs.declared.triples.Triple.{Triple}
use Rattle.fx_terms.proofs.SetLemmas.{Among, contains_from}
use Rattle.fx_algebra.specs.BasicGraphPatterns.{bgp, variables}
use Rattle.fx_algebra.specs.Conditions.{holds}
use Rattle.fx_algebra.specs.Operators.{filtered, inline_row, merges, with_cell, with_value}
use Rattle.fx_algebra.specs.Scopes.{is_among, with_name}
use Rattle.fx_algebra.specs.Solutions.{Bindings, agree, merge, rises, term_of}
use Rattle.fx_algebra.specs.Units.{expr_names, is_covered}
use Rattle.fx_algebra.specs.Values.{integer}
use Rattle.fx_algebra.specs.declared.expressions.Expr.{Expr}
use Rattle.fx_algebra.specs.declared.units.Unit as unit
use Rattle.fx_algebra.proofs.BgpLemmas.{solution_of}
use Rattle.fx_algebra.proofs.ForcedLemmas.{name_from}
use Rattle.fx_algebra.proofs.JoinLemmas.{agree_has, extended_agree, find-merge, merge_extends_left, or_other}
use Rattle.fx_algebra.proofs.MemberLemmas.{IsOnce, among_from_map, once_append}
use Rattle.fx_algebra.proofs.OperatorLemmas.{filtered_by_none}
use Rattle.fx_algebra.proofs.PairLemmas.{rises_merge}
use Rattle.fx_renaming.specs.Branches.{bound_expr, bound_pattern, told}
use Rattle.fx_renaming.proofs.BranchLemmas.{AreTold, branch_tells_its_row, holds_kept, told_rises, told_term}
use Rattle.fx_founds.specs.Unions.{beside}
use Rattle.fx_founds.specs.Uniting.{Place}
use Rattle.fx_values.specs.Values.{cells, columns, number_name, place_of, renamed, rows_of, unit_names}
use Rattle.fx_values.proofs.BlockLemmas.{all_from, block_rises, cells_outside, merges_nothing, same_tests, solution_binds, value_term}
use Rattle.fx_values.proofs.NamingLemmas.{among_from_test, among_once, eq_itself, names_apart, one_name, sent_is_no_number, test_from}

to_T : (b : Bool) → b ≡ true → T b
to_T true h = tt
to_T false h = cc

-- ---- the unit's names stand once

once_fold : (front names : List (List ℕ)) → IsOnce front → IsOnce (fold with_name front names)
unfolding with_name
once_fold front [] h = h
once_fold front (n ∷ ns) h = once_fold (cond (is_among front n) front (front ++ n ∷ [])) ns (by (is_among front n) refl)
  where
    by : (b : Bool) → is_among front n ≡ b → IsOnce (cond b front (front ++ n ∷ []))
    by true e = h
    by false e = once_append front (n ∷ []) h ((λ m. m), tt) (λ x a b. new x a b e)
      where
        new : (x : List ℕ) → Among x front → Among x (n ∷ []) → is_among front n ≡ false → ⊥
        new x a (inl k) f = let two : true ≡ false = sym (test_from front n (subst (λ (v : List ℕ). Among v front) (sym k) a)) ∙ f in cc
        new x a (inr k) f = k

pub names_once : (u : unit.Unit) → IsOnce (unit_names u)
names_once u = once_fold [] (variables u.patterns) tt

-- ---- solutions that agree

agree_from : (a b : Bindings) → IsTrue (rises a) → ((n : List ℕ) (x y : Term) → term_of a n ≡ Some x → term_of b n ≡ Some y → x ≡ y) → agree a b ≡ true
agree_from a b up f = extended_agree a b (merge a b) (to_T (rises a) up) (merge_extends_left a b) (record { has = λ n t e. find-merge a b n ∙ or_other (term_of a n) (term_of b n) t (λ x k. f n x t k e) e })

no_test : (b : Bool) → (b ≡ true → ⊥) → b ≡ false
no_test true h = absurd (h refl)
no_test false h = refl

module _ (u : unit.Unit) (short : length (unit_names u) < 2 ^ 64) where
  -- ---- a row of the block

  -- the term of a variable is the row's
  inside : (names : List (List ℕ)) → ((m : List ℕ) → Among m names → is_among (unit_names u) m ≡ true) → IsOnce names → (s row : Bindings) (n : List ℕ) → Among n names → term_of s (renamed u n) ≡ None
      → term_of (fold with_cell s (zip (map (renamed u) names) (map (term_of row) names))) (renamed u n) ≡ term_of row n
  inside [] own apart s row n m free = absurd m
  inside (x ∷ xs) own apart s row n (inl e) free = subst (λ (v : List ℕ). term_of s (renamed u v) ≡ None → term_of (fold with_cell s (zip (map (renamed u) (x ∷ xs)) (map (term_of row) (x ∷ xs)))) (renamed u v) ≡ term_of row v) e first free
    where
      behind : is_among (map (renamed u) xs) (renamed u x) ≡ false
      behind = no_test (is_among (map (renamed u) xs) (renamed u x)) (λ h.
          let a = among_from_map (renamed u) (renamed u x) xs (among_from_test (map (renamed u) xs) (renamed u x) h) in
          apart.0 (subst (λ (v : List ℕ). Among v xs) (one_name u short a.0 x (own a.0 (inr a.1)) (own x (inl refl)) a.2) a.1))

      first : term_of s (renamed u x) ≡ None → term_of (fold with_cell s (zip (map (renamed u) (x ∷ xs)) (map (term_of row) (x ∷ xs)))) (renamed u x) ≡ term_of row x
      first f =
          cells_outside (map (renamed u) xs) (map (term_of row) xs) (with_value s (renamed u x) (term_of row x)) (renamed u x) behind
          ∙ value_term s (renamed u x) (term_of row x) (renamed u x)
          ∙ ap (λ (b : Bool). option_or (term_of s (renamed u x)) (cond b (term_of row x) None)) (eq_itself (renamed u x))
          ∙ ap (λ (o : Option Term). option_or o (term_of row x)) f
  inside (x ∷ xs) own apart s row n (inr m) free =
      inside xs (λ k l. own k (inr l)) apart.1 (with_value s (renamed u x) (term_of row x)) row n m
      (value_term s (renamed u x) (term_of row x) (renamed u n)
      ∙ ap (λ (b : Bool). option_or (term_of s (renamed u n)) (cond b (term_of row x) None)) other
      ∙ ap (λ (o : Option Term). option_or o None) free)
    where
      other : is_eq (text_cmp (renamed u n) (renamed u x)) ≡ false
      other = no_test (is_eq (text_cmp (renamed u n) (renamed u x))) (λ h.
          apart.0 (subst (λ (v : List ℕ). Among v xs) (one_name u short n x (own n (inr m)) (own x (inl refl)) (name_from (renamed u n) (renamed u x) h)) m))

  module _ (b : Place) where
    pub block_own : (n : List ℕ) → is_among (unit_names u) n ≡ true → term_of (inline_row (columns u) (cells u b)) (renamed u n) ≡ term_of b.row.solution n
    block_own n h =
        inside (unit_names u) (λ m k. test_from (unit_names u) m k) (names_once u) (with_value [] number_name (Some (integer (pos b.number)))) b.row.solution n (among_from_test (unit_names u) n h)
        (value_term [] number_name (Some (integer (pos b.number))) (renamed u n)
        ∙ ap (λ (v : Bool). cond v (Some (integer (pos b.number))) None)
        (no_test (is_eq (text_cmp (renamed u n) number_name)) (λ e. sent_is_no_number (place_of (unit_names u) n) (name_from (renamed u n) number_name e))))

    pub block_number : term_of (inline_row (columns u) (cells u b)) number_name ≡ Some (integer (pos b.number))
    block_number =
        cells_outside (map (renamed u) (unit_names u)) (map (term_of b.row.solution) (unit_names u)) (with_value [] number_name (Some (integer (pos b.number)))) number_name
        (no_test (is_among (map (renamed u) (unit_names u)) number_name) (λ h.
        let a = among_from_map (renamed u) number_name (unit_names u) (among_from_test (map (renamed u) (unit_names u)) number_name h) in
        sent_is_no_number (place_of (unit_names u) a.0) a.2))
        ∙ value_term [] number_name (Some (integer (pos b.number))) number_name
        ∙ ap (λ (v : Bool). cond v (Some (integer (pos b.number))) None) (eq_itself number_name)

  -- ---- a solution under the unit's own names

  abbrev own : Bindings → Bindings
  own t = told (renamed u) (variables u.patterns) [] t

  own_term : (t : Bindings) (n : List ℕ) → term_of (told (renamed u) (variables u.patterns) [] t) n ≡ cond (is_among (variables u.patterns) n) (term_of t (renamed u n)) None
  own_term t n = told_term (renamed u) (variables u.patterns) [] t n

  of_unit : (n : List ℕ) → is_among (variables u.patterns) n ≡ true → is_among (unit_names u) n ≡ true
  of_unit n h = among_once (variables u.patterns) n ∙ h

  module _ (graph : List Triple) (b : Place) (up : IsTrue (rises b.row.solution)) where
    module _ (t : Bindings) (m : Among t (bgp graph (map (bound_pattern (renamed u) []) u.patterns))) where
      abbrev r : Bindings
      r = inline_row (columns u) (cells u b)

      abbrev row : Bindings
      row = b.row.solution

      -- the row of the block agrees with a solution where the row itself does
      both_agree : agree row (own t) ≡ agree r t
      both_agree =
          same_tests (agree row (own t)) (agree r t)
          (λ h. agree_from r t (block_rises (columns u) (cells u b)) (λ n x y e f.
          let there : is_among (map (renamed u) (unit_names u)) n ≡ true = sym (solution_binds graph u t m n) ∙ ap is_some f in
          let a = among_from_map (renamed u) n (unit_names u) (among_from_test (map (renamed u) (unit_names u)) n there) in
          let k = test_from (unit_names u) a.0 a.1 in
          let l : is_among (variables u.patterns) a.0 ≡ true = sym (among_once (variables u.patterns) a.0) ∙ k in
          agree_has row (own t) a.0 x y h
          (sym (block_own b a.0 k) ∙ ap (term_of r) a.2 ∙ e)
          (own_term t a.0 ∙ ap (λ (c : Bool). cond c (term_of t (renamed u a.0)) None) l ∙ ap (term_of t) a.2 ∙ f)))
          (λ h. agree_from row (own t) up (λ n x y e f. by n x y e (is_among (variables u.patterns) n) refl (sym (own_term t n) ∙ f) h))
        where
          by : (n : List ℕ) (x y : Term) → term_of row n ≡ Some x → (c : Bool) → is_among (variables u.patterns) n ≡ c → cond c (term_of t (renamed u n)) None ≡ Some y → agree r t ≡ true → x ≡ y
          by n x y e true l f h = agree_has r t (renamed u n) x y h (block_own b n (of_unit n l) ∙ e) f
          by n x y e false l f h = absurd (cc)

      -- the term of a variable in what both merge to
      merged_term : (n : List ℕ) → is_among (variables u.patterns) n ≡ true → term_of (merge r t) (renamed u n) ≡ option_or (term_of row n) (term_of t (renamed u n))
      merged_term n l = find-merge r t (renamed u n) ∙ ap (λ (o : Option Term). option_or o (term_of t (renamed u n))) (block_own b n (of_unit n l))

      own_merged : (n : List ℕ) → is_among (variables u.patterns) n ≡ true → term_of (merge row (own t)) n ≡ option_or (term_of row n) (term_of t (renamed u n))
      own_merged n l =
          find-merge row (own t) n ∙ ap (option_or (term_of row n)) (own_term t n ∙ ap (λ (c : Bool). cond c (term_of t (renamed u n)) None) l)

      again : (o p : Option Term) → option_or o (option_or o p) ≡ option_or o p
      again None p = refl
      again (Some x) p = refl

      or_nothing : (o : Option Term) → o ≡ option_or o None
      or_nothing None = refl
      or_nothing (Some x) = refl

      -- under the unit's own names it is what the row itself merges to
      one_told : told (renamed u) (unit_names u) row (merge r t) ≡ merge row (own t)
      one_told =
          same_entries text_cmp texts_total exact_bytes (told (renamed u) (unit_names u) row (merge r t)) (merge row (own t))
          (to_T (rises (told (renamed u) (unit_names u) row (merge r t))) (told_rises (renamed u) (unit_names u) row (merge r t) up)) (to_T (rises (merge row (own t))) (rises_merge row (own t) up))
          (λ n.
          told_term (renamed u) (unit_names u) row (merge r t) n
          ∙ ap (λ (c : Bool). cond c (option_or (term_of row n) (term_of (merge r t) (renamed u n))) (term_of row n)) (among_once (variables u.patterns) n)
          ∙ by n (is_among (variables u.patterns) n) refl
          ∙ sym (find-merge row (own t) n ∙ ap (option_or (term_of row n)) (own_term t n)))
        where
          by : (n : List ℕ) (c : Bool) → is_among (variables u.patterns) n ≡ c
              → cond c (option_or (term_of row n) (term_of (merge r t) (renamed u n))) (term_of row n) ≡ option_or (term_of row n) (cond c (term_of t (renamed u n)) None)
          by n true l = ap (option_or (term_of row n)) (merged_term n l) ∙ again (term_of row n) (term_of t (renamed u n))
          by n false l = or_nothing (term_of row n)

      names_told : (ns : List (List ℕ)) → list_all (is_among (variables u.patterns)) ns ≡ true → AreTold (renamed u) [] (merge row (own t)) (merge r t) ns
      names_told [] c = tt
      names_told (n ∷ ns) c =
          let k = two (is_among (variables u.patterns) n) (list_all (is_among (variables u.patterns)) ns) c in
          (own_merged n k.0 ∙ sym (merged_term n k.0), names_told ns k.1)
        where
          two : (x y : Bool) → (x && y) ≡ true → (x ≡ true) × (y ≡ true)
          two true y h = (refl, h)
          two false y h = absurd (cc)

      all_told : (es : List Expr) → AllByRecursion (λ e. is_covered u.patterns e ≡ true) es → AllByRecursion (λ e. AreTold (renamed u) [] (merge row (own t)) (merge r t) (expr_names e)) es
      all_told [] c = tt
      all_told (e ∷ es) c = (names_told (expr_names e) c.0, all_told es c.1)

      -- the filters say the same of both
      both_hold : (es : List Expr) → AllByRecursion (λ e. is_covered u.patterns e ≡ true) es → holds (map (bound_expr (renamed u) []) es) (merge r t) ≡ holds es (merge row (own t))
      both_hold es c = holds_kept (renamed u) [] (merge row (own t)) (merge r t) es (all_told es c)

    -- ---- all solutions

    module _ (covered : AllByRecursion (λ e. is_covered u.patterns e ≡ true) u.filters) where
      abbrev sent_es : List Expr
      sent_es = map (bound_expr (renamed u) []) u.filters

      all_merged : (ts : List Bindings) → ((t : Bindings) → Among t ts → Among t (bgp graph (map (bound_pattern (renamed u) []) u.patterns)))
          → map (told (renamed u) (unit_names u) b.row.solution) (filtered sent_es (merges ts (inline_row (columns u) (cells u b)))) ≡ filtered u.filters (merges (map (told (renamed u) (variables u.patterns) []) ts) b.row.solution)
      all_merged [] f = refl
      all_merged (t ∷ ts) f =
          by (agree (inline_row (columns u) (cells u b)) t) (all_merged ts (λ s m. f s (inr m)))
          ∙ ap (λ (c : Bool). filtered u.filters (map (merge b.row.solution) (cond c (own t ∷ filter (agree b.row.solution) (map own ts)) (filter (agree b.row.solution) (map own ts))))) (sym (both_agree t (f t (inl refl))))
        where
          kept : (c : Bool) (xs ys : List Bindings) → map (told (renamed u) (unit_names u) b.row.solution) (filtered sent_es xs) ≡ filtered u.filters ys
              → map (told (renamed u) (unit_names u) b.row.solution) (cond c (merge (inline_row (columns u) (cells u b)) t ∷ filtered sent_es xs) (filtered sent_es xs)) ≡ cond c (merge b.row.solution (own t) ∷ filtered u.filters ys) (filtered u.filters ys)
          kept true xs ys e = λ i. one_told t (f t (inl refl)) i ∷ e i
          kept false xs ys e = e

          by : (c : Bool) → map (told (renamed u) (unit_names u) b.row.solution) (filtered sent_es (merges ts (inline_row (columns u) (cells u b)))) ≡ filtered u.filters (merges (map own ts) b.row.solution)
              → map (told (renamed u) (unit_names u) b.row.solution) (filtered sent_es (map (merge (inline_row (columns u) (cells u b))) (cond c (t ∷ filter (agree (inline_row (columns u) (cells u b))) ts) (filter (agree (inline_row (columns u) (cells u b))) ts))))
              ≡ filtered u.filters (map (merge b.row.solution) (cond c (own t ∷ filter (agree b.row.solution) (map own ts)) (filter (agree b.row.solution) (map own ts))))
          by true e =
              ap (λ (c : Bool). map (told (renamed u) (unit_names u) b.row.solution) (cond c (merge (inline_row (columns u) (cells u b)) t ∷ filtered sent_es (merges ts (inline_row (columns u) (cells u b)))) (filtered sent_es (merges ts (inline_row (columns u) (cells u b))))))
              (both_hold t (f t (inl refl)) u.filters covered)
              ∙ kept (holds u.filters (merge b.row.solution (own t))) (merges ts (inline_row (columns u) (cells u b))) (merges (map own ts) b.row.solution) e
          by false e = e

      own_solutions : map (told (renamed u) (variables u.patterns) []) (bgp graph (map (bound_pattern (renamed u) []) u.patterns)) ≡ bgp graph u.patterns
      own_solutions =
          ap (map (told (renamed u) (variables u.patterns) [])) (sym (filtered_by_none (bgp graph (map (bound_pattern (renamed u) []) u.patterns))))
          ∙ branch_tells_its_row graph u.patterns [] [] (renamed u) refl (names_apart u short) (All-from_recursion (λ e. is_covered u.patterns e ≡ true) [] tt)
          ∙ filtered_by_none (merges (bgp graph u.patterns) [])
          ∙ merges_nothing (bgp graph u.patterns) (all_from (λ s. IsTrue (rises s)) (bgp graph u.patterns) (λ s m. (solution_of graph u.patterns s (contains_from (bgp graph u.patterns) s m)).rises))

      pub rows_tell : map (told (renamed u) (unit_names u) b.row.solution) (rows_of graph u b) ≡ beside graph u b.row.solution
      rows_tell =
          all_merged (bgp graph (map (bound_pattern (renamed u) []) u.patterns)) (λ t m. m)
          ∙ ap (λ (v : List Bindings). filtered u.filters (merges v b.row.solution)) own_solutions
