-- A condition that says which IRI a variable is.
use Rattle.std.proofs.Common.{◌≡◌, ◌∙◌, ap, sym, subst, refl, inl, inr, ℕ, Bool, true, false, not, ◌||◌, T, cond, List, [], ◌∷◌, ◌++◌, map, filter, Option, Some, None, option_map, is_some, IsTrue, IsPermutation}
use Rattle.std.specs.Prelude.{All, Contains}
use Rattle.std.specs.List.{AllByRecursion, list_any}
use Rattle.std.specs.Ordering.{is_eq}
use Rattle.std.proofs.lemmas.List.Elements.{All-append, All-from_recursion, recursion_from_All}
use Rattle.std.proofs.lemmas.List.Folds.{list_any-append}
use Rattle.std.proofs.lemmas.List.Sorted.{IsPermutation-refl, IsPermutation-sym}
use Rattle.fx_terms.proofs.SetLemmas.{Among}
use Rattle.fx_terms.specs.Texts.{text_cmp}
use Rattle.fx_terms.specs.declared.patterns.Pattern.{Pattern}
use Rattle.fx_terms.specs.declared.terms.Term.{Term}
use Rattle.fx_terms.specs.declared.terms.Term.TheVariants as term
use Rattle.fx_algebra.specs.BasicGraphPatterns.{bgp, variables}
use Rattle.fx_algebra.specs.Conditions.{is_so}
use Rattle.fx_algebra.specs.Evaluation.{rows_from}
use Rattle.fx_algebra.specs.Operators.{join}
use Rattle.fx_algebra.specs.Scopes.{is_among, part_names, pattern_names}
use Rattle.fx_algebra.specs.Solutions.{Bindings, agree, merge, rises, same_term, term_of, with_pair}
use Rattle.fx_algebra.specs.Units.{expr_names, names_step}
use Rattle.fx_algebra.specs.Values.{boolean, compared, equal, equal_by, is_true, on_both, same_terms, truth_of, value, value_step}
use Rattle.fx_algebra.specs.Worths.{integer_type, kind_of, read_boolean, truth, worth_of}
use Rattle.fx_algebra.specs.declared.worths.Worth.{Worth}
use Rattle.fx_algebra.specs.declared.worths.Worth.TheVariants as worth
use Rattle.fx_algebra.specs.declared.expressions.Compare.TheVariants as compare
use Rattle.fx_algebra.specs.declared.expressions.Expr.{Expr, Expr-F, fold-roll-Expr}
use Rattle.fx_algebra.specs.declared.expressions.Expr.TheVariants.{Variable, Constant, Compare as Compares, rolls-Variable, rolls-Constant, rolls-Compare}
use Rattle.fx_algebra.proofs.ForcedLemmas.{Extends, name_from, same_from, same_itself}
use Rattle.fx_algebra.proofs.JoinLemmas.{extended_agree, join_run}
use Rattle.fx_algebra.proofs.JoinOrderLemmas.{rise_join}
use Rattle.fx_algebra.proofs.RunLemmas.{all_T, among_flat}
use Rattle.fx_steps.specs.Fewer.{AreFewer, IsGone}
use Rattle.fx_steps.proofs.FewerLemmas.{fewer_laws}
use Rattle.fx_steps.proofs.GroupLemmas.{binds_run, split_rows}
use Rattle.fx_steps.proofs.StepLemmas.{in_filter}
use Rattle.fx_evaluation.specs.Known.{AreMoreKnown, ComeToFewer, IsKnown, IsSaidBy, IsSaying}
use Rattle.fx_evaluation.proofs.ConditionLemmas.{all_of_them}
use Rattle.fx_evaluation.proofs.RunLemmas.{table_first}

-- ---- what the condition says

value_variable : (name : List ℕ) (s : Bindings) → value (Variable name) s ≡ term_of s name
value_variable name s = ap (λ e. value e s) (sym (rolls-Variable name)) ∙ fold-roll-Expr (Option Term) (value_step s) (Expr-F.Variable name)

value_constant : (t : Term) (s : Bindings) → value (Constant t) s ≡ Some t
value_constant t s = ap (λ e. value e s) (sym (rolls-Constant t)) ∙ fold-roll-Expr (Option Term) (value_step s) (Expr-F.Constant t)

value_equal : (l r : Expr) (s : Bindings) → value (Compares compare.Equal l r) s ≡ option_map boolean (on_both (compared compare.Equal) (value l s) (value r s))
value_equal l r s = ap (λ e. value e s) (sym (rolls-Compare compare.Equal l r)) ∙ fold-roll-Expr (Option Term) (value_step s) (Expr-F.Compare compare.Equal l r)

names_variable : (name : List ℕ) → expr_names (Variable name) ≡ name ∷ []
names_variable name = ap expr_names (sym (rolls-Variable name)) ∙ fold-roll-Expr (List (List ℕ)) names_step (Expr-F.Variable name)

names_constant : (t : Term) → expr_names (Constant t) ≡ []
names_constant t = ap expr_names (sym (rolls-Constant t)) ∙ fold-roll-Expr (List (List ℕ)) names_step (Expr-F.Constant t)

names_equal : (l r : Expr) → expr_names (Compares compare.Equal l r) ≡ expr_names l ++ expr_names r
names_equal l r = ap expr_names (sym (rolls-Compare compare.Equal l r)) ∙ fold-roll-Expr (List (List ℕ)) names_step (Expr-F.Compare compare.Equal l r)

opaque : (w : Worth) (a b : Term) → equal_by w worth.Opaque a b ≡ same_terms a b
opaque (worth.Integer n) a b = refl
opaque (worth.Boolean c) a b = refl
opaque worth.Text a b = refl
opaque worth.Opaque a b = refl

clash : {X : Type 0} → false ≡ true → X
clash h = cc

no_truth : is_true (truth_of (Some (boolean false))) ≡ false
unfolding truth boolean kind_of integer_type read_boolean
no_truth = refl

to_iri : (v : Term) (iri : List ℕ) → is_true (truth_of (option_map boolean (same_terms v (term.Iri iri)))) ≡ true → v ≡ term.Iri iri
to_iri (term.Iri a) iri h = by (same_term (term.Iri a) (term.Iri iri)) refl h
  where
    by : (b : Bool) → same_term (term.Iri a) (term.Iri iri) ≡ b → is_true (truth_of (Some (boolean b))) ≡ true → term.Iri a ≡ term.Iri iri
    by true e k = same_from (term.Iri a) (term.Iri iri) e
    by false e k = clash (sym no_truth ∙ k)
to_iri (term.Literal a) iri h = clash (sym no_truth ∙ h)

equal_to_iri : (v : Term) (iri : List ℕ) → equal v (term.Iri iri) ≡ same_terms v (term.Iri iri)
unfolding equal worth_of
equal_to_iri v iri = opaque (worth_of v) v (term.Iri iri)

said : (o : Option Term) (iri : List ℕ) → is_true (truth_of (option_map boolean (on_both (compared compare.Equal) o (Some (term.Iri iri))))) ≡ true → o ≡ Some (term.Iri iri)
said None iri h = cc
said (Some v) iri h = ap Some (to_iri v iri (ap (λ (b : Option Bool). is_true (truth_of (option_map boolean b))) (sym (equal_to_iri v iri)) ∙ h))

said_value : (name iri : List ℕ) (s : Bindings) → value (Compares compare.Equal (Variable name) (Constant (term.Iri iri))) s ≡ option_map boolean (on_both (compared compare.Equal) (term_of s name) (Some (term.Iri iri)))
said_value name iri s =
    value_equal (Variable name) (Constant (term.Iri iri)) s
    ∙ ap (λ (o : Option Term). option_map boolean (on_both (compared compare.Equal) o (value (Constant (term.Iri iri)) s))) (value_variable name s)
    ∙ ap (λ (o : Option Term). option_map boolean (on_both (compared compare.Equal) (term_of s name) o)) (value_constant (term.Iri iri) s)

pub known_equal : (e l r : Expr) (name iri : List ℕ) → e ≡ Compares compare.Equal l r → l ≡ Variable name → r ≡ Constant (term.Iri iri) → IsKnown e name iri
known_equal e l r name iri is left right =
    let whole : e ≡ Compares compare.Equal (Variable name) (Constant (term.Iri iri)) = is ∙ ap (λ x. Compares compare.Equal x r) left ∙ ap (λ x. Compares compare.Equal (Variable name) x) right in
    subst (λ x. IsKnown x name iri) (sym whole) (record {
      names = names_equal (Variable name) (Constant (term.Iri iri)) ∙ ap (λ (v : List (List ℕ)). v ++ expr_names (Constant (term.Iri iri))) (names_variable name) ∙ ap (λ (v : List (List ℕ)). name ∷ v) (names_constant (term.Iri iri));
      says = λ s h.
          said (term_of s name) iri (ap (λ (o : Option Term). is_true (truth_of o)) (sym (said_value name iri s)) ∙ h);
    })

truth_said : is_true (truth_of (Some (boolean true))) ≡ true
unfolding truth boolean kind_of integer_type read_boolean
truth_said = refl

-- it holds where the variable is the IRI
pub said_is_so : (e : Expr) (name iri : List ℕ) (s : Bindings) → IsSaying e name iri → term_of s name ≡ Some (term.Iri iri) → is_so s e ≡ true
said_is_so e name iri s says bound =
    ap (is_so s) says
    ∙ ap (λ (o : Option Term). is_true (truth_of o)) (said_value name iri s ∙ ap (λ (o : Option Term). option_map boolean (on_both (compared compare.Equal) o (Some (term.Iri iri)))) bound)
    ∙ ap (λ (b : Option Bool). is_true (truth_of (option_map boolean b))) (equal_to_iri (term.Iri iri) iri)
    ∙ ap (λ (b : Bool). is_true (truth_of (Some (boolean b)))) (same_itself (term.Iri iri) (term.Iri iri) refl)
    ∙ truth_said

-- ---- names of patterns

pub in_parts : (p : Pattern) (name : List ℕ) → is_among (pattern_names p) name ≡ (is_among (part_names p.subject) name || (is_among (part_names p.predicate) name || is_among (part_names p.object) name))
in_parts p name =
    list_any-append (λ n. is_eq (text_cmp n name)) (part_names p.subject) (part_names p.predicate ++ part_names p.object)
    ∙ ap (λ (b : Bool). is_among (part_names p.subject) name || b) (list_any-append (λ n. is_eq (text_cmp n name)) (part_names p.predicate) (part_names p.object))

-- ---- rows that are joined with the one row that the condition leaves

module _ (name iri : List ℕ) where
  abbrev one : Bindings
  one = (name, term.Iri iri) ∷ []

  merge_one : (s : Bindings) → is_some (term_of s name) ≡ true → merge s one ≡ s
  merge_one s h = ap (λ (b : Bool). cond b s (with_pair s name (term.Iri iri))) h

  join_one_row : (xs : List Bindings) → AllByRecursion (λ s. is_some (term_of s name) ≡ true) xs → join xs (one ∷ []) ≡ filter (λ s. agree s one) xs
  join_one_row [] h = refl
  join_one_row (x ∷ xs) h = by (agree x one) (join_one_row xs h.1)
    where
      by : (b : Bool) → join xs (one ∷ []) ≡ filter (λ s. agree s one) xs → map (merge x) (cond b (one ∷ []) []) ++ join xs (one ∷ []) ≡ cond b (x ∷ filter (λ s. agree s one) xs) (filter (λ s. agree s one) xs)
      by true e = ap (λ (v : Bindings). v ∷ join xs (one ∷ [])) (merge_one x h.0) ∙ ap (λ (v : List Bindings). x ∷ v) e
      by false e = e

  one_within : (s : Bindings) → term_of s name ≡ Some (term.Iri iri) → Extends one s
  one_within s h = record { has = λ n t e. by n t (is_eq (text_cmp n name)) refl e }
    where
      by : (n : List ℕ) (t : Term) (b : Bool) → is_eq (text_cmp n name) ≡ b → cond b (Some (term.Iri iri)) None ≡ Some t → term_of s n ≡ Some t
      by n t true k e = ap (term_of s) (name_from n name k) ∙ h ∙ e
      by n t false k e = cc

  agrees : (s : Bindings) → T (rises s) → term_of s name ≡ Some (term.Iri iri) → agree s one ≡ true
  agrees s up h = extended_agree s one s up (record { has = λ n t e. e }) (one_within s h)

all_among : (P : Bindings → Type 0) (xs : List Bindings) → ((x : Bindings) → Among x xs → P x) → AllByRecursion P xs
all_among P [] f = tt
all_among P (x ∷ xs) f = (f x (inl refl), all_among P xs (λ y m. f y (inr m)))

among_its : (P : Bindings → Type 0) (xs : List Bindings) → AllByRecursion P xs → (x : Bindings) → Among x xs → P x
among_its P [] h x m = absurd m
among_its P (y ∷ ys) h x (inl e) = subst P e h.0
among_its P (y ∷ ys) h x (inr m) = among_its P ys h.1 x m

refuses : (e : Expr) (name iri : List ℕ) (s : Bindings) → IsKnown e name iri → T (rises s) → not (agree s ((name, term.Iri iri) ∷ [])) ≡ true → (b : Bool) → is_so s e ≡ b → is_so s e ≡ false
refuses e name iri s known up against true h = let yes : agree s ((name, term.Iri iri) ∷ []) ≡ true = agrees name iri s up (known.says s h) in absurd (cc)
refuses e name iri s known up against false h = h

module _ (conditions : List Expr) (e : Expr) (name iri : List ℕ) (own : Contains conditions e) (known : IsKnown e name iri) where
  fewer_known : (xs : List Bindings) → AllByRecursion (λ s. T (rises s)) xs → AllByRecursion (λ s. is_some (term_of s name) ≡ true) xs → AreFewer conditions (join xs (((name, term.Iri iri) ∷ []) ∷ [])) xs
  fewer_known xs up bound =
      let p : Bindings → Bool = λ s. agree s ((name, term.Iri iri) ∷ []) in
      let gone = filter (λ s. not (p s)) xs in
      record {
        gone = gone;
        rows_are = subst (λ (v : List Bindings). IsPermutation (v ++ gone) xs) (sym (join_one_row name iri xs bound)) (IsPermutation-sym xs (filter p xs ++ gone) (split_rows p xs));
        are_gone =
            All-from_recursion (IsGone conditions) gone
            (all_among (IsGone conditions) gone
            (λ s m.
            let k = in_filter (λ s. not (p s)) s xs m in
            record {
              refusing = e;
              own = own;
              bound =
                  All-from_recursion (λ n. IsTrue (is_some (term_of s n))) (expr_names e)
                  (subst (λ (names : List (List ℕ)). AllByRecursion (λ n. IsTrue (is_some (term_of s n))) names) (sym known.names) (among_its (λ s. is_some (term_of s name) ≡ true) xs bound s k.0, tt));
              fails = refuses e name iri s known (among_its (λ s. T (rises s)) xs up s k.0) k.1 (is_so s e) refl;
            }));
      }

  pub known_rows : (ps : List Pattern) (rows table joined : List Bindings) → list_any (λ p. is_among (pattern_names p) name) ps ≡ true → All (λ s. IsTrue (rises s)) rows → table ≡ ((name, term.Iri iri) ∷ []) ∷ []
      → IsPermutation (join rows table) joined → ComeToFewer conditions ps joined rows
  known_rows ps rows table joined stands up is moved = record {
    same = λ graph.
        let all = join rows (bgp graph ps) in
        let rising = recursion_from_All (λ s. IsTrue (rises s)) rows up in
        let run : all ≡ rows_from graph rows ps = join_run graph ps rows (all_T rows rising) in
        let among : is_among (variables ps) name ≡ true = among_flat pattern_names name ps ∙ stands in
        let bound = all_among (λ s. is_some (term_of s name) ≡ true) all (λ s m. binds_run graph ps rows s m name among) in
        let fewer = fewer_known all (all_T all (rise_join rows (bgp graph ps) rising)) bound in
        let table_moved = table_first graph rows table joined ps up moved in
        subst (λ (v : List Bindings). AreFewer conditions (rows_from graph joined ps) v) run
        (fewer_laws.any_order conditions (join all (((name, term.Iri iri) ∷ []) ∷ [])) (rows_from graph joined ps) all all
        (subst (λ (v : List Bindings). IsPermutation (join v (((name, term.Iri iri) ∷ []) ∷ [])) (rows_from graph joined ps)) (sym run)
        (subst (λ (v : List Bindings). IsPermutation (join (rows_from graph rows ps) v) (rows_from graph joined ps)) is table_moved))
        (IsPermutation-refl all) fewer);
  }

pub as_before : (conditions : List Expr) (ps : List Pattern) (rows : List Bindings) → ComeToFewer conditions ps rows rows
as_before conditions ps rows = record { same = λ graph. all_of_them conditions (rows_from graph rows ps) }

pub in_turn : (conditions : List Expr) (ps : List Pattern) (known between rows : List Bindings) → ComeToFewer conditions ps known between → ComeToFewer conditions ps between rows → ComeToFewer conditions ps known rows
in_turn conditions ps known between rows h k = record { same = λ graph. fewer_laws.in_turn conditions (rows_from graph known ps) (rows_from graph between ps) (rows_from graph rows ps) (h.same graph) (k.same graph) }

-- ---- what a row says

pub said_more : (row : Bindings) (before known : List Expr) → All (IsSaidBy row) before → AreMoreKnown row before known → All (IsSaidBy row) known
said_more row before known h (inl same) = subst (All (IsSaidBy row)) (sym same) h
said_more row before known h (inr more) = subst (All (IsSaidBy row)) (sym more.2) (All-append (IsSaidBy row) before (more.0 ∷ []) h (All-from_recursion (IsSaidBy row) (more.0 ∷ []) (more.1, tt)))
