-- The rows behind the units of a run are those of its join.
use Rattle.std.proofs.Common.{◌≡◌, ◌∙◌, ap, sym, subst, refl, inl, inr, ℕ, suc, Bool, true, false, ◌&&◌, T, cond, List, [], ◌∷◌, ◌++◌, map, filter, Option, Some, None, is_some, IsTrue, IsPermutation}
use Rattle.std.specs.List.{AllByRecursion}
use Rattle.std.proofs.lemmas.List.{map-append}
use Rattle.std.proofs.lemmas.List.Elements.{filter-append, recursion_from_All}
use Rattle.std.proofs.lemmas.List.Folds.{list_all-append}
use Rattle.std.proofs.lemmas.List.Sorted.{IsPermutation-refl}
use Rattle.fx_terms.specs.declared.patterns.Pattern.{Pattern}
use Rattle.fx_terms.specs.declared.terms.Term.{Term}
use Rattle.fx_terms.specs.declared.triples.Triple.{Triple}
use Rattle.fx_terms.proofs.SetLemmas.{Among, contains_from}
use Rattle.fx_algebra.specs.BasicGraphPatterns.{bgp}
use Rattle.fx_algebra.specs.Conditions.{holds, is_so}
use Rattle.fx_algebra.specs.Evaluation.{extended, rows_from}
use Rattle.fx_algebra.specs.Operators.{filtered, join, merges}
use Rattle.fx_algebra.specs.Solutions.{Bindings, agree, merge, rises, term_of}
use Rattle.fx_algebra.specs.Units.{is_covered, row_of, row_step, step}
use Rattle.fx_algebra.specs.declared.expressions.Expr.{Expr}
use Rattle.fx_algebra.specs.declared.units.Row.{Row}
use Rattle.fx_algebra.specs.declared.units.Unit as unit
use Rattle.fx_algebra.proofs.BgpLemmas.{solution_of}
use Rattle.fx_algebra.proofs.JoinLemmas.{join_run, merge_extends_right, same_join}
use Rattle.fx_algebra.proofs.MemberLemmas.{among_from_flat_map, among_from_map}
use Rattle.fx_algebra.proofs.OperatorLemmas.{filtered_by_none, filtered_moves}
use Rattle.fx_algebra.proofs.PairLemmas.{rises_merge}
use Rattle.fx_algebra.proofs.RunLemmas.{bgp_moves}
use Rattle.fx_plan.specs.Plans.{plan}
use Rattle.fx_plan.proofs.LawLemmas.{filters_are_own}
use Rattle.fx_steps.specs.Steps.{HasItsVariables, PlanIsTheJoin, StepsAreTheJoin, numbered, solutions_of, stepped, unit_filters, unit_patterns}
use Rattle.fx_steps.proofs.FilterLemmas.{Binds, filtered_join}
use Rattle.fx_steps.proofs.PlanLemmas.{plan_is_of_the_run}

to_T : (b : Bool) → b ≡ true → T b
to_T true h = tt
to_T false h = cc

-- ---- one step

pub numbered_solutions : (n : ℕ) (ss : List Bindings) → solutions_of (numbered n ss) ≡ ss
numbered_solutions n [] = refl
numbered_solutions n (s ∷ ss) = ap (λ (v : List Bindings). s ∷ v) (numbered_solutions (suc n) ss)

row_solutions : (n : ℕ) (ss : List Bindings) → solutions_of (map (row_of n) ss) ≡ ss
row_solutions n [] = refl
row_solutions n (s ∷ ss) = ap (λ (v : List Bindings). s ∷ v) (row_solutions n ss)

-- a step joins the rows with the unit's patterns, and keeps those on which its filters hold
pub step_solutions : (graph : List Triple) (u : unit.Unit) (rows : List Row) → solutions_of (step graph u rows) ≡ filtered u.filters (join (solutions_of rows) (bgp graph u.patterns))
step_solutions graph u [] = refl
step_solutions graph u (r ∷ rows) =
    let here = merges (bgp graph u.patterns) r.solution in
    let rest = join (solutions_of rows) (bgp graph u.patterns) in
    map-append (λ (row : Row). row.solution) (row_step graph u r) (step graph u rows)
    ∙ ap (λ (v : List Bindings). v ++ solutions_of (step graph u rows)) (row_solutions r.origin (filtered u.filters here))
    ∙ ap (λ (v : List Bindings). filtered u.filters here ++ v) (step_solutions graph u rows)
    ∙ sym (filter-append (holds u.filters) here rest)

-- ---- the rows of a join

pub in_filter : {X : Type 0} (p : X → Bool) (x : X) (xs : List X) → Among x (filter p xs) → Among x xs × (p x ≡ true)
in_filter p x [] m = absurd m
in_filter p x (y ∷ ys) m = by (p y) refl (in_filter p x ys) m
  where
    more : Among x ys × (p x ≡ true) → Among x (y ∷ ys) × (p x ≡ true)
    more t = (inr t.0, t.1)

    by : (b : Bool) → p y ≡ b → (Among x (filter p ys) → Among x ys × (p x ≡ true)) → Among x (cond b (y ∷ filter p ys) (filter p ys)) → Among x (y ∷ ys) × (p x ≡ true)
    by true e f (inl same) = (inl same, ap p (sym same) ∙ e)
    by true e f (inr n) = more (f n)
    by false e f n = more (f n)

-- what a join holds of each row
record IsJoined (graph : List Triple) (ps : List Pattern) (row : Bindings) : Type 0 where
  rising : IsTrue (rises row)
  binds : Binds ps row

pub some_term : (row b : Bindings) (name : List ℕ) (o : Option Term) → term_of b name ≡ o → is_some o ≡ true → ((t : Term) → term_of b name ≡ Some t → term_of row name ≡ Some t) → is_some (term_of row name) ≡ true
some_term row b name None e h f = absurd (cc)
some_term row b name (Some t) e h f = ap is_some (f t e)

module _ (graph : List Triple) (ps : List Pattern) where
  of_merge : (a b : Bindings) → IsTrue (rises a) → Among b (bgp graph ps) → agree a b ≡ true → IsJoined graph ps (merge a b)
  of_merge a b up m same =
      let s = solution_of graph ps b (contains_from (bgp graph ps) b m) in
      record {
        rising = rises_merge a b up;
        binds = λ name among. some_term (merge a b) b name (term_of b name) refl (s.binds name ∙ among) (λ t e. (merge_extends_right a b same).has name t e);
      }

  of_merges : (a : Bindings) → IsTrue (rises a) → (row : Bindings) → Among row (merges (bgp graph ps) a) → IsJoined graph ps row
  of_merges a up row m =
      let b = among_from_map (merge a) row (filter (agree a) (bgp graph ps)) m in
      let k = in_filter (agree a) b.0 (bgp graph ps) b.1 in
      subst (IsJoined graph ps) b.2 (of_merge a b.0 up k.0 k.1)

  of_join : (rows : List Bindings) → AllByRecursion (λ s. IsTrue (rises s)) rows → (row : Bindings) → Among row (join rows (bgp graph ps)) → IsJoined graph ps row
  of_join rows up row m =
      let a = among_from_flat_map (merges (bgp graph ps)) row rows m in
      of_merges a.0 (its rows up a.0 a.1) row a.2
    where
      its : (rows : List Bindings) → AllByRecursion (λ s. IsTrue (rises s)) rows → (s : Bindings) → Among s rows → IsTrue (rises s)
      its [] h s m = absurd m
      its (r ∷ rs) h s (inl e) = subst (λ (v : Bindings). IsTrue (rises v)) e h.0
      its (r ∷ rs) h s (inr n) = its rs h.1 s n

  each_joined : (all rows : List Bindings) → ((row : Bindings) → Among row rows → Among row all) → ((row : Bindings) → Among row all → IsJoined graph ps row) → AllByRecursion (IsJoined graph ps) rows
  each_joined all [] f g = tt
  each_joined all (r ∷ rs) f g = (g r (f r (inl refl)), each_joined all rs (λ row m. f row (inr m)) g)

  all_joined : (rows : List Bindings) → AllByRecursion (λ s. IsTrue (rises s)) rows → AllByRecursion (IsJoined graph ps) (join rows (bgp graph ps))
  all_joined rows up = each_joined (join rows (bgp graph ps)) (join rows (bgp graph ps)) (λ row m. m) (of_join rows up)

  all_rise : (rows : List Bindings) → AllByRecursion (IsJoined graph ps) rows → AllByRecursion (λ s. IsTrue (rises s)) rows
  all_rise [] h = tt
  all_rise (r ∷ rs) h = (h.0.rising, all_rise rs h.1)

  all_bind : (rows : List Bindings) → AllByRecursion (IsJoined graph ps) rows → AllByRecursion (Binds ps) rows
  all_bind [] h = tt
  all_bind (r ∷ rs) h = (h.0.binds, all_bind rs h.1)

each_filter : {X : Type 0} (P : X → Type 0) (p : X → Bool) (xs : List X) → AllByRecursion P xs → AllByRecursion P (filter p xs)
each_filter P p [] h = tt
each_filter P p (x ∷ xs) h = by (p x) (each_filter P p xs h.1)
  where
    by : (b : Bool) → AllByRecursion P (filter p xs) → AllByRecursion P (cond b (x ∷ filter p xs) (filter p xs))
    by true rest = (h.0, rest)
    by false rest = rest

-- ---- one join after another

rows_from_both : (graph : List Triple) (ps qs : List Pattern) (rows : List Bindings) → rows_from graph rows (ps ++ qs) ≡ rows_from graph (rows_from graph rows ps) qs
rows_from_both graph [] qs rows = refl
rows_from_both graph (p ∷ ps) qs rows = rows_from_both graph ps qs (extended graph p rows)

all_T : (rows : List Bindings) → AllByRecursion (λ s. IsTrue (rises s)) rows → AllByRecursion (λ s. T (rises s)) rows
all_T [] h = tt
all_T (r ∷ rs) h = (to_T (rises r) h.0, all_T rs h.1)

join_both : (graph : List Triple) (ps qs : List Pattern) (rows : List Bindings) → AllByRecursion (λ s. IsTrue (rises s)) rows → join (join rows (bgp graph ps)) (bgp graph qs) ≡ join rows (bgp graph (ps ++ qs))
join_both graph ps qs rows up =
    let first = join rows (bgp graph ps) in
    join_run graph qs first (all_T first (all_rise graph ps first (all_joined graph ps rows up)))
    ∙ ap (λ (v : List Bindings). rows_from graph v qs) (join_run graph ps rows (all_T rows up))
    ∙ sym (rows_from_both graph ps qs rows)
    ∙ sym (join_run graph (ps ++ qs) rows (all_T rows up))

either_way : (b c : Bool) → (b && c) ≡ (c && b)
either_way true true = refl
either_way true false = refl
either_way false true = refl
either_way false false = refl

holds_both : (es fs : List Expr) (s : Bindings) → (holds fs s && holds es s) ≡ holds (es ++ fs) s
unfolding holds
holds_both es fs s = either_way (holds fs s) (holds es s) ∙ sym (list_all-append (is_so s) es fs)

filter_both : {X : Type 0} (p q : X → Bool) (xs : List X) → filter p (filter q xs) ≡ filter (λ x. p x && q x) xs
filter_both p q [] = refl
filter_both p q (x ∷ xs) = by (q x) (p x) refl (filter_both p q xs)
  where
    by : (c b : Bool) → p x ≡ b → filter p (filter q xs) ≡ filter (λ y. p y && q y) xs → filter p (cond c (x ∷ filter q xs) (filter q xs)) ≡ cond (b && c) (x ∷ filter (λ y. p y && q y) xs) (filter (λ y. p y && q y) xs)
    by true true e h = ap (λ (d : Bool). cond d (x ∷ filter p (filter q xs)) (filter p (filter q xs))) e ∙ ap (λ v. x ∷ v) h
    by true false e h = ap (λ (d : Bool). cond d (x ∷ filter p (filter q xs)) (filter p (filter q xs))) e ∙ h
    by false true e h = h
    by false false e h = h

pub filtered_both : (es fs : List Expr) (rows : List Bindings) → filtered fs (filtered es rows) ≡ filtered (es ++ fs) rows
filtered_both es fs rows = filter_both (holds fs) (holds es) rows ∙ ap (λ (p : Bindings → Bool). filter p rows) (λ i s. holds_both es fs s i)

-- ---- all steps

pub steps_join : (graph : List Triple) (us : List unit.Unit) (rows : List Row) → AllByRecursion (λ s. IsTrue (rises s)) (solutions_of rows) → AllByRecursion HasItsVariables us
    → solutions_of (stepped graph us rows) ≡ filtered (unit_filters us) (join (solutions_of rows) (bgp graph (unit_patterns us)))
steps_join graph [] rows up own = sym (filtered_by_none (solutions_of rows)) ∙ ap (filtered []) (sym (join_run graph [] (solutions_of rows) (all_T (solutions_of rows) up)))
steps_join graph (u ∷ us) rows up own =
    let before = solutions_of rows in
    let mine = join before (bgp graph u.patterns) in
    let behind = bgp graph (unit_patterns us) in
    let joined = all_joined graph u.patterns before up in
    let after = step graph u rows in
    let is : solutions_of after ≡ filtered u.filters mine = step_solutions graph u rows in
    let rising : AllByRecursion (λ s. IsTrue (rises s)) (solutions_of after) =
    subst (AllByRecursion (λ s. IsTrue (rises s))) (sym is) (each_filter (λ s. IsTrue (rises s)) (holds u.filters) mine (all_rise graph u.patterns mine joined)) in
    steps_join graph us after rising own.1
    ∙ ap (λ (v : List Bindings). filtered (unit_filters us) (join v behind)) is
    ∙ ap (filtered (unit_filters us)) (sym (filtered_join u.patterns u.filters (recursion_from_All (λ e. is_covered u.patterns e ≡ true) u.filters own.0) behind mine (all_bind graph u.patterns mine joined)))
    ∙ filtered_both u.filters (unit_filters us) (join mine behind)
    ∙ ap (filtered (u.filters ++ unit_filters us)) (join_both graph u.patterns (unit_patterns us) before up)

-- ---- the laws

pub steps_are_the_join : StepsAreTheJoin
steps_are_the_join graph us run seeds sorted up own moved =
    let rows = numbered 0 seeds in
    let same : solutions_of rows ≡ seeds = numbered_solutions 0 seeds in
    let each = recursion_from_All (λ s. IsTrue (rises s)) seeds up in
    let is = steps_join graph us rows (subst (AllByRecursion (λ s. IsTrue (rises s))) (sym same) each) (recursion_from_All HasItsVariables us own) in
    subst (λ (v : List Bindings). IsPermutation v (filtered (unit_filters us) (join seeds (bgp graph run))))
    (ap (λ (v : List Bindings). filtered (unit_filters us) (join v (bgp graph (unit_patterns us)))) (sym same) ∙ sym is)
    (filtered_moves (unit_filters us) (join seeds (bgp graph (unit_patterns us))) (join seeds (bgp graph run))
    (same_join seeds seeds (bgp graph (unit_patterns us)) (bgp graph run) (IsPermutation-refl seeds) (bgp_moves graph (unit_patterns us) run sorted moved)))

pub plan_is_the_join : PlanIsTheJoin
plan_is_the_join graph run sources filters bound seeds sorted up same =
    let us = plan run sources filters bound in
    steps_are_the_join graph us run seeds sorted up
    (λ k d h. let own = filters_are_own run sources filters bound k d h in λ i e low. (own i e low).covered)
    (plan_is_of_the_run run sources filters bound same)
