-- What the elements of a group make of rows they make row by row, and they only add to a row. What comes out of a plan comes out of its run.
use Rattle.std.proofs.Common.{◌≡◌, ◌∙◌, ap, sym, subst, refl, inl, inr, ◌⊎◌, ℕ, Bool, true, false, not, ◌&&◌, ◌||◌, cond, List, [], ◌∷◌, ◌++◌, map, filter, Option, Some, None, is_some, IsPermutation, Contains, append_assoc}
use Rattle.std.specs.Prelude.{All}
use Rattle.std.specs.List.{AllByRecursion, list_all, list_any}
use Rattle.std.proofs.lemmas.Grind.{flat_map-append}
use Rattle.std.proofs.lemmas.List.{map-append}
use Rattle.std.proofs.lemmas.List.Elements.{filter-append, recursion_from_All, All-from_recursion, All-contains_itself}
use Rattle.std.proofs.lemmas.List.Folds.{list_any-append}
use Rattle.std.proofs.lemmas.List.Sorted.{IsPermutation-refl, IsPermutation-sym, IsPermutation-trans, IsPermutation-cons, IsPermutation-middle, IsPermutation-append_right, list_any-IsPermutation}
use Rattle.fx_terms.specs.declared.terms.Term.{Term}
use Rattle.fx_terms.specs.declared.triples.Triple.{Triple}
use Rattle.fx_terms.specs.declared.patterns.Pattern.{Pattern}
use Rattle.fx_terms.proofs.SetLemmas.{Among, contains_from}
use Rattle.fx_algebra.specs.BasicGraphPatterns.{bgp, variables}
use Rattle.fx_algebra.specs.Conditions.{holds, is_so}
use Rattle.fx_algebra.specs.Groups.{Part, pattern, condition, operator, Step, run, apply, Meaning, element_meaning, group_meaning, with_pattern, with_part, steps_of, group_rows, alternatives, service_rows}
use Rattle.fx_algebra.specs.Operators.{join, merges, filtered, diff, left_join, minus, stays, extend, extended, with_value, inline_rows}
use Rattle.fx_algebra.specs.Scopes.{is_among, pattern_names}
use Rattle.fx_algebra.specs.Solutions.{Bindings, agree, merge, term_of}
use Rattle.fx_algebra.specs.Units.{expr_names}
use Rattle.fx_algebra.specs.Values.{value}
use Rattle.fx_algebra.specs.declared.expressions.Expr.{Expr}
use Rattle.fx_algebra.specs.declared.queries.Element.{Element, Element-F, fold_out-Element}
use Rattle.fx_algebra.specs.declared.units.Unit as unit
use Rattle.fx_algebra.proofs.BgpLemmas.{solution_of}
use Rattle.fx_algebra.proofs.CutLemmas.{part_of}
use Rattle.fx_algebra.proofs.ForcedLemmas.{Extends}
use Rattle.fx_algebra.proofs.JoinLemmas.{merge_extends_left, merge_extends_right}
use Rattle.fx_algebra.proofs.MemberLemmas.{among_cases, among_from_flat_map, among_from_map}
use Rattle.fx_algebra.proofs.RunLemmas.{among_flat}
use Rattle.fx_plan.specs.Laws.{IsOwn}
use Rattle.fx_plan.specs.Plans.{plan}
use Rattle.fx_plan.proofs.LawLemmas.{filters_are_own, filters_of_run}
use Rattle.fx_steps.specs.Groups.{IsPushed, PlanComesOut}
use Rattle.fx_steps.specs.Steps.{unit_filters, unit_patterns}
use Rattle.fx_steps.proofs.FilterLemmas.{Binds}
use Rattle.fx_steps.proofs.PlanLemmas.{plan_is_of_the_run, swap_fronts, same_as}
use Rattle.fx_steps.proofs.StepLemmas.{in_filter, plan_is_the_join, some_term}

-- ---- two lists of rows in front of each other

exchange : {X : Type 0} (vs ws xs ys : List X) → IsPermutation ((vs ++ ws) ++ (xs ++ ys)) ((vs ++ xs) ++ (ws ++ ys))
exchange vs ws xs ys =
    subst (λ v. IsPermutation v ((vs ++ xs) ++ (ws ++ ys))) (sym (append_assoc vs ws (xs ++ ys)))
    (subst (λ v. IsPermutation (vs ++ (ws ++ (xs ++ ys))) v) (sym (append_assoc vs xs (ws ++ ys))) (IsPermutation-append_right vs (ws ++ (xs ++ ys)) (xs ++ (ws ++ ys)) (swap_fronts ws xs ys)))

-- ---- what operators make of rows they make row by row, and they only add to a row

abbrev pub Rows : Type 0
Rows = List Triple → ℕ → List Bindings → List Bindings

abbrev pub Splits : Rows → Type 0
Splits f = (graph : List Triple) (number : ℕ) (xs ys : List Bindings) → IsPermutation (f graph number (xs ++ ys)) (f graph number xs ++ f graph number ys)

abbrev pub Grows : Rows → Type 0
Grows f = (graph : List Triple) (number : ℕ) (rows : List Bindings) (s : Bindings) → Among s (f graph number rows) → (r : Bindings) × Among r rows × Extends r s

pub record GoesByRows (f : Rows) : Type 0 where
  pub splits : Splits f
  pub grows : Grows f

extends_itself : (s : Bindings) → Extends s s
extends_itself s = record { has = λ name term e. e }

join_splits : (xs ys others : List Bindings) → IsPermutation (join (xs ++ ys) others) (join xs others ++ join ys others)
join_splits xs ys others = same_as (join (xs ++ ys) others) (join xs others ++ join ys others) (flat_map-append (merges others) xs ys)

pub join_grows : (rows others : List Bindings) (s : Bindings) → Among s (join rows others) → (r : Bindings) × Among r rows × Extends r s
join_grows rows others s m =
    let a = among_from_flat_map (merges others) s rows m in
    let b = among_from_map (merge a.0) s (filter (agree a.0) others) a.2 in
    (a.0, a.1, subst (Extends a.0) b.2 (merge_extends_left a.0 b.0))

join_goes : (others : List Triple → ℕ → List Bindings) → GoesByRows (λ graph number rows. join rows (others graph number))
join_goes others = record {
  splits = λ graph number xs ys. join_splits xs ys (others graph number);
  grows = λ graph number rows s m. join_grows rows (others graph number) s m;
}

pub left_join_splits : (xs ys others : List Bindings) (es : List Expr) → IsPermutation (left_join (xs ++ ys) others es) (left_join xs others es ++ left_join ys others es)
left_join_splits xs ys others es =
    let p = λ (a : Bindings). not (list_any (λ b. agree a b && holds es (merge a b)) others) in
    subst (λ (v : List Bindings). IsPermutation v (left_join xs others es ++ left_join ys others es))
    (sym (ap (λ (v : List Bindings). filtered es v ++ diff (xs ++ ys) others es) (flat_map-append (merges others) xs ys)
    ∙ ap (λ (v : List Bindings). v ++ diff (xs ++ ys) others es) (filter-append (holds es) (join xs others) (join ys others))
    ∙ ap (λ (v : List Bindings). (filtered es (join xs others) ++ filtered es (join ys others)) ++ v) (filter-append p xs ys)))
    (exchange (filtered es (join xs others)) (filtered es (join ys others)) (diff xs others es) (diff ys others es))

left_join_grows : (rows others : List Bindings) (es : List Expr) (s : Bindings) → Among s (left_join rows others es) → (r : Bindings) × Among r rows × Extends r s
left_join_grows rows others es s m = by (among_cases s (filtered es (join rows others)) (diff rows others es) m)
  where
    by : Among s (filtered es (join rows others)) ⊎ Among s (diff rows others es) → (r : Bindings) × Among r rows × Extends r s
    by (inl n) = join_grows rows others s (in_filter (holds es) s (join rows others) n).0
    by (inr n) = (s, (in_filter (λ (a : Bindings). not (list_any (λ b. agree a b && holds es (merge a b)) others)) s rows n).0, extends_itself s)

value_grows : (s : Bindings) (name : List ℕ) (o : Option Term) → Extends s (with_value s name o)
value_grows s name None = extends_itself s
value_grows s name (Some t) = merge_extends_left s ((name, t) ∷ [])

row_grows : (s : Bindings) (name : List ℕ) (e : Expr) → Extends s (extended name e s)
unfolding extended
row_grows s name e = value_grows s name (value e s)

extend_grows : (rows : List Bindings) (name : List ℕ) (e : Expr) (s : Bindings) → Among s (extend rows name e) → (r : Bindings) × Among r rows × Extends r s
extend_grows rows name e s m = let a = among_from_map (extended name e) s rows m in (a.0, a.1, subst (Extends a.0) a.2 (row_grows a.0 name e))

-- ---- so it is of each element, and of all steps

abbrev pub PartGoes : Part → Type 0
PartGoes (pattern p) = Unit {0}
PartGoes (condition e) = Unit {0}
PartGoes (operator o) = GoesByRows o.rows

abbrev pub StepGoes : Step → Type 0
StepGoes (run ps) = Unit {0}
StepGoes (apply o) = GoesByRows o.rows

pub element_goes : (graphs : List ℕ → List Triple) (down : List ℕ) (e : Element-F Part Meaning) → PartGoes (element_meaning graphs down e)
element_goes graphs down (Element-F.Triple p) = tt
element_goes graphs down (Element-F.Filter e) = tt
element_goes graphs down (Element-F.Optional g) = record {
  splits = λ graph number xs ys. left_join_splits xs ys (g.rows graph number) g.filters;
  grows = λ graph number rows s m. left_join_grows rows (g.rows graph number) g.filters s m;
}
element_goes graphs down (Element-F.Union gs) = join_goes (alternatives gs)
element_goes graphs down (Element-F.Minus g) = record {
  splits = λ graph number xs ys. same_as (minus (xs ++ ys) (group_rows g graph number)) (minus xs (group_rows g graph number) ++ minus ys (group_rows g graph number)) (filter-append (stays (group_rows g graph number)) xs ys);
  grows = λ graph number rows s m. (s, (in_filter (stays (group_rows g graph number)) s rows m).0, extends_itself s);
}
element_goes graphs down (Element-F.Bind e name) = record {
  splits = λ graph number xs ys. same_as (extend (xs ++ ys) name e) (extend xs name e ++ extend ys name e) (map-append (extended name e) xs ys);
  grows = λ graph number rows s m. extend_grows rows name e s m;
}
element_goes graphs down (Element-F.Values inline) = join_goes (λ graph number. inline_rows inline)
element_goes graphs down (Element-F.Service silent iri g) = join_goes (λ graph number. service_rows graphs down iri g number)

pub part_goes : (graphs : List ℕ → List Triple) (down : List ℕ) (e : Element) → PartGoes (part_of graphs down e)
part_goes graphs down e = subst PartGoes (sym (fold_out-Element Part Meaning (element_meaning graphs down) group_meaning e)) (element_goes graphs down _)

with_pattern_goes : (p : Pattern) (steps : List Step) → AllByRecursion StepGoes steps → AllByRecursion StepGoes (with_pattern p steps)
with_pattern_goes p [] h = (tt, tt)
with_pattern_goes p (run ps ∷ steps) h = (tt, h.1)
with_pattern_goes p (apply o ∷ steps) h = (tt, h)

with_part_goes : (part : Part) (steps : List Step) → PartGoes part → AllByRecursion StepGoes steps → AllByRecursion StepGoes (with_part part steps)
with_part_goes (pattern p) steps h k = with_pattern_goes p steps k
with_part_goes (condition e) steps h k = k
with_part_goes (operator o) steps h k = (h, k)

pub steps_go : (graphs : List ℕ → List Triple) (down : List ℕ) (elements : List Element) → AllByRecursion StepGoes (steps_of (map (part_of graphs down) elements))
steps_go graphs down [] = tt
steps_go graphs down (e ∷ es) = with_part_goes (part_of graphs down e) (steps_of (map (part_of graphs down) es)) (part_goes graphs down e) (steps_go graphs down es)

-- ---- what a row that grows keeps, and conditions that hold

pub kept_term : (a b : Bindings) (name : List ℕ) (o : Option Term) → Extends a b → term_of a name ≡ o → is_some o ≡ true → term_of a name ≡ term_of b name
kept_term a b name None x e h = absurd (cc)
kept_term a b name (Some t) x e h = e ∙ sym (x.has name t e)

pub both_true : (b c : Bool) → (b && c) ≡ true → (b ≡ true) × (c ≡ true)
both_true true c e = (refl, e)
both_true false c e = cc

-- where conditions hold, each of them does
pub one_holds : (conditions : List Expr) (s : Bindings) (e : Expr) → list_all (is_so s) conditions ≡ true → Among e conditions → is_so s e ≡ true
one_holds [] s e h m = absurd m
one_holds (c ∷ cs) s e h (inl same) = ap (is_so s) (sym same) ∙ (both_true (is_so s c) (list_all (is_so s) cs) h).0
one_holds (c ∷ cs) s e h (inr m) = one_holds cs s e (both_true (is_so s c) (list_all (is_so s) cs) h).1 m

pub and_true : (b c : Bool) → b ≡ true → c ≡ true → (b && c) ≡ true
and_true true c e h = h
and_true false c e h = cc

pub none_stay : (p : Bindings → Bool) (xs : List Bindings) → ((s : Bindings) → Among s xs → p s ≡ false) → filter p xs ≡ []
none_stay p [] f = refl
none_stay p (x ∷ xs) f = ap (λ (b : Bool). cond b (x ∷ filter p xs) (filter p xs)) (f x (inl refl)) ∙ none_stay p xs (λ s m. f s (inr m))

-- ---- a run, and what was dropped of it

pub split_rows : (p : Bindings → Bool) (xs : List Bindings) → IsPermutation xs (filter p xs ++ filter (λ x. not (p x)) xs)
split_rows p [] = IsPermutation-refl []
split_rows p (x ∷ xs) = by (p x) (split_rows p xs)
  where
    by : (b : Bool) → IsPermutation xs (filter p xs ++ filter (λ y. not (p y)) xs)
        → IsPermutation (x ∷ xs) (cond b (x ∷ filter p xs) (filter p xs) ++ cond (not b) (x ∷ filter (λ y. not (p y)) xs) (filter (λ y. not (p y)) xs))
    by true h = IsPermutation-cons x xs (filter p xs ++ filter (λ y. not (p y)) xs) h
    by false h =
        let left = filter (λ y. not (p y)) xs in
        IsPermutation-trans (x ∷ xs) (x ∷ (filter p xs ++ left)) (filter p xs ++ x ∷ left) (IsPermutation-cons x xs (filter p xs ++ left) h)
        (IsPermutation-sym (filter p xs ++ x ∷ left) (x ∷ (filter p xs ++ left)) (IsPermutation-middle (filter p xs) x left))

pub binds_run : (graph : List Triple) (ps : List Pattern) (rows : List Bindings) (row : Bindings) → Among row (join rows (bgp graph ps)) → Binds ps row
binds_run graph ps rows row m name among =
    let a = among_from_flat_map (merges (bgp graph ps)) row rows m in
    let b = among_from_map (merge a.0) row (filter (agree a.0) (bgp graph ps)) a.2 in
    let k = in_filter (agree a.0) b.0 (bgp graph ps) b.1 in
    let s = solution_of graph ps b.0 (contains_from (bgp graph ps) b.0 k.0) in
    some_term row b.0 name (term_of b.0 name) refl (s.binds name ∙ among) (λ t e. subst (λ (v : Bindings). term_of v name ≡ Some t) b.2 ((merge_extends_right a.0 b.0 k.1).has name t e))

pub not_false : (b : Bool) → not b ≡ true → b ≡ false
not_false true h = cc
not_false false h = refl

-- ---- plans

or_first : (b c : Bool) → b ≡ true → (b || c) ≡ true
or_first true c h = refl
or_first false c h = cc

or_second : (b c : Bool) → c ≡ true → (b || c) ≡ true
or_second true c h = refl
or_second false c h = h

any_in_units : (test : Pattern → Bool) (us : List unit.Unit) (u : unit.Unit) → Among u us → list_any test u.patterns ≡ true → list_any test (unit_patterns us) ≡ true
any_in_units test [] u m h = absurd m
any_in_units test (v ∷ us) u (inl e) h =
    list_any-append test v.patterns (unit_patterns us) ∙ or_first (list_any test v.patterns) (list_any test (unit_patterns us)) (subst (λ (w : unit.Unit). list_any test w.patterns ≡ true) (sym e) h)
any_in_units test (v ∷ us) u (inr m) h = list_any-append test v.patterns (unit_patterns us) ∙ or_second (list_any test v.patterns) (list_any test (unit_patterns us)) (any_in_units test us u m h)

module _ (ps : List Pattern) (all : List unit.Unit) (moved : IsPermutation (unit_patterns all) ps) where
  in_run : (u : unit.Unit) → Among u all → (name : List ℕ) → is_among (variables u.patterns) name ≡ true → is_among (variables ps) name ≡ true
  in_run u m name h =
      let test = λ (p : Pattern). is_among (pattern_names p) name in
      among_flat pattern_names name ps
      ∙ sym (list_any-IsPermutation test (unit_patterns all) ps moved)
      ∙ any_in_units test all u m (sym (among_flat pattern_names name u.patterns) ∙ h)

  names_in_run : (u : unit.Unit) → Among u all → (names : List (List ℕ)) → list_all (is_among (variables u.patterns)) names ≡ true → list_all (is_among (variables ps)) names ≡ true
  names_in_run u m [] h = refl
  names_in_run u m (name ∷ names) h =
      let t = both_true (is_among (variables u.patterns) name) (list_all (is_among (variables u.patterns)) names) h in
      and_true (is_among (variables ps) name) (list_all (is_among (variables ps)) names) (in_run u m name t.0) (names_in_run u m names t.1)

  module _ (conditions : List Expr) where
    each_pushed : (u : unit.Unit) → Among u all → (es : List Expr) → AllByRecursion (Contains conditions) es → AllByRecursion (IsOwn u.patterns) es → AllByRecursion (IsPushed conditions ps) es
    each_pushed u m [] h k = tt
    each_pushed u m (e ∷ es) h k = (record { own = h.0; covered = names_in_run u m (expr_names e) k.0.covered }, each_pushed u m es h.1 k.1)

    all_append : (xs ys : List Expr) → AllByRecursion (IsPushed conditions ps) xs → AllByRecursion (IsPushed conditions ps) ys → AllByRecursion (IsPushed conditions ps) (xs ++ ys)
    all_append [] ys h k = k
    all_append (x ∷ xs) ys h k = (h.0, all_append xs ys h.1 k)

    all_pushed : (us : List unit.Unit) → ((u : unit.Unit) → Among u us → Among u all) → AllByRecursion (λ u. AllByRecursion (Contains conditions) u.filters) us → AllByRecursion (λ u. All (IsOwn u.patterns) u.filters) us
        → AllByRecursion (IsPushed conditions ps) (unit_filters us)
    all_pushed [] f h k = tt
    all_pushed (u ∷ us) f h k =
        all_append u.filters (unit_filters us) (each_pushed u (f u (inl refl)) u.filters h.0 (recursion_from_All (IsOwn u.patterns) u.filters k.0)) (all_pushed us (λ v m. f v (inr m)) h.1 k.1)

pub plan_comes_out : PlanComesOut
plan_comes_out graph ps sources filters bound seeds sorted up same =
    let us = plan ps sources filters bound in
    let own = filters_of_run (Contains filters) ps sources filters bound (recursion_from_All (Contains filters) filters (All-contains_itself filters)) in
    record {
      filters = unit_filters us;
      pushed =
          All-from_recursion (IsPushed filters ps) (unit_filters us)
          (all_pushed ps us (plan_is_of_the_run ps sources filters bound same) filters us (λ u m. m)
          (recursion_from_All (λ u. AllByRecursion (Contains filters) u.filters) us own)
          (recursion_from_All (λ u. All (IsOwn u.patterns) u.filters) us (filters_are_own ps sources filters bound)));
      rows_are = plan_is_the_join graph ps sources filters bound seeds sorted up same;
    }
