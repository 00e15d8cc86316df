-- What holds of the units of the plan of a run.
use Rattle.std.proofs.Common.{◌≡◌, ap, sym, subst, refl, ℕ, ◌<◌, ◌⊎◌, inl, inr, Bool, true, false, ◌||◌, List, [], ◌∷◌, map, length, get_or, All, Option, Some, None, arith}
use Rattle.std.specs.Prelude.{AllPairs, Contains}
use Rattle.std.specs.List.{AllByRecursion, list_any, range_with_len, zip}
use Rattle.std.proofs.lemmas.List.Elements.{All-contains, All-contains_itself, All-filter, All-from_recursion, All-head, All-map, All-weaker, Contains-append_left, Contains-append_right, recursion_from_All}
use Rattle.std.proofs.lemmas.List.FromFn.{get_or-range_with_len, length-range_with_len}
use Rattle.std.proofs.lemmas.List.Kept.{AllPairs-filter}
use Rattle.fx_terms.specs.declared.triples.Triple.{Triple}
use Rattle.fx_terms.specs.declared.patterns.Pattern.{Pattern}
use Rattle.fx_algebra.specs.Answers.{is_empty_list}
use Rattle.fx_algebra.specs.Cuts.{stations}
use Rattle.fx_algebra.specs.Stations as station
use Rattle.fx_algebra.specs.Units.{fits, graph_of, sources}
use Rattle.fx_algebra.specs.declared.expressions.Expr.{Expr}
use Rattle.fx_algebra.specs.declared.units.Unit as unit
use Rattle.fx_spelling.specs.Printable.{IsTriple}
use Rattle.fx_spelling.specs.Runs.{HasRun, IsExpression}
use Rattle.fx_spelling.specs.Units.{IsExclusive, IsPushed, IsSingle}
use Rattle.fx_spelling.proofs.Runs.{runs_are_of_the_grammar}
use Rattle.fx_plan.specs.Laws as plans
use Rattle.fx_plan.specs.Plans.{Asked, by_position, in_front, in_order, only_source, plan, pushed, shared}
use Rattle.fx_plan.proofs.LawLemmas.{filters_are_own, filters_of_run, no_source_is_left_out, units_are_of_the_run}
use Rattle.fx_traffic.specs.Batches.{joined}
use Rattle.fx_traffic.specs.Planned.{AreMembers, MembersAreOfTheRun, MembersAreWithin, PlannedLaws, PlansAreFit, PlansHaveAUnit, RunsHaveFitPlans, RunsHaveSoundPlans, SourcesAreWithin, SourcesRise}

-- ---- what a unit has of its run

-- what holds of each pattern of the run holds of one that is asked, and what holds of each list of members of its own
its_pattern : (P : Pattern → Type 0) (ps : List Pattern) (lists : List (List ℕ)) (p : Pattern) (ms : List ℕ) → AllByRecursion P ps → plans.IsAsked (zip ps lists) (p, ms) → P p
its_pattern P [] lists p ms h m = absurd m
its_pattern P (q ∷ ps) [] p ms h m = absurd m
its_pattern P (q ∷ ps) (list ∷ lists) p ms h (inl e) = subst P (ap (λ (a : Asked). a.0) e) h.0
its_pattern P (q ∷ ps) (list ∷ lists) p ms h (inr m) = its_pattern P ps lists p ms h.1 m

its_list : (P : List ℕ → Type 0) (ps : List Pattern) (lists : List (List ℕ)) (p : Pattern) (ms : List ℕ) → AllByRecursion P lists → plans.IsAsked (zip ps lists) (p, ms) → P ms
its_list P [] lists p ms h m = absurd m
its_list P (q ∷ ps) [] p ms h m = absurd m
its_list P (q ∷ ps) (list ∷ lists) p ms h (inl e) = subst P (ap (λ (a : Asked). a.1) e) h.0
its_list P (q ∷ ps) (list ∷ lists) p ms h (inr m) = its_list P ps lists p ms h.1 m

module _ (ps : List Pattern) (lists : List (List ℕ)) (u : unit.Unit) where
  abbrev IsOfTheRun : Type 0
  IsOfTheRun = plans.IsGroup (zip ps lists) u ⊎ plans.IsSingle (zip ps lists) u

  of_patterns : (P : Pattern → Type 0) → AllByRecursion P ps → IsOfTheRun → All P u.patterns
  of_patterns P h (inl g) = λ k d below. its_pattern P ps lists _ (g.member ∷ []) h (g.only k d below)
  of_patterns P h (inr s) = subst (All P) (sym s.alone) (All-from_recursion P (s.pattern ∷ []) (its_pattern P ps lists s.pattern u.members h s.its, tt))

  of_members : (P : List ℕ → Type 0) → AllByRecursion P lists → IsOfTheRun → P u.members
  of_members P h (inl g) = subst P (sym g.alone) (by u.patterns g.some g.only)
    where
      by : (qs : List Pattern) → 0 < length qs → All (λ p. plans.IsAsked (zip ps lists) (p, g.member ∷ [])) qs → P (g.member ∷ [])
      by [] some only = absurd (omega arith)
      by (q ∷ qs) some only = its_list P ps lists q (g.member ∷ []) h (All-head (λ p. plans.IsAsked (zip ps lists) (p, g.member ∷ [])) q qs only)
  of_members P h (inr s) = its_list P ps lists s.pattern u.members h s.its

  some_patterns : IsOfTheRun → 0 < length u.patterns
  some_patterns (inl g) = g.some
  some_patterns (inr s) = subst (λ (qs : List Pattern). 0 < length qs) (sym s.alone) (omega arith)

-- ---- fit units

both_false : (b c : Bool) → (b || c) ≡ false → (b ≡ false) × (c ≡ false)
both_false true c e = cc
both_false false c e = (refl, e)

not_empty : (ms : List ℕ) → is_empty_list ms ≡ false → 0 < length ms
not_empty [] h = absurd (cc)
not_empty (m ∷ ms) h = omega arith

some_members : (lists : List (List ℕ)) → list_any is_empty_list lists ≡ false → AllByRecursion (λ ms. 0 < length ms) lists
some_members [] h = tt
some_members (ms ∷ lists) h = let t = both_false (is_empty_list ms) (list_any is_empty_list lists) h in (not_empty ms t.0, some_members lists t.1)

pushed_filters : (u : unit.Unit) → All (plans.IsOwn u.patterns) u.filters → AllByRecursion IsExpression u.filters → All (IsPushed u.patterns) u.filters
pushed_filters u own whole k d below =
    let e = All-from_recursion IsExpression u.filters whole k d below in
    let o = own k d below in
    record { good = e.good; words = e.words; pushable = o.pushable; covered = o.covered }

plans_are_fit : PlansAreFit
plans_are_fit ps lists filters before run members k d below =
    let u = get_or (plan ps lists filters before) k d in
    let its = units_are_of_the_run ps lists filters before k d below in
    record {
      some = some_patterns ps lists u its;
      asked = of_members ps lists u (λ (ms : List ℕ). 0 < length ms) (some_members lists members.some) its;
      triples = of_patterns ps lists u IsTriple (recursion_from_All IsTriple ps run.triples) its;
      rising = of_members ps lists u (AllPairs ◌<◌) (recursion_from_All (AllPairs ◌<◌) lists members.rising) its;
      filters =
          pushed_filters u (filters_are_own ps lists filters before k d below)
          (filters_of_run IsExpression ps lists filters before (recursion_from_All IsExpression filters run.expressions) k d below);
    }

runs_have_fit_plans : RunsHaveFitPlans
runs_have_fit_plans text q ps lists filters before accepted its members =
    plans_are_fit ps lists filters before (All-contains HasRun (stations q) (station.run ps filters before) (runs_are_of_the_grammar text q accepted) its) members

-- ---- sources

range_rises : (a n : ℕ) → AllPairs ◌<◌ (range_with_len a n)
range_rises a n i j d before within =
    let long = length-range_with_len a n in
    let low = get_or-range_with_len a n i d (omega arith) in
    let high = get_or-range_with_len a n j d (omega arith) in
    omega arith

range_within : (n : ℕ) → All (λ at. at < n) (range_with_len 0 n)
range_within n k d below =
    let long = length-range_with_len 0 n in
    let here = get_or-range_with_len 0 n k d (omega arith) in
    omega arith

sources_rise : SourcesRise
sources_rise graphs p = AllPairs-filter ◌<◌ (λ at. fits p (graph_of graphs at)) (range_with_len 0 (length graphs)) (range_rises 0 (length graphs))

sources_within : SourcesAreWithin
sources_within graphs p = All-filter (λ at. fits p (graph_of graphs at)) (λ at. at < length graphs) (range_with_len 0 (length graphs)) (range_within (length graphs))

-- ---- sound units

whole : (graphs : List (List Triple)) (u : unit.Unit) → plans.IsExclusive graphs u ⊎ plans.IsComplete graphs u → IsSingle graphs u ⊎ IsExclusive graphs u
whole graphs u (inl x) = inr (record { member = x.member; alone = x.alone; only = x.only })
whole graphs u (inr x) =
    inl (record { pattern = x.pattern; alone = x.alone; all = subst (λ (ms : List ℕ). All (Contains ms) (sources graphs x.pattern)) (sym x.all) (All-contains_itself (sources graphs x.pattern)) })

runs_have_sound_plans : RunsHaveSoundPlans
runs_have_sound_plans text q graphs ps filters before accepted its some k d below =
    let lists = map (sources graphs) ps in
    let members : AreMembers lists = record { some = some; rising = All-map (AllPairs ◌<◌) (sources graphs) ps (λ j e low. sources_rise graphs _) } in
    record {
      fit = runs_have_fit_plans text q ps lists filters before accepted its members k d below;
      complete = whole graphs _ (no_source_is_left_out graphs ps filters before k d below);
    }

-- ---- members

-- what holds of each list holds of the members of each unit
of_lists : (P : List ℕ → Type 0) (ps : List Pattern) (lists : List (List ℕ)) (filters : List Expr) (before : List (List ℕ)) → AllByRecursion P lists → All (λ u. P u.members) (plan ps lists filters before)
of_lists P ps lists filters before h k d below = of_members ps lists (get_or (plan ps lists filters before) k d) P h (units_are_of_the_run ps lists filters before k d below)

in_joined : (lists : List (List ℕ)) → AllByRecursion (λ ms. All (Contains (joined lists)) ms) lists
in_joined [] = tt
in_joined (ms ∷ lists) = (
  All-weaker (Contains ms) (Contains (joined (ms ∷ lists))) (λ m c. Contains-append_left ms (joined lists) m c) ms (All-contains_itself ms),
  further lists (in_joined lists),
)
  where
    further : (rest : List (List ℕ)) → AllByRecursion (λ list. All (Contains (joined lists)) list) rest → AllByRecursion (λ list. All (Contains (joined (ms ∷ lists))) list) rest
    further [] h = tt
    further (list ∷ rest) h = (All-weaker (Contains (joined lists)) (Contains (joined (ms ∷ lists))) (λ m c. Contains-append_right ms (joined lists) m c) list h.0, further rest h.1)

members_are_of_the_run : MembersAreOfTheRun
members_are_of_the_run ps lists filters before = of_lists (λ ms. All (Contains (joined lists)) ms) ps lists filters before (in_joined lists)

members_are_within : MembersAreWithin
members_are_within members ps lists filters before h = of_lists (λ ms. All (λ at. at < members) ms) ps lists filters before (recursion_from_All (λ ms. All (λ at. at < members) ms) lists h)

-- ---- a unit at least

some_asked : (ps : List Pattern) (lists : List (List ℕ)) → 0 < length ps → length lists ≡ length ps → 0 < length (zip ps lists)
some_asked [] lists h e = h
some_asked (p ∷ ps) [] h e = absurd (omega arith)
some_asked (p ∷ ps) (list ∷ lists) h e = omega arith

some_by_position : (asked : List Asked) → 0 < length asked → 0 < length (by_position asked)
some_by_position [] h = h
some_by_position (a ∷ rest) h = by (only_source a.1)
  where
    by : (o : Option ℕ) → 0 < length (in_front a rest o (by_position rest))
    by None = omega arith
    by (Some m) = omega arith

some_shared : (es : List Expr) (us : List unit.Unit) → 0 < length us → 0 < length (shared es us)
some_shared es [] h = h
some_shared es (u ∷ us) h = omega arith

some_in_order : (known : List (List ℕ)) (us : List unit.Unit) → 0 < length us → 0 < length (in_order known us)
some_in_order known [] h = h
some_in_order known (u ∷ us) h = omega arith

plans_have_a_unit : PlansHaveAUnit
plans_have_a_unit ps lists filters before some many =
    let us = by_position (zip ps lists) in
    some_in_order before (pushed filters us) (some_shared _ us (some_by_position (zip ps lists) (some_asked ps lists some many)))

pub planned_laws : PlannedLaws
planned_laws = record {
  fit = plans_are_fit;
  of_queries = runs_have_fit_plans;
  sound = runs_have_sound_plans;
  rising = sources_rise;
  sources_within = sources_within;
  members = members_are_of_the_run;
  within = members_are_within;
  some = plans_have_a_unit;
}
