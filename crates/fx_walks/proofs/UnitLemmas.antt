-- Each unit of the plan of an accepted query can be asked for, and its members give all the rows that the union has for it.
use Rattle.std.proofs.Common.{◌≡◌, ◌∙◌, ap, sym, subst, refl, ℕ, ◌<◌, ◌⊎◌, inl, inr, Bool, true, false, ◌||◌, if◌then◌else◌, List, [], ◌∷◌, map, length, get_or, All, arith}
use Rattle.std.specs.Prelude.{AllPairs, Contains}
use Rattle.std.specs.List.{AllByRecursion, list_any, range_with_len, zip}
use Rattle.std.proofs.lemmas.List.Elements.{All-contains_itself, All-from_recursion, recursion_from_All}
use Rattle.std.proofs.lemmas.List.FromFn.{get_or-range_with_len, length-range_with_len}
use Rattle.std.proofs.lemmas.List.Kept.{AllPairs-filter}
use Rattle.fx_terms.specs.declared.triples.Triple.{Triple}
use Rattle.fx_terms.specs.declared.patterns.Pattern.{Pattern}
use Rattle.fx_algebra.specs.Answers.{is_empty_list}
use Rattle.fx_algebra.specs.Cuts.{stations}
use Rattle.fx_algebra.specs.Stations.{Station}
use Rattle.fx_algebra.specs.Stations as station
use Rattle.fx_algebra.specs.declared.expressions.Expr.{Expr}
use Rattle.fx_algebra.specs.declared.queries.Query.{Query}
use Rattle.fx_algebra.specs.declared.units.Unit as unit
use Rattle.fx_plan.specs.Laws as plans
use Rattle.fx_plan.specs.Plans.{Asked, plan}
use Rattle.fx_plan.specs.declared.parts.Part.TheVariants as part
use Rattle.fx_plan.proofs.LawLemmas.{filters_are_own, filters_of_run, no_source_is_left_out, units_are_of_the_run}
use Rattle.fx_algebra.specs.Units.{fits, graph_of, sources}
use Rattle.fx_grammar.specs.Accepted.{Accepted}
use Rattle.fx_spelling.specs.Printable.{IsTriple}
use Rattle.fx_spelling.specs.Runs.{HasRun, IsExpression, IsRun}
use Rattle.fx_spelling.specs.Units.{IsExclusive, IsFit, IsPushed, IsSingle}
use Rattle.fx_spelling.proofs.Runs.{runs_are_of_the_grammar}
use Rattle.fx_walks.specs.Laws.{HasFitUnits, HasSoundUnits, UnitsAreFit, UnitsAreSound}
use Rattle.fx_walks.specs.Sections.{part_with, parts_with, section_of, sections}
use Rattle.fx_walks.specs.declared.sections.Section.{Section}
use Rattle.fx_walks.specs.declared.sections.Section.TheVariants.{Run, Service}

-- ---- lists and tests

both_false : (b c : Bool) → (b || c) ≡ false → (b ≡ false) × (c ≡ false)
both_false true c e = cc
both_false false c e = (refl, e)

each_mapped : {X Y : Type 0} (P : X → Type 0) (Q : Y → Type 0) (f : X → Y) → ((x : X) → P x → Q (f x)) → (xs : List X) → AllByRecursion P xs → AllByRecursion Q (map f xs)
each_mapped P Q f g [] h = tt
each_mapped P Q f g (x ∷ xs) h = (g x h.0, each_mapped P Q f g xs h.1)

-- ---- what the runs of a query hold

-- the runs among the sections are those among the stations
abbrev GoodSection : Section → Type 0
GoodSection (Run ps filters bound) = IsRun ps filters
GoodSection (Service iri) = Unit {0}

good_section : (s : Station) → HasRun s → GoodSection (section_of s)
good_section (station.run ps filters before) h = h
good_section (station.service number silent iri g) h = tt

sections_good : (text : List ℕ) (q : Query) → Accepted text q → AllByRecursion GoodSection (sections q)
sections_good text q accepted = each_mapped HasRun GoodSection section_of good_section (stations q) (recursion_from_All HasRun (stations q) (runs_are_of_the_grammar text q accepted))

-- ---- the units of a plan can be asked for

pushed_filters : (u : unit.Unit) → All (plans.IsOwn u.patterns) u.filters → AllByRecursion IsExpression u.filters → All (IsPushed u.patterns) u.filters
pushed_filters u o g k d h =
    let whole = All-from_recursion IsExpression u.filters g k d h in
    record { good = whole.good; words = whole.words; pushable = (o k d h).pushable; covered = (o k d h).covered }

alone_rises : (m : ℕ) → AllPairs ◌<◌ (m ∷ [])
alone_rises m i j d before within = absurd (omega arith)

not_empty : (ms : List ℕ) → is_empty_list ms ≡ false → 0 < length ms
not_empty [] h = absurd (cc)
not_empty (m ∷ ms) h = omega arith

module _ (members : Pattern → List ℕ) where
  abbrev IsAskedOf : List Pattern → Pattern → List ℕ → Type 0
  IsAskedOf ps p ms = plans.IsAsked (zip ps (map members ps)) (p, ms)

  -- what holds of each pattern of the run holds of one that is asked
  pub of_asked : (P : Pattern → Type 0) (ps : List Pattern) (p : Pattern) (ms : List ℕ) → AllByRecursion P ps → IsAskedOf ps p ms → P p
  of_asked P [] p ms h m = absurd m
  of_asked P (q ∷ ps) p ms h (inl e) = subst P (ap (λ (a : Asked). a.0) e) h.0
  of_asked P (q ∷ ps) p ms h (inr m) = of_asked P ps p ms h.1 m

  -- it is asked of its members
  its_members : (ps : List Pattern) (p : Pattern) (ms : List ℕ) → IsAskedOf ps p ms → ms ≡ members p
  its_members [] p ms m = absurd m
  its_members (q ∷ ps) p ms (inl e) = sym (ap (λ (a : Asked). a.1) e) ∙ ap (λ (a : Asked). members a.0) e
  its_members (q ∷ ps) p ms (inr m) = its_members ps p ms m

  some_members : (ps : List Pattern) → list_any is_empty_list (map members ps) ≡ false → AllByRecursion (λ p. 0 < length (members p)) ps
  some_members [] h = tt
  some_members (p ∷ ps) h =
      let t = both_false (is_empty_list (members p)) (list_any is_empty_list (map members ps)) h in
      (not_empty (members p) t.0, some_members ps t.1)

  fit_group : (ps : List Pattern) (u : unit.Unit) → plans.IsGroup (zip ps (map members ps)) u → AllByRecursion IsTriple ps → All (IsPushed u.patterns) u.filters → IsFit u
  fit_group ps u g triples filters = record {
    some = g.some;
    asked = subst (λ (ms : List ℕ). 0 < length ms) (sym g.alone) (omega arith);
    triples = λ k d h. of_asked IsTriple ps _ (g.member ∷ []) triples (g.only k d h);
    rising = subst (AllPairs ◌<◌) (sym g.alone) (alone_rises g.member);
    filters = filters;
  }

  fit_single : ((p : Pattern) → AllPairs ◌<◌ (members p)) → (ps : List Pattern) (u : unit.Unit) → plans.IsSingle (zip ps (map members ps)) u → AllByRecursion IsTriple ps
      → AllByRecursion (λ p. 0 < length (members p)) ps → All (IsPushed u.patterns) u.filters → IsFit u
  fit_single rise ps u s triples some filters =
      let same = its_members ps s.pattern u.members s.its in
      record {
        some = subst (λ (qs : List Pattern). 0 < length qs) (sym s.alone) (omega arith);
        asked = subst (λ (ms : List ℕ). 0 < length ms) (sym same) (of_asked (λ p. 0 < length (members p)) ps s.pattern u.members some s.its);
        triples = subst (All IsTriple) (sym s.alone) (All-from_recursion IsTriple (s.pattern ∷ []) (of_asked IsTriple ps s.pattern u.members triples s.its, tt));
        rising = subst (AllPairs ◌<◌) (sym same) (rise s.pattern);
        filters = filters;
      }

  fit_unit : ((p : Pattern) → AllPairs ◌<◌ (members p)) → (ps : List Pattern) (u : unit.Unit) → plans.IsGroup (zip ps (map members ps)) u ⊎ plans.IsSingle (zip ps (map members ps)) u → AllByRecursion IsTriple ps
      → AllByRecursion (λ p. 0 < length (members p)) ps → All (IsPushed u.patterns) u.filters → IsFit u
  fit_unit rise ps u (inl g) triples some filters = fit_group ps u g triples filters
  fit_unit rise ps u (inr s) triples some filters = fit_single rise ps u s triples some filters

  fit_plan : ((p : Pattern) → AllPairs ◌<◌ (members p)) → (ps : List Pattern) (filters : List Expr) (bound : List (List ℕ)) → AllByRecursion IsTriple ps → AllByRecursion IsExpression filters
      → list_any is_empty_list (map members ps) ≡ false → All IsFit (plan ps (map members ps) filters bound)
  fit_plan rise ps filters bound triples good full k d h =
      let u = get_or (plan ps (map members ps) filters bound) k d in
      fit_unit rise ps u (units_are_of_the_run ps (map members ps) filters bound k d h) triples (some_members ps full)
      (pushed_filters u (filters_are_own ps (map members ps) filters bound k d h) (filters_of_run IsExpression ps (map members ps) filters bound good k d h))

  fit_part : ((p : Pattern) → AllPairs ◌<◌ (members p)) → (s : Section) → GoodSection s → HasFitUnits (part_with members s)
  fit_part rise (Run ps filters bound) h = by (list_any is_empty_list (map members ps)) refl
    where
      by : (b : Bool) → list_any is_empty_list (map members ps) ≡ b → HasFitUnits (if b then part.EmptyRun else part.Run (plan ps (map members ps) filters bound) bound)
      by true e = tt
      by false e = fit_plan rise ps filters bound (recursion_from_All IsTriple ps h.triples) (recursion_from_All IsExpression filters h.expressions) e
  fit_part rise (Service iri) h = tt

  fit_parts : ((p : Pattern) → AllPairs ◌<◌ (members p)) → (ss : List Section) → AllByRecursion GoodSection ss → AllByRecursion HasFitUnits (map (part_with members) ss)
  fit_parts rise ss h = each_mapped GoodSection HasFitUnits (part_with members) (fit_part rise) ss h

pub units_are_fit : UnitsAreFit
units_are_fit text q members accepted rise =
    All-from_recursion HasFitUnits (parts_with members q) (fit_parts members rise (sections q) (sections_good text q accepted))

-- ---- sources

pub range_rises : (a n : ℕ) → AllPairs ◌<◌ (range_with_len a n)
range_rises a n i j d before within =
    let long = length-range_with_len a n in
    let low = get_or-range_with_len a n i d (omega arith) in
    let high = get_or-range_with_len a n j d (omega arith) in
    omega arith

-- the sources of a pattern rise by number
sources_rise : (graphs : List (List Triple)) (p : Pattern) → AllPairs ◌<◌ (sources graphs p)
sources_rise graphs p = AllPairs-filter ◌<◌ (λ at. fits p (graph_of graphs at)) (range_with_len 0 (length graphs)) (range_rises 0 (length graphs))

-- ---- no member of a unit is left out

whole : (graphs : List (List Triple)) (u : unit.Unit) → plans.IsExclusive graphs u ⊎ plans.IsComplete graphs u → IsSingle graphs u ⊎ IsExclusive graphs u
whole graphs u (inl x) = inr (record { member = x.member; alone = x.alone; only = x.only })
whole graphs u (inr x) =
    inl (record { pattern = x.pattern; alone = x.alone; all = subst (λ (ms : List ℕ). All (Contains ms) (sources graphs x.pattern)) (sym x.all) (All-contains_itself (sources graphs x.pattern)) })

none_left_out : (graphs : List (List Triple)) (ps : List Pattern) (filters : List Expr) (bound : List (List ℕ)) → All (λ u. plans.IsExclusive graphs u ⊎ plans.IsComplete graphs u) (plan ps (map (sources graphs) ps) filters bound)
none_left_out graphs ps filters bound = no_source_is_left_out graphs ps filters bound

pub sound_part : (graphs : List (List Triple)) (s : Section) → HasFitUnits (part_with (sources graphs) s) → HasSoundUnits graphs (part_with (sources graphs) s)
sound_part graphs (Run ps filters bound) h = by (list_any is_empty_list (map (sources graphs) ps)) h
  where
    by : (b : Bool) → HasFitUnits (if b then part.EmptyRun else part.Run (plan ps (map (sources graphs) ps) filters bound) bound) → HasSoundUnits graphs (if b then part.EmptyRun else part.Run (plan ps (map (sources graphs) ps) filters bound) bound)
    by true f = tt
    by false f = λ k d low. record { fit = f k d low; complete = whole graphs _ (none_left_out graphs ps filters bound k d low) }
sound_part graphs (Service iri) h = tt

sound_parts : (graphs : List (List Triple)) (ss : List Section) → AllByRecursion HasFitUnits (map (part_with (sources graphs)) ss) → AllByRecursion (HasSoundUnits graphs) (map (part_with (sources graphs)) ss)
sound_parts graphs [] h = tt
sound_parts graphs (s ∷ ss) h = (sound_part graphs s h.0, sound_parts graphs ss h.1)

pub units_are_sound : UnitsAreSound
units_are_sound text q graphs accepted =
    let fit = fit_parts (sources graphs) (sources_rise graphs) (sections q) (sections_good text q accepted) in
    All-from_recursion (HasSoundUnits graphs) (parts_with (sources graphs) q) (sound_parts graphs (sections q) fit)
