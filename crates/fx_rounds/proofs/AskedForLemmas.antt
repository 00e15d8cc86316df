-- What rounds ask for is of the query: units of its patterns, its probes and its occurrences of SERVICE.
use Rattle.std.proofs.Common.{◌≡◌, sym, subst, refl, ◌⊎◌, inl, inr, ℕ, ◌<◌, Bool, true, false, if◌then◌else◌, List, [], ◌∷◌, map, length, All}
use Rattle.std.specs.Prelude.{AllPairs, Contains, cond, filter, not}
use Rattle.std.specs.List.{AllByRecursion, flat_map, list_any, range_with_len, zip}
use Rattle.std.proofs.lemmas.List.Elements.{All-contains_itself, All-from_recursion, recursion_from_All}
use Rattle.std.proofs.lemmas.List.Kept.{AllPairs-filter}
use Rattle.fx_terms.specs.declared.patterns.Pattern.{Pattern}
use Rattle.fx_terms.proofs.SetLemmas.{Among, among_from, contains_from}
use Rattle.fx_outside.specs.Endpoints.{EndpointParts}
use Rattle.fx_algebra.specs.Answers.{is_empty_list}
use Rattle.fx_algebra.specs.Solutions.{Bindings}
use Rattle.fx_algebra.specs.Units.{is_kept}
use Rattle.fx_algebra.specs.declared.expressions.Expr.{Expr}
use Rattle.fx_algebra.specs.declared.queries.Query.{Query}
use Rattle.fx_algebra.specs.declared.units.Unit as unit
use Rattle.fx_algebra.proofs.MemberLemmas.{among_flat_map, among_from_flat_map}
use Rattle.fx_grammar.specs.Accepted.{Accepted}
use Rattle.fx_keys.specs.Probes.{key_of, probe}
use Rattle.fx_keys.specs.declared.probes.Probe.{Probe}
use Rattle.fx_plan.specs.Laws.{IsGroup, IsSingle}
use Rattle.fx_plan.specs.Plans.{plan}
use Rattle.fx_plan.specs.declared.parts.Part.{Part}
use Rattle.fx_plan.specs.declared.parts.Part.TheVariants as part
use Rattle.fx_plan.proofs.LawLemmas.{units_are_of_the_run}
use Rattle.fx_services.specs.Beside.{Occurrence}
use Rattle.fx_sources.specs.Patterns.{patterns}
use Rattle.fx_sources.specs.Probes.{Entry, is_held, is_yes, keys_of, known, members_of, missing, missing_at}
use Rattle.fx_spelling.specs.Units.{IsFit}
use Rattle.fx_walks.specs.GroupsAsked.{task_units, units_in}
use Rattle.fx_walks.specs.Laws.{HasFitUnits}
use Rattle.fx_walks.specs.Sections.{part_with, parts_with, run_patterns, sections}
use Rattle.fx_walks.specs.Tasks.{tasks_with}
use Rattle.fx_walks.specs.declared.sections.Section.{Section}
use Rattle.fx_walks.specs.declared.sections.Section.TheVariants.{Run, Service}
use Rattle.fx_walks.specs.declared.tasks.Task.{Task}
use Rattle.fx_walks.specs.declared.tasks.Task.TheVariants as task
use Rattle.fx_walks.proofs.FrontLemmas.{all_both, all_split, units_in_front}
use Rattle.fx_walks.proofs.SectionLemmas.{runs_have}
use Rattle.fx_walks.proofs.UnitLemmas.{of_asked, range_rises, units_are_fit}
use Rattle.fx_outcomes.specs.Calls.{AreAllOrNone, Call, occurrences}
use Rattle.fx_outcomes.specs.InRounds.{plan_over}
use Rattle.fx_outcomes.specs.Rounds.{kept_choice, kept_entries}
use Rattle.fx_outcomes.specs.declared.rounds.Answers.{Answers}
use Rattle.fx_outcomes.proofs.TaskLemmas.{run_in_front}
use Rattle.fx_rounds.specs.Licences.{IsPlannedFor}

-- ---- the units of a plan have patterns of its query

module _ (P : Pattern → Type 0) (f : Pattern → List ℕ) where
  abbrev HasAll : unit.Unit → Type 0
  HasAll u = All P u.patterns

  unit_of_run : (ps : List Pattern) (u : unit.Unit) → IsGroup (zip ps (map f ps)) u ⊎ IsSingle (zip ps (map f ps)) u → AllByRecursion P ps → HasAll u
  unit_of_run ps u (inl g) h = λ k d low. of_asked f P ps _ (g.member ∷ []) h (g.only k d low)
  unit_of_run ps u (inr s) h = subst (All P) (sym s.alone) (All-from_recursion P (s.pattern ∷ []) (of_asked f P ps s.pattern u.members h s.its, tt))

  run_units : (b : Bool) (ps : List Pattern) (filters : List Expr) (bound : List (List ℕ)) → AllByRecursion P ps → AllByRecursion HasAll (task_units (if b then task.EmptyRun else task.Run (plan ps (map f ps) filters bound)))
  run_units true ps filters bound h = tt
  run_units false ps filters bound h =
      recursion_from_All HasAll (plan ps (map f ps) filters bound) (λ k d low. unit_of_run ps _ (units_are_of_the_run ps (map f ps) filters bound k d low) h)

  all_units : (ss : List Section) (found : List (List Bindings)) → AllByRecursion P (flat_map run_patterns ss) → AllByRecursion HasAll (flat_map task_units (tasks_with (map (part_with f) ss) found))
  all_units [] found h = tt
  all_units (Run ps filters bound ∷ ss) found h =
      let own = all_split P ps (flat_map run_patterns ss) h in
      let lacks = list_any is_empty_list (map f ps) in
      let units = plan ps (map f ps) filters bound in
      let parts = map (part_with f) ss in
      subst (λ (v : List Task). AllByRecursion HasAll (flat_map task_units v)) (sym (run_in_front lacks units bound parts found))
      (all_both HasAll (task_units (if lacks then task.EmptyRun else task.Run units)) (flat_map task_units (tasks_with parts found)) (run_units lacks ps filters bound own.0) (all_units ss found own.1))
  all_units (Service iri ∷ ss) [] h = all_units ss [] h
  all_units (Service iri ∷ ss) (rows ∷ found) h = all_units ss found h

-- ---- they can be asked for

parts_fit : (parts : List Part) (found : List (List Bindings)) → AllByRecursion HasFitUnits parts → AllByRecursion IsFit (flat_map task_units (tasks_with parts found))
parts_fit [] found h = tt
parts_fit (part.Run units bound ∷ parts) found h = all_both IsFit units (flat_map task_units (tasks_with parts found)) (recursion_from_All IsFit units h.0) (parts_fit parts found h.1)
parts_fit (part.EmptyRun ∷ parts) found h = parts_fit parts found h.1
parts_fit (part.Service iri ∷ parts) [] h = parts_fit parts [] h.1
parts_fit (part.Service iri ∷ parts) (rows ∷ found) h = parts_fit parts found h.1

-- ---- so they are units of the query, whatever rows its occurrences of SERVICE have

abbrev pub HasUnitsFor : Query → List Part → Type 0
HasUnitsFor q parts = (found : List (List Bindings)) → All (IsPlannedFor q) (units_in (tasks_with parts found))

module _ (q : Query) (f : Pattern → List ℕ) (rising : (p : Pattern) → AllPairs ◌<◌ (f p)) where
  have_patterns : (found : List (List Bindings)) → All (λ u. All (Contains (patterns q)) u.patterns) (units_in (tasks_with (parts_with f q) found))
  have_patterns found =
      let own : AllByRecursion (Contains (patterns q)) (flat_map run_patterns (sections q)) = subst (AllByRecursion (Contains (patterns q))) (sym (runs_have q)) (recursion_from_All (Contains (patterns q)) (patterns q) (All-contains_itself (patterns q))) in
      let tasks = tasks_with (parts_with f q) found in
      All-from_recursion (λ u. All (Contains (patterns q)) u.patterns) (units_in tasks)
      (units_in_front (λ u. All (Contains (patterns q)) u.patterns) tasks (all_units (Contains (patterns q)) f (sections q) found own))

  are_fit : (text : List ℕ) → Accepted text q → (found : List (List Bindings)) → All IsFit (units_in (tasks_with (parts_with f q) found))
  are_fit text accepted found =
      let tasks = tasks_with (parts_with f q) found in
      All-from_recursion IsFit (units_in tasks)
      (units_in_front IsFit tasks (parts_fit (parts_with f q) found (recursion_from_All HasFitUnits (parts_with f q) (units_are_fit text q f accepted rising))))

  planned_for : HasUnitsFor q (parts_with f q)
  planned_for found = λ k d low. record { of_query = have_patterns found k d low; fit = λ text accepted. are_fit text accepted found k d low }

choice_rises : (kept : List Bool) (entries : List Entry) (members : ℕ) (p : Pattern) → AllPairs ◌<◌ (kept_choice kept entries members p)
choice_rises kept entries members p =
    AllPairs-filter ◌<◌ (is_kept kept) (members_of entries members (key_of p)) (AllPairs-filter ◌<◌ (λ at. is_yes (known entries (probe at (key_of p)))) (range_with_len 0 members) (range_rises 0 members))

-- those of a plan over the members that are kept
pub units_for : (es : List EndpointParts) (q : Query) (old : List Entry) (a : Answers) (kept : List Bool) → HasUnitsFor q (plan_over es q old a kept)
units_for es q old a kept = let entries = kept_entries kept (zip a.probes.items a.truths.items) old in planned_for q (kept_choice kept entries (length es)) (choice_rises kept entries (length es))

-- ---- the probes that entries lack are some of the query's

of_more : (f g : Probe → Bool) → ((p : Probe) → g p ≡ true) → (p : Probe) (ps : List Probe) → Among p (filter f ps) → Among p (filter g ps)
of_more f g all p [] m = m
of_more f g all p (x ∷ ps) m = subst (λ (b : Bool). Among p (cond b (x ∷ filter g ps) (filter g ps))) (sym (all x)) (by (f x) m (of_more f g all p ps))
  where
    by : (b : Bool) → Among p (cond b (x ∷ filter f ps) (filter f ps)) → (Among p (filter f ps) → Among p (filter g ps)) → Among p (x ∷ filter g ps)
    by true (inl e) more = inl e
    by true (inr n) more = inr (more n)
    by false n more = inr (more n)

pub of_all_probes : (q : Query) (members : ℕ) (old : List Entry) (p : Probe) → Contains (missing q members old) p → Contains (missing q members []) p
of_all_probes q members old p m =
    let none : List Entry = [] in
    let keys = keys_of q in
    let there = among_from_flat_map (missing_at old keys) p (range_with_len 0 members) (among_from (missing q members old) p m) in
    contains_from (missing q members none) p
    (among_flat_map (missing_at none keys) there.0 p (range_with_len 0 members) there.1
    (of_more (λ n. not (is_held old n)) (λ n. not (is_held none n)) (λ n. refl) p (map (probe there.0) keys) there.2))

-- ---- the occurrences that are invoked are the query's

abbrev pub IsCalledOf : Query → Call → Type 0
IsCalledOf q c = Contains (occurrences q) c.of

each_called : (all : List Occurrence) (calls : List Call) → ((o : Occurrence) → Among o (map (λ c. c.of) calls) → Contains all o) → AllByRecursion (λ (c : Call). Contains all c.of) calls
each_called all [] h = tt
each_called all (c ∷ calls) h = (h c.of (inl refl), each_called all calls (λ o m. h o (inr m)))

pub are_called : (q : Query) (calls : List Call) → AreAllOrNone calls (occurrences q) → AllByRecursion (IsCalledOf q) calls
are_called q calls (inl none) = subst (AllByRecursion (IsCalledOf q)) (sym none) tt
are_called q calls (inr all) = each_called (occurrences q) calls (λ o m. contains_from (occurrences q) o (subst (Among o) all m))
