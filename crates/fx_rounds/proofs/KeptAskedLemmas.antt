-- Batches are for members that are kept.
use Rattle.std.proofs.Common.{◌≡◌, ap, sym, subst, inl, inr, ℕ, Bool, true, false, if◌then◌else◌, List, [], ◌∷◌, ◌++◌, length, map, All, Option, None, Some, slice_get}
use Rattle.std.specs.Prelude.{Contains}
use Rattle.std.specs.List.{AllByRecursion, flat_map, list_any, zip}
use Rattle.std.proofs.lemmas.List.Elements.{All-contains, All-from_recursion, All-weaker, filter_passes, recursion_from_All}
use Rattle.std.proofs.lemmas.List.Sorted.{All-permutation, IsPermutation-sym}
use Rattle.fx_terms.specs.declared.patterns.Pattern.{Pattern}
use Rattle.fx_terms.proofs.SetLemmas.{Among, among_from, contains_from}
use Rattle.fx_outside.specs.Endpoints.{EndpointParts}
use Rattle.fx_algebra.specs.Answers.{is_empty_list}
use Rattle.fx_algebra.specs.Solutions.{Bindings}
use Rattle.fx_algebra.specs.Units.{is_kept}
use Rattle.fx_algebra.specs.declared.expressions.Expr.{Expr}
use Rattle.fx_algebra.specs.declared.queries.Query.{Query}
use Rattle.fx_algebra.specs.declared.units.Row.{Row}
use Rattle.fx_algebra.specs.declared.units.Unit as unit
use Rattle.fx_algebra.proofs.MemberLemmas.{among_from_flat_map}
use Rattle.fx_keys.specs.Probes.{key_of}
use Rattle.fx_plan.specs.Plans.{plan}
use Rattle.fx_sources.specs.Probes.{Entry, members_of}
use Rattle.fx_traffic.specs.Batches.{IsBatchText, joined, member_sent, text_for, text_sent, to_endpoint, unit_sent}
use Rattle.fx_traffic.specs.Gains.{IsMemberIn}
use Rattle.fx_traffic.specs.Sent.{Sends, Sent, sent_of}
use Rattle.fx_traffic.proofs.PlannedLemmas.{planned_laws}
use Rattle.fx_wire.specs.Exchanges.{Exchange, Seen}
use Rattle.fx_walks.specs.GroupsAsked.{task_units, units_in}
use Rattle.fx_walks.specs.Sections.{part_with, parts_with, sections}
use Rattle.fx_walks.specs.Tasks.{tasks_with}
use Rattle.fx_walks.specs.declared.sections.Section.{Section}
use Rattle.fx_walks.specs.declared.sections.Section.TheVariants.{Run, Service}
use Rattle.fx_walks.specs.declared.tasks.Task.{Task}
use Rattle.fx_walks.specs.declared.tasks.Task.TheVariants as task
use Rattle.fx_walks.proofs.FrontLemmas.{all_both, units_in_front}
use Rattle.fx_outcomes.specs.InRounds.{plan_over}
use Rattle.fx_outcomes.specs.RoundEnds.{AreAbandoned}
use Rattle.fx_outcomes.specs.Rounds.{kept_choice, kept_entries, without_all}
use Rattle.fx_outcomes.specs.declared.rounds.Answers.{Answers}
use Rattle.fx_outcomes.specs.declared.rounds.Round.{Round}
use Rattle.fx_outcomes.proofs.TaskLemmas.{run_in_front}
use Rattle.fx_rounds.specs.LeftOut.{AreForKept, IsForKept, KeptAreAsked, RoundsAskKept}

-- ---- the members of a plan's units are those that its patterns have

module _ (P : ℕ → Type 0) (f : Pattern → List ℕ) (its : (p : Pattern) → All P (f p)) where
  abbrev HasAll : unit.Unit → Type 0
  HasAll u = All P u.members

  of_lists : (ps : List Pattern) (at : ℕ) → Contains (joined (map f ps)) at → P at
  of_lists ps at m = let there = among_from_flat_map (λ (list : List ℕ). list) at (map f ps) (among_from (joined (map f ps)) at m) in of_one ps at there.0 there.1 there.2
    where
      of_one : (ps : List Pattern) (at : ℕ) (list : List ℕ) → Among list (map f ps) → Among at list → P at
      of_one [] at list m n = absurd m
      of_one (p ∷ ps) at list (inl e) n = All-contains P (f p) at (its p) (contains_from (f p) at (subst (λ (v : List ℕ). Among at v) (sym e) n))
      of_one (p ∷ ps) at list (inr m) n = of_one ps at list m n

  run_units : (b : Bool) (ps : List Pattern) (filters : List Expr) (bound : List (List ℕ)) → AllByRecursion HasAll (task_units (if b then task.EmptyRun else task.Run (plan ps (map f ps) filters bound)))
  run_units true ps filters bound = tt
  run_units false ps filters bound =
      recursion_from_All HasAll (plan ps (map f ps) filters bound)
      (All-weaker (λ u. All (Contains (joined (map f ps))) u.members) HasAll (λ u h. All-weaker (Contains (joined (map f ps))) P (of_lists ps) u.members h) (plan ps (map f ps) filters bound) (planned_laws.members ps (map f ps) filters bound))

  all_units : (ss : List Section) (found : List (List Bindings)) → AllByRecursion HasAll (flat_map task_units (tasks_with (map (part_with f) ss) found))
  all_units [] found = tt
  all_units (Run ps filters bound ∷ ss) found =
      let lacks = list_any is_empty_list (map f ps) in
      let units = plan ps (map f ps) filters bound in
      let parts = map (part_with f) ss in
      subst (λ (v : List Task). AllByRecursion HasAll (flat_map task_units v)) (sym (run_in_front lacks units bound parts found))
      (all_both HasAll (task_units (if lacks then task.EmptyRun else task.Run units)) (flat_map task_units (tasks_with parts found)) (run_units lacks ps filters bound) (all_units ss found))
  all_units (Service iri ∷ ss) [] = all_units ss []
  all_units (Service iri ∷ ss) (rows ∷ found) = all_units ss found

  its_member : (q : Query) (found : List (List Bindings)) (at : ℕ) → IsMemberIn (units_in (tasks_with (parts_with f q) found)) at → P at
  its_member q found at m =
      let tasks = tasks_with (parts_with f q) found in
      let all = All-from_recursion HasAll (units_in tasks) (units_in_front HasAll tasks (all_units (sections q) found)) in
      All-contains P m.0.members at (All-contains HasAll (units_in tasks) m.0 all m.1) m.2

-- ---- a text of a batch is for a member of its unit

module _ (es : List EndpointParts) (u : unit.Unit) (batch : List Row) where
  of_text : (e : EndpointParts) (t : Option (List ℕ)) (x : Sent) → Among x (text_sent e t) → e ≡ x.at
  of_text e None x m = absurd m
  of_text e (Some text) x (inl same) = ap (λ (s : Sent). s.at) same
  of_text e (Some text) x (inr m) = absurd m

  of_endpoint : (x : Sent) (o : Option EndpointParts) → Among x (to_endpoint u batch o) → o ≡ Some x.at
  of_endpoint x None m = absurd m
  of_endpoint x (Some e) m = ap (λ (d : EndpointParts). Some d) (of_text e (text_for e (record { unit = u; rows = batch })) x m)

  for_member : (kept : List Bool) → ((at : ℕ) → Contains u.members at → is_kept kept at ≡ true) → (x : Sent) → Contains (unit_sent es u batch) x → IsForKept es kept x
  for_member kept all x m =
      let there = among_from_flat_map (member_sent es u batch) x u.members (among_from (unit_sent es u batch) x m) in
      (there.0, of_endpoint x (slice_get es there.0) there.2, all there.0 (contains_from u.members there.0 there.1))

-- ---- so is what is sent of such texts

module _ (P : Sent → Type 0) where
  in_front : (xs : List Exchange) (left : List Sent) → AllByRecursion P (map sent_of xs ++ left) → AllByRecursion (λ (x : Exchange). P (sent_of x)) xs
  in_front [] left h = tt
  in_front (x ∷ xs) left h = (h.0, in_front xs left h.1)

  of_wanted : (wanted left : List Sent) (xs : List Exchange) → Sends wanted left xs → All P wanted → All (λ (x : Exchange). P (sent_of x)) xs
  of_wanted wanted left xs sends all =
      let both = All-permutation P wanted (map sent_of xs ++ left) (IsPermutation-sym (map sent_of xs ++ left) wanted sends) all in
      All-from_recursion (λ (x : Exchange). P (sent_of x)) xs (in_front xs left (recursion_from_All P (map sent_of xs ++ left) both))

-- ---- rounds

choice_kept : (kept : List Bool) (entries : List Entry) (members : ℕ) (p : Pattern) → All (λ at. is_kept kept at ≡ true) (kept_choice kept entries members p)
choice_kept kept entries members p = filter_passes (is_kept kept) (members_of entries members (key_of p))

module _ (es : List EndpointParts) (q : Query) (old : List Entry) (a : Answers) (block : ℕ) where
  for_kept : (kept : List Bool) (found : List (List Bindings)) (texts left : List Sent) (xs : List Exchange) → All (IsBatchText es block (Contains (units_in (tasks_with (plan_over es q old a kept) found)))) texts → Sends texts left xs → AreForKept es kept texts xs
  for_kept kept found texts left xs of_batches sends =
      let entries = kept_entries kept (zip a.probes.items a.truths.items) old in
      let f = kept_choice kept entries (length es) in
      let wanted : All (IsForKept es kept) texts =
      All-weaker (IsBatchText es block (Contains (units_in (tasks_with (plan_over es q old a kept) found)))) (IsForKept es kept)
      (λ x b. for_member es b.unit b.batch kept (λ at m. its_member (λ (n : ℕ). is_kept kept n ≡ true) f (choice_kept kept entries (length es)) q found at (b.unit, b.of_these, m)) x b.sent) texts of_batches in
      record { wanted = wanted; sent = of_wanted (IsForKept es kept) texts left xs sends wanted }

  rounds_ask_kept : (tells alone : Bool) (s t : List Seen) (kept last : List Bool) (rounds : List Round) (c : AreAbandoned tells alone s t es q (plan_over es q old a) block kept last rounds) → RoundsAskKept tells alone s t es q (plan_over es q old a) block kept last rounds c
  rounds_ask_kept tells alone s t kept last [] c = tt
  rounds_ask_kept tells alone s t kept last (r ∷ rounds) c =
      (for_kept kept c.1.went.found c.1.went.texts c.1.went.left c.1.went.of_runs c.1.went.of_batches c.1.went.sent, rounds_ask_kept tells alone c.0 t (without_all r.left kept) last rounds c.3)

pub kept_are_asked : KeptAreAsked
kept_are_asked tells alone before after es q old new block result w =
    let last = w.went.last in (
      rounds_ask_kept es q old w.answers block tells alone w.asked w.went.between w.answers.kept.items w.went.last_kept w.went.abandoned w.went.rounds,
      for_kept es q old w.answers block w.went.last_kept last.found last.texts last.left last.of_runs last.of_batches last.sent,
    )
