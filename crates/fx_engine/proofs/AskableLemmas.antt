-- The tasks of an accepted query's plan can be asked for, whatever is known of its probes, and their units have patterns of the query.
use Rattle.std.proofs.Common.{◌≡◌, ◌∙◌, ap, sym, subst, refl, ℕ, ◌<◌, inl, inr, Bool, true, false, if◌then◌else◌, List, [], ◌∷◌, map, arith}
use Rattle.std.specs.Prelude.{All, AllPairs, Contains}
use Rattle.std.specs.List.{AllByRecursion, list_any, range_with_len}
use Rattle.std.proofs.lemmas.List.{length-map}
use Rattle.std.proofs.lemmas.List.Elements.{All-contains, All-filter, All-from_recursion}
use Rattle.std.proofs.lemmas.List.FromFn.{get_or-range_with_len, length-range_with_len}
use Rattle.std.proofs.lemmas.List.Kept.{AllPairs-filter}
use Rattle.fx_terms.specs.declared.patterns.Pattern.{Pattern}
use Rattle.fx_terms.proofs.SetLemmas.{Among, contains_from}
use Rattle.fx_algebra.specs.Answers.{is_empty_list}
use Rattle.fx_algebra.specs.Cuts.{stations}
use Rattle.fx_algebra.specs.Solutions.{Bindings}
use Rattle.fx_algebra.specs.Stations.{Station}
use Rattle.fx_algebra.specs.Stations as station
use Rattle.fx_algebra.specs.declared.expressions.Expr.{Expr}
use Rattle.fx_algebra.specs.declared.queries.Query.{Query}
use Rattle.fx_grammar.specs.Accepted.{Accepted}
use Rattle.fx_spelling.specs.Runs.{HasRun, IsRun}
use Rattle.fx_spelling.proofs.Runs.{runs_are_of_the_grammar}
use Rattle.fx_keys.specs.Probes.{key_of, probe}
use Rattle.fx_sources.specs.Probes.{Entry, chosen, is_yes, known, members_of}
use Rattle.fx_plan.specs.Plans.{plan}
use Rattle.fx_plan.specs.declared.parts.Part.{Part}
use Rattle.fx_traffic.proofs.PlannedLemmas.{planned_laws}
use Rattle.fx_engine.specs.RowsAsked.{CanBeAsked}
use Rattle.fx_algebra.specs.Units.{is_kept}
use Rattle.fx_outcomes.specs.Rounds.{kept_choice}
use Rattle.fx_walks.specs.Sections.{part_with, parts_by, parts_with, section_of, sections}
use Rattle.fx_walks.specs.Tasks.{tasks_with}
use Rattle.fx_walks.specs.declared.tasks.Task.TheVariants as task
use Rattle.fx_walks.proofs.PartLemmas.{by_function}
use Rattle.fx_walks.proofs.SectionLemmas.{runs_have}
use Rattle.fx_outcomes.proofs.TaskLemmas.{run_in_front}
use Rattle.fx_walks.proofs.UnitLemmas.{range_rises}

-- parts by what is known of each member and key
pub by_members : (q : Query) (members : ℕ) (entries : List Entry) → parts_by (sections q) (chosen q members entries) ≡ map (part_with (λ p. members_of entries members (key_of p))) (sections q)
by_members q members entries =
    let f : Pattern → List ℕ = λ p. members_of entries members (key_of p) in
    ap (λ (ps : List Pattern). parts_by (sections q) (map f ps)) (sym (runs_have q)) ∙ by_function f (sections q)

all_mapped : (P : List ℕ → Type 0) (f : Pattern → List ℕ) → ((p : Pattern) → P (f p)) → (ps : List Pattern) → AllByRecursion P (map f ps)
all_mapped P f h [] = tt
all_mapped P f h (p ∷ ps) = (h p, all_mapped P f h ps)

module _ (text : List ℕ) (q : Query) (accepted : Accepted text q) (members : ℕ) (f : Pattern → List ℕ) (rising : (p : Pattern) → AllPairs ◌<◌ (f p)) (below : (p : Pattern) → All (λ at. at < members) (f p)) where
  run_asked : (ps : List Pattern) (filters : List Expr) (before : List (List ℕ)) → Contains (stations q) (station.run ps filters before) → (b : Bool) → list_any is_empty_list (map f ps) ≡ b
      → CanBeAsked members (if b then task.EmptyRun else task.Run (plan ps (map f ps) filters before))
  run_asked ps filters before m true e = tt
  run_asked ps filters before m false e =
      let run : IsRun ps filters = All-contains HasRun (stations q) (station.run ps filters before) (runs_are_of_the_grammar text q accepted) m in
      record {
        some = planned_laws.some ps (map f ps) filters before run.some (length-map ps f);
        fit = planned_laws.of_queries text q ps (map f ps) filters before accepted m (record { some = e; rising = All-from_recursion (AllPairs ◌<◌) (map f ps) (all_mapped (AllPairs ◌<◌) f rising ps) });
        within = planned_laws.within members ps (map f ps) filters before (All-from_recursion (All (λ at. at < members)) (map f ps) (all_mapped (All (λ at. at < members)) f below ps));
      }

  stations_asked : (ss : List Station) (found : List (List Bindings)) → ((s : Station) → Among s ss → Contains (stations q) s) → AllByRecursion (CanBeAsked members) (tasks_with (map (part_with f) (map section_of ss)) found)
  stations_asked [] found h = tt
  stations_asked (station.run ps filters before ∷ ss) found h =
      let lacks = list_any is_empty_list (map f ps) in
      subst (AllByRecursion (CanBeAsked members)) (sym (run_in_front lacks (plan ps (map f ps) filters before) before (map (part_with f) (map section_of ss)) found))
      (run_asked ps filters before (h (station.run ps filters before) (inl refl)) lacks refl, stations_asked ss found (λ t m. h t (inr m)))
  stations_asked (station.service number silent iri g ∷ ss) [] h = (tt, stations_asked ss [] (λ t m. h t (inr m)))
  stations_asked (station.service number silent iri g ∷ ss) (rows ∷ found) h = (tt, stations_asked ss found (λ t m. h t (inr m)))

  all_asked : (found : List (List Bindings)) → All (CanBeAsked members) (tasks_with (map (part_with f) (sections q)) found)
  all_asked found = All-from_recursion (CanBeAsked members) (tasks_with (map (part_with f) (sections q)) found) (stations_asked (stations q) found (λ s m. contains_from (stations q) s m))

range_below : (n : ℕ) → All (λ at. at < n) (range_with_len 0 n)
range_below n k d low =
    let long = length-range_with_len 0 n in
    let is = get_or-range_with_len 0 n k d (omega arith) in
    omega arith

pub tasks_can_be_asked : (text : List ℕ) (q : Query) → Accepted text q → (members : ℕ) (entries : List Entry) (found : List (List Bindings)) → All (CanBeAsked members) (tasks_with (parts_by (sections q) (chosen q members entries)) found)
tasks_can_be_asked text q accepted members entries found =
    let f : Pattern → List ℕ = λ p. members_of entries members (key_of p) in
    subst (λ (v : List Part). All (CanBeAsked members) (tasks_with v found)) (sym (by_members q members entries))
    (all_asked text q accepted members f
    (λ p. AllPairs-filter ◌<◌ (λ at. is_yes (known entries (probe at (key_of p)))) (range_with_len 0 members) (range_rises 0 members))
    (λ p. All-filter (λ at. is_yes (known entries (probe at (key_of p)))) (λ at. at < members) (range_with_len 0 members) (range_below members)) found)

-- and so can those of a plan over kept members
pub kept_can_be_asked : (text : List ℕ) (q : Query) → Accepted text q → (members : ℕ) (kept : List Bool) (entries : List Entry) (found : List (List Bindings)) → All (CanBeAsked members) (tasks_with (parts_with (kept_choice kept entries members) q) found)
kept_can_be_asked text q accepted members kept entries found =
    all_asked text q accepted members (kept_choice kept entries members)
    (λ p. AllPairs-filter ◌<◌ (is_kept kept) (members_of entries members (key_of p)) (AllPairs-filter ◌<◌ (λ at. is_yes (known entries (probe at (key_of p)))) (range_with_len 0 members) (range_rises 0 members)))
    (λ p. All-filter (is_kept kept) (λ at. at < members) (members_of entries members (key_of p)) (All-filter (λ at. is_yes (known entries (probe at (key_of p)))) (λ at. at < members) (range_with_len 0 members) (range_below members))) found
