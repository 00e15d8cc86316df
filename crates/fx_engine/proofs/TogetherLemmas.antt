-- Runs that begin with the one empty solution, asked for together: what groups and operators come to by that.
use Rattle.std.proofs.Common.{◌≡◌, ◌∙◌, ap, sym, subst, refl, ℕ, suc, ◌+◌, ◌&&◌, Bool, true, false, List, [], ◌∷◌, ◌++◌, map, drop, length, All, IsTrue, IsPermutation, arith}
use Rattle.std.specs.List.{AllByRecursion, list_all}
use Rattle.std.proofs.lemmas.List.Elements.{All-from_recursion}
use Rattle.std.proofs.lemmas.List.Sorted.{IsPermutation-append, IsPermutation-refl}
use Rattle.fx_terms.specs.declared.patterns.Pattern.{Pattern}
use Rattle.fx_terms.specs.declared.triples.Triple.{Triple}
use Rattle.fx_outside.specs.Endpoints.{EndpointParts}
use Rattle.fx_algebra.specs.Graphs.{union}
use Rattle.fx_algebra.specs.Groups.{alternatives, alternative_seeds, alternative_stations, group_rows, one_empty}
use Rattle.fx_algebra.specs.Operators.{filtered}
use Rattle.fx_algebra.specs.Scopes.{once}
use Rattle.fx_algebra.specs.Solutions.{Bindings, rises}
use Rattle.fx_algebra.specs.Stations.{Station}
use Rattle.fx_algebra.specs.Stations as station
use Rattle.fx_algebra.specs.declared.expressions.Expr.{Expr}
use Rattle.fx_algebra.specs.declared.queries.Group.{Group}
use Rattle.fx_algebra.specs.declared.units.Row.{Row}
use Rattle.fx_steps.specs.Fewer.{AreFewer}
use Rattle.fx_steps.specs.Steps.{solutions_of}
use Rattle.fx_steps.proofs.FewerLemmas.{fewer_laws}
use Rattle.fx_traffic.specs.Sent.{Sent}
use Rattle.fx_walks.specs.Served.{Served, group_in}
use Rattle.fx_walks.specs.GroupsAsked.{AlternativesDue, AlternativesGiven, AreAskedFor, EndDue, EndGiven, GroupDue, GroupGiven, IsNext, RunDue, RunGiven, all_planned, is_run, own_patterns, run_joined, run_seeds, run_stations, run_tasks, seeds_in, stations_in}
use Rattle.fx_walks.specs.RunsSent.{AreRunsSent}
use Rattle.fx_walks.specs.SectionSteps.{group_of}
use Rattle.fx_engine.specs.Together.{TaskDue, TaskGiven, TasksDue, TasksGiven, is_one_run, rows_of_runs}
use Rattle.fx_walks.specs.declared.tasks.Task.{Task}
use Rattle.fx_engine.proofs.EndLemmas.{ended_due, ended_run}
use Rattle.fx_walks.proofs.ElementLemmas.{run_is, run_rows, run_seed, run_station}
use Rattle.fx_walks.proofs.FrontLemmas.{behind_next, first_is}
use Rattle.fx_walks.proofs.RunRowsLemmas.{joined_so}
use Rattle.fx_walks.proofs.ServedLemmas.{same_filters}
use Rattle.fx_walks.proofs.StationLemmas.{next_first, next_others, sent_alone, sent_behind}

-- ---- one task

module _ (endpoints : List EndpointParts) (block : ℕ) (tasks others : List Task) (next : ℕ) (t : Task) (next_is : drop next tasks ≡ t ∷ others) (graphs : List (List Triple)) (wanted : List Sent) where
  pub run_given : (found : List Row) → TaskGiven endpoints block t graphs wanted found → RunGiven endpoints block tasks next (next + 1) one_empty graphs wanted found
  run_given found h = λ ps filters known gone defined rest moved is.
      let here = first_is _ _ _ _ (sym is ∙ next_is) in
      let k = h ps filters known gone defined moved here.0 in (
        record { behind = behind_next tasks others next t next_is ∙ sym here.1; sent = sent_alone endpoints graphs block (station.run ps filters known) defined wanted k.0 },
        k.1,
      )

  pub run_due : TaskDue endpoints block t graphs wanted → RunDue endpoints block tasks next one_empty graphs wanted
  run_due h = λ ps filters known gone defined rest moved is.
      let here = first_is _ _ _ _ (sym is ∙ next_is) in
      sent_alone endpoints graphs block (station.run ps filters known) defined wanted (h ps filters known gone defined moved here.0)

-- what is given is due
pub due_of_given : (endpoints : List EndpointParts) (block : ℕ) (its : List Task) (graphs : List (List Triple)) (wanted : List Sent) (founds : List (List Row)) → TasksGiven endpoints block its graphs wanted founds → TasksDue endpoints block its graphs wanted
due_of_given endpoints block [] graphs wanted [] h = h
due_of_given endpoints block [] graphs wanted (found ∷ founds) h = absurd h
due_of_given endpoints block (t ∷ its) graphs wanted [] h = absurd h
due_of_given endpoints block (t ∷ its) graphs wanted (found ∷ founds) h =
    (h.0, h.1, h.2, (λ ps filters known gone defined moved is. (h.3 ps filters known gone defined moved is).0), due_of_given endpoints block its graphs h.1 founds h.4)

-- ---- a group that is one run

pub record IsOneRun (g : Group) : Type 0 where
  pub simple : (group_of g).is_simple ≡ true
  pub has : is_run (own_patterns g) ≡ true

both_true : (b c : Bool) → (b && c) ≡ true → (b ≡ true) × (c ≡ true)
both_true true c h = (refl, h)
both_true false c h = absurd (cc)

pub ones_are : (gs : List Group) → list_all is_one_run gs ≡ true → AllByRecursion IsOneRun gs
ones_are [] h = tt
ones_are (g ∷ gs) h =
    let first = both_true (is_one_run g) (list_all is_one_run gs) h in
    let both = both_true (group_of g).is_simple (is_run (own_patterns g)) first.0 in
    (record { simple = both.0; has = both.1 }, ones_are gs first.1)

empty_rises : All (λ s. IsTrue (rises s)) one_empty
empty_rises = All-from_recursion (λ s. IsTrue (rises s)) one_empty (refl, tt)

no_more : IsPermutation (one_empty ++ []) one_empty
no_more = IsPermutation-refl one_empty

module _ (endpoints : List EndpointParts) (block : ℕ) (tasks : List Task) (next : ℕ) (graphs : List (List Triple)) (wanted : List Sent) (g : Group) (one : IsOneRun g) where
  abbrev conditions : List Expr
  conditions = (group_of g).filters

  -- its station is its run's
  module _ (served : Served) (number : ℕ) (rest : List Task) where
    its_next : IsNext tasks next graphs served (stations_in served number g) rest → drop next tasks ≡ run_tasks graphs conditions [] (own_patterns g) ++ rest
    its_next is = run_is g one.simple served graphs tasks next [] rest (subst (λ (v : List Station). IsNext tasks next graphs served v rest) (run_station g one.simple served number []) is)

    its_asked : (later : ℕ) → AreAskedFor endpoints graphs block tasks later rest (run_stations conditions [] (own_patterns g)) (run_seeds one_empty (own_patterns g)) wanted
        → AreAskedFor endpoints graphs block tasks later rest (stations_in served number g) (seeds_in served number graphs g) wanted
    its_asked later k =
        subst (λ (v : List Station). AreAskedFor endpoints graphs block tasks later rest v (seeds_in served number graphs g) wanted) (sym (run_station g one.simple served number []))
        (subst (λ (v : List (List Bindings)). AreAskedFor endpoints graphs block tasks later rest (run_stations conditions [] (own_patterns g)) v wanted) (sym (run_seed g one.simple served number (union graphs) one_empty)) k)

    its_sent : AreRunsSent endpoints graphs block (run_stations conditions [] (own_patterns g)) (run_seeds one_empty (own_patterns g)) wanted → AreRunsSent endpoints graphs block (stations_in served number g) (seeds_in served number graphs g) wanted
    its_sent k =
        subst (λ (v : List Station). AreRunsSent endpoints graphs block v (seeds_in served number graphs g) wanted) (sym (run_station g one.simple served number []))
        (subst (λ (v : List (List Bindings)). AreRunsSent endpoints graphs block (run_stations conditions [] (own_patterns g)) v wanted) (sym (run_seed g one.simple served number (union graphs) one_empty)) k)

    pub one_behind : (t : Task) (others : List Task) → drop next tasks ≡ t ∷ others → IsNext tasks next graphs served (stations_in served number g) rest → others ≡ rest
    one_behind t others next_is is = by (own_patterns g) one.has (its_next is)
      where
        by : (ps : List Pattern) → is_run ps ≡ true → drop next tasks ≡ run_tasks graphs conditions [] ps ++ rest → others ≡ rest
        by [] e h = absurd (cc)
        by (p ∷ ps) e h = (first_is _ _ _ _ (sym next_is ∙ h)).1

  pub one_given : (later : ℕ) (found : List Row) → RunGiven endpoints block tasks next later one_empty graphs wanted found → GroupGiven endpoints block tasks next later g graphs wanted (filtered conditions (solutions_of found))
  one_given later found h = λ served number rest is.
      let k = by (own_patterns g) one.has rest (its_next served number rest is) in
      let kept : IsPermutation (filtered conditions (solutions_of found)) (filtered conditions (run_joined (union graphs) one_empty (own_patterns g))) =
      fewer_laws.at_the_end conditions (solutions_of found) (run_joined (union graphs) one_empty (own_patterns g)) k.1 in (
        its_asked served number rest later k.0,
        subst (λ (v : List Expr). IsPermutation (filtered conditions (solutions_of found)) (filtered v ((group_in served g).rows (union graphs) number))) (sym (same_filters served g))
            (subst (λ (v : List Bindings). IsPermutation (filtered conditions (solutions_of found)) (filtered conditions v)) (sym (run_rows g one.simple served number (union graphs))) kept),
      )
    where
      by : (ps : List Pattern) → is_run ps ≡ true → (rest : List Task) → drop next tasks ≡ run_tasks graphs conditions [] ps ++ rest
          → AreAskedFor endpoints graphs block tasks later rest (run_stations conditions [] ps) (run_seeds one_empty ps) wanted × AreFewer conditions (solutions_of found) (run_joined (union graphs) one_empty ps)
      by [] e rest is = absurd (cc)
      by (p ∷ ps) e rest is =
          let k = h (p ∷ ps) conditions (once []) [] one_empty rest no_more is in
          (k.0, joined_so graphs (p ∷ ps) conditions (once []) one_empty empty_rises found one_empty k.1 (fewer_laws.none conditions one_empty one_empty (IsPermutation-refl one_empty)))

  pub one_due : RunDue endpoints block tasks next one_empty graphs wanted → GroupDue endpoints block tasks next g graphs wanted
  one_due h = λ served number rest is. its_sent served number rest (by (own_patterns g) one.has rest (its_next served number rest is))
    where
      by : (ps : List Pattern) → is_run ps ≡ true → (rest : List Task) → drop next tasks ≡ run_tasks graphs conditions [] ps ++ rest → AreRunsSent endpoints graphs block (run_stations conditions [] ps) (run_seeds one_empty ps) wanted
      by [] e rest is = absurd (cc)
      by (p ∷ ps) e rest is = h (p ∷ ps) conditions (once []) [] one_empty rest no_more is

-- ---- groups of which each is one run

module _ (endpoints : List EndpointParts) (block : ℕ) (tasks : List Task) (graphs : List (List Triple)) where
  abbrev stations_by : Served → ℕ → List Group → List Station
  stations_by served number gs = alternative_stations (map (group_in served) gs) number

  abbrev seeds_by : Served → ℕ → List Group → List (List Bindings)
  seeds_by served number gs = alternative_seeds (map (group_in served) gs) (union graphs) number

  pub alternatives_given : (gs : List Group) → AllByRecursion IsOneRun gs → (its : List Task) (founds : List (List Row)) (others : List Task) (next : ℕ) (wanted : List Sent) → length its ≡ length gs
      → drop next tasks ≡ its ++ others → TasksGiven endpoints block its graphs wanted founds → AlternativesGiven endpoints block tasks next (next + length its) gs graphs wanted (rows_of_runs gs founds)
  alternatives_given [] ones [] [] others next wanted many next_is h = λ served number rest is.
      let same : drop (next + 0) tasks ≡ drop next tasks = ap (λ (n : ℕ). drop n tasks) {x = next + 0} {y = next} (omega arith) in
      (record { behind = same ∙ is.next_is; sent = h }, IsPermutation-refl [])
  alternatives_given [] ones [] (found ∷ founds) others next wanted many next_is h = absurd h
  alternatives_given [] ones (t ∷ its) founds others next wanted many next_is h = absurd (omega (arith, many))
  alternatives_given (g ∷ gs) ones [] founds others next wanted many next_is h = absurd (omega (arith, many))
  alternatives_given (g ∷ gs) ones (t ∷ its) [] others next wanted many next_is h = absurd h
  alternatives_given (g ∷ gs) ones (t ∷ its) (found ∷ founds) others next wanted many next_is h = λ served number rest is.
      let later = number + (group_in served g).services in
      let first = one_given endpoints block tasks next graphs h.0 g ones.0 (next + 1) found (run_given endpoints block tasks (its ++ others) next t next_is graphs h.0 found h.3) served number (all_planned served graphs (stations_by served later gs) ++ rest)
      (next_first served graphs tasks (stations_in served number g) (stations_by served later gs) rest next is) in
      let as_many : length its ≡ length gs = omega (arith, many) in
      let more = alternatives_given gs ones.1 its founds others (next + 1) h.1 as_many (behind_next tasks (its ++ others) next t next_is) h.4 served later rest
      (next_others served graphs tasks (stations_in served number g) (stations_by served later gs) rest next (next + 1) is first.0.behind) in
      let end : next + 1 + length its ≡ next + suc (length its) = omega arith in (
        record {
          behind = ap (λ (n : ℕ). drop n tasks) (sym end) ∙ more.0.behind;
          sent =
              subst (AreRunsSent endpoints graphs block (stations_by served number (g ∷ gs)) (seeds_by served number (g ∷ gs))) (sym h.2)
              (sent_behind endpoints graphs block (stations_in served number g) (stations_by served later gs) (seeds_in served number graphs g) (seeds_by served later gs) h.0 h.1 first.0.sent more.0.sent);
        },
        IsPermutation-append (filtered (group_of g).filters (solutions_of found)) (group_rows (group_in served g) (union graphs) number) (rows_of_runs gs founds) (alternatives (map (group_in served) gs) (union graphs) later) first.1 more.1,
      )

  pub alternatives_due : (gs : List Group) → AllByRecursion IsOneRun gs → (its others : List Task) (next : ℕ) (wanted : List Sent) → length its ≡ length gs
      → drop next tasks ≡ its ++ others → TasksDue endpoints block its graphs wanted → AlternativesDue endpoints block tasks next gs graphs wanted
  alternatives_due [] ones [] others next wanted many next_is h = λ served number rest is. h
  alternatives_due [] ones (t ∷ its) others next wanted many next_is h = absurd (omega (arith, many))
  alternatives_due (g ∷ gs) ones [] others next wanted many next_is h = absurd (omega (arith, many))
  alternatives_due (g ∷ gs) ones (t ∷ its) others next wanted many next_is h = λ served number rest is.
      let later = number + (group_in served g).services in
      let here = next_first served graphs tasks (stations_in served number g) (stations_by served later gs) rest next is in
      let first = one_due endpoints block tasks next graphs h.0 g ones.0 (run_due endpoints block tasks (its ++ others) next t next_is graphs h.0 h.3) served number (all_planned served graphs (stations_by served later gs) ++ rest) here in
      let as_many : length its ≡ length gs = omega (arith, many) in
      let behind : drop (next + 1) tasks ≡ its ++ others = behind_next tasks (its ++ others) next t next_is in
      let end = one_behind endpoints block tasks next graphs h.0 g ones.0 served number (all_planned served graphs (stations_by served later gs) ++ rest) t (its ++ others) next_is here in
      let more = alternatives_due gs ones.1 its others (next + 1) h.1 as_many behind h.4 served later rest
      (next_others served graphs tasks (stations_in served number g) (stations_by served later gs) rest next (next + 1) is (behind ∙ end)) in
      subst (AreRunsSent endpoints graphs block (stations_by served number (g ∷ gs)) (seeds_by served number (g ∷ gs))) (sym h.2)
      (sent_behind endpoints graphs block (stations_in served number g) (stations_by served later gs) (seeds_in served number graphs g) (seeds_by served later gs) h.0 h.1 first more)

-- ---- the run before an operator, with the groups of that

module _ (tells alone : Bool) (endpoints : List EndpointParts) (block : ℕ) (tasks others : List Task) (next : ℕ) (t : Task) (next_is : drop next tasks ≡ t ∷ others) (graphs : List (List Triple)) (own : List Sent) where
  -- it ended
  pub first_given : (found : List Row) → TaskGiven endpoints block t graphs own found → EndGiven endpoints block tasks next (next + 1) true one_empty graphs own (solutions_of found)
  first_given found h = ended_run tells alone endpoints block tasks next one_empty (next + 1) empty_rises graphs own found (run_given endpoints block tasks others next t next_is graphs own found h)

  pub first_due : TaskDue endpoints block t graphs own → EndDue endpoints block tasks next true one_empty graphs own
  first_due h = ended_due tells alone endpoints block tasks next one_empty graphs own (run_due endpoints block tasks others next t next_is graphs own h)
