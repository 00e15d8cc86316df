-- The places of a group that the pass over its elements goes through: behind a pattern, a filter and an operator, and at the end.
use Rattle.std.proofs.Common.{◌≡◌, ◌∙◌, ap, sym, subst, refl, ℕ, ◌+◌, Bool, true, false, List, [], ◌∷◌, ◌++◌, drop, length, length-append, append-nil, append_assoc, arith}
use Rattle.std.proofs.lemmas.List.Sorted.{IsPermutation-refl}
use Rattle.fx_terms.specs.declared.triples.Triple.{Triple}
use Rattle.fx_terms.specs.declared.patterns.Pattern.{Pattern}
use Rattle.fx_outside.specs.Endpoints.{EndpointParts}
use Rattle.fx_algebra.specs.Graphs.{union}
use Rattle.fx_algebra.specs.Groups.{Operator, Part as GroupPart, pattern, condition, operator, Step, apply, with_part, stations_of, seeds_of, after, keeps_run}
use Rattle.fx_algebra.specs.Solutions.{Bindings}
use Rattle.fx_algebra.specs.Stations.{Station}
use Rattle.fx_algebra.specs.declared.expressions.Expr.{Expr}
use Rattle.fx_algebra.specs.declared.queries.Element.{Element}
use Rattle.fx_algebra.specs.Scopes.{once}
use Rattle.fx_steps.specs.Fewer.{AreFewer}
use Rattle.fx_steps.proofs.FewerLemmas.{fewer_laws}
use Rattle.fx_traffic.specs.Sent.{Sent}
use Rattle.fx_walks.specs.GroupsAsked.{AreAskedFor, AreEven, AreSentFrom, ElementDue, ElementGiven, EndDue, EndGiven, IsNext, IsPlace, IsReached, OperatorDue, OperatorGiven, all_planned, is_run, number_behind, operator_rows, operator_seeds, operator_stations, run_joined, run_seeds, run_stations, run_task, run_tasks, with_run}
use Rattle.fx_walks.specs.Served.{Served, element_in}
use Rattle.fx_walks.specs.RunsSent.{AreRunsSent}
use Rattle.fx_walks.specs.SectionSteps.{part_of, part_patterns}
use Rattle.fx_walks.specs.declared.tasks.Task.{Task}
use Rattle.fx_walks.proofs.ElementLemmas.{is_operator}
use Rattle.fx_walks.proofs.EvenLemmas.{IsEven, operator_is_even}
use Rattle.fx_walks.proofs.FrontLemmas.{behind_next}
use Rattle.fx_walks.proofs.RunLemmas.{after_before, is_run_more, names_behind, run_more, seeds_before, stations_before}
use Rattle.fx_walks.proofs.ServedLemmas.{same_keeps, same_patterns}
use Rattle.fx_walks.proofs.StationLemmas.{next_first, next_others, no_run_sent, planned_behind, run_planned, sent_behind}

module _ (endpoints : List EndpointParts) (graphs : List (List Triple)) (block : ℕ) (tasks : List Task) (served : Served) where
  module _ (filters : List Expr) (number : ℕ) (known : List (List ℕ)) (run : List Pattern) (before defined : List Bindings) (steps : List Step) (rest : List Task) (next : ℕ) (was_run : Bool) where
    -- nothing is asked for at a pattern
    pub at_pattern : (p : Pattern) → IsPlace graphs tasks served next was_run filters number known run before defined (with_part (pattern p) steps) rest
        → IsReached endpoints graphs block tasks served next true filters number known run defined (with_part (pattern p) steps) rest number steps [] before
    at_pattern p h =
        let same = run_more run p steps in
        record {
          names = known;
          patterns = run ++ p ∷ [];
          solutions = defined;
          place = record {
            runs = sym (is_run_more run p);
            fewer = h.fewer;
            next_is = subst (λ (v : List Step). IsNext tasks next graphs served (stations_of filters number known v) rest) same h.next_is;
          };
          goes_on = λ more k.
              subst (λ (v : List Step). AreRunsSent endpoints graphs block (stations_of filters number known v) (seeds_of (union graphs) number defined v) more) (sym same) k;
          comes_out = ap (after (union graphs) number defined) (sym same);
        }

    -- nor at a filter
    pub at_condition : (e : Expr) → IsPlace graphs tasks served next was_run filters number known run before defined (with_part (condition e) steps) rest
        → IsReached endpoints graphs block tasks served next was_run filters number known run defined (with_part (condition e) steps) rest number steps [] before
    at_condition e h = record { names = known; patterns = run; solutions = defined; place = h; goes_on = λ more k. k; comes_out = refl }

    module _ (o : Operator) where
      abbrev names : List (List ℕ)
      names = names_behind known run

      abbrev joined : List Bindings
      joined = run_joined (union graphs) defined run

      abbrev made : List Bindings
      made = o.rows (union graphs) number joined

      abbrev own_stations : List Station
      own_stations = o.cut.stations number names

      abbrev later_stations : List Station
      later_stations = stations_of filters (number + o.services) (names ++ o.cut.names) steps

      abbrev own_seeds : List (List Bindings)
      own_seeds = o.cut.seeds (union graphs) number joined

      abbrev later_seeds : List (List Bindings)
      later_seeds = seeds_of (union graphs) (number + o.services) made steps

      abbrev behind_stations : List Station
      behind_stations = own_stations ++ later_stations

      -- before an operator the tasks go on with the run, the operator and what is behind it
      next_at : IsPlace graphs tasks served next was_run filters number known run before defined (with_part (operator o) steps) rest → IsNext tasks next graphs served (run_stations filters known run ++ behind_stations) rest
      next_at h = subst (λ (v : List Station). IsNext tasks next graphs served v rest) (stations_before o steps number filters known run) h.next_is

      run_next : IsPlace graphs tasks served next was_run filters number known run before defined (with_part (operator o) steps) rest → drop next tasks ≡ run_tasks graphs filters known run ++ (all_planned served graphs behind_stations ++ rest)
      run_next h =
          (next_at h).next_is
          ∙ planned_behind served graphs (run_stations filters known run) behind_stations rest
          ∙ ap (λ (v : List Task). v ++ (all_planned served graphs behind_stations ++ rest)) (run_planned served graphs filters known run)

      -- behind the run they go on with the operator and what is behind it
      both_next : (between : ℕ) → IsPlace graphs tasks served next was_run filters number known run before defined (with_part (operator o) steps) rest → drop between tasks ≡ all_planned served graphs behind_stations ++ rest
          → IsNext tasks between graphs served behind_stations rest
      both_next between h is = next_others served graphs tasks (run_stations filters known run) behind_stations rest next between (next_at h) is

      whole : (wanted : List Sent) → AreRunsSent endpoints graphs block (run_stations filters known run ++ (own_stations ++ later_stations)) (run_seeds defined run ++ (own_seeds ++ later_seeds)) wanted
          → AreSentFrom endpoints graphs block filters number known run defined (with_part (operator o) steps) wanted
      whole wanted k =
          subst (λ (v : List Station). AreRunsSent endpoints graphs block v (seeds_of (union graphs) number defined (with_run run (apply o ∷ steps))) wanted) (sym (stations_before o steps number filters known run))
          (subst (λ (v : List (List Bindings)). AreRunsSent endpoints graphs block (run_stations filters known run ++ (own_stations ++ later_stations)) v wanted) (sym (seeds_before o steps number (union graphs) defined run)) k)

      later_even : AreEven steps → length later_seeds ≡ length later_stations
      later_even even = even filters (union graphs) (number + o.services) (number + o.services) made (names ++ o.cut.names)

      -- the run before it was asked for, and then what it has itself
      pub at_operator : (e : Element) (between later : ℕ) (rows found : List Bindings) (own more : List Sent) → element_in served e ≡ operator o
          → EndGiven endpoints block tasks next between was_run before graphs own rows
          → OperatorGiven endpoints block tasks between later e rows graphs more found
          → IsPlace graphs tasks served next was_run filters number known run before defined (with_part (element_in served e) steps) rest
          → IsReached endpoints graphs block tasks served later false filters number known run defined (with_part (element_in served e) steps) rest (number_behind number (element_in served e)) steps (own ++ more) found
      at_operator e between later rows found own more is ended asked place =
          let here = subst (λ (v : GroupPart). IsPlace graphs tasks served next was_run filters number known run before defined (with_part v steps) rest) is place in
          let first = ended run filters known defined (all_planned served graphs behind_stations ++ rest) here.runs here.fewer (run_next here) in
          let both = both_next between here first.0.behind in
          let its = by_part e is filters names joined (all_planned served graphs later_stations ++ rest) first.1 (next_first served graphs tasks own_stations later_stations rest between both) asked in
          subst (λ (v : GroupPart). IsReached endpoints graphs block tasks served later false filters number known run defined (with_part v steps) rest (number_behind number v) steps (own ++ more) found) (sym is)
          (record {
            names = names ++ o.cut.names;
            patterns = [];
            solutions = made;
            place = record { runs = refl; fewer = its.1; next_is = next_others served graphs tasks own_stations later_stations rest between later both its.0.behind };
            goes_on = λ others k.
                whole ((own ++ more) ++ others)
                (subst (AreRunsSent endpoints graphs block (run_stations filters known run ++ (own_stations ++ later_stations)) (run_seeds defined run ++ (own_seeds ++ later_seeds))) (sym (append_assoc own more others))
                (sent_behind endpoints graphs block (run_stations filters known run) (own_stations ++ later_stations) (run_seeds defined run) (own_seeds ++ later_seeds) own (more ++ others) first.0.sent
                (sent_behind endpoints graphs block own_stations later_stations own_seeds later_seeds more others its.0.sent k)));
            comes_out = sym (after_before o steps number (union graphs) defined run);
          })
        where
          by_part : (d : Element) → element_in served d ≡ operator o → (cs : List Expr) (ns : List (List ℕ)) (ds : List Bindings) (ps : List Task) → AreFewer cs rows ds → IsNext tasks between graphs served (o.cut.stations number ns) ps
              → OperatorGiven endpoints block tasks between later d rows graphs more found
              → AreAskedFor endpoints graphs block tasks later ps (o.cut.stations number ns) (o.cut.seeds (union graphs) number ds) more × AreFewer cs found (o.rows (union graphs) number ds)
          by_part d same cs ns ds ps fewer next_is k =
              let P : GroupPart → Type 0 = λ v.
              IsNext tasks between graphs served (operator_stations number v ns) ps
              → AreAskedFor endpoints graphs block tasks later ps (operator_stations number v ns) (operator_seeds number v (union graphs) ds) more × AreFewer cs found (operator_rows number v (union graphs) ds) in
              subst P same (k served number cs ns ds ps fewer) next_is

      -- what is behind the run wasn't
      pub due_at_run : AreEven steps → IsEven o.cut → (own : List Sent) → EndDue endpoints block tasks next was_run before graphs own
          → IsPlace graphs tasks served next was_run filters number known run before defined (with_part (operator o) steps) rest
          → AreSentFrom endpoints graphs block filters number known run defined (with_part (operator o) steps) own
      due_at_run even its own due place =
          let first = due run filters known defined (all_planned served graphs behind_stations ++ rest) place.runs place.fewer (run_next place) in
          let behind : length later_seeds ≡ length later_stations = later_even even in
          let here : length own_seeds ≡ length own_stations = its (union graphs) number number joined names in
          let many : length (own_seeds ++ later_seeds) ≡ length (own_stations ++ later_stations) = omega (arith, length-append own_seeds later_seeds, length-append own_stations later_stations) in
          whole own
          (subst (AreRunsSent endpoints graphs block (run_stations filters known run ++ (own_stations ++ later_stations)) (run_seeds defined run ++ (own_seeds ++ later_seeds))) (append-nil own)
          (sent_behind endpoints graphs block (run_stations filters known run) (own_stations ++ later_stations) (run_seeds defined run) (own_seeds ++ later_seeds) own [] first
          (no_run_sent endpoints graphs block (own_stations ++ later_stations) (own_seeds ++ later_seeds) many)))

      -- what is behind the operator wasn't
      pub due_at_operator : AreEven steps → (e : Element) (between : ℕ) (rows : List Bindings) (own more : List Sent) → element_in served e ≡ operator o
          → EndGiven endpoints block tasks next between was_run before graphs own rows
          → OperatorDue endpoints block tasks between e rows graphs more
          → IsPlace graphs tasks served next was_run filters number known run before defined (with_part (operator o) steps) rest
          → AreSentFrom endpoints graphs block filters number known run defined (with_part (operator o) steps) (own ++ more)
      due_at_operator even e between rows own more is ended due place =
          let first = ended run filters known defined (all_planned served graphs behind_stations ++ rest) place.runs place.fewer (run_next place) in
          let P : GroupPart → Type 0 = λ v.
          IsNext tasks between graphs served (operator_stations number v names) (all_planned served graphs later_stations ++ rest)
          → AreRunsSent endpoints graphs block (operator_stations number v names) (operator_seeds number v (union graphs) joined) more in
          let its = subst P is (due served number filters names joined (all_planned served graphs later_stations ++ rest) first.1) (next_first served graphs tasks own_stations later_stations rest between (both_next between place first.0.behind)) in
          whole (own ++ more)
          (sent_behind endpoints graphs block (run_stations filters known run) (own_stations ++ later_stations) (run_seeds defined run) (own_seeds ++ later_seeds) own more first.0.sent
          (subst (AreRunsSent endpoints graphs block (own_stations ++ later_stations) (own_seeds ++ later_seeds)) (append-nil more)
          (sent_behind endpoints graphs block own_stations later_stations own_seeds later_seeds more [] its (no_run_sent endpoints graphs block later_stations later_seeds (later_even even)))))

      -- the run before it and what it has itself were asked for together, and what is behind it wasn't
      pub due_at_both : AreEven steps → (e : Element) (own more : List Sent) → element_in served e ≡ operator o → was_run ≡ true
          → EndDue endpoints block tasks next was_run before graphs own
          → ((rows : List Bindings) → OperatorDue endpoints block tasks (next + 1) e rows graphs more)
          → IsPlace graphs tasks served next was_run filters number known run before defined (with_part (operator o) steps) rest
          → AreSentFrom endpoints graphs block filters number known run defined (with_part (operator o) steps) (own ++ more)
      due_at_both even e own more is has due also_due place =
          let first = due run filters known defined (all_planned served graphs behind_stations ++ rest) place.runs place.fewer (run_next place) in
          let fewer = fewer_laws.none filters joined joined (IsPermutation-refl joined) in
          let P : GroupPart → Type 0 = λ v.
          IsNext tasks (next + 1) graphs served (operator_stations number v names) (all_planned served graphs later_stations ++ rest)
          → AreRunsSent endpoints graphs block (operator_stations number v names) (operator_seeds number v (union graphs) joined) more in
          let its = subst P is (also_due joined served number filters names joined (all_planned served graphs later_stations ++ rest) fewer)
          (next_first served graphs tasks own_stations later_stations rest (next + 1) (both_next (next + 1) place (behind run (sym has ∙ place.runs) (run_next place)))) in
          whole (own ++ more)
          (sent_behind endpoints graphs block (run_stations filters known run) (own_stations ++ later_stations) (run_seeds defined run) (own_seeds ++ later_seeds) own more first
          (subst (AreRunsSent endpoints graphs block (own_stations ++ later_stations) (own_seeds ++ later_seeds)) (append-nil more)
          (sent_behind endpoints graphs block own_stations later_stations own_seeds later_seeds more [] its (no_run_sent endpoints graphs block later_stations later_seeds (later_even even)))))
        where
          behind : (ps : List Pattern) → true ≡ is_run ps → drop next tasks ≡ run_tasks graphs filters known ps ++ (all_planned served graphs behind_stations ++ rest) → drop (next + 1) tasks ≡ all_planned served graphs behind_stations ++ rest
          behind [] e h = absurd (cc)
          behind (p ∷ ps) e h = behind_next tasks (all_planned served graphs behind_stations ++ rest) next (run_task graphs (p ∷ ps) filters (once known)) h

-- ---- one element

module _ (endpoints : List EndpointParts) (block : ℕ) (tasks : List Task) (next : ℕ) (was_run : Bool) (before : List Bindings) (graphs : List (List Triple)) where
  -- where it is a pattern
  pattern_given : (served : Served) (part : GroupPart) → is_run (part_patterns part) ≡ true
      → (number : ℕ) (filters : List Expr) (known : List (List ℕ)) (run : List Pattern) (defined : List Bindings) (steps : List Step) (rest : List Task)
      → IsPlace graphs tasks served next was_run filters number known run before defined (with_part part steps) rest
      → IsReached endpoints graphs block tasks served next true filters number known run defined (with_part part steps) rest (number_behind number part) steps [] before
  pattern_given served (pattern p) h number filters known run defined steps rest place = at_pattern endpoints graphs block tasks served filters number known run before defined steps rest next was_run p place
  pattern_given served (condition e) h number filters known run defined steps rest place = absurd (cc)
  pattern_given served (operator o) h number filters known run defined steps rest place = absurd (cc)

  pub of_pattern : (e : Element) → is_run (part_patterns (part_of e)) ≡ true → ElementGiven endpoints block tasks next next was_run true e before graphs [] before
  of_pattern e h = λ served number. pattern_given served (element_in served e) (ap is_run (same_patterns served e) ∙ h) number

  -- where it is a filter
  condition_given : (served : Served) (part : GroupPart) → is_run (part_patterns part) ≡ false → keeps_run part ≡ true
      → (number : ℕ) (filters : List Expr) (known : List (List ℕ)) (run : List Pattern) (defined : List Bindings) (steps : List Step) (rest : List Task)
      → IsPlace graphs tasks served next was_run filters number known run before defined (with_part part steps) rest
      → IsReached endpoints graphs block tasks served next was_run filters number known run defined (with_part part steps) rest (number_behind number part) steps [] before
  condition_given served (pattern p) h k number filters known run defined steps rest place = absurd (cc)
  condition_given served (condition e) h k number filters known run defined steps rest place = at_condition endpoints graphs block tasks served filters number known run before defined steps rest next was_run e place
  condition_given served (operator o) h k number filters known run defined steps rest place = absurd (cc)

  pub of_condition : (e : Element) → is_run (part_patterns (part_of e)) ≡ false → keeps_run (part_of e) ≡ true → ElementGiven endpoints block tasks next next was_run was_run e before graphs [] before
  of_condition e h k = λ served number. condition_given served (element_in served e) (ap is_run (same_patterns served e) ∙ h) (same_keeps served e ∙ k) number

  -- where it is an operator
  module _ (e : Element) (ends : keeps_run (part_of e) ≡ false) where
    -- which one it is
    made_by : (served : Served) → (o : Operator) × (element_in served e ≡ operator o)
    made_by served = is_operator (element_in served e) (same_keeps served e ∙ ends)

    pub of_operator : (between later : ℕ) (rows found : List Bindings) (own more : List Sent) → EndGiven endpoints block tasks next between was_run before graphs own rows → OperatorGiven endpoints block tasks between later e rows graphs more found
        → ElementGiven endpoints block tasks next later was_run false e before graphs (own ++ more) found
    of_operator between later rows found own more ended asked = λ served number filters known run defined steps rest place.
        let o = made_by served in
        at_operator endpoints graphs block tasks served filters number known run before defined steps rest next was_run o.0 e between later rows found own more o.1 ended asked place

    pub due_of_run : (own : List Sent) → EndDue endpoints block tasks next was_run before graphs own → ElementDue endpoints block tasks next was_run e before graphs own
    due_of_run own due = λ served number filters known run defined steps rest even place.
        let o = made_by served in
        subst (λ (v : GroupPart). AreSentFrom endpoints graphs block filters number known run defined (with_part v steps) own) (sym o.1)
        (due_at_run endpoints graphs block tasks served filters number known run before defined steps rest next was_run o.0 even (operator_is_even served e o.0 o.1) own due
        (subst (λ (v : GroupPart). IsPlace graphs tasks served next was_run filters number known run before defined (with_part v steps) rest) o.1 place))

    pub due_of_operator : (between : ℕ) (rows : List Bindings) (own more : List Sent) → EndGiven endpoints block tasks next between was_run before graphs own rows → OperatorDue endpoints block tasks between e rows graphs more
        → ElementDue endpoints block tasks next was_run e before graphs (own ++ more)
    due_of_operator between rows own more ended due = λ served number filters known run defined steps rest even place.
        let o = made_by served in
        subst (λ (v : GroupPart). AreSentFrom endpoints graphs block filters number known run defined (with_part v steps) (own ++ more)) (sym o.1)
        (due_at_operator endpoints graphs block tasks served filters number known run before defined steps rest next was_run o.0 even e between rows own more o.1 ended due
        (subst (λ (v : GroupPart). IsPlace graphs tasks served next was_run filters number known run before defined (with_part v steps) rest) o.1 place))

    pub due_of_both : (own more : List Sent) → was_run ≡ true → EndDue endpoints block tasks next was_run before graphs own → ((rows : List Bindings) → OperatorDue endpoints block tasks (next + 1) e rows graphs more)
        → ElementDue endpoints block tasks next was_run e before graphs (own ++ more)
    due_of_both own more has due also_due = λ served number filters known run defined steps rest even place.
        let o = made_by served in
        subst (λ (v : GroupPart). AreSentFrom endpoints graphs block filters number known run defined (with_part v steps) (own ++ more)) (sym o.1)
        (due_at_both endpoints graphs block tasks served filters number known run before defined steps rest next was_run o.0 even e own more o.1 has due also_due
        (subst (λ (v : GroupPart). IsPlace graphs tasks served next was_run filters number known run before defined (with_part v steps) rest) o.1 place))
