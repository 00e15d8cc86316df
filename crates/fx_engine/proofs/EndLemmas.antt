-- A run that ends, and an OPTIONAL whose group is one run: what was asked for, from what was asked for the run.
use Rattle.std.proofs.Common.{◌≡◌, sym, subst, refl, ℕ, Bool, true, false, List, [], ◌∷◌, ◌++◌, drop, IfErr, IfOk, Result, Ok, Err, IsPermutation, IsTrue, All}
use Rattle.std.proofs.lemmas.List.Sorted.{IsPermutation-sym}
use Rattle.std.specs.declared.alloc.Global.{Global}
use Rattle.std.specs.declared.vec.Vec.{Vec}
use Rattle.fx_terms.specs.declared.triples.Triple.{Triple}
use Rattle.fx_terms.specs.declared.patterns.Pattern.{Pattern}
use Rattle.fx_outside.specs.Endpoints.{EndpointParts}
use Rattle.fx_algebra.specs.Graphs.{union}
use Rattle.fx_algebra.specs.Groups.{one_empty}
use Rattle.fx_algebra.specs.Operators.{left_join}
use Rattle.fx_algebra.specs.Scopes.{once}
use Rattle.fx_algebra.specs.Solutions.{Bindings, rises}
use Rattle.fx_algebra.specs.declared.expressions.Expr.{Expr}
use Rattle.fx_algebra.specs.declared.queries.Element.TheVariants.{Optional}
use Rattle.fx_algebra.specs.declared.queries.Group.{Group}
use Rattle.fx_algebra.specs.declared.units.Row.{Row}
use Rattle.fx_flows.specs.declared.flows.FlowError.TheVariants as flow
use Rattle.fx_steps.specs.Optionals.{optional_rows}
use Rattle.fx_steps.specs.Steps.{solutions_of}
use Rattle.fx_traffic.specs.Sent.{Sent}
use Rattle.fx_wire.specs.Exchanges.{Seen}
use Rattle.fx_engine.specs.Asked.{Asked}
use Rattle.fx_walks.specs.GroupsAsked.{AreAskedFor, EndDue, EndGiven, OperatorDue, OperatorGiven, RunDue, RunGiven, is_run, own_patterns, run_joined, run_seeds, run_stations, run_tasks}
use Rattle.fx_engine.specs.RowsAsked.{solutions_in}
use Rattle.fx_walks.specs.RunsSent.{AreRunsSent}
use Rattle.fx_walks.specs.SectionSteps.{group_of}
use Rattle.fx_engine.specs.declared.rows.RowsError.{RowsError}
use Rattle.fx_engine.specs.declared.rows.RowsError.TheVariants as rows_error
use Rattle.fx_walks.specs.declared.tasks.Task.{Task}
use Rattle.fx_engine.proofs.AskedLemmas.{given_unasked, made_of, made_unasked, refused_as}
use Rattle.fx_walks.proofs.ElementLemmas.{due_run, of_run}
use Rattle.fx_walks.proofs.RunRowsLemmas.{joined_so, optional_so, run_itself}

module _ (tells alone : Bool) (endpoints : List EndpointParts) (block : ℕ) (tasks : List Task) (next : ℕ) (before : List Bindings) where
  -- ---- the end of a run

  -- there is none
  ended_none : (graphs : List (List Triple)) → EndGiven endpoints block tasks next next false before graphs [] before
  ended_none graphs [] filters known defined rest runs fewer is = (record { behind = is; sent = refl }, fewer)
  ended_none graphs (p ∷ ps) filters known defined rest runs fewer is = absurd (cc)

  pub no_run_ends : (wires : List Seen) (in_run : Bool) → in_run ≡ false → Asked tells alone wires wires endpoints tasks block (EndGiven endpoints block tasks next next in_run before) (EndDue endpoints block tasks next in_run before) (Ok before)
  no_run_ends wires in_run none =
      subst (λ (b : Bool). Asked tells alone wires wires endpoints tasks block (EndGiven endpoints block tasks next next b before) (EndDue endpoints block tasks next b before) (Ok before)) (sym none)
      (given_unasked tells alone endpoints tasks block (EndGiven endpoints block tasks next next false before) (EndDue endpoints block tasks next false before) wires before ended_none)

  module _ (later : ℕ) (up : All (λ s. IsTrue (rises s)) before) where
    pub ended_run : (graphs : List (List Triple)) (wanted : List Sent) (found : List Row) → RunGiven endpoints block tasks next later before graphs wanted found → EndGiven endpoints block tasks next later true before graphs wanted (solutions_of found)
    ended_run graphs wanted found h [] filters known defined rest runs fewer is = absurd (cc)
    ended_run graphs wanted found h (p ∷ ps) filters known defined rest runs fewer is =
        let k = h (p ∷ ps) filters (once known) fewer.gone defined rest fewer.rows_are is in
        (k.0, joined_so graphs (p ∷ ps) filters (once known) before up found defined k.1 fewer)

  pub ended_due : (graphs : List (List Triple)) (wanted : List Sent) → RunDue endpoints block tasks next before graphs wanted → EndDue endpoints block tasks next true before graphs wanted
  ended_due graphs wanted h [] filters known defined rest runs fewer is = absurd (cc)
  ended_due graphs wanted h (p ∷ ps) filters known defined rest runs fewer is = h (p ∷ ps) filters (once known) fewer.gone defined rest fewer.rows_are is

  given_due : (later : ℕ) (graphs : List (List Triple)) (wanted : List Sent) (found : List Row) → RunGiven endpoints block tasks next later before graphs wanted found → RunDue endpoints block tasks next before graphs wanted
  given_due later graphs wanted found h ps filters known gone defined rest moved is = (h ps filters known gone defined rest moved is).0.sent

  pub run_ends : (before_wires after_wires : List Seen) (later : ℕ) (in_run : Bool) → in_run ≡ true → All (λ s. IsTrue (rises s)) before → (found : List Row) (r : Result (Vec Bindings Global) RowsError)
      → IfOk r (λ rows. rows.items ≡ solutions_of found) → IfErr r (λ e. e ≡ rows_error.Flow flow.Memory)
      → Asked tells alone before_wires after_wires endpoints tasks block (RunGiven endpoints block tasks next later before) (RunDue endpoints block tasks next before) (Ok found)
      → Asked tells alone before_wires after_wires endpoints tasks block (EndGiven endpoints block tasks next later in_run before) (EndDue endpoints block tasks next in_run before) (solutions_in r)
  run_ends s t later in_run is up found r given memory h =
      subst (λ (b : Bool). Asked tells alone s t endpoints tasks block (EndGiven endpoints block tasks next later b before) (EndDue endpoints block tasks next b before) (solutions_in r)) (sym is)
      (made_of tells alone endpoints tasks block (RunGiven endpoints block tasks next later before) (RunDue endpoints block tasks next before) (EndGiven endpoints block tasks next later true before) (EndDue endpoints block tasks next true before)
      (λ rows. rows ≡ solutions_of found) s t found r given memory
      (λ graphs wanted rows k e. subst (EndGiven endpoints block tasks next later true before graphs wanted) (sym e) (ended_run later up graphs wanted found k))
      (λ graphs wanted k. ended_due graphs wanted (given_due later graphs wanted found k)) h)

  pub run_refused : (s t : List Seen) (later : ℕ) (in_run : Bool) → in_run ≡ true → (why : RowsError)
      → Asked {X = List Row} tells alone s t endpoints tasks block (RunGiven endpoints block tasks next later before) (RunDue endpoints block tasks next before) (Err why)
      → Asked {X = List Bindings} tells alone s t endpoints tasks block (EndGiven endpoints block tasks next later in_run before) (EndDue endpoints block tasks next in_run before) (Err why)
  run_refused s t later in_run is why h =
      subst (λ (b : Bool). Asked {X = List Bindings} tells alone s t endpoints tasks block (EndGiven endpoints block tasks next later b before) (EndDue endpoints block tasks next b before) (Err why)) (sym is)
      (refused_as tells alone endpoints tasks block s t (RunGiven endpoints block tasks next later before) (RunDue endpoints block tasks next before) (EndGiven endpoints block tasks next later true before) (EndDue endpoints block tasks next true before) why ended_due h)

  -- ---- an OPTIONAL whose group is one run

  module _ (g : Group) (simple : (group_of g).is_simple ≡ true) where
    -- it has a pattern
    due_of_run : is_run (own_patterns g) ≡ true → (graphs : List (List Triple)) (wanted : List Sent) → RunDue endpoints block tasks next before graphs wanted → OperatorDue endpoints block tasks next (Optional g) before graphs wanted
    due_of_run has graphs wanted h =
        due_run g simple endpoints block tasks next graphs before wanted (λ known defined rest filters fewer is. by (own_patterns g) has known defined rest (group_of g).filters fewer.gone fewer.rows_are is)
      where
        by : (ps : List Pattern) → is_run ps ≡ true → (known : List (List ℕ)) (defined : List Bindings) (rest : List Task) (filters : List Expr) (gone : List Bindings) → IsPermutation (before ++ gone) defined → drop next tasks ≡ run_tasks graphs filters known ps ++ rest
            → AreRunsSent endpoints graphs block (run_stations filters known ps) (run_seeds defined ps) wanted
        by [] e known defined rest filters gone moved is = absurd (cc)
        by (p ∷ ps) e known defined rest filters gone moved is = h (p ∷ ps) filters (once known) gone defined rest moved is

    of_run_found : is_run (own_patterns g) ≡ true → (later : ℕ) → All (λ s. IsTrue (rises s)) before → (graphs : List (List Triple)) (wanted : List Sent) (found : List Row) → RunGiven endpoints block tasks next later before graphs wanted found
        → OperatorGiven endpoints block tasks next later (Optional g) before graphs wanted (optional_rows (group_of g).filters 0 before found)
    of_run_found has later up graphs wanted found h =
        of_run g simple endpoints block tasks next later graphs before (optional_rows (group_of g).filters 0 before found) wanted
        (λ known defined rest filters fewer is. by (own_patterns g) has known defined rest (group_of g).filters fewer.gone fewer.rows_are is)
      where
        by : (ps : List Pattern) → is_run ps ≡ true → (known : List (List ℕ)) (defined : List Bindings) (rest : List Task) (filters : List Expr) (gone : List Bindings) → IsPermutation (before ++ gone) defined → drop next tasks ≡ run_tasks graphs filters known ps ++ rest
            → AreAskedFor endpoints graphs block tasks later rest (run_stations filters known ps) (run_seeds defined ps) wanted × IsPermutation (optional_rows filters 0 before found) (left_join before (run_joined (union graphs) one_empty ps) filters)
        by [] e known defined rest filters gone moved is = absurd (cc)
        by (p ∷ ps) e known defined rest filters gone moved is =
            let k = h (p ∷ ps) filters (once known) gone defined rest moved is in (
              k.0,
              subst (λ (v : List Bindings). IsPermutation (optional_rows filters 0 before found) (left_join before v filters)) (sym (run_itself (union graphs) p ps))
                  (optional_so graphs (p ∷ ps) filters (once known) before up found k.1),
            )

    pub optional_asked : (s t : List Seen) (later : ℕ) → is_run (own_patterns g) ≡ true → All (λ s. IsTrue (rises s)) before → (found : List Row) (r : Result (Vec Bindings Global) RowsError)
        → IfOk r (λ rows. rows.items ≡ optional_rows (group_of g).filters 0 before found) → IfErr r (λ e. e ≡ rows_error.Flow flow.Memory)
        → Asked tells alone s t endpoints tasks block (RunGiven endpoints block tasks next later before) (RunDue endpoints block tasks next before) (Ok found)
        → Asked tells alone s t endpoints tasks block (OperatorGiven endpoints block tasks next later (Optional g) before) (OperatorDue endpoints block tasks next (Optional g) before) (solutions_in r)
    optional_asked s t later has up found r given memory h =
        made_of tells alone endpoints tasks block (RunGiven endpoints block tasks next later before) (RunDue endpoints block tasks next before) (OperatorGiven endpoints block tasks next later (Optional g) before) (OperatorDue endpoints block tasks next (Optional g) before)
        (λ rows. rows ≡ optional_rows (group_of g).filters 0 before found) s t found r given memory
        (λ graphs wanted rows k e. subst (OperatorGiven endpoints block tasks next later (Optional g) before graphs wanted) (sym e) (of_run_found has later up graphs wanted found k))
        (λ graphs wanted k. due_of_run has graphs wanted (given_due later graphs wanted found k)) h

    pub optional_refused : (s t : List Seen) (later : ℕ) → is_run (own_patterns g) ≡ true → (why : RowsError)
        → Asked {X = List Row} tells alone s t endpoints tasks block (RunGiven endpoints block tasks next later before) (RunDue endpoints block tasks next before) (Err why)
        → Asked {X = List Bindings} tells alone s t endpoints tasks block (OperatorGiven endpoints block tasks next later (Optional g) before) (OperatorDue endpoints block tasks next (Optional g) before) (Err why)
    optional_refused s t later has why h =
        refused_as tells alone endpoints tasks block s t (RunGiven endpoints block tasks next later before) (RunDue endpoints block tasks next before) (OperatorGiven endpoints block tasks next later (Optional g) before) (OperatorDue endpoints block tasks next (Optional g) before) why
        (due_of_run has) h

    -- it has none
    no_run_due : is_run (own_patterns g) ≡ false → (graphs : List (List Triple)) → OperatorDue endpoints block tasks next (Optional g) before graphs []
    no_run_due none graphs = due_run g simple endpoints block tasks next graphs before [] (λ known defined rest filters fewer is. by (own_patterns g) none known defined (group_of g).filters)
      where
        by : (ps : List Pattern) → is_run ps ≡ false → (known : List (List ℕ)) (defined : List Bindings) (filters : List Expr) → AreRunsSent endpoints graphs block (run_stations filters known ps) (run_seeds defined ps) []
        by [] e known defined filters = refl
        by (p ∷ ps) e known defined filters = absurd (cc)

    no_run_found : is_run (own_patterns g) ≡ false → (graphs : List (List Triple)) (rows : List Bindings) → IsPermutation (left_join before one_empty (group_of g).filters) rows → OperatorGiven endpoints block tasks next next (Optional g) before graphs [] rows
    no_run_found none graphs rows p =
        of_run g simple endpoints block tasks next next graphs before rows [] (λ known defined rest filters fewer is. by (own_patterns g) none known defined rest (group_of g).filters p is)
      where
        by : (ps : List Pattern) → is_run ps ≡ false → (known : List (List ℕ)) (defined : List Bindings) (rest : List Task) (filters : List Expr) → IsPermutation (left_join before one_empty filters) rows → drop next tasks ≡ run_tasks graphs filters known ps ++ rest
            → AreAskedFor endpoints graphs block tasks next rest (run_stations filters known ps) (run_seeds defined ps) [] × IsPermutation rows (left_join before (run_joined (union graphs) one_empty ps) filters)
        by [] e known defined rest filters q is = (record { behind = is; sent = refl }, IsPermutation-sym (left_join before one_empty filters) rows q)
        by (x ∷ ps) e known defined rest filters q is = absurd (cc)

    pub optional_unasked : (wires : List Seen) → is_run (own_patterns g) ≡ false → (r : Result (Vec Bindings Global) RowsError)
        → IfOk r (λ rows. IsPermutation (left_join before one_empty (group_of g).filters) rows.items) → IfErr r (λ e. e ≡ rows_error.Flow flow.Memory)
        → Asked tells alone wires wires endpoints tasks block (OperatorGiven endpoints block tasks next next (Optional g) before) (OperatorDue endpoints block tasks next (Optional g) before) (solutions_in r)
    optional_unasked wires none r given memory =
        made_unasked tells alone endpoints tasks block (OperatorGiven endpoints block tasks next next (Optional g) before) (OperatorDue endpoints block tasks next (Optional g) before)
        (λ rows. IsPermutation (left_join before one_empty (group_of g).filters) rows) wires r given memory (no_run_found none) (no_run_due none)
