-- An occurrence of SERVICE in a group: its rows, its text, and the rows behind it, from its task.
use Rattle.std.proofs.Common.{◌≡◌, ◌∙◌, ap, sym, subst, refl, ◌⊎◌, ℕ, suc, ◌+◌, Bool, true, false, cond, List, [], ◌∷◌, append-nil, drop, drop_of_length-le, length, ◌≤◌, IsPermutation, Option, None, Some, IfSome, IfOk, IfErr, Result, Ok, Err}
use Rattle.std.proofs.lemmas.List.Elements.{All-head}
use Rattle.std.proofs.lemmas.List.Sorted.{IsPermutation-refl, IsPermutation-sym, IsPermutation-trans}
use Rattle.std.specs.declared.alloc.Global.{Global}
use Rattle.std.specs.declared.vec.Vec.{Vec}
use Rattle.fx_terms.specs.declared.triples.Triple.{Triple}
use Rattle.fx_outside.specs.Endpoints.{EndpointParts}
use Rattle.fx_algebra.specs.Groups.{group_rows, is_down, one_empty, service_rows}
use Rattle.fx_algebra.specs.Operators.{join}
use Rattle.fx_algebra.specs.Solutions.{Bindings}
use Rattle.fx_algebra.specs.Stations as station
use Rattle.fx_algebra.specs.declared.queries.Element.{Element-F}
use Rattle.fx_algebra.specs.declared.queries.Element.TheVariants.{Service, rolls-Service}
use Rattle.fx_algebra.specs.declared.queries.Group.{Group}
use Rattle.fx_algebra.specs.declared.units.Unit as unit
use Rattle.fx_algebra.proofs.CutLemmas.{has_the_tree}
use Rattle.fx_algebra.proofs.JoinLemmas.{same_join}
use Rattle.fx_traffic.specs.Sent.{Sent}
use Rattle.fx_traffic.specs.Traffic.{AreStationsSent, IsServiceSent}
use Rattle.fx_wire.specs.Exchanges.{Seen}
use Rattle.fx_flows.specs.declared.flows.FlowError.{FlowError}
use Rattle.fx_flows.specs.declared.flows.FlowError.TheVariants as flow
use Rattle.fx_engine.specs.Asked.{Asked, HasRowsCause}
use Rattle.fx_walks.specs.GroupsAsked.{AreAskedFor, HasRows, IsNext, OperatorDue, OperatorGiven, service_task}
use Rattle.fx_engine.specs.RowsAsked.{IsBehindService, IsJoined, solutions_in}
use Rattle.fx_walks.proofs.FrontLemmas.{first_is}
use Rattle.fx_walks.specs.Served.{Served, element_in, group_in}
use Rattle.fx_services.specs.ServicesAsked.{AreRowsOver}
use Rattle.fx_engine.specs.declared.rows.RowsError.{RowsError}
use Rattle.fx_engine.specs.declared.rows.RowsError.TheVariants as rows_error
use Rattle.fx_walks.specs.declared.tasks.Task.{Task}
use Rattle.fx_walks.specs.declared.tasks.Task.TheVariants as task
use Rattle.fx_engine.proofs.AskedLemmas.{given_unasked, refused_unasked}
use Rattle.fx_walks.proofs.ElementLemmas.{by_part, due_by, level, rolled}

pub part_service : (served : Served) (silent : Bool) (iri : List ℕ) (g : Group) → element_in served (Service silent iri g) ≡ level served (Element-F.Service silent iri (group_in served g))
part_service served silent iri g = ap (element_in served) (sym (rolls-Service silent iri g)) ∙ rolled served (Element-F.Service silent iri g)

-- ---- its rows

module _ (served : Served) (number : ℕ) (iri : List ℕ) (g : Group) where
  abbrev rows : List Bindings
  rows = service_rows served.graphs served.down iri (group_in served g) number

  -- where it isn't down they are those over the graph at its IRI
  pub rows_answered : (graph : List Triple) (found : List Bindings) → is_down served.down number ≡ false → served.graphs iri ≡ graph → AreRowsOver graph g found → IsPermutation found rows
  rows_answered graph found up same over =
      subst (λ (b : Bool). IsPermutation found (cond b one_empty (group_rows (group_in served g) (served.graphs iri) (suc number)))) (sym up)
      (subst (λ (v : List Triple). IsPermutation found (group_rows (group_in served g) v (suc number))) (sym same) (over served.graphs served.down (suc number)))

  -- where it is, the one empty solution
  pub rows_down : (found : List Bindings) → is_down served.down number ≡ true → found ≡ one_empty → IsPermutation found rows
  rows_down found down one =
      subst (λ (b : Bool). IsPermutation found (cond b one_empty (group_rows (group_in served g) (served.graphs iri) (suc number)))) (sym down)
      (subst (λ (v : List Bindings). IsPermutation v one_empty) (sym one) (IsPermutation-refl one_empty))

-- ---- its text

module _ (endpoints : List EndpointParts) (graphs : List (List Triple)) (block : ℕ) (number : ℕ) (silent : Bool) (iri : List ℕ) (g tree : Group) (same : tree ≡ g) (wanted : List Sent) (text : (wanted ≡ []) ⊎ IsServiceSent endpoints iri g wanted) where
  pub service_sent : AreStationsSent endpoints graphs block (station.service number silent iri tree ∷ []) (one_empty ∷ []) wanted
  service_sent = (wanted, [], sym (append-nil wanted), subst (λ (v : Group). (wanted ≡ []) ⊎ IsServiceSent endpoints iri v wanted) (sym same) text, refl)

-- ---- its task

module _ (tasks : List Task) (next : ℕ) (before : List Bindings) where
  -- there is none
  pub nothing_there : (rows : List Bindings) → length tasks ≤ next → IsJoined tasks next next before rows
  nothing_there rows over = record { joined = λ found rest is. absurd (none (task.Service found) rest is); unrefused = λ rest is. none task.Refused rest is }
    where
      none : (t : Task) (rest : List Task) → drop next tasks ≡ t ∷ rest → ⊥
      none t rest is = let empty : [] ≡ t ∷ rest = sym (drop_of_length-le tasks over) ∙ is in cc

  module _ (it : Task) (next_is : drop next tasks ≡ it ∷ drop (next + 1) tasks) where
    first : (t : Task) (rest : List Task) → drop next tasks ≡ t ∷ rest → (it ≡ t) × (drop (next + 1) tasks ≡ rest)
    first t rest is = first_is it t (drop (next + 1) tasks) rest (sym next_is ∙ is)

    -- it is that of a run
    pub run_there : (units : List unit.Unit) (rows : List Bindings) → it ≡ task.Run units → IsJoined tasks next (next + 1) before rows
    run_there units rows run = record {
      joined = λ found rest is. let same : task.Run units ≡ task.Service found = sym run ∙ (first (task.Service found) rest is).0 in absurd (cc);
      unrefused = λ rest is. let same : task.Run units ≡ task.Refused = sym run ∙ (first task.Refused rest is).0 in cc;
    }

    pub empty_run_there : (rows : List Bindings) → it ≡ task.EmptyRun → IsJoined tasks next (next + 1) before rows
    empty_run_there rows run = record {
      joined = λ found rest is. let same : task.EmptyRun ≡ task.Service found = sym run ∙ (first (task.Service found) rest is).0 in absurd (cc);
      unrefused = λ rest is. let same : task.EmptyRun ≡ task.Refused = sym run ∙ (first task.Refused rest is).0 in cc;
    }

    -- it has rows
    pub rows_there : (own : List Bindings) → it ≡ task.Service own → (r : Result (Vec Bindings Global) RowsError) → IfOk r (λ rows. IsPermutation (join before own) rows.items) → IfErr r (λ e. e ≡ rows_error.Flow flow.Memory)
        → IsBehindService tasks next (next + 1) before (solutions_in r)
    rows_there own service (Ok all) given memory = record {
      joined = λ found rest is.
          let k = first (task.Service found) rest is in
          let same : task.Service own ≡ task.Service found = sym service ∙ k.0 in
          let rows_are : own ≡ found = cc in
          (k.1, subst (λ (v : List Bindings). IsPermutation (join before v) all.items) rows_are given);
      unrefused = λ rest is. let same : task.Service own ≡ task.Refused = sym service ∙ (first task.Refused rest is).0 in cc;
    }
    rows_there own service (Err e) given memory = subst (λ (v : RowsError). IsBehindService tasks next (next + 1) before (Err v)) (sym memory) refl

-- ---- what it is to its group

module _ (endpoints : List EndpointParts) (block : ℕ) (tasks : List Task) (next later : ℕ) (before : List Bindings) (silent : Bool) (iri : List ℕ) (g : Group) where
  -- its rows at hand were joined
  module _ (graphs : List (List Triple)) (rows : List Bindings) (h : IsJoined tasks next later before rows) (served : Served) (number : ℕ) (tree : Group) (same : tree ≡ g) (rest : List Task) where
    abbrev its_rows : Group → List Bindings
    its_rows t = service_rows served.graphs served.down iri (group_in served t) number

    abbrev Wanted : Type 0
    Wanted = AreAskedFor endpoints graphs block tasks later rest (station.service number silent iri tree ∷ []) (one_empty ∷ []) [] × IsPermutation rows (join before (its_rows g))

    by_task : (o : Option (List Bindings)) → drop next tasks ≡ service_task o ∷ rest → IfSome o (λ found. IsPermutation found (its_rows tree)) → Wanted
    by_task None is right = absurd (h.unrefused rest is)
    by_task (Some found) is right =
        let k = h.joined found rest is in (
          record { behind = k.0; sent = ([], [], refl, refl, refl) },
          IsPermutation-trans rows (join before found) (join before (its_rows g)) (IsPermutation-sym (join before found) rows k.1)
              (same_join before before found (its_rows g) (IsPermutation-refl before) (subst (λ (t : Group). IsPermutation found (its_rows t)) same right)),
        )

    joined_so : IsNext tasks next graphs served (station.service number silent iri tree ∷ []) rest → Wanted
    joined_so is = by_task (served.rows number) is.next_is (All-head (HasRows served) (station.service number silent iri tree) [] is.right)

  of_service : (graphs : List (List Triple)) (rows : List Bindings) → IsJoined tasks next later before rows → OperatorGiven endpoints block tasks next later (Service silent iri g) before graphs [] rows
  of_service graphs rows h = λ served number.
      by_part endpoints block tasks next later graphs before rows [] served number (Service silent iri g) _ (part_service served silent iri g)
      (λ filters known defined rest fewer next_is. joined_so graphs rows h served number (group_in served g).tree (has_the_tree g served.graphs served.down) rest next_is)

  due_service : (graphs : List (List Triple)) → OperatorDue endpoints block tasks next (Service silent iri g) before graphs []
  due_service graphs = λ served number.
      due_by endpoints block tasks next graphs before [] served number (Service silent iri g) _ (part_service served silent iri g) (λ filters known defined rest fewer next_is. ([], [], refl, refl, refl))

  -- nothing is asked for
  pub service_behind : (tells alone : Bool) (wires : List Seen) (r : Result (List Bindings) RowsError) → IsBehindService tasks next later before r
      → Asked tells alone wires wires endpoints tasks block (OperatorGiven endpoints block tasks next later (Service silent iri g) before) (OperatorDue endpoints block tasks next (Service silent iri g) before) r
  service_behind tells alone wires (Ok found) h =
      given_unasked tells alone endpoints tasks block (OperatorGiven endpoints block tasks next later (Service silent iri g) before) (OperatorDue endpoints block tasks next (Service silent iri g) before) wires found (λ graphs. of_service graphs found h)
  service_behind tells alone wires (Err (rows_error.Flow e)) h =
      refused_unasked tells alone endpoints tasks block (OperatorGiven endpoints block tasks next later (Service silent iri g) before) (OperatorDue endpoints block tasks next (Service silent iri g) before) wires (rows_error.Flow e)
      (subst (λ (v : FlowError). HasRowsCause wires wires endpoints tasks block [] [] (rows_error.Flow v)) (sym h) tt) due_service
  service_behind tells alone wires (Err rows_error.Refused) h =
      refused_unasked tells alone endpoints tasks block (OperatorGiven endpoints block tasks next later (Service silent iri g) before) (OperatorDue endpoints block tasks next (Service silent iri g) before) wires rows_error.Refused h due_service
