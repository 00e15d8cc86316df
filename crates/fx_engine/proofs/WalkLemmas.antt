-- The pass over the elements of a group, one after the other, from its begin to its end.
use Rattle.std.proofs.Common.{◌≡◌, ◌∙◌, ap, sym, subst, refl, ℕ, ◌+◌, ◌<◌, Bool, false, List, [], ◌∷◌, ◌++◌, map, drop, length, get_or, Result, Ok, Err, append_assoc, IsPermutation}
use Rattle.std.proofs.lemmas.List.{drop_more}
use Rattle.std.proofs.lemmas.List.Sorted.{IsPermutation-refl}
use Rattle.fx_terms.specs.declared.triples.Triple.{Triple}
use Rattle.fx_outside.specs.Endpoints.{EndpointParts}
use Rattle.fx_algebra.specs.Graphs.{union}
use Rattle.fx_algebra.specs.Groups.{Meaning, Part as GroupPart, Step, steps_of, stations_of, seeds_of, after, conditions_of, one_empty, with_part}
use Rattle.fx_algebra.specs.Solutions.{Bindings}
use Rattle.fx_algebra.specs.Stations.{Station}
use Rattle.fx_algebra.specs.declared.expressions.Expr.{Expr}
use Rattle.fx_algebra.specs.declared.queries.Element.{Element}
use Rattle.fx_algebra.specs.declared.queries.Group.{Group}
use Rattle.fx_steps.specs.Fewer.{AreFewer}
use Rattle.fx_steps.proofs.FewerLemmas.{fewer_laws}
use Rattle.fx_traffic.specs.Sent.{Sent}
use Rattle.fx_wire.specs.Exchanges.{Seen}
use Rattle.fx_engine.specs.Asked.{Asked}
use Rattle.fx_walks.specs.GroupsAsked.{AreSentFrom, ElementDue, ElementGiven, EndDue, EndGiven, GroupDue, IsNext, IsPlace, IsReached, UnfilteredGiven, all_planned, number_behind, run_joined, run_seeds, run_stations, run_tasks, seeds_in, stations_in, with_run}
use Rattle.fx_walks.specs.Served.{Served, element_in, group_in}
use Rattle.fx_walks.specs.RunsSent.{AreRunsSent}
use Rattle.fx_engine.specs.declared.rows.RowsError.{RowsError}
use Rattle.fx_walks.specs.declared.tasks.Task.{Task}
use Rattle.fx_engine.proofs.AskedLemmas.{AllTell, asked_behind, given_unasked, refused_as}
use Rattle.fx_walks.proofs.ElementLemmas.{group_is}
use Rattle.fx_walks.proofs.EvenLemmas.{elements_are_even, group_is_even}
use Rattle.fx_walks.proofs.RunLemmas.{after_alone, seeds_alone, stations_alone}
use Rattle.fx_walks.proofs.StationLemmas.{no_run_sent, run_planned}

-- the elements from one on
pub from_element : (all : List Element) (i : ℕ) (e : Element) → i < length all → e ≡ get_or all i e → drop i all ≡ e ∷ drop (i + 1) all
from_element all i e below is = drop_more all i e below ∙ ap (λ (d : Element). d ∷ drop (i + 1) all) (sym is)

module _ (endpoints : List EndpointParts) (block : ℕ) (tasks : List Task) (next : ℕ) (g : Group) (all : List Element) (are : all ≡ g.elements) where
  module _ (served : Served) where
    abbrev its_parts : List GroupPart
    its_parts = map (element_in served) all

    abbrev filters : List Expr
    filters = conditions_of its_parts

    abbrev whole : List Step
    whole = steps_of its_parts

    -- the steps of the elements from one on
    abbrev from : List Element → List Step
    from left = steps_of (map (element_in served) left)

  -- what comes of the elements before one of these places
  abbrev pub SoFar : ℕ → Bool → List Element → List (List Triple) → List Sent → List Bindings → Type 0
  SoFar later in_run left graphs wanted rows =
      (served : Served) (number : ℕ) (rest : List Task) → IsNext tasks next graphs served (stations_in served number g) rest
      → (last : ℕ) × IsReached endpoints graphs block tasks served later in_run (filters served) number [] [] one_empty (whole served) rest last (from served left) wanted rows

  module _ (served : Served) (number : ℕ) where
    its_meaning : (group_in served g).cut.stations number [] ≡ stations_of (filters served) number [] (whole served)
    its_meaning =
        ap (λ (m : Meaning). m.cut.stations number []) (group_is served g)
        ∙ ap (λ (es : List Element). stations_of (conditions_of (map (element_in served) es)) number [] (steps_of (map (element_in served) es))) (sym are)

    its_seeds : (graph : List Triple) → (group_in served g).cut.seeds graph number one_empty ≡ seeds_of graph number one_empty (whole served)
    its_seeds graph = ap (λ (m : Meaning). m.cut.seeds graph number one_empty) (group_is served g) ∙ ap (λ (es : List Element). seeds_of graph number one_empty (steps_of (map (element_in served) es))) (sym are)

    its_rows : (graph : List Triple) → (group_in served g).rows graph number ≡ after graph number one_empty (whole served)
    its_rows graph = ap (λ (m : Meaning). m.rows graph number) (group_is served g) ∙ ap (λ (es : List Element). after graph number one_empty (steps_of (map (element_in served) es))) (sym are)

    its_filters : (group_in served g).filters ≡ filters served
    its_filters = ap (λ (m : Meaning). m.filters) (group_is served g) ∙ ap (λ (es : List Element). conditions_of (map (element_in served) es)) (sym are)

    sent_whole : (graphs : List (List Triple)) (wanted : List Sent) → AreSentFrom endpoints graphs block (filters served) number [] [] one_empty (whole served) wanted
        → AreRunsSent endpoints graphs block (stations_in served number g) (seeds_in served number graphs g) wanted
    sent_whole graphs wanted h =
        subst (λ (v : List Station). AreRunsSent endpoints graphs block v (seeds_in served number graphs g) wanted) (sym its_meaning)
        (subst (λ (v : List (List Bindings)). AreRunsSent endpoints graphs block (stations_of (filters served) number [] (whole served)) v wanted) (sym (its_seeds (union graphs))) h)

  -- nothing of a group may be sent
  pub none_due : (graphs : List (List Triple)) → GroupDue endpoints block tasks next g graphs []
  none_due graphs = λ served number rest is.
      no_run_sent endpoints graphs block (stations_in served number g) (seeds_in served number graphs g) (group_is_even served g (union graphs) number number one_empty [])

  -- before its first element
  at_begin : (graphs : List (List Triple)) (rows : List Bindings) → rows ≡ one_empty → SoFar next false all graphs [] rows
  at_begin graphs rows one = λ served number rest is. (
    number,
    record {
      names = [];
      patterns = [];
      solutions = one_empty;
      place = record {
        runs = refl;
        fewer = fewer_laws.none (filters served) rows one_empty (subst (λ (v : List Bindings). IsPermutation v one_empty) (sym one) (IsPermutation-refl one_empty));
        next_is = subst (λ (v : List Station). IsNext tasks next graphs served v rest) (its_meaning served number) is;
      };
      goes_on = λ more k. k;
      comes_out = refl;
    },
  )

  -- behind one more
  module _ (graphs : List (List Triple)) (e : Element) (others left : List Element) (is_left : left ≡ e ∷ others) (between later : ℕ) (was_run in_run : Bool) (before : List Bindings) (own more : List Sent) where
    its_place : (served : Served) (number last : ℕ) (rest : List Task) (a : IsReached endpoints graphs block tasks served between was_run (filters served) number [] [] one_empty (whole served) rest last (from served left) own before)
        → IsPlace graphs tasks served between was_run (filters served) last a.names a.patterns before a.solutions (with_part (element_in served e) (from served others)) rest
    its_place served number last rest a =
        subst (λ (es : List Element). IsPlace graphs tasks served between was_run (filters served) last a.names a.patterns before a.solutions (steps_of (map (element_in served) es)) rest) is_left a.place

    at_next : (rows : List Bindings) → SoFar between was_run left graphs own before → ElementGiven endpoints block tasks between later was_run in_run e before graphs more rows → SoFar later in_run others graphs (own ++ more) rows
    at_next rows so given = λ served number rest is.
        let here = so served number rest is in
        let m = here.0 in
        let a = here.1 in
        let b = given served m (filters served) a.names a.patterns a.solutions (from served others) rest (its_place served number m rest a) in (
          number_behind m (element_in served e),
          record {
            names = b.names;
            patterns = b.patterns;
            solutions = b.solutions;
            place = b.place;
            goes_on = λ most k.
                subst (AreSentFrom endpoints graphs block (filters served) number [] [] one_empty (whole served)) (sym (append_assoc own more most))
                (a.goes_on (more ++ most) (subst (λ (es : List Element). AreSentFrom endpoints graphs block (filters served) m a.names a.patterns a.solutions (steps_of (map (element_in served) es)) (more ++ most)) (sym is_left) (b.goes_on most k)));
            comes_out = b.comes_out ∙ ap (λ (es : List Element). after (union graphs) m a.solutions (with_run a.patterns (steps_of (map (element_in served) es)))) (sym is_left) ∙ a.comes_out;
          },
        )

    due_next : SoFar between was_run left graphs own before → ElementDue endpoints block tasks between was_run e before graphs more → GroupDue endpoints block tasks next g graphs (own ++ more)
    due_next so due = λ served number rest is.
        let here = so served number rest is in
        let m = here.0 in
        let a = here.1 in
        sent_whole served number graphs (own ++ more)
        (a.goes_on more
        (subst (λ (es : List Element). AreSentFrom endpoints graphs block (filters served) m a.names a.patterns a.solutions (steps_of (map (element_in served) es)) more) (sym is_left)
        (due served m (filters served) a.names a.patterns a.solutions (from served others) rest (elements_are_even served others []) (its_place served number m rest a))))

  -- behind the last
  module _ (graphs : List (List Triple)) (left : List Element) (none_left : left ≡ []) (between later : ℕ) (in_run : Bool) (before : List Bindings) (own more : List Sent) where
    module _ (served : Served) (number last : ℕ) (rest : List Task) (a : IsReached endpoints graphs block tasks served between in_run (filters served) number [] [] one_empty (whole served) rest last (from served left) own before) where
      last_next : drop between tasks ≡ run_tasks graphs (filters served) a.names a.patterns ++ rest
      last_next =
          a.place.next_is.next_is
          ∙ ap (λ (es : List Element). all_planned served graphs (stations_of (filters served) last a.names (with_run a.patterns (steps_of (map (element_in served) es)))) ++ rest) none_left
          ∙ ap (λ (v : List Station). all_planned served graphs v ++ rest) (stations_alone last (filters served) a.names a.patterns)
          ∙ ap (λ (v : List Task). v ++ rest) (run_planned served graphs (filters served) a.names a.patterns)

      last_sent : AreRunsSent endpoints graphs block (run_stations (filters served) a.names a.patterns) (run_seeds a.solutions a.patterns) more
          → AreRunsSent endpoints graphs block (stations_in served number g) (seeds_in served number graphs g) (own ++ more)
      last_sent k =
          sent_whole served number graphs (own ++ more)
          (a.goes_on more
          (subst (λ (es : List Element). AreSentFrom endpoints graphs block (filters served) last a.names a.patterns a.solutions (steps_of (map (element_in served) es)) more) (sym none_left)
          (subst (λ (v : List Station). AreRunsSent endpoints graphs block v (seeds_of (union graphs) last a.solutions (with_run a.patterns [])) more) (sym (stations_alone last (filters served) a.names a.patterns))
          (subst (λ (v : List (List Bindings)). AreRunsSent endpoints graphs block (run_stations (filters served) a.names a.patterns) v more) (sym (seeds_alone last (union graphs) a.solutions a.patterns)) k))))

      last_rows : run_joined (union graphs) a.solutions a.patterns ≡ (group_in served g).rows (union graphs) number
      last_rows =
          sym (after_alone last (union graphs) a.solutions a.patterns)
          ∙ ap (λ (es : List Element). after (union graphs) last a.solutions (with_run a.patterns (steps_of (map (element_in served) es)))) (sym none_left)
          ∙ a.comes_out
          ∙ sym (its_rows served number (union graphs))

    at_end : (rows : List Bindings) → SoFar between in_run left graphs own before → EndGiven endpoints block tasks between later in_run before graphs more rows → UnfilteredGiven endpoints block tasks next later g graphs (own ++ more) rows
    at_end rows so given = λ served number rest is.
        let here = so served number rest is in
        let m = here.0 in
        let a = here.1 in
        let b = given a.patterns (filters served) a.names a.solutions rest a.place.runs a.place.fewer (last_next served number m rest a) in (
          record { behind = b.0.behind; sent = last_sent served number m rest a b.0.sent },
          subst (λ (v : List Expr). AreFewer v rows ((group_in served g).rows (union graphs) number)) (sym (its_filters served number)) (subst (AreFewer (filters served) rows) (last_rows served number m rest a) b.1),
        )

    due_end : SoFar between in_run left graphs own before → EndDue endpoints block tasks between in_run before graphs more → GroupDue endpoints block tasks next g graphs (own ++ more)
    due_end so due = λ served number rest is.
        let here = so served number rest is in
        let m = here.0 in
        let a = here.1 in
        last_sent served number m rest a (due a.patterns (filters served) a.names a.solutions rest a.place.runs a.place.fewer (last_next served number m rest a))

  -- ---- what was asked for

  module _ (tells alone : Bool) where
    pub so_far_begun : (wires : List Seen) (rows : List Bindings) → rows ≡ one_empty → Asked tells alone wires wires endpoints tasks block (SoFar next false all) (GroupDue endpoints block tasks next g) (Ok rows)
    so_far_begun wires rows one = given_unasked tells alone endpoints tasks block (SoFar next false all) (GroupDue endpoints block tasks next g) wires rows (λ graphs. at_begin graphs rows one)

    module _ (before between after : List Seen) (a : AllTell tells before) (b : AllTell tells between) (later last : ℕ) (was_run : Bool) (rows : List Bindings) (left : List Element)
        (so : Asked tells alone before between endpoints tasks block (SoFar later was_run left) (GroupDue endpoints block tasks next g) (Ok rows)) where
      so_far_next : (in_run : Bool) (e : Element) (others : List Element) → left ≡ e ∷ others → (r : Result (List Bindings) RowsError)
          → Asked tells alone between after endpoints tasks block (ElementGiven endpoints block tasks later last was_run in_run e rows) (ElementDue endpoints block tasks later was_run e rows) r
          → Asked tells alone before after endpoints tasks block (SoFar last in_run others) (GroupDue endpoints block tasks next g) r
      so_far_next in_run e others is r h =
          asked_behind tells alone endpoints tasks block before between after a b (SoFar later was_run left) (GroupDue endpoints block tasks next g) (ElementGiven endpoints block tasks later last was_run in_run e rows) (ElementDue endpoints block tasks later was_run e rows)
          (SoFar last in_run others) (GroupDue endpoints block tasks next g) rows r
          (λ graphs own more y s k. at_next graphs e others left is later last was_run in_run rows own more y s k)
          (λ graphs own more s k. due_next graphs e others left is later last was_run in_run rows own more s k) so h

      pub so_far_more : (in_run : Bool) (e : Element) (others : List Element) → left ≡ e ∷ others → (found : List Bindings)
          → Asked tells alone between after endpoints tasks block (ElementGiven endpoints block tasks later last was_run in_run e rows) (ElementDue endpoints block tasks later was_run e rows) (Ok found)
          → Asked tells alone before after endpoints tasks block (SoFar last in_run others) (GroupDue endpoints block tasks next g) (Ok found)
      so_far_more in_run e others is found h = so_far_next in_run e others is (Ok found) h

      pub so_far_refused : (in_run : Bool) (e : Element) (others : List Element) → left ≡ e ∷ others → (why : RowsError)
          → Asked {X = List Bindings} tells alone between after endpoints tasks block (ElementGiven endpoints block tasks later last was_run in_run e rows) (ElementDue endpoints block tasks later was_run e rows) (Err why)
          → Asked {X = List Bindings} tells alone before after endpoints tasks block (UnfilteredGiven endpoints block tasks next last g) (GroupDue endpoints block tasks next g) (Err why)
      so_far_refused in_run e others is why h =
          refused_as tells alone endpoints tasks block before after (SoFar last in_run others) (GroupDue endpoints block tasks next g) (UnfilteredGiven endpoints block tasks next last g) (GroupDue endpoints block tasks next g) why (λ graphs wanted due. due)
          (so_far_next in_run e others is (Err why) h)

      pub so_far_ended : left ≡ [] → (r : Result (List Bindings) RowsError)
          → Asked tells alone between after endpoints tasks block (EndGiven endpoints block tasks later last was_run rows) (EndDue endpoints block tasks later was_run rows) r
          → Asked tells alone before after endpoints tasks block (UnfilteredGiven endpoints block tasks next last g) (GroupDue endpoints block tasks next g) r
      so_far_ended is r h =
          asked_behind tells alone endpoints tasks block before between after a b (SoFar later was_run left) (GroupDue endpoints block tasks next g) (EndGiven endpoints block tasks later last was_run rows) (EndDue endpoints block tasks later was_run rows)
          (UnfilteredGiven endpoints block tasks next last g) (GroupDue endpoints block tasks next g) rows r
          (λ graphs own more y s k. at_end graphs left is later last was_run rows own more y s k)
          (λ graphs own more s k. due_end graphs left is later last was_run rows own more s k) so h
