-- What each operator of a group has for requests, and the rows behind it, from what its groups gave.
use Rattle.std.proofs.Common.{◌≡◌, ◌∙◌, ap, sym, subst, refl, ℕ, Bool, true, false, List, [], ◌∷◌, ◌++◌, map, drop, IsPermutation}
use Rattle.std.specs.List.{flat_map, list_all}
use Rattle.std.proofs.lemmas.List.Sorted.{IsPermutation-refl, IsPermutation-sym, IsPermutation-trans}
use Rattle.fx_terms.specs.declared.triples.Triple.{Triple}
use Rattle.fx_terms.specs.declared.patterns.Pattern.{Pattern}
use Rattle.fx_outside.specs.Endpoints.{EndpointParts}
use Rattle.fx_algebra.specs.Graphs.{union}
use Rattle.fx_algebra.specs.Groups.{Operator, Meaning, Part as GroupPart, pattern, condition, operator, with_pattern, steps_of, stations_of, seeds_of, after, conditions_of, keeps_run, element_meaning, group_meaning, group_rows, alternatives, one_empty, names_before, rows_before}
use Rattle.fx_algebra.specs.Operators.{extend, inline_rows, join, left_join, minus}
use Rattle.fx_algebra.specs.Solutions.{Bindings}
use Rattle.fx_algebra.specs.Stations.{Station}
use Rattle.fx_algebra.specs.declared.expressions.Expr.{Expr}
use Rattle.fx_algebra.specs.declared.queries.Element.{Element, Element-F, map-Element, fold-roll-Element, roll-Element}
use Rattle.fx_algebra.specs.declared.queries.Element.TheVariants.{Triple as Triple-E, Filter, Optional, Union, Minus, Bind, Values, rolls-Triple, rolls-Filter, rolls-Optional, rolls-Union, rolls-Minus, rolls-Bind, rolls-Values}
use Rattle.fx_algebra.specs.declared.queries.Group.{Group, fold_out-Group}
use Rattle.fx_algebra.specs.declared.queries.Inline.{Inline}
use Rattle.fx_algebra.proofs.JoinLemmas.{same_join}
use Rattle.fx_algebra.proofs.OperatorLemmas.{minus_moves}
use Rattle.fx_steps.specs.Fewer.{AreFewer}
use Rattle.fx_steps.proofs.FewerLemmas.{fewer_laws}
use Rattle.fx_traffic.specs.Sent.{Sent}
use Rattle.fx_walks.specs.GroupsAsked.{AlternativesDue, AlternativesGiven, AreAskedFor, GroupDue, GroupGiven, IsNext, OperatorDue, OperatorGiven, UnfilteredGiven, operator_rows, operator_seeds, operator_stations, own_patterns, run_joined, run_seeds, run_stations, run_tasks, with_run}
use Rattle.fx_walks.specs.Served.{Served, element_in, group_in}
use Rattle.fx_walks.specs.RunsSent.{AreRunsSent}
use Rattle.fx_walks.specs.SectionSteps.{group_of, part_filters, part_of, part_patterns}
use Rattle.fx_walks.specs.declared.tasks.Task.{Task}
use Rattle.fx_walks.proofs.SectionLemmas.{filters_are, meaning_is}
use Rattle.fx_walks.proofs.ServedLemmas.{same_filters, same_keeps, same_own, same_simple}
use Rattle.fx_walks.proofs.RunLemmas.{after_alone, seeds_alone, stations_alone}
use Rattle.fx_walks.proofs.StationLemmas.{run_planned}

-- ---- what elements and groups are

module _ (served : Served) where
  pub rolled : (x : Element-F Element Group) → element_in served (roll-Element x) ≡ element_meaning served.graphs served.down (map-Element Element Group GroupPart Meaning (element_in served) (group_in served) x)
  rolled x = fold-roll-Element GroupPart Meaning (element_meaning served.graphs served.down) group_meaning x

  pub part_triple : (p : Pattern) → element_in served (Triple-E p) ≡ pattern p
  part_triple p = ap (element_in served) (sym (rolls-Triple p)) ∙ rolled (Element-F.Triple p)

  pub part_filter : (e : Expr) → element_in served (Filter e) ≡ condition e
  part_filter e = ap (element_in served) (sym (rolls-Filter e)) ∙ rolled (Element-F.Filter e)

  -- the operator of one level, with what its groups are
  abbrev pub level : Element-F GroupPart Meaning → GroupPart
  level = element_meaning served.graphs served.down

  pub part_optional : (g : Group) → element_in served (Optional g) ≡ level (Element-F.Optional (group_in served g))
  part_optional g = ap (element_in served) (sym (rolls-Optional g)) ∙ rolled (Element-F.Optional g)

  pub part_union : (gs : List Group) → element_in served (Union gs) ≡ level (Element-F.Union (map (group_in served) gs))
  part_union gs = ap (element_in served) (sym (rolls-Union gs)) ∙ rolled (Element-F.Union gs)

  pub part_minus : (g : Group) → element_in served (Minus g) ≡ level (Element-F.Minus (group_in served g))
  part_minus g = ap (element_in served) (sym (rolls-Minus g)) ∙ rolled (Element-F.Minus g)

  pub part_bind : (e : Expr) (name : List ℕ) → element_in served (Bind e name) ≡ level (Element-F.Bind e name)
  part_bind e name = ap (element_in served) (sym (rolls-Bind e name)) ∙ rolled (Element-F.Bind e name)

  pub part_values : (inline : Inline) → element_in served (Values inline) ≡ level (Element-F.Values inline)
  part_values inline = ap (element_in served) (sym (rolls-Values inline)) ∙ rolled (Element-F.Values inline)

  pub group_is : (g : Group) → group_in served g ≡ group_meaning (record { elements = map (element_in served) g.elements })
  group_is g = fold_out-Group GroupPart Meaning (element_meaning served.graphs served.down) group_meaning g

-- ---- the rows and the requests of an operator

module _ (endpoints : List EndpointParts) (block : ℕ) (tasks : List Task) (next later : ℕ) (graphs : List (List Triple)) (before rows : List Bindings) (wanted : List Sent) where
  -- what a part has for requests was asked for, and these are the rows behind it
  abbrev pub Given : Served → ℕ → List Expr → List (List ℕ) → List Bindings → List Task → GroupPart → Type 0
  Given served number filters known defined rest v =
      IsNext tasks next graphs served (operator_stations number v known) rest
      → AreAskedFor endpoints graphs block tasks later rest (operator_stations number v known) (operator_seeds number v (union graphs) defined) wanted × AreFewer filters rows (operator_rows number v (union graphs) defined)

  -- by what the element is to its group
  pub by_part : (served : Served) (number : ℕ) (e : Element) (o : Operator) → element_in served e ≡ operator o
      → ((filters : List Expr) (known : List (List ℕ)) (defined : List Bindings) (rest : List Task) → AreFewer filters before defined → IsNext tasks next graphs served (o.cut.stations number known) rest
      → AreAskedFor endpoints graphs block tasks later rest (o.cut.stations number known) (o.cut.seeds (union graphs) number defined) wanted × IsPermutation rows (o.rows (union graphs) number before))
      → (filters : List Expr) (known : List (List ℕ)) (defined : List Bindings) (rest : List Task) → AreFewer filters before defined → Given served number filters known defined rest (element_in served e)
  by_part served number e o is f = λ filters known defined rest fewer. subst (Given served number filters known defined rest) (sym is) (λ next_is. its filters known defined rest fewer next_is)
    where
      its : (filters : List Expr) (known : List (List ℕ)) (defined : List Bindings) (rest : List Task) → AreFewer filters before defined → IsNext tasks next graphs served (o.cut.stations number known) rest
          → AreAskedFor endpoints graphs block tasks later rest (o.cut.stations number known) (o.cut.seeds (union graphs) number defined) wanted × AreFewer filters rows (o.rows (union graphs) number defined)
      its filters known defined rest fewer next_is =
          let k = f filters known defined rest fewer next_is in
          (k.0, fewer_laws.operator filters served.graphs served.down e o is (union graphs) number before defined rows fewer k.1)

  -- an OPTIONAL whose group goes by itself
  pub of_optional : (g : Group) (found : List Bindings) → (group_of g).is_simple ≡ false → UnfilteredGiven endpoints block tasks next later g graphs wanted found → IsPermutation (left_join before found (group_of g).filters) rows
      → OperatorGiven endpoints block tasks next later (Optional g) before graphs wanted rows
  of_optional g found apart h p = λ served number.
      let m = group_in served g in
      let alone : m.is_simple ≡ false = same_simple served g ∙ apart in
      let moved : IsPermutation (left_join before found m.filters) rows = subst (λ (v : List Expr). IsPermutation (left_join before found v) rows) (sym (same_filters served g)) p in
      by_part served number (Optional g) _ (part_optional served g)
      (λ filters known defined rest fewer next_is.
      let names : names_before m.is_simple known ≡ [] = ap (λ (b : Bool). names_before b known) alone in
      let seeds : rows_before m.is_simple defined ≡ one_empty = ap (λ (b : Bool). rows_before b defined) alone in
      let k = h served number rest (subst (λ (v : List (List ℕ)). IsNext tasks next graphs served (m.cut.stations number v) rest) names next_is) in (
        subst (λ (v : List (List ℕ)). AreAskedFor endpoints graphs block tasks later rest (m.cut.stations number v) (m.cut.seeds (union graphs) number (rows_before m.is_simple defined)) wanted) (sym names)
            (subst (λ (v : List Bindings). AreAskedFor endpoints graphs block tasks later rest (m.cut.stations number []) (m.cut.seeds (union graphs) number v) wanted) (sym seeds) k.0),
        IsPermutation-trans rows (left_join before found m.filters) (left_join before (m.rows (union graphs) number) m.filters) (IsPermutation-sym (left_join before found m.filters) rows moved)
            (fewer_laws.on_the_right m.filters before found (m.rows (union graphs) number) k.1),
      ))

  pub of_union : (gs : List Group) (found : List Bindings) → AlternativesGiven endpoints block tasks next later gs graphs wanted found → IsPermutation (join before found) rows → OperatorGiven endpoints block tasks next later (Union gs) before graphs wanted rows
  of_union gs found h p = λ served number.
      by_part served number (Union gs) _ (part_union served gs)
      (λ filters known defined rest fewer next_is. let k = h served number rest next_is in (
        k.0,
        IsPermutation-trans rows (join before found) (join before (alternatives (map (group_in served) gs) (union graphs) number)) (IsPermutation-sym (join before found) rows p)
            (same_join before before found (alternatives (map (group_in served) gs) (union graphs) number) (IsPermutation-refl before) k.1),
      ))

  pub of_minus : (g : Group) (found : List Bindings) → GroupGiven endpoints block tasks next later g graphs wanted found → rows ≡ minus before found → OperatorGiven endpoints block tasks next later (Minus g) before graphs wanted rows
  of_minus g found h e = λ served number.
      by_part served number (Minus g) _ (part_minus served g)
      (λ filters known defined rest fewer next_is. let k = h served number rest next_is in (
        k.0,
        subst (λ (v : List Bindings). IsPermutation v (minus before (group_rows (group_in served g) (union graphs) number))) (sym e)
            (minus_moves before before found (group_rows (group_in served g) (union graphs) number) (IsPermutation-refl before) k.1),
      ))

  -- operators that ask for nothing
  nothing_asked : later ≡ next → wanted ≡ [] → (rest : List Task) → drop next tasks ≡ rest → AreAskedFor endpoints graphs block tasks later rest [] [] wanted
  nothing_asked same none rest next_is = record { behind = ap (λ (n : ℕ). drop n tasks) same ∙ next_is; sent = none }

  pub of_bind : (x : Expr) (name : List ℕ) → later ≡ next → wanted ≡ [] → rows ≡ extend before name x → OperatorGiven endpoints block tasks next later (Bind x name) before graphs wanted rows
  of_bind x name same none e = λ served number.
      by_part served number (Bind x name) _ (part_bind served x name)
      (λ filters known defined rest fewer next_is. (
        nothing_asked same none rest next_is.next_is,
        subst (λ (v : List Bindings). IsPermutation v (extend before name x)) (sym e) (IsPermutation-refl (extend before name x)),
      ))

  pub of_values : (inline : Inline) (found : List Bindings) → later ≡ next → wanted ≡ [] → found ≡ inline_rows inline → IsPermutation (join before found) rows → OperatorGiven endpoints block tasks next later (Values inline) before graphs wanted rows
  of_values inline found same none e p = λ served number.
      by_part served number (Values inline) _ (part_values served inline)
      (λ filters known defined rest fewer next_is. (
        nothing_asked same none rest next_is.next_is,
        subst (λ (v : List Bindings). IsPermutation rows (join before v)) e (IsPermutation-sym (join before found) rows p),
      ))

-- ---- what of that is sent, where nothing is given

module _ (endpoints : List EndpointParts) (block : ℕ) (tasks : List Task) (next : ℕ) (graphs : List (List Triple)) (before : List Bindings) (wanted : List Sent) where
  abbrev pub Due : Served → ℕ → List (List ℕ) → List Bindings → List Task → GroupPart → Type 0
  Due served number known defined rest v = IsNext tasks next graphs served (operator_stations number v known) rest → AreRunsSent endpoints graphs block (operator_stations number v known) (operator_seeds number v (union graphs) defined) wanted

  pub due_by : (served : Served) (number : ℕ) (e : Element) (o : Operator) → element_in served e ≡ operator o
      → ((filters : List Expr) (known : List (List ℕ)) (defined : List Bindings) (rest : List Task) → AreFewer filters before defined → IsNext tasks next graphs served (o.cut.stations number known) rest
      → AreRunsSent endpoints graphs block (o.cut.stations number known) (o.cut.seeds (union graphs) number defined) wanted)
      → (filters : List Expr) (known : List (List ℕ)) (defined : List Bindings) (rest : List Task) → AreFewer filters before defined → Due served number known defined rest (element_in served e)
  due_by served number e o is f = λ filters known defined rest fewer. subst (Due served number known defined rest) (sym is) (λ next_is. f filters known defined rest fewer next_is)

  pub due_optional : (g : Group) → (group_of g).is_simple ≡ false → GroupDue endpoints block tasks next g graphs wanted → OperatorDue endpoints block tasks next (Optional g) before graphs wanted
  due_optional g apart h = λ served number.
      let m = group_in served g in
      let alone : m.is_simple ≡ false = same_simple served g ∙ apart in
      due_by served number (Optional g) _ (part_optional served g)
      (λ filters known defined rest fewer next_is.
      let names : names_before m.is_simple known ≡ [] = ap (λ (b : Bool). names_before b known) alone in
      let seeds : rows_before m.is_simple defined ≡ one_empty = ap (λ (b : Bool). rows_before b defined) alone in
      let k = h served number rest (subst (λ (v : List (List ℕ)). IsNext tasks next graphs served (m.cut.stations number v) rest) names next_is) in
      subst (λ (v : List (List ℕ)). AreRunsSent endpoints graphs block (m.cut.stations number v) (m.cut.seeds (union graphs) number (rows_before m.is_simple defined)) wanted) (sym names)
      (subst (λ (v : List Bindings). AreRunsSent endpoints graphs block (m.cut.stations number []) (m.cut.seeds (union graphs) number v) wanted) (sym seeds) k))

  pub due_union : (gs : List Group) → AlternativesDue endpoints block tasks next gs graphs wanted → OperatorDue endpoints block tasks next (Union gs) before graphs wanted
  due_union gs h = λ served number. due_by served number (Union gs) _ (part_union served gs) (λ filters known defined rest fewer next_is. h served number rest next_is)

  pub due_minus : (g : Group) → GroupDue endpoints block tasks next g graphs wanted → OperatorDue endpoints block tasks next (Minus g) before graphs wanted
  due_minus g h = λ served number. due_by served number (Minus g) _ (part_minus served g) (λ filters known defined rest fewer next_is. h served number rest next_is)

  pub due_bind : (x : Expr) (name : List ℕ) → wanted ≡ [] → OperatorDue endpoints block tasks next (Bind x name) before graphs wanted
  due_bind x name none = λ served number. due_by served number (Bind x name) _ (part_bind served x name) (λ filters known defined rest fewer next_is. none)

  pub due_values : (inline : Inline) → wanted ≡ [] → OperatorDue endpoints block tasks next (Values inline) before graphs wanted
  due_values inline none = λ served number. due_by served number (Values inline) _ (part_values served inline) (λ filters known defined rest fewer next_is. none)

-- ---- the group of an OPTIONAL that is one run

one_run : (ps : List GroupPart) → list_all keeps_run ps ≡ true → steps_of ps ≡ with_run (flat_map part_patterns ps) []
one_run [] h = refl
one_run (pattern p ∷ ps) h = ap (with_pattern p) (one_run ps h)
one_run (condition e ∷ ps) h = one_run ps h
one_run (operator o ∷ ps) h = absurd (cc)

module _ (g : Group) (simple : (group_of g).is_simple ≡ true) where
  module _ (served : Served) (number : ℕ) where
    abbrev its_parts : List GroupPart
    its_parts = map (element_in served) g.elements

    its_steps : steps_of its_parts ≡ with_run (own_patterns g) []
    its_steps =
        one_run its_parts (sym (ap (λ (m : Meaning). m.is_simple) (group_is served g)) ∙ same_simple served g ∙ simple)
        ∙ ap (λ (ps : List Pattern). with_run ps []) (same_own served g)

    its_filters : (group_of g).filters ≡ conditions_of its_parts
    its_filters = sym (same_filters served g) ∙ ap (λ (m : Meaning). m.filters) (group_is served g)

    pub run_station : (known : List (List ℕ)) → (group_in served g).cut.stations number known ≡ run_stations (group_of g).filters known (own_patterns g)
    run_station known =
        ap (λ (m : Meaning). m.cut.stations number known) (group_is served g)
        ∙ ap (stations_of (conditions_of its_parts) number known) its_steps
        ∙ stations_alone number (conditions_of its_parts) known (own_patterns g)
        ∙ ap (λ (v : List Expr). run_stations v known (own_patterns g)) (sym its_filters)

    pub run_seed : (graph : List Triple) (rows : List Bindings) → (group_in served g).cut.seeds graph number rows ≡ run_seeds rows (own_patterns g)
    run_seed graph rows = ap (λ (m : Meaning). m.cut.seeds graph number rows) (group_is served g) ∙ ap (seeds_of graph number rows) its_steps ∙ seeds_alone number graph rows (own_patterns g)

    pub run_rows : (graph : List Triple) → (group_in served g).rows graph number ≡ run_joined graph one_empty (own_patterns g)
    run_rows graph = ap (λ (m : Meaning). m.rows graph number) (group_is served g) ∙ ap (after graph number one_empty) its_steps ∙ after_alone number graph one_empty (own_patterns g)

  -- its task is next
  pub run_is : (served : Served) (graphs : List (List Triple)) (tasks : List Task) (next : ℕ) (known : List (List ℕ)) (rest : List Task) → IsNext tasks next graphs served (run_stations (group_of g).filters known (own_patterns g)) rest
      → drop next tasks ≡ run_tasks graphs (group_of g).filters known (own_patterns g) ++ rest
  run_is served graphs tasks next known rest h = h.next_is ∙ ap (λ (v : List Task). v ++ rest) (run_planned served graphs (group_of g).filters known (own_patterns g))

  -- an OPTIONAL of it: what was asked for is its run, where it has a pattern
  pub of_run : (endpoints : List EndpointParts) (block : ℕ) (tasks : List Task) (next later : ℕ) (graphs : List (List Triple)) (before rows : List Bindings) (wanted : List Sent)
      → ((known : List (List ℕ)) (defined : List Bindings) (rest : List Task) (filters : List Expr) → AreFewer filters before defined → drop next tasks ≡ run_tasks graphs (group_of g).filters known (own_patterns g) ++ rest
      → AreAskedFor endpoints graphs block tasks later rest (run_stations (group_of g).filters known (own_patterns g)) (run_seeds defined (own_patterns g)) wanted
      × IsPermutation rows (left_join before (run_joined (union graphs) one_empty (own_patterns g)) (group_of g).filters))
      → OperatorGiven endpoints block tasks next later (Optional g) before graphs wanted rows
  of_run endpoints block tasks next later graphs before rows wanted f = λ served number.
      let m = group_in served g in
      let one : m.is_simple ≡ true = same_simple served g ∙ simple in
      by_part endpoints block tasks next later graphs before rows wanted served number (Optional g) _ (part_optional served g)
      (λ filters known defined rest fewer next_is.
      let names : m.cut.stations number (names_before m.is_simple known) ≡ run_stations (group_of g).filters known (own_patterns g) = ap (λ (b : Bool). m.cut.stations number (names_before b known)) one ∙ run_station served number known in
      let seeds : m.cut.seeds (union graphs) number (rows_before m.is_simple defined) ≡ run_seeds defined (own_patterns g) =
      ap (λ (b : Bool). m.cut.seeds (union graphs) number (rows_before b defined)) one ∙ run_seed served number (union graphs) defined in
      let k = f known defined rest filters fewer (run_is served graphs tasks next known rest (subst (λ (v : List Station). IsNext tasks next graphs served v rest) names next_is)) in (
        subst (λ (v : List Station). AreAskedFor endpoints graphs block tasks later rest v (m.cut.seeds (union graphs) number (rows_before m.is_simple defined)) wanted) (sym names)
            (subst (λ (v : List (List Bindings)). AreAskedFor endpoints graphs block tasks later rest (run_stations (group_of g).filters known (own_patterns g)) v wanted) (sym seeds) k.0),
        subst (λ (v : List Expr). IsPermutation rows (left_join before (m.rows (union graphs) number) v)) (sym (same_filters served g))
            (subst (λ (v : List Bindings). IsPermutation rows (left_join before v (group_of g).filters)) (sym (run_rows served number (union graphs))) k.1),
      ))

  -- what of it is sent
  pub due_run : (endpoints : List EndpointParts) (block : ℕ) (tasks : List Task) (next : ℕ) (graphs : List (List Triple)) (before : List Bindings) (wanted : List Sent)
      → ((known : List (List ℕ)) (defined : List Bindings) (rest : List Task) (filters : List Expr) → AreFewer filters before defined → drop next tasks ≡ run_tasks graphs (group_of g).filters known (own_patterns g) ++ rest
      → AreRunsSent endpoints graphs block (run_stations (group_of g).filters known (own_patterns g)) (run_seeds defined (own_patterns g)) wanted)
      → OperatorDue endpoints block tasks next (Optional g) before graphs wanted
  due_run endpoints block tasks next graphs before wanted f = λ served number.
      let m = group_in served g in
      let one : m.is_simple ≡ true = same_simple served g ∙ simple in
      due_by endpoints block tasks next graphs before wanted served number (Optional g) _ (part_optional served g)
      (λ filters known defined rest fewer next_is.
      let names : m.cut.stations number (names_before m.is_simple known) ≡ run_stations (group_of g).filters known (own_patterns g) = ap (λ (b : Bool). m.cut.stations number (names_before b known)) one ∙ run_station served number known in
      let seeds : m.cut.seeds (union graphs) number (rows_before m.is_simple defined) ≡ run_seeds defined (own_patterns g) =
      ap (λ (b : Bool). m.cut.seeds (union graphs) number (rows_before b defined)) one ∙ run_seed served number (union graphs) defined in
      let k = f known defined rest filters fewer (run_is served graphs tasks next known rest (subst (λ (v : List Station). IsNext tasks next graphs served v rest) names next_is)) in
      subst (λ (v : List Station). AreRunsSent endpoints graphs block v (m.cut.seeds (union graphs) number (rows_before m.is_simple defined)) wanted) (sym names)
      (subst (λ (v : List (List Bindings)). AreRunsSent endpoints graphs block (run_stations (group_of g).filters known (own_patterns g)) v wanted) (sym seeds) k))

-- ---- a triple pattern and a filter are no operators

module _ (endpoints : List EndpointParts) (block : ℕ) (tasks : List Task) (next : ℕ) (graphs : List (List Triple)) (before : List Bindings) where
  none_of : (served : Served) (number : ℕ) (part : GroupPart) → keeps_run part ≡ true → (filters : List Expr) (known : List (List ℕ)) (defined : List Bindings) (rest : List Task) → AreFewer filters before defined
      → IsNext tasks next graphs served (operator_stations number part known) rest
      → AreAskedFor endpoints graphs block tasks next rest (operator_stations number part known) (operator_seeds number part (union graphs) defined) [] × AreFewer filters before (operator_rows number part (union graphs) defined)
  none_of served number (pattern p) keeps filters known defined rest fewer is = (record { behind = is.next_is; sent = refl }, fewer)
  none_of served number (condition e) keeps filters known defined rest fewer is = (record { behind = is.next_is; sent = refl }, fewer)
  none_of served number (operator o) keeps filters known defined rest fewer is = absurd (cc)

  pub of_kept : (e : Element) → keeps_run (part_of e) ≡ true → OperatorGiven endpoints block tasks next next e before graphs [] before
  of_kept e keeps = λ served number. none_of served number (element_in served e) (same_keeps served e ∙ keeps)

-- what isn't a pattern nor a filter is an operator
pub is_operator : (part : GroupPart) → keeps_run part ≡ false → (o : Operator) × (part ≡ operator o)
is_operator (pattern p) h = absurd (cc)
is_operator (condition e) h = absurd (cc)
is_operator (operator o) h = (o, refl)

-- the filters that are found in a group are its own
pub own_filters : (g : Group) → flat_map part_filters (map part_of g.elements) ≡ (group_of g).filters
own_filters g = sym (filters_are (map part_of g.elements)) ∙ sym (ap (λ (m : Meaning). m.filters) (meaning_is g))
