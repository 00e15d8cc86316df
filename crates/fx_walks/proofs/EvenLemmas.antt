-- Each station has its rows, wherever it stands in a group.
use Rattle.std.proofs.Common.{◌≡◌, ap, sym, subst, refl, ℕ, suc, ◌+◌, List, [], ◌∷◌, ◌++◌, map, length, length-append, arith}
use Rattle.std.specs.List.{AllByRecursion}
use Rattle.fx_terms.specs.declared.triples.Triple.{Triple}
use Rattle.fx_terms.specs.declared.patterns.Pattern.{Pattern}
use Rattle.fx_algebra.specs.BasicGraphPatterns.{bgp, variables}
use Rattle.fx_algebra.specs.Groups.{Cut, Meaning, Operator, Part, pattern, condition, operator, Step, run, apply, with_pattern, with_part, steps_of, stations_of, seeds_of, conditions_of, one_empty, names_before, rows_before, alternative_stations, alternative_seeds, group_cut, element_meaning, group_meaning}
use Rattle.fx_algebra.specs.Operators.{join}
use Rattle.fx_algebra.specs.Solutions.{Bindings}
use Rattle.fx_algebra.specs.declared.queries.Element.{Element, Element-F, map-Element, fold-roll-Element, roll-Element, ind-Element}
use Rattle.fx_algebra.specs.declared.queries.Group.{Group, Group-F, ind-Group, fold-roll-Group, map-Group, roll-Group}
use Rattle.fx_walks.specs.GroupsAsked.{AreEven, with_run}
use Rattle.fx_walks.specs.Served.{Served, element_in, group_in}

abbrev pub IsEven : Cut → Type 0
IsEven c = (graph : List Triple) (number other : ℕ) (rows : List Bindings) (known : List (List ℕ)) → length (c.seeds graph number rows) ≡ length (c.stations other known)

abbrev PartEven : Part → Type 0
PartEven (pattern p) = Unit {0}
PartEven (condition e) = Unit {0}
PartEven (operator o) = IsEven o.cut

abbrev StepEven : Step → Type 0
StepEven (run ps) = Unit {0}
StepEven (apply o) = IsEven o.cut

-- ---- steps

pattern_even : (p : Pattern) (steps : List Step) → AllByRecursion StepEven steps → AllByRecursion StepEven (with_pattern p steps)
pattern_even p [] h = (tt, tt)
pattern_even p (run ps ∷ steps) h = (tt, h.1)
pattern_even p (apply o ∷ steps) h = (tt, h)

part_even : (part : Part) (steps : List Step) → PartEven part → AllByRecursion StepEven steps → AllByRecursion StepEven (with_part part steps)
part_even (pattern p) steps h k = pattern_even p steps k
part_even (condition e) steps h k = k
part_even (operator o) steps h k = (h, k)

parts_even : (parts : List Part) → AllByRecursion PartEven parts → AllByRecursion StepEven (steps_of parts)
parts_even [] h = tt
parts_even (part ∷ parts) h = part_even part (steps_of parts) h.0 (parts_even parts h.1)

even_steps : (steps : List Step) → AllByRecursion StepEven steps → AreEven steps
even_steps [] h filters graph number other rows known = refl
even_steps (run ps ∷ steps) h filters graph number other rows known = ap suc (even_steps steps h.1 filters graph number other (join rows (bgp graph ps)) (known ++ variables ps))
even_steps (apply o ∷ steps) h filters graph number other rows known =
    let seeds = seeds_of graph (number + o.services) (o.rows graph number rows) steps in
    let stations = stations_of filters (other + o.services) (known ++ o.cut.names) steps in
    let here : length (o.cut.seeds graph number rows) ≡ length (o.cut.stations other known) = h.0 graph number other rows known in
    let rest : length seeds ≡ length stations = even_steps steps h.1 filters graph (number + o.services) (other + o.services) (o.rows graph number rows) (known ++ o.cut.names) in
    omega (arith, length-append (o.cut.seeds graph number rows) seeds, length-append (o.cut.stations other known) stations)

-- a run in front changes nothing of that
pub even_with_run : (ps : List Pattern) (steps : List Step) → AllByRecursion StepEven steps → AllByRecursion StepEven (with_run ps steps)
even_with_run [] steps h = h
even_with_run (p ∷ ps) steps h = pattern_even p (with_run ps steps) (even_with_run ps steps h)

-- ---- by induction over the group

module _ (served : Served) where
  abbrev ElementEven : Element → Type 0
  ElementEven e = PartEven (element_in served e)

  abbrev GroupEven : Group → Type 0
  GroupEven g = IsEven (group_in served g).cut

  abbrev EvenElement : Type 0
  EvenElement = (e : Element) × ElementEven e

  abbrev EvenGroup : Type 0
  EvenGroup = (g : Group) × GroupEven g

  groups_even : (gs : List EvenGroup) (graph : List Triple) (number other : ℕ) → length (alternative_seeds (map (group_in served) (map (λ g. g.0) gs)) graph number) ≡ length (alternative_stations (map (group_in served) (map (λ g. g.0) gs)) other)
  groups_even [] graph number other = refl
  groups_even (g ∷ gs) graph number other =
      let m = group_in served g.0 in
      let seeds = alternative_seeds (map (group_in served) (map (λ (k : EvenGroup). k.0) gs)) graph (number + m.services) in
      let stations = alternative_stations (map (group_in served) (map (λ (k : EvenGroup). k.0) gs)) (other + m.services) in
      let here : length (m.cut.seeds graph number one_empty) ≡ length (m.cut.stations other []) = g.1 graph number other one_empty [] in
      let rest : length seeds ≡ length stations = groups_even gs graph (number + m.services) (other + m.services) in
      omega (arith, length-append (m.cut.seeds graph number one_empty) seeds, length-append (m.cut.stations other []) stations)

  abbrev LayerEven : Element-F Element Group → Type 0
  LayerEven x = PartEven (element_meaning served.graphs served.down (map-Element Element Group Part Meaning (element_in served) (group_in served) x))

  layer_even : (y : Element-F EvenElement EvenGroup) → LayerEven (map-Element EvenElement EvenGroup Element Group (λ e. e.0) (λ g. g.0) y)
  layer_even (Element-F.Triple p) = tt
  layer_even (Element-F.Filter e) = tt
  layer_even (Element-F.Optional g) = λ graph number other rows known. g.1 graph number other (rows_before (group_in served g.0).is_simple rows) (names_before (group_in served g.0).is_simple known)
  layer_even (Element-F.Union gs) = λ graph number other rows known. groups_even gs graph number other
  layer_even (Element-F.Minus g) = λ graph number other rows known. g.1 graph number other one_empty []
  layer_even (Element-F.Bind e name) = λ graph number other rows known. refl
  layer_even (Element-F.Values inline) = λ graph number other rows known. refl
  layer_even (Element-F.Service silent iri g) = λ graph number other rows known. refl

  element_even : (x : Element-F Element Group) (y : Element-F EvenElement EvenGroup) → map-Element EvenElement EvenGroup Element Group (λ e. e.0) (λ g. g.0) y ≡ x → ElementEven (roll-Element x)
  element_even x y is = subst PartEven (sym (fold-roll-Element Part Meaning (element_meaning served.graphs served.down) group_meaning x)) (subst LayerEven is (layer_even y))

  elements_even : (es : List EvenElement) → AllByRecursion PartEven (map (element_in served) (map (λ e. e.0) es))
  elements_even [] = tt
  elements_even (e ∷ es) = (e.1, elements_even es)

  abbrev LayerGroupEven : Group-F Element Group → Type 0
  LayerGroupEven x = IsEven (group_cut (map (element_in served) x.elements))

  group_even : (x : Group-F Element Group) (y : Group-F EvenElement EvenGroup) → map-Group EvenElement EvenGroup Element Group (λ e. e.0) (λ g. g.0) y ≡ x → GroupEven (roll-Group x)
  group_even x y is =
      let parts = map (element_in served) (map (λ (e : EvenElement). e.0) y.elements) in
      subst (λ (m : Meaning). IsEven m.cut) (sym (fold-roll-Group Part Meaning (element_meaning served.graphs served.down) group_meaning x))
      (subst LayerGroupEven is (λ graph number other rows known. even_steps (steps_of parts) (parts_even parts (elements_even y.elements)) (conditions_of parts) graph number other rows known))

  element_is_even : (e : Element) → PartEven (element_in served e)
  element_is_even = ind-Element ElementEven GroupEven element_even group_even

  pub group_is_even : (g : Group) → IsEven (group_in served g).cut
  group_is_even = ind-Group ElementEven GroupEven element_even group_even

  each_even : (es : List Element) → AllByRecursion PartEven (map (element_in served) es)
  each_even [] = tt
  each_even (e ∷ es) = (element_is_even e, each_even es)

  -- the steps of elements are even, also behind a run that hasn't ended
  pub elements_are_even : (es : List Element) (ps : List Pattern) → AreEven (with_run ps (steps_of (map (element_in served) es)))
  elements_are_even es ps = even_steps (with_run ps (steps_of (map (element_in served) es))) (even_with_run ps (steps_of (map (element_in served) es)) (parts_even (map (element_in served) es) (each_even es)))

  -- so is what an operator has
  pub operator_is_even : (e : Element) (o : Operator) → element_in served e ≡ operator o → IsEven o.cut
  operator_is_even e o is = subst PartEven is (element_is_even e)

  even_groups : List Group → List EvenGroup
  even_groups gs = map (λ g. (g, group_is_even g)) gs

  same_groups : (gs : List Group) → map (λ (g : EvenGroup). g.0) (even_groups gs) ≡ gs
  unfolding even_groups
  same_groups [] = refl
  same_groups (g ∷ gs) = ap (λ (v : List Group). g ∷ v) (same_groups gs)

  -- and what several groups have
  pub groups_are_even : (gs : List Group) (graph : List Triple) (number other : ℕ) → length (alternative_seeds (map (group_in served) gs) graph number) ≡ length (alternative_stations (map (group_in served) gs) other)
  groups_are_even gs graph number other =
      subst (λ (v : List Group). length (alternative_seeds (map (group_in served) v) graph number) ≡ length (alternative_stations (map (group_in served) v) other)) (same_groups gs) (groups_even (even_groups gs) graph number other)
