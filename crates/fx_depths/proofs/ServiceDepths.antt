-- The group of each SERVICE of an accepted query stands within a bracket more, so one fewer is open in it at once.
use Rattle.std.proofs.Common.{◌≡◌, ℕ, suc, ◌+◌, ◌≤◌, List, [], ◌∷◌, ◌++◌, map, sym, subst, arith}
use Rattle.std.specs.List.{AllByRecursion}
use Rattle.std.proofs.lemmas.List.Elements.{All-from_recursion}
use Rattle.fx_terms.specs.declared.patterns.Pattern.{Pattern}
use Rattle.fx_algebra.specs.Answers.{no_graphs}
use Rattle.fx_algebra.specs.BasicGraphPatterns.{variables}
use Rattle.fx_algebra.specs.Cuts.{stations}
use Rattle.fx_algebra.specs.Groups.{Meaning, Part, pattern, condition, operator, Step, run, apply, with_pattern, steps_of, stations_of, conditions_of, names_before, alternative_stations, element_meaning, group_meaning, meaning}
use Rattle.fx_algebra.specs.Stations.{Station}
use Rattle.fx_algebra.specs.Stations as station
use Rattle.fx_algebra.specs.declared.expressions.Expr.{Expr}
use Rattle.fx_algebra.specs.declared.queries.Element.{Element, Element-F, map-Element, fold-roll-Element, roll-Element}
use Rattle.fx_algebra.specs.declared.queries.Group.{Group, Group-F, ind-Group, fold-roll-Group, map-Group, roll-Group}
use Rattle.fx_algebra.proofs.CutLemmas.{has_the_tree, part_of}
use Rattle.fx_spelling.specs.Printable.{Held, most_held, held, held_element, hold_element, hold_group}
use Rattle.fx_depths.specs.Shallow.{IsShallow, ServicesAreShallow}
use Rattle.fx_depths.proofs.QueryDepths.{groups_are_shallow}

-- ---- stations of which each SERVICE has so few

-- so many brackets are open at once in the group of a SERVICE
abbrev IsWithin : ℕ → Station → Type 0
IsWithin n (station.run ps filters before) = Unit {0}
IsWithin n (station.service number silent iri g) = (held g).nest ≤ n

abbrev AllWithin : ℕ → List Station → Type 0
AllWithin n all = AllByRecursion (IsWithin n) all

within_both : (n : ℕ) (xs ys : List Station) → AllWithin n xs → AllWithin n ys → AllWithin n (xs ++ ys)
within_both n [] ys h g = g
within_both n (x ∷ xs) ys h g = (h.0, within_both n xs ys h.1 g)

abbrev PartWithin : ℕ → Part → Type 0
PartWithin n (pattern p) = Unit {0}
PartWithin n (condition e) = Unit {0}
PartWithin n (operator o) = (number : ℕ) (before : List (List ℕ)) → AllWithin n (o.cut.stations number before)

abbrev StepWithin : ℕ → Step → Type 0
StepWithin n (run ps) = Unit {0}
StepWithin n (apply o) = (number : ℕ) (before : List (List ℕ)) → AllWithin n (o.cut.stations number before)

pattern_within : (n : ℕ) (p : Pattern) (steps : List Step) → AllByRecursion (StepWithin n) steps → AllByRecursion (StepWithin n) (with_pattern p steps)
pattern_within n p [] h = (tt, tt)
pattern_within n p (run ps ∷ steps) h = (tt, h.1)
pattern_within n p (apply o ∷ steps) h = (tt, h)

steps_within : (n : ℕ) (parts : List Part) → AllByRecursion (PartWithin n) parts → AllByRecursion (StepWithin n) (steps_of parts)
steps_within n [] h = tt
steps_within n (pattern p ∷ parts) h = pattern_within n p (steps_of parts) (steps_within n parts h.1)
steps_within n (condition e ∷ parts) h = steps_within n parts h.1
steps_within n (operator o ∷ parts) h = (h.0, steps_within n parts h.1)

stations_within : (n : ℕ) (filters : List Expr) (number : ℕ) (before : List (List ℕ)) (steps : List Step) → AllByRecursion (StepWithin n) steps → AllWithin n (stations_of filters number before steps)
stations_within n filters number before [] h = tt
stations_within n filters number before (run ps ∷ steps) h = (tt, stations_within n filters number (before ++ variables ps) steps h.1)
stations_within n filters number before (apply o ∷ steps) h =
    within_both n (o.cut.stations number before) (stations_of filters (number + o.services) (before ++ o.cut.names) steps) (h.0 number before) (stations_within n filters (number + o.services) (before ++ o.cut.names) steps h.1)

-- ---- by induction over the group

-- no more are open in the SERVICEs of an element than in the element
abbrev ElementWithin : Element → Type 0
ElementWithin e = (n : ℕ) → (held_element e).nest ≤ n → PartWithin n (part_of no_graphs [] e)

-- and in those of a group one fewer
abbrev GroupWithin : Group → Type 0
GroupWithin g = (n : ℕ) → (held g).nest ≤ n + 1 → (number : ℕ) (before : List (List ℕ)) → AllWithin n ((meaning no_graphs [] g).cut.stations number before)

abbrev Bounded : Type 0
Bounded = (e : Element) × ElementWithin e

abbrev BoundedGroup : Type 0
BoundedGroup = (g : Group) × GroupWithin g

abbrev elements : List Bounded → List Element
elements es = map (λ e. e.0) es

abbrev groups : List BoundedGroup → List Group
groups gs = map (λ g. g.0) gs

elements_within : (n : ℕ) (es : List Bounded) → most_held (map held_element (elements es)) ≤ n → AllByRecursion (PartWithin n) (map (part_of no_graphs []) (elements es))
elements_within n [] h = tt
elements_within n (e ∷ es) h = (e.1 n (omega (arith, h)), elements_within n es (omega (arith, h)))

groups_within : (n : ℕ) (gs : List BoundedGroup) (number : ℕ) → most_held (map held (groups gs)) ≤ n → AllWithin n (alternative_stations (map (meaning no_graphs []) (groups gs)) number)
groups_within n [] number h = tt
groups_within n (g ∷ gs) number h =
    let one = meaning no_graphs [] g.0 in
    within_both n (one.cut.stations number []) (alternative_stations (map (meaning no_graphs []) (groups gs)) (number + one.services)) (g.1 n (omega (arith, h)) number []) (groups_within n gs (number + one.services) (omega (arith, h)))

abbrev LayerWithin : Element-F Element Group → Type 0
LayerWithin x =
    (n : ℕ) → (hold_element (map-Element Element Group Held Held held_element held x)).nest ≤ n → PartWithin n (element_meaning no_graphs [] (map-Element Element Group Part Meaning (part_of no_graphs []) (meaning no_graphs []) x))

layer_within : (y : Element-F Bounded BoundedGroup) → LayerWithin (map-Element Bounded BoundedGroup Element Group (λ e. e.0) (λ g. g.0) y)
layer_within (Element-F.Triple p) n h = tt
layer_within (Element-F.Filter e) n h = tt
layer_within (Element-F.Optional g) n h = λ number before. g.1 n (omega (arith, h)) number (names_before (meaning no_graphs [] g.0).is_simple before)
layer_within (Element-F.Union gs) n h = λ number before. groups_within n gs number h
layer_within (Element-F.Minus g) n h = λ number before. g.1 n (omega (arith, h)) number []
layer_within (Element-F.Bind e name) n h = λ number before. tt
layer_within (Element-F.Values inline) n h = λ number before. tt
layer_within (Element-F.Service silent iri g) n h = λ number before. (subst (λ (v : Group). (held v).nest ≤ n) (sym (has_the_tree g.0 no_graphs [])) h, tt)

element_within : (x : Element-F Element Group) (y : Element-F Bounded BoundedGroup) → map-Element Bounded BoundedGroup Element Group (λ e. e.0) (λ g. g.0) y ≡ x → ElementWithin (roll-Element x)
element_within x y is n h =
    subst (PartWithin n) (sym (fold-roll-Element Part Meaning (element_meaning no_graphs []) group_meaning x))
    (subst LayerWithin is (layer_within y) n (subst (λ (v : Held). v.nest ≤ n) (fold-roll-Element Held Held hold_element hold_group x) h))

abbrev ElementsWithin : Group-F Element Group → Type 0
ElementsWithin x = (n : ℕ) → most_held (map held_element x.elements) ≤ n → AllByRecursion (PartWithin n) (map (part_of no_graphs []) x.elements)

group_within : (x : Group-F Element Group) (y : Group-F Bounded BoundedGroup) → map-Group Bounded BoundedGroup Element Group (λ e. e.0) (λ g. g.0) y ≡ x → GroupWithin (roll-Group x)
group_within x y is n h number before =
    let inside : ElementsWithin x = subst ElementsWithin is (λ n h. elements_within n y.elements h) in
    let few : suc (most_held (map held_element x.elements)) ≤ n + 1 = subst (λ (v : Held). v.nest ≤ n + 1) (fold-roll-Group Held Held hold_element hold_group x) h in
    let ps = map (part_of no_graphs []) x.elements in
    subst (λ (m : Meaning). AllWithin n (m.cut.stations number before)) (sym (fold-roll-Group Part Meaning (element_meaning no_graphs []) group_meaning x))
    (stations_within n (conditions_of ps) number before (steps_of ps) (steps_within n ps (inside n (omega (arith, few)))))

within : (g : Group) → GroupWithin g
within = ind-Group ElementWithin GroupWithin element_within group_within

-- ---- queries

shallow : (all : List Station) → AllWithin 64 all → AllByRecursion IsShallow all
shallow [] h = tt
shallow (station.run ps filters before ∷ all) h = (tt, shallow all h.1)
shallow (station.service number silent iri g ∷ all) h = (h.0, shallow all h.1)

pub services_are_shallow : ServicesAreShallow
services_are_shallow text q accepted = All-from_recursion IsShallow (stations q) (shallow (stations q) (within q.group 64 (omega (arith, groups_are_shallow text q accepted)) 0 []))
