-- The occurrences of SERVICE of a group are found element by element, whatever names are bound before it and whatever number the first has.
use Rattle.std.proofs.Common.{◌≡◌, ◌∙◌, ap, sym, subst, refl, ℕ, ◌+◌, true, false, Bool, List, [], ◌∷◌, ◌++◌, map, append_assoc}
use Rattle.std.specs.List.{AllByRecursion, flat_map}
use Rattle.std.proofs.lemmas.Grind.{flat_map-append}
use Rattle.fx_terms.specs.declared.patterns.Pattern.{Pattern}
use Rattle.fx_algebra.specs.Answers.{no_graphs}
use Rattle.fx_algebra.specs.BasicGraphPatterns.{variables}
use Rattle.fx_algebra.specs.Groups.{Cut, Meaning, Part, pattern, condition, operator, Step, run, apply, with_pattern, steps_of, stations_of, conditions_of, names_before, group_cut, alternative_stations, element_meaning, group_meaning}
use Rattle.fx_algebra.specs.Scopes.{pattern_names}
use Rattle.fx_algebra.specs.declared.expressions.Expr.{Expr}
use Rattle.fx_algebra.specs.declared.queries.Element.{Element, Element-F, map-Element, fold-roll-Element, roll-Element, ind-Element}
use Rattle.fx_algebra.specs.declared.queries.Element.TheVariants.{Bind, Filter, Minus, Optional, Service, Triple, Union, Values, rolls-Bind, rolls-Filter, rolls-Minus, rolls-Optional, rolls-Service, rolls-Triple, rolls-Union, rolls-Values}
use Rattle.fx_algebra.specs.declared.queries.Inline.{Inline}
use Rattle.fx_algebra.specs.declared.queries.Group.{Group, Group-F, ind-Group, fold-roll-Group, map-Group, roll-Group}
use Rattle.fx_algebra.proofs.CutLemmas.{has_the_tree}
use Rattle.fx_outcomes.specs.Calls.{occurrence_in}
use Rattle.fx_services.specs.Beside.{Occurrence}
use Rattle.fx_outcomes.specs.Invocations.{in_element, in_group, in_meaning, in_part, one_of}
use Rattle.fx_walks.specs.SectionSteps.{group_of, part_of}
use Rattle.fx_walks.proofs.SectionLemmas.{meaning_is}

-- ---- names and numbers make no difference

abbrev IsFixed : Cut → Type 0
IsFixed c = (number : ℕ) (before : List (List ℕ)) → flat_map occurrence_in (c.stations number before) ≡ flat_map occurrence_in (c.stations 0 [])

abbrev IsFixedPart : Part → Type 0
IsFixedPart (pattern p) = Unit {0}
IsFixedPart (condition e) = Unit {0}
IsFixedPart (operator o) = IsFixed o.cut

-- steps have these occurrences wherever they stand
abbrev StepsHave : List Step → List Occurrence → Type 0
StepsHave steps os = (filters : List Expr) (number : ℕ) (before : List (List ℕ)) → flat_map occurrence_in (stations_of filters number before steps) ≡ os

pattern_has : (p : Pattern) (steps : List Step) (os : List Occurrence) → StepsHave steps os → StepsHave (with_pattern p steps) os
pattern_has p [] os h = λ filters number before. h filters number before
pattern_has p (run ps ∷ steps) os h = λ filters number before.
    ap (λ (names : List (List ℕ)). flat_map occurrence_in (stations_of filters number names steps)) (sym (append_assoc before (pattern_names p) (variables ps)))
    ∙ h filters number (before ++ pattern_names p)
pattern_has p (apply o ∷ steps) os h = λ filters number before. h filters number (before ++ variables (p ∷ []))

steps_have : (parts : List Part) → AllByRecursion IsFixedPart parts → StepsHave (steps_of parts) (flat_map in_part parts)
steps_have [] h = λ filters number before. refl
steps_have (pattern p ∷ parts) h = pattern_has p (steps_of parts) (flat_map in_part parts) (steps_have parts h.1)
steps_have (condition e ∷ parts) h = steps_have parts h.1
steps_have (operator o ∷ parts) h = λ filters number before.
    let rest = stations_of filters (number + o.services) (before ++ o.cut.names) (steps_of parts) in
    flat_map-append occurrence_in (o.cut.stations number before) rest
    ∙ ap (λ (v : List Occurrence). v ++ flat_map occurrence_in rest) (h.0 number before)
    ∙ ap (λ (v : List Occurrence). flat_map occurrence_in (o.cut.stations 0 []) ++ v) (steps_have parts h.1 filters (number + o.services) (before ++ o.cut.names))

abbrev ElementFixed : Element → Type 0
ElementFixed e = IsFixedPart (part_of e)

abbrev GroupFixed : Group → Type 0
GroupFixed g = IsFixed (group_of g).cut

abbrev Fixed : Type 0
Fixed = (e : Element) × ElementFixed e

abbrev FixedGroup : Type 0
FixedGroup = (g : Group) × GroupFixed g

alternatives_have : (gs : List FixedGroup) (number : ℕ) → flat_map occurrence_in (alternative_stations (map group_of (map (λ g. g.0) gs)) number) ≡ flat_map in_group (map (λ g. g.0) gs)
alternatives_have [] number = refl
alternatives_have (g ∷ gs) number =
    let m = group_of g.0 in
    let rest = alternative_stations (map group_of (map (λ h. h.0) gs)) (number + m.services) in
    flat_map-append occurrence_in (m.cut.stations number []) rest
    ∙ ap (λ (v : List Occurrence). v ++ flat_map occurrence_in rest) (g.1 number [])
    ∙ ap (λ (v : List Occurrence). in_group g.0 ++ v) (alternatives_have gs (number + m.services))

abbrev LayerFixed : Element-F Element Group → Type 0
LayerFixed x = IsFixedPart (element_meaning no_graphs [] (map-Element Element Group Part Meaning part_of group_of x))

-- no name is bound before it
none_before : (simple : Bool) → names_before simple [] ≡ []
none_before true = refl
none_before false = refl

layer_fixed : (y : Element-F Fixed FixedGroup) → LayerFixed (map-Element Fixed FixedGroup Element Group (λ e. e.0) (λ g. g.0) y)
layer_fixed (Element-F.Triple p) = tt
layer_fixed (Element-F.Filter e) = tt
layer_fixed (Element-F.Optional g) = λ number before. g.1 number (names_before (group_of g.0).is_simple before) ∙ sym (g.1 0 (names_before (group_of g.0).is_simple []))
layer_fixed (Element-F.Union gs) = λ number before. alternatives_have gs number ∙ sym (alternatives_have gs 0)
layer_fixed (Element-F.Minus g) = λ number before. g.1 number []
layer_fixed (Element-F.Bind e name) = λ number before. refl
layer_fixed (Element-F.Values inline) = λ number before. refl
layer_fixed (Element-F.Service silent iri g) = λ number before. refl

element_fixed : (x : Element-F Element Group) (y : Element-F Fixed FixedGroup) → map-Element Fixed FixedGroup Element Group (λ e. e.0) (λ g. g.0) y ≡ x → ElementFixed (roll-Element x)
element_fixed x y is = subst IsFixedPart (sym (fold-roll-Element Part Meaning (element_meaning no_graphs []) group_meaning x)) (subst LayerFixed is (layer_fixed y))

each_fixed : (es : List Fixed) → AllByRecursion IsFixedPart (map part_of (map (λ e. e.0) es))
each_fixed [] = tt
each_fixed (e ∷ es) = (e.1, each_fixed es)

abbrev LayerGroupFixed : Group-F Element Group → Type 0
LayerGroupFixed x = IsFixed (group_cut (map part_of x.elements))

group_fixed : (x : Group-F Element Group) (y : Group-F Fixed FixedGroup) → map-Group Fixed FixedGroup Element Group (λ e. e.0) (λ g. g.0) y ≡ x → GroupFixed (roll-Group x)
group_fixed x y is =
    let parts = map part_of (map (λ e. e.0) y.elements) in
    let each = steps_have parts (each_fixed y.elements) in
    subst (λ (m : Meaning). IsFixed m.cut) (sym (fold-roll-Group Part Meaning (element_meaning no_graphs []) group_meaning x))
    (subst LayerGroupFixed is (λ number before. each (conditions_of parts) number before ∙ sym (each (conditions_of parts) 0 [])))

part_fixed : (e : Element) → IsFixedPart (part_of e)
part_fixed = ind-Element ElementFixed GroupFixed element_fixed group_fixed

all_fixed : (es : List Element) → AllByRecursion IsFixedPart (map part_of es)
all_fixed [] = tt
all_fixed (e ∷ es) = (part_fixed e, all_fixed es)

fixed_groups : List Group → List FixedGroup
fixed_groups gs = map (λ g. (g, ind-Group ElementFixed GroupFixed element_fixed group_fixed g)) gs

same_groups : (gs : List Group) → map (λ (g : FixedGroup). g.0) (fixed_groups gs) ≡ gs
unfolding fixed_groups
same_groups [] = refl
same_groups (g ∷ gs) = ap (λ (v : List Group). g ∷ v) (same_groups gs)

-- ---- element by element

each_element : (es : List Element) → flat_map in_part (map part_of es) ≡ flat_map in_element es
each_element [] = refl
each_element (e ∷ es) = ap (λ (v : List Occurrence). in_element e ++ v) (each_element es)

-- those of a group are those of its elements
pub of_elements : (g : Group) → in_group g ≡ flat_map in_element g.elements
of_elements g =
    let parts = map part_of g.elements in
    ap in_meaning (meaning_is g) ∙ steps_have parts (all_fixed g.elements) (conditions_of parts) 0 [] ∙ each_element g.elements

rolled : (x : Element-F Element Group) → in_element (roll-Element x) ≡ in_part (element_meaning no_graphs [] (map-Element Element Group Part Meaning part_of group_of x))
rolled x = ap in_part (fold-roll-Element Part Meaning (element_meaning no_graphs []) group_meaning x)

pub of_triple : (p : Pattern) → in_element (Triple p) ≡ []
of_triple p = ap in_element (sym (rolls-Triple p)) ∙ rolled (Element-F.Triple p)

pub of_filter : (e : Expr) → in_element (Filter e) ≡ []
of_filter e = ap in_element (sym (rolls-Filter e)) ∙ rolled (Element-F.Filter e)

pub of_bind : (e : Expr) (name : List ℕ) → in_element (Bind e name) ≡ []
of_bind e name = ap in_element (sym (rolls-Bind e name)) ∙ rolled (Element-F.Bind e name)

pub of_values : (inline : Inline) → in_element (Values inline) ≡ []
of_values inline = ap in_element (sym (rolls-Values inline)) ∙ rolled (Element-F.Values inline)

pub of_optional : (g : Group) → in_element (Optional g) ≡ in_group g
of_optional g =
    ap in_element (sym (rolls-Optional g))
    ∙ rolled (Element-F.Optional g)
    ∙ ap (λ (v : List (List ℕ)). flat_map occurrence_in ((group_of g).cut.stations 0 v)) (none_before (group_of g).is_simple)

pub of_minus : (g : Group) → in_element (Minus g) ≡ in_group g
of_minus g = ap in_element (sym (rolls-Minus g)) ∙ rolled (Element-F.Minus g)

pub of_union : (gs : List Group) → in_element (Union gs) ≡ flat_map in_group gs
of_union gs =
    ap in_element (sym (rolls-Union gs))
    ∙ rolled (Element-F.Union gs)
    ∙ subst (λ (v : List Group). flat_map occurrence_in (alternative_stations (map group_of v) 0) ≡ flat_map in_group v) (same_groups gs) (alternatives_have (fixed_groups gs) 0)

pub of_service : (silent : Bool) (iri : List ℕ) (g : Group) → in_element (Service silent iri g) ≡ one_of silent iri g
of_service silent iri g =
    ap in_element (sym (rolls-Service silent iri g))
    ∙ rolled (Element-F.Service silent iri g)
    ∙ ap (λ (v : Group). one_of silent iri v) (has_the_tree g no_graphs [])
