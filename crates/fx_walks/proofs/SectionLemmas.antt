-- The sections of a query: how they come element by element, and that their patterns are the query's.
use Rattle.std.proofs.Common.{◌≡◌, ◌∙◌, ap, sym, subst, refl, ℕ, ◌+◌, true, false, List, [], ◌∷◌, ◌++◌, map, append-nil, append_assoc}
use Rattle.std.proofs.lemmas.List.{map-append}
use Rattle.std.specs.List.{AllByRecursion, flat_map}
use Rattle.std.proofs.lemmas.Grind.{flat_map-append}
use Rattle.fx_terms.specs.declared.patterns.Pattern.{Pattern}
use Rattle.fx_algebra.specs.Answers.{no_graphs}
use Rattle.fx_algebra.specs.BasicGraphPatterns.{variables}
use Rattle.fx_algebra.specs.Groups.{Cut, Meaning, Part, pattern, condition, operator, Step, steps_of, stations_of, conditions_of, keeps_run, names_of_part, names_before, group_cut, alternative_stations, element_meaning, group_meaning}
use Rattle.fx_algebra.specs.Scopes.{mentions}
use Rattle.fx_algebra.specs.declared.expressions.Expr.{Expr}
use Rattle.fx_algebra.specs.declared.queries.Element.{Element, Element-F, map-Element, fold-roll-Element, roll-Element, ind-Element}
use Rattle.fx_algebra.specs.declared.queries.Element.TheVariants.{Union, rolls-Union}
use Rattle.fx_algebra.specs.declared.queries.Group.{Group, Group-F, ind-Group, fold-roll-Group, fold_out-Group, map-Group, roll-Group}
use Rattle.fx_algebra.specs.declared.queries.Query.{Query}
use Rattle.fx_algebra.proofs.CutLemmas.{part_binds}
use Rattle.fx_sources.specs.Patterns as all
use Rattle.fx_walks.specs.GroupsAsked.{with_run}
use Rattle.fx_walks.proofs.RunLemmas.{run_alone, run_first, run_more}
use Rattle.fx_walks.specs.SectionSteps.{part_of, group_of, part_patterns, part_filters, sections_in, inside_of, alternatives, run_of, sections_from}
use Rattle.fx_walks.specs.Sections.{run_patterns, section_of, sections}
use Rattle.fx_walks.specs.declared.sections.Section.{Section}

-- ---- the numbers of SERVICE make no difference to sections

abbrev IsNumberless : Cut → Type 0
IsNumberless c = (number : ℕ) (before : List (List ℕ)) → map section_of (c.stations number before) ≡ sections_in c before

abbrev NumberlessPart : Part → Type 0
NumberlessPart (pattern p) = Unit {0}
NumberlessPart (condition e) = Unit {0}
NumberlessPart (operator o) = IsNumberless o.cut

from_steps : (es : List Expr) (number : ℕ) (known : List (List ℕ)) (ps : List Pattern) (parts : List Part) → AllByRecursion NumberlessPart parts
    → map section_of (stations_of es number known (with_run ps (steps_of parts))) ≡ sections_from es known ps parts
from_steps es number known [] [] h = refl
from_steps es number known (p ∷ ps) [] h = ap (λ (v : List Step). map section_of (stations_of es number known v)) (run_alone p ps)
from_steps es number known ps (pattern p ∷ parts) h =
    ap (λ (v : List Step). map section_of (stations_of es number known v)) (run_more ps p (steps_of parts)) ∙ from_steps es number known (ps ++ p ∷ []) parts h.1
from_steps es number known ps (condition e ∷ parts) h = from_steps es number known ps parts h.1
from_steps es number known [] (operator o ∷ parts) h =
    let rest = stations_of es (number + o.services) (known ++ o.cut.names) (steps_of parts) in
    map-append section_of (o.cut.stations number known) rest
    ∙ ap (λ (v : List Section). v ++ map section_of rest) (h.0 number known)
    ∙ ap (λ (v : List Section). sections_in o.cut known ++ v) (from_steps es (number + o.services) (known ++ o.cut.names) [] parts h.1)
    ∙ ap (λ (v : List (List ℕ)). sections_in o.cut v ++ sections_from es (v ++ o.cut.names) [] parts) (sym (append-nil known))
from_steps es number known (p ∷ ps) (operator o ∷ parts) h =
    let inner = known ++ variables (p ∷ ps) in
    let rest = stations_of es (number + o.services) (inner ++ o.cut.names) (steps_of parts) in
    ap (λ (v : List Step). map section_of (stations_of es number known v)) (run_first p ps o (steps_of parts))
    ∙ ap (λ (v : List Section). run_of es known (p ∷ ps) ++ v)
    (map-append section_of (o.cut.stations number inner) rest
    ∙ ap (λ (v : List Section). v ++ map section_of rest) (h.0 number inner)
    ∙ ap (λ (v : List Section). sections_in o.cut inner ++ v) (from_steps es (number + o.services) (inner ++ o.cut.names) [] parts h.1))

pub filters_are : (parts : List Part) → conditions_of parts ≡ flat_map part_filters parts
filters_are [] = refl
filters_are (pattern p ∷ parts) = filters_are parts
filters_are (condition e ∷ parts) = ap (λ (v : List Expr). e ∷ v) (filters_are parts)
filters_are (operator o ∷ parts) = filters_are parts

abbrev ElementNumberless : Element → Type 0
ElementNumberless e = NumberlessPart (part_of e)

abbrev GroupNumberless : Group → Type 0
GroupNumberless g = IsNumberless (group_of g).cut

abbrev Numberless : Type 0
Numberless = (e : Element) × ElementNumberless e

abbrev NumberlessGroup : Type 0
NumberlessGroup = (g : Group) × GroupNumberless g

some_alternatives : (gs : List NumberlessGroup) (number : ℕ) → map section_of (alternative_stations (map group_of (map (λ g. g.0) gs)) number) ≡ alternatives (map group_of (map (λ g. g.0) gs))
some_alternatives [] number = refl
some_alternatives (g ∷ gs) number =
    let m = group_of g.0 in
    let rest = alternative_stations (map group_of (map (λ h. h.0) gs)) (number + m.services) in
    map-append section_of (m.cut.stations number []) rest
    ∙ ap (λ (v : List Section). v ++ map section_of rest) (g.1 number [])
    ∙ ap (λ (v : List Section). sections_in m.cut [] ++ v) (some_alternatives gs (number + m.services))

abbrev LayerNumberless : Element-F Element Group → Type 0
LayerNumberless x = NumberlessPart (element_meaning no_graphs [] (map-Element Element Group Part Meaning part_of group_of x))

layer_numberless : (y : Element-F Numberless NumberlessGroup) → LayerNumberless (map-Element Numberless NumberlessGroup Element Group (λ e. e.0) (λ g. g.0) y)
layer_numberless (Element-F.Triple p) = tt
layer_numberless (Element-F.Filter e) = tt
layer_numberless (Element-F.Optional g) = λ number before. g.1 number (names_before (group_of g.0).is_simple before)
layer_numberless (Element-F.Union gs) = λ number before. some_alternatives gs number ∙ sym (some_alternatives gs 0)
layer_numberless (Element-F.Minus g) = λ number before. g.1 number []
layer_numberless (Element-F.Bind e name) = λ number before. refl
layer_numberless (Element-F.Values inline) = λ number before. refl
layer_numberless (Element-F.Service silent iri g) = λ number before. refl

element_numberless : (x : Element-F Element Group) (y : Element-F Numberless NumberlessGroup) → map-Element Numberless NumberlessGroup Element Group (λ e. e.0) (λ g. g.0) y ≡ x → ElementNumberless (roll-Element x)
element_numberless x y is = subst NumberlessPart (sym (fold-roll-Element Part Meaning (element_meaning no_graphs []) group_meaning x)) (subst LayerNumberless is (layer_numberless y))

parts_numberless : (es : List Numberless) → AllByRecursion NumberlessPart (map part_of (map (λ e. e.0) es))
parts_numberless [] = tt
parts_numberless (e ∷ es) = (e.1, parts_numberless es)

abbrev LayerGroupNumberless : Group-F Element Group → Type 0
LayerGroupNumberless x = IsNumberless (group_cut (map part_of x.elements))

group_numberless : (x : Group-F Element Group) (y : Group-F Numberless NumberlessGroup) → map-Group Numberless NumberlessGroup Element Group (λ e. e.0) (λ g. g.0) y ≡ x → GroupNumberless (roll-Group x)
group_numberless x y is =
    let parts = map part_of (map (λ e. e.0) y.elements) in
    let each = parts_numberless y.elements in
    subst (λ (m : Meaning). IsNumberless m.cut) (sym (fold-roll-Group Part Meaning (element_meaning no_graphs []) group_meaning x))
    (subst LayerGroupNumberless is (λ number before. from_steps (conditions_of parts) number before [] parts each ∙ sym (from_steps (conditions_of parts) 0 before [] parts each)))

part_numberless : (e : Element) → NumberlessPart (part_of e)
part_numberless = ind-Element ElementNumberless GroupNumberless element_numberless group_numberless

all_numberless : (es : List Element) → AllByRecursion NumberlessPart (map part_of es)
all_numberless [] = tt
all_numberless (e ∷ es) = (part_numberless e, all_numberless es)

numbered_groups : List Group → List NumberlessGroup
numbered_groups gs = map (λ g. (g, ind-Group ElementNumberless GroupNumberless element_numberless group_numberless g)) gs

same_groups : (gs : List Group) → map (λ (g : NumberlessGroup). g.0) (numbered_groups gs) ≡ gs
unfolding numbered_groups
same_groups [] = refl
same_groups (g ∷ gs) = ap (λ (v : List Group). g ∷ v) (same_groups gs)

-- the sections inside a UNION are those of its groups
pub of_alternatives : (gs : List Group) (number : ℕ) → map section_of (alternative_stations (map group_of gs) number) ≡ alternatives (map group_of gs)
of_alternatives gs number = subst (λ (v : List Group). map section_of (alternative_stations (map group_of v) number) ≡ alternatives (map group_of v)) (same_groups gs) (some_alternatives (numbered_groups gs) number)

pub inside_union : (gs : List Group) (before : List (List ℕ)) → inside_of (part_of (Union gs)) before ≡ alternatives (map group_of gs)
inside_union gs before =
    ap (λ (p : Part). inside_of p before) (ap part_of (sym (rolls-Union gs)) ∙ fold-roll-Element Part Meaning (element_meaning no_graphs []) group_meaning (Element-F.Union gs))
    ∙ of_alternatives gs 0

-- the sections of a group are found element by element
pub of_parts : (es : List Element) (before : List (List ℕ)) → sections_in (group_cut (map part_of es)) before ≡ sections_from (flat_map part_filters (map part_of es)) before [] (map part_of es)
of_parts es before =
    let parts = map part_of es in
    from_steps (conditions_of parts) 0 before [] parts (all_numberless es)
    ∙ ap (λ (fs : List Expr). sections_from fs before [] parts) (filters_are parts)

-- ---- the patterns of runs

-- an element has these patterns in its runs
abbrev HasPatterns : Part → List Pattern → Type 0
HasPatterns (pattern p) ps = ps ≡ p ∷ []
HasPatterns (condition e) ps = ps ≡ []
HasPatterns (operator o) ps = (before : List (List ℕ)) → flat_map run_patterns (sections_in o.cut before) ≡ ps

run_has : (es : List Expr) (known : List (List ℕ)) (run : List Pattern) → flat_map run_patterns (run_of es known run) ≡ run
run_has es known [] = refl
run_has es known (p ∷ ps) = append-nil (p ∷ ps)

-- the patterns from a run on, where those of the elements behind it are known
abbrev From : List Expr → List Part → List Pattern → Type 0
From es parts qs = (known : List (List ℕ)) (run : List Pattern) → flat_map run_patterns (sections_from es known run parts) ≡ run ++ qs

one_more : (es : List Expr) (k : Part) (ps : List Pattern) (parts : List Part) (qs : List Pattern) → HasPatterns k ps → From es parts qs → From es (k ∷ parts) (ps ++ qs)
one_more es (pattern p) ps parts qs h f known run = f known (run ++ p ∷ []) ∙ append_assoc run (p ∷ []) qs ∙ ap (λ (v : List Pattern). run ++ (v ++ qs)) (sym h)
one_more es (condition e) ps parts qs h f known run = f known run ∙ ap (λ (v : List Pattern). run ++ (v ++ qs)) (sym h)
one_more es (operator o) ps parts qs h f known run =
    let after = known ++ variables run in
    let rest = sections_from es (after ++ o.cut.names) [] parts in
    flat_map-append run_patterns (run_of es known run) (sections_in o.cut after ++ rest)
    ∙ ap (λ (v : List Pattern). v ++ flat_map run_patterns (sections_in o.cut after ++ rest)) (run_has es known run)
    ∙ ap (λ (v : List Pattern). run ++ v)
    (flat_map-append run_patterns (sections_in o.cut after) rest
    ∙ ap (λ (v : List Pattern). v ++ flat_map run_patterns rest) (h after)
    ∙ ap (λ (v : List Pattern). ps ++ v) (f (after ++ o.cut.names) []))

abbrev ElementHas : Element → Type 0
ElementHas e = HasPatterns (part_of e) (all.of_element e)

abbrev GroupHas : Group → Type 0
GroupHas g = (before : List (List ℕ)) → flat_map run_patterns (sections_in (group_of g).cut before) ≡ all.of_group g

abbrev Known : Type 0
Known = (e : Element) × ElementHas e

abbrev KnownGroup : Type 0
KnownGroup = (g : Group) × GroupHas g

elements_have : (filters : List Expr) (es : List Known) → From filters (map part_of (map (λ e. e.0) es)) (all.all_of (map all.of_element (map (λ e. e.0) es)))
elements_have filters [] known run = run_has filters known run ∙ sym (append-nil run)
elements_have filters (e ∷ es) known run =
    one_more filters (part_of e.0) (all.of_element e.0) (map part_of (map (λ d. d.0) es)) (all.all_of (map all.of_element (map (λ d. d.0) es))) e.1 (elements_have filters es) known run

groups_have : (gs : List KnownGroup) → flat_map run_patterns (alternatives (map group_of (map (λ g. g.0) gs))) ≡ all.all_of (map all.of_group (map (λ g. g.0) gs))
groups_have [] = refl
groups_have (g ∷ gs) =
    let first = sections_in (group_of g.0).cut [] in
    let rest = alternatives (map group_of (map (λ h. h.0) gs)) in
    flat_map-append run_patterns first rest
    ∙ ap (λ (v : List Pattern). v ++ flat_map run_patterns rest) (g.1 [])
    ∙ ap (λ (v : List Pattern). all.of_group g.0 ++ v) (groups_have gs)

abbrev LayerHas : Element-F Element Group → Type 0
LayerHas x = HasPatterns (element_meaning no_graphs [] (map-Element Element Group Part Meaning part_of group_of x)) (all.element_patterns (map-Element Element Group (List Pattern) (List Pattern) all.of_element all.of_group x))

layer_has : (y : Element-F Known KnownGroup) → LayerHas (map-Element Known KnownGroup Element Group (λ e. e.0) (λ g. g.0) y)
layer_has (Element-F.Triple p) = refl
layer_has (Element-F.Filter e) = refl
layer_has (Element-F.Optional g) = λ before. g.1 (names_before (group_of g.0).is_simple before)
layer_has (Element-F.Union gs) = λ before. ap (λ (v : List Section). flat_map run_patterns v) (of_alternatives (map (λ g. g.0) gs) 0) ∙ groups_have gs
layer_has (Element-F.Minus g) = λ before. g.1 []
layer_has (Element-F.Bind e name) = λ before. refl
layer_has (Element-F.Values inline) = λ before. refl
layer_has (Element-F.Service silent iri g) = λ before. refl

element_has : (x : Element-F Element Group) (y : Element-F Known KnownGroup) → map-Element Known KnownGroup Element Group (λ e. e.0) (λ g. g.0) y ≡ x → ElementHas (roll-Element x)
element_has x y is =
    subst (λ (ps : List Pattern). HasPatterns (part_of (roll-Element x)) ps) (sym (fold-roll-Element (List Pattern) (List Pattern) all.element_patterns all.group_patterns x))
    (subst (λ (k : Part). HasPatterns k (all.element_patterns (map-Element Element Group (List Pattern) (List Pattern) all.of_element all.of_group x))) (sym (fold-roll-Element Part Meaning (element_meaning no_graphs []) group_meaning x))
    (subst LayerHas is (layer_has y)))

abbrev LayerGroupHas : Group-F Element Group → Type 0
LayerGroupHas x = (before : List (List ℕ)) → flat_map run_patterns (sections_in (group_cut (map part_of x.elements)) before) ≡ all.all_of (map all.of_element x.elements)

group_has : (x : Group-F Element Group) (y : Group-F Known KnownGroup) → map-Group Known KnownGroup Element Group (λ e. e.0) (λ g. g.0) y ≡ x → GroupHas (roll-Group x)
group_has x y is before =
    let es = map (λ e. e.0) y.elements in
    ap (λ (m : Meaning). flat_map run_patterns (sections_in m.cut before)) (fold-roll-Group Part Meaning (element_meaning no_graphs []) group_meaning x)
    ∙ subst LayerGroupHas is (λ b. ap (λ (v : List Section). flat_map run_patterns v) (of_parts es b) ∙ elements_have (flat_map part_filters (map part_of es)) y.elements b []) before
    ∙ sym (fold-roll-Group (List Pattern) (List Pattern) all.element_patterns all.group_patterns x)

pub runs_have : (q : Query) → flat_map run_patterns (sections q) ≡ all.patterns q
runs_have q = ind-Group ElementHas GroupHas element_has group_has q.group []

-- ---- one element more

-- where an element keeps the run, its patterns join it
pub kept_open : (es : List Expr) (known : List (List ℕ)) (run : List Pattern) (k : Part) (parts : List Part) → keeps_run k ≡ true → sections_from es known run (k ∷ parts) ≡ sections_from es known (run ++ part_patterns k) parts
kept_open es known run (pattern p) parts h = refl
kept_open es known run (condition e) parts h = ap (λ (v : List Pattern). sections_from es known v parts) (sym (append-nil run))
kept_open es known run (operator o) parts h = absurd (cc)

-- where it doesn't, the run ends, and what is inside it comes
pub ended : (es : List Expr) (known : List (List ℕ)) (run : List Pattern) (k : Part) (parts : List Part) → keeps_run k ≡ false
    → sections_from es known run (k ∷ parts) ≡ run_of es known run ++ (inside_of k (known ++ variables run) ++ sections_from es ((known ++ variables run) ++ names_of_part k) [] parts)
ended es known run (pattern p) parts h = absurd (cc)
ended es known run (condition e) parts h = absurd (cc)
ended es known run (operator o) parts h = refl

-- ---- groups as their elements

pub meaning_is : (g : Group) → group_of g ≡ group_meaning (record { elements = map part_of g.elements })
meaning_is g = fold_out-Group Part Meaning (element_meaning no_graphs []) group_meaning g

-- what was made of the first elements of a group, and what the others add
abbrev pub IsSoFar : List Section → List Expr → List (List ℕ) → List Element → List Section → List (List ℕ) → List Pattern → List Element → Type 0
IsSoFar start es before all done known run rest = done ++ sections_from es known run (map part_of rest) ≡ start ++ sections_from es before [] (map part_of all)

pub so_far_kept : (start : List Section) (es : List Expr) (before : List (List ℕ)) (all : List Element) (done : List Section) (known : List (List ℕ)) (run new : List Pattern) (e : Element) (rest others : List Element)
    → rest ≡ e ∷ others → keeps_run (part_of e) ≡ true → new ≡ run ++ part_patterns (part_of e) → IsSoFar start es before all done known run rest → IsSoFar start es before all done known new others
so_far_kept start es before all done known run new e rest others is h joined so =
    ap (λ (v : List Pattern). done ++ sections_from es known v (map part_of others)) joined
    ∙ ap (λ (v : List Section). done ++ v) (sym (kept_open es known run (part_of e) (map part_of others) h))
    ∙ ap (λ (v : List Element). done ++ sections_from es known run (map part_of v)) (sym is)
    ∙ so

pub so_far_ended : (start : List Section) (es : List Expr) (before : List (List ℕ)) (all : List Element) (done behind new : List Section) (known after names : List (List ℕ)) (run none : List Pattern) (e : Element) (rest others : List Element)
    → rest ≡ e ∷ others → keeps_run (part_of e) ≡ false → behind ≡ done ++ run_of es known run → after ≡ known ++ variables run → none ≡ [] → new ≡ behind ++ inside_of (part_of e) after → names ≡ after ++ mentions e
    → IsSoFar start es before all done known run rest → IsSoFar start es before all new names none others
so_far_ended start es before all done behind new known after names run none e rest others is h ends knows empty more binds so =
    let k = part_of e in
    let ps = map part_of others in
    let next = known ++ variables run in
    let own = run_of es known run in
    let inside = inside_of k next in
    let left = sections_from es (next ++ names_of_part k) [] ps in
    let made : new ≡ (done ++ own) ++ inside = more ∙ ap (λ (v : List Section). v ++ inside_of k after) ends ∙ ap (λ (v : List (List ℕ)). (done ++ own) ++ inside_of k v) knows in
    let named : names ≡ next ++ names_of_part k = binds ∙ ap (λ (v : List (List ℕ)). v ++ mentions e) knows ∙ ap (λ (v : List (List ℕ)). next ++ v) (sym (part_binds no_graphs [] e)) in
    ap (λ (v : List Section). v ++ sections_from es names none ps) made
    ∙ ap (λ (v : List (List ℕ)). ((done ++ own) ++ inside) ++ sections_from es v none ps) named
    ∙ ap (λ (v : List Pattern). ((done ++ own) ++ inside) ++ sections_from es (next ++ names_of_part k) v ps) empty
    ∙ append_assoc (done ++ own) inside left
    ∙ append_assoc done own (inside ++ left)
    ∙ ap (λ (v : List Section). done ++ v) (sym (ended es known run k ps h))
    ∙ ap (λ (v : List Element). done ++ sections_from es known run (map part_of v)) (sym is)
    ∙ so

pub so_far_all : (start : List Section) (before : List (List ℕ)) (g : Group) (es own : List Expr) (done new : List Section) (known : List (List ℕ)) (run : List Pattern) (rest elements : List Element)
    → elements ≡ g.elements → own ≡ flat_map part_filters (map part_of g.elements) → es ≡ own → rest ≡ [] → new ≡ done ++ run_of es known run → IsSoFar start own before elements done known run rest
    → new ≡ start ++ sections_in (group_of g).cut before
so_far_all start before g es own done new known run rest elements here filters same none ends so =
    ends
    ∙ ap (λ (v : List Expr). done ++ run_of v known run) same
    ∙ ap (λ (v : List Element). done ++ sections_from own known run (map part_of v)) (sym none)
    ∙ so
    ∙ ap (λ (v : List Expr). start ++ sections_from v before [] (map part_of elements)) filters
    ∙ ap (λ (v : List Element). start ++ sections_from (flat_map part_filters (map part_of g.elements)) before [] (map part_of v)) here
    ∙ ap (λ (v : List Section). start ++ v) (sym (of_parts g.elements before))
    ∙ ap (λ (m : Meaning). start ++ sections_in m.cut before) (sym (meaning_is g))
