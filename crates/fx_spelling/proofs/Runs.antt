-- Each run among the stations of an accepted query is one of the grammar.
use Rattle.std.proofs.Common.{◌≡◌, ◌∙◌, ap, sym, subst, refl, ℕ, ◌+◌, ◌<◌, Bool, true, false, ◌&&◌, List, [], ◌∷◌, ◌++◌, map, length, All, arith}
use Rattle.std.specs.Prelude.{codes}
use Rattle.std.specs.List.{AllByRecursion, flat_map}
use Rattle.std.proofs.lemmas.List.Elements.{All-from_recursion, All-weaker}
use Rattle.fx_terms.specs.declared.patterns.Pattern.{Pattern}
use Rattle.fx_algebra.specs.Answers.{no_graphs}
use Rattle.fx_algebra.specs.BasicGraphPatterns.{variables}
use Rattle.fx_algebra.specs.Cuts.{stations}
use Rattle.fx_algebra.specs.Groups.{Meaning, Part, pattern, condition, operator, Step, run, apply, with_pattern, steps_of, stations_of, conditions_of, names_before, alternative_stations, element_meaning, group_meaning, meaning}
use Rattle.fx_algebra.specs.Printed.{Word, fixed, marked, element_step, group_step, element_words, group_words, query_words, form_words, order_words, limit_words, offset_words, trailing_words}
use Rattle.fx_algebra.specs.Stations.{Station}
use Rattle.fx_algebra.specs.declared.expressions.Expr.{Expr}
use Rattle.fx_algebra.specs.declared.queries.Element.{Element, Element-F, map-Element, fold-roll-Element, roll-Element}
use Rattle.fx_algebra.specs.declared.queries.Group.{Group, Group-F, ind-Group, fold-roll-Group, map-Group, roll-Group}
use Rattle.fx_algebra.specs.declared.queries.Query.{Query}
use Rattle.fx_algebra.proofs.CutLemmas.{part_of}
use Rattle.fx_spelling.specs.Printable.{AreFine, Held, IsTriple, all_held, are_fresh, held, held_element, hold_element, hold_group, is_verb}
use Rattle.fx_spelling.specs.Runs.{HasRun, IsExpression, RunsAreOfTheGrammar}
use Rattle.fx_spelling.specs.Units.{FitUnitsHaveVerbs}
use Rattle.fx_spelling.proofs.Expressions.{fine_split}
use Rattle.fx_spelling.proofs.TakenQueries.{accepted_is_printable}
use Rattle.fx_spelling.proofs.Terms.{triple_from, verb_good}

both_true : (b c : Bool) → (b && c) ≡ true → (b ≡ true) × (c ≡ true)
both_true true c e = (refl, e)
both_true false c e = cc

-- ---- steps

abbrev HaveRuns : List Station → Type 0
HaveRuns all = AllByRecursion HasRun all

have_both : (xs ys : List Station) → HaveRuns xs → HaveRuns ys → HaveRuns (xs ++ ys)
have_both [] ys h k = k
have_both (x ∷ xs) ys h k = (h.0, have_both xs ys h.1 k)

-- a triple, an expression, or an operator that has such stations wherever it stands
abbrev GoodPart : Part → Type 0
GoodPart (pattern p) = IsTriple p
GoodPart (condition e) = IsExpression e
GoodPart (operator o) = (number : ℕ) (before : List (List ℕ)) → HaveRuns (o.cut.stations number before)

abbrev GoodStep : Step → Type 0
GoodStep (run ps) = (0 < length ps) × AllByRecursion IsTriple ps
GoodStep (apply o) = (number : ℕ) (before : List (List ℕ)) → HaveRuns (o.cut.stations number before)

good_pattern : (p : Pattern) (steps : List Step) → IsTriple p → AllByRecursion GoodStep steps → AllByRecursion GoodStep (with_pattern p steps)
good_pattern p [] h k = ((omega arith, (h, tt)), tt)
good_pattern p (run ps ∷ steps) h k = ((omega arith, (h, k.0.1)), k.1)
good_pattern p (apply o ∷ steps) h k = ((omega arith, (h, tt)), k)

good_steps : (parts : List Part) → AllByRecursion GoodPart parts → AllByRecursion GoodStep (steps_of parts)
good_steps [] h = tt
good_steps (pattern p ∷ parts) h = good_pattern p (steps_of parts) h.0 (good_steps parts h.1)
good_steps (condition e ∷ parts) h = good_steps parts h.1
good_steps (operator o ∷ parts) h = (h.0, good_steps parts h.1)

good_conditions : (parts : List Part) → AllByRecursion GoodPart parts → AllByRecursion IsExpression (conditions_of parts)
good_conditions [] h = tt
good_conditions (pattern p ∷ parts) h = good_conditions parts h.1
good_conditions (condition e ∷ parts) h = (h.0, good_conditions parts h.1)
good_conditions (operator o ∷ parts) h = good_conditions parts h.1

good_stations : (filters : List Expr) (number : ℕ) (before : List (List ℕ)) (steps : List Step) → All IsExpression filters → AllByRecursion GoodStep steps → HaveRuns (stations_of filters number before steps)
good_stations filters number before [] f h = tt
good_stations filters number before (run ps ∷ steps) f h = (record { some = h.0.0; triples = All-from_recursion IsTriple ps h.0.1; expressions = f }, good_stations filters number (before ++ variables ps) steps f h.1)
good_stations filters number before (apply o ∷ steps) f h =
    have_both (o.cut.stations number before) (stations_of filters (number + o.services) (before ++ o.cut.names) steps) (h.0 number before)
    (good_stations filters (number + o.services) (before ++ o.cut.names) steps f h.1)

-- ---- by induction over the group

-- where the grammar has an element or a group, and its words are those of their types
abbrev ElementGood : Element → Type 0
ElementGood e = (held_element e).good ≡ true → AreFine (element_words e) → GoodPart (part_of no_graphs [] e)

abbrev GroupGood : Group → Type 0
GroupGood g = (held g).good ≡ true → AreFine (group_words g) → (number : ℕ) (before : List (List ℕ)) → HaveRuns ((meaning no_graphs [] g).cut.stations number before)

abbrev Known : Type 0
Known = (e : Element) × ElementGood e

abbrev KnownGroup : Type 0
KnownGroup = (g : Group) × GroupGood g

abbrev elements : List Known → List Element
elements es = map (λ e. e.0) es

abbrev groups : List KnownGroup → List Group
groups gs = map (λ g. g.0) gs

-- -- of lists

elements_good : (es : List Known) → all_held (map held_element (elements es)) ≡ true → AreFine (flat_map (λ words. words) (map element_words (elements es))) → AllByRecursion GoodPart (map (part_of no_graphs []) (elements es))
elements_good [] h f = tt
elements_good (e ∷ es) h f =
    let t = both_true (held_element e.0).good (all_held (map held_element (elements es))) h in
    let w = fine_split (element_words e.0) (flat_map (λ words. words) (map element_words (elements es))) f in
    (e.1 t.0 w.0, elements_good es t.1 w.1)

-- alternatives behind the first, each behind UNION
alternatives_good : (gs : List KnownGroup) (number : ℕ) → all_held (map held (groups gs)) ≡ true → AreFine (marked (fixed (codes "UNION")) (map group_words (groups gs))) → HaveRuns (alternative_stations (map (meaning no_graphs []) (groups gs)) number)
alternatives_good [] number h f = tt
alternatives_good (g ∷ gs) number h f =
    let t = both_true (held g.0).good (all_held (map held (groups gs))) h in
    let w = fine_split (group_words g.0) (marked (fixed (codes "UNION")) (map group_words (groups gs))) f.1 in
    let one = meaning no_graphs [] g.0 in
    have_both (one.cut.stations number []) (alternative_stations (map (meaning no_graphs []) (groups gs)) (number + one.services)) (g.1 t.0 w.0 number []) (alternatives_good gs (number + one.services) t.1 w.1)

-- -- of one layer

abbrev LayerGood : Element-F Element Group → Type 0
LayerGood x =
    (hold_element (map-Element Element Group Held Held held_element held x)).good ≡ true
    → AreFine (element_step (map-Element Element Group (List Word) (List Word) element_words group_words x))
    → GoodPart (element_meaning no_graphs [] (map-Element Element Group Part Meaning (part_of no_graphs []) (meaning no_graphs []) x))

union_good : (gs : List KnownGroup) → LayerGood (map-Element Known KnownGroup Element Group (λ e. e.0) (λ g. g.0) (Element-F.Union gs))
union_good [] h f = λ number before. tt
union_good (g ∷ gs) h f = λ number before.
    let t = both_true (held g.0).good (all_held (map held (groups gs))) h in
    let w = fine_split (group_words g.0) (marked (fixed (codes "UNION")) (map group_words (groups gs))) f in
    let one = meaning no_graphs [] g.0 in
    have_both (one.cut.stations number []) (alternative_stations (map (meaning no_graphs []) (groups gs)) (number + one.services)) (g.1 t.0 w.0 number []) (alternatives_good gs (number + one.services) t.1 w.1)

layer_good : (y : Element-F Known KnownGroup) → LayerGood (map-Element Known KnownGroup Element Group (λ e. e.0) (λ g. g.0) y)
layer_good (Element-F.Triple p) = λ h f. triple_from p h f
layer_good (Element-F.Filter e) = λ h f. record { good = h; words = f.1 }
layer_good (Element-F.Optional g) = λ h f number before. g.1 h f.1 number (names_before (meaning no_graphs [] g.0).is_simple before)
layer_good (Element-F.Union gs) = union_good gs
layer_good (Element-F.Minus g) = λ h f number before. g.1 h f.1 number []
layer_good (Element-F.Bind e name) = λ h f number before. tt
layer_good (Element-F.Values inline) = λ h f number before. tt
layer_good (Element-F.Service silent iri g) = λ h f number before. (tt, tt)

element_good : (x : Element-F Element Group) (y : Element-F Known KnownGroup) → map-Element Known KnownGroup Element Group (λ e. e.0) (λ g. g.0) y ≡ x → ElementGood (roll-Element x)
element_good x y is = λ h f.
    subst GoodPart (sym (fold-roll-Element Part Meaning (element_meaning no_graphs []) group_meaning x))
    (subst LayerGood is (layer_good y) (ap (λ (v : Held). v.good) (sym (fold-roll-Element Held Held hold_element hold_group x)) ∙ h)
    (subst AreFine (fold-roll-Element (List Word) (List Word) element_step group_step x) f))

abbrev LayerGroupGood : Group-F Element Group → Type 0
LayerGroupGood x = all_held (map held_element x.elements) ≡ true → AreFine (flat_map (λ words. words) (map element_words x.elements)) → AllByRecursion GoodPart (map (part_of no_graphs []) x.elements)

group_good : (x : Group-F Element Group) (y : Group-F Known KnownGroup) → map-Group Known KnownGroup Element Group (λ e. e.0) (λ g. g.0) y ≡ x → GroupGood (roll-Group x)
group_good x y is = λ h f number before.
    let good = ap (λ (v : Held). v.good) (sym (fold-roll-Group Held Held hold_element hold_group x)) ∙ h in
    let each = (both_true (all_held (map held_element x.elements)) (are_fresh [] (map held_element x.elements)) good).0 in
    let whole = subst AreFine (fold-roll-Group (List Word) (List Word) element_step group_step x) f in
    let words = (fine_split (flat_map (λ (w : List Word). w) (map element_words x.elements)) (fixed (codes "}") ∷ []) whole.1).0 in
    let parts = subst LayerGroupGood is (elements_good y.elements) each words in
    let ps = map (part_of no_graphs []) x.elements in
    subst (λ (m : Meaning). HaveRuns (m.cut.stations number before)) (sym (fold-roll-Group Part Meaning (element_meaning no_graphs []) group_meaning x))
    (good_stations (conditions_of ps) number before (steps_of ps) (All-from_recursion IsExpression (conditions_of ps) (good_conditions ps parts)) (good_steps ps parts))

group_has_runs : (g : Group) → GroupGood g
group_has_runs = ind-Group ElementGood GroupGood element_good group_good

-- ---- queries

-- the words of its group
group_fine : (q : Query) → AreFine (query_words q) → AreFine (group_words q.group)
unfolding query_words
group_fine q f =
    let behind = order_words q.order ++ (limit_words q.limit ++ (offset_words q.offset ++ trailing_words q.inline)) in
    (fine_split (group_words q.group) behind (fine_split (form_words q.form) (group_words q.group ++ behind) f).1).0

pub runs_are_of_the_grammar : RunsAreOfTheGrammar
runs_are_of_the_grammar text q accepted =
    let printable = accepted_is_printable text q accepted in
    All-from_recursion HasRun (stations q) (group_has_runs q.group printable.group (group_fine q printable.words) 0 [])

-- ---- units

pub fit_units_have_verbs : FitUnitsHaveVerbs
fit_units_have_verbs u fit = All-weaker IsTriple (λ (p : Pattern). is_verb p.predicate ≡ true) (λ p h. verb_good p.predicate h.predicate) u.patterns fit.triples
