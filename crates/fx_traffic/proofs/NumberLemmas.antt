-- The SERVICEs among the stations of a query are its occurrences, numbered in text order.
use Rattle.std.proofs.Common.{◌≡◌, ◌∙◌, ap, sym, subst, refl, ℕ, suc, ◌+◌, Bool, true, false, ◌&&◌, ◌||◌, not, List, [], ◌∷◌, ◌++◌, map, length, length-append, append_assoc, arith}
use Rattle.std.specs.List.{flat_map}
use Rattle.std.proofs.lemmas.Grind.{flat_map-append}
use Rattle.fx_terms.specs.declared.patterns.Pattern.{Pattern}
use Rattle.fx_algebra.specs.Answers.{no_graphs}
use Rattle.fx_algebra.specs.BasicGraphPatterns.{variables}
use Rattle.fx_algebra.specs.Groups.{Meaning, Part, pattern, condition, operator, Step, run, apply, with_pattern, with_part, steps_of, stations_of, conditions_of, part_services, parts_services, groups_services, names_before, alternative_stations, element_meaning, group_meaning, meaning}
use Rattle.fx_algebra.specs.Occurrences.{Occurrence, all_of, element_occurrences, group_occurrences, of_element, of_group}
use Rattle.fx_algebra.specs.Scopes.{pattern_names}
use Rattle.fx_algebra.specs.declared.expressions.Expr.{Expr}
use Rattle.fx_algebra.specs.declared.queries.Element.{Element, Element-F, map-Element, fold-roll-Element, roll-Element}
use Rattle.fx_algebra.specs.declared.queries.Group.{Group, Group-F, ind-Group, fold-roll-Group, map-Group, roll-Group}
use Rattle.fx_algebra.proofs.CutLemmas.{part_of}
use Rattle.fx_spelling.specs.Printable.{Held, all_held, any_serves, are_fresh, held, held_element, hold_element, hold_group}
use Rattle.fx_algebra.specs.Measures.{is_some}
use Rattle.fx_spelling.proofs.TakenQueries.{accepted_is_printable}
use Rattle.fx_traffic.specs.Numbers.{StationsHaveTheNumbers, numbered_from, service_in}

both_true : (b c : Bool) → (b && c) ≡ true → (b ≡ true) × (c ≡ true)
both_true true c e = (refl, e)
both_true false c e = cc

both_false : (b c : Bool) → (b || c) ≡ false → (b ≡ false) × (c ≡ false)
both_false true c e = cc
both_false false c e = (refl, e)

not_true : (b : Bool) → not b ≡ true → b ≡ false
not_true true e = cc
not_true false e = refl

numbered_append : (n : ℕ) (xs ys : List Occurrence) → numbered_from n (xs ++ ys) ≡ numbered_from n xs ++ numbered_from (n + length xs) ys
numbered_append n [] ys = let none : n ≡ n + 0 = omega arith in ap (λ (m : ℕ). numbered_from m ys) none
numbered_append n (x ∷ xs) ys =
    let next : suc n + length xs ≡ n + suc (length xs) = omega arith in
    ap (λ v. (n, x) ∷ v) (numbered_append (suc n) xs ys ∙ ap (λ (m : ℕ). numbered_from (suc n) xs ++ numbered_from m ys) next)

-- ---- steps

-- the stations of steps have these occurrences, whatever filters the group has, and wherever it stands
abbrev StepsNumbered : List Step → List Occurrence → Type 0
StepsNumbered steps os = (filters : List Expr) (number : ℕ) (before : List (List ℕ)) → flat_map service_in (stations_of filters number before steps) ≡ numbered_from number os

abbrev PartNumbered : Part → List Occurrence → Type 0
PartNumbered (pattern p) os = os ≡ []
PartNumbered (condition e) os = os ≡ []
PartNumbered (operator o) os = (number : ℕ) (before : List (List ℕ)) → flat_map service_in (o.cut.stations number before) ≡ numbered_from number os

with_pattern_numbered : (p : Pattern) (steps : List Step) (os : List Occurrence) → StepsNumbered steps os → StepsNumbered (with_pattern p steps) os
with_pattern_numbered p [] os h = λ filters number before. h filters number before
with_pattern_numbered p (run ps ∷ steps) os h = λ filters number before.
    ap (λ (names : List (List ℕ)). flat_map service_in (stations_of filters number names steps)) (sym (append_assoc before (pattern_names p) (variables ps)))
    ∙ h filters number (before ++ pattern_names p)
with_pattern_numbered p (apply o ∷ steps) os h = λ filters number before. h filters number (before ++ variables (p ∷ []))

with_part_numbered : (part : Part) (steps : List Step) (os more : List Occurrence) → part_services part ≡ length os → PartNumbered part os → StepsNumbered steps more → StepsNumbered (with_part part steps) (os ++ more)
with_part_numbered (pattern p) steps os more n h k = subst (λ (v : List Occurrence). StepsNumbered (with_pattern p steps) (v ++ more)) (sym h) (with_pattern_numbered p steps more k)
with_part_numbered (condition e) steps os more n h k = subst (λ (v : List Occurrence). StepsNumbered steps (v ++ more)) (sym h) k
with_part_numbered (operator o) steps os more n h k = λ filters number before.
    flat_map-append service_in (o.cut.stations number before) (stations_of filters (number + o.services) (before ++ o.cut.names) steps)
    ∙ ap (λ v. v ++ flat_map service_in (stations_of filters (number + o.services) (before ++ o.cut.names) steps)) (h number before)
    ∙ ap (λ v. numbered_from number os ++ v) (k filters (number + o.services) (before ++ o.cut.names))
    ∙ ap (λ (m : ℕ). numbered_from number os ++ numbered_from (number + m) more) n
    ∙ sym (numbered_append number os more)

-- ---- by induction over the group

-- an element has as many occurrences as it counts, none where no SERVICE is in it, and they have their numbers where the grammar has it
record ElementNumbered (e : Element) : Type 0 where
  counted : part_services (part_of no_graphs [] e) ≡ length (of_element e)
  unserved : (held_element e).serves ≡ false → of_element e ≡ []
  numbered : (held_element e).good ≡ true → PartNumbered (part_of no_graphs [] e) (of_element e)

record GroupNumbered (g : Group) : Type 0 where
  counted : (meaning no_graphs [] g).services ≡ length (of_group g)
  unserved : (held g).serves ≡ false → of_group g ≡ []
  numbered : (held g).good ≡ true → (number : ℕ) (before : List (List ℕ)) → flat_map service_in ((meaning no_graphs [] g).cut.stations number before) ≡ numbered_from number (of_group g)

abbrev Known : Type 0
Known = (e : Element) × ElementNumbered e

abbrev KnownGroup : Type 0
KnownGroup = (g : Group) × GroupNumbered g

abbrev elements : List Known → List Element
elements es = map (λ e. e.0) es

abbrev groups : List KnownGroup → List Group
groups gs = map (λ g. g.0) gs

-- -- of lists

elements_count : (es : List Known) → parts_services (map (part_of no_graphs []) (elements es)) ≡ length (all_of (map of_element (elements es)))
elements_count [] = refl
elements_count (e ∷ es) =
    let rest : parts_services (map (part_of no_graphs []) (elements es)) ≡ length (all_of (map of_element (elements es))) = elements_count es in
    let here : part_services (part_of no_graphs [] e.0) ≡ length (of_element e.0) = e.1.counted in
    omega (arith, rest, here, length-append (of_element e.0) (all_of (map of_element (elements es))))

groups_count : (gs : List KnownGroup) → groups_services (map (meaning no_graphs []) (groups gs)) ≡ length (all_of (map of_group (groups gs)))
groups_count [] = refl
groups_count (g ∷ gs) =
    let rest : groups_services (map (meaning no_graphs []) (groups gs)) ≡ length (all_of (map of_group (groups gs))) = groups_count gs in
    let here : (meaning no_graphs [] g.0).services ≡ length (of_group g.0) = g.1.counted in
    omega (arith, rest, here, length-append (of_group g.0) (all_of (map of_group (groups gs))))

elements_unserved : (es : List Known) → any_serves (map held_element (elements es)) ≡ false → all_of (map of_element (elements es)) ≡ []
elements_unserved [] h = refl
elements_unserved (e ∷ es) h =
    let t = both_false (held_element e.0).serves (any_serves (map held_element (elements es))) h in
    ap (λ (v : List Occurrence). v ++ all_of (map of_element (elements es))) (e.1.unserved t.0) ∙ elements_unserved es t.1

groups_unserved : (gs : List KnownGroup) → any_serves (map held (groups gs)) ≡ false → all_of (map of_group (groups gs)) ≡ []
groups_unserved [] h = refl
groups_unserved (g ∷ gs) h =
    let t = both_false (held g.0).serves (any_serves (map held (groups gs))) h in
    ap (λ (v : List Occurrence). v ++ all_of (map of_group (groups gs))) (g.1.unserved t.0) ∙ groups_unserved gs t.1

elements_numbered : (es : List Known) → all_held (map held_element (elements es)) ≡ true → StepsNumbered (steps_of (map (part_of no_graphs []) (elements es))) (all_of (map of_element (elements es)))
elements_numbered [] h = λ filters number before. refl
elements_numbered (e ∷ es) h =
    let t = both_true (held_element e.0).good (all_held (map held_element (elements es))) h in
    with_part_numbered (part_of no_graphs [] e.0) (steps_of (map (part_of no_graphs []) (elements es))) (of_element e.0) (all_of (map of_element (elements es))) e.1.counted (e.1.numbered t.0) (elements_numbered es t.1)

alternatives_numbered : (gs : List KnownGroup) (number : ℕ) → all_held (map held (groups gs)) ≡ true
    → flat_map service_in (alternative_stations (map (meaning no_graphs []) (groups gs)) number) ≡ numbered_from number (all_of (map of_group (groups gs)))
alternatives_numbered [] number h = refl
alternatives_numbered (g ∷ gs) number h =
    let t = both_true (held g.0).good (all_held (map held (groups gs))) h in
    let one = meaning no_graphs [] g.0 in
    let others = map (meaning no_graphs []) (groups gs) in
    flat_map-append service_in (one.cut.stations number []) (alternative_stations others (number + one.services))
    ∙ ap (λ v. v ++ flat_map service_in (alternative_stations others (number + one.services))) (g.1.numbered t.0 number [])
    ∙ ap (λ v. numbered_from number (of_group g.0) ++ v) (alternatives_numbered gs (number + one.services) t.1)
    ∙ ap (λ (m : ℕ). numbered_from number (of_group g.0) ++ numbered_from (number + m) (all_of (map of_group (groups gs)))) g.1.counted
    ∙ sym (numbered_append number (of_group g.0) (all_of (map of_group (groups gs))))

-- -- of one layer

record LayerNumbered (x : Element-F Element Group) : Type 0 where
  counted : part_services (element_meaning no_graphs [] (map-Element Element Group Part Meaning (part_of no_graphs []) (meaning no_graphs []) x)) ≡ length (element_occurrences (map-Element Element Group (List Occurrence) (List Occurrence) of_element of_group x))
  unserved : (hold_element (map-Element Element Group Held Held held_element held x)).serves ≡ false → element_occurrences (map-Element Element Group (List Occurrence) (List Occurrence) of_element of_group x) ≡ []
  numbered : (hold_element (map-Element Element Group Held Held held_element held x)).good ≡ true
      → PartNumbered (element_meaning no_graphs [] (map-Element Element Group Part Meaning (part_of no_graphs []) (meaning no_graphs []) x)) (element_occurrences (map-Element Element Group (List Occurrence) (List Occurrence) of_element of_group x))

layer_numbered : (y : Element-F Known KnownGroup) → LayerNumbered (map-Element Known KnownGroup Element Group (λ e. e.0) (λ g. g.0) y)
layer_numbered (Element-F.Triple p) = record { counted = refl; unserved = λ h. refl; numbered = λ h. refl }
layer_numbered (Element-F.Filter e) = record { counted = refl; unserved = λ h. refl; numbered = λ h. refl }
layer_numbered (Element-F.Optional g) =
    record { counted = g.1.counted; unserved = λ h. g.1.unserved h; numbered = λ h number before. g.1.numbered h number (names_before (meaning no_graphs [] g.0).is_simple before) }
layer_numbered (Element-F.Union gs) = record {
  counted = groups_count gs;
  unserved = λ h. groups_unserved gs h;
  numbered = λ h number before. alternatives_numbered gs number (both_true (is_some (map held (groups gs))) (all_held (map held (groups gs))) h).1;
}
layer_numbered (Element-F.Minus g) = record { counted = g.1.counted; unserved = λ h. g.1.unserved h; numbered = λ h number before. g.1.numbered h number [] }
layer_numbered (Element-F.Bind e name) = record { counted = refl; unserved = λ h. refl; numbered = λ h number before. refl }
layer_numbered (Element-F.Values inline) = record { counted = refl; unserved = λ h. refl; numbered = λ h number before. refl }
layer_numbered (Element-F.Service silent iri g) = record {
  counted = ap suc g.1.counted;
  unserved = λ h. cc;
  numbered = λ h number before.
      let t = both_true (held g.0).good (not (held g.0).serves) h in
      let none : of_group g.0 ≡ [] = g.1.unserved (not_true (held g.0).serves t.1) in
      ap (λ (os : List Occurrence). (number, (iri, silent)) ∷ numbered_from (suc number) os) (sym none);
}

element_numbered : (x : Element-F Element Group) (y : Element-F Known KnownGroup) → map-Element Known KnownGroup Element Group (λ e. e.0) (λ g. g.0) y ≡ x → ElementNumbered (roll-Element x)
element_numbered x y is =
    let layer = subst LayerNumbered is (layer_numbered y) in
    let parts = fold-roll-Element Part Meaning (element_meaning no_graphs []) group_meaning x in
    let occurrences = fold-roll-Element (List Occurrence) (List Occurrence) element_occurrences group_occurrences x in
    let holds = fold-roll-Element Held Held hold_element hold_group x in
    record {
      counted = ap part_services parts ∙ layer.counted ∙ ap length (sym occurrences);
      unserved = λ h. occurrences ∙ layer.unserved (ap (λ (v : Held). v.serves) (sym holds) ∙ h);
      numbered = λ h.
          subst (λ (v : Part). PartNumbered v (of_element (roll-Element x))) (sym parts)
          (subst (λ (v : List Occurrence). PartNumbered (element_meaning no_graphs [] (map-Element Element Group Part Meaning (part_of no_graphs []) (meaning no_graphs []) x)) v) (sym occurrences)
          (layer.numbered (ap (λ (v : Held). v.good) (sym holds) ∙ h)));
    }

record LayerGroupNumbered (x : Group-F Element Group) : Type 0 where
  counted : parts_services (map (part_of no_graphs []) x.elements) ≡ length (all_of (map of_element x.elements))
  unserved : any_serves (map held_element x.elements) ≡ false → all_of (map of_element x.elements) ≡ []
  numbered : all_held (map held_element x.elements) ≡ true → StepsNumbered (steps_of (map (part_of no_graphs []) x.elements)) (all_of (map of_element x.elements))

group_numbered : (x : Group-F Element Group) (y : Group-F Known KnownGroup) → map-Group Known KnownGroup Element Group (λ e. e.0) (λ g. g.0) y ≡ x → GroupNumbered (roll-Group x)
group_numbered x y is =
    let layer = subst LayerGroupNumbered is (record { counted = elements_count y.elements; unserved = elements_unserved y.elements; numbered = elements_numbered y.elements }) in
    let parts = fold-roll-Group Part Meaning (element_meaning no_graphs []) group_meaning x in
    let occurrences = fold-roll-Group (List Occurrence) (List Occurrence) element_occurrences group_occurrences x in
    let holds = fold-roll-Group Held Held hold_element hold_group x in
    record {
      counted = ap (λ (m : Meaning). m.services) parts ∙ layer.counted ∙ ap length (sym occurrences);
      unserved = λ h. occurrences ∙ layer.unserved (ap (λ (v : Held). v.serves) (sym holds) ∙ h);
      numbered = λ h number before.
          let good = ap (λ (v : Held). v.good) (sym holds) ∙ h in
          let each = (both_true (all_held (map held_element x.elements)) (are_fresh [] (map held_element x.elements)) good).0 in
          ap (λ (m : Meaning). flat_map service_in (m.cut.stations number before)) parts
          ∙ layer.numbered each (conditions_of (map (part_of no_graphs []) x.elements)) number before
          ∙ ap (numbered_from number) (sym occurrences);
    }

numbered : (g : Group) → GroupNumbered g
numbered = ind-Group ElementNumbered GroupNumbered element_numbered group_numbered

-- a group counts its occurrences
pub services_are_counted : (g : Group) → (meaning no_graphs [] g).services ≡ length (of_group g)
services_are_counted g = (numbered g).counted

pub stations_have_the_numbers : StationsHaveTheNumbers
stations_have_the_numbers text q accepted = (numbered q.group).numbered (accepted_is_printable text q accepted).group 0 []
