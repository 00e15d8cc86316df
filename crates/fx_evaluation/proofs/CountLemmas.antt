-- A group has as many occurrences of SERVICE as its list of them is long.
use Rattle.std.proofs.Common.{◌≡◌, ◌∙◌, ap, sym, subst, ℕ, suc, List, [], ◌∷◌, map, length, length-append, refl, arith}
use Rattle.fx_terms.specs.declared.triples.Triple.{Triple}
use Rattle.fx_algebra.specs.Groups.{Part, Meaning, meaning, element_meaning, group_meaning, part_services, parts_services, groups_services}
use Rattle.fx_algebra.specs.Occurrences.{Occurrence, all_of, element_occurrences, group_occurrences, of_group, of_element}
use Rattle.fx_algebra.specs.declared.queries.Element.{Element, Element-F, map-Element, fold-roll-Element, roll-Element}
use Rattle.fx_algebra.specs.declared.queries.Group.{Group, Group-F, ind-Group, fold-roll-Group, map-Group, roll-Group}
use Rattle.fx_evaluation.specs.GroupRows.{part_of}

module _ (graphs : List ℕ → List Triple) (down : List ℕ) where
  abbrev ElementCounts : Element → Type 0
  ElementCounts e = part_services (part_of graphs down e) ≡ length (of_element e)

  abbrev GroupCounts : Group → Type 0
  GroupCounts g = (meaning graphs down g).services ≡ length (of_group g)

  abbrev Counted : Type 0
  Counted = (e : Element) × ElementCounts e

  abbrev CountedGroup : Type 0
  CountedGroup = (g : Group) × GroupCounts g

  abbrev LayerCounts : Element-F Element Group → Type 0
  LayerCounts x =
      part_services (element_meaning graphs down (map-Element Element Group Part Meaning (part_of graphs down) (meaning graphs down) x)) ≡ length (element_occurrences (map-Element Element Group (List Occurrence) (List Occurrence) of_element of_group x))

  elements_count : (es : List Counted) → parts_services (map (part_of graphs down) (map (λ e. e.0) es)) ≡ length (all_of (map of_element (map (λ e. e.0) es)))
  elements_count [] = refl
  elements_count (e ∷ es) =
      let rest : parts_services (map (part_of graphs down) (map (λ e. e.0) es)) ≡ length (all_of (map of_element (map (λ e. e.0) es))) = elements_count es in
      let here : part_services (part_of graphs down e.0) ≡ length (of_element e.0) = e.1 in
      omega (arith, length-append (of_element e.0) (all_of (map of_element (map (λ e. e.0) es))))

  groups_count : (gs : List CountedGroup) → groups_services (map (meaning graphs down) (map (λ g. g.0) gs)) ≡ length (all_of (map of_group (map (λ g. g.0) gs)))
  groups_count [] = refl
  groups_count (g ∷ gs) =
      let rest : groups_services (map (meaning graphs down) (map (λ g. g.0) gs)) ≡ length (all_of (map of_group (map (λ g. g.0) gs))) = groups_count gs in
      let here : (meaning graphs down g.0).services ≡ length (of_group g.0) = g.1 in
      omega (arith, length-append (of_group g.0) (all_of (map of_group (map (λ g. g.0) gs))))

  layer_counts : (y : Element-F Counted CountedGroup) → LayerCounts (map-Element Counted CountedGroup Element Group (λ e. e.0) (λ g. g.0) y)
  layer_counts (Element-F.Triple p) = refl
  layer_counts (Element-F.Filter e) = refl
  layer_counts (Element-F.Optional g) = g.1
  layer_counts (Element-F.Union gs) = groups_count gs
  layer_counts (Element-F.Minus g) = g.1
  layer_counts (Element-F.Bind e name) = refl
  layer_counts (Element-F.Values inline) = refl
  layer_counts (Element-F.Service silent iri g) = ap suc g.1

  element_counts : (x : Element-F Element Group) (y : Element-F Counted CountedGroup) → map-Element Counted CountedGroup Element Group (λ e. e.0) (λ g. g.0) y ≡ x → ElementCounts (roll-Element x)
  element_counts x y is =
      ap part_services (fold-roll-Element Part Meaning (element_meaning graphs down) group_meaning x)
      ∙ subst LayerCounts is (layer_counts y)
      ∙ ap length (sym (fold-roll-Element (List Occurrence) (List Occurrence) element_occurrences group_occurrences x))

  abbrev LayerGroupCounts : Group-F Element Group → Type 0
  LayerGroupCounts x = parts_services (map (part_of graphs down) x.elements) ≡ length (all_of (map of_element x.elements))

  group_counts : (x : Group-F Element Group) (y : Group-F Counted CountedGroup) → map-Group Counted CountedGroup Element Group (λ e. e.0) (λ g. g.0) y ≡ x → GroupCounts (roll-Group x)
  group_counts x y is =
      ap (λ (m : Meaning). m.services) (fold-roll-Group Part Meaning (element_meaning graphs down) group_meaning x)
      ∙ subst LayerGroupCounts is (elements_count y.elements)
      ∙ ap length (sym (fold-roll-Group (List Occurrence) (List Occurrence) element_occurrences group_occurrences x))

  pub services_count : (g : Group) → (meaning graphs down g).services ≡ length (of_group g)
  services_count = ind-Group ElementCounts GroupCounts element_counts group_counts
