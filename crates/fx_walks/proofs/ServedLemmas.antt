-- What is looked at of a group doesn't hang on how SERVICE is served.
use Rattle.std.proofs.Common.{◌≡◌, ◌∙◌, ap, sym, subst, refl, List, [], ◌∷◌, ◌++◌, map}
use Rattle.std.specs.List.{flat_map}
use Rattle.fx_terms.specs.declared.patterns.Pattern.{Pattern}
use Rattle.fx_algebra.specs.Answers.{no_graphs}
use Rattle.fx_algebra.specs.Groups.{Meaning, Part, element_meaning, group_meaning, keeps_run}
use Rattle.fx_algebra.specs.declared.queries.Element.{Element, Element-F, fold_out-Element, map-Element, out-Element}
use Rattle.fx_algebra.specs.declared.queries.Group.{Group}
use Rattle.fx_algebra.proofs.CutLemmas.{meanings_alike}
use Rattle.fx_walks.specs.GroupsAsked.{own_patterns}
use Rattle.fx_walks.specs.Served.{Served, element_in, group_in}
use Rattle.fx_walks.specs.SectionSteps.{group_of, part_of, part_patterns}

-- two parts have the same patterns, and a run goes on behind both or behind neither
record AreSame (x y : Part) : Type 0 where
  patterns : part_patterns x ≡ part_patterns y
  keeps : keeps_run x ≡ keeps_run y

module _ (served : Served) where
  abbrev Layer : Element-F Element Group → Type 0
  Layer x = AreSame (element_meaning served.graphs served.down (map-Element Element Group Part Meaning (element_in served) (group_in served) x)) (element_meaning no_graphs [] (map-Element Element Group Part Meaning part_of group_of x))

  layer_same : (x : Element-F Element Group) → Layer x
  layer_same (Element-F.Triple p) = record { patterns = refl; keeps = refl }
  layer_same (Element-F.Filter e) = record { patterns = refl; keeps = refl }
  layer_same (Element-F.Optional g) = record { patterns = refl; keeps = refl }
  layer_same (Element-F.Union gs) = record { patterns = refl; keeps = refl }
  layer_same (Element-F.Minus g) = record { patterns = refl; keeps = refl }
  layer_same (Element-F.Bind e name) = record { patterns = refl; keeps = refl }
  layer_same (Element-F.Values inline) = record { patterns = refl; keeps = refl }
  layer_same (Element-F.Service silent iri g) = record { patterns = refl; keeps = refl }

  same : (e : Element) → AreSame (element_in served e) (part_of e)
  same e =
      subst (λ (v : Part). AreSame v (part_of e)) (sym (fold_out-Element Part Meaning (element_meaning served.graphs served.down) group_meaning e))
      (subst (λ (v : Part). AreSame (element_meaning served.graphs served.down (map-Element Element Group Part Meaning (element_in served) (group_in served) (out-Element e))) v) (sym (fold_out-Element Part Meaning (element_meaning no_graphs []) group_meaning e))
      (layer_same (out-Element e)))

  pub same_patterns : (e : Element) → part_patterns (element_in served e) ≡ part_patterns (part_of e)
  same_patterns e = (same e).patterns

  pub same_keeps : (e : Element) → keeps_run (element_in served e) ≡ keeps_run (part_of e)
  same_keeps e = (same e).keeps

  each_same : (es : List Element) → flat_map part_patterns (map (element_in served) es) ≡ flat_map part_patterns (map part_of es)
  each_same [] = refl
  each_same (e ∷ es) =
      ap (λ (v : List Pattern). v ++ flat_map part_patterns (map (element_in served) es)) (same_patterns e)
      ∙ ap (λ (v : List Pattern). part_patterns (part_of e) ++ v) (each_same es)

  pub same_own : (g : Group) → flat_map part_patterns (map (element_in served) g.elements) ≡ own_patterns g
  same_own g = each_same g.elements

  pub same_simple : (g : Group) → (group_in served g).is_simple ≡ (group_of g).is_simple
  same_simple g = (meanings_alike served.graphs no_graphs served.down [] g).simple

  pub same_filters : (g : Group) → (group_in served g).filters ≡ (group_of g).filters
  same_filters g = (meanings_alike served.graphs no_graphs served.down [] g).filters
