-- What an element is to its group.
use Rattle.std.proofs.Common.{◌≡◌, sym, subst, refl, ℕ, List, Option, Some, None}
use Rattle.fx_terms.specs.declared.triples.Triple.{Triple}
use Rattle.fx_terms.specs.declared.patterns.Pattern.{Pattern}
use Rattle.fx_algebra.proofs.CutLemmas.{part_of}
use Rattle.fx_algebra.specs.Groups.{Meaning, Operator, Part, condition, element_meaning, group_meaning, meaning, operator, pattern}
use Rattle.fx_algebra.specs.declared.expressions.Expr.{Expr}
use Rattle.fx_algebra.specs.declared.queries.Element.{Element, Element-F, fold-roll-Element, ind-Element, map-Element, roll-Element}
use Rattle.fx_algebra.specs.declared.queries.Group.{Group}
use Rattle.fx_laws_seeds.specs.Seeds.{filter_of, filter_step, pattern_of, pattern_step}

-- a triple pattern, a filter, or neither
pub data IsPart (part : Part) (p : Option Pattern) (e : Option Expr) : Type 0 where
  is_pattern : (q : Pattern) → part ≡ pattern q → p ≡ Some q → e ≡ None → IsPart part p e
  is_condition : (c : Expr) → part ≡ condition c → p ≡ None → e ≡ Some c → IsPart part p e
  is_other : (o : Operator) → part ≡ operator o → p ≡ None → e ≡ None → IsPart part p e

module _ (graphs : List ℕ → List Triple) (down : List ℕ) where
  abbrev KnownElement : Element → Type 0
  KnownElement e = IsPart (part_of graphs down e) (pattern_of e) (filter_of e)

  abbrev Known : Type 0
  Known = (e : Element) × KnownElement e

  abbrev KnownGroup : Type 0
  KnownGroup = Group × Unit {0}

  abbrev Layer : Element-F Element Group → Type 0
  Layer x = IsPart (element_meaning graphs down (map-Element Element Group Part Meaning (part_of graphs down) (meaning graphs down) x))
      (pattern_step (map-Element Element Group (Option Pattern) (Unit {0}) pattern_of (λ g. tt) x))
      (filter_step (map-Element Element Group (Option Expr) (Unit {0}) filter_of (λ g. tt) x))

  layer : (x : Element-F Element Group) → Layer x
  layer (Element-F.Triple p) = is_pattern p refl refl refl
  layer (Element-F.Filter e) = is_condition e refl refl refl
  layer (Element-F.Optional g) = is_other _ refl refl refl
  layer (Element-F.Union gs) = is_other _ refl refl refl
  layer (Element-F.Minus g) = is_other _ refl refl refl
  layer (Element-F.Bind e name) = is_other _ refl refl refl
  layer (Element-F.Values inline) = is_other _ refl refl refl
  layer (Element-F.Service silent iri g) = is_other _ refl refl refl

  element_known : (x : Element-F Element Group) → KnownElement (roll-Element x)
  element_known x =
      subst (λ (v : Part). IsPart v (pattern_of (roll-Element x)) (filter_of (roll-Element x))) (sym (fold-roll-Element Part Meaning (element_meaning graphs down) group_meaning x))
      (subst (λ (v : Option Pattern). IsPart (element_meaning graphs down (map-Element Element Group Part Meaning (part_of graphs down) (meaning graphs down) x)) v (filter_of (roll-Element x)))
      (sym (fold-roll-Element (Option Pattern) (Unit {0}) pattern_step (λ g. tt) x))
      (subst (λ (v : Option Expr). IsPart (element_meaning graphs down (map-Element Element Group Part Meaning (part_of graphs down) (meaning graphs down) x)) (pattern_step (map-Element Element Group (Option Pattern) (Unit {0}) pattern_of (λ g. tt) x)) v)
      (sym (fold-roll-Element (Option Expr) (Unit {0}) filter_step (λ g. tt) x))
      (layer x)))

  pub known : (e : Element) → KnownElement e
  known = ind-Element KnownElement (λ g. Unit {0}) (λ x y is. element_known x) (λ x y is. tt)
