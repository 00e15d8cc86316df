-- The rows of a plain query are the solutions of its patterns.
use Rattle.std.proofs.Common.{◌≡◌, ◌∙◌, ap, sym, refl, ℕ, Bool, true, false, ◌&&◌, List, [], ◌∷◌, map, Option, Some, None}
use Rattle.std.specs.Prelude.{◌==◌, is_some, is_none}
use Rattle.std.specs.List.{filter_map, list_all, cons_option}
use Rattle.fx_terms.specs.declared.triples.Triple.{Triple}
use Rattle.fx_terms.specs.declared.patterns.Pattern.{Pattern}
use Rattle.fx_algebra.specs.Answers.{element_pattern, group_patterns, is_triple, pattern_in, patterns_of, query_rows, with_inline, is_plain_form, is_empty_list, IsPlain}
use Rattle.fx_algebra.specs.BasicGraphPatterns.{bgp}
use Rattle.fx_algebra.specs.Conditions.{holds}
use Rattle.fx_algebra.specs.Groups.{Meaning, Part, pattern, run, with_pattern, steps_of, conditions_of, after, one_empty, element_meaning, group_meaning, group_rows, meaning}
use Rattle.fx_algebra.specs.Operators.{filtered}
use Rattle.fx_algebra.specs.Solutions.{Bindings}
use Rattle.fx_algebra.specs.declared.queries.Element.{Element, Element-F, fold-Element, fold_out-Element, out-Element}
use Rattle.fx_algebra.specs.declared.queries.Element.TheFolds.{map-Element}
use Rattle.fx_algebra.specs.declared.queries.Group.{Group, fold-Group, fold_out-Group}
use Rattle.fx_algebra.specs.declared.queries.Inline.{Inline}
use Rattle.fx_algebra.specs.declared.queries.Query.{Query}
use Rattle.fx_algebra.proofs.JoinLemmas.{join_first}

both : (a b : Bool) → (a && b) ≡ true → (a ≡ true) × (b ≡ true)
both true b h = (refl, h)
both false b h = cc

-- ---- elements that are patterns

module _ (graphs : List ℕ → List Triple) (down : List ℕ) where
  abbrev part_of : Element → Part
  part_of = fold-Element Part Meaning (element_meaning graphs down) group_meaning

  abbrev meaning_of : Group → Meaning
  meaning_of = fold-Group Part Meaning (element_meaning graphs down) group_meaning

  -- an element with a pattern is this to its group
  abbrev IsPattern : Option Pattern → Part → Type 0
  IsPattern found part = (p : Pattern) × (found ≡ Some p) × (part ≡ pattern p)

  by_layer : (layer : Element-F Element Group) (found : Option Pattern) (part : Part) → found ≡ element_pattern (map-Element Element Group (Option Pattern) (List Pattern) pattern_in patterns_of layer)
      → part ≡ element_meaning graphs down (map-Element Element Group Part Meaning part_of meaning_of layer) → is_some found ≡ true → IsPattern found part
  by_layer (Element-F.Triple p) found part e f h = (p, e, f)
  by_layer (Element-F.Filter x) found part e f h = absurd (cc)
  by_layer (Element-F.Optional g) found part e f h = absurd (cc)
  by_layer (Element-F.Union gs) found part e f h = absurd (cc)
  by_layer (Element-F.Minus g) found part e f h = absurd (cc)
  by_layer (Element-F.Bind x name) found part e f h = absurd (cc)
  by_layer (Element-F.Values inline) found part e f h = absurd (cc)
  by_layer (Element-F.Service silent iri g) found part e f h = absurd (cc)

  is_pattern : (e : Element) → is_triple e ≡ true → IsPattern (pattern_in e) (part_of e)
  is_pattern e h =
      by_layer (out-Element e) (pattern_in e) (part_of e)
      (fold_out-Element (Option Pattern) (List Pattern) element_pattern group_patterns e)
      (fold_out-Element Part Meaning (element_meaning graphs down) group_meaning e) h

  -- the parts of elements that are patterns
  all_patterns : (es : List Element) → list_all is_triple es ≡ true → map part_of es ≡ map pattern (filter_map (λ p. p) (map pattern_in es))
  all_patterns [] h = refl
  all_patterns (e ∷ es) h =
      let t = both (is_triple e) (list_all is_triple es) h in
      let p = is_pattern e t.0 in
      ap (λ part. part ∷ map part_of es) p.2
      ∙ ap (λ rest. pattern p.0 ∷ rest) (all_patterns es t.1)
      ∙ ap (λ found. map pattern (cons_option found (filter_map (λ q. q) (map pattern_in es)))) (sym p.1)

one_run : (p : Pattern) (ps : List Pattern) → steps_of (map pattern (p ∷ ps)) ≡ run (p ∷ ps) ∷ []
one_run p [] = refl
one_run p (q ∷ ps) = ap (λ steps. with_pattern p steps) (one_run q ps)

no_conditions : (ps : List Pattern) → conditions_of (map pattern ps) ≡ []
no_conditions [] = refl
no_conditions (p ∷ ps) = no_conditions ps

-- patterns alone are one basic graph pattern
patterns_give : (graph : List Triple) (ps : List Pattern) → after graph 0 one_empty (steps_of (map pattern ps)) ≡ bgp graph ps
patterns_give graph [] = refl
patterns_give graph (p ∷ ps) = ap (after graph 0 one_empty) (one_run p ps) ∙ join_first graph (p ∷ ps)

unfiltered : (rows : List Bindings) → filtered [] rows ≡ rows
unfolding holds
unfiltered [] = refl
unfiltered (row ∷ rows) = ap (λ rest. row ∷ rest) (unfiltered rows)

group_is : (g : Group) (graphs : List ℕ → List Triple) (down : List ℕ) → meaning graphs down g ≡ group_meaning (record { elements = map (part_of graphs down) g.elements })
group_is g graphs down = fold_out-Group Part Meaning (element_meaning graphs down) group_meaning g

patterns_are : (g : Group) → patterns_of g ≡ filter_map (λ p. p) (map pattern_in g.elements)
patterns_are g = fold_out-Group (Option Pattern) (List Pattern) element_pattern group_patterns g

no_inline : (o : Option Inline) (rows : List Bindings) → is_none o ≡ true → with_inline o rows ≡ rows
no_inline None rows f = refl
no_inline (Some inline) rows f = absurd (cc)

group_gives : (parts : List Part) (ps : List Pattern) (graph : List Triple) → parts ≡ map pattern ps → group_rows (group_meaning (record { elements = parts })) graph 0 ≡ bgp graph ps
group_gives parts ps graph e =
    ap (λ v. filtered (conditions_of v) (after graph 0 one_empty (steps_of v))) e
    ∙ ap (λ v. filtered v (after graph 0 one_empty (steps_of (map pattern ps)))) (no_conditions ps)
    ∙ unfiltered (after graph 0 one_empty (steps_of (map pattern ps)))
    ∙ patterns_give graph ps

-- the rows of a plain query are the solutions of its patterns
pub plain_rows : (q : Query) (graph : List Triple) (graphs : List ℕ → List Triple) (down : List ℕ) → IsPlain q → query_rows q graph graphs down ≡ bgp graph (patterns_of q.group)
plain_rows q graph graphs down h =
    let a = both (is_plain_form q.form) _ h in
    let b = both (list_all is_triple q.group.elements) _ a.1 in
    let c = both (is_empty_list q.order) _ b.1 in
    let d = both (q.offset == 0) _ c.1 in
    let e = both (is_none q.limit) (is_none q.inline) d.1 in
    let es = q.group.elements in
    no_inline q.inline (group_rows (meaning graphs down q.group) graph 0) e.1
    ∙ ap (λ m. group_rows m graph 0) (group_is q.group graphs down)
    ∙ group_gives (map (part_of graphs down) es) (filter_map (λ p. p) (map pattern_in es)) graph (all_patterns graphs down es b.0)
    ∙ ap (bgp graph) (sym (patterns_are q.group))
