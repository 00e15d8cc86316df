-- The rows of a group without SERVICE don't hang on how SERVICE is served, nor on numbers.
use Rattle.std.proofs.Common.{◌≡◌, ◌∙◌, ap, sym, subst, refl, ℕ, ◌+◌, List, [], ◌∷◌, ◌++◌, map}
use Rattle.fx_terms.specs.declared.triples.Triple.{Triple}
use Rattle.fx_terms.specs.declared.patterns.Pattern.{Pattern}
use Rattle.fx_algebra.specs.BasicGraphPatterns.{bgp}
use Rattle.fx_algebra.specs.Groups.{Meaning, Operator, Part, pattern, condition, operator, Step, run, apply, with_pattern, with_part, steps_of, after, group_rows, alternatives, element_meaning, group_meaning, one_empty}
use Rattle.fx_algebra.specs.Occurrences.{Occurrence, all_of, element_occurrences, group_occurrences, of_element, of_group}
use Rattle.fx_algebra.specs.Operators.{filtered, join, left_join, minus}
use Rattle.fx_algebra.specs.Solutions.{Bindings}
use Rattle.fx_algebra.specs.declared.expressions.Expr.{Expr}
use Rattle.fx_algebra.specs.declared.queries.Element.{Element, Element-F, map-Element, fold-roll-Element, roll-Element}
use Rattle.fx_algebra.specs.declared.queries.Group.{Group, Group-F, ind-Group, fold-roll-Group, map-Group, roll-Group}
use Rattle.fx_algebra.proofs.CutLemmas.{meanings_alike}
use Rattle.fx_walks.specs.Served.{Served, element_in, group_in}

none_front : {X : Type 0} (xs ys : List X) → xs ++ ys ≡ [] → xs ≡ []
none_front [] ys h = refl
none_front (x ∷ xs) ys h = cc

none_back : {X : Type 0} (xs ys : List X) → xs ++ ys ≡ [] → ys ≡ []
none_back [] ys h = h
none_back (x ∷ xs) ys h = cc

-- two operators make the same of the same rows
abbrev MakeSame : Operator → Operator → Type 0
MakeSame o u = (graph : List Triple) (n m : ℕ) (rows : List Bindings) → o.rows graph n rows ≡ u.rows graph m rows

-- two parts are the same pattern, are filters, or are such operators
data AreFree (x y : Part) : Type 0 where
  two_patterns : (p : Pattern) → x ≡ pattern p → y ≡ pattern p → AreFree x y
  two_conditions : (d e : Expr) → x ≡ condition d → y ≡ condition e → AreFree x y
  two_operators : (o u : Operator) → x ≡ operator o → y ≡ operator u → MakeSame o u → AreFree x y

abbrev AreFreeSteps : List Step → List Step → Type 0
AreFreeSteps [] ts = ts ≡ []
AreFreeSteps (run ps ∷ ss) ts = (ys : List Step) × (ts ≡ run ps ∷ ys) × AreFreeSteps ss ys
AreFreeSteps (apply o ∷ ss) ts = (u : Operator) × (ys : List Step) × (ts ≡ apply u ∷ ys) × MakeSame o u × AreFreeSteps ss ys

pattern_free : (p : Pattern) (ss ts : List Step) → AreFreeSteps ss ts → AreFreeSteps (with_pattern p ss) (with_pattern p ts)
pattern_free p [] ts h = ([], ap (with_pattern p) h, refl)
pattern_free p (run ps ∷ ss) ts h = (h.0, ap (with_pattern p) h.1, h.2)
pattern_free p (apply o ∷ ss) ts h = (apply h.0 ∷ h.1, ap (with_pattern p) h.2, (h.0, h.1, refl, h.3, h.4))

both_parts : (ss ts : List Step) (x y v w : Part) → x ≡ v → y ≡ w → AreFreeSteps (with_part v ss) (with_part w ts) → AreFreeSteps (with_part x ss) (with_part y ts)
both_parts ss ts x y v w a b h = subst (λ (z : Part). AreFreeSteps (with_part z ss) (with_part y ts)) (sym a) (subst (λ (z : Part). AreFreeSteps (with_part v ss) (with_part z ts)) (sym b) h)

part_free : (x y : Part) (ss ts : List Step) → AreFree x y → AreFreeSteps ss ts → AreFreeSteps (with_part x ss) (with_part y ts)
part_free x y ss ts (two_patterns p a b) h = both_parts ss ts x y (pattern p) (pattern p) a b (pattern_free p ss ts h)
part_free x y ss ts (two_conditions d e a b) h = both_parts ss ts x y (condition d) (condition e) a b h
part_free x y ss ts (two_operators o u a b k) h = both_parts ss ts x y (operator o) (operator u) a b (u, ts, refl, k, h)

after_free : (graph : List Triple) (ss ts : List Step) (n m : ℕ) (rows : List Bindings) → AreFreeSteps ss ts → after graph n rows ss ≡ after graph m rows ts
after_free graph [] ts n m rows h = sym (ap (after graph m rows) h)
after_free graph (run ps ∷ ss) ts n m rows h = after_free graph ss h.0 n m (join rows (bgp graph ps)) h.2 ∙ sym (ap (after graph m rows) h.1)
after_free graph (apply o ∷ ss) ts n m rows h =
    after_free graph ss h.1 (n + o.services) (m + h.0.services) (o.rows graph n rows) h.4
    ∙ ap (λ (v : List Bindings). after graph (m + h.0.services) v h.1) (h.3 graph n m rows)
    ∙ sym (ap (after graph m rows) h.2)

-- ---- by induction over the group

module _ (served other : Served) where
  abbrev ElementFree : Element → Type 0
  ElementFree e = of_element e ≡ [] → AreFree (element_in served e) (element_in other e)

  abbrev GroupFree : Group → Type 0
  GroupFree g = of_group g ≡ [] → (graph : List Triple) (n m : ℕ) → (group_in served g).rows graph n ≡ (group_in other g).rows graph m

  abbrev Known : Type 0
  Known = (e : Element) × ElementFree e

  abbrev KnownGroup : Type 0
  KnownGroup = (g : Group) × GroupFree g

  filters_same : (g : Group) → (group_in served g).filters ≡ (group_in other g).filters
  filters_same g = (meanings_alike served.graphs other.graphs served.down other.down g).filters

  whole_same : (g : Group) → ((graph : List Triple) (n m : ℕ) → (group_in served g).rows graph n ≡ (group_in other g).rows graph m) → (graph : List Triple) (n m : ℕ) → group_rows (group_in served g) graph n ≡ group_rows (group_in other g) graph m
  whole_same g h graph n m =
      ap (λ (fs : List Expr). filtered fs ((group_in served g).rows graph n)) (filters_same g)
      ∙ ap (filtered (group_in other g).filters) (h graph n m)

  alternatives_same : (gs : List KnownGroup) → all_of (map of_group (map (λ g. g.0) gs)) ≡ [] → (graph : List Triple) (n m : ℕ)
      → alternatives (map (group_in served) (map (λ g. g.0) gs)) graph n ≡ alternatives (map (group_in other) (map (λ g. g.0) gs)) graph m
  alternatives_same [] none graph n m = refl
  alternatives_same (g ∷ gs) none graph n m =
      let rest = all_of (map of_group (map (λ (k : KnownGroup). k.0) gs)) in
      let a = group_in served g.0 in
      let b = group_in other g.0 in
      ap (λ (v : List Bindings). v ++ alternatives (map (group_in served) (map (λ (k : KnownGroup). k.0) gs)) graph (n + a.services)) (whole_same g.0 (g.1 (none_front (of_group g.0) rest none)) graph n m)
      ∙ ap (λ (v : List Bindings). group_rows b graph m ++ v) (alternatives_same gs (none_back (of_group g.0) rest none) graph (n + a.services) (m + b.services))

  abbrev LayerFree : Element-F Element Group → Type 0
  LayerFree x =
      element_occurrences (map-Element Element Group (List Occurrence) (List Occurrence) of_element of_group x) ≡ []
      → AreFree (element_meaning served.graphs served.down (map-Element Element Group Part Meaning (element_in served) (group_in served) x)) (element_meaning other.graphs other.down (map-Element Element Group Part Meaning (element_in other) (group_in other) x))

  layer_free : (y : Element-F Known KnownGroup) → LayerFree (map-Element Known KnownGroup Element Group (λ e. e.0) (λ g. g.0) y)
  layer_free (Element-F.Triple p) none = two_patterns p refl refl
  layer_free (Element-F.Filter e) none = two_conditions e e refl refl
  layer_free (Element-F.Optional g) none =
      two_operators _ _ refl refl
      (λ graph n m rows.
      ap (λ (v : List Bindings). left_join rows v (group_in served g.0).filters) (g.1 none graph n m)
      ∙ ap (left_join rows ((group_in other g.0).rows graph m)) (filters_same g.0))
  layer_free (Element-F.Union gs) none = two_operators _ _ refl refl (λ graph n m rows. ap (join rows) (alternatives_same gs none graph n m))
  layer_free (Element-F.Minus g) none = two_operators _ _ refl refl (λ graph n m rows. ap (minus rows) (whole_same g.0 (g.1 none) graph n m))
  layer_free (Element-F.Bind e name) none = two_operators _ _ refl refl (λ graph n m rows. refl)
  layer_free (Element-F.Values inline) none = two_operators _ _ refl refl (λ graph n m rows. refl)
  layer_free (Element-F.Service silent iri g) none = absurd (cc)

  element_free : (x : Element-F Element Group) (y : Element-F Known KnownGroup) → map-Element Known KnownGroup Element Group (λ e. e.0) (λ g. g.0) y ≡ x → ElementFree (roll-Element x)
  element_free x y is = λ none.
      subst (λ (v : Part). AreFree v (element_in other (roll-Element x))) (sym (fold-roll-Element Part Meaning (element_meaning served.graphs served.down) group_meaning x))
      (subst (λ (v : Part). AreFree (element_meaning served.graphs served.down (map-Element Element Group Part Meaning (element_in served) (group_in served) x)) v) (sym (fold-roll-Element Part Meaning (element_meaning other.graphs other.down) group_meaning x))
      (subst LayerFree is (layer_free y) (sym (fold-roll-Element (List Occurrence) (List Occurrence) element_occurrences group_occurrences x) ∙ none)))

  steps_free : (es : List Known) → all_of (map of_element (map (λ e. e.0) es)) ≡ [] → AreFreeSteps (steps_of (map (element_in served) (map (λ e. e.0) es))) (steps_of (map (element_in other) (map (λ e. e.0) es)))
  steps_free [] none = refl
  steps_free (e ∷ es) none =
      let rest = all_of (map of_element (map (λ (k : Known). k.0) es)) in
      part_free (element_in served e.0) (element_in other e.0) (steps_of (map (element_in served) (map (λ (k : Known). k.0) es))) (steps_of (map (element_in other) (map (λ (k : Known). k.0) es))) (e.1 (none_front (of_element e.0) rest none))
      (steps_free es (none_back (of_element e.0) rest none))

  abbrev LayerGroupFree : Group-F Element Group → Type 0
  LayerGroupFree x =
      all_of (map of_element x.elements) ≡ [] → (graph : List Triple) (n m : ℕ)
      → after graph n one_empty (steps_of (map (element_in served) x.elements)) ≡ after graph m one_empty (steps_of (map (element_in other) x.elements))

  group_free : (x : Group-F Element Group) (y : Group-F Known KnownGroup) → map-Group Known KnownGroup Element Group (λ e. e.0) (λ g. g.0) y ≡ x → GroupFree (roll-Group x)
  group_free x y is = λ none graph n m.
      let lists = map (λ (e : Known). e.0) y.elements in
      ap (λ (v : Meaning). v.rows graph n) (fold-roll-Group Part Meaning (element_meaning served.graphs served.down) group_meaning x)
      ∙ subst LayerGroupFree is (λ free g a b. after_free g (steps_of (map (element_in served) lists)) (steps_of (map (element_in other) lists)) a b one_empty (steps_free y.elements free)) (sym (fold-roll-Group (List Occurrence) (List Occurrence) element_occurrences group_occurrences x) ∙ none) graph n m
      ∙ sym (ap (λ (v : Meaning). v.rows graph m) (fold-roll-Group Part Meaning (element_meaning other.graphs other.down) group_meaning x))

  pub rows_free : (g : Group) → of_group g ≡ [] → (graph : List Triple) (n m : ℕ) → group_rows (group_in served g) graph n ≡ group_rows (group_in other g) graph m
  rows_free g none graph n m = whole_same g (ind-Group ElementFree GroupFree element_free group_free g none) graph n m
