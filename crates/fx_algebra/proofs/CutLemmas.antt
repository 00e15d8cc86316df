-- The pass over a group keeps the group; its stations don't hang on the graphs, each has its rows, and its names are those in scope.
use Rattle.std.proofs.Common.{◌≡◌, ◌∙◌, ap, sym, subst, refl, ℕ, suc, ◌+◌, Bool, ◌&&◌, List, [], ◌∷◌, ◌++◌, map, length, length-append, arith}
use Rattle.std.specs.List.{flat_map, list_all}
use Rattle.fx_terms.specs.declared.triples.Triple.{Triple}
use Rattle.fx_terms.specs.declared.patterns.Pattern.{Pattern}
use Rattle.fx_algebra.specs.Answers.{no_graphs}
use Rattle.fx_algebra.specs.BasicGraphPatterns.{bgp, variables}
use Rattle.fx_algebra.specs.Cuts.{StationsAreFixed, SeedsForEachStation, CutHasTheNames, MeaningHasTheTree}
use Rattle.fx_algebra.specs.Groups.{Cut, Meaning, Operator, Part, pattern, condition, operator, Step, run, apply, with_pattern, with_part, steps_of, stations_of, seeds_of, conditions_of, part_services, parts_services, names_of_part, keeps_run, part_tree, groups_services, one_empty, by_itself, names_before, rows_before, optional_cut, alternative_names, alternative_stations, alternative_seeds, union_cut, element_meaning, group_meaning, meaning, no_station, service_cut, with_condition}
use Rattle.fx_algebra.specs.Operators.{join}
use Rattle.fx_algebra.specs.Scopes.{all_of, element_names, group_names, mentions, group_mentions, once}
use Rattle.fx_algebra.specs.Solutions.{Bindings}
use Rattle.fx_algebra.specs.Stations.{Station}
use Rattle.fx_algebra.specs.Stations as station
use Rattle.fx_algebra.specs.declared.expressions.Expr.{Expr}
use Rattle.fx_algebra.specs.declared.queries.Element.{Element, Element-F, fold-Element, ind-Element, map-Element, fold-roll-Element, roll-Element}
use Rattle.fx_algebra.specs.declared.queries.Element.TheVariants as element
use Rattle.fx_algebra.specs.declared.queries.Group.{Group, Group-F, ind-Group, fold-roll-Group, map-Group, roll-Group}

-- what an element is to its group
abbrev pub part_of : (List ℕ → List Triple) → List ℕ → Element → Part
part_of graphs down = fold-Element Part Meaning (element_meaning graphs down) group_meaning

-- ---- the same over other graphs

-- two cuts name the same and have the same stations, and the rows of the one are as many as the stations of the other
pub record AreAlike (a b : Cut) : Type 0 where
  pub names : a.names ≡ b.names
  pub stations : (number : ℕ) (before : List (List ℕ)) → a.stations number before ≡ b.stations number before
  pub many : (graph : List Triple) (n m : ℕ) (rows : List Bindings) (before : List (List ℕ)) → length (a.seeds graph n rows) ≡ length (b.stations m before)

pub record AreAlikeOperators (o u : Operator) : Type 0 where
  pub tree : o.tree ≡ u.tree
  pub services : o.services ≡ u.services
  pub cut : AreAlike o.cut u.cut

pub record AreAlikeGroups (g h : Meaning) : Type 0 where
  pub tree : g.tree ≡ h.tree
  pub services : g.services ≡ h.services
  pub filters : g.filters ≡ h.filters
  pub simple : g.is_simple ≡ h.is_simple
  pub cut : AreAlike g.cut h.cut

-- two parts of groups that are the same pattern, the same filter, or operators that are alike
data AreAlikeParts (x y : Part) : Type 0 where
  two_patterns : (p : Pattern) → x ≡ pattern p → y ≡ pattern p → AreAlikeParts x y
  two_conditions : (e : Expr) → x ≡ condition e → y ≡ condition e → AreAlikeParts x y
  two_operators : (o u : Operator) → x ≡ operator o → y ≡ operator u → AreAlikeOperators o u → AreAlikeParts x y

abbrev AreAlikeSteps : List Step → List Step → Type 0
AreAlikeSteps [] ts = ts ≡ []
AreAlikeSteps (run ps ∷ ss) ts = (ys : List Step) × (ts ≡ run ps ∷ ys) × AreAlikeSteps ss ys
AreAlikeSteps (apply o ∷ ss) ts = (u : Operator) × (ys : List Step) × (ts ≡ apply u ∷ ys) × AreAlikeOperators o u × AreAlikeSteps ss ys

-- what operators that are alike give alike, parts do
same_part : {X : Type 0} (f : Part → X) → ((o u : Operator) → AreAlikeOperators o u → f (operator o) ≡ f (operator u)) → (x y : Part) → AreAlikeParts x y → f x ≡ f y
same_part f g x y (two_patterns p a b) = ap f a ∙ sym (ap f b)
same_part f g x y (two_conditions e a b) = ap f a ∙ sym (ap f b)
same_part f g x y (two_operators o u a b h) = ap f a ∙ g o u h ∙ sym (ap f b)

-- ---- steps

with_pattern_alike : (p : Pattern) (ss ts : List Step) → AreAlikeSteps ss ts → AreAlikeSteps (with_pattern p ss) (with_pattern p ts)
with_pattern_alike p [] ts h = ([], ap (with_pattern p) h, refl)
with_pattern_alike p (run ps ∷ ss) ts h = (h.0, ap (with_pattern p) h.1, h.2)
with_pattern_alike p (apply o ∷ ss) ts h = (apply h.0 ∷ h.1, ap (with_pattern p) h.2, (h.0, h.1, refl, h.3, h.4))

both_parts : (ss ts : List Step) (x y v w : Part) → x ≡ v → y ≡ w → AreAlikeSteps (with_part v ss) (with_part w ts) → AreAlikeSteps (with_part x ss) (with_part y ts)
both_parts ss ts x y v w a b h = subst (λ (z : Part). AreAlikeSteps (with_part z ss) (with_part y ts)) (sym a) (subst (λ (z : Part). AreAlikeSteps (with_part v ss) (with_part z ts)) (sym b) h)

with_part_alike : (x y : Part) (ss ts : List Step) → AreAlikeParts x y → AreAlikeSteps ss ts → AreAlikeSteps (with_part x ss) (with_part y ts)
with_part_alike x y ss ts (two_patterns p a b) h = both_parts ss ts x y (pattern p) (pattern p) a b (with_pattern_alike p ss ts h)
with_part_alike x y ss ts (two_conditions e a b) h = both_parts ss ts x y (condition e) (condition e) a b h
with_part_alike x y ss ts (two_operators o u a b k) h = both_parts ss ts x y (operator o) (operator u) a b (u, ts, refl, k, h)

stations_alike : (filters : List Expr) (number : ℕ) (before : List (List ℕ)) (ss ts : List Step) → AreAlikeSteps ss ts → stations_of filters number before ss ≡ stations_of filters number before ts
stations_alike filters number before [] ts h = sym (ap (stations_of filters number before) h)
stations_alike filters number before (run ps ∷ ss) ts h =
    ap (λ (v : List Station). station.run ps filters (once before) ∷ v) (stations_alike filters number (before ++ variables ps) ss h.0 h.2)
    ∙ sym (ap (stations_of filters number before) h.1)
stations_alike filters number before (apply o ∷ ss) ts h =
    let u = h.0 in
    ap (λ (v : List Station). v ++ stations_of filters (number + o.services) (before ++ o.cut.names) ss) (h.3.cut.stations number before)
    ∙ ap (λ (n : ℕ). u.cut.stations number before ++ stations_of filters (number + n) (before ++ o.cut.names) ss) h.3.services
    ∙ ap (λ (names : List (List ℕ)). u.cut.stations number before ++ stations_of filters (number + u.services) (before ++ names) ss) h.3.cut.names
    ∙ ap (λ (v : List Station). u.cut.stations number before ++ v) (stations_alike filters (number + u.services) (before ++ u.cut.names) ss h.1 h.4)
    ∙ sym (ap (stations_of filters number before) h.2)

seeds_many : (filters : List Expr) (graph : List Triple) (n m : ℕ) (rows : List Bindings) (before : List (List ℕ)) (ss ts : List Step) → AreAlikeSteps ss ts → length (seeds_of graph n rows ss) ≡ length (stations_of filters m before ts)
seeds_many filters graph n m rows before [] ts h = sym (ap (λ (v : List Step). length (stations_of filters m before v)) h)
seeds_many filters graph n m rows before (run ps ∷ ss) ts h =
    ap suc (seeds_many filters graph n m (join rows (bgp graph ps)) (before ++ variables ps) ss h.0 h.2)
    ∙ sym (ap (λ (v : List Step). length (stations_of filters m before v)) h.1)
seeds_many filters graph n m rows before (apply o ∷ ss) ts h =
    let u = h.0 in
    let others = seeds_of graph (n + o.services) (o.rows graph n rows) ss in
    let behind = stations_of filters (m + u.services) (before ++ u.cut.names) h.1 in
    let here : length (o.cut.seeds graph n rows) ≡ length (u.cut.stations m before) = h.3.cut.many graph n m rows before in
    let rest : length others ≡ length behind = seeds_many filters graph (n + o.services) (m + u.services) (o.rows graph n rows) (before ++ u.cut.names) ss h.1 h.4 in
    let both : length (o.cut.seeds graph n rows ++ others) ≡ length (u.cut.stations m before ++ behind) = omega (arith, length-append (o.cut.seeds graph n rows) others, length-append (u.cut.stations m before) behind) in
    both ∙ sym (ap (λ (v : List Step). length (stations_of filters m before v)) h.2)

-- ---- cuts

no_station_alike : (names : List (List ℕ)) → AreAlike (no_station names) (no_station names)
no_station_alike names = record { names = refl; stations = λ number before. refl; many = λ graph n m rows before. refl }

by_itself_alike : (xs ys : List (List ℕ)) (g h : Meaning) → xs ≡ ys → AreAlikeGroups g h → AreAlike (by_itself xs g) (by_itself ys h)
by_itself_alike xs ys g h e k = record { names = e; stations = λ number before. k.cut.stations number []; many = λ graph n m rows before. k.cut.many graph n m one_empty [] }

optional_alike : (g h : Meaning) → AreAlikeGroups g h → AreAlike (optional_cut g) (optional_cut h)
optional_alike g h k = record {
  names = k.cut.names;
  stations = λ number before.
      k.cut.stations number (names_before g.is_simple before)
      ∙ ap (λ (b : Bool). h.cut.stations number (names_before b before)) k.simple;
  many = λ graph n m rows before. k.cut.many graph n m (rows_before g.is_simple rows) (names_before h.is_simple before);
}

service_alike : (silent : Bool) (iri : List ℕ) (g h : Meaning) → AreAlikeGroups g h → AreAlike (service_cut silent iri g) (service_cut silent iri h)
service_alike silent iri g h k = record { names = k.cut.names; stations = λ number before. ap (λ (t : Group). station.service number silent iri t ∷ []) k.tree; many = λ graph n m rows before. refl }

-- ---- by induction over the group

module _ (graphs others : List ℕ → List Triple) (down gone : List ℕ) where
  abbrev ElementAlike : Element → Type 0
  ElementAlike e = AreAlikeParts (part_of graphs down e) (part_of others gone e)

  abbrev GroupAlike : Group → Type 0
  GroupAlike g = AreAlikeGroups (meaning graphs down g) (meaning others gone g)

  abbrev Known : Type 0
  Known = (e : Element) × ElementAlike e

  abbrev KnownGroup : Type 0
  KnownGroup = (g : Group) × GroupAlike g

  abbrev parts : List Known → List Part
  parts es = map (part_of graphs down) (map (λ e. e.0) es)

  abbrev other_parts : List Known → List Part
  other_parts es = map (part_of others gone) (map (λ e. e.0) es)

  abbrev groups : List KnownGroup → List Meaning
  groups gs = map (meaning graphs down) (map (λ g. g.0) gs)

  abbrev other_groups : List KnownGroup → List Meaning
  other_groups gs = map (meaning others gone) (map (λ g. g.0) gs)

  -- -- of lists

  mapped_alike : {X : Type 0} (f : Part → X) → ((o u : Operator) → AreAlikeOperators o u → f (operator o) ≡ f (operator u)) → (es : List Known) → map f (parts es) ≡ map f (other_parts es)
  mapped_alike f g [] = refl
  mapped_alike f g (e ∷ es) = ap (λ v. v ∷ map f (parts es)) (same_part f g (part_of graphs down e.0) (part_of others gone e.0) e.1) ∙ ap (λ v. f (part_of others gone e.0) ∷ v) (mapped_alike f g es)

  names_alike : (es : List Known) → flat_map names_of_part (parts es) ≡ flat_map names_of_part (other_parts es)
  names_alike [] = refl
  names_alike (e ∷ es) =
      ap (λ (v : List (List ℕ)). v ++ flat_map names_of_part (parts es)) (same_part names_of_part (λ o u h. h.cut.names) (part_of graphs down e.0) (part_of others gone e.0) e.1)
      ∙ ap (λ (v : List (List ℕ)). names_of_part (part_of others gone e.0) ++ v) (names_alike es)

  simple_alike : (es : List Known) → list_all keeps_run (parts es) ≡ list_all keeps_run (other_parts es)
  simple_alike [] = refl
  simple_alike (e ∷ es) =
      ap (λ (v : Bool). v && list_all keeps_run (parts es)) (same_part keeps_run (λ o u h. refl) (part_of graphs down e.0) (part_of others gone e.0) e.1)
      ∙ ap (λ (v : Bool). keeps_run (part_of others gone e.0) && v) (simple_alike es)

  counts_alike : (es : List Known) → parts_services (parts es) ≡ parts_services (other_parts es)
  counts_alike [] = refl
  counts_alike (e ∷ es) =
      let here : part_services (part_of graphs down e.0) ≡ part_services (part_of others gone e.0) = same_part part_services (λ o u h. h.services) (part_of graphs down e.0) (part_of others gone e.0) e.1 in
      let rest : parts_services (parts es) ≡ parts_services (other_parts es) = counts_alike es in
      omega arith

  filters_alike : (es : List Known) → conditions_of (parts es) ≡ conditions_of (other_parts es)
  filters_alike [] = refl
  filters_alike (e ∷ es) =
      same_part (λ (x : Part). with_condition x (conditions_of (parts es))) (λ o u h. refl) (part_of graphs down e.0) (part_of others gone e.0) e.1
      ∙ ap (with_condition (part_of others gone e.0)) (filters_alike es)

  steps_alike : (es : List Known) → AreAlikeSteps (steps_of (parts es)) (steps_of (other_parts es))
  steps_alike [] = refl
  steps_alike (e ∷ es) = with_part_alike (part_of graphs down e.0) (part_of others gone e.0) (steps_of (parts es)) (steps_of (other_parts es)) e.1 (steps_alike es)

  trees_alike : (gs : List KnownGroup) → map (λ (g : Meaning). g.tree) (groups gs) ≡ map (λ (g : Meaning). g.tree) (other_groups gs)
  trees_alike [] = refl
  trees_alike (g ∷ gs) = ap (λ (v : Group). v ∷ map (λ (m : Meaning). m.tree) (groups gs)) g.1.tree ∙ ap (λ (v : List Group). (meaning others gone g.0).tree ∷ v) (trees_alike gs)

  group_counts_alike : (gs : List KnownGroup) → groups_services (groups gs) ≡ groups_services (other_groups gs)
  group_counts_alike [] = refl
  group_counts_alike (g ∷ gs) =
      let here : (meaning graphs down g.0).services ≡ (meaning others gone g.0).services = g.1.services in
      let rest : groups_services (groups gs) ≡ groups_services (other_groups gs) = group_counts_alike gs in
      omega arith

  union_names_alike : (gs : List KnownGroup) → alternative_names (groups gs) ≡ alternative_names (other_groups gs)
  union_names_alike [] = refl
  union_names_alike (g ∷ gs) =
      ap (λ (v : List (List ℕ)). v ++ alternative_names (groups gs)) g.1.cut.names
      ∙ ap (λ (v : List (List ℕ)). (meaning others gone g.0).cut.names ++ v) (union_names_alike gs)

  union_stations_alike : (gs : List KnownGroup) (number : ℕ) → alternative_stations (groups gs) number ≡ alternative_stations (other_groups gs) number
  union_stations_alike [] number = refl
  union_stations_alike (g ∷ gs) number =
      let one = meaning graphs down g.0 in
      let two = meaning others gone g.0 in
      ap (λ (v : List Station). v ++ alternative_stations (groups gs) (number + one.services)) (g.1.cut.stations number [])
      ∙ ap (λ (n : ℕ). two.cut.stations number [] ++ alternative_stations (groups gs) (number + n)) g.1.services
      ∙ ap (λ (v : List Station). two.cut.stations number [] ++ v) (union_stations_alike gs (number + two.services))

  union_seeds_many : (gs : List KnownGroup) (graph : List Triple) (n m : ℕ) → length (alternative_seeds (groups gs) graph n) ≡ length (alternative_stations (other_groups gs) m)
  union_seeds_many [] graph n m = refl
  union_seeds_many (g ∷ gs) graph n m =
      let one = meaning graphs down g.0 in
      let two = meaning others gone g.0 in
      let left = alternative_seeds (groups gs) graph (n + one.services) in
      let behind = alternative_stations (other_groups gs) (m + two.services) in
      let here : length (one.cut.seeds graph n one_empty) ≡ length (two.cut.stations m []) = g.1.cut.many graph n m one_empty [] in
      let rest : length left ≡ length behind = union_seeds_many gs graph (n + one.services) (m + two.services) in
      omega (arith, length-append (one.cut.seeds graph n one_empty) left, length-append (two.cut.stations m []) behind)

  union_alike : (gs : List KnownGroup) → AreAlike (union_cut (groups gs)) (union_cut (other_groups gs))
  union_alike gs = record {
    names = union_names_alike gs;
    stations = λ number before. union_stations_alike gs number;
    many = λ graph n m rows before. union_seeds_many gs graph n m;
  }

  -- -- of one layer

  abbrev LayerAlike : Element-F Element Group → Type 0
  LayerAlike x = AreAlikeParts (element_meaning graphs down (map-Element Element Group Part Meaning (part_of graphs down) (meaning graphs down) x)) (element_meaning others gone (map-Element Element Group Part Meaning (part_of others gone) (meaning others gone) x))

  layer_alike : (y : Element-F Known KnownGroup) → LayerAlike (map-Element Known KnownGroup Element Group (λ e. e.0) (λ g. g.0) y)
  layer_alike (Element-F.Triple p) = two_patterns p refl refl
  layer_alike (Element-F.Filter e) = two_conditions e refl refl
  layer_alike (Element-F.Optional g) =
      two_operators _ _ refl refl (record { tree = ap element.Optional g.1.tree; services = g.1.services; cut = optional_alike (meaning graphs down g.0) (meaning others gone g.0) g.1 })
  layer_alike (Element-F.Union gs) = two_operators _ _ refl refl (record { tree = ap element.Union (trees_alike gs); services = group_counts_alike gs; cut = union_alike gs })
  layer_alike (Element-F.Minus g) =
      two_operators _ _ refl refl (record { tree = ap element.Minus g.1.tree; services = g.1.services; cut = by_itself_alike [] [] (meaning graphs down g.0) (meaning others gone g.0) refl g.1 })
  layer_alike (Element-F.Bind e name) = two_operators _ _ refl refl (record { tree = refl; services = refl; cut = no_station_alike (name ∷ []) })
  layer_alike (Element-F.Values inline) = two_operators _ _ refl refl (record { tree = refl; services = refl; cut = no_station_alike inline.columns })
  layer_alike (Element-F.Service silent iri g) =
      two_operators _ _ refl refl (record { tree = ap (element.Service silent iri) g.1.tree; services = ap suc g.1.services; cut = service_alike silent iri (meaning graphs down g.0) (meaning others gone g.0) g.1 })

  element_alike : (x : Element-F Element Group) (y : Element-F Known KnownGroup) → map-Element Known KnownGroup Element Group (λ e. e.0) (λ g. g.0) y ≡ x → ElementAlike (roll-Element x)
  element_alike x y is =
      subst (λ (v : Part). AreAlikeParts v (part_of others gone (roll-Element x))) (sym (fold-roll-Element Part Meaning (element_meaning graphs down) group_meaning x))
      (subst (λ (v : Part). AreAlikeParts (element_meaning graphs down (map-Element Element Group Part Meaning (part_of graphs down) (meaning graphs down) x)) v) (sym (fold-roll-Element Part Meaning (element_meaning others gone) group_meaning x))
      (subst LayerAlike is (layer_alike y)))

  abbrev LayerGroupAlike : Group-F Element Group → Type 0
  LayerGroupAlike x = AreAlikeGroups (group_meaning (record { elements = map (part_of graphs down) x.elements })) (group_meaning (record { elements = map (part_of others gone) x.elements }))

  layer_group_alike : (es : List Known) → LayerGroupAlike (record { elements = map (λ e. e.0) es })
  layer_group_alike es = record {
    tree = ap (λ (v : List Element). roll-Group (record { elements = v })) (mapped_alike part_tree (λ o u h. h.tree) es);
    services = counts_alike es;
    filters = filters_alike es;
    simple = simple_alike es;
    cut = record {
      names = names_alike es;
      stations = λ number before.
          ap (λ (fs : List Expr). stations_of fs number before (steps_of (parts es))) (filters_alike es)
          ∙ stations_alike (conditions_of (other_parts es)) number before (steps_of (parts es)) (steps_of (other_parts es)) (steps_alike es);
      many = λ graph n m rows before. seeds_many (conditions_of (other_parts es)) graph n m rows before (steps_of (parts es)) (steps_of (other_parts es)) (steps_alike es);
    };
  }

  group_alike : (x : Group-F Element Group) (y : Group-F Known KnownGroup) → map-Group Known KnownGroup Element Group (λ e. e.0) (λ g. g.0) y ≡ x → GroupAlike (roll-Group x)
  group_alike x y is =
      subst (λ (v : Meaning). AreAlikeGroups v (meaning others gone (roll-Group x))) (sym (fold-roll-Group Part Meaning (element_meaning graphs down) group_meaning x))
      (subst (λ (v : Meaning). AreAlikeGroups (group_meaning (record { elements = map (part_of graphs down) x.elements })) v) (sym (fold-roll-Group Part Meaning (element_meaning others gone) group_meaning x))
      (subst LayerGroupAlike is (layer_group_alike y.elements)))

  pub meanings_alike : (g : Group) → AreAlikeGroups (meaning graphs down g) (meaning others gone g)
  meanings_alike = ind-Group ElementAlike GroupAlike element_alike group_alike

pub stations_are_fixed : StationsAreFixed
stations_are_fixed q graphs down = (meanings_alike graphs no_graphs down [] q.group).cut.stations 0 []

pub seeds_for_each : SeedsForEachStation
seeds_for_each q graph graphs down = (meanings_alike graphs no_graphs down [] q.group).cut.many graph 0 0 one_empty []

-- ---- the tree and the names

module _ (graphs : List ℕ → List Triple) (down : List ℕ) where
  abbrev ElementKept : Element → Type 0
  ElementKept e = (part_tree (part_of graphs down e) ≡ e) × (names_of_part (part_of graphs down e) ≡ mentions e)

  abbrev GroupKept : Group → Type 0
  GroupKept g = ((meaning graphs down g).tree ≡ g) × ((meaning graphs down g).cut.names ≡ group_mentions g)

  abbrev KeptElement : Type 0
  KeptElement = (e : Element) × ElementKept e

  abbrev KeptGroup : Type 0
  KeptGroup = (g : Group) × GroupKept g

  elements_kept : (es : List KeptElement) → map part_tree (map (part_of graphs down) (map (λ e. e.0) es)) ≡ map (λ e. e.0) es
  elements_kept [] = refl
  elements_kept (e ∷ es) = ap (λ (v : Element). v ∷ map part_tree (map (part_of graphs down) (map (λ d. d.0) es))) e.1.0 ∙ ap (λ (v : List Element). e.0 ∷ v) (elements_kept es)

  element_names_kept : (es : List KeptElement) → flat_map names_of_part (map (part_of graphs down) (map (λ e. e.0) es)) ≡ all_of (map mentions (map (λ e. e.0) es))
  element_names_kept [] = refl
  element_names_kept (e ∷ es) =
      ap (λ (v : List (List ℕ)). v ++ flat_map names_of_part (map (part_of graphs down) (map (λ d. d.0) es))) e.1.1
      ∙ ap (λ (v : List (List ℕ)). mentions e.0 ++ v) (element_names_kept es)

  groups_kept : (gs : List KeptGroup) → map (λ (g : Meaning). g.tree) (map (meaning graphs down) (map (λ g. g.0) gs)) ≡ map (λ g. g.0) gs
  groups_kept [] = refl
  groups_kept (g ∷ gs) = ap (λ (v : Group). v ∷ map (λ (m : Meaning). m.tree) (map (meaning graphs down) (map (λ d. d.0) gs))) g.1.0 ∙ ap (λ (v : List Group). g.0 ∷ v) (groups_kept gs)

  group_names_kept : (gs : List KeptGroup) → alternative_names (map (meaning graphs down) (map (λ g. g.0) gs)) ≡ all_of (map group_mentions (map (λ g. g.0) gs))
  group_names_kept [] = refl
  group_names_kept (g ∷ gs) =
      ap (λ (v : List (List ℕ)). v ++ alternative_names (map (meaning graphs down) (map (λ d. d.0) gs))) g.1.1
      ∙ ap (λ (v : List (List ℕ)). group_mentions g.0 ++ v) (group_names_kept gs)

  abbrev LayerKept : Element-F Element Group → Type 0
  LayerKept x =
      (part_tree (element_meaning graphs down (map-Element Element Group Part Meaning (part_of graphs down) (meaning graphs down) x)) ≡ roll-Element x)
      × (names_of_part (element_meaning graphs down (map-Element Element Group Part Meaning (part_of graphs down) (meaning graphs down) x)) ≡ element_names (map-Element Element Group (List (List ℕ)) (List (List ℕ)) mentions group_mentions x))

  layer_kept : (y : Element-F KeptElement KeptGroup) → LayerKept (map-Element KeptElement KeptGroup Element Group (λ e. e.0) (λ g. g.0) y)
  layer_kept (Element-F.Triple p) = (sym (element.rolls-Triple p), refl)
  layer_kept (Element-F.Filter e) = (sym (element.rolls-Filter e), refl)
  layer_kept (Element-F.Optional g) = (ap element.Optional g.1.0 ∙ sym (element.rolls-Optional g.0), g.1.1)
  layer_kept (Element-F.Union gs) = (ap element.Union (groups_kept gs) ∙ sym (element.rolls-Union (map (λ g. g.0) gs)), group_names_kept gs)
  layer_kept (Element-F.Minus g) = (ap element.Minus g.1.0 ∙ sym (element.rolls-Minus g.0), refl)
  layer_kept (Element-F.Bind e name) = (sym (element.rolls-Bind e name), refl)
  layer_kept (Element-F.Values inline) = (sym (element.rolls-Values inline), refl)
  layer_kept (Element-F.Service silent iri g) = (ap (element.Service silent iri) g.1.0 ∙ sym (element.rolls-Service silent iri g.0), g.1.1)

  element_kept : (x : Element-F Element Group) (y : Element-F KeptElement KeptGroup) → map-Element KeptElement KeptGroup Element Group (λ e. e.0) (λ g. g.0) y ≡ x → ElementKept (roll-Element x)
  element_kept x y is =
      let kept = subst LayerKept is (layer_kept y) in
      let layer = fold-roll-Element Part Meaning (element_meaning graphs down) group_meaning x in
      (ap part_tree layer ∙ kept.0, ap names_of_part layer ∙ kept.1 ∙ sym (fold-roll-Element (List (List ℕ)) (List (List ℕ)) element_names group_names x))

  abbrev LayerGroupKept : Group-F Element Group → Type 0
  LayerGroupKept x = (map part_tree (map (part_of graphs down) x.elements) ≡ x.elements) × (flat_map names_of_part (map (part_of graphs down) x.elements) ≡ all_of (map mentions x.elements))

  group_kept : (x : Group-F Element Group) (y : Group-F KeptElement KeptGroup) → map-Group KeptElement KeptGroup Element Group (λ e. e.0) (λ g. g.0) y ≡ x → GroupKept (roll-Group x)
  group_kept x y is =
      let kept = subst LayerGroupKept is (elements_kept y.elements, element_names_kept y.elements) in
      let layer = fold-roll-Group Part Meaning (element_meaning graphs down) group_meaning x in (
        ap (λ (m : Meaning). m.tree) layer ∙ ap (λ (v : List Element). roll-Group (record { elements = v })) kept.0,
        ap (λ (m : Meaning). m.cut.names) layer ∙ kept.1 ∙ sym (fold-roll-Group (List (List ℕ)) (List (List ℕ)) element_names group_names x),
      )

  kept : (g : Group) → GroupKept g
  kept = ind-Group ElementKept GroupKept element_kept group_kept

  -- an element binds the names that it mentions
  pub part_binds : (e : Element) → names_of_part (part_of graphs down e) ≡ mentions e
  part_binds e = (ind-Element ElementKept GroupKept element_kept group_kept e).1

pub has_the_tree : MeaningHasTheTree
has_the_tree g graphs down = (kept graphs down g).0

pub has_the_names : CutHasTheNames
has_the_names g graphs down = (kept graphs down g).1
