-- The rows of a group bind names of its scope alone.
use Rattle.std.proofs.Common.{◌≡◌, ◌∙◌, ap, sym, subst, refl, inl, inr, ◌⊎◌, ℕ, suc, ◌+◌, Bool, true, false, ◌||◌, cond, List, [], ◌∷◌, ◌++◌, map, filter, fold, Option, Some, None, is_some}
use Rattle.std.specs.List.{AllByRecursion, cons_option, filter_map, flat_map, zip}
use Rattle.std.specs.Option.{option_or}
use Rattle.std.specs.Ordering.{is_eq}
use Rattle.std.proofs.lemmas.Cmp.{tied_itself}
use Rattle.std.proofs.lemmas.List.Folds.{list_any-append}
use Rattle.fx_terms.specs.Texts.{text_cmp, texts_total}
use Rattle.fx_terms.specs.declared.terms.Term.{Term}
use Rattle.fx_terms.specs.declared.triples.Triple.{Triple}
use Rattle.fx_terms.specs.declared.patterns.Pattern.{Pattern}
use Rattle.fx_algebra.specs.BasicGraphPatterns.{all_parts, bgp, choices, forced, variables}
use Rattle.fx_algebra.specs.Groups.{Meaning, Operator, Part, pattern, condition, operator, Step, run, apply, with_pattern, steps_of, after, names_of_part, group_rows, alternatives, alternative_names, element_meaning, group_meaning, is_down, one_empty, service_rows}
use Rattle.fx_algebra.specs.Operators.{diff, extend, extended, filtered, inline_row, inline_rows, join, left_join, merges, stays, with_cell, with_value}
use Rattle.fx_algebra.specs.Scopes.{is_among, part_names, pattern_names}
use Rattle.fx_algebra.specs.Solutions.{Bindings, agree, merge, term_of, with_new, with_pair}
use Rattle.fx_algebra.specs.Values.{value}
use Rattle.fx_algebra.specs.declared.expressions.Expr.{Expr}
use Rattle.fx_algebra.specs.declared.queries.Element.{Element, Element-F, map-Element, fold-roll-Element, roll-Element}
use Rattle.fx_algebra.specs.declared.queries.Group.{Group, Group-F, ind-Group, fold-roll-Group, map-Group, roll-Group}
use Rattle.fx_algebra.specs.declared.queries.Inline.{Inline}
use Rattle.fx_algebra.proofs.ForcedLemmas.{IsForced, forced_is, name_from, names_of, of_outcome, with_pair_has}
use Rattle.fx_algebra.proofs.JoinLemmas.{find-merge}
use Rattle.fx_walks.specs.Served.{Served, element_in, group_in}

-- ---- names

-- each of the first is among the second
abbrev Wider : List (List ℕ) → List (List ℕ) → Type 0
Wider ns all = (name : List ℕ) → is_among ns name ≡ true → is_among all name ≡ true

or_true : (a b : Bool) → (a || b) ≡ true → (a ≡ true) ⊎ (b ≡ true)
or_true true b h = inl refl
or_true false b h = inr h

or_left : (a b : Bool) → a ≡ true → (a || b) ≡ true
or_left true b h = refl
or_left false b h = cc

or_right : (a b : Bool) → b ≡ true → (a || b) ≡ true
or_right true b h = refl
or_right false b h = h

among_both : (xs ys : List (List ℕ)) (name : List ℕ) → is_among (xs ++ ys) name ≡ (is_among xs name || is_among ys name)
among_both xs ys name = list_any-append (λ n. is_eq (text_cmp n name)) xs ys

front : (xs ys all : List (List ℕ)) → Wider (xs ++ ys) all → Wider xs all
front xs ys all w name h = w name (among_both xs ys name ∙ or_left (is_among xs name) (is_among ys name) h)

back : (xs ys all : List (List ℕ)) → Wider (xs ++ ys) all → Wider ys all
back xs ys all w name h = w name (among_both xs ys name ∙ or_right (is_among xs name) (is_among ys name) h)

both_wider : (xs ys all : List (List ℕ)) → Wider xs all → Wider ys all → Wider (xs ++ ys) all
both_wider xs ys all v w name h = elim (or_true (is_among xs name) (is_among ys name) (sym (among_both xs ys name) ∙ h)) [ inl k ↦ v name k | inr k ↦ w name k ]

itself : (name : List ℕ) → is_eq (text_cmp name name) ≡ true
itself name = ap is_eq (tied_itself texts_total name)

-- ---- rows

-- a row binds some of these names alone
abbrev pub Binds : List (List ℕ) → Bindings → Type 0
Binds ns s = (name : List ℕ) → is_some (term_of s name) ≡ true → is_among ns name ≡ true

abbrev pub AllBind : List (List ℕ) → List Bindings → Type 0
AllBind ns rows = AllByRecursion (Binds ns) rows

each_wider : (xs ys : List (List ℕ)) → Wider xs ys → (rows : List Bindings) → AllBind xs rows → AllBind ys rows
each_wider xs ys w [] h = tt
each_wider xs ys w (s ∷ rows) h = ((λ name k. w name (h.0 name k)), each_wider xs ys w rows h.1)

all_kept : {X : Type 0} (P : X → Type 0) (p : X → Bool) (xs : List X) → AllByRecursion P xs → AllByRecursion P (filter p xs)
all_kept P p [] h = tt
all_kept {X} P p (x ∷ xs) h = go (p x) (all_kept P p xs h.1)
  where
    go : (b : Bool) → AllByRecursion P (filter p xs) → AllByRecursion P (cond b (x ∷ filter p xs) (filter p xs))
    go true k = (h.0, k)
    go false k = k

all_mapped : {X Y : Type 0} (P : X → Type 0) (Q : Y → Type 0) (f : X → Y) → ((x : X) → P x → Q (f x)) → (xs : List X) → AllByRecursion P xs → AllByRecursion Q (map f xs)
all_mapped P Q f g [] h = tt
all_mapped P Q f g (x ∷ xs) h = (g x h.0, all_mapped P Q f g xs h.1)

all_joined : {X : Type 0} (P : X → Type 0) (xs ys : List X) → AllByRecursion P xs → AllByRecursion P ys → AllByRecursion P (xs ++ ys)
all_joined P [] ys h k = k
all_joined P (x ∷ xs) ys h k = (h.0, all_joined P xs ys h.1 k)

module _ (ns : List (List ℕ)) where
  some_of : (x y : Option Term) (P : Type 0) → (is_some x ≡ true → P) → (is_some y ≡ true → P) → is_some (option_or x y) ≡ true → P
  some_of None y P f g h = g h
  some_of (Some t) y P f g h = f refl

  merge_binds : (a b : Bindings) → Binds ns a → Binds ns b → Binds ns (merge a b)
  merge_binds a b h k name e = some_of (term_of a name) (term_of b name) (is_among ns name ≡ true) (h name) (k name) (sym (ap is_some (find-merge a b name)) ∙ e)

  join_binds : (left right : List Bindings) → AllBind ns left → AllBind ns right → AllBind ns (join left right)
  join_binds [] right h k = tt
  join_binds (a ∷ left) right h k =
      all_joined (Binds ns) (merges right a) (join left right) (all_mapped (Binds ns) (Binds ns) (merge a) (λ b m. merge_binds a b h.0 m) (filter (agree a) right) (all_kept (Binds ns) (agree a) right k)) (join_binds left right h.1 k)

  pair_binds : (s : Bindings) (name : List ℕ) (t : Term) → Binds ns s → is_among ns name ≡ true → Binds ns (with_pair s name t)
  pair_binds s name t h m n e = go (is_eq (text_cmp n name)) refl (sym (ap is_some (with_pair_has s name t n)) ∙ e)
    where
      go : (b : Bool) → is_eq (text_cmp n name) ≡ b → is_some (cond b (Some t) (term_of s n)) ≡ true → is_among ns n ≡ true
      go true same k = ap (is_among ns) (name_from n name same) ∙ m
      go false other k = h n k

  new_binds : (s : Bindings) (name : List ℕ) (t : Term) → Binds ns s → is_among ns name ≡ true → Binds ns (with_new s (name, t))
  new_binds s name t h m = go (is_some (term_of s name))
    where
      go : (b : Bool) → Binds ns (cond b s (with_pair s name t))
      go true = h
      go false = pair_binds s name t h m

  value_binds : (s : Bindings) (name : List ℕ) (o : Option Term) → Binds ns s → is_among ns name ≡ true → Binds ns (with_value s name o)
  value_binds s name None h m = h
  value_binds s name (Some t) h m = new_binds s name t h m

  extend_binds : (rows : List Bindings) (name : List ℕ) (e : Expr) → AllBind ns rows → is_among ns name ≡ true → AllBind ns (extend rows name e)
  unfolding extended
  extend_binds rows name e h m = all_mapped (Binds ns) (Binds ns) (extended name e) (λ s k. value_binds s name (value e s) k m) rows h

  empty_binds : Binds ns []
  empty_binds name e = cc

  one_binds : AllBind ns one_empty
  one_binds = (empty_binds, tt)

  cells_bind : (columns : List (List ℕ)) (row : List (Option Term)) (s : Bindings) → Wider columns ns → Binds ns s → Binds ns (fold with_cell s (zip columns row))
  cells_bind [] row s w h = h
  cells_bind (c ∷ columns) [] s w h = h
  cells_bind (c ∷ columns) (v ∷ row) s w h =
      cells_bind columns row (with_value s c v) (back (c ∷ []) columns ns w) (value_binds s c v h (w c (or_left (is_eq (text_cmp c c)) (is_among columns c) (itself c))))

  inline_binds : (inline : Inline) → Wider inline.columns ns → AllBind ns (inline_rows inline)
  inline_binds inline w = go inline.rows
    where
      go : (rows : List (List (Option Term))) → AllBind ns (map (inline_row inline.columns) rows)
      go [] = tt
      go (row ∷ rows) = (cells_bind inline.columns row [] w empty_binds, go rows)

  -- ---- a basic graph pattern

  parts_named : (ps : List Pattern) (ts : List Triple) → Wider (variables ps) ns → Wider (names_of (all_parts ps ts)) ns
  parts_named [] ts w = λ name h. cc
  parts_named (p ∷ ps) [] w = λ name h. cc
  parts_named (p ∷ ps) (t ∷ ts) w =
      let here : Wider (pattern_names p) ns = front (pattern_names p) (variables ps) ns w in
      let behind = back (part_names p.subject) (part_names p.predicate ++ part_names p.object) ns here in
      let rest = parts_named ps ts (back (pattern_names p) (variables ps) ns w) in
      both_wider (part_names p.subject) (part_names p.predicate ++ (part_names p.object ++ names_of (all_parts ps ts))) ns (front (part_names p.subject) (part_names p.predicate ++ part_names p.object) ns here)
      (both_wider (part_names p.predicate) (part_names p.object ++ names_of (all_parts ps ts)) ns (front (part_names p.predicate) (part_names p.object) ns behind)
      (both_wider (part_names p.object) (names_of (all_parts ps ts)) ns (back (part_names p.predicate) (part_names p.object) ns behind) rest))

  bgp_binds : (graph : List Triple) (ps : List Pattern) → Wider (variables ps) ns → AllBind ns (bgp graph ps)
  bgp_binds graph ps w = go (choices graph ps)
    where
      one : (ts : List Triple) (o : Option Bindings) → forced [] (all_parts ps ts) ≡ o → (rest : List Bindings) → AllBind ns rest → AllBind ns (cons_option o rest)
      one ts None e rest h = h
      one ts (Some s) e rest h =
          let is = of_outcome (IsForced [] (all_parts ps ts)) (forced [] (all_parts ps ts)) s e (forced_is [] (all_parts ps ts)) in
          ((λ name k. parts_named ps ts w name (sym (is.binds name) ∙ k)), h)

      go : (all : List (List Triple)) → AllBind ns (filter_map (λ ts. forced [] (all_parts ps ts)) all)
      go [] = tt
      go (ts ∷ all) = one ts (forced [] (all_parts ps ts)) refl (filter_map (λ ts. forced [] (all_parts ps ts)) all) (go all)

  -- ---- steps

  -- an operator keeps rows within the names, where its own are among them
  abbrev Keeps : Operator → Type 0
  Keeps o = (graph : List Triple) (number : ℕ) (rows : List Bindings) → AllBind ns rows → AllBind ns (o.rows graph number rows)

  abbrev StepIn : Step → Type 0
  StepIn (run ps) = Wider (variables ps) ns
  StepIn (apply o) = Keeps o

  pattern_in : (p : Pattern) (steps : List Step) → Wider (pattern_names p) ns → AllByRecursion StepIn steps → AllByRecursion StepIn (with_pattern p steps)
  pattern_in p [] w h = (both_wider (pattern_names p) [] ns w (λ name k. cc), tt)
  pattern_in p (run ps ∷ steps) w h = (both_wider (pattern_names p) (variables ps) ns w h.0, h.1)
  pattern_in p (apply o ∷ steps) w h = (both_wider (pattern_names p) [] ns w (λ name k. cc), h)

  after_binds : (graph : List Triple) (steps : List Step) (number : ℕ) (rows : List Bindings) → AllByRecursion StepIn steps → AllBind ns rows → AllBind ns (after graph number rows steps)
  after_binds graph [] number rows h k = k
  after_binds graph (run ps ∷ steps) number rows h k = after_binds graph steps number (join rows (bgp graph ps)) h.1 (join_binds rows (bgp graph ps) k (bgp_binds graph ps h.0))
  after_binds graph (apply o ∷ steps) number rows h k = after_binds graph steps (number + o.services) (o.rows graph number rows) h.1 (h.0 graph number rows k)

-- ---- by induction over the group

abbrev PartBinds : Part → Type 0
PartBinds (pattern p) = Unit {0}
PartBinds (condition e) = Unit {0}
PartBinds (operator o) = (ns : List (List ℕ)) → Wider o.cut.names ns → Keeps ns o

steps_in : (ns : List (List ℕ)) (parts : List Part) → AllByRecursion PartBinds parts → Wider (flat_map names_of_part parts) ns → AllByRecursion (StepIn ns) (steps_of parts)
steps_in ns [] h w = tt
steps_in ns (pattern p ∷ parts) h w =
    pattern_in ns p (steps_of parts) (front (pattern_names p) (flat_map names_of_part parts) ns w) (steps_in ns parts h.1 (back (pattern_names p) (flat_map names_of_part parts) ns w))
steps_in ns (condition e ∷ parts) h w = steps_in ns parts h.1 w
steps_in ns (operator o ∷ parts) h w = (h.0 ns (front o.cut.names (flat_map names_of_part parts) ns w), steps_in ns parts h.1 (back o.cut.names (flat_map names_of_part parts) ns w))

module _ (served : Served) where
  abbrev ElementBinds : Element → Type 0
  ElementBinds e = PartBinds (element_in served e)

  abbrev GroupBinds : Group → Type 0
  GroupBinds g = (graph : List Triple) (number : ℕ) → AllBind (group_in served g).cut.names ((group_in served g).rows graph number)

  abbrev KnownElement : Type 0
  KnownElement = (e : Element) × ElementBinds e

  abbrev KnownGroup : Type 0
  KnownGroup = (g : Group) × GroupBinds g

  abbrev meanings : List KnownGroup → List Meaning
  meanings gs = map (group_in served) (map (λ g. g.0) gs)

  inside : (g : KnownGroup) (ns : List (List ℕ)) → Wider (group_in served g.0).cut.names ns → (graph : List Triple) (number : ℕ) → AllBind ns ((group_in served g.0).rows graph number)
  inside g ns w graph number = each_wider (group_in served g.0).cut.names ns w ((group_in served g.0).rows graph number) (g.1 graph number)

  alternatives_bind : (gs : List KnownGroup) (ns : List (List ℕ)) → Wider (alternative_names (meanings gs)) ns → (graph : List Triple) (number : ℕ) → AllBind ns (alternatives (meanings gs) graph number)
  alternatives_bind [] ns w graph number = tt
  alternatives_bind (g ∷ gs) ns w graph number =
      let m = group_in served g.0 in
      all_joined (Binds ns) (group_rows m graph number) (alternatives (meanings gs) graph (number + m.services))
      (all_kept (Binds ns) _ (m.rows graph number) (inside g ns (front m.cut.names (alternative_names (meanings gs)) ns w) graph number))
      (alternatives_bind gs ns (back m.cut.names (alternative_names (meanings gs)) ns w) graph (number + m.services))

  left_join_binds : (ns : List (List ℕ)) (left right : List Bindings) (conditions : List Expr) → AllBind ns left → AllBind ns right → AllBind ns (left_join left right conditions)
  left_join_binds ns left right conditions h k =
      all_joined (Binds ns) (filtered conditions (join left right)) (diff left right conditions) (all_kept (Binds ns) _ (join left right) (join_binds ns left right h k)) (all_kept (Binds ns) _ left h)

  service_binds : (iri : List ℕ) (g : KnownGroup) (ns : List (List ℕ)) → Wider (group_in served g.0).cut.names ns → (number : ℕ) → AllBind ns (service_rows served.graphs served.down iri (group_in served g.0) number)
  service_binds iri g ns w number = go (is_down served.down number)
    where
      go : (b : Bool) → AllBind ns (cond b one_empty (group_rows (group_in served g.0) (served.graphs iri) (suc number)))
      go true = one_binds ns
      go false = all_kept (Binds ns) _ ((group_in served g.0).rows (served.graphs iri) (suc number)) (inside g ns w (served.graphs iri) (suc number))

  abbrev LayerBinds : Element-F Element Group → Type 0
  LayerBinds x = PartBinds (element_meaning served.graphs served.down (map-Element Element Group Part Meaning (element_in served) (group_in served) x))

  layer_binds : (y : Element-F KnownElement KnownGroup) → LayerBinds (map-Element KnownElement KnownGroup Element Group (λ e. e.0) (λ g. g.0) y)
  layer_binds (Element-F.Triple p) = tt
  layer_binds (Element-F.Filter e) = tt
  layer_binds (Element-F.Optional g) = λ ns w graph number rows h. left_join_binds ns rows ((group_in served g.0).rows graph number) (group_in served g.0).filters h (inside g ns w graph number)
  layer_binds (Element-F.Union gs) = λ ns w graph number rows h. join_binds ns rows (alternatives (meanings gs) graph number) h (alternatives_bind gs ns w graph number)
  layer_binds (Element-F.Minus g) = λ ns w graph number rows h. all_kept (Binds ns) (stays (group_rows (group_in served g.0) graph number)) rows h
  layer_binds (Element-F.Bind e name) = λ ns w graph number rows h. extend_binds ns rows name e h (w name (or_left (is_eq (text_cmp name name)) false (itself name)))
  layer_binds (Element-F.Values inline) = λ ns w graph number rows h. join_binds ns rows (inline_rows inline) h (inline_binds ns inline w)
  layer_binds (Element-F.Service silent iri g) = λ ns w graph number rows h.
      join_binds ns rows (service_rows served.graphs served.down iri (group_in served g.0) number) h (service_binds iri g ns w number)

  element_binds : (x : Element-F Element Group) (y : Element-F KnownElement KnownGroup) → map-Element KnownElement KnownGroup Element Group (λ e. e.0) (λ g. g.0) y ≡ x → ElementBinds (roll-Element x)
  element_binds x y is = subst PartBinds (sym (fold-roll-Element Part Meaning (element_meaning served.graphs served.down) group_meaning x)) (subst LayerBinds is (layer_binds y))

  elements_bind : (es : List KnownElement) → AllByRecursion PartBinds (map (element_in served) (map (λ e. e.0) es))
  elements_bind [] = tt
  elements_bind (e ∷ es) = (e.1, elements_bind es)

  abbrev LayerGroupBinds : Group-F Element Group → Type 0
  LayerGroupBinds x = (graph : List Triple) (number : ℕ) → AllBind (flat_map names_of_part (map (element_in served) x.elements)) (after graph number one_empty (steps_of (map (element_in served) x.elements)))

  group_binds : (x : Group-F Element Group) (y : Group-F KnownElement KnownGroup) → map-Group KnownElement KnownGroup Element Group (λ e. e.0) (λ g. g.0) y ≡ x → GroupBinds (roll-Group x)
  group_binds x y is =
      let parts = map (element_in served) (map (λ (e : KnownElement). e.0) y.elements) in
      let names = flat_map names_of_part parts in
      subst (λ (m : Meaning). (graph : List Triple) (number : ℕ) → AllBind m.cut.names (m.rows graph number)) (sym (fold-roll-Group Part Meaning (element_meaning served.graphs served.down) group_meaning x))
      (subst LayerGroupBinds is (λ graph number. after_binds names graph (steps_of parts) number one_empty (steps_in names parts (elements_bind y.elements) (λ name h. h)) (one_binds names)))

  pub rows_bind : (g : Group) (graph : List Triple) (number : ℕ) → AllBind (group_in served g).cut.names ((group_in served g).rows graph number)
  rows_bind = ind-Group ElementBinds GroupBinds element_binds group_binds

  -- so do those on which its filters hold
  pub group_rows_bind : (g : Group) (graph : List Triple) (number : ℕ) → AllBind (group_in served g).cut.names (group_rows (group_in served g) graph number)
  group_rows_bind g graph number = all_kept (Binds (group_in served g).cut.names) _ ((group_in served g).rows graph number) (rows_bind g graph number)
