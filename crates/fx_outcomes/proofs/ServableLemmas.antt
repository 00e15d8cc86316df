-- The occurrences of SERVICE of an accepted query: their groups have no SERVICE, and the queries that are sent for them are of the grammar.
use Rattle.std.proofs.Common.{◌≡◌, ◌∙◌, ap, sym, subst, refl, inl, inr, ℕ, ◌+◌, ◌≤◌, Bool, true, false, ◌&&◌, ◌||◌, not, List, [], ◌∷◌, ◌++◌, map, All, append-nil, arith}
use Rattle.std.specs.Prelude.{codes}
use Rattle.std.specs.List.{AllByRecursion, flat_map}
use Rattle.std.proofs.lemmas.List.Elements.{All-from_recursion}
use Rattle.fx_terms.specs.declared.terms.Term.TheVariants.{Iri}
use Rattle.fx_terms.specs.declared.patterns.Pattern.{Pattern}
use Rattle.fx_terms.specs.declared.patterns.PatternTerm.{PatternTerm}
use Rattle.fx_terms.specs.declared.patterns.PatternTerm.TheVariants.{Variable, Constant}
use Rattle.fx_algebra.specs.Answers.{no_graphs}
use Rattle.fx_algebra.specs.BasicGraphPatterns.{variables}
use Rattle.fx_algebra.specs.Cuts.{stations}
use Rattle.fx_algebra.specs.Groups.{Meaning, Part, pattern, condition, operator, Step, run, apply, with_pattern, steps_of, stations_of, conditions_of, names_before, alternative_stations, element_meaning, group_meaning, meaning}
use Rattle.fx_algebra.specs.Occurrences.{Occurrence, all_of as all_occurrences, element_occurrences, group_occurrences, of_element, of_group}
use Rattle.fx_algebra.specs.Printed.{Word, fixed, term, variable, in_brackets, block, column_words, marked, part_word, pattern_words, printed, row_words, silence, element_step, group_step, element_words, group_words, query_words, form_words, order_words, limit_words, offset_words, trailing_words}
use Rattle.fx_algebra.specs.Scopes.{all_of as all_names, element_names, group_mentions, group_names, mentions, once, part_names, pattern_names, scope}
use Rattle.fx_algebra.specs.Stations.{Station}
use Rattle.fx_algebra.specs.Stations as station
use Rattle.fx_algebra.specs.declared.expressions.Expr.{Expr}
use Rattle.fx_algebra.specs.declared.queries.Element.{Element, Element-F, map-Element, fold-roll-Element, roll-Element}
use Rattle.fx_algebra.specs.declared.queries.Group.{Group, Group-F, ind-Group, fold-roll-Group, map-Group, roll-Group}
use Rattle.fx_algebra.specs.declared.queries.Inline.{Inline}
use Rattle.fx_algebra.specs.declared.queries.Query.{Query}
use Rattle.fx_algebra.proofs.CutLemmas.{has_the_tree, part_of}
use Rattle.fx_grammar.specs.Accepted.{Accepted}
use Rattle.fx_spelling.specs.Printable.{AreFine, AreNames, Held, IsPrintable, all_held, any_serves, are_fresh, held, held_element, hold_element, hold_group}
use Rattle.fx_spelling.proofs.Columns.{fine_columns, names_both, once_names, once_once}
use Rattle.fx_spelling.proofs.Expressions.{fine_split}
use Rattle.fx_spelling.proofs.Queries.{printed_is_accepted}
use Rattle.fx_spelling.proofs.Saying.{fine_both}
use Rattle.fx_spelling.proofs.TakenQueries.{accepted_is_printable}
use Rattle.fx_traffic.specs.Traffic.{service_query}
use Rattle.fx_services.specs.ServicesAsked.{IsServable}

both_true : (b c : Bool) → (b && c) ≡ true → (b ≡ true) × (c ≡ true)
both_true true c e = (refl, e)
both_true false c e = cc

both_false : (b c : Bool) → (b || c) ≡ false → (b ≡ false) × (c ≡ false)
both_false true c e = cc
both_false false c e = (refl, e)

not_true : (b : Bool) → not b ≡ true → b ≡ false
not_true true e = cc
not_true false e = refl

-- ---- names of words

name_of : (p : PatternTerm) → AreFine (part_word p ∷ []) → AreNames (part_names p)
name_of (Variable name) f = (f.0, tt)
name_of (Constant t) f = tt

triple_names : (p : Pattern) → AreFine (pattern_words p) → AreNames (pattern_names p)
triple_names p f =
    names_both (part_names p.subject) (part_names p.predicate ++ part_names p.object) (name_of p.subject (f.0, tt))
    (names_both (part_names p.predicate) (part_names p.object) (name_of p.predicate (f.1.0, tt)) (name_of p.object (f.1.1.0, tt)))

variables_named : (names : List (List ℕ)) → AreFine (map (λ n. variable n) names) → AreNames names
variables_named [] f = tt
variables_named (n ∷ names) f = (f.0, variables_named names f.1)

block_names : (inline : Inline) → AreFine (block inline) → AreNames inline.columns
unfolding block
block_names inline f =
    let columns = map (λ (n : List ℕ). variable n) inline.columns in
    let rest = fixed (codes "{") ∷ (flat_map row_words inline.rows ++ fixed (codes "}") ∷ []) in
    variables_named inline.columns (fine_split columns (fixed (codes ")") ∷ []) (fine_split (fixed (codes "(") ∷ (columns ++ fixed (codes ")") ∷ [])) rest f).0.1).0

bound_name : (e : Expr) (name : List ℕ) → AreFine (in_brackets ((printed e).words ++ (fixed (codes "AS") ∷ variable name ∷ []))) → AreNames (name ∷ [])
bound_name e name f =
    let own = (printed e).words in
    let behind = fixed (codes "AS") ∷ variable name ∷ [] in
    ((fine_split own behind (fine_split (own ++ behind) (fixed (codes ")") ∷ []) f.1).0).1.1.0, tt)

-- ---- stations

-- the query of a group is one that the grammar has, but for how many brackets it opens, and no SERVICE is in it
pub record IsOfTheGrammar (g : Group) : Type 0 where
  pub printable : IsPrintable (service_query g)
  pub alone : of_group g ≡ []

abbrev pub HasServed : Station → Type 0
HasServed (station.run ps filters before) = Unit {0}
HasServed (station.service number silent iri g) = IsOfTheGrammar g

abbrev AllServed : List Station → Type 0
AllServed all = AllByRecursion HasServed all

serve_both : (xs ys : List Station) → AllServed xs → AllServed ys → AllServed (xs ++ ys)
serve_both [] ys h k = k
serve_both (x ∷ xs) ys h k = (h.0, serve_both xs ys h.1 k)

abbrev PartServed : Part → Type 0
PartServed (pattern p) = Unit {0}
PartServed (condition e) = Unit {0}
PartServed (operator o) = (number : ℕ) (before : List (List ℕ)) → AllServed (o.cut.stations number before)

abbrev StepServed : Step → Type 0
StepServed (run ps) = Unit {0}
StepServed (apply o) = (number : ℕ) (before : List (List ℕ)) → AllServed (o.cut.stations number before)

pattern_served : (p : Pattern) (steps : List Step) → AllByRecursion StepServed steps → AllByRecursion StepServed (with_pattern p steps)
pattern_served p [] h = (tt, tt)
pattern_served p (run ps ∷ steps) h = (tt, h.1)
pattern_served p (apply o ∷ steps) h = (tt, h)

steps_served : (parts : List Part) → AllByRecursion PartServed parts → AllByRecursion StepServed (steps_of parts)
steps_served [] h = tt
steps_served (pattern p ∷ parts) h = pattern_served p (steps_of parts) (steps_served parts h.1)
steps_served (condition e ∷ parts) h = steps_served parts h.1
steps_served (operator o ∷ parts) h = (h.0, steps_served parts h.1)

stations_served : (filters : List Expr) (number : ℕ) (before : List (List ℕ)) (steps : List Step) → AllByRecursion StepServed steps → AllServed (stations_of filters number before steps)
stations_served filters number before [] h = tt
stations_served filters number before (run ps ∷ steps) h = (tt, stations_served filters number (before ++ variables ps) steps h.1)
stations_served filters number before (apply o ∷ steps) h =
    serve_both (o.cut.stations number before) (stations_of filters (number + o.services) (before ++ o.cut.names) steps) (h.0 number before) (stations_served filters (number + o.services) (before ++ o.cut.names) steps h.1)

-- ---- by induction over the group

record ElementKnown (e : Element) : Type 0 where
  names : AreFine (element_words e) → AreNames (mentions e)
  unserved : (held_element e).serves ≡ false → of_element e ≡ []
  served : (held_element e).good ≡ true → AreFine (element_words e) → PartServed (part_of no_graphs [] e)

record GroupKnown (g : Group) : Type 0 where
  names : AreFine (group_words g) → AreNames (group_mentions g)
  unserved : (held g).serves ≡ false → of_group g ≡ []
  served : (held g).good ≡ true → AreFine (group_words g) → (number : ℕ) (before : List (List ℕ)) → AllServed ((meaning no_graphs [] g).cut.stations number before)

abbrev Known : Type 0
Known = (e : Element) × ElementKnown e

abbrev KnownGroup : Type 0
KnownGroup = (g : Group) × GroupKnown g

abbrev elements : List Known → List Element
elements es = map (λ e. e.0) es

abbrev groups : List KnownGroup → List Group
groups gs = map (λ g. g.0) gs

-- -- of lists

elements_named : (es : List Known) → AreFine (flat_map (λ words. words) (map element_words (elements es))) → AreNames (all_names (map mentions (elements es)))
elements_named [] f = tt
elements_named (e ∷ es) f =
    let w = fine_split (element_words e.0) (flat_map (λ words. words) (map element_words (elements es))) f in
    names_both (mentions e.0) (all_names (map mentions (elements es))) (e.1.names w.0) (elements_named es w.1)

elements_unserved : (es : List Known) → any_serves (map held_element (elements es)) ≡ false → all_occurrences (map of_element (elements es)) ≡ []
elements_unserved [] h = refl
elements_unserved (e ∷ es) h =
    let t = both_false (held_element e.0).serves (any_serves (map held_element (elements es))) h in
    ap (λ (v : List Occurrence). v ++ all_occurrences (map of_element (elements es))) (e.1.unserved t.0) ∙ elements_unserved es t.1

elements_served : (es : List Known) → all_held (map held_element (elements es)) ≡ true → AreFine (flat_map (λ words. words) (map element_words (elements es))) → AllByRecursion PartServed (map (part_of no_graphs []) (elements es))
elements_served [] h f = tt
elements_served (e ∷ es) h f =
    let t = both_true (held_element e.0).good (all_held (map held_element (elements es))) h in
    let w = fine_split (element_words e.0) (flat_map (λ words. words) (map element_words (elements es))) f in
    (e.1.served t.0 w.0, elements_served es t.1 w.1)

-- alternatives behind the first, each behind UNION
others_named : (gs : List KnownGroup) → AreFine (marked (fixed (codes "UNION")) (map group_words (groups gs))) → AreNames (all_names (map group_mentions (groups gs)))
others_named [] f = tt
others_named (g ∷ gs) f =
    let w = fine_split (group_words g.0) (marked (fixed (codes "UNION")) (map group_words (groups gs))) f.1 in
    names_both (group_mentions g.0) (all_names (map group_mentions (groups gs))) (g.1.names w.0) (others_named gs w.1)

groups_unserved : (gs : List KnownGroup) → any_serves (map held (groups gs)) ≡ false → all_occurrences (map of_group (groups gs)) ≡ []
groups_unserved [] h = refl
groups_unserved (g ∷ gs) h =
    let t = both_false (held g.0).serves (any_serves (map held (groups gs))) h in
    ap (λ (v : List Occurrence). v ++ all_occurrences (map of_group (groups gs))) (g.1.unserved t.0) ∙ groups_unserved gs t.1

others_served : (gs : List KnownGroup) (number : ℕ) → all_held (map held (groups gs)) ≡ true → AreFine (marked (fixed (codes "UNION")) (map group_words (groups gs))) → AllServed (alternative_stations (map (meaning no_graphs []) (groups gs)) number)
others_served [] number h f = tt
others_served (g ∷ gs) number h f =
    let t = both_true (held g.0).good (all_held (map held (groups gs))) h in
    let w = fine_split (group_words g.0) (marked (fixed (codes "UNION")) (map group_words (groups gs))) f.1 in
    let one = meaning no_graphs [] g.0 in
    serve_both (one.cut.stations number []) (alternative_stations (map (meaning no_graphs []) (groups gs)) (number + one.services)) (g.1.served t.0 w.0 number []) (others_served gs (number + one.services) t.1 w.1)

-- -- the query of a SERVICE

query_fine : (g : Group) → AreFine (group_words g) → AreNames (scope g) → AreFine (query_words (service_query g))
unfolding query_words form_words order_words
query_fine g f names =
    let columns = column_words (scope g) in (
      inr (inl refl),
      fine_both (columns ++ fixed (codes "WHERE") ∷ []) (group_words g ++ []) (fine_both columns (fixed (codes "WHERE") ∷ []) (fine_columns (scope g) names) (inr (inl refl), tt)) (subst AreFine (sym (append-nil (group_words g))) f),
    )

of_the_grammar : (g : Group) → (held g).good ≡ true → of_group g ≡ [] → AreFine (group_words g) → AreNames (group_mentions g) → IsOfTheGrammar g
of_the_grammar g good none f names = record {
  printable = record {
    words = query_fine g f (once_names (group_mentions g) names);
    form = (once_once (group_mentions g), λ e. ap once (append-nil (scope g)) ∙ once_once (group_mentions g) ∙ e);
    group = good;
    order = refl;
    inline = refl;
  };
  alone = none;
}

-- -- of one layer

record LayerKnown (x : Element-F Element Group) : Type 0 where
  names : AreFine (element_step (map-Element Element Group (List Word) (List Word) element_words group_words x)) → AreNames (element_names (map-Element Element Group (List (List ℕ)) (List (List ℕ)) mentions group_mentions x))
  unserved : (hold_element (map-Element Element Group Held Held held_element held x)).serves ≡ false → element_occurrences (map-Element Element Group (List Occurrence) (List Occurrence) of_element of_group x) ≡ []
  served : (hold_element (map-Element Element Group Held Held held_element held x)).good ≡ true → AreFine (element_step (map-Element Element Group (List Word) (List Word) element_words group_words x))
      → PartServed (element_meaning no_graphs [] (map-Element Element Group Part Meaning (part_of no_graphs []) (meaning no_graphs []) x))

union_known : (gs : List KnownGroup) → LayerKnown (map-Element Known KnownGroup Element Group (λ e. e.0) (λ g. g.0) (Element-F.Union gs))
union_known [] = record { names = λ f. tt; unserved = λ h. refl; served = λ h f number before. tt }
union_known (g ∷ gs) = record {
  names = λ f.
      let w = fine_split (group_words g.0) (marked (fixed (codes "UNION")) (map group_words (groups gs))) f in
      names_both (group_mentions g.0) (all_names (map group_mentions (groups gs))) (g.1.names w.0) (others_named gs w.1);
  unserved = λ h. groups_unserved (g ∷ gs) h;
  served = λ h f number before.
      let t = both_true (held g.0).good (all_held (map held (groups gs))) h in
      let w = fine_split (group_words g.0) (marked (fixed (codes "UNION")) (map group_words (groups gs))) f in
      let one = meaning no_graphs [] g.0 in
      serve_both (one.cut.stations number []) (alternative_stations (map (meaning no_graphs []) (groups gs)) (number + one.services)) (g.1.served t.0 w.0 number []) (others_served gs (number + one.services) t.1 w.1);
}

layer_known : (y : Element-F Known KnownGroup) → LayerKnown (map-Element Known KnownGroup Element Group (λ e. e.0) (λ g. g.0) y)
layer_known (Element-F.Triple p) = record { names = λ f. triple_names p f; unserved = λ h. refl; served = λ h f. tt }
layer_known (Element-F.Filter e) = record { names = λ f. tt; unserved = λ h. refl; served = λ h f. tt }
layer_known (Element-F.Optional g) = record {
  names = λ f. g.1.names f.1;
  unserved = λ h. g.1.unserved h;
  served = λ h f number before. g.1.served h f.1 number (names_before (meaning no_graphs [] g.0).is_simple before);
}
layer_known (Element-F.Union gs) = union_known gs
layer_known (Element-F.Minus g) = record { names = λ f. tt; unserved = λ h. g.1.unserved h; served = λ h f number before. g.1.served h f.1 number [] }
layer_known (Element-F.Bind e name) = record { names = λ f. bound_name e name f.1; unserved = λ h. refl; served = λ h f number before. tt }
layer_known (Element-F.Values inline) = record { names = λ f. block_names inline f.1; unserved = λ h. refl; served = λ h f number before. tt }
layer_known (Element-F.Service silent iri g) = record {
  names = λ f. g.1.names (fine_split (silence silent) (term (Iri iri) ∷ group_words g.0) f.1).1.1;
  unserved = λ h. cc;
  served = λ h f number before.
      let t = both_true (held g.0).good (not (held g.0).serves) h in
      let words = (fine_split (silence silent) (term (Iri iri) ∷ group_words g.0) f.1).1.1 in
      (subst IsOfTheGrammar (sym (has_the_tree g.0 no_graphs [])) (of_the_grammar g.0 t.0 (g.1.unserved (not_true (held g.0).serves t.1)) words (g.1.names words)), tt);
}

element_known : (x : Element-F Element Group) (y : Element-F Known KnownGroup) → map-Element Known KnownGroup Element Group (λ e. e.0) (λ g. g.0) y ≡ x → ElementKnown (roll-Element x)
element_known x y is =
    let layer = subst LayerKnown is (layer_known y) in
    let words = fold-roll-Element (List Word) (List Word) element_step group_step x in
    record {
      names = λ f. subst AreNames (sym (fold-roll-Element (List (List ℕ)) (List (List ℕ)) element_names group_names x)) (layer.names (subst AreFine words f));
      unserved = λ h. fold-roll-Element (List Occurrence) (List Occurrence) element_occurrences group_occurrences x ∙ layer.unserved (ap (λ (v : Held). v.serves) (sym (fold-roll-Element Held Held hold_element hold_group x)) ∙ h);
      served = λ h f.
          subst PartServed (sym (fold-roll-Element Part Meaning (element_meaning no_graphs []) group_meaning x))
          (layer.served (ap (λ (v : Held). v.good) (sym (fold-roll-Element Held Held hold_element hold_group x)) ∙ h) (subst AreFine words f));
    }

record LayerGroupKnown (x : Group-F Element Group) : Type 0 where
  names : AreFine (flat_map (λ words. words) (map element_words x.elements)) → AreNames (all_names (map mentions x.elements))
  unserved : any_serves (map held_element x.elements) ≡ false → all_occurrences (map of_element x.elements) ≡ []
  served : all_held (map held_element x.elements) ≡ true → AreFine (flat_map (λ words. words) (map element_words x.elements)) → AllByRecursion PartServed (map (part_of no_graphs []) x.elements)

group_known : (x : Group-F Element Group) (y : Group-F Known KnownGroup) → map-Group Known KnownGroup Element Group (λ e. e.0) (λ g. g.0) y ≡ x → GroupKnown (roll-Group x)
group_known x y is =
    let layer = subst LayerGroupKnown is (record { names = elements_named y.elements; unserved = elements_unserved y.elements; served = elements_served y.elements }) in
    record {
      names = λ f. subst AreNames (sym (fold-roll-Group (List (List ℕ)) (List (List ℕ)) element_names group_names x)) (layer.names (inside f));
      unserved = λ h. fold-roll-Group (List Occurrence) (List Occurrence) element_occurrences group_occurrences x ∙ layer.unserved (ap (λ (v : Held). v.serves) (sym (fold-roll-Group Held Held hold_element hold_group x)) ∙ h);
      served = λ h f number before.
          let good = ap (λ (v : Held). v.good) (sym (fold-roll-Group Held Held hold_element hold_group x)) ∙ h in
          let each = (both_true (all_held (map held_element x.elements)) (are_fresh [] (map held_element x.elements)) good).0 in
          let ps = map (part_of no_graphs []) x.elements in
          subst (λ (m : Meaning). AllServed (m.cut.stations number before)) (sym (fold-roll-Group Part Meaning (element_meaning no_graphs []) group_meaning x))
          (stations_served (conditions_of ps) number before (steps_of ps) (steps_served ps (layer.served each (inside f))));
    }
  where
    inside : AreFine (group_words (roll-Group x)) → AreFine (flat_map (λ words. words) (map element_words x.elements))
    inside f = (fine_split (flat_map (λ (w : List Word). w) (map element_words x.elements)) (fixed (codes "}") ∷ []) (subst AreFine (fold-roll-Group (List Word) (List Word) element_step group_step x) f).1).0

known : (g : Group) → GroupKnown g
known = ind-Group ElementKnown GroupKnown element_known group_known

-- ---- queries

-- the words of its group
group_fine : (q : Query) → AreFine (query_words q) → AreFine (group_words q.group)
unfolding query_words
group_fine q f =
    let behind = order_words q.order ++ (limit_words q.limit ++ (offset_words q.offset ++ trailing_words q.inline)) in
    (fine_split (group_words q.group) behind (fine_split (form_words q.form) (group_words q.group ++ behind) f).1).0

-- each occurrence of SERVICE of an accepted query has such a group
pub services_of_the_grammar : (text : List ℕ) (q : Query) → Accepted text q → All HasServed (stations q)
services_of_the_grammar text q accepted =
    let printable = accepted_is_printable text q accepted in
    All-from_recursion HasServed (stations q) ((known q.group).served printable.group (group_fine q printable.words) 0 [])

-- where at most 64 brackets are open at once in its printed text, this is accepted as the query
pub servable : (g : Group) → IsOfTheGrammar g → (held g).nest ≤ 64 → IsServable g
servable g h few = record { accepted = printed_is_accepted (service_query g) h.printable (omega (arith, few)); alone = h.alone }
