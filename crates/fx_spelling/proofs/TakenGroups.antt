-- A group that tokens spell is one that the grammar has, and its printed words are fine.
use Rattle.std.proofs.Common.{◌≡◌, ℕ, zero, suc, Bool, true, false, cond, not, List, [], ◌∷◌, ◌++◌, length, map, Option, Some, None, is_some as has_some, Ok, Err, Result, refl, sym, ap, ◌∙◌, subst, append_assoc, append-nil, inl, inr}
use Rattle.std.specs.Prelude.{codes, ◌==◌, fold}
use Rattle.std.specs.List.{flat_map}
use Rattle.std.proofs.lemmas.Bool.{and_from, and_parts, or_from}
use Rattle.fx_terms.specs.Names.{IsName}
use Rattle.fx_terms.specs.Iris.{IsIri}
use Rattle.fx_terms.specs.declared.terms.Term.{Term}
use Rattle.fx_terms.specs.declared.terms.Term.TheVariants.{Iri}
use Rattle.fx_terms.specs.declared.patterns.Pattern.{Pattern}
use Rattle.fx_terms.specs.declared.patterns.PatternTerm.{PatternTerm}
use Rattle.fx_terms.specs.declared.patterns.PatternTerm.TheVariants.{Variable, Constant}
use Rattle.fx_algebra.specs.Printed.{Word, fixed, variable, term, in_brackets, marked, printed, condition, is_call, value_word, row_words, block, silence, element_step, group_step, element_words, group_words}
use Rattle.fx_algebra.specs.Scopes.{is_among, with_name, part_names, mentions}
use Rattle.fx_algebra.specs.declared.expressions.Expr.{Expr}
use Rattle.fx_algebra.specs.declared.queries.Inline.{Inline}
use Rattle.fx_algebra.specs.declared.queries.Element.{Element, Element-F, fold-roll-Element, roll-Element}
use Rattle.fx_algebra.specs.declared.queries.Element.TheVariants as element
use Rattle.fx_algebra.specs.declared.queries.Group.{Group, roll-Group, fold-roll-Group}
use Rattle.fx_grammar.specs.Kinds.{is, kind_of}
use Rattle.fx_grammar.specs.Rule.{Rule, shape_of, token, seq, after, before, either, opt, many, made, nested, depth}
use Rattle.fx_grammar.specs.Grammar as grammar
use Rattle.fx_grammar.specs.Grammar.{Prefixes}
use Rattle.fx_grammar.specs.Classified.{is_inside, behind}
use Rattle.fx_grammar.specs.declared.places.Context.{Context}
use Rattle.fx_grammar.specs.declared.places.Service.{Service}
use Rattle.fx_grammar.specs.declared.places.Service.TheVariants.{Outside, Named, Inside}
use Rattle.fx_spelling.specs.Printable.{AreFine, IsFine, AreNames, IsPart, IsVerb, IsTriple, AreTriples, are_new, are_wide, is_block, Held, all_held, any_serves, held_names, not_bound, are_fresh, hold_element, hold_group, held, held_element}
use Rattle.fx_grammar.specs.declared.kinds.Kind.{Kind}
use Rattle.fx_grammar.specs.declared.kinds.Kind.TheVariants as k
use Rattle.fx_grammar.specs.declared.refusals.SyntaxKind.{SyntaxKind}
use Rattle.fx_grammar.specs.declared.refusals.SyntaxKind.TheVariants.{RepeatedName, ValuesWidth, BindInScope, BlankNode, Unsupported, Unexpected}
use Rattle.fx_grammar.specs.declared.kinds.Token.{Token}
use Rattle.fx_grammar.proofs.KindLaws.{apart_by, same_rank}
use Rattle.fx_spelling.proofs.Saying.{fine_both}
use Rattle.fx_spelling.proofs.Terms.{verb_good, verb_part, fine_triple}
use Rattle.fx_spelling.proofs.Columns.{names_both, fine_names}
use Rattle.fx_spelling.proofs.Groups.{mentioned, elements_from}
use Rattle.fx_spelling.proofs.Placing.{SteadyAt}
use Rattle.fx_spelling.proofs.Tracking.{GoodToken, is_bad, Track, is_turning, past_plain, Any, Maybe, Each, EachFrom, Some_of, each_of, served_within, Given, of_one, of_token, of_refusing, of_made, of_seq, of_after, of_before, of_either, of_opt, of_many, of_chain, of_parens, of_braces, of_then, of_from}
use Rattle.fx_spelling.proofs.Taken.{GoodPrefixes, named_is, name_is, type_iri, OfIri, GoodExpr, of_literal, of_variable, of_iri_name, of_datatype_in, of_expression, of_constraint}

-- ---- triples

abbrev OfPart : Bool → PatternTerm → Type 0
OfPart b p = IsPart p

abbrev OfVerb : Bool → PatternTerm → Type 0
OfVerb b p = IsVerb p

abbrev OfProperty : Bool → grammar.Property → Type 0
OfProperty b p = IsVerb p.0 × Each OfPart b p.1

abbrev OfTriples : Bool → List Pattern → Type 0
OfTriples b ts = AreTriples ts

triples_both : (xs ys : List Pattern) → AreTriples xs → AreTriples ys → AreTriples (xs ++ ys)
triples_both [] ys h g = g
triples_both (x ∷ xs) ys h g = (h.0, triples_both xs ys h.1 g)

property_good : (b : Bool) (s v : PatternTerm) (objects : List PatternTerm) → IsPart s → IsVerb v → Each OfPart b objects → AreTriples (map (λ (object : PatternTerm). record { subject = s; predicate = v; object = object }) objects)
property_good b s v [] h g o = tt
property_good b s v (x ∷ objects) h g o = (record { subject = h; predicate = g; object = o.0 }, property_good b s v objects h g o.1)

triples_good : (b : Bool) (s : PatternTerm) (ps : List grammar.Property) → IsPart s → Each OfProperty b ps → AreTriples (grammar.triples_of s ps)
triples_good b s [] h g = tt
triples_good b s (p ∷ ps) h g = triples_both (grammar.property_triples s p) (grammar.triples_of s ps) (property_good b s p.0 p.1 h g.0.0 g.0.1) (triples_good b s ps h g.1)

properties_good : (b : Bool) (os : List (Option grammar.Property)) → Each (Maybe OfProperty) b os → Each OfProperty b (flat_map grammar.option_list os)
properties_good b [] h = tt
properties_good b (None ∷ os) h = properties_good b os h.1
properties_good b (Some p ∷ os) h = (h.0, properties_good b os h.1)

behind_good : (b s : Bool) (os : List (Option (List Pattern))) → EachFrom (λ (s : Bool). Maybe OfTriples) (λ behind ts. has_some ts) s b os → AreTriples (flat_map grammar.option_items os)
behind_good b s [] h = tt
behind_good b s (None ∷ os) h = behind_good b false os h.1
behind_good b s (Some ts ∷ os) h = triples_both ts (flat_map grammar.option_items os) h.0 (behind_good b true os h.1)

of_dot : (b : Bool) → Given Any (grammar.dot b)
of_dot true = of_token k.Dot refl
of_dot false = of_refusing Unexpected (is k.Dot)

-- ---- VALUES

abbrev OfValue : Bool → Option Term → Type 0
OfValue b v = IsFine (value_word v)

abbrev pub OfBlock : Bool → Inline → Type 0
OfBlock b inline = (is_block inline ≡ true) × AreFine (block inline) × AreNames inline.columns

fine_values : (b : Bool) (row : List (Option Term)) → Each OfValue b row → AreFine (map value_word row)
fine_values b [] h = tt
fine_values b (v ∷ row) h = (h.0, fine_values b row h.1)

fine_row : (b : Bool) (row : List (Option Term)) → Each OfValue b row → AreFine (row_words row)
fine_row b row h = (inl refl, fine_both (map value_word row) (fixed (codes ")") ∷ []) (fine_values b row h) (inl refl, tt))

abbrev OfRow : ℕ → Bool → List (Option Term) → Type 0
OfRow width b row = Each OfValue b row × ((length row == width) ≡ true)

fine_rows : (width : ℕ) (b : Bool) (rows : List (List (Option Term))) → Each (OfRow width) b rows → AreFine (flat_map row_words rows)
fine_rows width b [] h = tt
fine_rows width b (row ∷ rows) h = fine_both (row_words row) (flat_map row_words rows) (fine_row b row h.0.0) (fine_rows width b rows h.1)

wide_rows : (width : ℕ) (b : Bool) (rows : List (List (Option Term))) → Each (OfRow width) b rows → are_wide width rows ≡ true
wide_rows width b [] h = refl
wide_rows width b (row ∷ rows) h = and_from (length row == width) (are_wide width rows) h.0.1 (wide_rows width b rows h.1)

abbrev OfColumn : List (List ℕ) → Bool → List ℕ → Type 0
OfColumn names b name = IsName name × (is_among names name ≡ false)

new_columns : (b : Bool) (names columns : List (List ℕ)) → EachFrom OfColumn (λ names name. names ++ name ∷ []) names b columns → (are_new names columns ≡ true) × AreNames columns
new_columns b names [] h = (refl, tt)
new_columns b names (c ∷ columns) h =
    let r = new_columns b (names ++ c ∷ []) columns h.1 in
    (and_from (not (is_among names c)) (are_new (names ++ c ∷ []) columns) (ap not h.0.1) r.0, (h.0.0, r.1))

block_good : (b : Bool) (inline : Inline) → are_new [] inline.columns ≡ true → AreNames inline.columns → Each (OfRow (length inline.columns)) b inline.rows → OfBlock b inline
unfolding block
block_good b inline n c r = (
  and_from (are_new [] inline.columns) (are_wide (length inline.columns) inline.rows) n (wide_rows (length inline.columns) b inline.rows r),
  fine_both (in_brackets (map (λ n. variable n) inline.columns)) (fixed (codes "{") ∷ (flat_map row_words inline.rows ++ fixed (codes "}") ∷ [])) (inl refl, fine_both (map (λ n. variable n) inline.columns) (fixed (codes ")") ∷ []) (fine_names inline.columns c) (inl refl, tt))
      (inl refl, fine_both (flat_map row_words inline.rows) (fixed (codes "}") ∷ []) (fine_rows (length inline.columns) b inline.rows r) (inl refl, tt)),
  c,
)

single_rows : (b : Bool) (values : List (Option Term)) → Each OfValue b values → Each (OfRow 1) b (map (λ (v : Option Term). v ∷ []) values)
single_rows b [] h = tt
single_rows b (v ∷ values) h = (((h.0, tt), refl), single_rows b values h.1)

column_is : (names : List (List ℕ)) (t : Token) (r : Result (List ℕ) SyntaxKind) (x : List ℕ) → grammar.name_of t ≡ r → GoodToken t → grammar.new_column_of names r ≡ Ok x → IsName x × (is_among names x ≡ false)
column_is names t (Err why) x e g h = absurd (cc (h))
column_is names t (Ok name) x e g h = go (is_among names name) refl h
  where
    go : (b : Bool) → is_among names name ≡ b → cond b (Err RepeatedName) (Ok name) ≡ Ok x → IsName x × (is_among names x ≡ false)
    go true f h = absurd (cc (h))
    go false f h = let same : name ≡ x = cc (h) in (subst IsName same (name_is t name e g), ap (is_among names) (sym same) ∙ f)

of_new_column : (names : List (List ℕ)) → Given (OfColumn names) (grammar.new_column names)
unfolding grammar.new_column
of_new_column names = of_one (is k.Variable) (λ t. grammar.new_column_of names (grammar.name_of t)) (apart_by (is k.Variable) is_turning refl) (λ b t x e g. column_is names t (grammar.name_of t) x refl g e)

of_columns : Given (EachFrom OfColumn (λ names name. names ++ name ∷ []) []) (grammar.columns [])
unfolding grammar.columns
of_columns = of_from OfColumn (shape_of (grammar.new_column [])) grammar.new_column (λ names name. names ++ name ∷ []) of_new_column []

width_is : (b : Bool) (u : Unit {0}) → cond b (Ok tt) (Err ValuesWidth) ≡ Ok u → b ≡ true
width_is true u h = refl
width_is false u h = absurd (cc (h))

module _ (ps : Prefixes) (good : GoodPrefixes ps) where
  of_graph_term : Given OfPart (grammar.graph_term ps)
  unfolding grammar.graph_term grammar.part_literal
  of_graph_term =
      of_either (of_made Variable of_variable (λ b name h. h))
      (of_either (of_made grammar.iri_part (of_iri_name ps good) (λ b iri h. h))
      (of_either (of_refusing BlankNode grammar.begins_blank_node)
      (of_either (of_refusing Unsupported (is k.LeftParen))
      (of_made Constant (of_literal (grammar.datatype_in false ps) (of_datatype_in ps good false)) (λ b t h. h)))))

  of_verb : Given OfVerb (grammar.verb ps)
  unfolding grammar.verb grammar.verb_iri grammar.no_path
  of_verb =
      let iri : Given OfIri (either (made (λ u. grammar.rdf_type) (token k.A)) (grammar.iri_name ps)) = of_either (of_made (λ u. grammar.rdf_type) (of_token k.A refl) (λ b u h. type_iri)) (of_iri_name ps good) in
      of_either (of_made Variable of_variable (λ b name h. h)) (of_either (of_made grammar.iri_part (of_before iri (of_opt (of_refusing {P = Any} Unsupported grammar.goes_on_path))) (λ b iri h. h)) (of_refusing Unsupported grammar.begins_path))

  of_property : Given OfProperty (grammar.property ps)
  unfolding grammar.property grammar.objects
  of_property = record { holds = λ ts x s context rest st tr. let r = (of_seq of_verb (of_chain k.Comma refl of_graph_term)).holds ts x s context rest st tr in ((r.0.0, each_of OfPart (is_inside context.service) x.1 r.0.1), r.1) }

  of_same_subject : Given OfTriples (grammar.same_subject ps)
  unfolding grammar.same_subject grammar.properties grammar.more_properties
  of_same_subject =
      let properties : Given (Each OfProperty) (made (λ p. p.0 ∷ flat_map grammar.option_list p.1) (seq (grammar.property ps) (many (after (token k.Semicolon) (opt (grammar.property ps)))))) =
      of_made (λ p. p.0 ∷ flat_map grammar.option_list p.1) (of_seq of_property (of_many (of_after k.Semicolon refl (of_opt of_property)))) (λ b p h. (h.0, properties_good b p.1 h.1)) in
      of_made (λ p. grammar.triples_of p.0 p.1) (of_seq of_graph_term properties) (λ b p h. triples_good b p.0 p.1 h.0 h.1)

  of_dot_triples : (behind : Bool) → Given (Maybe OfTriples) (grammar.dot_triples ps behind)
  unfolding grammar.dot_triples
  of_dot_triples behind = of_made (λ p. p.1) (of_seq (of_dot behind) (of_opt of_same_subject)) (λ b p h. h.1)

  of_triples : Given OfTriples (grammar.triples ps)
  unfolding grammar.triples grammar.more_triples
  of_triples =
      of_made (λ p. p.0 ++ flat_map grammar.option_items p.1) (of_seq of_same_subject (of_from (λ s. Maybe OfTriples) (shape_of (grammar.dot_triples ps true)) (grammar.dot_triples ps) (λ behind ts. has_some ts) of_dot_triples true))
      (λ b p h. triples_both p.0 (flat_map grammar.option_items p.1) h.0 (behind_good b true p.1 h.1))

  of_value : Given OfValue (grammar.value ps)
  unfolding grammar.value
  of_value =
      of_either (of_made (λ iri. Some (Iri iri)) (of_iri_name ps good) (λ b iri h. h))
      (of_either (of_made (λ u. None) (of_token k.Undef refl) (λ b u h. inr (inl refl))) (of_made Some (of_literal (grammar.datatype_in false ps) (of_datatype_in ps good false)) (λ b t h. h)))

  of_row : (width : ℕ) → Given (OfRow width) (grammar.row ps width)
  unfolding grammar.row grammar.row_end
  of_row width = record {
    holds = λ ts row s context rest st tr.
        let parts = s.1 in
        let last = parts.4 in
        let within : Given (Each OfValue) (grammar.parens (many (grammar.value ps))) = of_parens (of_many of_value) in
        let r = within.holds ts row ((s.0.0, tt), (parts.0, parts.1, parts.2, parts.3, (last.0, last.1, last.2, refl)), s.2) context rest st tr in
        ((r.0, ap (λ (v : List (Option Term)). length v == width) s.2 ∙ width_is (length s.0.0 == width) s.0.1 last.3), r.1);
  }

  of_rows : (width : ℕ) → Given (Each (OfRow width)) (grammar.rows ps width)
  unfolding grammar.rows
  of_rows width = of_braces (of_many (of_row width))

  pub of_block : Given OfBlock (grammar.block ps)
  unfolding grammar.block grammar.single_block grammar.wide_block
  of_block =
      of_either
      (of_made (λ p. record { columns = p.0 ∷ []; rows = map (λ (v : Option Term). v ∷ []) p.1 }) (of_seq of_variable (of_braces (of_many of_value))) (λ b p h. block_good b (record { columns = p.0 ∷ []; rows = map (λ (v : Option Term). v ∷ []) p.1 }) refl (h.0, tt) (single_rows b p.1 h.1)))
      (of_made (λ p. record { columns = p.0; rows = p.1 }) (of_then (λ names. Each (OfRow (length names))) (shape_of (grammar.rows ps 0)) (λ names. grammar.rows ps (length names)) (of_parens of_columns) (λ c names h. of_rows (length names)))
      (λ b p h. let n = new_columns b [] p.0 h.0 in block_good b (record { columns = p.0; rows = p.1 }) n.0 n.1 h.1))

-- ---- elements and groups

-- the grammar has it, its words are fine, its names are names, and within a SERVICE none is in it
abbrev pub GoodGroup : Bool → Group → Type 0
GoodGroup b g = ((held g).good ≡ true) × AreFine (group_words g) × AreNames (held g).names × (b ≡ true → (held g).serves ≡ false)

abbrev GoodElement : Bool → Element → Type 0
GoodElement b e = ((held_element e).good ≡ true) × AreFine (element_words e) × AreNames (held_element e).names × (b ≡ true → (held_element e).serves ≡ false)

abbrev OfOther : List (List ℕ) → Bool → Element → Type 0
OfOther names b e = GoodElement b e × (not_bound names (held_element e).binds ≡ true)

layer : (names : List (List ℕ)) (b : Bool) (z : Element-F Element Group) (h : Held) (w : List Word) (e : Element) → roll-Element z ≡ e → held_element (roll-Element z) ≡ h → element_words (roll-Element z) ≡ w
    → h.good ≡ true → AreFine w → AreNames h.names → (b ≡ true → h.serves ≡ false) → not_bound names h.binds ≡ true → OfOther names b e
layer names b z h w e r a c g f n s u =
    subst (OfOther names b) r
    ((ap (λ (v : Held). v.good) a ∙ g, subst AreFine (sym c) f, subst (λ (v : Held). AreNames v.names) (sym a) n, λ t. ap (λ (v : Held). v.serves) a ∙ s t), ap (λ (v : Held). not_bound names v.binds) a ∙ u)

fine_condition : (e : Expr) → GoodExpr e → AreFine (condition (printed e))
unfolding condition
fine_condition e h = go (is_call (printed e).level)
  where
    go : (b : Bool) → AreFine (cond b (printed e).words (in_brackets (printed e).words))
    go true = h.1
    go false = (inl refl, fine_both (printed e).words (fixed (codes ")") ∷ []) h.1 (inl refl, tt))

module _ (names : List (List ℕ)) (b : Bool) where
  filter_good : (e : Expr) → GoodExpr e → OfOther names b (element.Filter e)
  filter_good e h =
      layer names b (Element-F.Filter e) _ _ _ (element.rolls-Filter e) (fold-roll-Element Held Held hold_element hold_group (Element-F.Filter e)) (fold-roll-Element (List Word) (List Word) element_step group_step (Element-F.Filter e)) h.0 (inr (inl refl), fine_condition e h) tt (λ t. refl) refl

  optional_good : (g : Group) → GoodGroup b g → OfOther names b (element.Optional g)
  optional_good g h =
      layer names b (Element-F.Optional g) _ _ _ (element.rolls-Optional g) (fold-roll-Element Held Held hold_element hold_group (Element-F.Optional g)) (fold-roll-Element (List Word) (List Word) element_step group_step (Element-F.Optional g)) h.0 (inr (inl refl), h.1) h.2 h.3 refl

  minus_good : (g : Group) → GoodGroup b g → OfOther names b (element.Minus g)
  minus_good g h =
      layer names b (Element-F.Minus g) _ _ _ (element.rolls-Minus g) (fold-roll-Element Held Held hold_element hold_group (Element-F.Minus g)) (fold-roll-Element (List Word) (List Word) element_step group_step (Element-F.Minus g)) h.0 (inr (inl refl), h.1) tt h.3 refl

  values_good : (inline : Inline) → OfBlock b inline → OfOther names b (element.Values inline)
  values_good inline h =
      layer names b (Element-F.Values inline) _ _ _ (element.rolls-Values inline) (fold-roll-Element Held Held hold_element hold_group (Element-F.Values inline)) (fold-roll-Element (List Word) (List Word) element_step group_step (Element-F.Values inline)) h.0 (inr (inl refl), h.1) h.2 (λ t. refl) refl

  bind_good : (e : Expr) (name : List ℕ) → GoodExpr e → IsName name → is_among names name ≡ false → OfOther names b (element.Bind e name)
  bind_good e name h n u =
      layer names b (Element-F.Bind e name) _ _ _ (element.rolls-Bind e name) (fold-roll-Element Held Held hold_element hold_group (Element-F.Bind e name)) (fold-roll-Element (List Word) (List Word) element_step group_step (Element-F.Bind e name)) h.0
      (inr (inl refl), (inl refl, fine_both ((printed e).words ++ (fixed (codes "AS") ∷ variable name ∷ [])) (fixed (codes ")") ∷ []) (fine_both (printed e).words (fixed (codes "AS") ∷ variable name ∷ []) h.1 (inr (inl refl), (n, tt))) (inl refl, tt))) (n, tt) (λ t. refl) (ap not u)

  groups_held : (gs : List Group) → Each GoodGroup b gs → (all_held (map held gs) ≡ true) × AreNames (held_names (map held gs)) × (b ≡ true → any_serves (map held gs) ≡ false)
  groups_held [] h = (refl, tt, λ t. refl)
  groups_held (g ∷ gs) h =
      let r = groups_held gs h.1 in
      (and_from (held g).good (all_held (map held gs)) h.0.0 r.0, names_both (held g).names (held_names (map held gs)) h.0.2 r.1, λ t. or_from (held g).serves (any_serves (map held gs)) (h.0.3 t) (r.2 t))

  fine_marked : (gs : List Group) → Each GoodGroup b gs → AreFine (marked (fixed (codes "UNION")) (map group_words gs))
  fine_marked [] h = tt
  fine_marked (g ∷ gs) h = (inr (inl refl), fine_both (group_words g) (marked (fixed (codes "UNION")) (map group_words gs)) h.0.1 (fine_marked gs h.1))

  union_good : (gs : List Group) → Some_of GoodGroup b gs → OfOther names b (element.Union gs)
  union_good [] h = absurd h
  union_good (g ∷ gs) h =
      let r = groups_held (g ∷ gs) h in
      layer names b (Element-F.Union (g ∷ gs)) _ _ _ (element.rolls-Union (g ∷ gs)) (fold-roll-Element Held Held hold_element hold_group (Element-F.Union (g ∷ gs))) (fold-roll-Element (List Word) (List Word) element_step group_step (Element-F.Union (g ∷ gs))) r.0
      (fine_both (group_words g) (marked (fixed (codes "UNION")) (map group_words gs)) h.0.1 (fine_marked gs h.1)) r.1 r.2 refl

  fine_silence : (silent : Bool) → AreFine (silence silent)
  fine_silence true = (inr (inl refl), tt)
  fine_silence false = tt

  service_good : (silent : Bool) (iri : List ℕ) (g : Group) → IsIri iri → GoodGroup true g → b ≡ false → OfOther names b (element.Service silent iri g)
  service_good silent iri g i h o =
      layer names b (Element-F.Service silent iri g) _ _ _ (element.rolls-Service silent iri g) (fold-roll-Element Held Held hold_element hold_group (Element-F.Service silent iri g)) (fold-roll-Element (List Word) (List Word) element_step group_step (Element-F.Service silent iri g))
      (and_from (held g).good (not (held g).serves) h.0 (ap not (h.3 refl))) (inr (inl refl), fine_both (silence silent) (term (Iri iri) ∷ group_words g) (fine_silence silent) (i, h.1)) h.2 (λ t. absurd (cc (t, o))) refl

-- ---- triples among the elements

abbrev OfRun : Bool → List Element → Type 0
OfRun b es = Each GoodElement b es × ((names : List (List ℕ)) → are_fresh names (map held_element es) ≡ true)

part_names_good : (p : PatternTerm) → IsPart p → AreNames (part_names p)
part_names_good (Variable name) h = (h, tt)
part_names_good (Constant t) h = tt

triple_good : (names : List (List ℕ)) (b : Bool) (p : Pattern) → IsTriple p → OfOther names b (element.Triple p)
triple_good names b p h =
    layer names b (Element-F.Triple p) _ _ _ (element.rolls-Triple p) (fold-roll-Element Held Held hold_element hold_group (Element-F.Triple p)) (fold-roll-Element (List Word) (List Word) element_step group_step (Element-F.Triple p)) (verb_good p.predicate h.predicate) (fine_triple p h)
    (names_both (part_names p.subject) (part_names p.predicate ++ part_names p.object) (part_names_good p.subject h.subject) (names_both (part_names p.predicate) (part_names p.object) (part_names_good p.predicate (verb_part p.predicate h.predicate)) (part_names_good p.object h.object))) (λ t. refl) refl

run_good : (b : Bool) (ps : List Pattern) → AreTriples ps → OfRun b (map element.Triple ps)
run_good b [] h = (tt, λ names. refl)
run_good b (p ∷ ps) h =
    let r = run_good b ps h.1 in
    (((triple_good [] b p h.0).0, r.0), λ names. and_from (not_bound names (held_element (element.Triple p)).binds) (are_fresh (fold with_name names (held_element (element.Triple p)).names) (map held_element (map element.Triple ps))) (triple_good names b p h.0).1 (r.1 (fold with_name names (held_element (element.Triple p)).names)))

optional_run_good : (b : Bool) (o : Option (List Pattern)) → Maybe OfTriples b o → OfRun b (grammar.triple_elements o)
optional_run_good b None h = (tt, λ names. refl)
optional_run_good b (Some ps) h = run_good b ps h

abbrev OfItem : List (List ℕ) → Bool → List Element → Type 0
OfItem names b es = Each GoodElement b es × (are_fresh names (map held_element es) ≡ true)

-- what stands behind some elements
each_both : (b : Bool) (xs ys : List Element) → Each GoodElement b xs → Each GoodElement b ys → Each GoodElement b (xs ++ ys)
each_both b [] ys h g = g
each_both b (x ∷ xs) ys h g = (h.0, each_both b xs ys h.1 g)

after_one : (names : List (List ℕ)) (e : Element) (es : List Element) → grammar.with_elements names (e ∷ es) ≡ grammar.with_elements (fold with_name names (held_element e).names) es
after_one names e es = elements_from names (e ∷ []) es ∙ ap (λ (v : List (List ℕ)). grammar.with_elements v es) (ap (λ (v : List (List ℕ)). fold with_name names v) (append-nil (mentions e) ∙ sym (mentioned [] e)))

fresh_both : (names : List (List ℕ)) (xs ys : List Element) → are_fresh names (map held_element xs) ≡ true → are_fresh (grammar.with_elements names xs) (map held_element ys) ≡ true → are_fresh names (map held_element (xs ++ ys)) ≡ true
fresh_both names [] ys h g = g
fresh_both names (x ∷ xs) ys h g =
    let t = and_parts (not_bound names (held_element x).binds) (are_fresh (fold with_name names (held_element x).names) (map held_element xs)) h in
    and_from (not_bound names (held_element x).binds) (are_fresh (fold with_name names (held_element x).names) (map held_element (xs ++ ys))) t.0
    (fresh_both (fold with_name names (held_element x).names) xs ys t.1 (subst (λ (v : List (List ℕ)). are_fresh v (map held_element ys) ≡ true) (after_one names x xs) g))

items_good : (b : Bool) (names : List (List ℕ)) (items : List (List Element)) → EachFrom OfItem grammar.with_elements names b items → OfItem names b (flat_map (λ es. es) items)
items_good b names [] h = (tt, refl)
items_good b names (es ∷ items) h =
    let r = items_good b (grammar.with_elements names es) items h.1 in
    (each_both b es (flat_map (λ es. es) items) h.0.0 r.0, fresh_both names es (flat_map (λ es. es) items) h.0.1 r.1)

fine_elements : (b : Bool) (es : List Element) → Each GoodElement b es → AreFine (flat_map (λ words. words) (map element_words es))
fine_elements b [] h = tt
fine_elements b (e ∷ es) h = fine_both (element_words e) (flat_map (λ words. words) (map element_words es)) h.0.1 (fine_elements b es h.1)

elements_held : (b : Bool) (es : List Element) → Each GoodElement b es → (all_held (map held_element es) ≡ true) × AreNames (held_names (map held_element es)) × (b ≡ true → any_serves (map held_element es) ≡ false)
elements_held b [] h = (refl, tt, λ t. refl)
elements_held b (e ∷ es) h =
    let r = elements_held b es h.1 in
    (and_from (held_element e).good (all_held (map held_element es)) h.0.0 r.0, names_both (held_element e).names (held_names (map held_element es)) h.0.2 r.1, λ t. or_from (held_element e).serves (any_serves (map held_element es)) (h.0.3 t) (r.2 t))

group_good : (b : Bool) (es : List Element) → OfItem [] b es → GoodGroup b (roll-Group (record { elements = es }))
group_good b es h =
    let r = elements_held b es h.0 in
    let a : held (roll-Group (record { elements = es })) ≡ hold_group (record { elements = map held_element es }) = fold-roll-Group Held Held hold_element hold_group (record { elements = es }) in
    let w : group_words (roll-Group (record { elements = es })) ≡ group_step (record { elements = map element_words es }) = fold-roll-Group (List Word) (List Word) element_step group_step (record { elements = es }) in (
      ap (λ (v : Held). v.good) a ∙ and_from (all_held (map held_element es)) (are_fresh [] (map held_element es)) r.0 h.1,
      subst AreFine (sym w) (inl refl, fine_both (flat_map (λ words. words) (map element_words es)) (fixed (codes "}") ∷ []) (fine_elements b es h.0) (inl refl, tt)),
      subst (λ (v : Held). AreNames v.names) (sym a) r.1,
      λ t. ap (λ (v : Held). v.serves) a ∙ r.2 t,
    )

-- ---- a group within a group

-- also between the braces of a SERVICE
record Within (a : Rule Group) : Type 0 where
  given : Given GoodGroup a
  served : (ts : List Token) (g : Group) → a.spells ts g → (d : ℕ) (rest : List Token) → Track (record { depth = d; service = Named }) (ts ++ rest) → GoodGroup true g × Track (record { depth = d; service = Outside }) rest

past_silent : (ts : List Token) (o : Option (Unit {0})) → (opt (token k.Silent)).spells ts o → (context : Context) (rest : List Token) → Track context (ts ++ rest) → Track context rest
past_silent ts None s context rest tr = subst (λ (v : List Token). Track context (v ++ rest)) s tr
past_silent ts (Some u) s context rest tr = (past_plain context s.0 rest (ap is_turning (sym (same_rank k.Silent (kind_of s.0) s.2))) (subst (λ (v : List Token). Track context (v ++ rest)) s.1 tr)).1

module _ (ps : Prefixes) (good : GoodPrefixes ps) where
  abbrev served_part : Rule Group → Rule (Option (Unit {0}) × (List ℕ × Group))
  served_part inner = seq (opt (token k.Silent)) (seq (grammar.service_name ps) inner)

  -- behind SERVICE
  service_tail : (inner : Rule Group) → Within inner → (ts : List Token) (x : Option (Unit {0}) × (List ℕ × Group)) → (served_part inner).spells ts x → (d : ℕ) (rest : List Token) → Track (record { depth = d; service = Named }) (ts ++ rest)
      → IsIri x.1.0 × GoodGroup true x.1.1 × Track (record { depth = d; service = Outside }) rest
  unfolding grammar.service_name grammar.iri_name
  service_tail inner w ts x s d rest tr = go s.4.3
    where
      joined : Track (record { depth = d; service = Named }) (s.0 ++ (s.4.0 ++ (s.4.1 ++ rest)))
      joined = subst (λ (v : List Token). Track (record { depth = d; service = Named }) v) (ap (λ (v : List Token). v ++ rest) s.2 ∙ append_assoc s.0 s.1 rest ∙ ap (λ (v : List Token). s.0 ++ v) (ap (λ (v : List Token). v ++ rest) s.4.2 ∙ append_assoc s.4.0 s.4.1 rest)) tr

      behind_silent : Track (record { depth = d; service = Named }) (s.4.0 ++ (s.4.1 ++ rest))
      behind_silent = past_silent s.0 x.0 s.3 (record { depth = d; service = Named }) (s.4.0 ++ (s.4.1 ++ rest)) joined

      go : (grammar.service_name ps).spells s.4.0 x.1.0 → IsIri x.1.0 × GoodGroup true x.1.1 × Track (record { depth = d; service = Outside }) rest
      go (inr n) = absurd n
      go (inl n) =
          let p = past_plain (record { depth = d; service = Named }) n.0 (s.4.1 ++ rest) (apart_by grammar.is_iri_name is_turning refl (kind_of n.0) n.2) (subst (λ (v : List Token). Track (record { depth = d; service = Named }) (v ++ (s.4.1 ++ rest))) n.1 behind_silent) in
          let g = w.served s.4.1 x.1.1 s.4.4 d rest p.1 in
          (named_is ps good n.0 x.1.0 n.3 p.0, g.0, g.1)

  service_at : (inner : Rule Group) → Within inner → (names : List (List ℕ)) (d : ℕ) (v : Service) (t : Token) (mid rest : List Token) (x : Option (Unit {0}) × (List ℕ × Group)) → kind_of t ≡ k.Service → (served_part inner).spells mid x → SteadyAt d v → Track (record { depth = d; service = v }) (t ∷ (mid ++ rest))
      → OfOther names (is_inside v) (element.Service (has_some x.0) x.1.0 x.1.1) × Track (record { depth = d; service = v }) rest
  service_at inner w names d Named t mid rest x e s st tr = absurd st
  service_at inner w names d (Inside before) t mid rest x e s st tr = absurd (let h = (tr (ap is_bad e)).2 (ap (is k.Service) e) in cc (h))
  service_at inner w names d Outside t mid rest x e s st tr =
      let next : Track (behind (record { depth = d; service = Outside }) k.Service) (mid ++ rest) = subst (λ (a : Kind). Track (behind (record { depth = d; service = Outside }) a) (mid ++ rest)) e (tr (ap is_bad e)).3 in
      let r = service_tail inner w mid x s d rest next in
      (service_good names false (has_some x.0) x.1.0 x.1.1 r.0 r.1 refl, r.2)

  of_service : (inner : Rule Group) → Within inner → (names : List (List ℕ)) → Given (OfOther names) (grammar.service ps inner)
  unfolding grammar.service
  of_service inner w names = record {
    holds = λ ts e s context rest st tr.
        let parts = s.1.1 in
        let word = parts.3 in
        let whole : ts ++ rest ≡ word.0 ∷ (parts.1 ++ rest) = ap (λ (v : List Token). v ++ rest) (parts.2 ∙ ap (λ (v : List Token). v ++ parts.1) word.1) in
        let inside : (served_part inner).spells parts.1 s.0 = subst (λ (v : Option (Unit {0}) × (List ℕ × Group)). (served_part inner).spells parts.1 v) (sym s.1.2) parts.4 in
        let r = service_at inner w names context.depth context.service word.0 parts.1 rest s.0 (sym (same_rank k.Service (kind_of word.0) word.2)) inside st (subst (Track context) whole tr) in
        (subst (OfOther names (is_inside context.service)) (sym s.2) r.0, r.1);
  }

  unbound_is : (names : List (List ℕ)) (t : Token) (r : Result (List ℕ) SyntaxKind) (x : List ℕ) → grammar.name_of t ≡ r → GoodToken t → grammar.unbound_of names r ≡ Ok x → IsName x × (is_among names x ≡ false)
  unbound_is names t (Err why) x e g h = absurd (cc (h))
  unbound_is names t (Ok name) x e g h = go (is_among names name) refl h
    where
      go : (b : Bool) → is_among names name ≡ b → cond b (Err BindInScope) (Ok name) ≡ Ok x → IsName x × (is_among names x ≡ false)
      go true f h = absurd (cc (h))
      go false f h = let same : name ≡ x = cc (h) in (subst IsName same (name_is t name e g), ap (is_among names) (sym same) ∙ f)

  of_unbound : (names : List (List ℕ)) → Given (OfColumn names) (grammar.unbound names)
  unfolding grammar.unbound
  of_unbound names = of_one (is k.Variable) (λ t. grammar.unbound_of names (grammar.name_of t)) (apart_by (is k.Variable) is_turning refl) (λ b t x e g. unbound_is names t (grammar.name_of t) x refl g e)

  of_binding : (names : List (List ℕ)) → Given (OfOther names) (grammar.binding ps names)
  unfolding grammar.binding
  of_binding names = of_made (λ p. element.Bind p.0 p.1) (of_after k.Bind refl (of_parens (of_seq (of_expression ps good) (of_after k.As refl (of_unbound names))))) (λ b p h. bind_good names b p.0 p.1 h.0 h.1.0 h.1.1)

  of_other : (inner : Rule Group) → Within inner → (names : List (List ℕ)) → Given (OfOther names) (grammar.other ps inner names)
  unfolding grammar.other grammar.union
  of_other inner w names =
      of_either (of_made element.Union (of_chain k.Union refl w.given) (λ b gs h. union_good names b gs h))
      (of_either (of_made element.Optional (of_after k.Optional refl w.given) (λ b g h. optional_good names b g h))
      (of_either (of_made element.Minus (of_after k.Minus refl w.given) (λ b g h. minus_good names b g h))
      (of_either (of_service inner w names)
      (of_either (of_made element.Filter (of_after k.Filter refl (of_constraint ps good)) (λ b e h. filter_good names b e h))
      (of_either (of_binding names)
      (of_either (of_made element.Values (of_after k.Values refl (of_block ps good)) (λ b inline h. values_good names b inline h))
      (of_refusing Unsupported (is k.Graph))))))))

  of_behind : Given OfRun (grammar.behind_other ps)
  unfolding grammar.behind_other
  of_behind = of_made grammar.triple_elements (of_made (λ p. p.1) (of_seq (of_opt (of_token k.Dot refl)) (of_opt (of_triples ps good))) (λ b p h. h.1)) (λ b o h. optional_run_good b o h)

  of_item : (inner : Rule Group) → Within inner → (names : List (List ℕ)) → Given (OfItem names) (grammar.item ps inner names)
  unfolding grammar.item
  of_item inner w names =
      of_made (λ p. p.0 ∷ p.1) (of_seq (of_other inner w names) of_behind)
      (λ b p h. ((h.0.0, h.1.0), and_from (not_bound names (held_element p.0).binds) (are_fresh (fold with_name names (held_element p.0).names) (map held_element p.1)) h.0.1 (h.1.1 (fold with_name names (held_element p.0).names))))

  of_items : (inner : Rule Group) → Within inner → (names : List (List ℕ)) → Given (EachFrom OfItem grammar.with_elements names) (grammar.items ps inner names)
  unfolding grammar.items
  of_items inner w names = of_from OfItem (shape_of (grammar.item ps inner [])) (grammar.item ps inner) grammar.with_elements (of_item inner w) names

  of_first : Given OfRun (grammar.first_triples ps)
  unfolding grammar.first_triples
  of_first = of_made grammar.triple_elements (of_opt (of_either (of_triples ps good) (of_refusing Unsupported (is k.Select)))) (λ b o h. optional_run_good b o h)

  of_inside : (inner : Rule Group) → Within inner → Given GoodGroup (grammar.inside ps inner)
  unfolding grammar.inside
  of_inside inner w =
      of_made (λ p. grammar.group_of p.0 p.1) (of_then (λ first. EachFrom OfItem grammar.with_elements (grammar.with_elements [] first)) (shape_of (grammar.items ps inner [])) (λ first. grammar.items ps inner (grammar.with_elements [] first)) of_first (λ c first h. of_items inner w (grammar.with_elements [] first)))
      (λ b p h. let r = items_good b (grammar.with_elements [] p.0) p.1 h.1 in group_good b (p.0 ++ flat_map (λ es. es) p.1) (each_both b p.0 (flat_map (λ es. es) p.1) h.0.0 r.0, fresh_both [] p.0 (flat_map (λ es. es) p.1) (h.0.1 []) r.1))

  within_groups : (n : ℕ) → Within (nested (grammar.braced ps) n)
  unfolding depth grammar.braced
  within_groups zero = record { given = record { holds = λ ts g s. absurd s }; served = λ ts g s. absurd s }
  within_groups (suc n) =
      let inside : Given GoodGroup (grammar.inside ps (nested (grammar.braced ps) n)) = of_inside (nested (grammar.braced ps) n) (within_groups n) in
      record {
        given = record { holds = λ ts g s. (of_braces inside).holds ts g s };
        served = λ ts g s d rest tr. served_within GoodGroup (grammar.inside ps (nested (grammar.braced ps) n)) ts g inside.holds s d rest tr;
      }

  pub of_group : Given GoodGroup (grammar.whole_group ps)
  unfolding grammar.whole_group grammar.group
  of_group = (within_groups 64).given
