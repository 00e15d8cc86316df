-- A group that tokens spell has brackets, where it is printed, only where they have some, but for one more in a block of VALUES.
use Rattle.std.proofs.Common.{◌≡◌, ℕ, ◌+◌, ◌≤◌, Bool, true, false, cond, List, [], ◌∷◌, ◌++◌, length, map, Option, Some, None, is_some as has_some, refl, sym, subst, arith}
use Rattle.std.specs.List.{flat_map}
use Rattle.fx_terms.specs.declared.terms.Term.{Term}
use Rattle.fx_terms.specs.declared.terms.Term.TheVariants.{Iri}
use Rattle.fx_terms.specs.declared.patterns.Pattern.{Pattern}
use Rattle.fx_terms.specs.declared.patterns.PatternTerm.TheVariants.{Variable, Constant}
use Rattle.fx_algebra.specs.Measures.{measured, is_some}
use Rattle.fx_algebra.specs.declared.expressions.Expr.{Expr}
use Rattle.fx_algebra.specs.declared.queries.Inline.{Inline}
use Rattle.fx_algebra.specs.declared.queries.Element.{Element, Element-F, fold-roll-Element, roll-Element}
use Rattle.fx_algebra.specs.declared.queries.Element.TheVariants as element
use Rattle.fx_algebra.specs.declared.queries.Group.{Group, roll-Group, fold-roll-Group}
use Rattle.fx_grammar.specs.Kinds.{is}
use Rattle.fx_grammar.specs.Rule.{Rule, shape_of, token, seq, after, either, opt, many, made}
use Rattle.fx_grammar.specs.Grammar as grammar
use Rattle.fx_grammar.specs.Grammar.{Prefixes}
use Rattle.fx_spelling.specs.Printable.{block_nest, Held, most_held, hold_element, hold_group, held, held_element}
use Rattle.fx_grammar.specs.declared.kinds.Kind.TheVariants as k
use Rattle.fx_grammar.specs.declared.refusals.SyntaxKind.TheVariants.{BlankNode, Unsupported, Unexpected}
use Rattle.fx_grammar.proofs.KindLaws.{apart_by}
use Rattle.fx_depths.proofs.Rooms.{is_turning, Given, Any, Each, of_one, of_token, of_refusing, of_made, of_less, of_seq, of_after, of_before, of_either, of_opt, of_chain, of_nested, of_parens, of_braces, of_then, of_from, of_pair, of_maybe, of_several, of_links, of_any}
use Rattle.fx_depths.proofs.ExpressionDepths.{IsCondition, nest_fits, of_literal, of_variable, of_iri_name, of_datatype_in, of_expression, of_constraint}

-- ---- triples

of_dot : (b : Bool) → Given Any (grammar.dot b)
of_dot true = of_token k.Dot refl
of_dot false = of_refusing Unexpected (is k.Dot)

module _ (ps : Prefixes) where
  of_graph_term : Given Any (grammar.graph_term ps)
  unfolding grammar.graph_term grammar.part_literal
  of_graph_term =
      of_either (of_any Variable of_variable)
      (of_either (of_any grammar.iri_part (of_iri_name ps))
      (of_either (of_refusing BlankNode grammar.begins_blank_node)
      (of_either (of_refusing Unsupported (is k.LeftParen))
      (of_any Constant (of_literal (grammar.datatype_in false ps) (of_datatype_in ps false))))))

  of_verb : Given Any (grammar.verb ps)
  unfolding grammar.verb grammar.verb_iri grammar.no_path
  of_verb =
      let iri : Given Any (either (made (λ u. grammar.rdf_type) (token k.A)) (grammar.iri_name ps)) = of_either (of_any (λ u. grammar.rdf_type) (of_token k.A refl)) (of_iri_name ps) in
      of_either (of_any Variable of_variable) (of_either (of_any grammar.iri_part (of_before iri (of_opt (of_refusing {P = Any} Unsupported grammar.goes_on_path)))) (of_refusing Unsupported grammar.begins_path))

  of_property : Given Any (grammar.property ps)
  unfolding grammar.property grammar.objects
  of_property = of_pair of_verb (of_links k.Comma refl of_graph_term)

  of_same_subject : Given Any (grammar.same_subject ps)
  unfolding grammar.same_subject grammar.properties grammar.more_properties
  of_same_subject =
      let properties : Given Any (made (λ p. p.0 ∷ flat_map grammar.option_list p.1) (seq (grammar.property ps) (many (after (token k.Semicolon) (opt (grammar.property ps)))))) =
      of_any (λ p. p.0 ∷ flat_map grammar.option_list p.1) (of_pair of_property (of_several (of_after k.Semicolon refl (of_maybe of_property)))) in
      of_any (λ p. grammar.triples_of p.0 p.1) (of_pair of_graph_term properties)

  of_dot_triples : (behind : Bool) → Given Any (grammar.dot_triples ps behind)
  unfolding grammar.dot_triples
  of_dot_triples behind = of_any (λ p. p.1) (of_pair (of_dot behind) (of_maybe of_same_subject))

  of_triples : Given Any (grammar.triples ps)
  unfolding grammar.triples grammar.more_triples
  of_triples =
      of_any (λ p. p.0 ++ flat_map grammar.option_items p.1) (of_pair of_same_subject (of_less (of_from (shape_of (grammar.dot_triples ps true)) (grammar.dot_triples ps) (λ behind ts. has_some ts) of_dot_triples true) (λ d x l p. tt)))

-- ---- VALUES

-- at most two brackets are open in a printed block, and the text opens one
abbrev pub OfBlock : ℕ → Inline → Type 0
OfBlock d inline = d + block_nest inline ≤ 65

-- a bracket is opened
abbrev Opens : {A : Type 0} → ℕ → A → Type 0
Opens d x = d + 1 ≤ 64

block_low : (d : ℕ) (inline : Inline) → d + 1 ≤ 64 → OfBlock d inline
block_low d inline l = go (is_some inline.rows)
  where
    go : (b : Bool) → d + cond b 2 1 ≤ 65
    go true = omega (arith, l)
    go false = omega (arith, l)

of_columns : Given Any (grammar.columns [])
unfolding grammar.columns grammar.new_column
of_columns =
    of_less (of_from (shape_of (grammar.new_column [])) grammar.new_column (λ names name. names ++ name ∷ []) (λ names. of_one (is k.Variable) (λ t. grammar.new_column_of names (grammar.name_of t)) (apart_by (is k.Variable) is_turning refl)) [])
    (λ d x l p. tt)

module _ (ps : Prefixes) where
  of_value : Given Any (grammar.value ps)
  unfolding grammar.value
  of_value =
      of_either (of_any (λ iri. Some (Iri iri)) (of_iri_name ps))
      (of_either (of_any (λ u. None) (of_token k.Undef refl)) (of_any Some (of_literal (grammar.datatype_in false ps) (of_datatype_in ps false))))

  of_row : (width : ℕ) → Given Any (grammar.row ps width)
  unfolding grammar.row grammar.row_end
  of_row width = record {
    holds = λ ts row s d rest l room.
        let parts = s.1 in
        let last = parts.4 in
        let within : Given Any (grammar.parens (many (grammar.value ps))) = of_parens (of_several of_value) (λ d x l p. tt) in
        within.holds ts row ((s.0.0, tt), (parts.0, parts.1, parts.2, parts.3, (last.0, last.1, last.2, refl)), s.2) d rest l room;
  }

  of_rows : (width : ℕ) → Given Any (grammar.rows ps width)
  unfolding grammar.rows
  of_rows width = of_braces (of_several (of_row width)) (λ d x l p. tt)

  pub of_block : Given OfBlock (grammar.block ps)
  unfolding grammar.block grammar.single_block grammar.wide_block
  of_block =
      of_either
      (of_made (λ p. record { columns = p.0 ∷ []; rows = map (λ (v : Option Term). v ∷ []) p.1 }) (of_seq of_variable (of_braces {Q = Opens} (of_several of_value) (λ d x l p. l)))
      (λ d p l h. block_low d (record { columns = p.0 ∷ []; rows = map (λ (v : Option Term). v ∷ []) p.1 }) h.1))
      (of_made (λ p. record { columns = p.0; rows = p.1 }) (of_then (shape_of (grammar.rows ps 0)) (λ names. grammar.rows ps (length names)) (of_parens {Q = Opens} of_columns (λ d x l p. l)) (λ names. of_rows (length names)))
      (λ d p l h. block_low d (record { columns = p.0; rows = p.1 }) h.0))

-- ---- elements and groups

abbrev pub OfGroup : ℕ → Group → Type 0
OfGroup d g = d + (held g).nest ≤ 65

abbrev OfElement : ℕ → Element → Type 0
OfElement d e = d + (held_element e).nest ≤ 65

layer : (d : ℕ) (z : Element-F Element Group) (h : Held) (e : Element) → roll-Element z ≡ e → held_element (roll-Element z) ≡ h → d + h.nest ≤ 65 → OfElement d e
layer d z h e r a l = subst (OfElement d) r (subst (λ (v : Held). d + v.nest ≤ 65) (sym a) l)

most_groups : (d : ℕ) (gs : List Group) → d ≤ 64 → Each OfGroup d gs → d + most_held (map held gs) ≤ 65
most_groups d [] l h = omega (arith, l)
most_groups d (g ∷ gs) l h = omega (arith, h.0, most_groups d gs l h.1)

most_elements : (d : ℕ) (es : List Element) → d ≤ 64 → Each OfElement d es → d + most_held (map held_element es) ≤ 65
most_elements d [] l h = omega (arith, l)
most_elements d (e ∷ es) l h = omega (arith, h.0, most_elements d es l h.1)

module _ (d : ℕ) where
  triple_low : (p : Pattern) → d ≤ 64 → OfElement d (element.Triple p)
  triple_low p l = layer d (Element-F.Triple p) _ _ (element.rolls-Triple p) (fold-roll-Element Held Held hold_element hold_group (Element-F.Triple p)) (omega (arith, l))

  filter_low : (e : Expr) → IsCondition d e → OfElement d (element.Filter e)
  filter_low e h = layer d (Element-F.Filter e) _ _ (element.rolls-Filter e) (fold-roll-Element Held Held hold_element hold_group (Element-F.Filter e)) (omega (arith, h))

  optional_low : (g : Group) → OfGroup d g → OfElement d (element.Optional g)
  optional_low g h = layer d (Element-F.Optional g) _ _ (element.rolls-Optional g) (fold-roll-Element Held Held hold_element hold_group (Element-F.Optional g)) h

  minus_low : (g : Group) → OfGroup d g → OfElement d (element.Minus g)
  minus_low g h = layer d (Element-F.Minus g) _ _ (element.rolls-Minus g) (fold-roll-Element Held Held hold_element hold_group (Element-F.Minus g)) h

  service_low : (silent : Bool) (iri : List ℕ) (g : Group) → OfGroup d g → OfElement d (element.Service silent iri g)
  service_low silent iri g h = layer d (Element-F.Service silent iri g) _ _ (element.rolls-Service silent iri g) (fold-roll-Element Held Held hold_element hold_group (Element-F.Service silent iri g)) h

  union_low : (gs : List Group) → d ≤ 64 → Each OfGroup d gs → OfElement d (element.Union gs)
  union_low gs l h = layer d (Element-F.Union gs) _ _ (element.rolls-Union gs) (fold-roll-Element Held Held hold_element hold_group (Element-F.Union gs)) (most_groups d gs l h)

  values_low : (inline : Inline) → OfBlock d inline → OfElement d (element.Values inline)
  values_low inline h = layer d (Element-F.Values inline) _ _ (element.rolls-Values inline) (fold-roll-Element Held Held hold_element hold_group (Element-F.Values inline)) h

  bind_low : (e : Expr) (name : List ℕ) → d + 1 + (measured e).nest ≤ 64 → OfElement d (element.Bind e name)
  bind_low e name h = layer d (Element-F.Bind e name) _ _ (element.rolls-Bind e name) (fold-roll-Element Held Held hold_element hold_group (Element-F.Bind e name)) (omega (arith, h))

  triples_low : (ps : List Pattern) → d ≤ 64 → Each OfElement d (map element.Triple ps)
  triples_low [] l = tt
  triples_low (p ∷ ps) l = (triple_low p l, triples_low ps l)

  run_low : (o : Option (List Pattern)) → d ≤ 64 → Each OfElement d (grammar.triple_elements o)
  run_low None l = tt
  run_low (Some ps) l = triples_low ps l

  each_both : (xs ys : List Element) → Each OfElement d xs → Each OfElement d ys → Each OfElement d (xs ++ ys)
  each_both [] ys h g = g
  each_both (x ∷ xs) ys h g = (h.0, each_both xs ys h.1 g)

  items_low : (items : List (List Element)) → Each (Each OfElement) d items → Each OfElement d (flat_map (λ es. es) items)
  items_low [] h = tt
  items_low (es ∷ items) h = each_both es (flat_map (λ es. es) items) h.0 (items_low items h.1)

  -- within its braces
  group_low : (first : List Element) (items : List (List Element)) → d ≤ 64 → Each OfElement d first → Each (Each OfElement) d items → d + (held (grammar.group_of first items)).nest ≤ 66
  group_low first items l h g =
      let es = first ++ flat_map (λ es. es) items in
      let a : held (roll-Group (record { elements = es })) ≡ hold_group (record { elements = map held_element es }) = fold-roll-Group Held Held hold_element hold_group (record { elements = es }) in
      subst (λ (v : Held). d + v.nest ≤ 66) (sym a) (omega (arith, most_elements d es l (each_both first (flat_map (λ es. es) items) h (items_low items g))))

module _ (ps : Prefixes) where
  of_service : (inner : Rule Group) → Given OfGroup inner → Given OfElement (grammar.service ps inner)
  unfolding grammar.service grammar.service_name
  of_service inner w =
      of_made (λ p. element.Service (has_some p.0) p.1.0 p.1.1) (of_after k.Service refl (of_seq (of_maybe (of_token k.Silent refl)) (of_seq (of_either (of_iri_name ps) (of_refusing Unsupported (is k.Variable))) w)))
      (λ d p l h. service_low d (has_some p.0) p.1.0 p.1.1 h.1.1)

  of_binding : (names : List (List ℕ)) → Given OfElement (grammar.binding ps names)
  unfolding grammar.binding grammar.unbound
  of_binding names =
      of_made {P = λ d (p : Expr × List ℕ). d + 1 + (measured p.0).nest ≤ 64} (λ p. element.Bind p.0 p.1)
      (of_after k.Bind refl (of_parens (of_seq (of_expression ps) (of_after k.As refl (of_one (is k.Variable) (λ t. grammar.unbound_of names (grammar.name_of t)) (apart_by (is k.Variable) is_turning refl)))) (λ d p l h. nest_fits 0 (d + 1) p.0 h.0)))
      (λ d p l h. bind_low d p.0 p.1 h)

  of_other : (inner : Rule Group) → Given OfGroup inner → (names : List (List ℕ)) → Given OfElement (grammar.other ps inner names)
  unfolding grammar.other grammar.union
  of_other inner w names =
      of_either (of_made element.Union (of_chain k.Union refl w) (λ d gs l h. union_low d gs l h))
      (of_either (of_made element.Optional (of_after k.Optional refl w) (λ d g l h. optional_low d g h))
      (of_either (of_made element.Minus (of_after k.Minus refl w) (λ d g l h. minus_low d g h))
      (of_either (of_service inner w)
      (of_either (of_made element.Filter (of_after k.Filter refl (of_constraint ps)) (λ d e l h. filter_low d e h))
      (of_either (of_binding names)
      (of_either (of_made element.Values (of_after k.Values refl (of_block ps)) (λ d inline l h. values_low d inline h))
      (of_refusing Unsupported (is k.Graph))))))))

  of_behind : Given (Each OfElement) (grammar.behind_other ps)
  unfolding grammar.behind_other
  of_behind = of_made grammar.triple_elements (of_any (λ p. p.1) (of_pair (of_maybe (of_token k.Dot refl)) (of_maybe (of_triples ps)))) (λ d o l h. run_low d o l)

  of_item : (inner : Rule Group) → Given OfGroup inner → (names : List (List ℕ)) → Given (Each OfElement) (grammar.item ps inner names)
  unfolding grammar.item
  of_item inner w names = of_made (λ p. p.0 ∷ p.1) (of_seq (of_other inner w names) of_behind) (λ d p l h. h)

  of_items : (inner : Rule Group) → Given OfGroup inner → (names : List (List ℕ)) → Given (Each (Each OfElement)) (grammar.items ps inner names)
  unfolding grammar.items
  of_items inner w names = of_from (shape_of (grammar.item ps inner [])) (grammar.item ps inner) grammar.with_elements (of_item inner w) names

  of_first : Given (Each OfElement) (grammar.first_triples ps)
  unfolding grammar.first_triples
  of_first = of_made grammar.triple_elements (of_maybe (of_either (of_triples ps) (of_refusing Unsupported (is k.Select)))) (λ d o l h. run_low d o l)

  of_inside : (inner : Rule Group) → Given OfGroup inner → Given (λ d g. d + (held g).nest ≤ 66) (grammar.inside ps inner)
  unfolding grammar.inside
  of_inside inner w =
      of_made (λ p. grammar.group_of p.0 p.1) (of_then (shape_of (grammar.items ps inner [])) (λ first. grammar.items ps inner (grammar.with_elements [] first)) of_first (λ first. of_items inner w (grammar.with_elements [] first)))
      (λ d p l h. group_low d p.0 p.1 l h.0 h.1)

  of_braced : (inner : Rule Group) → Given OfGroup inner → Given OfGroup (grammar.braced ps inner)
  unfolding grammar.braced
  of_braced inner w = of_braces (of_inside inner w) (λ d g l h. omega (arith, h))

  pub of_group : Given OfGroup (grammar.whole_group ps)
  unfolding grammar.whole_group grammar.group
  of_group = of_nested (grammar.braced ps) of_braced 64
