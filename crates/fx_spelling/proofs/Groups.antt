-- A printed group is spelled by its tokens, where the grammar has it and enough brackets may be opened.
use Rattle.std.proofs.Common.{◌≡◌, ℕ, zero, suc, ◌≤◌, Bool, true, false, not, cond, List, [], ◌∷◌, ◌++◌, map, Option, Some, None, is_some as has_some, Ok, Err, refl, sym, ap, ◌∙◌, subst, arith, append_assoc, inl, inr, ◌⊎◌, ◌||◌}
use Rattle.std.specs.Prelude.{codes, fold}
use Rattle.std.specs.List.{flat_map, list_all}
use Rattle.std.proofs.lemmas.Bool.{and_parts, not-true}
use Rattle.std.proofs.lemmas.List.Sums.{fold-append}
use Rattle.fx_terms.specs.declared.terms.Term.TheVariants.{Iri}
use Rattle.fx_terms.specs.declared.patterns.Pattern.{Pattern}
use Rattle.fx_algebra.specs.Printed.{Word, fixed, variable, term, in_brackets, printed, condition, is_call, block, silence, pattern_words, element_step, group_step, element_words, group_words}
use Rattle.fx_algebra.specs.Scopes.{is_among, with_name, all_of, element_names, group_names, mentions, group_mentions}
use Rattle.fx_algebra.specs.declared.expressions.Expr.{Expr}
use Rattle.fx_algebra.specs.declared.queries.Inline.{Inline}
use Rattle.fx_algebra.specs.declared.queries.Element.{Element, Element-F, fold-roll-Element, map-Element, ind-Element, roll-Element}
use Rattle.fx_algebra.specs.declared.queries.Element.TheVariants as element
use Rattle.fx_algebra.specs.declared.queries.Group.{Group, Group-F, roll-Group, fold-roll-Group, map-Group, ind-Group}
use Rattle.fx_grammar.specs.Rule.{Rule, token, seq, after, opt, nested}
use Rattle.fx_grammar.specs.Grammar as grammar
use Rattle.fx_grammar.specs.Grammar.{Prefixes}
use Rattle.fx_algebra.specs.Measures.{measured, is_some, condition_nest}
use Rattle.fx_spelling.specs.Printable.{AreFine, AreTriples, said, block_nest, Held, most_held, all_held, any_serves, held_names, not_bound, are_fresh, hold_element, hold_group, held, held_element}
use Rattle.fx_grammar.specs.declared.kinds.Kind.TheVariants as k
use Rattle.fx_grammar.specs.declared.refusals.SyntaxKind.TheVariants.{BindInScope}
use Rattle.fx_grammar.specs.declared.kinds.Token.{Token}
use Rattle.fx_grammar.specs.declared.kinds.Token.TheVariants as symbol
use Rattle.fx_spelling.proofs.Saying.{said_both}
use Rattle.fx_spelling.proofs.Spelling.{mark_said, after_said, parens_said, braces_said, nested_said}
use Rattle.fx_spelling.proofs.Terms.{iri_said, triples_said, run_is, calm_triple, triple_from}
use Rattle.fx_spelling.proofs.Placing.{Passes, passes_none, passes_both, passes_less, passes_served, passes_calm, passes_behind, passes_parens, passes_braces, passes_service, is_calm}
use Rattle.fx_spelling.proofs.Expressions.{fine_split, said_brackets, fine_brackets, separated_said, fine_separated, AllFine, AllPass, pass_separated, AllSaid, chain_said, inner, lift, law}
use Rattle.fx_spelling.proofs.Blocks.{block_passes, block_said}

-- ---- SERVICE among what is printed

pub serve_more : (a b : Bool) (n : ℕ) (tokens : List Token) → (a ≡ true → b ≡ true) → Passes a n tokens → Passes b n tokens
serve_more false b n tokens h p = passes_served b n tokens p
serve_more true b n tokens h p = subst (λ (c : Bool). Passes c n tokens) (sym (h refl)) p

or_first : (a b : Bool) → a ≡ true → (a || b) ≡ true
or_first true b h = refl
or_first false b h = absurd (cc (h))

or_second : (a b : Bool) → b ≡ true → (a || b) ≡ true
or_second true b h = refl
or_second false b h = h

-- ---- names in scope

pub elements_from : (names : List (List ℕ)) (xs ys : List Element) → grammar.with_elements names (xs ++ ys) ≡ grammar.with_elements (grammar.with_elements names xs) ys
elements_from names [] ys = refl
elements_from names (x ∷ xs) ys =
    fold-append with_name names (mentions x) (all_of (map mentions (xs ++ ys))) ∙ elements_from (fold with_name names (mentions x)) xs ys
    ∙ ap (λ (v : List (List ℕ)). grammar.with_elements v ys) (sym (fold-append with_name names (mentions x) (all_of (map mentions xs))))

module _ (ps : Prefixes) where
  -- ---- expressions within a group

  pub whole_said : (e : Expr) → (measured e).good ≡ true → AreFine (printed e).words → (measured e).nest ≤ 63 → (grammar.whole_expression ps).spells (said (printed e).words) e
  unfolding grammar.whole_expression grammar.expression
  whole_said e g f h = nested_said (grammar.disjunction ps) 63 (said (printed e).words) e (lift ps 0 _ (inner ps 63) (said (printed e).words) e (omega arith) ((law ps e).spelled g f 63 h))

  pub constraint_said : (e : Expr) → (measured e).good ≡ true → AreFine (condition (printed e)) → condition_nest (measured e) ≤ 64 → (grammar.constraint ps).spells (said (condition (printed e))) e
  unfolding grammar.constraint grammar.whole_expression grammar.expression condition
  constraint_said e g f h = go (is_call (printed e).level) refl f (subst (λ (b : Bool). cond b (measured e).nest (suc (measured e).nest) ≤ 64) (ap is_call (sym (law ps e).level)) h)
    where
      go : (b : Bool) → is_call (printed e).level ≡ b → AreFine (cond b (printed e).words (in_brackets (printed e).words)) → cond b (measured e).nest (suc (measured e).nest) ≤ 64 → (grammar.constraint ps).spells (said (cond b (printed e).words (in_brackets (printed e).words))) e
      go true c f h = inr (inl ((law ps e).calls c g f 64 h))
      go false c f h =
          inl (subst (λ (v : List Token). (grammar.parens (nested (grammar.disjunction ps) 64)).spells v e) (sym (said_brackets (printed e).words))
          (parens_said (nested (grammar.disjunction ps) 64) (said (printed e).words) e (whole_said e g (fine_brackets (printed e).words f) (omega (arith, h)))))

  pub condition_passes : (serves : Bool) (e : Expr) → Passes serves (condition_nest (measured e)) (said (condition (printed e)))
  unfolding condition
  condition_passes serves e = subst (λ (b : Bool). Passes serves (cond b (measured e).nest (suc (measured e).nest)) (said (cond (is_call (printed e).level) (printed e).words (in_brackets (printed e).words)))) (ap is_call (law ps e).level) (go (is_call (printed e).level))
    where
      go : (b : Bool) → Passes serves (cond b (measured e).nest (suc (measured e).nest)) (said (cond b (printed e).words (in_brackets (printed e).words)))
      go true = passes_served serves (measured e).nest (said (printed e).words) (law ps e).passes
      go false = subst (Passes serves (suc (measured e).nest)) (sym (said_brackets (printed e).words)) (passes_parens serves (measured e).nest (said (printed e).words) (passes_served serves (measured e).nest (said (printed e).words) (law ps e).passes))

  -- ---- the law at an element and at a group

  -- an element that is no triple
  pub record Other (words : List Word) (h : Held) (e : Element) : Type 0 where
    pub passes : h.good ≡ true → Passes h.serves h.nest (said words)
    pub names : h.names ≡ mentions e
    pub spelled : h.good ≡ true → AreFine words → (n : ℕ) → h.nest ≤ n → n ≤ 63 → (names : List (List ℕ)) → not_bound names h.binds ≡ true → (grammar.other ps (grammar.group ps n) names).spells (said words) e

  pub record Triple (words : List Word) (h : Held) (e : Element) : Type 0 where
    pub pattern : Pattern
    pub is : e ≡ element.Triple pattern
    pub printed : words ≡ pattern_words pattern
    pub holds : h ≡ hold_element (Element-F.Triple pattern)

  abbrev pub OfElement : List Word → Held → Element → Type 0
  OfElement words h e = Triple words h e ⊎ Other words h e

  pub record OfGroup (words : List Word) (h : Held) (g : Group) : Type 0 where
    pub within : List Word
    pub words_are : words ≡ fixed (codes "{") ∷ (within ++ fixed (codes "}") ∷ [])
    pub depth : ℕ
    pub nest : h.nest ≡ suc depth
    pub passes : h.good ≡ true → Passes h.serves depth (said within)
    pub names : h.names ≡ group_mentions g
    pub spelled : h.good ≡ true → AreFine words → (n : ℕ) → h.nest ≤ n → n ≤ 64 → (grammar.group ps n).spells (said words) g

  group_tokens : (words : List Word) (h : Held) (g : Group) → (l : OfGroup words h g) → said words ≡ symbol.Plain k.LeftBrace ∷ (said l.within ++ symbol.Plain k.RightBrace ∷ [])
  group_tokens words h g l = ap said l.words_are ∙ ap (λ (v : List Token). symbol.Plain k.LeftBrace ∷ v) (said_both l.within (fixed (codes "}") ∷ []))

  pub group_passes : (words : List Word) (h : Held) (g : Group) → OfGroup words h g → h.good ≡ true → Passes h.serves h.nest (said words)
  group_passes words h g l o =
      subst (λ (v : List Token). Passes h.serves h.nest v) (sym (group_tokens words h g l)) (subst (λ (n : ℕ). Passes h.serves n (symbol.Plain k.LeftBrace ∷ (said l.within ++ symbol.Plain k.RightBrace ∷ []))) (sym l.nest) (passes_braces h.serves l.depth (said l.within) (l.passes o)))

  abbrev ProvedGroup : Type 0
  ProvedGroup = (g : Group) × OfGroup (group_words g) (held g) g

  abbrev ProvedElement : Type 0
  ProvedElement = (e : Element) × OfElement (element_words e) (held_element e) e

  -- ---- each variant

  filter_so : (e : Expr) → Other (element_step (Element-F.Filter e)) (hold_element (Element-F.Filter e)) (element.Filter e)
  unfolding grammar.other
  filter_so e = record {
    passes = λ o. passes_behind false (condition_nest (measured e)) (symbol.Plain k.Filter) (said (condition (printed e))) refl (condition_passes false e);
    names = sym (ap mentions (sym (element.rolls-Filter e)) ∙ fold-roll-Element (List (List ℕ)) (List (List ℕ)) element_names group_names (Element-F.Filter e));
    spelled = λ g f n h b names u. inr (inr (inr (inr (inl (e, after_said k.Filter (grammar.constraint ps) (said (condition (printed e))) e (constraint_said e g f.1 (omega (arith, h, b))), refl)))));
  }

  optional_so : (g : ProvedGroup) → Other (element_step (Element-F.Optional (group_words g.0))) (hold_element (Element-F.Optional (held g.0))) (element.Optional g.0)
  unfolding grammar.other
  optional_so g = record {
    passes = λ o. passes_behind (held g.0).serves (held g.0).nest (symbol.Plain k.Optional) (said (group_words g.0)) refl (group_passes (group_words g.0) (held g.0) g.0 g.1 o);
    names = g.1.names ∙ sym (ap mentions (sym (element.rolls-Optional g.0)) ∙ fold-roll-Element (List (List ℕ)) (List (List ℕ)) element_names group_names (Element-F.Optional g.0));
    spelled = λ o f n h b names u. inr (inl (g.0, after_said k.Optional (grammar.group ps n) (said (group_words g.0)) g.0 (g.1.spelled o f.1 n h (omega (arith, b))), refl));
  }

  minus_so : (g : ProvedGroup) → Other (element_step (Element-F.Minus (group_words g.0))) (hold_element (Element-F.Minus (held g.0))) (element.Minus g.0)
  unfolding grammar.other
  minus_so g = record {
    passes = λ o. passes_behind (held g.0).serves (held g.0).nest (symbol.Plain k.Minus) (said (group_words g.0)) refl (group_passes (group_words g.0) (held g.0) g.0 g.1 o);
    names = sym (ap mentions (sym (element.rolls-Minus g.0)) ∙ fold-roll-Element (List (List ℕ)) (List (List ℕ)) element_names group_names (Element-F.Minus g.0));
    spelled = λ o f n h b names u. inr (inr (inl (g.0, after_said k.Minus (grammar.group ps n) (said (group_words g.0)) g.0 (g.1.spelled o f.1 n h (omega (arith, b))), refl)));
  }

  values_so : (inline : Inline) → Other (element_step (Element-F.Values inline)) (hold_element (Element-F.Values inline)) (element.Values inline)
  unfolding grammar.other
  values_so inline = record {
    passes = λ o. passes_behind false (block_nest inline) (symbol.Plain k.Values) (said (block inline)) refl (block_passes false inline);
    names = sym (ap mentions (sym (element.rolls-Values inline)) ∙ fold-roll-Element (List (List ℕ)) (List (List ℕ)) element_names group_names (Element-F.Values inline));
    spelled = λ o f n h b names u. inr (inr (inr (inr (inr (inr (inl (inline, after_said k.Values (grammar.block ps) (said (block inline)) inline (block_said ps inline o f.1), refl)))))));
  }

  unbound_said : (names : List (List ℕ)) (name : List ℕ) → not (is_among names name) ≡ true → (grammar.unbound names).spells (symbol.Variable name ∷ []) name
  unfolding grammar.unbound
  unbound_said names name h = (symbol.Variable name, refl, refl, ap (λ (b : Bool). cond b (Err BindInScope) (Ok name)) (not-true (is_among names name) h))

  bind_so : (e : Expr) (name : List ℕ) → Other (element_step (Element-F.Bind e name)) (hold_element (Element-F.Bind e name)) (element.Bind e name)
  unfolding grammar.other grammar.binding
  bind_so e name =
      let words : List Word = (printed e).words ++ (fixed (codes "AS") ∷ variable name ∷ []) in
      let tokens : said words ≡ said (printed e).words ++ (symbol.Plain k.As ∷ symbol.Variable name ∷ []) = said_both (printed e).words (fixed (codes "AS") ∷ variable name ∷ []) in
      let same : said (in_brackets words) ≡ symbol.Plain k.LeftParen ∷ ((said (printed e).words ++ (symbol.Plain k.As ∷ symbol.Variable name ∷ [])) ++ symbol.Plain k.RightParen ∷ []) =
      said_brackets words ∙ ap (λ (v : List Token). symbol.Plain k.LeftParen ∷ (v ++ symbol.Plain k.RightParen ∷ [])) tokens in
      let n = (measured e).nest in
      record {
        passes = λ o. passes_behind false (suc n) (symbol.Plain k.Bind) (said (in_brackets words)) refl
            (subst (Passes false (suc n)) (sym same) (passes_parens false n (said (printed e).words ++ (symbol.Plain k.As ∷ symbol.Variable name ∷ []))
            (passes_both false n (said (printed e).words) (symbol.Plain k.As ∷ symbol.Variable name ∷ []) (law ps e).passes (passes_calm false n (symbol.Plain k.As ∷ symbol.Variable name ∷ []) refl))));
        names = sym (ap mentions (sym (element.rolls-Bind e name)) ∙ fold-roll-Element (List (List ℕ)) (List (List ℕ)) element_names group_names (Element-F.Bind e name));
        spelled = λ o f n h b names u.
            let w = fine_split (printed e).words (fixed (codes "AS") ∷ variable name ∷ []) (fine_brackets words f.1) in
            let part = seq (grammar.whole_expression ps) (after (token k.As) (grammar.unbound names)) in
            let inside : part.spells (said (printed e).words ++ (symbol.Plain k.As ∷ symbol.Variable name ∷ [])) (e, name) =
            (said (printed e).words, symbol.Plain k.As ∷ symbol.Variable name ∷ [], refl, whole_said e o w.0 (omega (arith, h, b)), after_said k.As (grammar.unbound names) (symbol.Variable name ∷ []) name (unbound_said names name u)) in
            inr (inr (inr (inr (inr (inl ((e, name), after_said k.Bind (grammar.parens part) (said (in_brackets words)) (e, name) (subst (λ (v : List Token). (grammar.parens part).spells v (e, name)) (sym same) (parens_said part (said (printed e).words ++ (symbol.Plain k.As ∷ symbol.Variable name ∷ [])) (e, name) inside)), refl))))));
      }

  calm_silence : (b : Bool) (iri : List ℕ) → list_all is_calm (said (silence b) ++ symbol.Iri iri ∷ []) ≡ true
  calm_silence true iri = refl
  calm_silence false iri = refl

  silence_said : (b : Bool) (iri : List ℕ) (rest : List Token) → said (silence b) ++ (symbol.Iri iri ∷ rest) ≡ (said (silence b) ++ symbol.Iri iri ∷ []) ++ rest
  silence_said true iri rest = refl
  silence_said false iri rest = refl

  silent_said : (b : Bool) (a : Rule (List ℕ × Group)) (ts : List Token) (iri : List ℕ) (g : Group) → a.spells ts (iri, g) → (s : Option (Unit {0})) × (seq (opt (token k.Silent)) a).spells (said (silence b) ++ ts) (s, (iri, g)) × (b ≡ has_some s)
  silent_said true a ts iri g h = (Some tt, (symbol.Plain k.Silent ∷ [], ts, refl, mark_said k.Silent, h), refl)
  silent_said false a ts iri g h = (None, ([], ts, refl, refl, h), refl)

  service_so : (silent : Bool) (iri : List ℕ) (g : ProvedGroup) → Other (element_step (Element-F.Service silent iri (group_words g.0))) (hold_element (Element-F.Service silent iri (held g.0))) (element.Service silent iri g.0)
  unfolding grammar.other grammar.service grammar.service_name
  service_so silent iri g =
      let name : List Token = said (silence silent) ++ symbol.Iri iri ∷ [] in
      let tokens : said (silence silent ++ (term (Iri iri) ∷ group_words g.0)) ≡ said (silence silent) ++ (symbol.Iri iri ∷ said (group_words g.0)) = said_both (silence silent) (term (Iri iri) ∷ group_words g.0) in
      let whole : said (silence silent ++ (term (Iri iri) ∷ group_words g.0)) ≡ name ++ (symbol.Plain k.LeftBrace ∷ (said g.1.within ++ symbol.Plain k.RightBrace ∷ [])) =
      tokens ∙ silence_said silent iri (said (group_words g.0)) ∙ ap (λ (v : List Token). name ++ v) (group_tokens (group_words g.0) (held g.0) g.0 g.1) in
      record {
        passes = λ o.
            let t = and_parts (held g.0).good (not (held g.0).serves) o in
            let p : Passes false g.1.depth (said g.1.within) = subst (λ (b : Bool). Passes b g.1.depth (said g.1.within)) (not-true (held g.0).serves t.1) (g.1.passes t.0) in
            subst (λ (v : List Token). Passes true (held g.0).nest (symbol.Plain k.Service ∷ v)) (sym whole)
            (subst (λ (n : ℕ). Passes true n (symbol.Plain k.Service ∷ (name ++ (symbol.Plain k.LeftBrace ∷ (said g.1.within ++ symbol.Plain k.RightBrace ∷ []))))) (sym g.1.nest) (passes_service name g.1.depth (said g.1.within) (calm_silence silent iri) p));
        names = g.1.names ∙ sym (ap mentions (sym (element.rolls-Service silent iri g.0)) ∙ fold-roll-Element (List (List ℕ)) (List (List ℕ)) element_names group_names (Element-F.Service silent iri g.0));
        spelled = λ o f n h b names u.
            let t = and_parts (held g.0).good (not (held g.0).serves) o in
            let w = fine_split (silence silent) (term (Iri iri) ∷ group_words g.0) f.1 in
            let part = seq (grammar.service_name ps) (grammar.group ps n) in
            let inside : part.spells (symbol.Iri iri ∷ said (group_words g.0)) (iri, g.0) = (symbol.Iri iri ∷ [], said (group_words g.0), refl, inl (iri_said ps iri), g.1.spelled t.0 w.1.1 n h (omega (arith, b))) in
            let s = silent_said silent part (symbol.Iri iri ∷ said (group_words g.0)) iri g.0 inside in
            inr (inr (inr (inl (
              (s.0, (iri, g.0)),
              after_said k.Service (seq (opt (token k.Silent)) part) (said (silence silent ++ (term (Iri iri) ∷ group_words g.0))) (s.0, (iri, g.0))
                  (subst (λ (v : List Token). (seq (opt (token k.Silent)) part).spells v (s.0, (iri, g.0))) (sym tokens) s.1),
              ap (λ (c : Bool). element.Service c iri g.0) s.2,
            ))));
      }

  -- ---- UNION

  abbrev groups : List ProvedGroup → List Group
  groups gs = map (λ (g : ProvedGroup). g.0) gs

  abbrev group_texts : List ProvedGroup → List (List Word)
  group_texts gs = map group_words (groups gs)

  groups_pass : (serves : Bool) (gs : List ProvedGroup) (n : ℕ) → all_held (map held (groups gs)) ≡ true → (any_serves (map held (groups gs)) ≡ true → serves ≡ true) → most_held (map held (groups gs)) ≤ n → AllPass serves n (map said (group_texts gs))
  groups_pass serves [] n o s h = tt
  groups_pass serves (g ∷ gs) n o s h =
      let t = and_parts (held g.0).good (all_held (map held (groups gs))) o in (
        serve_more (held g.0).serves serves n (said (group_words g.0)) (λ e. s (or_first (held g.0).serves (any_serves (map held (groups gs))) e)) (passes_less (held g.0).serves (held g.0).nest n (said (group_words g.0)) (omega (arith, h)) (group_passes (group_words g.0) (held g.0) g.0 g.1 t.0)),
        groups_pass serves gs n t.1 (λ e. s (or_second (held g.0).serves (any_serves (map held (groups gs))) e)) (omega (arith, h)),
      )

  groups_said : (gs : List ProvedGroup) (n : ℕ) → n ≤ 64 → all_held (map held (groups gs)) ≡ true → AllFine (group_texts gs) → most_held (map held (groups gs)) ≤ n → AllSaid (grammar.group ps n) (map said (group_texts gs)) (groups gs)
  groups_said [] n b o f h = tt
  groups_said (g ∷ gs) n b o f h =
      let t = and_parts (held g.0).good (all_held (map held (groups gs))) o in
      (g.1.spelled t.0 f.0 n (omega (arith, h)) b, groups_said gs n b t.1 f.1 (omega (arith, h)))

  groups_named : (gs : List ProvedGroup) → held_names (map held (groups gs)) ≡ all_of (map group_mentions (groups gs))
  groups_named [] = refl
  groups_named (g ∷ gs) = λ i. g.1.names i ++ groups_named gs i

  some_groups : (gs : List ProvedGroup) → is_some (map held (groups gs)) ≡ true → is_some (groups gs) ≡ true
  some_groups [] h = absurd (cc (h))
  some_groups (g ∷ gs) h = refl

  union_so : (gs : List ProvedGroup) → Other (element_step (Element-F.Union (group_texts gs))) (hold_element (Element-F.Union (map held (groups gs)))) (element.Union (groups gs))
  unfolding grammar.other grammar.union
  union_so gs = record {
    passes = λ o.
        let t = and_parts (is_some (map held (groups gs))) (all_held (map held (groups gs))) o in
        subst (Passes (any_serves (map held (groups gs))) (most_held (map held (groups gs)))) (sym (separated_said (codes "UNION") (group_texts gs)))
        (pass_separated (any_serves (map held (groups gs))) (most_held (map held (groups gs))) (symbol.Plain k.Union) (map said (group_texts gs)) refl (groups_pass (any_serves (map held (groups gs))) gs (most_held (map held (groups gs))) t.1 (λ e. e) (omega arith)));
    names = groups_named gs ∙ sym (ap mentions (sym (element.rolls-Union (groups gs))) ∙ fold-roll-Element (List (List ℕ)) (List (List ℕ)) element_names group_names (Element-F.Union (groups gs)));
    spelled = λ o f n h b names u.
        let t = and_parts (is_some (map held (groups gs))) (all_held (map held (groups gs))) o in
        subst (λ (v : List Token). (grammar.other ps (grammar.group ps n) names).spells v (element.Union (groups gs))) (sym (separated_said (codes "UNION") (group_texts gs)))
        (inl (groups gs, chain_said k.Union (grammar.group ps n) (map said (group_texts gs)) (groups gs) (some_groups gs t.0) (groups_said gs n (omega (arith, b)) t.1 (fine_separated (fixed (codes "UNION")) (group_texts gs) f) h), refl));
  }

  -- ---- all elements

  made_other : (z : Element-F Element Group) (words : List Word) (h : Held) (e : Element) → element_words (roll-Element z) ≡ words → held_element (roll-Element z) ≡ h → roll-Element z ≡ e → Other words h e → OfElement (element_words (roll-Element z)) (held_element (roll-Element z)) (roll-Element z)
  made_other z words h e a b c o =
      inr (subst (λ (v : List Word). Other v (held_element (roll-Element z)) (roll-Element z)) (sym a) (subst (λ (v : Held). Other words v (roll-Element z)) (sym b) (subst (λ (v : Element). Other words h v) (sym c) o)))

  step_element : (y : Element-F ProvedElement ProvedGroup) → OfElement (element_words (roll-Element (map-Element ProvedElement ProvedGroup Element Group (λ e. e.0) (λ e. e.0) y))) (held_element (roll-Element (map-Element ProvedElement ProvedGroup Element Group (λ e. e.0) (λ e. e.0) y))) (roll-Element (map-Element ProvedElement ProvedGroup Element Group (λ e. e.0) (λ e. e.0) y))
  step_element (Element-F.Triple p) = inl (record { pattern = p; is = element.rolls-Triple p; printed = fold-roll-Element (List Word) (List Word) element_step group_step (Element-F.Triple p); holds = fold-roll-Element Held Held hold_element hold_group (Element-F.Triple p) })
  step_element (Element-F.Filter e) = made_other (Element-F.Filter e) _ _ _ (fold-roll-Element (List Word) (List Word) element_step group_step (Element-F.Filter e)) (fold-roll-Element Held Held hold_element hold_group (Element-F.Filter e)) (element.rolls-Filter e) (filter_so e)
  step_element (Element-F.Optional g) = made_other (Element-F.Optional g.0) _ _ _ (fold-roll-Element (List Word) (List Word) element_step group_step (Element-F.Optional g.0)) (fold-roll-Element Held Held hold_element hold_group (Element-F.Optional g.0)) (element.rolls-Optional g.0) (optional_so g)
  step_element (Element-F.Union gs) = made_other (Element-F.Union (groups gs)) _ _ _ (fold-roll-Element (List Word) (List Word) element_step group_step (Element-F.Union (groups gs))) (fold-roll-Element Held Held hold_element hold_group (Element-F.Union (groups gs))) (element.rolls-Union (groups gs)) (union_so gs)
  step_element (Element-F.Minus g) = made_other (Element-F.Minus g.0) _ _ _ (fold-roll-Element (List Word) (List Word) element_step group_step (Element-F.Minus g.0)) (fold-roll-Element Held Held hold_element hold_group (Element-F.Minus g.0)) (element.rolls-Minus g.0) (minus_so g)
  step_element (Element-F.Bind e name) = made_other (Element-F.Bind e name) _ _ _ (fold-roll-Element (List Word) (List Word) element_step group_step (Element-F.Bind e name)) (fold-roll-Element Held Held hold_element hold_group (Element-F.Bind e name)) (element.rolls-Bind e name) (bind_so e name)
  step_element (Element-F.Values inline) = made_other (Element-F.Values inline) _ _ _ (fold-roll-Element (List Word) (List Word) element_step group_step (Element-F.Values inline)) (fold-roll-Element Held Held hold_element hold_group (Element-F.Values inline)) (element.rolls-Values inline) (values_so inline)
  step_element (Element-F.Service silent iri g) = made_other (Element-F.Service silent iri g.0) _ _ _ (fold-roll-Element (List Word) (List Word) element_step group_step (Element-F.Service silent iri g.0)) (fold-roll-Element Held Held hold_element hold_group (Element-F.Service silent iri g.0)) (element.rolls-Service silent iri g.0) (service_so silent iri g)

  -- ---- runs of triples

  abbrev run : List Pattern → List Token
  run patterns = flat_map (λ (q : Pattern). said (pattern_words q)) patterns

  abbrev optional_run : List Pattern → Option (List Pattern)
  optional_run [] = None
  optional_run (p ∷ more) = Some (p ∷ more)

  run_elements : (patterns : List Pattern) → map element.Triple patterns ≡ grammar.triple_elements (optional_run patterns)
  run_elements [] = refl
  run_elements (p ∷ more) = refl

  run_said : (p : Pattern) (more : List Pattern) → AreTriples (p ∷ more) → (grammar.triples ps).spells (run (p ∷ more)) (p ∷ more)
  run_said p more h = subst (λ (v : List Token). (grammar.triples ps).spells v (p ∷ more)) (sym (run_is ps p more)) (triples_said ps p more h.0 h.1)

  first_said : (patterns : List Pattern) → AreTriples patterns → (grammar.first_triples ps).spells (run patterns) (map element.Triple patterns)
  unfolding grammar.first_triples
  first_said [] h = (None, refl, refl)
  first_said (p ∷ more) h = (Some (p ∷ more), inl (run_said p more h), refl)

  behind_said : (patterns : List Pattern) → AreTriples patterns → (grammar.behind_other ps).spells (run patterns) (map element.Triple patterns)
  unfolding grammar.behind_other
  behind_said [] h = (None, ((None, None), ([], [], refl, refl, refl), refl), refl)
  behind_said (p ∷ more) h = (Some (p ∷ more), ((None, Some (p ∷ more)), ([], run (p ∷ more), refl, refl, run_said p more h), refl), refl)

  -- ---- the elements of a group

  abbrev elements : List ProvedElement → List Element
  elements es = map (λ (e : ProvedElement). e.0) es

  abbrev words_of : List ProvedElement → List Word
  words_of es = flat_map (λ words. words) (map element_words (elements es))

  abbrev helds : List ProvedElement → List Held
  helds es = map held_element (elements es)

  -- the first triples, and then the other elements, each with the triples behind it
  record Split (names : List (List ℕ)) (n : ℕ) (es : List ProvedElement) : Type 0 where
    first : List Pattern
    rest : List (List Element)
    same : elements es ≡ map element.Triple first ++ flat_map (λ es. es) rest
    back : List Token
    tokens : said (words_of es) ≡ run first ++ back
    triples : AreTriples first
    items : (grammar.items ps (grammar.group ps n) (grammar.with_elements names (map element.Triple first))).spells back rest

  elements_step : (names : List (List ℕ)) (e : Element) (es : List Element) → grammar.with_elements names (e ∷ es) ≡ grammar.with_elements (fold with_name names (mentions e)) es
  elements_step names e es = fold-append with_name names (mentions e) (all_of (map mentions es))

  split_triple : (names : List (List ℕ)) (n : ℕ) (e : ProvedElement) (es : List ProvedElement) → (t : Triple (element_words e.0) (held_element e.0) e.0) → (held_element e.0).good ≡ true → AreFine (element_words e.0) → Split (fold with_name names (held_element e.0).names) n es → Split names n (e ∷ es)
  split_triple names n e es t o f s =
      let p = t.pattern in
      let mine : mentions (element.Triple p) ≡ (held_element e.0).names =
      ap mentions (sym (element.rolls-Triple p)) ∙ fold-roll-Element (List (List ℕ)) (List (List ℕ)) element_names group_names (Element-F.Triple p) ∙ sym (ap (λ (h : Held). h.names) t.holds) in
      let scope : grammar.with_elements names (element.Triple p ∷ map element.Triple s.first) ≡ grammar.with_elements (fold with_name names (held_element e.0).names) (map element.Triple s.first) =
      elements_step names (element.Triple p) (map element.Triple s.first) ∙ ap (λ (v : List (List ℕ)). grammar.with_elements (fold with_name names v) (map element.Triple s.first)) mine in
      record {
        first = p ∷ s.first;
        rest = s.rest;
        same = (λ i. t.is i ∷ s.same i);
        back = s.back;
        tokens = said_both (element_words e.0) (words_of es) ∙ ap (λ (v : List Word). said v ++ said (words_of es)) t.printed ∙ ap (λ (v : List Token). said (pattern_words p) ++ v) s.tokens ∙ sym (append_assoc (said (pattern_words p)) (run s.first) s.back);
        triples = (triple_from p (sym (ap (λ (h : Held). h.good) t.holds) ∙ o) (subst AreFine t.printed f), s.triples);
        items = subst (λ (v : List (List ℕ)). (grammar.items ps (grammar.group ps n) v).spells s.back s.rest) (sym scope) s.items;
      }

  item_said : (names : List (List ℕ)) (n : ℕ) (words : List Word) (e : Element) (first : List Pattern) → (grammar.other ps (grammar.group ps n) names).spells (said words) e → AreTriples first → (grammar.item ps (grammar.group ps n) names).spells (said words ++ run first) (e ∷ map element.Triple first)
  unfolding grammar.item
  item_said names n words e first o h = ((e, map element.Triple first), (said words, run first, refl, o, behind_said first h), refl)

  split_other : (names : List (List ℕ)) (n : ℕ) → n ≤ 63 → (e : ProvedElement) (es : List ProvedElement) → (t : Other (element_words e.0) (held_element e.0) e.0) → (held_element e.0).good ≡ true → not_bound names (held_element e.0).binds ≡ true → AreFine (element_words e.0) → (held_element e.0).nest ≤ n
      → Split (fold with_name names (held_element e.0).names) n es → Split names n (e ∷ es)
  unfolding grammar.items
  split_other names n b e es t o u f h s =
      let scope : grammar.with_elements names (e.0 ∷ map element.Triple s.first) ≡ grammar.with_elements (fold with_name names (held_element e.0).names) (map element.Triple s.first) =
      elements_step names e.0 (map element.Triple s.first) ∙ ap (λ (v : List (List ℕ)). grammar.with_elements (fold with_name names v) (map element.Triple s.first)) (sym t.names) in
      record {
        first = [];
        rest = (e.0 ∷ map element.Triple s.first) ∷ s.rest;
        same = ap (λ (v : List Element). e.0 ∷ v) s.same;
        back = (said (element_words e.0) ++ run s.first) ++ s.back;
        tokens = said_both (element_words e.0) (words_of es) ∙ ap (λ (v : List Token). said (element_words e.0) ++ v) s.tokens ∙ sym (append_assoc (said (element_words e.0)) (run s.first) s.back);
        triples = tt;
        items = (
          said (element_words e.0) ++ run s.first,
          s.back,
          refl,
          item_said names n (element_words e.0) e.0 s.first (t.spelled o f n h b names u) s.triples,
          subst (λ (v : List (List ℕ)). (grammar.items ps (grammar.group ps n) v).spells s.back s.rest) (sym scope) s.items,
        );
      }

  split : (names : List (List ℕ)) (n : ℕ) → n ≤ 63 → (es : List ProvedElement) → all_held (helds es) ≡ true → are_fresh names (helds es) ≡ true → AreFine (words_of es) → most_held (helds es) ≤ n → Split names n es
  unfolding grammar.items
  split names n b [] o u f h = record { first = []; rest = []; same = refl; back = []; tokens = refl; triples = tt; items = refl }
  split names n b (e ∷ es) o u f h =
      let t = and_parts (held_element e.0).good (all_held (helds es)) o in
      let w = and_parts (not_bound names (held_element e.0).binds) (are_fresh (fold with_name names (held_element e.0).names) (helds es)) u in
      let v = fine_split (element_words e.0) (words_of es) f in
      let rest = split (fold with_name names (held_element e.0).names) n b es t.1 w.1 v.1 (omega (arith, h)) in
      elim e.1 [ inl x ↦ split_triple names n e es x t.0 v.0 rest | inr x ↦ split_other names n b e es x t.0 w.0 v.0 (omega (arith, h)) rest ]

  elements_pass : (serves : Bool) (es : List ProvedElement) (n : ℕ) → all_held (helds es) ≡ true → (any_serves (helds es) ≡ true → serves ≡ true) → most_held (helds es) ≤ n → Passes serves n (said (words_of es))
  elements_pass serves [] n o s h = passes_none serves n
  elements_pass serves (e ∷ es) n o s h =
      let t = and_parts (held_element e.0).good (all_held (helds es)) o in
      let here : Passes serves n (said (element_words e.0)) = elim e.1 [
        | inl x ↦ subst (λ (v : List Word). Passes serves n (said v)) (sym x.printed) (passes_calm serves n (said (pattern_words x.pattern)) (calm_triple x.pattern))
        | inr x ↦ serve_more (held_element e.0).serves serves n (said (element_words e.0)) (λ a. s (or_first (held_element e.0).serves (any_serves (helds es)) a)) (passes_less (held_element e.0).serves (held_element e.0).nest n (said (element_words e.0)) (omega (arith, h)) (x.passes t.0))
      ] in
      subst (Passes serves n) (sym (said_both (element_words e.0) (words_of es))) (passes_both serves n (said (element_words e.0)) (said (words_of es)) here (elements_pass serves es n t.1 (λ a. s (or_second (held_element e.0).serves (any_serves (helds es)) a)) (omega (arith, h))))

  element_named : (e : ProvedElement) → (held_element e.0).names ≡ mentions e.0
  element_named e = elim e.1 [
    | inl t ↦ ap (λ (h : Held). h.names) t.holds ∙ sym (ap mentions t.is ∙ ap mentions (sym (element.rolls-Triple t.pattern)) ∙ fold-roll-Element (List (List ℕ)) (List (List ℕ)) element_names group_names (Element-F.Triple t.pattern))
    | inr o ↦ o.names
  ]

  elements_named : (es : List ProvedElement) → held_names (helds es) ≡ all_of (map mentions (elements es))
  elements_named [] = refl
  elements_named (e ∷ es) = λ i. element_named e i ++ elements_named es i

  -- ---- all groups

  made_group : (z : Group-F Element Group) (words : List Word) (h : Held) → group_words (roll-Group z) ≡ words → held (roll-Group z) ≡ h → OfGroup words h (roll-Group z) → OfGroup (group_words (roll-Group z)) (held (roll-Group z)) (roll-Group z)
  made_group z words h a b l = subst (λ (v : List Word). OfGroup v (held (roll-Group z)) (roll-Group z)) (sym a) (subst (λ (v : Held). OfGroup words v (roll-Group z)) (sym b) l)

  inside_said : (n : ℕ) (es : List ProvedElement) → Split [] n es → (grammar.inside ps (grammar.group ps n)).spells (said (words_of es)) (roll-Group (record { elements = elements es }))
  unfolding grammar.inside
  inside_said n es s = ((map element.Triple s.first, s.rest), (run s.first, s.back, s.tokens, first_said s.first s.triples, s.items), ap (λ (v : List Element). roll-Group (record { elements = v })) s.same)

  braced_said : (n : ℕ) → n ≤ 64 → (es : List ProvedElement) → all_held (helds es) ≡ true → are_fresh [] (helds es) ≡ true → AreFine (words_of es) → suc (most_held (helds es)) ≤ n → (grammar.group ps n).spells (symbol.Plain k.LeftBrace ∷ (said (words_of es) ++ symbol.Plain k.RightBrace ∷ [])) (roll-Group (record { elements = elements es }))
  unfolding grammar.group grammar.braced
  braced_said zero b es o u f h = absurd (omega (arith, h))
  braced_said (suc n) b es o u f h =
      nested_said (grammar.braced ps) n (symbol.Plain k.LeftBrace ∷ (said (words_of es) ++ symbol.Plain k.RightBrace ∷ [])) (roll-Group (record { elements = elements es }))
      (braces_said (grammar.inside ps (nested (grammar.braced ps) n)) (said (words_of es)) (roll-Group (record { elements = elements es })) (inside_said n es (split [] n (omega (arith, b)) es o u f (omega (arith, h)))))

  group_so : (es : List ProvedElement) → OfGroup (fixed (codes "{") ∷ (words_of es ++ fixed (codes "}") ∷ [])) (hold_group (record { elements = helds es })) (roll-Group (record { elements = elements es }))
  group_so es = record {
    within = words_of es;
    words_are = refl;
    depth = most_held (helds es);
    nest = refl;
    passes = λ o. let t = and_parts (all_held (helds es)) (are_fresh [] (helds es)) o in elements_pass (any_serves (helds es)) es (most_held (helds es)) t.0 (λ e. e) (omega arith);
    names = elements_named es ∙ sym (fold-roll-Group (List (List ℕ)) (List (List ℕ)) element_names group_names (record { elements = elements es }));
    spelled = λ o f n h b.
        let t = and_parts (all_held (helds es)) (are_fresh [] (helds es)) o in
        let v = fine_split (words_of es) (fixed (codes "}") ∷ []) f.1 in
        subst (λ (v : List Token). (grammar.group ps n).spells v (roll-Group (record { elements = elements es }))) (sym (ap (λ (v : List Token). symbol.Plain k.LeftBrace ∷ v) (said_both (words_of es) (fixed (codes "}") ∷ []))))
        (braced_said n b es t.0 t.1 v.0 h);
  }

  step_group : (y : Group-F ProvedElement ProvedGroup) → OfGroup (group_words (roll-Group (map-Group ProvedElement ProvedGroup Element Group (λ e. e.0) (λ e. e.0) y))) (held (roll-Group (map-Group ProvedElement ProvedGroup Element Group (λ e. e.0) (λ e. e.0) y))) (roll-Group (map-Group ProvedElement ProvedGroup Element Group (λ e. e.0) (λ e. e.0) y))
  step_group y =
      made_group (record { elements = elements y.elements }) _ _ (fold-roll-Group (List Word) (List Word) element_step group_step (record { elements = elements y.elements })) (fold-roll-Group Held Held hold_element hold_group (record { elements = elements y.elements })) (group_so y.elements)

  pub group_law : (g : Group) → OfGroup (group_words g) (held g) g
  group_law =
      ind-Group (λ e. OfElement (element_words e) (held_element e) e) (λ g. OfGroup (group_words g) (held g) g)
      (λ x y same. subst (λ (z : Element-F Element Group). OfElement (element_words (roll-Element z)) (held_element (roll-Element z)) (roll-Element z)) same (step_element y))
      (λ x y same. subst (λ (z : Group-F Element Group). OfGroup (group_words (roll-Group z)) (held (roll-Group z)) (roll-Group z)) same (step_group y))

  element_law : (e : Element) → OfElement (element_words e) (held_element e) e
  element_law =
      ind-Element (λ e. OfElement (element_words e) (held_element e) e) (λ g. OfGroup (group_words g) (held g) g)
      (λ x y same. subst (λ (z : Element-F Element Group). OfElement (element_words (roll-Element z)) (held_element (roll-Element z)) (roll-Element z)) same (step_element y))
      (λ x y same. subst (λ (z : Group-F Element Group). OfGroup (group_words (roll-Group z)) (held (roll-Group z)) (roll-Group z)) same (step_group y))

  -- what is held of an element names what it mentions
  pub mentioned : (e : Element) → (held_element e).names ≡ mentions e
  mentioned e = element_named (e, element_law e)
