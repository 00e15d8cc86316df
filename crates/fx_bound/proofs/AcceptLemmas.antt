-- The printed query of a batch is accepted as that query.
use Rattle.std.proofs.Common.{◌≡◌, ◌∙◌, ap, sym, subst, refl, inl, inr, ◌⊎◌, ℕ, zero, suc, ◌<◌, ◌≤◌, ◌^◌, Bool, true, false, not, ◌&&◌, ◌||◌, cond, List, [], ◌∷◌, ◌++◌, map, filter, fold, get_or, length, codes, Option, Some, None, arith, append-nil, append_assoc}
use Rattle.std.specs.Prelude.{All, nat_le, pos, is_none}
use Rattle.std.specs.List.{AllByRecursion, flat_map, list_all}
use Rattle.std.specs.Ordering.{is_eq}
use Rattle.std.proofs.lemmas.Bool.{and_parts, or_left, or_parts, or_right}
use Rattle.std.proofs.lemmas.Bool.Decides.{nat_tests}
use Rattle.std.proofs.lemmas.List.Elements.{recursion_from_All}
use Rattle.std.proofs.lemmas.List.Folds.{list_any-append}
use Rattle.std.proofs.lemmas.Str.{IsUtf8-from_ascii}
use Rattle.fx_terms.specs.Datatypes.{xsd_integer}
use Rattle.fx_terms.specs.Iris.{IsIri}
use Rattle.fx_terms.specs.Names.{IsName}
use Rattle.fx_terms.specs.Terms.{IsTerm}
use Rattle.fx_terms.specs.Texts.{text_cmp}
use Rattle.fx_terms.specs.declared.terms.Term.{Term}
use Rattle.fx_terms.specs.declared.terms.Term.TheVariants.{Iri, Literal}
use Rattle.fx_terms.specs.declared.patterns.Pattern.{Pattern}
use Rattle.fx_terms.specs.declared.patterns.PatternTerm.{PatternTerm}
use Rattle.fx_terms.specs.declared.patterns.PatternTerm.TheVariants.{Variable, Constant}
use Rattle.fx_terms.proofs.SetLemmas.{Among}
use Rattle.fx_algebra.specs.BasicGraphPatterns.{variables}
use Rattle.fx_algebra.specs.Measures.{condition_nest, measured}
use Rattle.fx_algebra.specs.Printed.{Word, fixed, variable, term, number, condition, printed}
use Rattle.fx_algebra.specs.Scopes.{is_among, once, pattern_names, with_name}
use Rattle.fx_algebra.specs.Solutions.{Bindings, term_of}
use Rattle.fx_algebra.specs.Units.{calls_bound, is_empty, expr_names, is_pushable}
use Rattle.fx_algebra.specs.declared.expressions.Expr.{Expr}
use Rattle.fx_algebra.specs.declared.units.Row.{Row}
use Rattle.fx_algebra.specs.declared.units.Unit as unit
use Rattle.fx_algebra.proofs.MemberLemmas.{IsOnce, among_cases, among_from_flat_map, once_append}
use Rattle.fx_algebra.specs.Printed as words
use Rattle.fx_algebra.specs.Printed.{element_step, element_words, group_step, group_words, in_brackets, marked, pattern_words, print_step, separated}
use Rattle.fx_algebra.specs.Measures.{Measured, measure_step}
use Rattle.fx_algebra.specs.Values.{integer}
use Rattle.std.specs.Fmt.{signed_decimal}
use Rattle.std.proofs.lemmas.Fmt.{IsAscii-decimal}
use Rattle.fx_algebra.specs.declared.expressions.Expr.{Expr-F, fold-roll-Expr, roll-Expr}
use Rattle.fx_algebra.specs.declared.queries.Element.{Element, Element-F, fold-roll-Element}
use Rattle.fx_algebra.specs.declared.queries.Element.TheVariants as element
use Rattle.fx_algebra.specs.declared.queries.Form.TheVariants as form
use Rattle.fx_algebra.specs.declared.queries.Group.{Group, fold-roll-Group, roll-Group}
use Rattle.fx_spelling.specs.Printable.{AreFine, AreNames, Held, IsFine, IsPart, IsTriple, IsVerb, all_held, are_fresh, held, held_element, hold_element, hold_group, most_held, not_bound}
use Rattle.fx_spelling.proofs.Columns.{fine_columns}
use Rattle.fx_spelling.proofs.Saying.{fine_both}
use Rattle.fx_spelling.proofs.Terms.{fine_triple, verb_good}
use Rattle.fx_bound.specs.Batches.{batch_query, branch_elements, branch_group, check_elements}
use Rattle.fx_renaming.specs.Branches.{bound_expr, bound_part, bound_pattern, bound_word, is_hopeless, is_literal, part_by, word_by}
use Rattle.fx_bound.specs.Reading.{all_columns, check_name, columns_by, columns_of, free_names, place_of, renamed, unit_names}
use Rattle.fx_spelling.specs.Units.{IsFit, IsPushed}
use Rattle.fx_spelling.proofs.Columns.{names_both}
use Rattle.fx_spelling.proofs.Queries.{printed_is_accepted}
use Rattle.fx_grammar.specs.Accepted.{Accepted}
use Rattle.fx_algebra.specs.Printed.{column_words, form_words, order_words, printed_query, query_words}
use Rattle.fx_bound.specs.Texts.{BatchHasTheWords, BatchIsAccepted, HasTerms, branch_words, check_words}
use Rattle.fx_founds.specs.Uniting.{Place, branches, is_worth_asking, places_from}
use Rattle.fx_bound.proofs.NamingLemmas.{among_from_test, among_once, place_apart, place_low, sent_apart, test_from}
use Rattle.fx_bound.proofs.ReadingLemmas.{is_column, left, low, no_free, one_number, pattern_left, places_once}
use Rattle.fx_bound.proofs.TextNames.{columns_are_names}
use Rattle.fx_founds.proofs.UnionLemmas.{in_kept, once_kept, once_mapped}
use Rattle.fx_founds.proofs.UniteLemmas.{its_row, one_place}
use Rattle.fx_renaming.proofs.WordLemmas.{bound_has_the_words}
use Rattle.fx_renaming.proofs.MeasureLemmas.{bound_keeps_the_measure}

-- ---- the terms of a row

found_term : (s : Bindings) (name : List ℕ) (t : Term) → AllByRecursion (λ (e : List ℕ × Term). IsTerm e.1) s → term_of s name ≡ Some t → IsTerm t
found_term [] name t h e = absurd (cc)
found_term (p ∷ ps) name t h e = by (is_eq (text_cmp name p.0)) e (found_term ps name t h.1)
  where
    by : (b : Bool) → cond b (Some p.1) (term_of ps name) ≡ Some t → (term_of ps name ≡ Some t → IsTerm t) → IsTerm t
    by true k f = let same : p.1 ≡ t = cc in subst IsTerm same h.0
    by false k f = f k

place_near : (names : List (List ℕ)) (name : List ℕ) → place_of names name ≤ length names
place_near [] name = omega arith
place_near (n ∷ ns) name = by (is_eq (text_cmp n name)) (place_near ns name)
  where
    by : (b : Bool) → place_of ns name ≤ length ns → cond b 0 (suc (place_of ns name)) ≤ suc (length ns)
    by true h = omega arith
    by false h = omega (arith, h)

module _ (u : unit.Unit) (short : length (unit_names u) < 2 ^ 64) (b : Place) (few : b.number < 2 ^ 64) (terms : AllByRecursion (λ (e : List ℕ × Term). IsTerm e.1) b.row.solution) where
  its_name : (n : List ℕ) → IsName (renamed u b.number n)
  its_name n = let near = place_near (unit_names u) n in (columns_are_names (place_of (unit_names u) n) b.number (omega (arith, near, short)) few).sent

  -- -- patterns

  a_part : (part : PatternTerm) → IsPart part → IsPart (bound_part (renamed u b.number) b.row.solution part)
  a_part (Constant t) h = h
  a_part (Variable n) h = by (term_of b.row.solution n) refl
    where
      by : (o : Option Term) → term_of b.row.solution n ≡ o → IsPart (part_by (renamed u b.number) n o)
      by None e = its_name n
      by (Some t) e = found_term b.row.solution n t terms e

  a_verb : (part : PatternTerm) → IsVerb part → is_literal (bound_part (λ name. name) b.row.solution part) ≡ false → IsVerb (bound_part (renamed u b.number) b.row.solution part)
  a_verb (Constant t) h k = h
  a_verb (Variable n) h k = by (term_of b.row.solution n) refl k
    where
      by : (o : Option Term) → term_of b.row.solution n ≡ o → is_literal (part_by (λ name. name) n o) ≡ false → IsVerb (part_by (renamed u b.number) n o)
      by None e k = its_name n
      by (Some (Iri a)) e k = found_term b.row.solution n (Iri a) terms e
      by (Some (Literal l)) e k = absurd (cc)

  -- -- filters

  fine_words : (ws : List Word) → AreFine ws → AreFine (map (bound_word (renamed u b.number) b.row.solution) ws)
  fine_words [] h = tt
  fine_words (w ∷ ws) h = (one w h.0, fine_words ws h.1)
    where
      named : (n : List ℕ) (o : Option Term) → term_of b.row.solution n ≡ o → IsFine (word_by (renamed u b.number) n o)
      named n None e = its_name n
      named n (Some t) e = found_term b.row.solution n t terms e

      one : (v : Word) → IsFine v → IsFine (bound_word (renamed u b.number) b.row.solution v)
      one (variable n) k = named n (term_of b.row.solution n) refl
      one (fixed text) k = k
      one (term t) k = k
      one (number n) k = k

  fine_filter : (e : Expr) → AreFine (condition (printed e)) → AreFine (condition (printed (bound_expr (renamed u b.number) b.row.solution e)))
  fine_filter e h = subst AreFine (sym (bound_has_the_words (renamed u b.number) b.row.solution e)) (fine_words (condition (printed e)) h)

-- ---- the words of elements

below : (c : ℕ) → nat_le c 127 ≡ true → c < 128
below c h = grind (arith, nat_tests)

all_ascii : (text : List ℕ) → list_all (λ c. nat_le c 127) text ≡ true → (i : ℕ) → get_or text i 0 < 128
all_ascii [] h i = omega arith
all_ascii (c ∷ cs) h zero = below c (and_parts (nat_le c 127) (list_all (λ d. nat_le d 127) cs) h).0
all_ascii (c ∷ cs) h (suc i) = all_ascii cs (and_parts (nat_le c 127) (list_all (λ d. nat_le d 127) cs) h).1 i

integer_iri : IsIri xsd_integer
integer_iri = record { utf8 = IsUtf8-from_ascii xsd_integer (all_ascii xsd_integer refl); iri = refl }

one_term : IsTerm (integer (pos 1))
unfolding integer
one_term = record { form = IsUtf8-from_ascii (signed_decimal (pos 1)) (IsAscii-decimal 1 (omega arith)); datatype = integer_iri; fits = refl; tag = λ h. absurd (omega (arith, h)) }

abbrev FineElement : Element → Type 0
FineElement e = AreFine (element_words e)

triple_words : (p : Pattern) → element_words (element.Triple p) ≡ pattern_words p
triple_words p = ap element_words (sym (element.rolls-Triple p)) ∙ fold-roll-Element (List Word) (List Word) element_step group_step (Element-F.Triple p)

filter_words : (e : Expr) → element_words (element.Filter e) ≡ fixed (codes "FILTER") ∷ condition (printed e)
filter_words e = ap element_words (sym (element.rolls-Filter e)) ∙ fold-roll-Element (List Word) (List Word) element_step group_step (Element-F.Filter e)

fine_elements : (es : List Element) → AllByRecursion FineElement es → AreFine (flat_map (λ words. words) (map element_words es))
fine_elements [] h = tt
fine_elements (e ∷ es) h = fine_both (element_words e) (flat_map (λ words. words) (map element_words es)) h.0 (fine_elements es h.1)

both_lists : {X : Type 0} (P : X → Type 0) (xs ys : List X) → AllByRecursion P xs → AllByRecursion P ys → AllByRecursion P (xs ++ ys)
both_lists P [] ys h k = k
both_lists P (x ∷ xs) ys h k = (h.0, both_lists P xs ys h.1 k)

fine_group : (es : List Element) → AllByRecursion FineElement es → AreFine (group_words (roll-Group (record { elements = es })))
fine_group es h =
    subst AreFine (sym (fold-roll-Group (List Word) (List Word) element_step group_step (record { elements = es })))
    (inl refl, fine_both (flat_map (λ words. words) (map element_words es)) (fixed (codes "}") ∷ []) (fine_elements es h) (inl refl, tt))

fine_marked : (parts : List (List Word)) → AllByRecursion AreFine parts → AreFine (marked (fixed (codes "UNION")) parts)
fine_marked [] h = tt
fine_marked (p ∷ ps) h = (inr (inl refl), fine_both p (marked (fixed (codes "UNION")) ps) h.0 (fine_marked ps h.1))

fine_separated : (parts : List (List Word)) → AllByRecursion AreFine parts → AreFine (separated (fixed (codes "UNION")) parts)
fine_separated [] h = tt
fine_separated (p ∷ ps) h = fine_both p (marked (fixed (codes "UNION")) ps) h.0 (fine_marked ps h.1)

bind_words : (t : Term) (name : List ℕ) → element_words (element.Bind (roll-Expr (Expr-F.Constant t)) name) ≡ fixed (codes "BIND") ∷ in_brackets (term t ∷ fixed (codes "AS") ∷ variable name ∷ [])
bind_words t name =
    ap element_words (sym (element.rolls-Bind (roll-Expr (Expr-F.Constant t)) name))
    ∙ fold-roll-Element (List Word) (List Word) element_step group_step (Element-F.Bind (roll-Expr (Expr-F.Constant t)) name)
    ∙ ap (λ (p : words.Printed). fixed (codes "BIND") ∷ in_brackets (p.words ++ (fixed (codes "AS") ∷ variable name ∷ []))) (fold-roll-Expr words.Printed print_step (Expr-F.Constant t))

union_words : (gs : List Group) → element_words (element.Union gs) ≡ separated (fixed (codes "UNION")) (map group_words gs)
union_words gs = ap element_words (sym (element.rolls-Union gs)) ∙ fold-roll-Element (List Word) (List Word) element_step group_step (Element-F.Union gs)

-- ---- what elements hold

triple_held : (p : Pattern) → held_element (element.Triple p) ≡ hold_element (Element-F.Triple p)
triple_held p = ap held_element (sym (element.rolls-Triple p)) ∙ fold-roll-Element Held Held hold_element hold_group (Element-F.Triple p)

filter_held : (e : Expr) → held_element (element.Filter e) ≡ hold_element (Element-F.Filter e)
filter_held e = ap held_element (sym (element.rolls-Filter e)) ∙ fold-roll-Element Held Held hold_element hold_group (Element-F.Filter e)

bind_held : (e : Expr) (name : List ℕ) → held_element (element.Bind e name) ≡ hold_element (Element-F.Bind e name)
bind_held e name = ap held_element (sym (element.rolls-Bind e name)) ∙ fold-roll-Element Held Held hold_element hold_group (Element-F.Bind e name)

union_held : (gs : List Group) → held_element (element.Union gs) ≡ hold_element (Element-F.Union (map held gs))
union_held gs = ap held_element (sym (element.rolls-Union gs)) ∙ fold-roll-Element Held Held hold_element hold_group (Element-F.Union gs)

group_held : (es : List Element) → held (roll-Group (record { elements = es })) ≡ hold_group (record { elements = map held_element es })
group_held es = fold-roll-Group Held Held hold_element hold_group (record { elements = es })

-- an element that the grammar has, in which at most 60 brackets are open
record IsSmall (h : Held) : Type 0 where
  good : h.good ≡ true
  nest : h.nest ≤ 60

all_small : (es : List Element) → AllByRecursion (λ e. IsSmall (held_element e)) es → all_held (map held_element es) ≡ true
all_small [] h = refl
all_small (e ∷ es) h = ap (λ (b : Bool). b && all_held (map held_element es)) h.0.good ∙ all_small es h.1

most_small : (es : List Element) → AllByRecursion (λ e. IsSmall (held_element e)) es → most_held (map held_element es) ≤ 60
most_small [] h = omega arith
most_small (e ∷ es) h = let rest = most_small es h.1 in let here = h.0.nest in omega (arith, rest, here)

-- elements without BIND hide no name
fresh_none : (names : List (List ℕ)) (es : List Element) → AllByRecursion (λ e. (held_element e).binds ≡ None) es → are_fresh names (map held_element es) ≡ true
fresh_none names [] h = refl
fresh_none names (e ∷ es) h =
    ap (λ (o : Option (List ℕ)). not_bound names o && are_fresh (fold with_name names (held_element e).names) (map held_element es)) h.0
    ∙ fresh_none (fold with_name names (held_element e).names) es h.1

-- nor do those without names change what stands before others
fresh_behind : (es rest : List Element) → AllByRecursion (λ e. ((held_element e).binds ≡ None) × ((held_element e).names ≡ [])) es → are_fresh [] (map held_element (es ++ rest)) ≡ are_fresh [] (map held_element rest)
fresh_behind [] rest h = refl
fresh_behind (e ∷ es) rest h =
    ap (λ (o : Option (List ℕ)). not_bound [] o && are_fresh (fold with_name [] (held_element e).names) (map held_element (es ++ rest))) h.0.0
    ∙ ap (λ (ns : List (List ℕ)). are_fresh (fold with_name [] ns) (map held_element (es ++ rest))) h.0.1
    ∙ fresh_behind es rest h.1

-- ---- a list of names of which each stands once

not_among : (names : List (List ℕ)) (n : List ℕ) → (Among n names → ⊥) → is_among names n ≡ false
not_among names n h = by (is_among names n) refl
  where
    by : (b : Bool) → is_among names n ≡ b → is_among names n ≡ false
    by true e = absurd (h (among_from_test names n e))
    by false e = e

fold_new : (front names : List (List ℕ)) → IsOnce names → ((n : List ℕ) → Among n front → Among n names → ⊥) → fold with_name front names ≡ front ++ names
unfolding with_name
fold_new front [] h apart = sym (append-nil front)
fold_new front (n ∷ ns) h apart =
    ap (λ (b : Bool). fold with_name (cond b front (front ++ n ∷ [])) ns) (not_among front n (λ m. apart n m (inl refl)))
    ∙ fold_new (front ++ n ∷ []) ns h.1 (λ x a b. split x (among_cases x front (n ∷ []) a) b)
    ∙ append_assoc front (n ∷ []) ns
  where
    split : (x : List ℕ) → Among x front ⊎ Among x (n ∷ []) → Among x ns → ⊥
    split x (inl a) b = apart x a (inr b)
    split x (inr (inl e)) b = h.0 (subst (λ (v : List ℕ). Among v ns) (sym e) b)
    split x (inr (inr k)) b = k

once_as_it_is : (names : List (List ℕ)) → IsOnce names → once names ≡ names
once_as_it_is names h = fold_new [] names h (λ n a b. a)

once_fold : (front names : List (List ℕ)) → IsOnce front → IsOnce (fold with_name front names)
unfolding with_name
once_fold front [] h = h
once_fold front (n ∷ ns) h = once_fold (cond (is_among front n) front (front ++ n ∷ [])) ns (by (is_among front n) refl)
  where
    by : (b : Bool) → is_among front n ≡ b → IsOnce (cond b front (front ++ n ∷ []))
    by true e = h
    by false e = once_append front (n ∷ []) h ((λ m. m), tt) (λ x a b. new x a b e)
      where
        new : (x : List ℕ) → Among x front → Among x (n ∷ []) → is_among front n ≡ false → ⊥
        new x a (inl k) f = let two : true ≡ false = sym (test_from front n (subst (λ (v : List ℕ). Among v front) (sym k) a)) ∙ f in cc
        new x a (inr k) f = k

-- ---- one branch

module _ (u : unit.Unit) (fit : IsFit u) (short : length (unit_names u) < 2 ^ 64) (b : Place) (few : b.number < 2 ^ 64) (terms : AllByRecursion (λ (e : List ℕ × Term). IsTerm e.1) b.row.solution) (asked : is_worth_asking u b ≡ true) where
  abbrev ren : List ℕ → List ℕ
  ren = renamed u b.number

  -- no predicate becomes a literal
  not_hopeless : (ps : List Pattern) → is_hopeless (map (bound_pattern (λ name. name) b.row.solution) ps) ≡ false → AllByRecursion (λ p. is_literal (bound_part (λ name. name) b.row.solution p.predicate) ≡ false) ps
  not_hopeless [] h = tt
  not_hopeless (p ∷ ps) h =
      let k = or_parts (is_literal (bound_part (λ name. name) b.row.solution p.subject) || is_literal (bound_part (λ name. name) b.row.solution p.predicate)) (is_hopeless (map (bound_pattern (λ name. name) b.row.solution) ps)) h in
      ((or_parts (is_literal (bound_part (λ name. name) b.row.solution p.subject)) (is_literal (bound_part (λ name. name) b.row.solution p.predicate)) k.0).1, not_hopeless ps k.1)

  verbs : AllByRecursion (λ p. is_literal (bound_part (λ name. name) b.row.solution p.predicate) ≡ false) u.patterns
  verbs = not_hopeless u.patterns (turned (is_hopeless (map (bound_pattern (λ name. name) b.row.solution) u.patterns)) asked)
    where
      turned : (v : Bool) → not v ≡ true → v ≡ false
      turned true h = cc
      turned false h = refl

  spelled_patterns : (ps : List Pattern) → AllByRecursion IsTriple ps → AllByRecursion (λ p. is_literal (bound_part (λ name. name) b.row.solution p.predicate) ≡ false) ps
      → AllByRecursion IsTriple (map (bound_pattern (renamed u b.number) b.row.solution) ps)
  spelled_patterns [] h k = tt
  spelled_patterns (p ∷ ps) h k = (
    record { subject = a_part u short b few terms p.subject h.0.subject; predicate = a_verb u short b few terms p.predicate h.0.predicate k.0; object = a_part u short b few terms p.object h.0.object },
    spelled_patterns ps h.1 k.1,
  )

  -- -- words

  fine_triples : (ps : List Pattern) → AllByRecursion IsTriple (map (bound_pattern (renamed u b.number) b.row.solution) ps) → AllByRecursion FineElement (map (λ p. element.Triple (bound_pattern (renamed u b.number) b.row.solution p)) ps)
  fine_triples [] h = tt
  fine_triples (p ∷ ps) h =
      let q = bound_pattern (renamed u b.number) b.row.solution p in
      (subst AreFine (sym (triple_words q)) (fine_triple q h.0), fine_triples ps h.1)

  fine_filters : (es : List Expr) → AllByRecursion (IsPushed u.patterns) es → AllByRecursion FineElement (map (λ e. element.Filter (bound_expr (renamed u b.number) b.row.solution e)) es)
  fine_filters [] h = tt
  fine_filters (e ∷ es) h =
      let x = bound_expr (renamed u b.number) b.row.solution e in
      (subst AreFine (sym (filter_words x)) (inr (inl refl), fine_filter u short b few terms e h.0.words), fine_filters es h.1)

  fine_check : (free : List (List ℕ)) → AllByRecursion FineElement (check_elements b.number free)
  fine_check [] =
      let name = check_name b.number in
      let is : IsName name = (columns_are_names 0 b.number (omega arith) few).check in
      (subst AreFine (sym (bind_words (integer (pos 1)) name)) (inr (inl refl), (inl refl, (one_term, (inr (inl refl), (is, (inl refl, tt)))))), tt)
  fine_check (n ∷ ns) = tt

  branch_fine : AreFine (group_words (branch_group u b))
  branch_fine =
      let triples = map (λ p. element.Triple (bound_pattern (renamed u b.number) b.row.solution p)) u.patterns in
      let filters = map (λ e. element.Filter (bound_expr (renamed u b.number) b.row.solution e)) u.filters in
      let last = check_elements b.number (free_names u b.row.solution) in
      fine_group (triples ++ (filters ++ last))
      (both_lists FineElement triples (filters ++ last) (fine_triples u.patterns (spelled_patterns u.patterns (recursion_from_All IsTriple u.patterns fit.triples) verbs))
      (both_lists FineElement filters last (fine_filters u.filters (recursion_from_All (IsPushed u.patterns) u.filters fit.filters)) (fine_check (free_names u b.row.solution))))

  -- -- what it holds

  small_triples : (ps : List Pattern) → AllByRecursion IsTriple (map (bound_pattern (renamed u b.number) b.row.solution) ps) → AllByRecursion (λ e. IsSmall (held_element e)) (map (λ p. element.Triple (bound_pattern (renamed u b.number) b.row.solution p)) ps)
  small_triples [] h = tt
  small_triples (p ∷ ps) h =
      let q = bound_pattern (renamed u b.number) b.row.solution p in
      (subst IsSmall (sym (triple_held q)) (record { good = verb_good q.predicate h.0.predicate; nest = omega arith }), small_triples ps h.1)

  of_pushable : (e : Expr) → is_pushable e ≡ true → (calls_bound e ≡ false) × (condition_nest (measured e) ≤ 60)
  of_pushable e h =
      let k = and_parts (not (calls_bound e)) (nat_le (condition_nest (measured e)) 60) (and_parts (not (is_empty (expr_names e))) (not (calls_bound e) && nat_le (condition_nest (measured e)) 60) h).1 in
      (turned (calls_bound e) k.0, low_enough (condition_nest (measured e)) k.1)
    where
      turned : (v : Bool) → not v ≡ true → v ≡ false
      turned true h = cc
      turned false h = refl

      low_enough : (n : ℕ) → nat_le n 60 ≡ true → n ≤ 60
      low_enough n h = grind (arith, nat_tests)

  small_filters : (es : List Expr) → AllByRecursion (IsPushed u.patterns) es → AllByRecursion (λ e. IsSmall (held_element e)) (map (λ e. element.Filter (bound_expr (renamed u b.number) b.row.solution e)) es)
  small_filters [] h = tt
  small_filters (e ∷ es) h =
      let x = bound_expr (renamed u b.number) b.row.solution e in
      let k = of_pushable e h.0.pushable in
      let same = bound_keeps_the_measure (renamed u b.number) b.row.solution e k.0 in
      (subst IsSmall (sym (filter_held x)) (record { good = same.good ∙ h.0.good; nest = subst (λ (n : ℕ). n ≤ 60) (sym same.nest) k.1 }), small_filters es h.1)

  small_check : (free : List (List ℕ)) → AllByRecursion (λ e. IsSmall (held_element e)) (check_elements b.number free)
  small_check [] =
      let one = roll-Expr (Expr-F.Constant (integer (pos 1))) in
      let m : measured one ≡ measure_step (Expr-F.Constant (integer (pos 1))) = fold-roll-Expr Measured measure_step (Expr-F.Constant (integer (pos 1))) in
      (subst IsSmall (sym (bind_held one (check_name b.number))) (record { good = ap (λ (v : Measured). v.good) m; nest = subst (λ (v : Measured). suc v.nest ≤ 60) (sym m) (omega arith) }), tt)
  small_check (n ∷ ns) = tt

  -- -- names that a BIND may not hide

  unbinding_filters : (es : List Expr) → AllByRecursion (λ e. (held_element e).binds ≡ None) (map (λ e. element.Filter (bound_expr (renamed u b.number) b.row.solution e)) es)
  unbinding_filters [] = tt
  unbinding_filters (e ∷ es) = (ap (λ (h : Held). h.binds) (filter_held (bound_expr (renamed u b.number) b.row.solution e)), unbinding_filters es)

  unbinding_triples : (ps : List Pattern) → AllByRecursion (λ e. (held_element e).binds ≡ None) (map (λ p. element.Triple (bound_pattern (renamed u b.number) b.row.solution p)) ps)
  unbinding_triples [] = tt
  unbinding_triples (p ∷ ps) = (ap (λ (h : Held). h.binds) (triple_held (bound_pattern (renamed u b.number) b.row.solution p)), unbinding_triples ps)

  abbrev IsStill : Element → Type 0
  IsStill e = ((held_element e).binds ≡ None) × ((held_element e).names ≡ [])

  still_filters : (es : List Expr) → AllByRecursion IsStill (map (λ e. element.Filter (bound_expr (renamed u b.number) b.row.solution e)) es)
  still_filters [] = tt
  still_filters (e ∷ es) =
      let is = filter_held (bound_expr (renamed u b.number) b.row.solution e) in
      ((ap (λ (h : Held). h.binds) is, ap (λ (h : Held). h.names) is), still_filters es)

  none_left : (names : List (List ℕ)) → ((n : List ℕ) → Among n names → is_none (term_of b.row.solution n) ≡ false) → left (renamed u b.number) b.row.solution names ≡ []
  none_left [] h = refl
  none_left (n ∷ ns) h =
      ap (λ (v : Bool). map (renamed u b.number) (cond v (n ∷ filter (λ name. is_none (term_of b.row.solution name)) ns) (filter (λ name. is_none (term_of b.row.solution name)) ns))) (h n (inl refl))
      ∙ none_left ns (λ m k. h m (inr k))

  still_triples : free_names u b.row.solution ≡ [] → (ps : List Pattern) → ((n : List ℕ) → is_among (variables ps) n ≡ true → is_among (variables u.patterns) n ≡ true)
      → AllByRecursion IsStill (map (λ p. element.Triple (bound_pattern (renamed u b.number) b.row.solution p)) ps)
  still_triples e [] f = tt
  still_triples e (p ∷ ps) f =
      let is = triple_held (bound_pattern (renamed u b.number) b.row.solution p) in
      let none : pattern_names (bound_pattern (renamed u b.number) b.row.solution p) ≡ [] =
      pattern_left (renamed u b.number) b.row.solution p
      ∙ none_left (pattern_names p)
      (λ n m. no_free (unit_names u) b.row.solution e n
      (among_from_test (unit_names u) n (among_once (variables u.patterns) n ∙ f n (list_any-append (λ k. is_eq (text_cmp k n)) (pattern_names p) (variables ps) ∙ or_left (is_among (pattern_names p) n) (is_among (variables ps) n) (test_from (pattern_names p) n m))))) in (
        (ap (λ (h : Held). h.binds) is, ap (λ (h : Held). h.names) is ∙ none),
        still_triples e ps (λ n k. f n (list_any-append (λ m. is_eq (text_cmp m n)) (pattern_names p) (variables ps) ∙ or_right (is_among (pattern_names p) n) (is_among (variables ps) n) k)),
      )

  fresh_branch : (free : List (List ℕ)) → free_names u b.row.solution ≡ free
      → are_fresh [] (map held_element (map (λ p. element.Triple (bound_pattern (renamed u b.number) b.row.solution p)) u.patterns ++ (map (λ e. element.Filter (bound_expr (renamed u b.number) b.row.solution e)) u.filters ++ check_elements b.number free))) ≡ true
  fresh_branch [] e =
      let triples = map (λ p. element.Triple (bound_pattern (renamed u b.number) b.row.solution p)) u.patterns in
      let filters = map (λ e. element.Filter (bound_expr (renamed u b.number) b.row.solution e)) u.filters in
      let last = check_elements b.number [] in
      let one = roll-Expr (Expr-F.Constant (integer (pos 1))) in
      fresh_behind triples (filters ++ last) (still_triples e u.patterns (λ n k. k))
      ∙ fresh_behind filters last (still_filters u.filters)
      ∙ ap (λ (h : Held). are_fresh [] (h ∷ [])) (bind_held one (check_name b.number))
  fresh_branch (n ∷ ns) e =
      let triples = map (λ p. element.Triple (bound_pattern (renamed u b.number) b.row.solution p)) u.patterns in
      let filters = map (λ e. element.Filter (bound_expr (renamed u b.number) b.row.solution e)) u.filters in
      fresh_none [] (triples ++ (filters ++ [])) (both_lists (λ e. (held_element e).binds ≡ None) triples (filters ++ []) (unbinding_triples u.patterns) (both_lists (λ e. (held_element e).binds ≡ None) filters [] (unbinding_filters u.filters) tt))

  branch_held : ((held (branch_group u b)).good ≡ true) × ((held (branch_group u b)).nest ≤ 61)
  branch_held =
      let triples = map (λ p. element.Triple (bound_pattern (renamed u b.number) b.row.solution p)) u.patterns in
      let filters = map (λ e. element.Filter (bound_expr (renamed u b.number) b.row.solution e)) u.filters in
      let last = check_elements b.number (free_names u b.row.solution) in
      let es = triples ++ (filters ++ last) in
      let small = both_lists (λ e. IsSmall (held_element e)) triples (filters ++ last) (small_triples u.patterns (spelled_patterns u.patterns (recursion_from_All IsTriple u.patterns fit.triples) verbs))
      (both_lists (λ e. IsSmall (held_element e)) filters last (small_filters u.filters (recursion_from_All (IsPushed u.patterns) u.filters fit.filters)) (small_check (free_names u b.row.solution))) in (
        ap (λ (h : Held). h.good) (group_held es) ∙ ap (λ (v : Bool). v && are_fresh [] (map held_element es)) (all_small es small) ∙ fresh_branch (free_names u b.row.solution) refl,
        (let most = most_small es small in subst (λ (h : Held). h.nest ≤ 61) (sym (group_held es)) (omega (arith, most))),
      )

-- ---- the whole query

module _ (u : unit.Unit) (rows : List Row) (fit : IsFit u) (terms : AllByRecursion (λ (r : Row). AllByRecursion (λ (e : List ℕ × Term). IsTerm e.1) r.solution) rows) (few : length rows ≤ 64) (short : length (unit_names u) < 2 ^ 64) where
  place_in : (b : Place) → Among b (branches u rows) → Among b (places_from 0 rows)
  place_in b m = (in_kept (is_worth_asking u) b (places_from 0 rows) m).0

  number_low : (b : Place) → Among b (branches u rows) → b.number < 2 ^ 64
  number_low b m = low u rows few short b m

  terms_of : (b : Place) → Among b (branches u rows) → AllByRecursion (λ (e : List ℕ × Term). IsTerm e.1) b.row.solution
  terms_of b m = its_row (λ (r : Row). AllByRecursion (λ (e : List ℕ × Term). IsTerm e.1) r.solution) 0 rows terms b (place_in b m)

  worth : (b : Place) → Among b (branches u rows) → is_worth_asking u b ≡ true
  worth b m = (in_kept (is_worth_asking u) b (places_from 0 rows) m).1

  abbrev AreAsked : List Place → Type 0
  AreAsked bs = (b : Place) → Among b bs → Among b (branches u rows)

  -- -- columns

  columns_once : (b : Place) → b.number < 2 ^ 64 → IsOnce (columns_of u b)
  columns_once b bounded = by (free_names u b.row.solution) (once_kept (λ name. is_none (term_of b.row.solution name)) (unit_names u) (once_fold [] (variables u.patterns) tt)) (λ n m. test_from (unit_names u) n (in_kept (λ name. is_none (term_of b.row.solution name)) n (unit_names u) m).0)
    where
      near : (n : List ℕ) → is_among (unit_names u) n ≡ true → place_of (unit_names u) n < 2 ^ 64
      near n h = let here = place_low (unit_names u) n h in omega (arith, here, short)

      by : (free : List (List ℕ)) → IsOnce free → ((n : List ℕ) → Among n free → is_among (unit_names u) n ≡ true) → IsOnce (columns_by b.number (map (renamed u b.number) free))
      by [] h f = ((λ m. m), tt)
      by (n ∷ ns) h f =
          once_mapped (renamed u b.number) (n ∷ ns)
          (λ x y k m same. place_apart (unit_names u) x y (f x k) (f y m) (sent_apart (place_of (unit_names u) x) b.number (place_of (unit_names u) y) b.number (near x (f x k)) bounded (near y (f y m)) bounded same).0) h

  all_once : (bs : List Place) → IsOnce bs → AreAsked bs → IsOnce (all_columns u bs)
  all_once [] h f = tt
  all_once (b ∷ bs) h f =
      once_append (columns_of u b) (all_columns u bs) (columns_once b (number_low b (f b (inl refl)))) (all_once bs h.1 (λ c m. f c (inr m)))
      (λ column m k. let d = among_from_flat_map (columns_of u) column bs k in clash column d.0 d.1 m d.2)
    where
      clash : (column : List ℕ) (d : Place) → Among d bs → Among column (columns_of u b) → Among column (columns_of u d) → ⊥
      clash column d k m n =
          let here = f b (inl refl) in
          let there = f d (inr k) in
          let same = one_number u short b.number d.number (number_low b here) (number_low d there) column (is_column u short b column m) (is_column u short d column n) in
          let one : b ≡ d = one_place 0 rows b d (place_in b here) (place_in d there) same in
          h.0 (subst (λ (v : Place). Among v bs) (sym one) k)

  all_named : (bs : List Place) → AreAsked bs → AreNames (all_columns u bs)
  all_named [] f = tt
  all_named (b ∷ bs) f =
      let here = f b (inl refl) in
      names_both (columns_of u b) (all_columns u bs) (by (number_low b here) (its_name u short b (number_low b here) (terms_of b here)) (free_names u b.row.solution)) (all_named bs (λ c m. f c (inr m)))
    where
      more : ((n : List ℕ) → IsName (renamed u b.number n)) → (names : List (List ℕ)) → AreNames (map (renamed u b.number) names)
      more g [] = tt
      more g (n ∷ ns) = (g n, more g ns)

      by : b.number < 2 ^ 64 → ((n : List ℕ) → IsName (renamed u b.number n)) → (free : List (List ℕ)) → AreNames (columns_by b.number (map (renamed u b.number) free))
      by bounded g [] = ((columns_are_names 0 b.number (omega arith) bounded).check, tt)
      by bounded g (n ∷ ns) = (g n, more g ns)

  some_columns : (bs : List Place) → 0 < length bs → all_columns u bs ≡ [] → ⊥
  some_columns [] h e = omega (arith, h)
  some_columns (b ∷ bs) h e = by (map (renamed u b.number) (free_names u b.row.solution)) e
    where
      by : (cs : List (List ℕ)) → columns_by b.number cs ++ all_columns u bs ≡ [] → ⊥
      by [] e = cc
      by (c ∷ cs) e = cc

  -- -- the union of its branches

  fine_branches : (bs : List Place) → AreAsked bs → AllByRecursion AreFine (map group_words (map (branch_group u) bs))
  fine_branches [] f = tt
  fine_branches (b ∷ bs) f =
      let here = f b (inl refl) in
      (branch_fine u fit short b (number_low b here) (terms_of b here) (worth b here), fine_branches bs (λ c m. f c (inr m)))

  good_branches : (bs : List Place) → AreAsked bs → all_held (map held (map (branch_group u) bs)) ≡ true
  good_branches [] f = refl
  good_branches (b ∷ bs) f =
      let here = f b (inl refl) in
      ap (λ (v : Bool). v && all_held (map held (map (branch_group u) bs))) (branch_held u fit short b (number_low b here) (terms_of b here) (worth b here)).0 ∙ good_branches bs (λ c m. f c (inr m))

  low_branches : (bs : List Place) → AreAsked bs → most_held (map held (map (branch_group u) bs)) ≤ 61
  low_branches [] f = omega arith
  low_branches (b ∷ bs) f =
      let here = f b (inl refl) in
      let nest = (branch_held u fit short b (number_low b here) (terms_of b here) (worth b here)).1 in
      let rest = low_branches bs (λ c m. f c (inr m)) in
      omega (arith, nest, rest)

  union_good : (bs : List Place) → 0 < length bs → AreAsked bs → (held_element (element.Union (map (branch_group u) bs))).good ≡ true
  union_good [] h f = absurd (omega (arith, h))
  union_good (b ∷ bs) h f = ap (λ (v : Held). v.good) (union_held (map (branch_group u) (b ∷ bs))) ∙ good_branches (b ∷ bs) f

  union_low : (bs : List Place) → AreAsked bs → (held_element (element.Union (map (branch_group u) bs))).nest ≤ 61
  union_low bs f = subst (λ (v : Held). v.nest ≤ 61) (sym (union_held (map (branch_group u) bs))) (low_branches bs f)

  -- -- the query

  abbrev asks : List Place → Element
  asks bs = element.Union (map (branch_group u) bs)

  group_fine : (bs : List Place) → AreAsked bs → AreFine (group_words (roll-Group (record { elements = asks bs ∷ [] })))
  group_fine bs f = fine_group (asks bs ∷ []) (subst AreFine (sym (union_words (map (branch_group u) bs))) (fine_separated (map group_words (map (branch_group u) bs)) (fine_branches bs f)), tt)

  group_good : (bs : List Place) → 0 < length bs → AreAsked bs → (held (roll-Group (record { elements = asks bs ∷ [] }))).good ≡ true
  group_good bs h f =
      ap (λ (v : Held). v.good) (group_held (asks bs ∷ []))
      ∙ ap (λ (v : Bool). (v && true) && are_fresh [] (held_element (asks bs) ∷ [])) (union_good bs h f)
      ∙ ap (λ (o : Option (List ℕ)). not_bound [] o && true) (ap (λ (v : Held). v.binds) (union_held (map (branch_group u) bs)))

  group_low : (bs : List Place) → AreAsked bs → (held (roll-Group (record { elements = asks bs ∷ [] }))).nest ≤ 62
  group_low bs f = let most = union_low bs f in subst (λ (v : Held). v.nest ≤ 62) (sym (group_held (asks bs ∷ []))) (omega (arith, most))

  query_fine : (bs : List Place) → AreAsked bs → AreFine (query_words (batch_query u bs))
  unfolding query_words form_words order_words
  query_fine bs f =
      let group = group_words (roll-Group (record { elements = asks bs ∷ [] })) in
      fine_both (form_words (form.Select false (all_columns u bs))) (group ++ [])
      (inr (inl refl), fine_both (column_words (all_columns u bs)) (fixed (codes "WHERE") ∷ []) (fine_columns (all_columns u bs) (all_named bs f)) (inr (inl refl), tt))
      (fine_both group [] (group_fine bs f) tt)

  accepted : 0 < length (branches u rows) → Accepted (printed_query (batch_query u (branches u rows))) (batch_query u (branches u rows))
  accepted asked =
      let bs = branches u rows in
      let all : AreAsked bs = λ b m. m in
      let nest = group_low bs all in
      let once_each : IsOnce bs = once_kept (is_worth_asking u) (places_from 0 rows) (places_once 0 rows) in
      printed_is_accepted (batch_query u bs)
      (record {
        words = query_fine bs all;
        form = (once_as_it_is (all_columns u bs) (all_once bs once_each all), λ e. absurd (some_columns bs asked e));
        group = group_good bs asked all;
        order = refl;
        inline = refl;
      })
      (omega (arith, nest))

row_terms : (rows : List Row) → All (λ (r : Row). HasTerms r.solution) rows → AllByRecursion (λ (r : Row). AllByRecursion (λ (e : List ℕ × Term). IsTerm e.1) r.solution) rows
row_terms rows h = each rows (recursion_from_All (λ (r : Row). HasTerms r.solution) rows h)
  where
    each : (rs : List Row) → AllByRecursion (λ (r : Row). HasTerms r.solution) rs → AllByRecursion (λ (r : Row). AllByRecursion (λ (e : List ℕ × Term). IsTerm e.1) r.solution) rs
    each [] k = tt
    each (r ∷ rs) k = (recursion_from_All (λ (e : List ℕ × Term). IsTerm e.1) r.solution k.0, each rs k.1)

pub batch_is_accepted : BatchIsAccepted
batch_is_accepted u rows fit terms few short asked = accepted u rows fit (row_terms rows terms) few short asked

-- ---- the words of the whole

flat_words : (xs ys : List Element) → flat_map (λ words. words) (map element_words (xs ++ ys)) ≡ flat_map (λ words. words) (map element_words xs) ++ flat_map (λ words. words) (map element_words ys)
flat_words [] ys = refl
flat_words (x ∷ xs) ys =
    ap (λ (v : List Word). element_words x ++ v) (flat_words xs ys) ∙ sym (append_assoc (element_words x) (flat_map (λ words. words) (map element_words xs)) (flat_map (λ words. words) (map element_words ys)))

module _ (u : unit.Unit) where
  triples_in_words : (b : Place) (ps : List Pattern)
      → flat_map (λ words. words) (map element_words (map (λ p. element.Triple (bound_pattern (renamed u b.number) b.row.solution p)) ps)) ≡ flat_map (λ p. pattern_words (bound_pattern (renamed u b.number) b.row.solution p)) ps
  triples_in_words b [] = refl
  triples_in_words b (p ∷ ps) =
      ap (λ (v : List Word). v ++ flat_map (λ words. words) (map element_words (map (λ q. element.Triple (bound_pattern (renamed u b.number) b.row.solution q)) ps))) (triple_words (bound_pattern (renamed u b.number) b.row.solution p))
      ∙ ap (λ (v : List Word). pattern_words (bound_pattern (renamed u b.number) b.row.solution p) ++ v) (triples_in_words b ps)

  filters_in_words : (b : Place) (es : List Expr)
      → flat_map (λ words. words) (map element_words (map (λ e. element.Filter (bound_expr (renamed u b.number) b.row.solution e)) es))
      ≡ flat_map (λ e. fixed (codes "FILTER") ∷ map (bound_word (renamed u b.number) b.row.solution) (condition (printed e))) es
  filters_in_words b [] = refl
  filters_in_words b (e ∷ es) =
      let x = bound_expr (renamed u b.number) b.row.solution e in
      ap (λ (v : List Word). v ++ flat_map (λ words. words) (map element_words (map (λ q. element.Filter (bound_expr (renamed u b.number) b.row.solution q)) es)))
      (filter_words x ∙ ap (λ (v : List Word). fixed (codes "FILTER") ∷ v) (bound_has_the_words (renamed u b.number) b.row.solution e))
      ∙ ap (λ (v : List Word). (fixed (codes "FILTER") ∷ map (bound_word (renamed u b.number) b.row.solution) (condition (printed e))) ++ v) (filters_in_words b es)

  check_in_words : (b : Place) (free : List (List ℕ)) → flat_map (λ words. words) (map element_words (check_elements b.number free)) ≡ check_words b.number free
  check_in_words b [] = ap (λ (v : List Word). v ++ []) (bind_words (integer (pos 1)) (check_name b.number))
  check_in_words b (n ∷ ns) = refl

  branch_in_words : (b : Place) → group_words (branch_group u b) ≡ branch_words u b
  branch_in_words b =
      let triples = map (λ p. element.Triple (bound_pattern (renamed u b.number) b.row.solution p)) u.patterns in
      let filters = map (λ e. element.Filter (bound_expr (renamed u b.number) b.row.solution e)) u.filters in
      let last = check_elements b.number (free_names u b.row.solution) in
      let inner : flat_map (λ words. words) (map element_words (triples ++ (filters ++ last)))
      ≡ flat_map (λ p. pattern_words (bound_pattern (renamed u b.number) b.row.solution p)) u.patterns
      ++ (flat_map (λ e. fixed (codes "FILTER") ∷ map (bound_word (renamed u b.number) b.row.solution) (condition (printed e))) u.filters ++ check_words b.number (free_names u b.row.solution)) =
      flat_words triples (filters ++ last)
      ∙ ap (λ (v : List Word). v ++ flat_map (λ words. words) (map element_words (filters ++ last))) (triples_in_words b u.patterns)
      ∙ ap (λ (v : List Word). flat_map (λ p. pattern_words (bound_pattern (renamed u b.number) b.row.solution p)) u.patterns ++ v)
      (flat_words filters last ∙ ap (λ (v : List Word). v ++ flat_map (λ words. words) (map element_words last)) (filters_in_words b u.filters)
      ∙ ap (λ (v : List Word). flat_map (λ e. fixed (codes "FILTER") ∷ map (bound_word (renamed u b.number) b.row.solution) (condition (printed e))) u.filters ++ v) (check_in_words b (free_names u b.row.solution))) in
      fold-roll-Group (List Word) (List Word) element_step group_step (record { elements = branch_elements u b })
      ∙ ap (λ (v : List Word). fixed (codes "{") ∷ (v ++ fixed (codes "}") ∷ [])) inner

  branches_in_words : (bs : List Place) → map group_words (map (branch_group u) bs) ≡ map (branch_words u) bs
  branches_in_words [] = refl
  branches_in_words (b ∷ bs) = ap (λ (v : List Word). v ∷ map group_words (map (branch_group u) bs)) (branch_in_words b) ∙ ap (λ (v : List (List Word)). branch_words u b ∷ v) (branches_in_words bs)

  union_in_words : (bs : List Place) → group_words (roll-Group (record { elements = element.Union (map (branch_group u) bs) ∷ [] })) ≡ fixed (codes "{") ∷ (separated (fixed (codes "UNION")) (map (branch_words u) bs) ++ fixed (codes "}") ∷ [])
  union_in_words bs =
      fold-roll-Group (List Word) (List Word) element_step group_step (record { elements = element.Union (map (branch_group u) bs) ∷ [] })
      ∙ ap (λ (v : List Word). fixed (codes "{") ∷ ((v ++ []) ++ fixed (codes "}") ∷ [])) (union_words (map (branch_group u) bs) ∙ ap (separated (fixed (codes "UNION"))) (branches_in_words bs))
      ∙ ap (λ (v : List Word). fixed (codes "{") ∷ (v ++ fixed (codes "}") ∷ [])) (append-nil (separated (fixed (codes "UNION")) (map (branch_words u) bs)))

pub batch_has_the_words : BatchHasTheWords
unfolding query_words form_words order_words
batch_has_the_words u bs =
    let group = group_words (roll-Group (record { elements = element.Union (map (branch_group u) bs) ∷ [] })) in
    ap (λ (v : List Word). (fixed (codes "SELECT") ∷ (column_words (all_columns u bs) ++ fixed (codes "WHERE") ∷ [])) ++ v) (append-nil group ∙ union_in_words u bs)
    ∙ ap (λ (v : List Word). fixed (codes "SELECT") ∷ v)
    (append_assoc (column_words (all_columns u bs)) (fixed (codes "WHERE") ∷ []) (fixed (codes "{") ∷ (separated (fixed (codes "UNION")) (map (branch_words u) bs) ++ fixed (codes "}") ∷ [])))
