-- The printed query of a block is accepted as that query.
use Rattle.std.proofs.Common.{◌≡◌, ◌∙◌, ap, sym, subst, refl, inl, inr, ◌⊎◌, ℕ, zero, suc, ◌<◌, ◌≤◌, ◌^◌, Bool, true, false, not, ◌&&◌, cond, List, [], ◌∷◌, ◌++◌, map, fold, get_or, length, codes, Option, Some, None, arith, append-nil, append_assoc}
use Rattle.std.specs.Prelude.{All, ◌==◌, nat_le, pos}
use Rattle.std.specs.Fmt.{signed_decimal}
use Rattle.std.specs.List.{AllByRecursion, flat_map, list_all}
use Rattle.std.specs.Ordering.{is_eq}
use Rattle.std.proofs.lemmas.Bool.{and_parts}
use Rattle.std.proofs.lemmas.Bool.Decides.{nat_tests}
use Rattle.std.proofs.lemmas.Fmt.{IsAscii-decimal}
use Rattle.std.proofs.lemmas.List.{length-map}
use Rattle.std.proofs.lemmas.List.Elements.{recursion_from_All}
use Rattle.std.proofs.lemmas.Str.{IsUtf8-from_ascii}
use Rattle.fx_terms.specs.Datatypes.{xsd_integer}
use Rattle.fx_terms.specs.Iris.{IsIri}
use Rattle.fx_terms.specs.Names.{IsName}
use Rattle.fx_terms.specs.Terms.{IsTerm}
use Rattle.fx_terms.specs.Texts.{text_cmp}
use Rattle.fx_terms.specs.declared.terms.Term.{Term}
use Rattle.fx_terms.specs.declared.patterns.Pattern.{Pattern}
use Rattle.fx_terms.specs.declared.patterns.PatternTerm.{PatternTerm}
use Rattle.fx_terms.specs.declared.patterns.PatternTerm.TheVariants.{Variable, Constant}
use Rattle.fx_terms.proofs.SetLemmas.{Among}
use Rattle.fx_algebra.specs.Measures.{condition_nest, measured}
use Rattle.fx_algebra.specs.Printed.{Word, fixed, variable, term, number, block, column_words, condition, element_step, element_words, form_words, group_step, group_words, in_brackets, order_words, pattern_words, printed, printed_query, query_words, row_words, value_word}
use Rattle.fx_algebra.specs.Scopes.{is_among, with_name}
use Rattle.fx_algebra.specs.Solutions.{Bindings, term_of}
use Rattle.fx_algebra.specs.Units.{calls_bound, expr_names, is_empty, is_pushable}
use Rattle.fx_algebra.specs.Values.{integer}
use Rattle.fx_algebra.specs.declared.expressions.Expr.{Expr}
use Rattle.fx_algebra.specs.declared.queries.Element.{Element, Element-F, fold-roll-Element}
use Rattle.fx_algebra.specs.declared.queries.Element.TheVariants as element
use Rattle.fx_algebra.specs.declared.queries.Form.TheVariants as form
use Rattle.fx_algebra.specs.declared.queries.Group.{fold-roll-Group, roll-Group}
use Rattle.fx_algebra.specs.declared.queries.Inline.{Inline}
use Rattle.fx_algebra.specs.declared.units.Row.{Row}
use Rattle.fx_algebra.specs.declared.units.Unit as unit
use Rattle.fx_algebra.proofs.MemberLemmas.{IsOnce, among_cases, among_from_map}
use Rattle.fx_grammar.specs.Accepted.{Accepted}
use Rattle.fx_spelling.specs.Printable.{AreFine, AreNames, Held, IsFine, IsPart, IsTriple, IsVerb, all_held, are_fresh, are_new, are_wide, held, held_element, hold_element, hold_group, is_block, most_held, not_bound}
use Rattle.fx_spelling.specs.Units.{IsFit, IsPushed}
use Rattle.fx_spelling.proofs.Columns.{fine_columns, fine_names}
use Rattle.fx_spelling.proofs.Queries.{printed_is_accepted}
use Rattle.fx_spelling.proofs.Saying.{fine_both}
use Rattle.fx_spelling.proofs.Terms.{fine_triple, verb_good}
use Rattle.fx_renaming.specs.Branches.{bound_expr, bound_part, bound_pattern, bound_word}
use Rattle.fx_renaming.proofs.MeasureLemmas.{bound_keeps_the_measure}
use Rattle.fx_renaming.proofs.WordLemmas.{bound_has_the_words}
use Rattle.fx_founds.specs.Uniting.{Place, branches, is_worth_asking, places_from}
use Rattle.fx_founds.proofs.UnionLemmas.{in_kept, once_mapped}
use Rattle.fx_founds.proofs.UniteLemmas.{its_row}
use Rattle.fx_values.specs.Texts.{HasTerms, ValuesHaveTheWords, ValuesIsAccepted, unit_words}
use Rattle.fx_values.specs.Values as values
use Rattle.fx_values.specs.Values.{cells, columns, elements, number_name, place_of, renamed, sent_name, unit_names, values_query}
use Rattle.fx_values.proofs.NamingLemmas.{among_from_test, one_name, place_near, sent_is_no_number, test_from}
use Rattle.fx_values.proofs.ReadingLemmas.{low}
use Rattle.fx_values.proofs.TellingLemmas.{names_once}
use Rattle.fx_values.proofs.TextNames.{number_is_name, sent_is_name}

-- ---- terms

found_term : (s : Bindings) (name : List ℕ) (t : Term) → AllByRecursion (λ (e : List ℕ × Term). IsTerm e.1) s → term_of s name ≡ Some t → IsTerm t
found_term [] name t h e = absurd (cc)
found_term (p ∷ ps) name t h e = by (is_eq (text_cmp name p.0)) e (found_term ps name t h.1)
  where
    by : (b : Bool) → cond b (Some p.1) (term_of ps name) ≡ Some t → (term_of ps name ≡ Some t → IsTerm t) → IsTerm t
    by true k f = let same : p.1 ≡ t = cc in subst IsTerm same h.0
    by false k f = f k

below : (c : ℕ) → nat_le c 127 ≡ true → c < 128
below c h = grind (arith, nat_tests)

all_ascii : (text : List ℕ) → list_all (λ c. nat_le c 127) text ≡ true → (i : ℕ) → get_or text i 0 < 128
all_ascii [] h i = omega arith
all_ascii (c ∷ cs) h zero = below c (and_parts (nat_le c 127) (list_all (λ d. nat_le d 127) cs) h).0
all_ascii (c ∷ cs) h (suc i) = all_ascii cs (and_parts (nat_le c 127) (list_all (λ d. nat_le d 127) cs) h).1 i

integer_iri : IsIri xsd_integer
integer_iri = record { utf8 = IsUtf8-from_ascii xsd_integer (all_ascii xsd_integer refl); iri = refl }

number_term : (n : ℕ) → n < 2 ^ 64 → IsTerm (integer (pos n))
unfolding integer
number_term n low = record { form = IsUtf8-from_ascii (signed_decimal (pos n)) (IsAscii-decimal n low); datatype = integer_iri; fits = refl; tag = λ h. absurd (omega (arith, h)) }

-- ---- the words of elements

abbrev FineElement : Element → Type 0
FineElement e = AreFine (element_words e)

triple_words : (p : Pattern) → element_words (element.Triple p) ≡ pattern_words p
triple_words p = ap element_words (sym (element.rolls-Triple p)) ∙ fold-roll-Element (List Word) (List Word) element_step group_step (Element-F.Triple p)

filter_words : (e : Expr) → element_words (element.Filter e) ≡ fixed (codes "FILTER") ∷ condition (printed e)
filter_words e = ap element_words (sym (element.rolls-Filter e)) ∙ fold-roll-Element (List Word) (List Word) element_step group_step (Element-F.Filter e)

values_in_words : (inline : Inline) → element_words (element.Values inline) ≡ fixed (codes "VALUES") ∷ block inline
values_in_words inline = ap element_words (sym (element.rolls-Values inline)) ∙ fold-roll-Element (List Word) (List Word) element_step group_step (Element-F.Values inline)

fine_elements : (es : List Element) → AllByRecursion FineElement es → AreFine (flat_map (λ words. words) (map element_words es))
fine_elements [] h = tt
fine_elements (e ∷ es) h = fine_both (element_words e) (flat_map (λ words. words) (map element_words es)) h.0 (fine_elements es h.1)

both_lists : {X : Type 0} (P : X → Type 0) (xs ys : List X) → AllByRecursion P xs → AllByRecursion P ys → AllByRecursion P (xs ++ ys)
both_lists P [] ys h k = k
both_lists P (x ∷ xs) ys h k = (h.0, both_lists P xs ys h.1 k)

fine_group : (es : List Element) → AllByRecursion FineElement es → AreFine (group_words (roll-Group (record { elements = es })))
fine_group es h =
    subst AreFine (sym (fold-roll-Group (List Word) (List Word) element_step group_step (record { elements = es })))
    (inl refl, fine_both (flat_map (λ words. words) (map element_words es)) (fixed (codes "}") ∷ []) (fine_elements es h) (inl refl, tt))

-- ---- the words of a block

IsCell : Option Term → Type 0
IsCell None = Unit {0}
IsCell (Some t) = IsTerm t

fine_cells : (row : List (Option Term)) → AllByRecursion IsCell row → AreFine (map value_word row)
unfolding IsCell
fine_cells [] h = tt
fine_cells (o ∷ row) h = (one o h.0, fine_cells row h.1)
  where
    one : (o : Option Term) → IsCell o → IsFine (value_word o)
    one None k = inr (inl refl)
    one (Some t) k = k

fine_brackets : (ws : List Word) → AreFine ws → AreFine (in_brackets ws)
fine_brackets ws h = (inl refl, fine_both ws (fixed (codes ")") ∷ []) h (inl refl, tt))

fine_rows : (rows : List (List (Option Term))) → AllByRecursion (AllByRecursion IsCell) rows → AreFine (flat_map row_words rows)
fine_rows [] h = tt
fine_rows (row ∷ rows) h = fine_both (row_words row) (flat_map row_words rows) (fine_brackets (map value_word row) (fine_cells row h.0)) (fine_rows rows h.1)

fine_block : (inline : Inline) → AreNames inline.columns → AllByRecursion (AllByRecursion IsCell) inline.rows → AreFine (block inline)
unfolding block
fine_block inline names rows =
    fine_both (in_brackets (map (λ n. variable n) inline.columns)) (fixed (codes "{") ∷ (flat_map row_words inline.rows ++ fixed (codes "}") ∷ []))
    (fine_brackets (map (λ n. variable n) inline.columns) (fine_names inline.columns names))
    (inl refl, fine_both (flat_map row_words inline.rows) (fixed (codes "}") ∷ []) (fine_rows inline.rows rows) (inl refl, tt))

-- ---- what elements hold

triple_held : (p : Pattern) → held_element (element.Triple p) ≡ hold_element (Element-F.Triple p)
triple_held p = ap held_element (sym (element.rolls-Triple p)) ∙ fold-roll-Element Held Held hold_element hold_group (Element-F.Triple p)

filter_held : (e : Expr) → held_element (element.Filter e) ≡ hold_element (Element-F.Filter e)
filter_held e = ap held_element (sym (element.rolls-Filter e)) ∙ fold-roll-Element Held Held hold_element hold_group (Element-F.Filter e)

block_held : (inline : Inline) → held_element (element.Values inline) ≡ hold_element (Element-F.Values inline)
block_held inline = ap held_element (sym (element.rolls-Values inline)) ∙ fold-roll-Element Held Held hold_element hold_group (Element-F.Values inline)

group_held : (es : List Element) → held (roll-Group (record { elements = es })) ≡ hold_group (record { elements = map held_element es })
group_held es = fold-roll-Group Held Held hold_element hold_group (record { elements = es })

-- an element that the grammar has, in which at most 60 brackets are open, and which isn't a BIND
record IsSmall (h : Held) : Type 0 where
  good : h.good ≡ true
  nest : h.nest ≤ 60
  still : h.binds ≡ None

all_small : (es : List Element) → AllByRecursion (λ e. IsSmall (held_element e)) es → all_held (map held_element es) ≡ true
all_small [] h = refl
all_small (e ∷ es) h = ap (λ (b : Bool). b && all_held (map held_element es)) h.0.good ∙ all_small es h.1

most_small : (es : List Element) → AllByRecursion (λ e. IsSmall (held_element e)) es → most_held (map held_element es) ≤ 60
most_small [] h = omega arith
most_small (e ∷ es) h = let rest = most_small es h.1 in let here = h.0.nest in omega (arith, rest, here)

fresh_none : (names : List (List ℕ)) (es : List Element) → AllByRecursion (λ e. IsSmall (held_element e)) es → are_fresh names (map held_element es) ≡ true
fresh_none names [] h = refl
fresh_none names (e ∷ es) h =
    ap (λ (o : Option (List ℕ)). not_bound names o && are_fresh (fold with_name names (held_element e).names) (map held_element es)) h.0.still
    ∙ fresh_none (fold with_name names (held_element e).names) es h.1

-- ---- a list of names of which each stands once

not_among : (names : List (List ℕ)) (n : List ℕ) → (Among n names → ⊥) → is_among names n ≡ false
not_among names n h = by (is_among names n) refl
  where
    by : (b : Bool) → is_among names n ≡ b → is_among names n ≡ false
    by true e = absurd (h (among_from_test names n e))
    by false e = e

apart_from : (front : List (List ℕ)) (n : List ℕ) (ns : List (List ℕ)) → (Among n ns → ⊥) → ((x : List ℕ) → Among x front → Among x (n ∷ ns) → ⊥) → (x : List ℕ) → Among x (front ++ n ∷ []) → Among x ns → ⊥
apart_from front n ns new apart x a b = split (among_cases x front (n ∷ []) a)
  where
    split : Among x front ⊎ Among x (n ∷ []) → ⊥
    split (inl k) = apart x k (inr b)
    split (inr (inl e)) = new (subst (λ (v : List ℕ). Among v ns) (sym e) b)
    split (inr (inr k)) = k

fold_new : (front names : List (List ℕ)) → IsOnce names → ((n : List ℕ) → Among n front → Among n names → ⊥) → fold with_name front names ≡ front ++ names
unfolding with_name
fold_new front [] h apart = sym (append-nil front)
fold_new front (n ∷ ns) h apart =
    ap (λ (b : Bool). fold with_name (cond b front (front ++ n ∷ [])) ns) (not_among front n (λ m. apart n m (inl refl)))
    ∙ fold_new (front ++ n ∷ []) ns h.1 (apart_from front n ns h.0 apart)
    ∙ append_assoc front (n ∷ []) ns

all_new : (front names : List (List ℕ)) → IsOnce names → ((n : List ℕ) → Among n front → Among n names → ⊥) → are_new front names ≡ true
all_new front [] h apart = refl
all_new front (n ∷ ns) h apart =
    ap (λ (b : Bool). not b && are_new (front ++ n ∷ []) ns) (not_among front n (λ m. apart n m (inl refl)))
    ∙ all_new (front ++ n ∷ []) ns h.1 (apart_from front n ns h.0 apart)

itself : (n : ℕ) → (n == n) ≡ true
itself n = grind (arith, nat_tests)

-- ---- the query of a unit

module _ (u : unit.Unit) (fit : IsFit u) (short : length (unit_names u) < 2 ^ 64) where
  its_name : (n : List ℕ) → IsName (renamed u n)
  its_name n = let near = place_near (unit_names u) n in sent_is_name (place_of (unit_names u) n) (omega (arith, near, short))

  -- -- columns

  columns_once : IsOnce (columns u)
  columns_once = (
    (λ m. let a = among_from_map (renamed u) number_name (unit_names u) m in sent_is_no_number (place_of (unit_names u) a.0) a.2),
    once_mapped (renamed u) (unit_names u) (λ x y k m same. one_name u short x y (test_from (unit_names u) x k) (test_from (unit_names u) y m) same) (names_once u),
  )

  columns_named : AreNames (columns u)
  columns_named = (number_is_name, more (unit_names u))
    where
      more : (names : List (List ℕ)) → AreNames (map (renamed u) names)
      more [] = tt
      more (n ∷ ns) = (its_name n, more ns)

  -- -- patterns

  a_part : (part : PatternTerm) → IsPart part → IsPart (bound_part (renamed u) [] part)
  a_part (Constant t) h = h
  a_part (Variable n) h = its_name n

  a_verb : (part : PatternTerm) → IsVerb part → IsVerb (bound_part (renamed u) [] part)
  a_verb (Constant t) h = h
  a_verb (Variable n) h = its_name n

  a_triple : (p : Pattern) → IsTriple p → IsTriple (bound_pattern (renamed u) [] p)
  a_triple p h = record { subject = a_part p.subject h.subject; predicate = a_verb p.predicate h.predicate; object = a_part p.object h.object }

  abbrev triples : List Element
  triples = map (λ p. element.Triple (bound_pattern (renamed u) [] p)) u.patterns

  abbrev filters : List Element
  filters = map (λ e. element.Filter (bound_expr (renamed u) [] e)) u.filters

  fine_triples : (ps : List Pattern) → AllByRecursion IsTriple ps → AllByRecursion FineElement (map (λ p. element.Triple (bound_pattern (renamed u) [] p)) ps)
  fine_triples [] h = tt
  fine_triples (p ∷ ps) h = let q = bound_pattern (renamed u) [] p in (subst AreFine (sym (triple_words q)) (fine_triple q (a_triple p h.0)), fine_triples ps h.1)

  small_triples : (ps : List Pattern) → AllByRecursion IsTriple ps → AllByRecursion (λ e. IsSmall (held_element e)) (map (λ p. element.Triple (bound_pattern (renamed u) [] p)) ps)
  small_triples [] h = tt
  small_triples (p ∷ ps) h =
      let q = bound_pattern (renamed u) [] p in
      (subst IsSmall (sym (triple_held q)) (record { good = verb_good q.predicate (a_triple p h.0).predicate; nest = omega arith; still = refl }), small_triples ps h.1)

  -- -- filters

  fine_words : (ws : List Word) → AreFine ws → AreFine (map (bound_word (renamed u) []) ws)
  fine_words [] h = tt
  fine_words (w ∷ ws) h = (one w h.0, fine_words ws h.1)
    where
      one : (v : Word) → IsFine v → IsFine (bound_word (renamed u) [] v)
      one (variable n) k = its_name n
      one (fixed text) k = k
      one (term t) k = k
      one (number n) k = k

  fine_filters : (es : List Expr) → AllByRecursion (IsPushed u.patterns) es → AllByRecursion FineElement (map (λ e. element.Filter (bound_expr (renamed u) [] e)) es)
  fine_filters [] h = tt
  fine_filters (e ∷ es) h =
      let x = bound_expr (renamed u) [] e in
      (subst AreFine (sym (filter_words x)) (inr (inl refl), subst AreFine (sym (bound_has_the_words (renamed u) [] e)) (fine_words (condition (printed e)) h.0.words)), fine_filters es h.1)

  of_pushable : (e : Expr) → is_pushable e ≡ true → (calls_bound e ≡ false) × (condition_nest (measured e) ≤ 60)
  of_pushable e h =
      let k = and_parts (not (calls_bound e)) (nat_le (condition_nest (measured e)) 60) (and_parts (not (is_empty (expr_names e))) (not (calls_bound e) && nat_le (condition_nest (measured e)) 60) h).1 in
      (turned (calls_bound e) k.0, low_enough (condition_nest (measured e)) k.1)
    where
      turned : (v : Bool) → not v ≡ true → v ≡ false
      turned true h = cc
      turned false h = refl

      low_enough : (n : ℕ) → nat_le n 60 ≡ true → n ≤ 60
      low_enough n h = grind (arith, nat_tests)

  small_filters : (es : List Expr) → AllByRecursion (IsPushed u.patterns) es → AllByRecursion (λ e. IsSmall (held_element e)) (map (λ e. element.Filter (bound_expr (renamed u) [] e)) es)
  small_filters [] h = tt
  small_filters (e ∷ es) h =
      let x = bound_expr (renamed u) [] e in
      let k = of_pushable e h.0.pushable in
      let same = bound_keeps_the_measure (renamed u) [] e k.0 in
      (subst IsSmall (sym (filter_held x)) (record { good = same.good ∙ h.0.good; nest = subst (λ (n : ℕ). n ≤ 60) (sym same.nest) k.1; still = refl }), small_filters es h.1)

  -- -- the block

  wide_cells : (names : List (List ℕ)) (s : Bindings) → length (map (term_of s) names) ≡ length (map (renamed u) names)
  wide_cells names s = length-map names (term_of s) ∙ sym (length-map names (renamed u))

  wide_rows : (bs : List Place) → are_wide (length (columns u)) (map (cells u) bs) ≡ true
  wide_rows [] = refl
  wide_rows (b ∷ bs) =
      ap (λ (n : ℕ). (suc n == length (columns u)) && are_wide (length (columns u)) (map (cells u) bs)) (wide_cells (unit_names u) b.row.solution)
      ∙ ap (λ (v : Bool). v && are_wide (length (columns u)) (map (cells u) bs)) (itself (length (columns u)))
      ∙ wide_rows bs

  good_block : (bs : List Place) → is_block (values.block u bs) ≡ true
  good_block bs = ap (λ (v : Bool). v && are_wide (length (columns u)) (map (cells u) bs)) (all_new [] (columns u) columns_once (λ n m k. m)) ∙ wide_rows bs

  small_block : (bs : List Place) → IsSmall (held_element (element.Values (values.block u bs)))
  small_block bs = subst IsSmall (sym (block_held (values.block u bs))) (record { good = good_block bs; nest = by (map (cells u) bs); still = refl })
    where
      by : (rows : List (List (Option Term))) → (hold_element (Element-F.Values (record { columns = columns u; rows = rows }))).nest ≤ 60
      by [] = omega arith
      by (r ∷ rs) = omega arith

  module _ (rows : List Row) (terms : AllByRecursion (λ (r : Row). AllByRecursion (λ (e : List ℕ × Term). IsTerm e.1) r.solution) rows) (few : length rows ≤ 64) where
    cells_known : (b : Place) → Among b (branches u rows) → AllByRecursion IsCell (cells u b)
    unfolding IsCell
    cells_known b m = (number_term b.number (low u rows few short b m), each (unit_names u))
      where
        its : AllByRecursion (λ (e : List ℕ × Term). IsTerm e.1) b.row.solution
        its = its_row (λ (r : Row). AllByRecursion (λ (e : List ℕ × Term). IsTerm e.1) r.solution) 0 rows terms b (in_kept (is_worth_asking u) b (places_from 0 rows) m).0

        one : (n : List ℕ) (o : Option Term) → term_of b.row.solution n ≡ o → IsCell o
        one n None e = tt
        one n (Some t) e = found_term b.row.solution n t its e

        each : (names : List (List ℕ)) → AllByRecursion IsCell (map (term_of b.row.solution) names)
        each [] = tt
        each (n ∷ ns) = (one n (term_of b.row.solution n) refl, each ns)

    rows_known : (bs : List Place) → ((b : Place) → Among b bs → Among b (branches u rows)) → AllByRecursion (AllByRecursion IsCell) (map (cells u) bs)
    rows_known [] f = tt
    rows_known (b ∷ bs) f = (cells_known b (f b (inl refl)), rows_known bs (λ c m. f c (inr m)))

    abbrev bs : List Place
    bs = branches u rows

    all_fine : AllByRecursion FineElement (elements u bs)
    all_fine = (
      subst AreFine (sym (values_in_words (values.block u bs))) (inr (inl refl), fine_block (values.block u bs) columns_named (rows_known bs (λ b m. m))),
      both_lists FineElement triples filters (fine_triples u.patterns (recursion_from_All IsTriple u.patterns fit.triples)) (fine_filters u.filters (recursion_from_All (IsPushed u.patterns) u.filters fit.filters)),
    )

    all_are_small : AllByRecursion (λ e. IsSmall (held_element e)) (elements u bs)
    all_are_small = (
      small_block bs,
      both_lists (λ e. IsSmall (held_element e)) triples filters (small_triples u.patterns (recursion_from_All IsTriple u.patterns fit.triples)) (small_filters u.filters (recursion_from_All (IsPushed u.patterns) u.filters fit.filters)),
    )

    group_good : (held (roll-Group (record { elements = elements u bs }))).good ≡ true
    group_good =
        ap (λ (h : Held). h.good) (group_held (elements u bs))
        ∙ ap (λ (v : Bool). v && are_fresh [] (map held_element (elements u bs))) (all_small (elements u bs) all_are_small)
        ∙ fresh_none [] (elements u bs) all_are_small

    group_low : (held (roll-Group (record { elements = elements u bs }))).nest ≤ 61
    group_low = let most = most_small (elements u bs) all_are_small in subst (λ (h : Held). h.nest ≤ 61) (sym (group_held (elements u bs))) (omega (arith, most))

    query_fine : AreFine (query_words (values_query u bs))
    unfolding query_words form_words order_words
    query_fine =
        let group = group_words (roll-Group (record { elements = elements u bs })) in
        fine_both (form_words (form.Select false (columns u))) (group ++ [])
        (inr (inl refl), fine_both (column_words (columns u)) (fixed (codes "WHERE") ∷ []) (fine_columns (columns u) columns_named) (inr (inl refl), tt))
        (fine_both group [] (fine_group (elements u bs) all_fine) tt)

    no_columns : columns u ≡ [] → ⊥
    no_columns e = cc

    accepted : Accepted (printed_query (values_query u bs)) (values_query u bs)
    accepted =
        let nest = group_low in
        printed_is_accepted (values_query u bs)
        (record {
          words = query_fine;
          form = (fold_new [] (columns u) columns_once (λ n m k. m), λ e. absurd (no_columns e));
          group = group_good;
          order = refl;
          inline = refl;
        })
        (omega (arith, nest))

row_terms : (rows : List Row) → All (λ (r : Row). HasTerms r.solution) rows → AllByRecursion (λ (r : Row). AllByRecursion (λ (e : List ℕ × Term). IsTerm e.1) r.solution) rows
row_terms rows h = each rows (recursion_from_All (λ (r : Row). HasTerms r.solution) rows h)
  where
    each : (rs : List Row) → AllByRecursion (λ (r : Row). HasTerms r.solution) rs → AllByRecursion (λ (r : Row). AllByRecursion (λ (e : List ℕ × Term). IsTerm e.1) r.solution) rs
    each [] k = tt
    each (r ∷ rs) k = (recursion_from_All (λ (e : List ℕ × Term). IsTerm e.1) r.solution k.0, each rs k.1)

pub values_is_accepted : ValuesIsAccepted
values_is_accepted u rows fit terms few short = accepted u fit short rows (row_terms rows terms) few

-- ---- the words of the whole

flat_words : (xs ys : List Element) → flat_map (λ words. words) (map element_words (xs ++ ys)) ≡ flat_map (λ words. words) (map element_words xs) ++ flat_map (λ words. words) (map element_words ys)
flat_words [] ys = refl
flat_words (x ∷ xs) ys =
    ap (λ (v : List Word). element_words x ++ v) (flat_words xs ys) ∙ sym (append_assoc (element_words x) (flat_map (λ words. words) (map element_words xs)) (flat_map (λ words. words) (map element_words ys)))

triples_in_words : (f : Pattern → Pattern) (ps : List Pattern) → flat_map (λ words. words) (map element_words (map (λ p. element.Triple (f p)) ps)) ≡ flat_map (λ p. pattern_words (f p)) ps
triples_in_words f [] = refl
triples_in_words f (p ∷ ps) = λ i. triple_words (f p) i ++ triples_in_words f ps i

filters_in_words : (f : Expr → Expr) (es : List Expr) → flat_map (λ words. words) (map element_words (map (λ e. element.Filter (f e)) es)) ≡ flat_map (λ e. fixed (codes "FILTER") ∷ condition (printed (f e))) es
filters_in_words f [] = refl
filters_in_words f (e ∷ es) = λ i. filter_words (f e) i ++ filters_in_words f es i

pub values_have_the_words : ValuesHaveTheWords
unfolding block query_words form_words order_words
values_have_the_words u bs =
    let group = group_words (roll-Group (record { elements = elements u bs })) in
    let triples = map (λ p. element.Triple (bound_pattern (renamed u) [] p)) u.patterns in
    let filters = map (λ e. element.Filter (bound_expr (renamed u) [] e)) u.filters in
    let behind : flat_map (λ words. words) (map element_words (triples ++ filters)) ≡ unit_words (unit_names u) u =
    flat_words triples filters ∙ (λ i. triples_in_words (bound_pattern (renamed u) []) u.patterns i ++ filters_in_words (bound_expr (renamed u) []) u.filters i) in
    let first = block (values.block u bs) in
    let inner : group ≡ fixed (codes "{") ∷ fixed (codes "VALUES") ∷ (first ++ (unit_words (unit_names u) u ++ fixed (codes "}") ∷ [])) =
    fold-roll-Group (List Word) (List Word) element_step group_step (record { elements = elements u bs })
    ∙ (λ i. fixed (codes "{") ∷ ((values_in_words (values.block u bs) i ++ behind i) ++ fixed (codes "}") ∷ []))
    ∙ ap (λ (v : List Word). fixed (codes "{") ∷ fixed (codes "VALUES") ∷ v) (append_assoc first (unit_words (unit_names u) u) (fixed (codes "}") ∷ [])) in
    ap (λ (v : List Word). (fixed (codes "SELECT") ∷ (column_words (columns u) ++ fixed (codes "WHERE") ∷ [])) ++ v) (append-nil group ∙ inner)
    ∙ ap (λ (v : List Word). fixed (codes "SELECT") ∷ v) (append_assoc (column_words (columns u)) (fixed (codes "WHERE") ∷ []) (fixed (codes "{") ∷ fixed (codes "VALUES") ∷ (first ++ (unit_words (unit_names u) u ++ fixed (codes "}") ∷ []))))
