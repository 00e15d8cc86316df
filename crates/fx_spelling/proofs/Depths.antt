-- As many brackets are open at once in the printed text as are counted over the tree.
use Rattle.std.proofs.Common.{◌≡◌, ℕ, suc, ◌+◌, ◌-◌, ◌≤◌, Bool, true, false, cond, List, [], ◌∷◌, ◌++◌, map, Option, Some, None, refl, sym, ap, ◌∙◌, subst, arith, append_assoc, append-nil, max, nat_le}
use Rattle.std.specs.Prelude.{codes, ◌==◌}
use Rattle.std.specs.List.{flat_map}
use Rattle.fx_terms.specs.declared.terms.Term.{Term}
use Rattle.fx_terms.specs.declared.terms.Term.TheVariants.{Iri}
use Rattle.fx_terms.specs.declared.patterns.Pattern.{Pattern}
use Rattle.fx_terms.specs.declared.patterns.PatternTerm.{PatternTerm}
use Rattle.fx_terms.specs.declared.patterns.PatternTerm.TheVariants.{Variable, Constant}
use Rattle.fx_algebra.specs.Printed.{Word, fixed, variable, term, number, Level, rank, Printed, printed, print_step, in_place, in_brackets, marked, separated, chained, listed, comparison, sign, keyword, among, signed, condition, is_call, is_variable, part_word, pattern_words, value_word, row_words, block, silence, element_step, group_step, element_words, group_words, column_words, distinction, form_words, key_words, order_words, limit_words, offset_words, trailing_words, query_words}
use Rattle.fx_algebra.specs.declared.expressions.Expr.{Expr, Expr-F, fold-roll-Expr, map-Expr, ind-Expr, roll-Expr}
use Rattle.fx_algebra.specs.declared.expressions.Compare.{Compare}
use Rattle.fx_algebra.specs.declared.expressions.Compare.TheVariants as compare
use Rattle.fx_algebra.specs.declared.expressions.Sign.{Sign}
use Rattle.fx_algebra.specs.declared.expressions.Sign.TheVariants as signs
use Rattle.fx_algebra.specs.declared.expressions.Function.{Function}
use Rattle.fx_algebra.specs.declared.expressions.Function.TheVariants as function
use Rattle.fx_algebra.specs.declared.queries.Inline.{Inline}
use Rattle.fx_algebra.specs.declared.queries.Element.{Element, Element-F, fold-roll-Element, map-Element, roll-Element}
use Rattle.fx_algebra.specs.declared.queries.Group.{Group, Group-F, roll-Group, fold-roll-Group, map-Group, ind-Group}
use Rattle.fx_algebra.specs.declared.queries.Order.{Order}
use Rattle.fx_algebra.specs.declared.queries.Form.{Form}
use Rattle.fx_algebra.specs.declared.queries.Form.TheVariants as form
use Rattle.fx_algebra.specs.declared.queries.Query.{Query}
use Rattle.fx_algebra.specs.Measures.{Measured, placed, most, most_signed, measure_step, measured, is_some, condition_nest}
use Rattle.fx_spelling.specs.Printable.{is_opening, is_closing, behind_word, deepest, block_nest, Held, most_held, hold_element, hold_group, held, held_element, key_nest, most_keys, inline_nest, brackets, PrintedTextIsAccepted}
use Rattle.fx_spelling.proofs.Expressions.{law}
use Rattle.fx_spelling.proofs.TakenQueries.{spellable_is_accepted}

-- so many more brackets than before are open in the words at some place, and none behind them
record Rises (n : ℕ) (words : List Word) : Type 0 where
  deep : (d : ℕ) (rest : List Word) → d + n ≤ deepest d (words ++ rest)
  far : (d : ℕ) (rest : List Word) → deepest d rest ≤ deepest d (words ++ rest)

starts : (d : ℕ) (words : List Word) → d ≤ deepest d words
starts d [] = omega arith
starts d (w ∷ words) = omega arith

rises_none : Rises 0 []
rises_none = record { deep = λ d rest. omega (arith, starts d rest); far = λ d rest. omega arith }

rises_both : (m n : ℕ) (xs ys : List Word) → Rises m xs → Rises n ys → Rises (max m n) (xs ++ ys)
rises_both m n xs ys r s = record {
  deep = λ d rest.
      subst (λ (v : List Word). d + max m n ≤ deepest d v) (sym (append_assoc xs ys rest)) (omega (arith, r.deep d (ys ++ rest), s.deep d rest, r.far d (ys ++ rest)));
  far = λ d rest.
      subst (λ (v : List Word). deepest d rest ≤ deepest d v) (sym (append_assoc xs ys rest)) (omega (arith, s.far d rest, r.far d (ys ++ rest)));
}

rises_same : (m n : ℕ) (words : List Word) → m ≡ n → Rises m words → Rises n words
rises_same m n words e r = subst (λ (k : ℕ). Rises k words) e r

stays : (d : ℕ) (w : Word) → is_opening w ≡ false → is_closing w ≡ false → behind_word d w ≡ d
stays d w o c = rw (o, c) refl

rises_word : (w : Word) → is_opening w ≡ false → is_closing w ≡ false → Rises 0 (w ∷ [])
rises_word w o c = record {
  deep = λ d rest. omega (arith, starts d (w ∷ rest));
  far = λ d rest. subst (λ (e : ℕ). deepest d rest ≤ max d (deepest e rest)) (sym (stays d w o c)) (omega arith);
}

-- a word in front that is no bracket
rises_behind : (n : ℕ) (w : Word) (words : List Word) → is_opening w ≡ false → is_closing w ≡ false → Rises n words → Rises n (w ∷ words)
rises_behind n w words o c r = rises_same (max 0 n) n (w ∷ words) (omega arith) (rises_both 0 n (w ∷ []) words (rises_word w o c) r)

-- brackets round words
rises_within : (n : ℕ) (o c : Word) (words : List Word) → is_opening o ≡ true → is_opening c ≡ false → is_closing c ≡ true → Rises n words → Rises (suc n) (o ∷ (words ++ c ∷ []))
rises_within n o c words x y z r = record {
  deep = λ d rest. subst (λ (v : ℕ). d + suc n ≤ max d v) (sym (inside d rest)) (omega (arith, r.deep (suc d) (c ∷ rest)));
  far = λ d rest. subst (λ (v : ℕ). deepest d rest ≤ max d v) (sym (inside d rest)) (omega (arith, r.far (suc d) (c ∷ rest), last d rest));
}
  where
    inside : (d : ℕ) (rest : List Word) → deepest (behind_word d o) ((words ++ c ∷ []) ++ rest) ≡ deepest (suc d) (words ++ c ∷ rest)
    inside d rest = ap (λ (b : Bool). deepest (cond b (suc d) (cond (is_closing o) (d - 1) d)) ((words ++ c ∷ []) ++ rest)) x ∙ ap (deepest (suc d)) (append_assoc words (c ∷ []) rest)

    closes : (d : ℕ) → behind_word (suc d) c ≡ d
    closes d = ap (λ (b : Bool). cond b (suc (suc d)) (cond (is_closing c) (suc d - 1) (suc d))) y ∙ ap (λ (b : Bool). cond b (suc d - 1) (suc d)) z ∙ omega arith

    last : (d : ℕ) (rest : List Word) → deepest d rest ≤ deepest (suc d) (c ∷ rest)
    last d rest = subst (λ (e : ℕ). deepest d rest ≤ max (suc d) (deepest e rest)) (sym (closes d)) (omega arith)

rises_parens : (n : ℕ) (words : List Word) → Rises n words → Rises (suc n) (in_brackets words)
rises_parens n words r = rises_within n (fixed (codes "(")) (fixed (codes ")")) words refl refl refl r

rises_braces : (n : ℕ) (words : List Word) → Rises n words → Rises (suc n) (fixed (codes "{") ∷ (words ++ fixed (codes "}") ∷ []))
rises_braces n words r = rises_within n (fixed (codes "{")) (fixed (codes "}")) words refl refl refl r

-- ---- expressions

abbrev Deep : Expr → Type 0
Deep e = Rises (measured e).nest (printed e).words

deep_place : (place : ℕ) (e : Expr) → Deep e → Rises (placed place (measured e)) (in_place place (printed e))
unfolding placed in_place
deep_place place e h = subst (λ (l : Level). Rises (cond (nat_le place (rank l)) (measured e).nest (suc (measured e).nest)) (cond (nat_le place (rank (printed e).level)) (printed e).words (in_brackets (printed e).words))) (law [] e).level (go (nat_le place (rank (printed e).level)))
  where
    go : (b : Bool) → Rises (cond b (measured e).nest (suc (measured e).nest)) (cond b (printed e).words (in_brackets (printed e).words))
    go true = h
    go false = rises_parens (measured e).nest (printed e).words h

abbrev Deeply : Type 0
Deeply = (e : Expr) × Deep e

abbrev values : List Deeply → List Expr
values es = map (λ (e : Deeply). e.0) es

deep_marked : (text : List ℕ) (place : ℕ) (es : List Deeply) → is_opening (fixed text) ≡ false → is_closing (fixed text) ≡ false → Rises (most place (map measured (values es))) (marked (fixed text) (map (in_place place) (map printed (values es))))
deep_marked text place [] o c = rises_none
deep_marked text place (e ∷ es) o c =
    rises_both (placed place (measured e.0)) (most place (map measured (values es))) (fixed text ∷ in_place place (printed e.0)) (marked (fixed text) (map (in_place place) (map printed (values es))))
    (rises_behind (placed place (measured e.0)) (fixed text) (in_place place (printed e.0)) o c (deep_place place e.0 e.1)) (deep_marked text place es o c)

deep_chained : (text : List ℕ) (place : ℕ) (es : List Deeply) → is_opening (fixed text) ≡ false → is_closing (fixed text) ≡ false → Rises (most place (map measured (values es))) (chained (fixed text) place (map printed (values es)))
deep_chained text place [] o c = rises_none
deep_chained text place (e ∷ es) o c =
    rises_both (placed place (measured e.0)) (most place (map measured (values es))) (in_place place (printed e.0)) (marked (fixed text) (map (in_place place) (map printed (values es)))) (deep_place place e.0 e.1) (deep_marked text place es o c)

deep_listed : (es : List Deeply) → Rises (suc (most 0 (map measured (values es)))) (listed (map printed (values es)))
deep_listed es = rises_parens (most 0 (map measured (values es))) (chained (fixed (codes ",")) 0 (map printed (values es))) (deep_chained (codes ",") 0 es refl refl)

comparison_plain : (op : Compare) → is_opening (fixed (comparison op)) ≡ false
comparison_plain compare.Equal = refl
comparison_plain _ = refl

comparison_plain_too : (op : Compare) → is_closing (fixed (comparison op)) ≡ false
comparison_plain_too compare.Equal = refl
comparison_plain_too _ = refl

sign_plain : (s : Sign) → is_opening (fixed (sign s)) ≡ false
sign_plain signs.Plus = refl
sign_plain signs.Minus = refl

sign_plain_too : (s : Sign) → is_closing (fixed (sign s)) ≡ false
sign_plain_too signs.Plus = refl
sign_plain_too signs.Minus = refl

keyword_plain : (f : Function) → is_opening (fixed (keyword f)) ≡ false
keyword_plain function.Bound = refl
keyword_plain _ = refl

keyword_plain_too : (f : Function) → is_closing (fixed (keyword f)) ≡ false
keyword_plain_too function.Bound = refl
keyword_plain_too _ = refl

deep_among : (n : ℕ) (negated : Bool) (words : List Word) → Rises n words → Rises n (among negated ++ words)
deep_among n true words r = rises_behind n (fixed (codes "NOT")) (fixed (codes "IN") ∷ words) refl refl (rises_behind n (fixed (codes "IN")) words refl refl r)
deep_among n false words r = rises_behind n (fixed (codes "IN")) words refl refl r

abbrev addends : List (Sign × Deeply) → List (Sign × Expr)
addends rest = map (λ (p : Sign × Deeply). (p.0, p.1.0)) rest

deep_signed : (rest : List (Sign × Deeply)) → Rises (most_signed (map (λ (p : Sign × Expr). (p.0, measured p.1)) (addends rest))) (signed (map (λ (p : Sign × Expr). (p.0, printed p.1)) (addends rest)))
deep_signed [] = rises_none
deep_signed (p ∷ rest) =
    rises_both (placed 4 (measured p.1.0)) (most_signed (map (λ (p : Sign × Expr). (p.0, measured p.1)) (addends rest))) (fixed (sign p.0) ∷ in_place 4 (printed p.1.0)) (signed (map (λ (p : Sign × Expr). (p.0, printed p.1)) (addends rest)))
    (rises_behind (placed 4 (measured p.1.0)) (fixed (sign p.0)) (in_place 4 (printed p.1.0)) (sign_plain p.0) (sign_plain_too p.0) (deep_place 4 p.1.0 p.1.1)) (deep_signed rest)

made_deep : (z : Expr-F Expr) (m : Measured) (p : Printed) → measured (roll-Expr z) ≡ m → printed (roll-Expr z) ≡ p → Rises m.nest p.words → Deep (roll-Expr z)
made_deep z m p a b r = subst (λ (v : Measured). Rises v.nest (printed (roll-Expr z)).words) (sym a) (subst (λ (v : Printed). Rises m.nest v.words) (sym b) r)

deep_step : (y : Expr-F Deeply) → Deep (roll-Expr (map-Expr Deeply Expr (λ e. e.0) y))
deep_step (Expr-F.Variable n) = made_deep (Expr-F.Variable n) _ _ (fold-roll-Expr Measured measure_step (Expr-F.Variable n)) (fold-roll-Expr Printed print_step (Expr-F.Variable n)) (rises_word (variable n) refl refl)
deep_step (Expr-F.Constant t) = made_deep (Expr-F.Constant t) _ _ (fold-roll-Expr Measured measure_step (Expr-F.Constant t)) (fold-roll-Expr Printed print_step (Expr-F.Constant t)) (rises_word (term t) refl refl)
deep_step (Expr-F.Or es) = made_deep (Expr-F.Or (values es)) _ _ (fold-roll-Expr Measured measure_step (Expr-F.Or (values es))) (fold-roll-Expr Printed print_step (Expr-F.Or (values es))) (deep_chained (codes "||") 1 es refl refl)
deep_step (Expr-F.And es) = made_deep (Expr-F.And (values es)) _ _ (fold-roll-Expr Measured measure_step (Expr-F.And (values es))) (fold-roll-Expr Printed print_step (Expr-F.And (values es))) (deep_chained (codes "&&") 2 es refl refl)
deep_step (Expr-F.Product es) = made_deep (Expr-F.Product (values es)) _ _ (fold-roll-Expr Measured measure_step (Expr-F.Product (values es))) (fold-roll-Expr Printed print_step (Expr-F.Product (values es))) (deep_chained (codes "*") 5 es refl refl)
deep_step (Expr-F.Not e) = made_deep (Expr-F.Not e.0) _ _ (fold-roll-Expr Measured measure_step (Expr-F.Not e.0)) (fold-roll-Expr Printed print_step (Expr-F.Not e.0)) (rises_behind (placed 6 (measured e.0)) (fixed (codes "!")) (in_place 6 (printed e.0)) refl refl (deep_place 6 e.0 e.1))
deep_step (Expr-F.Positive e) = made_deep (Expr-F.Positive e.0) _ _ (fold-roll-Expr Measured measure_step (Expr-F.Positive e.0)) (fold-roll-Expr Printed print_step (Expr-F.Positive e.0)) (rises_behind (placed 6 (measured e.0)) (fixed (codes "+")) (in_place 6 (printed e.0)) refl refl (deep_place 6 e.0 e.1))
deep_step (Expr-F.Negative e) = made_deep (Expr-F.Negative e.0) _ _ (fold-roll-Expr Measured measure_step (Expr-F.Negative e.0)) (fold-roll-Expr Printed print_step (Expr-F.Negative e.0)) (rises_behind (placed 6 (measured e.0)) (fixed (codes "-")) (in_place 6 (printed e.0)) refl refl (deep_place 6 e.0 e.1))
deep_step (Expr-F.Compare op a b) =
    made_deep (Expr-F.Compare op a.0 b.0) _ _ (fold-roll-Expr Measured measure_step (Expr-F.Compare op a.0 b.0)) (fold-roll-Expr Printed print_step (Expr-F.Compare op a.0 b.0))
    (rises_both (placed 3 (measured a.0)) (placed 3 (measured b.0)) (in_place 3 (printed a.0)) (fixed (comparison op) ∷ in_place 3 (printed b.0)) (deep_place 3 a.0 a.1) (rises_behind (placed 3 (measured b.0)) (fixed (comparison op)) (in_place 3 (printed b.0)) (comparison_plain op) (comparison_plain_too op) (deep_place 3 b.0 b.1)))
deep_step (Expr-F.Among negated a es) =
    made_deep (Expr-F.Among negated a.0 (values es)) _ _ (fold-roll-Expr Measured measure_step (Expr-F.Among negated a.0 (values es))) (fold-roll-Expr Printed print_step (Expr-F.Among negated a.0 (values es)))
    (rises_both (placed 3 (measured a.0)) (suc (most 0 (map measured (values es)))) (in_place 3 (printed a.0)) (among negated ++ listed (map printed (values es))) (deep_place 3 a.0 a.1) (deep_among (suc (most 0 (map measured (values es)))) negated (listed (map printed (values es))) (deep_listed es)))
deep_step (Expr-F.Sum a rest) =
    made_deep (Expr-F.Sum a.0 (addends rest)) _ _ (fold-roll-Expr Measured measure_step (Expr-F.Sum a.0 (addends rest))) (fold-roll-Expr Printed print_step (Expr-F.Sum a.0 (addends rest)))
    (rises_both (placed 4 (measured a.0)) (most_signed (map (λ (p : Sign × Expr). (p.0, measured p.1)) (addends rest))) (in_place 4 (printed a.0)) (signed (map (λ (p : Sign × Expr). (p.0, printed p.1)) (addends rest))) (deep_place 4 a.0 a.1) (deep_signed rest))
deep_step (Expr-F.Call f es) =
    made_deep (Expr-F.Call f (values es)) _ _ (fold-roll-Expr Measured measure_step (Expr-F.Call f (values es))) (fold-roll-Expr Printed print_step (Expr-F.Call f (values es)))
    (rises_behind (suc (most 0 (map measured (values es)))) (fixed (keyword f)) (listed (map printed (values es))) (keyword_plain f) (keyword_plain_too f) (deep_listed es))

deep : (e : Expr) → Deep e
deep = ind-Expr Deep (λ x y same. subst (λ (z : Expr-F Expr). Deep (roll-Expr z)) same (deep_step y))

-- ---- blocks of VALUES

deep_names : (names : List (List ℕ)) → Rises 0 (map (λ n. variable n) names)
deep_names [] = rises_none
deep_names (n ∷ names) = rises_behind 0 (variable n) (map (λ n. variable n) names) refl refl (deep_names names)

value_plain : (v : Option Term) → is_opening (value_word v) ≡ false
value_plain None = refl
value_plain (Some t) = refl

value_plain_too : (v : Option Term) → is_closing (value_word v) ≡ false
value_plain_too None = refl
value_plain_too (Some t) = refl

deep_values : (row : List (Option Term)) → Rises 0 (map value_word row)
deep_values [] = rises_none
deep_values (v ∷ row) = rises_behind 0 (value_word v) (map value_word row) (value_plain v) (value_plain_too v) (deep_values row)

deep_rows : (rows : List (List (Option Term))) → Rises (cond (is_some rows) 1 0) (flat_map row_words rows)
deep_rows [] = rises_none
deep_rows (row ∷ rows) = rises_same (max 1 (cond (is_some rows) 1 0)) 1 (row_words row ++ flat_map row_words rows) (top (is_some rows)) (rises_both 1 (cond (is_some rows) 1 0) (row_words row) (flat_map row_words rows) (rises_parens 0 (map value_word row) (deep_values row)) (deep_rows rows))
  where
    top : (b : Bool) → max 1 (cond b 1 0) ≡ 1
    top true = refl
    top false = refl

deep_block : (inline : Inline) → Rises (block_nest inline) (block inline)
unfolding block
deep_block inline =
    rises_same (max 1 (suc (cond (is_some inline.rows) 1 0))) (block_nest inline) _ (top (is_some inline.rows))
    (rises_both 1 (suc (cond (is_some inline.rows) 1 0)) (in_brackets (map (λ n. variable n) inline.columns)) (fixed (codes "{") ∷ (flat_map row_words inline.rows ++ fixed (codes "}") ∷ [])) (rises_parens 0 (map (λ n. variable n) inline.columns) (deep_names inline.columns)) (rises_braces (cond (is_some inline.rows) 1 0) (flat_map row_words inline.rows) (deep_rows inline.rows)))
  where
    top : (b : Bool) → max 1 (suc (cond b 1 0)) ≡ cond b 2 1
    top true = refl
    top false = refl

-- ---- groups

abbrev DeepElement : Element → Type 0
DeepElement e = Rises (held_element e).nest (element_words e)

abbrev DeepGroup : Group → Type 0
DeepGroup g = Rises (held g).nest (group_words g)

abbrev DeepElements : Type 0
DeepElements = (e : Element) × DeepElement e

abbrev DeepGroups : Type 0
DeepGroups = (g : Group) × DeepGroup g

abbrev groups : List DeepGroups → List Group
groups gs = map (λ (g : DeepGroups). g.0) gs

abbrev elements : List DeepElements → List Element
elements es = map (λ (e : DeepElements). e.0) es

deep_condition : (e : Expr) → Rises (condition_nest (measured e)) (condition (printed e))
unfolding condition
deep_condition e = subst (λ (l : Level). Rises (cond (is_call l) (measured e).nest (suc (measured e).nest)) (cond (is_call (printed e).level) (printed e).words (in_brackets (printed e).words))) (law [] e).level (go (is_call (printed e).level))
  where
    go : (b : Bool) → Rises (cond b (measured e).nest (suc (measured e).nest)) (cond b (printed e).words (in_brackets (printed e).words))
    go true = deep e
    go false = rises_parens (measured e).nest (printed e).words (deep e)

part_plain : (p : PatternTerm) → is_opening (part_word p) ≡ false
part_plain (Variable name) = refl
part_plain (Constant t) = refl

part_plain_too : (p : PatternTerm) → is_closing (part_word p) ≡ false
part_plain_too (Variable name) = refl
part_plain_too (Constant t) = refl

deep_triple : (p : Pattern) → Rises 0 (pattern_words p)
deep_triple p =
    rises_behind 0 (part_word p.subject) (part_word p.predicate ∷ part_word p.object ∷ fixed (codes ".") ∷ []) (part_plain p.subject) (part_plain_too p.subject)
    (rises_behind 0 (part_word p.predicate) (part_word p.object ∷ fixed (codes ".") ∷ []) (part_plain p.predicate) (part_plain_too p.predicate)
    (rises_behind 0 (part_word p.object) (fixed (codes ".") ∷ []) (part_plain p.object) (part_plain_too p.object) (rises_word (fixed (codes ".")) refl refl)))

deep_unions : (gs : List DeepGroups) → Rises (most_held (map held (groups gs))) (marked (fixed (codes "UNION")) (map group_words (groups gs)))
deep_unions [] = rises_none
deep_unions (g ∷ gs) =
    rises_both (held g.0).nest (most_held (map held (groups gs))) (fixed (codes "UNION") ∷ group_words g.0) (marked (fixed (codes "UNION")) (map group_words (groups gs))) (rises_behind (held g.0).nest (fixed (codes "UNION")) (group_words g.0) refl refl g.1) (deep_unions gs)

deep_union : (gs : List DeepGroups) → Rises (most_held (map held (groups gs))) (separated (fixed (codes "UNION")) (map group_words (groups gs)))
deep_union [] = rises_none
deep_union (g ∷ gs) = rises_both (held g.0).nest (most_held (map held (groups gs))) (group_words g.0) (marked (fixed (codes "UNION")) (map group_words (groups gs))) g.1 (deep_unions gs)

deep_silence : (n : ℕ) (silent : Bool) (words : List Word) → Rises n words → Rises n (silence silent ++ words)
deep_silence n true words r = rises_behind n (fixed (codes "SILENT")) words refl refl r
deep_silence n false words r = r

deep_bind : (e : Expr) (name : List ℕ) → Rises (measured e).nest ((printed e).words ++ (fixed (codes "AS") ∷ variable name ∷ []))
deep_bind e name =
    rises_same (max (measured e).nest 0) (measured e).nest _ (omega arith) (rises_both (measured e).nest 0 (printed e).words (fixed (codes "AS") ∷ variable name ∷ []) (deep e) (rises_behind 0 (fixed (codes "AS")) (variable name ∷ []) refl refl (rises_word (variable name) refl refl)))

made_element : (z : Element-F Element Group) (h : Held) (w : List Word) → held_element (roll-Element z) ≡ h → element_words (roll-Element z) ≡ w → Rises h.nest w → DeepElement (roll-Element z)
made_element z h w a b r = subst (λ (v : Held). Rises v.nest (element_words (roll-Element z))) (sym a) (subst (λ (v : List Word). Rises h.nest v) (sym b) r)

step_element : (y : Element-F DeepElements DeepGroups) → DeepElement (roll-Element (map-Element DeepElements DeepGroups Element Group (λ e. e.0) (λ e. e.0) y))
step_element (Element-F.Triple p) = made_element (Element-F.Triple p) _ _ (fold-roll-Element Held Held hold_element hold_group (Element-F.Triple p)) (fold-roll-Element (List Word) (List Word) element_step group_step (Element-F.Triple p)) (deep_triple p)
step_element (Element-F.Filter e) = made_element (Element-F.Filter e) _ _ (fold-roll-Element Held Held hold_element hold_group (Element-F.Filter e)) (fold-roll-Element (List Word) (List Word) element_step group_step (Element-F.Filter e)) (rises_behind (condition_nest (measured e)) (fixed (codes "FILTER")) (condition (printed e)) refl refl (deep_condition e))
step_element (Element-F.Optional g) = made_element (Element-F.Optional g.0) _ _ (fold-roll-Element Held Held hold_element hold_group (Element-F.Optional g.0)) (fold-roll-Element (List Word) (List Word) element_step group_step (Element-F.Optional g.0)) (rises_behind (held g.0).nest (fixed (codes "OPTIONAL")) (group_words g.0) refl refl g.1)
step_element (Element-F.Union gs) = made_element (Element-F.Union (groups gs)) _ _ (fold-roll-Element Held Held hold_element hold_group (Element-F.Union (groups gs))) (fold-roll-Element (List Word) (List Word) element_step group_step (Element-F.Union (groups gs))) (deep_union gs)
step_element (Element-F.Minus g) = made_element (Element-F.Minus g.0) _ _ (fold-roll-Element Held Held hold_element hold_group (Element-F.Minus g.0)) (fold-roll-Element (List Word) (List Word) element_step group_step (Element-F.Minus g.0)) (rises_behind (held g.0).nest (fixed (codes "MINUS")) (group_words g.0) refl refl g.1)
step_element (Element-F.Bind e name) =
    made_element (Element-F.Bind e name) _ _ (fold-roll-Element Held Held hold_element hold_group (Element-F.Bind e name)) (fold-roll-Element (List Word) (List Word) element_step group_step (Element-F.Bind e name))
    (rises_behind (suc (measured e).nest) (fixed (codes "BIND")) (in_brackets ((printed e).words ++ (fixed (codes "AS") ∷ variable name ∷ []))) refl refl (rises_parens (measured e).nest ((printed e).words ++ (fixed (codes "AS") ∷ variable name ∷ [])) (deep_bind e name)))
step_element (Element-F.Values inline) = made_element (Element-F.Values inline) _ _ (fold-roll-Element Held Held hold_element hold_group (Element-F.Values inline)) (fold-roll-Element (List Word) (List Word) element_step group_step (Element-F.Values inline)) (rises_behind (block_nest inline) (fixed (codes "VALUES")) (block inline) refl refl (deep_block inline))
step_element (Element-F.Service silent iri g) =
    made_element (Element-F.Service silent iri g.0) _ _ (fold-roll-Element Held Held hold_element hold_group (Element-F.Service silent iri g.0)) (fold-roll-Element (List Word) (List Word) element_step group_step (Element-F.Service silent iri g.0))
    (rises_behind (held g.0).nest (fixed (codes "SERVICE")) (silence silent ++ (term (Iri iri) ∷ group_words g.0)) refl refl (deep_silence (held g.0).nest silent (term (Iri iri) ∷ group_words g.0) (rises_behind (held g.0).nest (term (Iri iri)) (group_words g.0) refl refl g.1)))

deep_elements : (es : List DeepElements) → Rises (most_held (map held_element (elements es))) (flat_map (λ words. words) (map element_words (elements es)))
deep_elements [] = rises_none
deep_elements (e ∷ es) = rises_both (held_element e.0).nest (most_held (map held_element (elements es))) (element_words e.0) (flat_map (λ words. words) (map element_words (elements es))) e.1 (deep_elements es)

step_group : (y : Group-F DeepElements DeepGroups) → DeepGroup (roll-Group (map-Group DeepElements DeepGroups Element Group (λ e. e.0) (λ e. e.0) y))
step_group y =
    let es = y.elements in
    subst (λ (v : Held). Rises v.nest (group_words (roll-Group (record { elements = elements es })))) (sym (fold-roll-Group Held Held hold_element hold_group (record { elements = elements es })))
    (subst (λ (v : List Word). Rises (suc (most_held (map held_element (elements es)))) v) (sym (fold-roll-Group (List Word) (List Word) element_step group_step (record { elements = elements es })))
    (rises_braces (most_held (map held_element (elements es))) (flat_map (λ words. words) (map element_words (elements es))) (deep_elements es)))

deep_group : (g : Group) → DeepGroup g
deep_group =
    ind-Group DeepElement DeepGroup (λ x y same. subst (λ (z : Element-F Element Group). DeepElement (roll-Element z)) same (step_element y)) (λ x y same. subst (λ (z : Group-F Element Group). DeepGroup (roll-Group z)) same (step_group y))

-- ---- queries

deep_columns : (names : List (List ℕ)) → Rises 0 (column_words names)
deep_columns [] = rises_word (fixed (codes "*")) refl refl
deep_columns (n ∷ names) = deep_names (n ∷ names)

deep_distinction : (b : Bool) (words : List Word) → Rises 0 words → Rises 0 (distinction b ++ words)
deep_distinction true words r = rises_behind 0 (fixed (codes "DISTINCT")) words refl refl r
deep_distinction false words r = r

deep_form : (f : Form) → Rises 0 (form_words f)
unfolding form_words
deep_form (form.Select distinct columns) =
    rises_behind 0 (fixed (codes "SELECT")) (distinction distinct ++ (column_words columns ++ fixed (codes "WHERE") ∷ [])) refl refl
    (deep_distinction distinct (column_words columns ++ fixed (codes "WHERE") ∷ []) (rises_same (max 0 0) 0 _ refl (rises_both 0 0 (column_words columns) (fixed (codes "WHERE") ∷ []) (deep_columns columns) (rises_word (fixed (codes "WHERE")) refl refl))))
deep_form form.Ask = rises_behind 0 (fixed (codes "ASK")) (fixed (codes "WHERE") ∷ []) refl refl (rises_word (fixed (codes "WHERE")) refl refl)

deep_key : (key : Order) → Rises (key_nest key) (key_words key)
unfolding key_words
deep_key key =
    subst (λ (l : Level). Rises (cond key.descending (suc (measured key.expr).nest) (cond (is_call l) (measured key.expr).nest (cond (is_variable l) (measured key.expr).nest (suc (measured key.expr).nest)))) (key_at key.descending (is_call (printed key.expr).level) (is_variable (printed key.expr).level))) (law [] key.expr).level
    (go key.descending (is_call (printed key.expr).level) (is_variable (printed key.expr).level))
  where
    key_at : (d c v : Bool) → List Word
    key_at d c v = cond d (fixed (codes "DESC") ∷ in_brackets (printed key.expr).words) (cond c (printed key.expr).words (cond v (printed key.expr).words (fixed (codes "ASC") ∷ in_brackets (printed key.expr).words)))

    go : (d c v : Bool) → Rises (cond d (suc (measured key.expr).nest) (cond c (measured key.expr).nest (cond v (measured key.expr).nest (suc (measured key.expr).nest)))) (cond d (fixed (codes "DESC") ∷ in_brackets (printed key.expr).words) (cond c (printed key.expr).words (cond v (printed key.expr).words (fixed (codes "ASC") ∷ in_brackets (printed key.expr).words))))
    go true c v = rises_behind (suc (measured key.expr).nest) (fixed (codes "DESC")) (in_brackets (printed key.expr).words) refl refl (rises_parens (measured key.expr).nest (printed key.expr).words (deep key.expr))
    go false true v = deep key.expr
    go false false true = deep key.expr
    go false false false = rises_behind (suc (measured key.expr).nest) (fixed (codes "ASC")) (in_brackets (printed key.expr).words) refl refl (rises_parens (measured key.expr).nest (printed key.expr).words (deep key.expr))

deep_keys : (keys : List Order) → Rises (most_keys keys) (flat_map key_words keys)
deep_keys [] = rises_none
deep_keys (key ∷ keys) = rises_both (key_nest key) (most_keys keys) (key_words key) (flat_map key_words keys) (deep_key key) (deep_keys keys)

deep_order : (keys : List Order) → Rises (most_keys keys) (order_words keys)
unfolding order_words
deep_order [] = rises_none
deep_order (key ∷ keys) = rises_behind (most_keys (key ∷ keys)) (fixed (codes "ORDER")) (fixed (codes "BY") ∷ flat_map key_words (key ∷ keys)) refl refl (rises_behind (most_keys (key ∷ keys)) (fixed (codes "BY")) (flat_map key_words (key ∷ keys)) refl refl (deep_keys (key ∷ keys)))

deep_limit : (limit : Option ℕ) → Rises 0 (limit_words limit)
deep_limit None = rises_none
deep_limit (Some n) = rises_behind 0 (fixed (codes "LIMIT")) (number n ∷ []) refl refl (rises_word (number n) refl refl)

deep_offset : (offset : ℕ) → Rises 0 (offset_words offset)
deep_offset offset = go (offset == 0)
  where
    go : (b : Bool) → Rises 0 (cond b [] (fixed (codes "OFFSET") ∷ number offset ∷ []))
    go true = rises_none
    go false = rises_behind 0 (fixed (codes "OFFSET")) (number offset ∷ []) refl refl (rises_word (number offset) refl refl)

deep_inline : (inline : Option Inline) → Rises (inline_nest inline) (trailing_words inline)
deep_inline None = rises_none
deep_inline (Some inline) = rises_behind (block_nest inline) (fixed (codes "VALUES")) (block inline) refl refl (deep_block inline)

deep_query : (q : Query) → brackets q ≤ deepest 0 (query_words q)
unfolding query_words
deep_query q =
    let last = deep_inline q.inline in
    let offset = rises_both 0 (inline_nest q.inline) (offset_words q.offset) (trailing_words q.inline) (deep_offset q.offset) last in
    let limit = rises_both 0 (max 0 (inline_nest q.inline)) (limit_words q.limit) (offset_words q.offset ++ trailing_words q.inline) (deep_limit q.limit) offset in
    let order = rises_both (most_keys q.order) (max 0 (max 0 (inline_nest q.inline))) (order_words q.order) (limit_words q.limit ++ (offset_words q.offset ++ trailing_words q.inline)) (deep_order q.order) limit in
    let group = rises_both (held q.group).nest (max (most_keys q.order) (max 0 (max 0 (inline_nest q.inline)))) (group_words q.group) (order_words q.order ++ (limit_words q.limit ++ (offset_words q.offset ++ trailing_words q.inline))) (deep_group q.group) order in
    let whole = rises_both 0 (max (held q.group).nest (max (most_keys q.order) (max 0 (max 0 (inline_nest q.inline))))) (form_words q.form) (group_words q.group ++ (order_words q.order ++ (limit_words q.limit ++ (offset_words q.offset ++ trailing_words q.inline)))) (deep_form q.form) group in
    let words = form_words q.form ++ (group_words q.group ++ (order_words q.order ++ (limit_words q.limit ++ (offset_words q.offset ++ trailing_words q.inline)))) in
    let at : deepest 0 (words ++ []) ≡ deepest 0 words = ap (deepest 0) (append-nil words) in
    omega (arith, whole.deep 0 [], at)

pub printed_text_is_accepted : PrintedTextIsAccepted
printed_text_is_accepted text q h b = spellable_is_accepted text q h (omega (arith, deep_query q, b))
