-- As many brackets are open at once in the words of a printed filter as are counted over its tree.
use Rattle.std.proofs.Common.{◌≡◌, ℕ, suc, ◌+◌, ◌-◌, ◌≤◌, Bool, true, false, cond, List, [], ◌∷◌, ◌++◌, map, refl, sym, ap, ◌∙◌, subst, arith, append_assoc, append-nil, max, nat_le}
use Rattle.std.specs.Prelude.{codes}
use Rattle.fx_algebra.specs.Measures.{Measured, condition_nest, measure_step, measured, most, most_signed, placed}
use Rattle.fx_algebra.specs.Printed.{Level, Printed, Word, among, chained, comparison, condition, element_step, element_words, fixed, group_step, in_brackets, in_place, is_call, keyword, listed, marked, print_step, printed, rank, sign, signed, term, variable}
use Rattle.fx_algebra.specs.declared.expressions.Compare.{Compare}
use Rattle.fx_algebra.specs.declared.expressions.Compare.TheVariants as compare
use Rattle.fx_algebra.specs.declared.expressions.Expr.{Expr, Expr-F, fold-roll-Expr, ind-Expr, map-Expr, roll-Expr}
use Rattle.fx_algebra.specs.declared.expressions.Function.{Function}
use Rattle.fx_algebra.specs.declared.expressions.Function.TheVariants as function
use Rattle.fx_algebra.specs.declared.expressions.Sign.{Sign}
use Rattle.fx_algebra.specs.declared.expressions.Sign.TheVariants as signs
use Rattle.fx_algebra.specs.declared.queries.Element.{Element-F, fold-roll-Element}
use Rattle.fx_algebra.specs.declared.queries.Element.TheVariants as element
use Rattle.fx_spelling.proofs.Expressions.{law}
use Rattle.fx_spelling.specs.Printable.{behind_word, deepest, is_closing, is_opening}
use Rattle.fx_laws_brackets.specs.Brackets.{FiltersOpenTheirBrackets}

-- so many more brackets than before are open in the words at some place, and no more, and none behind them
record Nests (n : ℕ) (words : List Word) : Type 0 where
  is : (d : ℕ) (rest : List Word) → deepest d (words ++ rest) ≡ max (d + n) (deepest d rest)

starts : (d : ℕ) (words : List Word) → d ≤ deepest d words
starts d [] = omega arith
starts d (w ∷ words) = omega arith

nests_none : Nests 0 []
nests_none = record { is = λ d rest. omega (arith, starts d rest) }

nests_both : (m n : ℕ) (xs ys : List Word) → Nests m xs → Nests n ys → Nests (max m n) (xs ++ ys)
nests_both m n xs ys r s = record { is = λ d rest. ap (deepest d) (append_assoc xs ys rest) ∙ (r.is d (ys ++ rest) ∙ (ap (max (d + m)) (s.is d rest) ∙ together d m n (deepest d rest))) }
  where
    together : (d m n x : ℕ) → max (d + m) (max (d + n) x) ≡ max (d + max m n) x
    together d m n x = omega arith

nests_same : (m n : ℕ) (words : List Word) → m ≡ n → Nests m words → Nests n words
nests_same m n words e r = subst (λ (k : ℕ). Nests k words) e r

stays : (d : ℕ) (w : Word) → is_opening w ≡ false → is_closing w ≡ false → behind_word d w ≡ d
stays d w o c = rw (o, c) refl

nests_word : (w : Word) → is_opening w ≡ false → is_closing w ≡ false → Nests 0 (w ∷ [])
nests_word w o c = record { is = λ d rest. ap (λ (e : ℕ). max d (deepest e rest)) (stays d w o c) ∙ same d (deepest d rest) }
  where
    same : (d x : ℕ) → max d x ≡ max (d + 0) x
    same d x = omega arith

-- a word in front that is no bracket
nests_behind : (n : ℕ) (w : Word) (words : List Word) → is_opening w ≡ false → is_closing w ≡ false → Nests n words → Nests n (w ∷ words)
nests_behind n w words o c r = nests_same (max 0 n) n (w ∷ words) (omega arith) (nests_both 0 n (w ∷ []) words (nests_word w o c) r)

-- brackets round words
nests_parens : (n : ℕ) (words : List Word) → Nests n words → Nests (suc n) (in_brackets words)
nests_parens n words r = record {
  is = λ d rest.
      ap (λ (v : List Word). max d (deepest (suc d) v)) (append_assoc words (fixed (codes ")") ∷ []) rest)
      ∙ (ap (max d) (r.is (suc d) (fixed (codes ")") ∷ rest)) ∙ (ap (λ (e : ℕ). max d (max (suc d + n) (max (suc d) (deepest e rest)))) (closes d) ∙ together d n (deepest d rest)));
}
  where
    closes : (d : ℕ) → suc d - 1 ≡ d
    closes d = omega arith

    together : (d n x : ℕ) → max d (max (suc d + n) (max (suc d) x)) ≡ max (d + suc n) x
    together d n x = omega arith

-- ---- expressions

abbrev IsExact : Expr → Type 0
IsExact e = Nests (measured e).nest (printed e).words

exact_place : (place : ℕ) (e : Expr) → IsExact e → Nests (placed place (measured e)) (in_place place (printed e))
unfolding placed in_place
exact_place place e h = subst (λ (l : Level). Nests (cond (nat_le place (rank l)) (measured e).nest (suc (measured e).nest)) (cond (nat_le place (rank (printed e).level)) (printed e).words (in_brackets (printed e).words))) (law [] e).level (go (nat_le place (rank (printed e).level)))
  where
    go : (b : Bool) → Nests (cond b (measured e).nest (suc (measured e).nest)) (cond b (printed e).words (in_brackets (printed e).words))
    go true = h
    go false = nests_parens (measured e).nest (printed e).words h

abbrev Known : Type 0
Known = (e : Expr) × IsExact e

abbrev values : List Known → List Expr
values es = map (λ (e : Known). e.0) es

exact_marked : (text : List ℕ) (place : ℕ) (es : List Known) → is_opening (fixed text) ≡ false → is_closing (fixed text) ≡ false → Nests (most place (map measured (values es))) (marked (fixed text) (map (in_place place) (map printed (values es))))
exact_marked text place [] o c = nests_none
exact_marked text place (e ∷ es) o c =
    nests_both (placed place (measured e.0)) (most place (map measured (values es))) (fixed text ∷ in_place place (printed e.0)) (marked (fixed text) (map (in_place place) (map printed (values es))))
    (nests_behind (placed place (measured e.0)) (fixed text) (in_place place (printed e.0)) o c (exact_place place e.0 e.1)) (exact_marked text place es o c)

exact_chained : (text : List ℕ) (place : ℕ) (es : List Known) → is_opening (fixed text) ≡ false → is_closing (fixed text) ≡ false → Nests (most place (map measured (values es))) (chained (fixed text) place (map printed (values es)))
exact_chained text place [] o c = nests_none
exact_chained text place (e ∷ es) o c =
    nests_both (placed place (measured e.0)) (most place (map measured (values es))) (in_place place (printed e.0)) (marked (fixed text) (map (in_place place) (map printed (values es)))) (exact_place place e.0 e.1) (exact_marked text place es o c)

exact_listed : (es : List Known) → Nests (suc (most 0 (map measured (values es)))) (listed (map printed (values es)))
exact_listed es = nests_parens (most 0 (map measured (values es))) (chained (fixed (codes ",")) 0 (map printed (values es))) (exact_chained (codes ",") 0 es refl refl)

comparison_plain : (op : Compare) → is_opening (fixed (comparison op)) ≡ false
comparison_plain compare.Equal = refl
comparison_plain _ = refl

comparison_plain_too : (op : Compare) → is_closing (fixed (comparison op)) ≡ false
comparison_plain_too compare.Equal = refl
comparison_plain_too _ = refl

sign_plain : (s : Sign) → is_opening (fixed (sign s)) ≡ false
sign_plain signs.Plus = refl
sign_plain signs.Minus = refl

sign_plain_too : (s : Sign) → is_closing (fixed (sign s)) ≡ false
sign_plain_too signs.Plus = refl
sign_plain_too signs.Minus = refl

keyword_plain : (f : Function) → is_opening (fixed (keyword f)) ≡ false
keyword_plain function.Bound = refl
keyword_plain _ = refl

keyword_plain_too : (f : Function) → is_closing (fixed (keyword f)) ≡ false
keyword_plain_too function.Bound = refl
keyword_plain_too _ = refl

exact_among : (n : ℕ) (negated : Bool) (words : List Word) → Nests n words → Nests n (among negated ++ words)
exact_among n true words r = nests_behind n (fixed (codes "NOT")) (fixed (codes "IN") ∷ words) refl refl (nests_behind n (fixed (codes "IN")) words refl refl r)
exact_among n false words r = nests_behind n (fixed (codes "IN")) words refl refl r

abbrev addends : List (Sign × Known) → List (Sign × Expr)
addends rest = map (λ (p : Sign × Known). (p.0, p.1.0)) rest

exact_signed : (rest : List (Sign × Known)) → Nests (most_signed (map (λ (p : Sign × Expr). (p.0, measured p.1)) (addends rest))) (signed (map (λ (p : Sign × Expr). (p.0, printed p.1)) (addends rest)))
exact_signed [] = nests_none
exact_signed (p ∷ rest) =
    nests_both (placed 4 (measured p.1.0)) (most_signed (map (λ (p : Sign × Expr). (p.0, measured p.1)) (addends rest))) (fixed (sign p.0) ∷ in_place 4 (printed p.1.0)) (signed (map (λ (p : Sign × Expr). (p.0, printed p.1)) (addends rest)))
    (nests_behind (placed 4 (measured p.1.0)) (fixed (sign p.0)) (in_place 4 (printed p.1.0)) (sign_plain p.0) (sign_plain_too p.0) (exact_place 4 p.1.0 p.1.1)) (exact_signed rest)

made_exact : (z : Expr-F Expr) (m : Measured) (p : Printed) → measured (roll-Expr z) ≡ m → printed (roll-Expr z) ≡ p → Nests m.nest p.words → IsExact (roll-Expr z)
made_exact z m p a b r = subst (λ (v : Measured). Nests v.nest (printed (roll-Expr z)).words) (sym a) (subst (λ (v : Printed). Nests m.nest v.words) (sym b) r)

exact_step : (y : Expr-F Known) → IsExact (roll-Expr (map-Expr Known Expr (λ e. e.0) y))
exact_step (Expr-F.Variable n) = made_exact (Expr-F.Variable n) _ _ (fold-roll-Expr Measured measure_step (Expr-F.Variable n)) (fold-roll-Expr Printed print_step (Expr-F.Variable n)) (nests_word (variable n) refl refl)
exact_step (Expr-F.Constant t) = made_exact (Expr-F.Constant t) _ _ (fold-roll-Expr Measured measure_step (Expr-F.Constant t)) (fold-roll-Expr Printed print_step (Expr-F.Constant t)) (nests_word (term t) refl refl)
exact_step (Expr-F.Or es) = made_exact (Expr-F.Or (values es)) _ _ (fold-roll-Expr Measured measure_step (Expr-F.Or (values es))) (fold-roll-Expr Printed print_step (Expr-F.Or (values es))) (exact_chained (codes "||") 1 es refl refl)
exact_step (Expr-F.And es) = made_exact (Expr-F.And (values es)) _ _ (fold-roll-Expr Measured measure_step (Expr-F.And (values es))) (fold-roll-Expr Printed print_step (Expr-F.And (values es))) (exact_chained (codes "&&") 2 es refl refl)
exact_step (Expr-F.Product es) = made_exact (Expr-F.Product (values es)) _ _ (fold-roll-Expr Measured measure_step (Expr-F.Product (values es))) (fold-roll-Expr Printed print_step (Expr-F.Product (values es))) (exact_chained (codes "*") 5 es refl refl)
exact_step (Expr-F.Not e) = made_exact (Expr-F.Not e.0) _ _ (fold-roll-Expr Measured measure_step (Expr-F.Not e.0)) (fold-roll-Expr Printed print_step (Expr-F.Not e.0)) (nests_behind (placed 6 (measured e.0)) (fixed (codes "!")) (in_place 6 (printed e.0)) refl refl (exact_place 6 e.0 e.1))
exact_step (Expr-F.Positive e) = made_exact (Expr-F.Positive e.0) _ _ (fold-roll-Expr Measured measure_step (Expr-F.Positive e.0)) (fold-roll-Expr Printed print_step (Expr-F.Positive e.0)) (nests_behind (placed 6 (measured e.0)) (fixed (codes "+")) (in_place 6 (printed e.0)) refl refl (exact_place 6 e.0 e.1))
exact_step (Expr-F.Negative e) = made_exact (Expr-F.Negative e.0) _ _ (fold-roll-Expr Measured measure_step (Expr-F.Negative e.0)) (fold-roll-Expr Printed print_step (Expr-F.Negative e.0)) (nests_behind (placed 6 (measured e.0)) (fixed (codes "-")) (in_place 6 (printed e.0)) refl refl (exact_place 6 e.0 e.1))
exact_step (Expr-F.Compare op a b) =
    made_exact (Expr-F.Compare op a.0 b.0) _ _ (fold-roll-Expr Measured measure_step (Expr-F.Compare op a.0 b.0)) (fold-roll-Expr Printed print_step (Expr-F.Compare op a.0 b.0))
    (nests_both (placed 3 (measured a.0)) (placed 3 (measured b.0)) (in_place 3 (printed a.0)) (fixed (comparison op) ∷ in_place 3 (printed b.0)) (exact_place 3 a.0 a.1) (nests_behind (placed 3 (measured b.0)) (fixed (comparison op)) (in_place 3 (printed b.0)) (comparison_plain op) (comparison_plain_too op) (exact_place 3 b.0 b.1)))
exact_step (Expr-F.Among negated a es) =
    made_exact (Expr-F.Among negated a.0 (values es)) _ _ (fold-roll-Expr Measured measure_step (Expr-F.Among negated a.0 (values es))) (fold-roll-Expr Printed print_step (Expr-F.Among negated a.0 (values es)))
    (nests_both (placed 3 (measured a.0)) (suc (most 0 (map measured (values es)))) (in_place 3 (printed a.0)) (among negated ++ listed (map printed (values es))) (exact_place 3 a.0 a.1) (exact_among (suc (most 0 (map measured (values es)))) negated (listed (map printed (values es))) (exact_listed es)))
exact_step (Expr-F.Sum a rest) =
    made_exact (Expr-F.Sum a.0 (addends rest)) _ _ (fold-roll-Expr Measured measure_step (Expr-F.Sum a.0 (addends rest))) (fold-roll-Expr Printed print_step (Expr-F.Sum a.0 (addends rest)))
    (nests_both (placed 4 (measured a.0)) (most_signed (map (λ (p : Sign × Expr). (p.0, measured p.1)) (addends rest))) (in_place 4 (printed a.0)) (signed (map (λ (p : Sign × Expr). (p.0, printed p.1)) (addends rest))) (exact_place 4 a.0 a.1) (exact_signed rest))
exact_step (Expr-F.Call f es) =
    made_exact (Expr-F.Call f (values es)) _ _ (fold-roll-Expr Measured measure_step (Expr-F.Call f (values es))) (fold-roll-Expr Printed print_step (Expr-F.Call f (values es)))
    (nests_behind (suc (most 0 (map measured (values es)))) (fixed (keyword f)) (listed (map printed (values es))) (keyword_plain f) (keyword_plain_too f) (exact_listed es))

exact : (e : Expr) → IsExact e
exact = ind-Expr IsExact (λ x y same. subst (λ (z : Expr-F Expr). IsExact (roll-Expr z)) same (exact_step y))

exact_condition : (e : Expr) → Nests (condition_nest (measured e)) (condition (printed e))
unfolding condition
exact_condition e = subst (λ (l : Level). Nests (cond (is_call l) (measured e).nest (suc (measured e).nest)) (cond (is_call (printed e).level) (printed e).words (in_brackets (printed e).words))) (law [] e).level (go (is_call (printed e).level))
  where
    go : (b : Bool) → Nests (cond b (measured e).nest (suc (measured e).nest)) (cond b (printed e).words (in_brackets (printed e).words))
    go true = exact e
    go false = nests_parens (measured e).nest (printed e).words (exact e)

pub filters_open_their_brackets : FiltersOpenTheirBrackets
filters_open_their_brackets e =
    ap (deepest 0) (ap element_words (sym (element.rolls-Filter e)) ∙ fold-roll-Element (List Word) (List Word) element_step group_step (Element-F.Filter e))
    ∙ ap (deepest 0) (sym (append-nil (fixed (codes "FILTER") ∷ condition (printed e))))
    ∙ (whole.is 0 [] ∙ same (condition_nest (measured e)))
  where
    whole : Nests (condition_nest (measured e)) (fixed (codes "FILTER") ∷ condition (printed e))
    whole = nests_behind (condition_nest (measured e)) (fixed (codes "FILTER")) (condition (printed e)) refl refl (exact_condition e)

    same : (n : ℕ) → max (0 + n) 0 ≡ n
    same n = omega arith
