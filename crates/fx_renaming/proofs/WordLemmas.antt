-- The words of an expression with a row's terms in it are its words, with a term or another name in the place of each variable.
use Rattle.std.proofs.Common.{◌≡◌, ◌∙◌, ap, sym, subst, refl, ℕ, Bool, true, false, List, [], ◌∷◌, ◌++◌, map, Option, Some, None, codes}
use Rattle.std.specs.Prelude.{nat_le, if◌then◌else◌}
use Rattle.std.proofs.lemmas.List.{map-append}
use Rattle.fx_terms.specs.declared.terms.Term.{Term}
use Rattle.fx_algebra.specs.Printed.{Printed, Word, fixed, among, chained, comparison, condition, in_brackets, in_place, is_call, keyword, listed, marked, print_step, printed, rank, sign, signed}
use Rattle.fx_algebra.specs.Solutions.{Bindings, term_of}
use Rattle.fx_algebra.specs.declared.expressions.Expr.{Expr, Expr-F, fold-roll-Expr, ind-Expr, map-Expr, roll-Expr}
use Rattle.fx_algebra.specs.declared.expressions.Sign.{Sign}
use Rattle.fx_renaming.specs.Branches.{BoundHasTheWords, bound_expr, bound_step, bound_word, expr_by, word_by}

module _ (rename : List ℕ → List ℕ) (row : Bindings) where
  abbrev bound : Expr → Expr
  bound = bound_expr rename row

  abbrev told : List Word → List Word
  told words = map (bound_word rename row) words

  -- the words of the one are those of the other, and their places need the same brackets
  record SameWords (p q : Printed) : Type 0 where
    words : p.words ≡ told q.words
    ranks : rank p.level ≡ rank q.level
    calls : is_call p.level ≡ is_call q.level

  brackets_told : (ws : List Word) → in_brackets (told ws) ≡ told (in_brackets ws)
  brackets_told ws = ap (λ (v : List Word). fixed (codes "(") ∷ v) (sym (map-append (bound_word rename row) ws (fixed (codes ")") ∷ [])))

  placed_told : (place : ℕ) (p q : Printed) → SameWords p q → in_place place p ≡ told (in_place place q)
  unfolding in_place
  placed_told place p q h =
      ap (λ (n : ℕ). if nat_le place n then p.words else in_brackets p.words) h.ranks
      ∙ ap (λ (v : List Word). if nat_le place (rank q.level) then v else in_brackets v) h.words
      ∙ by (nat_le place (rank q.level))
    where
      by : (b : Bool) → (if b then told q.words else in_brackets (told q.words)) ≡ told (if b then q.words else in_brackets q.words)
      by true = refl
      by false = brackets_told q.words

  abbrev IsSame : Expr → Type 0
  IsSame e = SameWords (printed (bound e)) (printed e)

  abbrev Same : Type 0
  Same = (e : Expr) × IsSame e

  abbrev exprs : List Same → List Expr
  exprs es = map (λ e. e.0) es

  abbrev addends : List (Sign × Same) → List (Sign × Expr)
  addends ps = map (λ (p : Sign × Same). (p.0, p.1.0)) ps

  abbrev bound_addends : List (Sign × Expr) → List (Sign × Expr)
  bound_addends ps = map (λ (p : Sign × Expr). (p.0, bound p.1)) ps

  abbrev texts : List Expr → List Printed
  texts es = map printed es

  abbrev signed_texts : List (Sign × Expr) → List (Sign × Printed)
  signed_texts ps = map (λ (p : Sign × Expr). (p.0, printed p.1)) ps

  marked_told : (mark : List ℕ) (place : ℕ) (es : List Same) → marked (fixed mark) (map (in_place place) (texts (map bound (exprs es)))) ≡ told (marked (fixed mark) (map (in_place place) (texts (exprs es))))
  marked_told mark place [] = refl
  marked_told mark place (e ∷ es) =
      let rest = marked (fixed mark) (map (in_place place) (texts (exprs es))) in
      ap (λ (v : List Word). fixed mark ∷ (v ++ marked (fixed mark) (map (in_place place) (texts (map bound (exprs es)))))) (placed_told place (printed (bound e.0)) (printed e.0) e.1)
      ∙ ap (λ (v : List Word). fixed mark ∷ (told (in_place place (printed e.0)) ++ v)) (marked_told mark place es)
      ∙ ap (λ (v : List Word). fixed mark ∷ v) (sym (map-append (bound_word rename row) (in_place place (printed e.0)) rest))

  chained_told : (mark : List ℕ) (place : ℕ) (es : List Same) → chained (fixed mark) place (texts (map bound (exprs es))) ≡ told (chained (fixed mark) place (texts (exprs es)))
  chained_told mark place [] = refl
  chained_told mark place (e ∷ es) =
      let rest = marked (fixed mark) (map (in_place place) (texts (exprs es))) in
      ap (λ (v : List Word). v ++ marked (fixed mark) (map (in_place place) (texts (map bound (exprs es))))) (placed_told place (printed (bound e.0)) (printed e.0) e.1)
      ∙ ap (λ (v : List Word). told (in_place place (printed e.0)) ++ v) (marked_told mark place es)
      ∙ sym (map-append (bound_word rename row) (in_place place (printed e.0)) rest)

  listed_told : (es : List Same) → listed (texts (map bound (exprs es))) ≡ told (listed (texts (exprs es)))
  listed_told es = ap in_brackets (chained_told (codes ",") 0 es) ∙ brackets_told (chained (fixed (codes ",")) 0 (texts (exprs es)))

  signed_told : (ps : List (Sign × Same)) → signed (signed_texts (bound_addends (addends ps))) ≡ told (signed (signed_texts (addends ps)))
  signed_told [] = refl
  signed_told (p ∷ ps) =
      let rest = signed (signed_texts (addends ps)) in
      ap (λ (v : List Word). fixed (sign p.0) ∷ (v ++ signed (signed_texts (bound_addends (addends ps))))) (placed_told 4 (printed (bound p.1.0)) (printed p.1.0) p.1.1)
      ∙ ap (λ (v : List Word). fixed (sign p.0) ∷ (told (in_place 4 (printed p.1.0)) ++ v)) (signed_told ps)
      ∙ ap (λ (v : List Word). fixed (sign p.0) ∷ v) (sym (map-append (bound_word rename row) (in_place 4 (printed p.1.0)) rest))

  among_told : (negated : Bool) → among negated ≡ told (among negated)
  among_told true = refl
  among_told false = refl

  by_layer : (x y : Expr-F Expr) → bound_step rename row (map-Expr Expr Expr bound x) ≡ roll-Expr y → SameWords (print_step (map-Expr Expr Printed printed y)) (print_step (map-Expr Expr Printed printed x)) → IsSame (roll-Expr x)
  by_layer x y is h =
      subst (λ (p : Printed). SameWords p (printed (roll-Expr x))) (sym (ap printed (fold-roll-Expr Expr (bound_step rename row) x ∙ is) ∙ fold-roll-Expr Printed print_step y))
      (subst (λ (p : Printed). SameWords (print_step (map-Expr Expr Printed printed y)) p) (sym (fold-roll-Expr Printed print_step x)) h)

  variable_same : (name : List ℕ) (o : Option Term) → term_of row name ≡ o → SameWords (printed (expr_by rename name o)) (printed (roll-Expr (Expr-F.Variable name)))
  variable_same name (Some t) e =
      subst (λ (p : Printed). SameWords p (printed (roll-Expr (Expr-F.Variable name)))) (sym (fold-roll-Expr Printed print_step (Expr-F.Constant t)))
      (subst (λ (p : Printed). SameWords (print_step (Expr-F.Constant t)) p) (sym (fold-roll-Expr Printed print_step (Expr-F.Variable name)))
      (record { words = ap (λ (o : Option Term). word_by rename name o ∷ []) (sym e); ranks = refl; calls = refl }))
  variable_same name None e =
      subst (λ (p : Printed). SameWords p (printed (roll-Expr (Expr-F.Variable name)))) (sym (fold-roll-Expr Printed print_step (Expr-F.Variable (rename name))))
      (subst (λ (p : Printed). SameWords (print_step (Expr-F.Variable (rename name))) p) (sym (fold-roll-Expr Printed print_step (Expr-F.Variable name)))
      (record { words = ap (λ (o : Option Term). word_by rename name o ∷ []) (sym e); ranks = refl; calls = refl }))

  layer_same : (y : Expr-F Same) → IsSame (roll-Expr (map-Expr Same Expr (λ e. e.0) y))
  layer_same (Expr-F.Variable name) =
      subst (λ (e : Expr). SameWords (printed e) (printed (roll-Expr (Expr-F.Variable name)))) (sym (fold-roll-Expr Expr (bound_step rename row) (Expr-F.Variable name))) (variable_same name (term_of row name) refl)
  layer_same (Expr-F.Constant c) = by_layer (Expr-F.Constant c) (Expr-F.Constant c) refl (record { words = refl; ranks = refl; calls = refl })
  layer_same (Expr-F.Or es) = by_layer (Expr-F.Or (exprs es)) (Expr-F.Or (map bound (exprs es))) refl (record { words = chained_told (codes "||") 1 es; ranks = refl; calls = refl })
  layer_same (Expr-F.And es) = by_layer (Expr-F.And (exprs es)) (Expr-F.And (map bound (exprs es))) refl (record { words = chained_told (codes "&&") 2 es; ranks = refl; calls = refl })
  layer_same (Expr-F.Not e) =
      by_layer (Expr-F.Not e.0) (Expr-F.Not (bound e.0)) refl (record { words = ap (λ (v : List Word). fixed (codes "!") ∷ v) (placed_told 6 (printed (bound e.0)) (printed e.0) e.1); ranks = refl; calls = refl })
  layer_same (Expr-F.Positive e) =
      by_layer (Expr-F.Positive e.0) (Expr-F.Positive (bound e.0)) refl (record { words = ap (λ (v : List Word). fixed (codes "+") ∷ v) (placed_told 6 (printed (bound e.0)) (printed e.0) e.1); ranks = refl; calls = refl })
  layer_same (Expr-F.Negative e) =
      by_layer (Expr-F.Negative e.0) (Expr-F.Negative (bound e.0)) refl (record { words = ap (λ (v : List Word). fixed (codes "-") ∷ v) (placed_told 6 (printed (bound e.0)) (printed e.0) e.1); ranks = refl; calls = refl })
  layer_same (Expr-F.Compare op a b) =
      by_layer (Expr-F.Compare op a.0 b.0) (Expr-F.Compare op (bound a.0) (bound b.0)) refl
      (record {
        words =
            ap (λ (v : List Word). v ++ (fixed (comparison op) ∷ in_place 3 (printed (bound b.0)))) (placed_told 3 (printed (bound a.0)) (printed a.0) a.1)
            ∙ ap (λ (v : List Word). told (in_place 3 (printed a.0)) ++ (fixed (comparison op) ∷ v)) (placed_told 3 (printed (bound b.0)) (printed b.0) b.1)
            ∙ sym (map-append (bound_word rename row) (in_place 3 (printed a.0)) (fixed (comparison op) ∷ in_place 3 (printed b.0)));
        ranks = refl;
        calls = refl;
      })
  layer_same (Expr-F.Among negated a es) =
      by_layer (Expr-F.Among negated a.0 (exprs es)) (Expr-F.Among negated (bound a.0) (map bound (exprs es))) refl
      (record {
        words =
            ap (λ (v : List Word). v ++ (among negated ++ listed (texts (map bound (exprs es))))) (placed_told 3 (printed (bound a.0)) (printed a.0) a.1)
            ∙ ap (λ (v : List Word). told (in_place 3 (printed a.0)) ++ (v ++ listed (texts (map bound (exprs es))))) (among_told negated)
            ∙ ap (λ (v : List Word). told (in_place 3 (printed a.0)) ++ (told (among negated) ++ v)) (listed_told es)
            ∙ ap (λ (v : List Word). told (in_place 3 (printed a.0)) ++ v) (sym (map-append (bound_word rename row) (among negated) (listed (texts (exprs es)))))
            ∙ sym (map-append (bound_word rename row) (in_place 3 (printed a.0)) (among negated ++ listed (texts (exprs es))));
        ranks = refl;
        calls = refl;
      })
  layer_same (Expr-F.Sum a ps) =
      by_layer (Expr-F.Sum a.0 (addends ps)) (Expr-F.Sum (bound a.0) (bound_addends (addends ps))) refl
      (record {
        words =
            ap (λ (v : List Word). v ++ signed (signed_texts (bound_addends (addends ps)))) (placed_told 4 (printed (bound a.0)) (printed a.0) a.1)
            ∙ ap (λ (v : List Word). told (in_place 4 (printed a.0)) ++ v) (signed_told ps)
            ∙ sym (map-append (bound_word rename row) (in_place 4 (printed a.0)) (signed (signed_texts (addends ps))));
        ranks = refl;
        calls = refl;
      })
  layer_same (Expr-F.Product es) = by_layer (Expr-F.Product (exprs es)) (Expr-F.Product (map bound (exprs es))) refl (record { words = chained_told (codes "*") 5 es; ranks = refl; calls = refl })
  layer_same (Expr-F.Call f es) =
      by_layer (Expr-F.Call f (exprs es)) (Expr-F.Call f (map bound (exprs es))) refl (record { words = ap (λ (v : List Word). fixed (keyword f) ∷ v) (listed_told es); ranks = refl; calls = refl })

  words_same : (e : Expr) → IsSame e
  words_same = ind-Expr IsSame (λ x y same. subst (λ (z : Expr-F Expr). IsSame (roll-Expr z)) same (layer_same y))

pub bound_has_the_words : BoundHasTheWords
unfolding condition
bound_has_the_words rename row e =
    let p = printed (bound_expr rename row e) in
    let q = printed e in
    let h = words_same rename row e in
    ap (λ (b : Bool). if b then p.words else in_brackets p.words) h.calls
    ∙ ap (λ (v : List Word). if is_call q.level then v else in_brackets v) h.words
    ∙ by (is_call q.level) q.words
  where
    by : (b : Bool) (ws : List Word) → (if b then map (bound_word rename row) ws else in_brackets (map (bound_word rename row) ws)) ≡ map (bound_word rename row) (if b then ws else in_brackets ws)
    by true ws = refl
    by false ws = brackets_told rename row ws
