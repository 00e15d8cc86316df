-- A printed expression is spelled by its tokens, where the grammar has it and enough brackets may be opened.
use Rattle.std.proofs.Common.{◌≡◌, ℕ, zero, suc, ◌≤◌, Bool, true, false, cond, List, [], ◌∷◌, ◌++◌, map, Some, None, refl, sym, ap, ◌∙◌, subst, arith, append-nil, inl, inr, ◌&&◌, nat_le, max}
use Rattle.std.specs.Prelude.{codes}
use Rattle.std.specs.List.{flat_map, list_all}
use Rattle.std.proofs.lemmas.Bool.{and_parts, leb-true, le-leb, cases_eq}
use Rattle.fx_terms.specs.declared.terms.Term.{Term}
use Rattle.fx_terms.specs.declared.terms.Term.TheVariants.{Iri, Literal}
use Rattle.fx_algebra.specs.Printed.{Word, fixed, variable, term, Level, disjunction, rank, Printed, in_place, in_brackets, marked, separated, chained, listed, comparison, sign, keyword, among, signed, print_step, printed, is_variable, is_call}
use Rattle.fx_algebra.specs.declared.expressions.Expr.{Expr, Expr-F, fold-roll-Expr, map-Expr, ind-Expr, roll-Expr}
use Rattle.fx_algebra.specs.declared.expressions.Expr.TheVariants as expr
use Rattle.fx_algebra.specs.declared.expressions.Compare.{Compare}
use Rattle.fx_algebra.specs.declared.expressions.Compare.TheVariants as compare
use Rattle.fx_algebra.specs.declared.expressions.Sign.{Sign}
use Rattle.fx_algebra.specs.declared.expressions.Sign.TheVariants as signs
use Rattle.fx_algebra.specs.declared.expressions.Function.{Function}
use Rattle.fx_algebra.specs.declared.expressions.Function.TheVariants as function
use Rattle.fx_grammar.specs.Rule.{Rule, token, seq, after, many, chain, nested}
use Rattle.fx_grammar.specs.Grammar as grammar
use Rattle.fx_grammar.specs.Grammar.{Prefixes}
use Rattle.fx_algebra.specs.Measures.{Measured, placed, most, most_signed, all_good, all_signed_good, is_some, is_chain, is_one, is_two, is_three, takes, measure_step, measured}
use Rattle.fx_spelling.specs.Printable.{AreFine, IsFine, said, term_tokens, fixed_token}
use Rattle.fx_grammar.specs.declared.kinds.Kind.{Kind}
use Rattle.fx_grammar.specs.declared.kinds.Kind.TheVariants as k
use Rattle.fx_grammar.specs.declared.kinds.Token.{Token}
use Rattle.fx_grammar.specs.declared.kinds.Token.TheVariants as symbol
use Rattle.fx_grammar.specs.declared.parts.Relative.TheVariants as relative
use Rattle.fx_spelling.proofs.Saying.{said_both}
use Rattle.fx_spelling.proofs.Spelling.{mark_said, after_said, before_said, parens_said, nested_said}
use Rattle.fx_spelling.proofs.Terms.{iri_said, literal_said, datatype_in_said, calm_term}
use Rattle.fx_spelling.proofs.Placing.{Passes, passes_none, passes_both, passes_less, passes_calm, passes_behind, passes_parens, is_calm}

-- ---- words of parts

pub fine_split : (xs ys : List Word) → AreFine (xs ++ ys) → AreFine xs × AreFine ys
fine_split [] ys h = (tt, h)
fine_split (x ∷ xs) ys h = let r = fine_split xs ys h.1 in ((h.0, r.0), r.1)

pub said_brackets : (words : List Word) → said (in_brackets words) ≡ symbol.Plain k.LeftParen ∷ (said words ++ symbol.Plain k.RightParen ∷ [])
said_brackets words = ap (λ (v : List Token). symbol.Plain k.LeftParen ∷ v) (said_both words (fixed (codes ")") ∷ []))

pub fine_brackets : (words : List Word) → AreFine (in_brackets words) → AreFine words
fine_brackets words h = (fine_split words (fixed (codes ")") ∷ []) h.1).0

-- lists of tokens with one between each two
abbrev pub marked_tokens : Token → List (List Token) → List Token
marked_tokens t parts = flat_map (λ part. t ∷ part) parts

abbrev pub separated_tokens : Token → List (List Token) → List Token
separated_tokens t [] = []
separated_tokens t (part ∷ parts) = part ++ marked_tokens t parts

marked_said : (text : List ℕ) (parts : List (List Word)) → said (marked (fixed text) parts) ≡ marked_tokens (fixed_token text) (map said parts)
marked_said text [] = refl
marked_said text (part ∷ parts) = ap (λ (v : List Token). fixed_token text ∷ v) (said_both part (marked (fixed text) parts) ∙ ap (λ (v : List Token). said part ++ v) (marked_said text parts))

pub separated_said : (text : List ℕ) (parts : List (List Word)) → said (separated (fixed text) parts) ≡ separated_tokens (fixed_token text) (map said parts)
separated_said text [] = refl
separated_said text (part ∷ parts) = said_both part (marked (fixed text) parts) ∙ ap (λ (v : List Token). said part ++ v) (marked_said text parts)

abbrev pub AllFine : List (List Word) → Type 0
AllFine [] = Unit {0}
AllFine (part ∷ parts) = AreFine part × AllFine parts

fine_marked : (mark : Word) (parts : List (List Word)) → AreFine (marked mark parts) → AllFine parts
fine_marked mark [] h = tt
fine_marked mark (part ∷ parts) h = let r = fine_split part (marked mark parts) h.1 in (r.0, fine_marked mark parts r.1)

pub fine_separated : (mark : Word) (parts : List (List Word)) → AreFine (separated mark parts) → AllFine parts
fine_separated mark [] h = tt
fine_separated mark (part ∷ parts) h = let r = fine_split part (marked mark parts) h in (r.0, fine_marked mark parts r.1)

-- ---- places that tokens of parts leave as they are

abbrev pub AllPass : Bool → ℕ → List (List Token) → Type 0
AllPass serves n [] = Unit {0}
AllPass serves n (part ∷ parts) = Passes serves n part × AllPass serves n parts

pub pass_marked : (serves : Bool) (n : ℕ) (t : Token) (parts : List (List Token)) → is_calm t ≡ true → AllPass serves n parts → Passes serves n (marked_tokens t parts)
pass_marked serves n t [] c h = passes_none serves n
pass_marked serves n t (part ∷ parts) c h = passes_both serves n (t ∷ part) (marked_tokens t parts) (passes_behind serves n t part c h.0) (pass_marked serves n t parts c h.1)

pub pass_separated : (serves : Bool) (n : ℕ) (t : Token) (parts : List (List Token)) → is_calm t ≡ true → AllPass serves n parts → Passes serves n (separated_tokens t parts)
pass_separated serves n t [] c h = passes_none serves n
pass_separated serves n t (part ∷ parts) c h = passes_both serves n part (marked_tokens t parts) h.0 (pass_marked serves n t parts c h.1)

-- ---- parts that a rule spells

abbrev pub AllSaid : {A : Type 0} → Rule A → List (List Token) → List A → Type 0
AllSaid a [] [] = Unit {0}
AllSaid a [] (x ∷ xs) = ⊥
AllSaid a (t ∷ ts) [] = ⊥
AllSaid a (t ∷ ts) (x ∷ xs) = a.spells t x × AllSaid a ts xs

many_marked : {A : Type 0} (mark : Kind) (a : Rule A) (ts : List (List Token)) (xs : List A) → AllSaid a ts xs → (many (after (token mark) a)).spells (marked_tokens (symbol.Plain mark) ts) xs
many_marked mark a [] [] h = refl
many_marked mark a [] (x ∷ xs) h = absurd h
many_marked mark a (t ∷ ts) [] h = absurd h
many_marked mark a (t ∷ ts) (x ∷ xs) h = (symbol.Plain mark ∷ t, marked_tokens (symbol.Plain mark) ts, refl, after_said mark a t x h.0, many_marked mark a ts xs h.1)

pub chain_said : {A : Type 0} (mark : Kind) (a : Rule A) (ts : List (List Token)) (xs : List A) → is_some xs ≡ true → AllSaid a ts xs → (chain mark a).spells (separated_tokens (symbol.Plain mark) ts) xs
chain_said mark a [] [] s h = absurd (cc (s))
chain_said mark a [] (x ∷ xs) s h = absurd h
chain_said mark a (t ∷ ts) [] s h = absurd h
chain_said mark a (t ∷ ts) (x ∷ xs) s h = ((x, xs), (t, marked_tokens (symbol.Plain mark) ts, refl, h.0, many_marked mark a ts xs h.1), refl)

module _ (ps : Prefixes) where
  -- what stands between brackets, where so many more may be opened
  abbrev pub inner : ℕ → Rule Expr
  inner n = nested (grammar.disjunction ps) n

  -- the rule of a place that reaches productions of a rank and above
  abbrev pub rule_at : ℕ → Rule Expr → Rule Expr
  rule_at zero a = grammar.disjunction ps a
  rule_at (suc zero) a = grammar.conjunction ps a
  rule_at (suc (suc zero)) a = grammar.relation ps a
  rule_at (suc (suc (suc zero))) a = grammar.sum ps a
  rule_at (suc (suc (suc (suc zero)))) a = grammar.product ps a
  rule_at (suc (suc (suc (suc (suc zero))))) a = grammar.unary ps a
  rule_at (suc (suc (suc (suc (suc (suc n)))))) a = grammar.primary ps a

  factor_said : (a : Rule Expr) (ts : List Token) (e : Expr) → (grammar.unary ps a).spells ts e → (grammar.factor ps a).spells ts e
  unfolding grammar.factor grammar.no_quotient
  factor_said a ts e s = ((e, None), (ts, [], sym (append-nil ts), s, refl), refl)

  down : (n : ℕ) (a : Rule Expr) (ts : List Token) (e : Expr) → (rule_at (suc n) a).spells ts e → (rule_at n a).spells ts e
  unfolding grammar.disjunction grammar.conjunction grammar.relation grammar.sum grammar.product grammar.unary
  down zero a ts e s = (e ∷ [], ((e, []), (ts, [], sym (append-nil ts), s, refl), refl), refl)
  down (suc zero) a ts e s = (e ∷ [], ((e, []), (ts, [], sym (append-nil ts), s, refl), refl), refl)
  down (suc (suc zero)) a ts e s = ((e, None), (ts, [], sym (append-nil ts), s, refl), refl)
  down (suc (suc (suc zero))) a ts e s = ((e, []), (ts, [], sym (append-nil ts), s, refl), refl)
  down (suc (suc (suc (suc zero)))) a ts e s = (e ∷ [], ((e, []), (ts, [], sym (append-nil ts), factor_said a ts e s, refl), refl), refl)
  down (suc (suc (suc (suc (suc zero))))) a ts e s = inr (inr (inr s))
  down (suc (suc (suc (suc (suc (suc n)))))) a ts e s = s

  pub lift : (place own : ℕ) (a : Rule Expr) (ts : List Token) (e : Expr) → place ≤ own → (rule_at own a).spells ts e → (rule_at place a).spells ts e
  lift place zero a ts e h s = let same : 0 ≡ place = omega (arith, h) in subst (λ (n : ℕ). (rule_at n a).spells ts e) same s
  lift place (suc own) a ts e h s = elim (cases_eq place (suc own)) [
    | inl same ↦ subst (λ (n : ℕ). (rule_at n a).spells ts e) (sym same) s
    | inr less ↦ lift place own a ts e (omega arith) (down own a ts e s)
  ]

  -- brackets make a primary of anything
  pub bracketed_said : (n : ℕ) (ts : List Token) (e : Expr) → (grammar.disjunction ps (inner n)).spells ts e → (grammar.primary ps (inner (suc n))).spells (symbol.Plain k.LeftParen ∷ (ts ++ symbol.Plain k.RightParen ∷ [])) e
  unfolding grammar.primary
  bracketed_said n ts e s = inl (parens_said (inner (suc n)) ts e (nested_said (grammar.disjunction ps) n ts e s))

  -- ---- the law at one expression

  pub record Law (p : Printed) (m : Measured) (e : Expr) : Type 0 where
    pub level : p.level ≡ m.level
    pub passes : Passes false m.nest (said p.words)
    pub spelled : m.good ≡ true → AreFine p.words → (n : ℕ) → m.nest ≤ n → (rule_at (rank p.level) (inner n)).spells (said p.words) e
    pub calls : is_call p.level ≡ true → m.good ≡ true → AreFine p.words → (n : ℕ) → m.nest ≤ n → (grammar.call (inner n)).spells (said p.words) e
    pub is_name : is_variable m.level ≡ true → (name : List ℕ) × (e ≡ expr.Variable name) × (p.words ≡ variable name ∷ [])

  -- the same in a place
  pub record LawAt (place : ℕ) (words : List Word) (nest : ℕ) (good : Bool) (e : Expr) : Type 0 where
    pub passes : Passes false nest (said words)
    pub spelled : good ≡ true → AreFine words → (n : ℕ) → nest ≤ n → (rule_at place (inner n)).spells (said words) e

  high : (l : Level) → rank l ≤ 6
  high disjunction = omega arith
  high _ = omega arith

  bracketed_at : (place n : ℕ) (p : Printed) (m : Measured) (e : Expr) → place ≤ 6 → Law p m e → m.good ≡ true → AreFine (in_brackets p.words) → suc m.nest ≤ n → (rule_at place (inner n)).spells (said (in_brackets p.words)) e
  bracketed_at place zero p m e h l g f b = absurd (omega (arith, b))
  bracketed_at place (suc n) p m e h l g f b =
      subst (λ (v : List Token). (rule_at place (inner (suc n))).spells v e) (sym (said_brackets p.words))
      (lift place 6 (inner (suc n)) _ e h (bracketed_said n (said p.words) e (lift 0 (rank p.level) (inner n) (said p.words) e (omega arith) (l.spelled g (fine_brackets p.words f) n (omega (arith, b))))))

  pass_brackets : (nest : ℕ) (words : List Word) → Passes false nest (said words) → Passes false (suc nest) (said (in_brackets words))
  pass_brackets nest words p = subst (Passes false (suc nest)) (sym (said_brackets words)) (passes_parens false nest (said words) p)

  pub in_place_so : (place : ℕ) → place ≤ 6 → (p : Printed) (m : Measured) (e : Expr) → Law p m e → LawAt place (in_place place p) (placed place m) m.good e
  unfolding in_place placed
  in_place_so place h p m e l = subst (λ (v : Level). LawAt place (cond (nat_le place (rank p.level)) p.words (in_brackets p.words)) (cond (nat_le place (rank v)) m.nest (suc m.nest)) m.good e) l.level (go (nat_le place (rank p.level)) refl)
    where
      go : (b : Bool) → nat_le place (rank p.level) ≡ b → LawAt place (cond b p.words (in_brackets p.words)) (cond b m.nest (suc m.nest)) m.good e
      go true r = record { passes = l.passes; spelled = λ g f n b. lift place (rank p.level) (inner n) (said p.words) e (leb-true place (rank p.level) r) (l.spelled g f n b) }
      go false r = record { passes = pass_brackets m.nest p.words l.passes; spelled = λ g f n b. bracketed_at place n p m e h l g f b }

  -- ---- parts

  -- an expression with the law at it
  abbrev pub Proved : Type 0
  Proved = (e : Expr) × Law (printed e) (measured e) e

  abbrev values : List Proved → List Expr
  values es = map (λ (e : Proved). e.0) es

  abbrev placed_words : ℕ → List Proved → List (List Word)
  placed_words place es = map (in_place place) (map printed (values es))

  parts_pass : (place : ℕ) → place ≤ 6 → (es : List Proved) (n : ℕ) → most place (map measured (values es)) ≤ n → AllPass false n (map said (placed_words place es))
  parts_pass place h [] n l = tt
  parts_pass place h (e ∷ es) n l =
      (passes_less false (placed place (measured e.0)) n (said (in_place place (printed e.0))) (omega (arith, l)) (in_place_so place h (printed e.0) (measured e.0) e.0 e.1).passes, parts_pass place h es n (omega (arith, l)))

  parts_said : (place : ℕ) → place ≤ 6 → (es : List Proved) (n : ℕ) → all_good (map measured (values es)) ≡ true → AllFine (placed_words place es) → most place (map measured (values es)) ≤ n → AllSaid (rule_at place (inner n)) (map said (placed_words place es)) (values es)
  parts_said place h [] n g f l = tt
  parts_said place h (e ∷ es) n g f l =
      let t = and_parts (measured e.0).good (all_good (map measured (values es))) g in
      ((in_place_so place h (printed e.0) (measured e.0) e.0 e.1).spelled t.0 f.0 n (omega (arith, l)), parts_said place h es n t.1 f.1 (omega (arith, l)))

  some_values : (es : List Proved) → is_chain (map measured (values es)) ≡ true → is_some (values es) ≡ true
  some_values [] h = absurd (cc (h))
  some_values (e ∷ es) h = refl

  chain_is : (make : List Expr → Expr) (es : List Proved) → is_chain (map measured (values es)) ≡ true → make (values es) ≡ grammar.one_or make (values es)
  chain_is make [] h = absurd (cc (h))
  chain_is make (e ∷ []) h = absurd (cc (h))
  chain_is make (e ∷ f ∷ es) h = refl

  chain_passes : (text : List ℕ) (place : ℕ) → place ≤ 6 → is_calm (fixed_token text) ≡ true → (es : List Proved) → Passes false (most place (map measured (values es))) (said (chained (fixed text) place (map printed (values es))))
  chain_passes text place h c es =
      subst (Passes false (most place (map measured (values es)))) (sym (separated_said text (placed_words place es)))
      (pass_separated false (most place (map measured (values es))) (fixed_token text) (map said (placed_words place es)) c (parts_pass place h es (most place (map measured (values es))) (omega arith)))

  -- ---- each variant

  variable_so : (name : List ℕ) → Law (print_step (Expr-F.Variable name)) (measure_step (Expr-F.Variable name)) (expr.Variable name)
  unfolding grammar.primary grammar.variable
  variable_so name = record { level = refl; is_name = λ h. (name, refl, refl); calls = λ h. absurd (cc (h)); passes = passes_calm false 0 (symbol.Variable name ∷ []) refl; spelled = λ g f n h. inr (inr (inr (inl (name, (symbol.Variable name, refl, refl, refl), refl)))) }

  constant_said : (t : Term) (n : ℕ) → IsFine (term t) → (grammar.primary ps (inner n)).spells (term_tokens t) (expr.Constant t)
  unfolding grammar.primary grammar.primary_iri grammar.primary_literal grammar.no_call
  constant_said (Iri a) n f = inr (inr (inl (a, ((a, None), (symbol.Iri a ∷ [], [], refl, iri_said ps a, refl), refl), refl)))
  constant_said (Literal l) n f = inr (inr (inr (inr (Literal l, literal_said (grammar.datatype_in true ps) (datatype_in_said ps true) l f, refl))))

  constant_so : (t : Term) → Law (print_step (Expr-F.Constant t)) (measure_step (Expr-F.Constant t)) (expr.Constant t)
  constant_so t =
      let same : said (term t ∷ []) ≡ term_tokens t = append-nil (term_tokens t) in
      record {
        level = refl;
        is_name = λ h. absurd (cc (h));
        calls = λ h. absurd (cc (h));
        passes = subst (Passes false 0) (sym same) (passes_calm false 0 (term_tokens t) (calm_term t));
        spelled = λ g f n h. subst (λ (v : List Token). (grammar.primary ps (inner n)).spells v (expr.Constant t)) (sym same) (constant_said t n f.0);
      }

  or_so : (es : List Proved) → Law (print_step (Expr-F.Or (map printed (values es)))) (measure_step (Expr-F.Or (map measured (values es)))) (expr.Or (values es))
  unfolding grammar.disjunction
  or_so es = record {
    level = refl;
    is_name = λ h. absurd (cc (h));
    calls = λ h. absurd (cc (h));
    passes = chain_passes (codes "||") 1 (omega arith) refl es;
    spelled = λ g f n h.
        let t = and_parts (is_chain (map measured (values es))) (all_good (map measured (values es))) g in
        subst (λ (v : List Token). (grammar.disjunction ps (inner n)).spells v (expr.Or (values es))) (sym (separated_said (codes "||") (placed_words 1 es)))
        (values es, chain_said k.OrOr (grammar.conjunction ps (inner n)) (map said (placed_words 1 es)) (values es) (some_values es t.0) (parts_said 1 (omega arith) es n t.1 (fine_separated (fixed (codes "||")) (placed_words 1 es) f) h), chain_is expr.Or es t.0);
  }

  and_so : (es : List Proved) → Law (print_step (Expr-F.And (map printed (values es)))) (measure_step (Expr-F.And (map measured (values es)))) (expr.And (values es))
  unfolding grammar.conjunction
  and_so es = record {
    level = refl;
    is_name = λ h. absurd (cc (h));
    calls = λ h. absurd (cc (h));
    passes = chain_passes (codes "&&") 2 (omega arith) refl es;
    spelled = λ g f n h.
        let t = and_parts (is_chain (map measured (values es))) (all_good (map measured (values es))) g in
        subst (λ (v : List Token). (grammar.conjunction ps (inner n)).spells v (expr.And (values es))) (sym (separated_said (codes "&&") (placed_words 2 es)))
        (values es, chain_said k.AndAnd (grammar.relation ps (inner n)) (map said (placed_words 2 es)) (values es) (some_values es t.0) (parts_said 2 (omega arith) es n t.1 (fine_separated (fixed (codes "&&")) (placed_words 2 es) f) h), chain_is expr.And es t.0);
  }

  all_factors : (a : Rule Expr) (ts : List (List Token)) (es : List Expr) → AllSaid (grammar.unary ps a) ts es → AllSaid (grammar.factor ps a) ts es
  all_factors a [] [] h = tt
  all_factors a [] (e ∷ es) h = absurd h
  all_factors a (t ∷ ts) [] h = absurd h
  all_factors a (t ∷ ts) (e ∷ es) h = (factor_said a t e h.0, all_factors a ts es h.1)

  product_so : (es : List Proved) → Law (print_step (Expr-F.Product (map printed (values es)))) (measure_step (Expr-F.Product (map measured (values es)))) (expr.Product (values es))
  unfolding grammar.product
  product_so es = record {
    level = refl;
    is_name = λ h. absurd (cc (h));
    calls = λ h. absurd (cc (h));
    passes = chain_passes (codes "*") 5 (omega arith) refl es;
    spelled = λ g f n h.
        let t = and_parts (is_chain (map measured (values es))) (all_good (map measured (values es))) g in
        subst (λ (v : List Token). (grammar.product ps (inner n)).spells v (expr.Product (values es))) (sym (separated_said (codes "*") (placed_words 5 es))) (
          values es,
          chain_said k.Star (grammar.factor ps (inner n)) (map said (placed_words 5 es)) (values es) (some_values es t.0)
              (all_factors (inner n) (map said (placed_words 5 es)) (values es) (parts_said 5 (omega arith) es n t.1 (fine_separated (fixed (codes "*")) (placed_words 5 es) f) h)),
          chain_is expr.Product es t.0,
        );
  }

  not_so : (e : Proved) → Law (print_step (Expr-F.Not (printed e.0))) (measure_step (Expr-F.Not (measured e.0))) (expr.Not e.0)
  unfolding grammar.unary
  not_so e =
      let l = in_place_so 6 (omega arith) (printed e.0) (measured e.0) e.0 e.1 in
      record {
        level = refl;
        is_name = λ h. absurd (cc (h));
        calls = λ h. absurd (cc (h));
        passes = passes_behind false (placed 6 (measured e.0)) (symbol.Plain k.Bang) (said (in_place 6 (printed e.0))) refl l.passes;
        spelled = λ g f n h. inl (e.0, after_said k.Bang (grammar.primary ps (inner n)) (said (in_place 6 (printed e.0))) e.0 (l.spelled g f.1 n h), refl);
      }

  positive_so : (e : Proved) → Law (print_step (Expr-F.Positive (printed e.0))) (measure_step (Expr-F.Positive (measured e.0))) (expr.Positive e.0)
  unfolding grammar.unary
  positive_so e =
      let l = in_place_so 6 (omega arith) (printed e.0) (measured e.0) e.0 e.1 in
      record {
        level = refl;
        is_name = λ h. absurd (cc (h));
        calls = λ h. absurd (cc (h));
        passes = passes_behind false (placed 6 (measured e.0)) (symbol.Plain k.Plus) (said (in_place 6 (printed e.0))) refl l.passes;
        spelled = λ g f n h. inr (inl (e.0, after_said k.Plus (grammar.primary ps (inner n)) (said (in_place 6 (printed e.0))) e.0 (l.spelled g f.1 n h), refl));
      }

  negative_so : (e : Proved) → Law (print_step (Expr-F.Negative (printed e.0))) (measure_step (Expr-F.Negative (measured e.0))) (expr.Negative e.0)
  unfolding grammar.unary
  negative_so e =
      let l = in_place_so 6 (omega arith) (printed e.0) (measured e.0) e.0 e.1 in
      record {
        level = refl;
        is_name = λ h. absurd (cc (h));
        calls = λ h. absurd (cc (h));
        passes = passes_behind false (placed 6 (measured e.0)) (symbol.Plain k.Dash) (said (in_place 6 (printed e.0))) refl l.passes;
        spelled = λ g f n h. inr (inr (inl (e.0, after_said k.Dash (grammar.primary ps (inner n)) (said (in_place 6 (printed e.0))) e.0 (l.spelled g f.1 n h), refl)));
      }

  compare_token : (op : Compare) → fixed_token (comparison op) ≡ symbol.Comparison op
  compare_token compare.Equal = refl
  compare_token compare.NotEqual = refl
  compare_token compare.Less = refl
  compare_token compare.Greater = refl
  compare_token compare.LessOrEqual = refl
  compare_token compare.GreaterOrEqual = refl

  compare_so : (op : Compare) (a b : Proved) → Law (print_step (Expr-F.Compare op (printed a.0) (printed b.0))) (measure_step (Expr-F.Compare op (measured a.0) (measured b.0))) (expr.Compare op a.0 b.0)
  unfolding grammar.relation grammar.compared
  compare_so op a b =
      let l = in_place_so 3 (omega arith) (printed a.0) (measured a.0) a.0 a.1 in
      let r = in_place_so 3 (omega arith) (printed b.0) (measured b.0) b.0 b.1 in
      let nest = max (placed 3 (measured a.0)) (placed 3 (measured b.0)) in
      let left = in_place 3 (printed a.0) in
      let right = in_place 3 (printed b.0) in
      let same : said (left ++ (fixed (comparison op) ∷ right)) ≡ said left ++ symbol.Comparison op ∷ said right = said_both left (fixed (comparison op) ∷ right) ∙ ap (λ (t : Token). said left ++ t ∷ said right) (compare_token op) in
      record {
        level = refl;
        is_name = λ h. absurd (cc (h));
        calls = λ h. absurd (cc (h));
        passes = subst (Passes false nest) (sym same) (passes_both false nest (said left) (symbol.Comparison op ∷ said right) (passes_less false (placed 3 (measured a.0)) nest (said left) (omega arith) l.passes)
            (passes_behind false nest (symbol.Comparison op) (said right) refl (passes_less false (placed 3 (measured b.0)) nest (said right) (omega arith) r.passes)));
        spelled = λ g f n h.
            let t = and_parts (measured a.0).good (measured b.0).good g in
            let u = fine_split left (fixed (comparison op) ∷ right) f in
            subst (λ (v : List Token). (grammar.relation ps (inner n)).spells v (expr.Compare op a.0 b.0)) (sym same) (
              (a.0, Some (relative.Compared op b.0)),
              (
                said left,
                symbol.Comparison op ∷ said right,
                refl,
                l.spelled t.0 u.0 n (omega (arith, h)),
                inl ((op, b.0), (symbol.Comparison op ∷ [], said right, refl, (symbol.Comparison op, refl, refl, refl), r.spelled t.1 u.1.1 n (omega (arith, h))), refl),
              ),
              refl,
            );
      }

  -- ---- lists

  all_nested : (n : ℕ) (ts : List (List Token)) (es : List Expr) → AllSaid (grammar.disjunction ps (inner n)) ts es → AllSaid (inner (suc n)) ts es
  all_nested n [] [] h = tt
  all_nested n [] (e ∷ es) h = absurd h
  all_nested n (t ∷ ts) [] h = absurd h
  all_nested n (t ∷ ts) (e ∷ es) h = (nested_said (grammar.disjunction ps) n t e h.0, all_nested n ts es h.1)

  list_said : (a : Rule Expr) (ts : List (List Token)) (es : List Expr) → AllSaid a ts es → (grammar.list a).spells (symbol.Plain k.LeftParen ∷ (separated_tokens (symbol.Plain k.Comma) ts ++ symbol.Plain k.RightParen ∷ [])) es
  unfolding grammar.list
  list_said a [] [] h = ((tt, []), (symbol.Plain k.LeftParen ∷ [], symbol.Plain k.RightParen ∷ [], refl, mark_said k.LeftParen, inl (tt, mark_said k.RightParen, refl)), refl)
  list_said a [] (e ∷ es) h = absurd h
  list_said a (t ∷ ts) [] h = absurd h
  list_said a (t ∷ ts) (e ∷ es) h = (
    (tt, e ∷ es),
    (
      symbol.Plain k.LeftParen ∷ [],
      separated_tokens (symbol.Plain k.Comma) (t ∷ ts) ++ symbol.Plain k.RightParen ∷ [],
      refl,
      mark_said k.LeftParen,
      inr (before_said (chain k.Comma a) k.RightParen (separated_tokens (symbol.Plain k.Comma) (t ∷ ts)) (e ∷ es) (chain_said k.Comma a (t ∷ ts) (e ∷ es) refl h)),
    ),
    refl,
  )

  abbrev list_tokens : List Proved → List Token
  list_tokens es = symbol.Plain k.LeftParen ∷ (separated_tokens (symbol.Plain k.Comma) (map said (placed_words 0 es)) ++ symbol.Plain k.RightParen ∷ [])

  listed_said : (es : List Proved) → said (listed (map printed (values es))) ≡ list_tokens es
  listed_said es =
      said_brackets (chained (fixed (codes ",")) 0 (map printed (values es))) ∙ ap (λ (v : List Token). symbol.Plain k.LeftParen ∷ (v ++ symbol.Plain k.RightParen ∷ [])) (separated_said (codes ",") (placed_words 0 es))

  list_passes : (es : List Proved) → Passes false (suc (most 0 (map measured (values es)))) (said (listed (map printed (values es))))
  list_passes es = pass_brackets (most 0 (map measured (values es))) (chained (fixed (codes ",")) 0 (map printed (values es))) (chain_passes (codes ",") 0 (omega arith) refl es)

  -- the arguments, where the brackets round them are open
  args_said : (es : List Proved) (n : ℕ) → all_good (map measured (values es)) ≡ true → AreFine (listed (map printed (values es))) → suc (most 0 (map measured (values es))) ≤ n → AllSaid (inner n) (map said (placed_words 0 es)) (values es)
  args_said es zero g f h = absurd (omega (arith, h))
  args_said es (suc n) g f h = all_nested n (map said (placed_words 0 es)) (values es) (parts_said 0 (omega arith) es n g (fine_separated (fixed (codes ",")) (placed_words 0 es) (fine_brackets (chained (fixed (codes ",")) 0 (map printed (values es))) f)) (omega (arith, h)))

  -- IN or NOT IN, and a list
  among_relative : (a : Rule Expr) (b : Bool) (ts : List Token) (es : List Expr) → (grammar.list a).spells ts es → (grammar.among ps a).spells (said (among b) ++ ts) (relative.Among b es)
  unfolding grammar.among
  among_relative a true ts es s = ((Some tt, es), (symbol.Plain k.Not ∷ [], symbol.Plain k.In ∷ ts, refl, mark_said k.Not, after_said k.In (grammar.list a) ts es s), refl)
  among_relative a false ts es s = ((None, es), ([], symbol.Plain k.In ∷ ts, refl, refl, after_said k.In (grammar.list a) ts es s), refl)

  calm_among : (b : Bool) → list_all is_calm (said (among b)) ≡ true
  calm_among true = refl
  calm_among false = refl

  among_so : (negated : Bool) (a : Proved) (es : List Proved) → Law (print_step (Expr-F.Among negated (printed a.0) (map printed (values es)))) (measure_step (Expr-F.Among negated (measured a.0) (map measured (values es)))) (expr.Among negated a.0 (values es))
  unfolding grammar.relation
  among_so negated a es =
      let l = in_place_so 3 (omega arith) (printed a.0) (measured a.0) a.0 a.1 in
      let item : List Word = in_place 3 (printed a.0) in
      let list : List Word = listed (map printed (values es)) in
      let nest : ℕ = max (placed 3 (measured a.0)) (suc (most 0 (map measured (values es)))) in
      let same : said (item ++ (among negated ++ list)) ≡ said item ++ (said (among negated) ++ said list) = said_both item (among negated ++ list) ∙ ap (λ (v : List Token). said item ++ v) (said_both (among negated) list) in
      record {
        level = refl;
        is_name = λ h. absurd (cc (h));
        calls = λ h. absurd (cc (h));
        passes = subst (Passes false nest) (sym same) (passes_both false nest (said item) (said (among negated) ++ said list) (passes_less false (placed 3 (measured a.0)) nest (said item) (omega arith) l.passes)
            (passes_both false nest (said (among negated)) (said list) (passes_calm false nest (said (among negated)) (calm_among negated)) (passes_less false (suc (most 0 (map measured (values es)))) nest (said list) (omega arith) (list_passes es))));
        spelled = λ g f n h.
            let t = and_parts (measured a.0).good (all_good (map measured (values es))) g in
            let u = fine_split item (among negated ++ list) f in
            let w = fine_split (among negated) list u.1 in
            let args = list_said (inner n) (map said (placed_words 0 es)) (values es) (args_said es n t.1 w.1 (omega (arith, h))) in
            let whole : (grammar.list (inner n)).spells (said list) (values es) = subst (λ (v : List Token). (grammar.list (inner n)).spells v (values es)) (sym (listed_said es)) args in
            subst (λ (v : List Token). (grammar.relation ps (inner n)).spells v (expr.Among negated a.0 (values es))) (sym same)
            ((a.0, Some (relative.Among negated (values es))), (said item, said (among negated) ++ said list, refl, l.spelled t.0 u.0 n (omega (arith, h)), inr (among_relative (inner n) negated (said list) (values es) whole)), refl);
      }

  -- ---- sums

  abbrev addends : List (Sign × Proved) → List (Sign × Expr)
  addends rest = map (λ (p : Sign × Proved). (p.0, p.1.0)) rest

  abbrev printed_addends : List (Sign × Proved) → List (Sign × Printed)
  printed_addends rest = map (λ (p : Sign × Expr). (p.0, printed p.1)) (addends rest)

  abbrev measured_addends : List (Sign × Proved) → List (Sign × Measured)
  measured_addends rest = map (λ (p : Sign × Expr). (p.0, measured p.1)) (addends rest)

  sign_said : (s : Sign) (a : Rule Expr) (ts : List Token) (e : Expr) → (grammar.product ps a).spells ts e → (grammar.addend ps a).spells (fixed_token (sign s) ∷ ts) (s, e)
  unfolding grammar.addend grammar.signed_product
  sign_said signs.Plus a ts e h = inl (symbol.Plain k.Plus ∷ [], ts, refl, inl (tt, mark_said k.Plus, refl), h)
  sign_said signs.Minus a ts e h = inl (symbol.Plain k.Dash ∷ [], ts, refl, inr (tt, mark_said k.Dash, refl), h)

  calm_sign : (s : Sign) → is_calm (fixed_token (sign s)) ≡ true
  calm_sign signs.Plus = refl
  calm_sign signs.Minus = refl

  addends_pass : (rest : List (Sign × Proved)) (n : ℕ) → most_signed (measured_addends rest) ≤ n → Passes false n (said (signed (printed_addends rest)))
  addends_pass [] n h = passes_none false n
  addends_pass (a ∷ rest) n h =
      let word : List Word = in_place 4 (printed a.1.0) in
      let behind : List Word = signed (printed_addends rest) in
      passes_behind false n (fixed_token (sign a.0)) (said (word ++ behind)) (calm_sign a.0)
      (subst (Passes false n) (sym (said_both word behind)) (passes_both false n (said word) (said behind)
      (passes_less false (placed 4 (measured a.1.0)) n (said word) (omega (arith, h)) (in_place_so 4 (omega arith) (printed a.1.0) (measured a.1.0) a.1.0 a.1.1).passes) (addends_pass rest n (omega (arith, h)))))

  addends_said : (rest : List (Sign × Proved)) (n : ℕ) → all_signed_good (measured_addends rest) ≡ true → AreFine (signed (printed_addends rest)) → most_signed (measured_addends rest) ≤ n → (many (grammar.addend ps (inner n))).spells (said (signed (printed_addends rest))) (addends rest)
  addends_said [] n g f h = refl
  addends_said (a ∷ rest) n g f h =
      let word : List Word = in_place 4 (printed a.1.0) in
      let behind : List Word = signed (printed_addends rest) in
      let t = and_parts (measured a.1.0).good (all_signed_good (measured_addends rest)) g in
      let u = fine_split word behind f.1 in (
        fixed_token (sign a.0) ∷ said word,
        said behind,
        ap (λ (v : List Token). fixed_token (sign a.0) ∷ v) (said_both word behind),
        sign_said a.0 (inner n) (said word) a.1.0 ((in_place_so 4 (omega arith) (printed a.1.0) (measured a.1.0) a.1.0 a.1.1).spelled t.0 u.0 n (omega (arith, h))),
        addends_said rest n t.1 u.1 (omega (arith, h)),
      )

  summed_is : (first : Expr) (rest : List (Sign × Proved)) → is_some (measured_addends rest) ≡ true → expr.Sum first (addends rest) ≡ grammar.summed first (addends rest)
  summed_is first [] h = absurd (cc (h))
  summed_is first (a ∷ rest) h = refl

  sum_so : (a : Proved) (rest : List (Sign × Proved)) → Law (print_step (Expr-F.Sum (printed a.0) (printed_addends rest))) (measure_step (Expr-F.Sum (measured a.0) (measured_addends rest))) (expr.Sum a.0 (addends rest))
  unfolding grammar.sum
  sum_so a rest =
      let l = in_place_so 4 (omega arith) (printed a.0) (measured a.0) a.0 a.1 in
      let word : List Word = in_place 4 (printed a.0) in
      let behind : List Word = signed (printed_addends rest) in
      let nest : ℕ = max (placed 4 (measured a.0)) (most_signed (measured_addends rest)) in
      record {
        level = refl;
        is_name = λ h. absurd (cc (h));
        calls = λ h. absurd (cc (h));
        passes = subst (Passes false nest) (sym (said_both word behind)) (passes_both false nest (said word) (said behind) (passes_less false (placed 4 (measured a.0)) nest (said word) (omega arith) l.passes) (addends_pass rest nest (omega arith)));
        spelled = λ g f n h.
            let t = and_parts (measured a.0).good (is_some (measured_addends rest) && all_signed_good (measured_addends rest)) g in
            let w = and_parts (is_some (measured_addends rest)) (all_signed_good (measured_addends rest)) t.1 in
            let u = fine_split word behind f in
            ((a.0, addends rest), (said word, said behind, said_both word behind, l.spelled t.0 u.0 n (omega (arith, h)), addends_said rest n w.1 u.1 (omega (arith, h))), summed_is a.0 rest w.0);
      }

  -- ---- calls

  one_map : {X Y : Type 0} (f : X → Y) (xs : List X) → is_one (map f xs) ≡ is_one xs
  one_map f [] = refl
  one_map f (x ∷ []) = refl
  one_map f (x ∷ y ∷ xs) = refl

  two_map : {X Y : Type 0} (f : X → Y) (xs : List X) → is_two (map f xs) ≡ is_two xs
  two_map f [] = refl
  two_map f (x ∷ xs) = one_map f xs

  three_map : {X Y : Type 0} (f : X → Y) (xs : List X) → is_three (map f xs) ≡ is_three xs
  three_map f [] = refl
  three_map f (x ∷ xs) = two_map f xs

  abbrev call_tokens : Function → List (List Token) → List Token
  call_tokens f ts = fixed_token (keyword f) ∷ symbol.Plain k.LeftParen ∷ (separated_tokens (symbol.Plain k.Comma) ts ++ symbol.Plain k.RightParen ∷ [])

  behind_token : Token → List Token → List Token
  behind_token t ts = t ∷ symbol.Plain k.LeftParen ∷ (ts ++ symbol.Plain k.RightParen ∷ [])

  call_one : (a : Rule Expr) (f : Function) (ts : List (List Token)) (es : List Expr) → is_one es ≡ true → AllSaid a ts es → (grammar.call a).spells (behind_token (symbol.One f) (separated_tokens (symbol.Plain k.Comma) ts)) (expr.Call f es)
  unfolding grammar.call grammar.one_call behind_token
  call_one a f [] [] o h = absurd (cc (o))
  call_one a f [] (e ∷ es) o h = absurd h
  call_one a f (t ∷ ts) [] o h = absurd h
  call_one a f (t ∷ []) (e ∷ []) o h =
      subst (λ (v : List Token). (grammar.call a).spells (symbol.One f ∷ symbol.Plain k.LeftParen ∷ (v ++ symbol.Plain k.RightParen ∷ [])) (expr.Call f (e ∷ []))) (sym (append-nil t))
      (inr (inr (inr (inl ((f, e), (symbol.One f ∷ [], symbol.Plain k.LeftParen ∷ (t ++ symbol.Plain k.RightParen ∷ []), refl, (symbol.One f, refl, refl, refl), parens_said a t e h.0), refl)))))
  call_one a f (t ∷ u ∷ ts) (e ∷ []) o h = absurd h.1
  call_one a f (t ∷ []) (e ∷ d ∷ es) o h = absurd (cc (o))
  call_one a f (t ∷ u ∷ ts) (e ∷ d ∷ es) o h = absurd (cc (o))

  two_tokens : (t u : List Token) → (t ++ ((symbol.Plain k.Comma ∷ u) ++ [])) ≡ t ++ (symbol.Plain k.Comma ∷ u)
  two_tokens t u = ap (λ (v : List Token). t ++ v) (append-nil (symbol.Plain k.Comma ∷ u))

  call_two : (a : Rule Expr) (f : Function) (ts : List (List Token)) (es : List Expr) → is_two es ≡ true → AllSaid a ts es → (grammar.call a).spells (behind_token (symbol.Two f) (separated_tokens (symbol.Plain k.Comma) ts)) (expr.Call f es)
  unfolding grammar.call grammar.two_call grammar.two_args behind_token
  call_two a f (t ∷ u ∷ []) (e ∷ d ∷ []) o h =
      subst (λ (v : List Token). (grammar.call a).spells (symbol.Two f ∷ symbol.Plain k.LeftParen ∷ (v ++ symbol.Plain k.RightParen ∷ [])) (expr.Call f (e ∷ d ∷ []))) (sym (two_tokens t u))
      (inr (inr (inr (inr (inl (
        (f, (e, d)),
        (
          symbol.Two f ∷ [],
          symbol.Plain k.LeftParen ∷ ((t ++ symbol.Plain k.Comma ∷ u) ++ symbol.Plain k.RightParen ∷ []),
          refl,
          (symbol.Two f, refl, refl, refl),
          parens_said (grammar.two_args a) (t ++ symbol.Plain k.Comma ∷ u) (e, d) (t, symbol.Plain k.Comma ∷ u, refl, h.0, after_said k.Comma a u d h.1.0),
        ),
        refl,
      ))))))
  call_two a f [] [] o h = absurd (cc (o))
  call_two a f [] (e ∷ es) o h = absurd h
  call_two a f (t ∷ ts) [] o h = absurd h
  call_two a f (t ∷ []) (e ∷ []) o h = absurd (cc (o))
  call_two a f (t ∷ u ∷ ts) (e ∷ []) o h = absurd (cc (o))
  call_two a f (t ∷ []) (e ∷ d ∷ es) o h = absurd h.1
  call_two a f (t ∷ u ∷ v ∷ ts) (e ∷ d ∷ []) o h = absurd h.1.1
  call_two a f (t ∷ u ∷ ts) (e ∷ d ∷ c ∷ es) o h = absurd (cc (o))

  three_tokens : (t u w : List Token) → (t ++ ((symbol.Plain k.Comma ∷ u) ++ ((symbol.Plain k.Comma ∷ w) ++ []))) ≡ t ++ (symbol.Plain k.Comma ∷ (u ++ symbol.Plain k.Comma ∷ w))
  three_tokens t u w = ap (λ (v : List Token). t ++ (symbol.Plain k.Comma ∷ (u ++ v))) (append-nil (symbol.Plain k.Comma ∷ w))

  call_three : (a : Rule Expr) (ts : List (List Token)) (es : List Expr) → is_three es ≡ true → AllSaid a ts es → (grammar.call a).spells (behind_token (symbol.Plain k.If) (separated_tokens (symbol.Plain k.Comma) ts)) (expr.Call function.If es)
  unfolding grammar.call grammar.if_call grammar.two_args behind_token
  call_three a (t ∷ u ∷ w ∷ []) (e ∷ d ∷ c ∷ []) o h =
      subst (λ (v : List Token). (grammar.call a).spells (symbol.Plain k.If ∷ symbol.Plain k.LeftParen ∷ (v ++ symbol.Plain k.RightParen ∷ [])) (expr.Call function.If (e ∷ d ∷ c ∷ []))) (sym (three_tokens t u w))
      (inr (inr (inl (
        (e, (d, c)),
        after_said k.If (grammar.parens (seq a (after (token k.Comma) (grammar.two_args a)))) (symbol.Plain k.LeftParen ∷ ((t ++ symbol.Plain k.Comma ∷ (u ++ symbol.Plain k.Comma ∷ w)) ++ symbol.Plain k.RightParen ∷ [])) (e, (d, c))
            (parens_said (seq a (after (token k.Comma) (grammar.two_args a))) (t ++ symbol.Plain k.Comma ∷ (u ++ symbol.Plain k.Comma ∷ w)) (e, (d, c))
            (t, symbol.Plain k.Comma ∷ (u ++ symbol.Plain k.Comma ∷ w), refl, h.0, after_said k.Comma (grammar.two_args a) (u ++ symbol.Plain k.Comma ∷ w) (d, c) (u, symbol.Plain k.Comma ∷ w, refl, h.1.0, after_said k.Comma a w c h.1.1.0))),
        refl,
      ))))
  call_three a [] [] o h = absurd (cc (o))
  call_three a [] (e ∷ es) o h = absurd h
  call_three a (t ∷ ts) [] o h = absurd h
  call_three a (t ∷ []) (e ∷ []) o h = absurd (cc (o))
  call_three a (t ∷ u ∷ ts) (e ∷ []) o h = absurd (cc (o))
  call_three a (t ∷ []) (e ∷ d ∷ es) o h = absurd h.1
  call_three a (t ∷ u ∷ []) (e ∷ d ∷ []) o h = absurd (cc (o))
  call_three a (t ∷ u ∷ w ∷ ts) (e ∷ d ∷ []) o h = absurd (cc (o))
  call_three a (t ∷ u ∷ []) (e ∷ d ∷ c ∷ es) o h = absurd h.1.1
  call_three a (t ∷ u ∷ w ∷ v ∷ ts) (e ∷ d ∷ c ∷ []) o h = absurd h.1.1.1
  call_three a (t ∷ u ∷ w ∷ ts) (e ∷ d ∷ c ∷ b ∷ es) o h = absurd (cc (o))

  call_any : (a : Rule Expr) (ts : List (List Token)) (es : List Expr) → AllSaid a ts es → (grammar.call a).spells (behind_token (symbol.Plain k.Coalesce) (separated_tokens (symbol.Plain k.Comma) ts)) (expr.Call function.Coalesce es)
  unfolding grammar.call grammar.coalesce_call behind_token
  call_any a ts es h = inr (inl (es, after_said k.Coalesce (grammar.list a) (symbol.Plain k.LeftParen ∷ (separated_tokens (symbol.Plain k.Comma) ts ++ symbol.Plain k.RightParen ∷ [])) es (list_said a ts es h), refl))

  variable_tokens : (e : Proved) (name : List ℕ) → (printed e.0).words ≡ variable name ∷ [] → said (in_place 0 (printed e.0)) ≡ symbol.Variable name ∷ []
  unfolding in_place
  variable_tokens e name w = ap (λ (b : Bool). said (cond b (printed e.0).words (in_brackets (printed e.0).words))) (le-leb 0 (rank (printed e.0).level) (omega arith)) ∙ ap said w

  bound_said : (a : Rule Expr) (name : List ℕ) → (grammar.call a).spells (behind_token (symbol.Plain k.Bound) (symbol.Variable name ∷ [])) (expr.Call function.Bound (expr.Variable name ∷ []))
  unfolding grammar.call grammar.bound_call grammar.variable behind_token
  bound_said a name = inl (name, after_said k.Bound (grammar.parens grammar.variable) (symbol.Plain k.LeftParen ∷ (symbol.Variable name ∷ symbol.Plain k.RightParen ∷ [])) name (parens_said grammar.variable (symbol.Variable name ∷ []) name (symbol.Variable name, refl, refl, refl)), refl)

  call_bound : (a : Rule Expr) (es : List Proved) → takes function.Bound (map measured (values es)) ≡ true → (grammar.call a).spells (behind_token (symbol.Plain k.Bound) (separated_tokens (symbol.Plain k.Comma) (map said (placed_words 0 es)))) (expr.Call function.Bound (values es))
  call_bound a [] h = absurd (cc (h))
  call_bound a (e ∷ []) h =
      let n = e.1.is_name (and_parts (is_variable (measured e.0).level) true h).0 in
      let tokens : said (in_place 0 (printed e.0)) ++ [] ≡ symbol.Variable n.0 ∷ [] = append-nil (said (in_place 0 (printed e.0))) ∙ variable_tokens e n.0 n.2 in
      subst (λ (v : List Token). (grammar.call a).spells (behind_token (symbol.Plain k.Bound) v) (expr.Call function.Bound (e.0 ∷ []))) (sym tokens)
      (subst (λ (v : Expr). (grammar.call a).spells (behind_token (symbol.Plain k.Bound) (symbol.Variable n.0 ∷ [])) (expr.Call function.Bound (v ∷ []))) (sym n.1) (bound_said a n.0))
  call_bound a (e ∷ d ∷ es) h = absurd (cc (h))

  module _ (es : List Proved) where
    ones : is_one (map measured (values es)) ≡ true → is_one (values es) ≡ true
    ones h = sym (one_map measured (values es)) ∙ h

    twos : is_two (map measured (values es)) ≡ true → is_two (values es) ≡ true
    twos h = sym (two_map measured (values es)) ∙ h

    call_said : (f : Function) (a : Rule Expr) → takes f (map measured (values es)) ≡ true → AllSaid a (map said (placed_words 0 es)) (values es) → (grammar.call a).spells (behind_token (fixed_token (keyword f)) (separated_tokens (symbol.Plain k.Comma) (map said (placed_words 0 es)))) (expr.Call f (values es))
    call_said function.Bound a t h = call_bound a es t
    call_said function.Coalesce a t h = call_any a (map said (placed_words 0 es)) (values es) h
    call_said function.If a t h = call_three a (map said (placed_words 0 es)) (values es) (sym (three_map measured (values es)) ∙ t) h
    call_said function.Str a t h = call_one a function.Str (map said (placed_words 0 es)) (values es) (ones t) h
    call_said function.Lang a t h = call_one a function.Lang (map said (placed_words 0 es)) (values es) (ones t) h
    call_said function.Datatype a t h = call_one a function.Datatype (map said (placed_words 0 es)) (values es) (ones t) h
    call_said function.StrLen a t h = call_one a function.StrLen (map said (placed_words 0 es)) (values es) (ones t) h
    call_said function.IsIri a t h = call_one a function.IsIri (map said (placed_words 0 es)) (values es) (ones t) h
    call_said function.IsLiteral a t h = call_one a function.IsLiteral (map said (placed_words 0 es)) (values es) (ones t) h
    call_said function.IsBlank a t h = call_one a function.IsBlank (map said (placed_words 0 es)) (values es) (ones t) h
    call_said function.IsNumeric a t h = call_one a function.IsNumeric (map said (placed_words 0 es)) (values es) (ones t) h
    call_said function.LangMatches a t h = call_two a function.LangMatches (map said (placed_words 0 es)) (values es) (twos t) h
    call_said function.SameTerm a t h = call_two a function.SameTerm (map said (placed_words 0 es)) (values es) (twos t) h
    call_said function.Contains a t h = call_two a function.Contains (map said (placed_words 0 es)) (values es) (twos t) h
    call_said function.StrStarts a t h = call_two a function.StrStarts (map said (placed_words 0 es)) (values es) (twos t) h
    call_said function.StrEnds a t h = call_two a function.StrEnds (map said (placed_words 0 es)) (values es) (twos t) h

  calm_call : (f : Function) → is_calm (fixed_token (keyword f)) ≡ true
  calm_call function.Bound = refl
  calm_call _ = refl

  call_spelled : (f : Function) (es : List Proved) (n : ℕ) → (takes f (map measured (values es)) && all_good (map measured (values es))) ≡ true → AreFine (listed (map printed (values es))) → suc (most 0 (map measured (values es))) ≤ n
      → (grammar.call (inner n)).spells (fixed_token (keyword f) ∷ said (listed (map printed (values es)))) (expr.Call f (values es))
  unfolding behind_token
  call_spelled f es n g w h =
      let t = and_parts (takes f (map measured (values es))) (all_good (map measured (values es))) g in
      subst (λ (v : List Token). (grammar.call (inner n)).spells (fixed_token (keyword f) ∷ v) (expr.Call f (values es))) (sym (listed_said es)) (call_said es f (inner n) t.0 (args_said es n t.1 w h))

  call_so : (f : Function) (es : List Proved) → Law (print_step (Expr-F.Call f (map printed (values es)))) (measure_step (Expr-F.Call f (map measured (values es)))) (expr.Call f (values es))
  unfolding grammar.primary
  call_so f es = record {
    level = refl;
    is_name = λ h. absurd (cc (h));
    calls = λ c g w n h. call_spelled f es n g w.1 h;
    passes = passes_behind false (suc (most 0 (map measured (values es)))) (fixed_token (keyword f)) (said (listed (map printed (values es)))) (calm_call f) (list_passes es);
    spelled = λ g w n h. inr (inl (call_spelled f es n g w.1 h));
  }

  -- ---- all expressions

  made_so : (z : Expr-F Expr) (p : Printed) (m : Measured) (e : Expr) → printed (roll-Expr z) ≡ p → measured (roll-Expr z) ≡ m → roll-Expr z ≡ e → Law p m e → Law (printed (roll-Expr z)) (measured (roll-Expr z)) (roll-Expr z)
  made_so z p m e a b c l =
      subst (λ (v : Printed). Law v (measured (roll-Expr z)) (roll-Expr z)) (sym a) (subst (λ (v : Measured). Law p v (roll-Expr z)) (sym b) (subst (λ (v : Expr). Law p m v) (sym c) l))

  step : (y : Expr-F Proved) → Law (printed (roll-Expr (map-Expr Proved Expr (λ e. e.0) y))) (measured (roll-Expr (map-Expr Proved Expr (λ e. e.0) y))) (roll-Expr (map-Expr Proved Expr (λ e. e.0) y))
  step (Expr-F.Variable n) = made_so (Expr-F.Variable n) _ _ _ (fold-roll-Expr Printed print_step (Expr-F.Variable n)) (fold-roll-Expr Measured measure_step (Expr-F.Variable n)) (expr.rolls-Variable n) (variable_so n)
  step (Expr-F.Constant t) = made_so (Expr-F.Constant t) _ _ _ (fold-roll-Expr Printed print_step (Expr-F.Constant t)) (fold-roll-Expr Measured measure_step (Expr-F.Constant t)) (expr.rolls-Constant t) (constant_so t)
  step (Expr-F.Or es) = made_so (Expr-F.Or (values es)) _ _ _ (fold-roll-Expr Printed print_step (Expr-F.Or (values es))) (fold-roll-Expr Measured measure_step (Expr-F.Or (values es))) (expr.rolls-Or (values es)) (or_so es)
  step (Expr-F.And es) = made_so (Expr-F.And (values es)) _ _ _ (fold-roll-Expr Printed print_step (Expr-F.And (values es))) (fold-roll-Expr Measured measure_step (Expr-F.And (values es))) (expr.rolls-And (values es)) (and_so es)
  step (Expr-F.Not e) = made_so (Expr-F.Not e.0) _ _ _ (fold-roll-Expr Printed print_step (Expr-F.Not e.0)) (fold-roll-Expr Measured measure_step (Expr-F.Not e.0)) (expr.rolls-Not e.0) (not_so e)
  step (Expr-F.Positive e) = made_so (Expr-F.Positive e.0) _ _ _ (fold-roll-Expr Printed print_step (Expr-F.Positive e.0)) (fold-roll-Expr Measured measure_step (Expr-F.Positive e.0)) (expr.rolls-Positive e.0) (positive_so e)
  step (Expr-F.Negative e) = made_so (Expr-F.Negative e.0) _ _ _ (fold-roll-Expr Printed print_step (Expr-F.Negative e.0)) (fold-roll-Expr Measured measure_step (Expr-F.Negative e.0)) (expr.rolls-Negative e.0) (negative_so e)
  step (Expr-F.Compare op a b) = made_so (Expr-F.Compare op a.0 b.0) _ _ _ (fold-roll-Expr Printed print_step (Expr-F.Compare op a.0 b.0)) (fold-roll-Expr Measured measure_step (Expr-F.Compare op a.0 b.0)) (expr.rolls-Compare op a.0 b.0) (compare_so op a b)
  step (Expr-F.Among negated a es) = made_so (Expr-F.Among negated a.0 (values es)) _ _ _ (fold-roll-Expr Printed print_step (Expr-F.Among negated a.0 (values es))) (fold-roll-Expr Measured measure_step (Expr-F.Among negated a.0 (values es))) (expr.rolls-Among negated a.0 (values es)) (among_so negated a es)
  step (Expr-F.Sum a rest) = made_so (Expr-F.Sum a.0 (addends rest)) _ _ _ (fold-roll-Expr Printed print_step (Expr-F.Sum a.0 (addends rest))) (fold-roll-Expr Measured measure_step (Expr-F.Sum a.0 (addends rest))) (expr.rolls-Sum a.0 (addends rest)) (sum_so a rest)
  step (Expr-F.Product es) = made_so (Expr-F.Product (values es)) _ _ _ (fold-roll-Expr Printed print_step (Expr-F.Product (values es))) (fold-roll-Expr Measured measure_step (Expr-F.Product (values es))) (expr.rolls-Product (values es)) (product_so es)
  step (Expr-F.Call f es) = made_so (Expr-F.Call f (values es)) _ _ _ (fold-roll-Expr Printed print_step (Expr-F.Call f (values es))) (fold-roll-Expr Measured measure_step (Expr-F.Call f (values es))) (expr.rolls-Call f (values es)) (call_so f es)

  pub law : (e : Expr) → Law (printed e) (measured e) e
  law = ind-Expr (λ e. Law (printed e) (measured e) e) (λ x y same. subst (λ (z : Expr-F Expr). Law (printed (roll-Expr z)) (measured (roll-Expr z)) (roll-Expr z)) same (step y))
