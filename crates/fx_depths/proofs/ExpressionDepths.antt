-- An expression that tokens spell has brackets, where it is printed, only where they have some.
use Rattle.std.proofs.Common.{◌≡◌, ℕ, suc, ◌+◌, ◌≤◌, Bool, true, false, cond, List, [], ◌∷◌, ◌++◌, map, Option, Some, None, is_some as has_some, refl, sym, ap, ◌∙◌, subst, arith, append_assoc, append-nil, inl, inr, nat_le}
use Rattle.std.proofs.lemmas.Bool.{leb-true, leb-false}
use Rattle.fx_terms.specs.declared.terms.Term.{Term}
use Rattle.fx_terms.specs.declared.terms.Term.TheVariants.{Iri}
use Rattle.fx_algebra.specs.Printed.{rank, is_call}
use Rattle.fx_algebra.specs.Measures.{Measured, placed, most, most_signed, measure_step, measured, condition_nest}
use Rattle.fx_algebra.specs.declared.expressions.Expr.{Expr, Expr-F, fold-roll-Expr, roll-Expr}
use Rattle.fx_algebra.specs.declared.expressions.Expr.TheVariants as expr
use Rattle.fx_algebra.specs.declared.expressions.Compare.{Compare}
use Rattle.fx_algebra.specs.declared.expressions.Sign.{Sign}
use Rattle.fx_algebra.specs.declared.expressions.Sign.TheVariants as signs
use Rattle.fx_algebra.specs.declared.expressions.Function.{Function}
use Rattle.fx_algebra.specs.declared.expressions.Function.TheVariants as function
use Rattle.fx_grammar.specs.Kinds.{is}
use Rattle.fx_grammar.specs.Rule.{Rule, one, token, made, seq, after, either, opt, chain}
use Rattle.fx_grammar.specs.Grammar as grammar
use Rattle.fx_grammar.specs.Grammar.{Prefixes}
use Rattle.fx_grammar.specs.declared.kinds.Kind.TheVariants as k
use Rattle.fx_grammar.specs.declared.kinds.Token.{Token}
use Rattle.fx_grammar.specs.declared.refusals.SyntaxKind.TheVariants.{Unsupported}
use Rattle.fx_grammar.specs.declared.parts.Annotation.TheVariants as annotation
use Rattle.fx_grammar.specs.declared.parts.Relative.{Relative}
use Rattle.fx_grammar.specs.declared.parts.Relative.TheVariants as relative
use Rattle.fx_grammar.proofs.KindLaws.{apart_by}
use Rattle.fx_depths.proofs.Rooms.{is_turning, Given, Any, Maybe, Each, of_one, of_token, of_refusing, of_made, of_less, of_seq, of_after, of_before, of_either, of_opt, of_many, of_chain, of_nested, of_parens, of_pair, of_maybe, of_any}

-- ---- variables, IRIs and literals

pub of_variable : Given Any grammar.variable
unfolding grammar.variable
of_variable = of_one (is k.Variable) grammar.name_of (apart_by (is k.Variable) is_turning refl)

pub of_literal : (d : Rule (List ℕ)) → Given Any d → Given Any (grammar.literal d)
unfolding grammar.literal grammar.text_suffix
of_literal d g =
    let tag : Given Any (made annotation.Tag (one (is k.Tag) grammar.tag_of)) = of_any annotation.Tag (of_one (is k.Tag) grammar.tag_of (apart_by (is k.Tag) is_turning refl)) in
    let datatype : Given Any (made annotation.Datatype (after (token k.CaretCaret) d)) = of_any annotation.Datatype (of_after k.CaretCaret refl g) in
    of_either (of_any (λ p. grammar.annotated p.0 p.1) (of_pair (of_one (is k.Text) grammar.text_of (apart_by (is k.Text) is_turning refl)) (of_maybe (of_either tag datatype))))
    (of_one grammar.is_plain_literal grammar.literal_of (apart_by grammar.is_plain_literal is_turning refl))

module _ (ps : Prefixes) where
  pub of_iri_name : Given Any (grammar.iri_name ps)
  unfolding grammar.iri_name
  of_iri_name = of_one grammar.is_iri_name (grammar.named_by ps) (apart_by grammar.is_iri_name is_turning refl)

  of_datatype : Given Any (grammar.datatype ps)
  unfolding grammar.datatype
  of_datatype = of_one grammar.is_iri_name (λ t. grammar.not_lang_string (grammar.named_by ps t)) (apart_by grammar.is_iri_name is_turning refl)

  pub of_datatype_in : (b : Bool) → Given Any (grammar.datatype_in b ps)
  unfolding grammar.no_call
  of_datatype_in false = of_datatype
  of_datatype_in true = of_before of_datatype (of_opt (of_refusing {P = Any} Unsupported (is k.LeftParen)))

-- ---- an expression in its place

-- no more than 64 are open in it, in a place that reaches productions of a rank and above
abbrev pub Fits : ℕ → ℕ → Expr → Type 0
Fits place d e = d + placed place (measured e) ≤ 64

-- a list of expressions in brackets
abbrev Listed : ℕ → List Expr → Type 0
Listed d es = d + suc (most 0 (map measured es)) ≤ 64

-- the condition of a FILTER
abbrev pub IsCondition : ℕ → Expr → Type 0
IsCondition d e = d + condition_nest (measured e) ≤ 64

lower_place : (low high : ℕ) (m : Measured) → low ≤ high → placed low m ≤ placed high m
unfolding placed
lower_place low high m l = go (nat_le low (rank m.level)) refl (nat_le high (rank m.level)) refl
  where
    go : (a : Bool) → nat_le low (rank m.level) ≡ a → (b : Bool) → nat_le high (rank m.level) ≡ b → cond a m.nest (suc m.nest) ≤ cond b m.nest (suc m.nest)
    go true e true f = omega arith
    go true e false f = omega arith
    go false e true f = absurd (omega (arith, l, leb-false low (rank m.level) e, leb-true high (rank m.level) f))
    go false e false f = omega arith

place_at_least : (place : ℕ) (m : Measured) → m.nest ≤ placed place m
unfolding placed
place_at_least place m = go (nat_le place (rank m.level))
  where
    go : (b : Bool) → m.nest ≤ cond b m.nest (suc m.nest)
    go true = omega arith
    go false = omega arith

place_at_most : (place : ℕ) (m : Measured) → placed place m ≤ suc m.nest
unfolding placed
place_at_most place m = go (nat_le place (rank m.level))
  where
    go : (b : Bool) → cond b m.nest (suc m.nest) ≤ suc m.nest
    go true = omega arith
    go false = omega arith

pub nest_fits : (place d : ℕ) (e : Expr) → Fits place d e → d + (measured e).nest ≤ 64
nest_fits place d e h = omega (arith, h, place_at_least place (measured e))

lower : (low high d : ℕ) (e : Expr) → low ≤ high → Fits high d e → Fits low d e
lower low high d e l h = omega (arith, h, lower_place low high (measured e) l)

-- in brackets it stands anywhere
bracketed_fits : (place inner d : ℕ) (e : Expr) → Fits inner (d + 1) e → Fits place d e
bracketed_fits place inner d e h = omega (arith, h, place_at_least inner (measured e), place_at_most place (measured e))

pub bracketed_condition : (d : ℕ) (e : Expr) → Fits 0 (d + 1) e → IsCondition d e
bracketed_condition d e h = go (is_call (measured e).level) (nest_fits 0 (d + 1) e h)
  where
    go : (b : Bool) → d + 1 + (measured e).nest ≤ 64 → d + cond b (measured e).nest (suc (measured e).nest) ≤ 64
    go true l = omega (arith, l)
    go false l = omega (arith, l)

most_fits : (place d : ℕ) (es : List Expr) → d ≤ 64 → Each (Fits place) d es → d + most place (map measured es) ≤ 64
most_fits place d [] l h = omega (arith, l)
most_fits place d (e ∷ es) l h = omega (arith, h.0, most_fits place d es l h.1)

in_list : (d : ℕ) (es : List Expr) → d + 1 ≤ 64 → Each (Fits 0) (d + 1) es → Listed d es
in_list d es l h = omega (arith, most_fits 0 (d + 1) es l h)

abbrev OfAddend : ℕ → Sign × Expr → Type 0
OfAddend d p = Fits 4 d p.1

most_addends : (d : ℕ) (rest : List (Sign × Expr)) → d ≤ 64 → Each OfAddend d rest → d + most_signed (map (λ (p : Sign × Expr). (p.0, measured p.1)) rest) ≤ 64
most_addends d [] l h = omega (arith, l)
most_addends d (p ∷ rest) l h = omega (arith, h.0, most_addends d rest l h.1)

-- ---- one level of an expression

-- an expression whose layer is measured so, and whose place reaches it
layer : (place d : ℕ) (z : Expr-F Expr) (m : Measured) (e : Expr) → roll-Expr z ≡ e → measured (roll-Expr z) ≡ m → nat_le place (rank m.level) ≡ true → d + m.nest ≤ 64 → Fits place d e
unfolding placed
layer place d z m e r a reached h = subst (Fits place d) r (subst (λ (v : Measured). d + placed place v ≤ 64) (sym a) (subst (λ (b : Bool). d + cond b m.nest (suc m.nest) ≤ 64) (sym reached) h))

variable_fits : (d : ℕ) (name : List ℕ) → d ≤ 64 → Fits 6 d (expr.Variable name)
variable_fits d name l = layer 6 d (Expr-F.Variable name) _ _ (expr.rolls-Variable name) (fold-roll-Expr Measured measure_step (Expr-F.Variable name)) refl (omega (arith, l))

constant_fits : (d : ℕ) (t : Term) → d ≤ 64 → Fits 6 d (expr.Constant t)
constant_fits d t l = layer 6 d (Expr-F.Constant t) _ _ (expr.rolls-Constant t) (fold-roll-Expr Measured measure_step (Expr-F.Constant t)) refl (omega (arith, l))

or_fits : (d : ℕ) (es : List Expr) → d ≤ 64 → Each (Fits 1) d es → Fits 0 d (expr.Or es)
or_fits d es l h = layer 0 d (Expr-F.Or es) _ _ (expr.rolls-Or es) (fold-roll-Expr Measured measure_step (Expr-F.Or es)) refl (most_fits 1 d es l h)

and_fits : (d : ℕ) (es : List Expr) → d ≤ 64 → Each (Fits 2) d es → Fits 1 d (expr.And es)
and_fits d es l h = layer 1 d (Expr-F.And es) _ _ (expr.rolls-And es) (fold-roll-Expr Measured measure_step (Expr-F.And es)) refl (most_fits 2 d es l h)

product_fits : (d : ℕ) (es : List Expr) → d ≤ 64 → Each (Fits 5) d es → Fits 4 d (expr.Product es)
product_fits d es l h = layer 4 d (Expr-F.Product es) _ _ (expr.rolls-Product es) (fold-roll-Expr Measured measure_step (Expr-F.Product es)) refl (most_fits 5 d es l h)

not_fits : (d : ℕ) (e : Expr) → Fits 6 d e → Fits 5 d (expr.Not e)
not_fits d e h = layer 5 d (Expr-F.Not e) _ _ (expr.rolls-Not e) (fold-roll-Expr Measured measure_step (Expr-F.Not e)) refl h

positive_fits : (d : ℕ) (e : Expr) → Fits 6 d e → Fits 5 d (expr.Positive e)
positive_fits d e h = layer 5 d (Expr-F.Positive e) _ _ (expr.rolls-Positive e) (fold-roll-Expr Measured measure_step (Expr-F.Positive e)) refl h

negative_fits : (d : ℕ) (e : Expr) → Fits 6 d e → Fits 5 d (expr.Negative e)
negative_fits d e h = layer 5 d (Expr-F.Negative e) _ _ (expr.rolls-Negative e) (fold-roll-Expr Measured measure_step (Expr-F.Negative e)) refl h

compare_fits : (d : ℕ) (op : Compare) (a c : Expr) → Fits 3 d a → Fits 3 d c → Fits 2 d (expr.Compare op a c)
compare_fits d op a c h g = layer 2 d (Expr-F.Compare op a c) _ _ (expr.rolls-Compare op a c) (fold-roll-Expr Measured measure_step (Expr-F.Compare op a c)) refl (omega (arith, h, g))

among_fits : (d : ℕ) (negated : Bool) (a : Expr) (es : List Expr) → Fits 3 d a → Listed d es → Fits 2 d (expr.Among negated a es)
among_fits d negated a es h g = layer 2 d (Expr-F.Among negated a es) _ _ (expr.rolls-Among negated a es) (fold-roll-Expr Measured measure_step (Expr-F.Among negated a es)) refl (omega (arith, h, g))

sum_fits : (d : ℕ) (a : Expr) (rest : List (Sign × Expr)) → d ≤ 64 → Fits 4 d a → Each OfAddend d rest → Fits 3 d (expr.Sum a rest)
sum_fits d a rest l h g = layer 3 d (Expr-F.Sum a rest) _ _ (expr.rolls-Sum a rest) (fold-roll-Expr Measured measure_step (Expr-F.Sum a rest)) refl (omega (arith, h, most_addends d rest l g))

-- a call stands anywhere, and needs no brackets as a condition
abbrev OfCall : ℕ → Expr → Type 0
OfCall d e = Fits 6 d e × IsCondition d e

call_fits : (d : ℕ) (f : Function) (es : List Expr) → Listed d es → OfCall d (expr.Call f es)
call_fits d f es h =
    let a : measured (roll-Expr (Expr-F.Call f es)) ≡ measure_step (Expr-F.Call f (map measured es)) = fold-roll-Expr Measured measure_step (Expr-F.Call f es) in (
      layer 6 d (Expr-F.Call f es) _ _ (expr.rolls-Call f es) a refl h,
      subst (IsCondition d) (expr.rolls-Call f es) (subst (λ (v : Measured). d + condition_nest v ≤ 64) (sym a) h),
    )

-- ---- chains, sums and relations

one_or_fits : (low high : ℕ) (make : List Expr → Expr) → low ≤ high → ((d : ℕ) (es : List Expr) → d ≤ 64 → Each (Fits high) d es → Fits low d (make es)) → (d : ℕ) (es : List Expr) → d ≤ 64 → Each (Fits high) d es → Fits low d (grammar.one_or make es)
one_or_fits low high make below fits d [] l h = fits d [] l h
one_or_fits low high make below fits d (e ∷ []) l h = lower low high d e below h.0
one_or_fits low high make below fits d (e ∷ f ∷ es) l h = fits d (e ∷ f ∷ es) l h

summed_fits : (d : ℕ) (a : Expr) (rest : List (Sign × Expr)) → d ≤ 64 → Fits 4 d a → Each OfAddend d rest → Fits 3 d (grammar.summed a rest)
summed_fits d a [] l h g = lower 3 4 d a (omega arith) h
summed_fits d a (p ∷ rest) l h g = sum_fits d a (p ∷ rest) l h g

abbrev OfRelative : ℕ → Relative → Type 0
OfRelative d (relative.Compared op e) = Fits 3 d e
OfRelative d (relative.Among negated es) = Listed d es

related_fits : (d : ℕ) (a : Expr) (o : Option Relative) → Fits 3 d a → Maybe OfRelative d o → Fits 2 d (grammar.related a o)
related_fits d a None h g = lower 2 3 d a (omega arith) h
related_fits d a (Some (relative.Compared op c)) h g = compare_fits d op a c h g
related_fits d a (Some (relative.Among negated es)) h g = among_fits d negated a es h g

-- ---- the productions of expressions

abbrev list_or : Option (List Expr) → List Expr
list_or None = []
list_or (Some es) = es

-- a list stands between brackets
abbrev within_brackets : Rule Expr → Rule (List Expr)
within_brackets a = grammar.parens (made list_or (opt (chain k.Comma a)))

list_as : (a : Rule Expr) (ts : List Token) (es : List Expr) → (grammar.list a).spells ts es → (within_brackets a).spells ts es
unfolding grammar.list
list_as a ts es s = elim s.1.4 [
  | inl l ↦ ((es, tt), (s.1.0 ++ [], s.1.1, s.1.2 ∙ ap (λ (v : List Token). v ++ s.1.1) (sym (append-nil s.1.0)), ((tt, es), (s.1.0, [], refl, s.1.3, (None, refl, s.2 ∙ l.2)), refl), l.1), refl)
  | inr r ↦ ((es, tt), (s.1.0 ++ r.1.0, r.1.1, s.1.2 ∙ ap (λ (v : List Token). s.1.0 ++ v) r.1.2 ∙ sym (append_assoc s.1.0 r.1.0 r.1.1), ((tt, es), (s.1.0, r.1.0, refl, s.1.3, (Some r.0.0, r.1.3, s.2 ∙ r.2)), refl), r.1.4), refl)
]

of_list : (a : Rule Expr) → Given (Fits 0) a → Given Listed (grammar.list a)
of_list a g =
    let within : Given Listed (within_brackets a) = of_parens (of_made {Q = Each (Fits 0)} list_or (of_opt (of_chain k.Comma refl g)) (λ d o l h. listed d o h)) in_list in
    record { holds = λ ts es s. within.holds ts es (list_as a ts es s) }
  where
    listed : (d : ℕ) (o : Option (List Expr)) → Maybe (Each (Fits 0)) d o → Each (Fits 0) d (list_or o)
    listed d None h = tt
    listed d (Some es) h = h

of_call : (a : Rule Expr) → Given (Fits 0) a → Given OfCall (grammar.call a)
unfolding grammar.call grammar.bound_call grammar.coalesce_call grammar.if_call grammar.one_call grammar.two_call grammar.two_args
of_call a g =
    let two : Given (λ d (p : Expr × Expr). Fits 0 d p.0 × Fits 0 d p.1) (seq a (after (token k.Comma) a)) = of_seq g (of_after k.Comma refl g) in
    let ones : Given Any (one (is k.One) grammar.one_of) = of_one (is k.One) grammar.one_of (apart_by (is k.One) is_turning refl) in
    let twos : Given Any (one (is k.Two) grammar.two_of) = of_one (is k.Two) grammar.two_of (apart_by (is k.Two) is_turning refl) in
    of_either
    (of_made {P = λ d name. Listed d (expr.Variable name ∷ [])} (λ name. expr.Call function.Bound (expr.Variable name ∷ []))
    (of_after k.Bound refl (of_parens of_variable (λ d name l h. in_list d (expr.Variable name ∷ []) l (lower 0 6 (d + 1) (expr.Variable name) (omega arith) (variable_fits (d + 1) name l), tt)))) (λ d name l h. call_fits d function.Bound (expr.Variable name ∷ []) h))
    (of_either (of_made (λ args. expr.Call function.Coalesce args) (of_after k.Coalesce refl (of_list a g)) (λ d args l h. call_fits d function.Coalesce args h))
    (of_either
    (of_made {P = λ d (p : Expr × (Expr × Expr)). Listed d (p.0 ∷ p.1.0 ∷ p.1.1 ∷ [])} (λ p. expr.Call function.If (p.0 ∷ p.1.0 ∷ p.1.1 ∷ [])) (of_after k.If refl (of_parens (of_seq g (of_after k.Comma refl two)) (λ d p l h. in_list d (p.0 ∷ p.1.0 ∷ p.1.1 ∷ []) l (h.0, (h.1.0, (h.1.1, tt))))))
    (λ d p l h. call_fits d function.If (p.0 ∷ p.1.0 ∷ p.1.1 ∷ []) h))
    (of_either
    (of_made (λ p. expr.Call p.0 (p.1 ∷ [])) (of_seq ones (of_parens {Q = λ d e. Listed d (e ∷ [])} g (λ d e l h. in_list d (e ∷ []) l (h, tt)))) (λ d p l h. call_fits d p.0 (p.1 ∷ []) h.1))
    (of_either
    (of_made (λ p. expr.Call p.0 (p.1.0 ∷ p.1.1 ∷ [])) (of_seq twos (of_parens {Q = λ d (p : Expr × Expr). Listed d (p.0 ∷ p.1 ∷ [])} two (λ d p l h. in_list d (p.0 ∷ p.1 ∷ []) l (h.0, (h.1, tt))))) (λ d p l h. call_fits d p.0 (p.1.0 ∷ p.1.1 ∷ []) h.1))
    (of_refusing Unsupported grammar.is_other_call)))))

module _ (ps : Prefixes) where
  of_primary : (a : Rule Expr) → Given (Fits 0) a → Given (Fits 6) (grammar.primary ps a)
  unfolding grammar.primary grammar.primary_iri grammar.primary_literal grammar.no_call
  of_primary a g =
      of_either (of_parens g (λ d e l h. bracketed_fits 6 0 d e h))
      (of_either (of_less (of_call a g) (λ d e l h. h.0))
      (of_either (of_made (λ iri. expr.Constant (Iri iri)) (of_before (of_iri_name ps) (of_opt (of_refusing {P = Any} Unsupported (is k.LeftParen)))) (λ d iri l h. constant_fits d (Iri iri) l))
      (of_either (of_made expr.Variable of_variable (λ d name l h. variable_fits d name l))
      (of_made expr.Constant (of_literal (grammar.datatype_in true ps) (of_datatype_in ps true)) (λ d t l h. constant_fits d t l)))))

  of_unary : (a : Rule Expr) → Given (Fits 0) a → Given (Fits 5) (grammar.unary ps a)
  unfolding grammar.unary
  of_unary a g =
      of_either (of_made expr.Not (of_after k.Bang refl (of_primary a g)) (λ d e l h. not_fits d e h))
      (of_either (of_made expr.Positive (of_after k.Plus refl (of_primary a g)) (λ d e l h. positive_fits d e h))
      (of_either (of_made expr.Negative (of_after k.Dash refl (of_primary a g)) (λ d e l h. negative_fits d e h))
      (of_less (of_primary a g) (λ d e l h. lower 5 6 d e (omega arith) h))))

  of_factor : (a : Rule Expr) → Given (Fits 0) a → Given (Fits 5) (grammar.factor ps a)
  unfolding grammar.factor grammar.no_quotient
  of_factor a g = of_before (of_unary a g) (of_opt (of_refusing {P = Any} Unsupported (is k.Slash)))

  of_product : (a : Rule Expr) → Given (Fits 0) a → Given (Fits 4) (grammar.product ps a)
  unfolding grammar.product
  of_product a g = of_made (grammar.one_or expr.Product) (of_chain k.Star refl (of_factor a g)) (λ d es l h. one_or_fits 4 5 expr.Product (omega arith) product_fits d es l h)

  of_addend : (a : Rule Expr) → Given (Fits 0) a → Given OfAddend (grammar.addend ps a)
  unfolding grammar.addend grammar.signed_product grammar.signed_literal
  of_addend a g =
      let sign_of : Given Any (either (made (λ u. signs.Plus) (token k.Plus)) (made (λ u. signs.Minus) (token k.Dash))) = of_either (of_any (λ u. signs.Plus) (of_token k.Plus refl)) (of_any (λ u. signs.Minus) (of_token k.Dash refl)) in
      let literal : Given Any (one (is k.Signed) grammar.signed_of) = of_one (is k.Signed) grammar.signed_of (apart_by (is k.Signed) is_turning refl) in
      of_either (of_less (of_seq sign_of (of_product a g)) (λ d p l h. h.1))
      (of_made (λ p. (signs.Plus, grammar.one_or expr.Product (expr.Constant p.0 ∷ p.1))) (of_seq literal (of_many (of_after k.Star refl (of_factor a g))))
      (λ d p l h. one_or_fits 4 5 expr.Product (omega arith) product_fits d (expr.Constant p.0 ∷ p.1) l (lower 5 6 d (expr.Constant p.0) (omega arith) (constant_fits d p.0 l), h.1)))

  of_sum : (a : Rule Expr) → Given (Fits 0) a → Given (Fits 3) (grammar.sum ps a)
  unfolding grammar.sum
  of_sum a g = of_made (λ p. grammar.summed p.0 p.1) (of_seq (of_product a g) (of_many (of_addend a g))) (λ d p l h. summed_fits d p.0 p.1 l h.0 h.1)

  of_relation : (a : Rule Expr) → Given (Fits 0) a → Given (Fits 2) (grammar.relation ps a)
  unfolding grammar.relation grammar.compared grammar.among
  of_relation a g =
      let op : Given Any (one (is k.Comparison) grammar.comparison_of) = of_one (is k.Comparison) grammar.comparison_of (apart_by (is k.Comparison) is_turning refl) in
      let compared : Given OfRelative (made (λ p. relative.Compared p.0 p.1) (seq (one (is k.Comparison) grammar.comparison_of) (grammar.sum ps a))) = of_made (λ p. relative.Compared p.0 p.1) (of_seq op (of_sum a g)) (λ d p l h. h.1) in
      let among_of : Given OfRelative (made (λ p. relative.Among (has_some p.0) p.1) (seq (opt (token k.Not)) (after (token k.In) (grammar.list a)))) =
      of_made (λ p. relative.Among (has_some p.0) p.1) (of_seq (of_opt (of_token k.Not refl)) (of_after k.In refl (of_list a g))) (λ d p l h. h.1) in
      of_made (λ p. grammar.related p.0 p.1) (of_seq (of_sum a g) (of_opt (of_either compared among_of))) (λ d p l h. related_fits d p.0 p.1 h.0 h.1)

  of_conjunction : (a : Rule Expr) → Given (Fits 0) a → Given (Fits 1) (grammar.conjunction ps a)
  unfolding grammar.conjunction
  of_conjunction a g = of_made (grammar.one_or expr.And) (of_chain k.AndAnd refl (of_relation a g)) (λ d es l h. one_or_fits 1 2 expr.And (omega arith) and_fits d es l h)

  of_disjunction : (a : Rule Expr) → Given (Fits 0) a → Given (Fits 0) (grammar.disjunction ps a)
  unfolding grammar.disjunction
  of_disjunction a g = of_made (grammar.one_or expr.Or) (of_chain k.OrOr refl (of_conjunction a g)) (λ d es l h. one_or_fits 0 1 expr.Or (omega arith) or_fits d es l h)

  pub of_expression : Given (Fits 0) (grammar.whole_expression ps)
  unfolding grammar.whole_expression grammar.expression
  of_expression = of_nested (grammar.disjunction ps) of_disjunction 64

  pub of_constraint : Given IsCondition (grammar.constraint ps)
  unfolding grammar.constraint
  of_constraint = of_either (of_parens of_expression (λ d e l h. bracketed_condition d e h)) (of_either (of_less (of_call (grammar.whole_expression ps) of_expression) (λ d e l h. h.1)) (of_refusing Unsupported grammar.is_iri_name))
