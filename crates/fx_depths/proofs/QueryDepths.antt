-- A query that a text spells has brackets, where it is printed, only where the text has some, but for one more in a block of VALUES.
use Rattle.std.proofs.Common.{◌≡◌, ℕ, suc, ◌+◌, ◌≤◌, Bool, true, false, cond, List, [], ◌∷◌, ◌++◌, Option, Some, None, refl, sym, subst, arith, append-nil}
use Rattle.fx_algebra.specs.Printed.{is_call, is_variable}
use Rattle.fx_algebra.specs.Measures.{Measured, measure_step, measured}
use Rattle.fx_algebra.specs.declared.expressions.Expr.{Expr, Expr-F, fold-roll-Expr, roll-Expr}
use Rattle.fx_algebra.specs.declared.expressions.Expr.TheVariants as expr
use Rattle.fx_algebra.specs.declared.queries.Inline.{Inline}
use Rattle.fx_algebra.specs.declared.queries.Order.{Order}
use Rattle.fx_algebra.specs.declared.queries.Query.{Query}
use Rattle.fx_grammar.specs.Kinds.{is}
use Rattle.fx_grammar.specs.Rule.{shape_of, token, one, seq, after, either, opt, some, made, refusing}
use Rattle.fx_grammar.specs.Grammar as grammar
use Rattle.fx_grammar.specs.Grammar.{Prefixes}
use Rattle.fx_grammar.specs.Classified.{classified, outermost}
use Rattle.fx_spelling.specs.Printable.{key_nest, most_keys, inline_nest, brackets}
use Rattle.fx_grammar.specs.declared.kinds.Kind.TheVariants as k
use Rattle.fx_grammar.specs.declared.refusals.SyntaxKind.TheVariants.{Unsupported}
use Rattle.fx_grammar.specs.declared.parts.Head.TheVariants as head
use Rattle.fx_grammar.specs.declared.parts.Modifiers.{Modifiers}
use Rattle.fx_grammar.specs.declared.parts.Main.{Main}
use Rattle.fx_grammar.proofs.KindLaws.{apart_by}
use Rattle.fx_spelling.proofs.Tracking.{Track, placed_track}
use Rattle.fx_spelling.proofs.Sayings.{lexed_good}
use Rattle.fx_depths.specs.Shallow.{QueriesAreShallow, GroupsAreShallow}
use Rattle.fx_depths.proofs.Rooms.{Room, room_of, is_turning, Given, Any, Maybe, Each, of_one, of_token, of_refusing, of_made, of_less, of_seq, of_after, of_either, of_opt, of_some, of_parens, of_then, of_pair, of_maybe, of_several, of_any}
use Rattle.fx_depths.proofs.ExpressionDepths.{Fits, IsCondition, nest_fits, of_variable, of_expression, of_constraint}
use Rattle.fx_depths.proofs.GroupDepths.{OfBlock, OfGroup, of_block, of_group}

-- ---- the head, and numbers

of_prologue : Given Any grammar.prologue
unfolding grammar.prologue grammar.prefix
of_prologue =
    of_several (of_after k.Prefix refl (of_pair (of_one (is k.PrefixName) grammar.namespace_of (apart_by (is k.PrefixName) is_turning refl)) (of_one (is k.Iri) grammar.iri_of (apart_by (is k.Iri) is_turning refl))))

of_head : Given Any grammar.query_head
unfolding grammar.query_head grammar.select_head grammar.distinct grammar.selected grammar.column
of_head =
    let columns : Given Any (some (either grammar.variable (refusing Unsupported (is k.LeftParen)))) = of_less (of_some (of_either of_variable (of_refusing Unsupported (is k.LeftParen)))) (λ d x l p. tt) in
    let selected : Given Any (either (made (λ u. None) (token k.Star)) (made Some (some (either grammar.variable (refusing Unsupported (is k.LeftParen)))))) = of_either (of_any (λ u. None) (of_token k.Star refl)) (of_any Some columns) in
    let distinct : Given Any (either (made (λ u. true) (token k.Distinct)) (made (λ u. false) (token k.Reduced))) = of_either (of_any (λ u. true) (of_token k.Distinct refl)) (of_any (λ u. false) (of_token k.Reduced refl)) in
    of_either (of_any (λ p. head.Select (grammar.is_distinct p.0) p.1) (of_after k.Select refl (of_pair (of_maybe distinct) selected)))
    (of_either (of_any (λ u. head.Ask) (of_token k.Ask refl)) (of_refusing Unsupported (is k.OtherForm)))

of_limits : Given Any grammar.limits
unfolding grammar.limits grammar.limit grammar.offset grammar.number
of_limits =
    let number : Given Any (one (is k.Integer) grammar.number_of) = of_one (is k.Integer) grammar.number_of (apart_by (is k.Integer) is_turning refl) in
    let limit : Given Any (after (token k.Limit) (one (is k.Integer) grammar.number_of)) = of_after k.Limit refl number in
    let offset : Given Any (after (token k.Offset) (one (is k.Integer) grammar.number_of)) = of_after k.Offset refl number in
    of_either (of_any (λ p. grammar.limits_of (Some p.0) p.1) (of_pair limit (of_maybe offset))) (of_any (λ p. grammar.limits_of p.1 (Some p.0)) (of_pair offset (of_maybe limit)))

-- ---- ORDER BY

abbrev OfKey : ℕ → Order → Type 0
OfKey d key = d + key_nest key ≤ 64

bracketed_key : (d : ℕ) (descending : Bool) (e : Expr) → Fits 0 (d + 1) e → OfKey d (grammar.ordered descending e)
bracketed_key d descending e h = go descending (is_call (measured e).level) (is_variable (measured e).level) (nest_fits 0 (d + 1) e h)
  where
    go : (b c v : Bool) → d + 1 + (measured e).nest ≤ 64 → d + cond b (suc (measured e).nest) (cond c (measured e).nest (cond v (measured e).nest (suc (measured e).nest))) ≤ 64
    go true c v l = omega (arith, l)
    go false true v l = omega (arith, l)
    go false false true l = omega (arith, l)
    go false false false l = omega (arith, l)

condition_key : (d : ℕ) (e : Expr) → IsCondition d e → OfKey d (grammar.ordered false e)
condition_key d e h = go (is_call (measured e).level) (is_variable (measured e).level) h
  where
    go : (c v : Bool) → d + cond c (measured e).nest (suc (measured e).nest) ≤ 64 → d + cond c (measured e).nest (cond v (measured e).nest (suc (measured e).nest)) ≤ 64
    go true v l = l
    go false true l = omega (arith, l)
    go false false l = l

variable_key : (d : ℕ) (name : List ℕ) → d ≤ 64 → OfKey d (grammar.ordered false (expr.Variable name))
variable_key d name l =
    let a : measured (roll-Expr (Expr-F.Variable name)) ≡ measure_step (Expr-F.Variable name) = fold-roll-Expr Measured measure_step (Expr-F.Variable name) in
    subst (λ (e : Expr). OfKey d (grammar.ordered false e)) (expr.rolls-Variable name)
    (subst (λ (m : Measured). d + cond (is_call m.level) m.nest (cond (is_variable m.level) m.nest (suc m.nest)) ≤ 64) (sym a) (omega (arith, l)))

keys_low : (d : ℕ) (keys : List Order) → d ≤ 64 → Each OfKey d keys → d + most_keys keys ≤ 64
keys_low d [] l h = omega (arith, l)
keys_low d (key ∷ keys) l h = omega (arith, h.0, keys_low d keys l h.1)

order_low : (d : ℕ) (o : Option (List Order)) → Maybe (Each OfKey) d o → Each OfKey d (grammar.order_or o)
order_low d None h = tt
order_low d (Some keys) h = h

-- ---- the query's parts

abbrev OfMain : ℕ → Main → Type 0
OfMain d m = OfGroup d m.group × Each OfKey d m.modifiers.order

inline_low : (d : ℕ) (inline : Option Inline) → d ≤ 64 → Maybe OfBlock d inline → d + inline_nest inline ≤ 65
inline_low d None l h = omega (arith, l)
inline_low d (Some inline) l h = h

abbrev OfQuery : ℕ → Query → Type 0
OfQuery d q = d + brackets q ≤ 65

query_low : (d : ℕ) (m : Main) (inline : Option Inline) → d ≤ 64 → OfMain d m → Maybe OfBlock d inline → OfQuery d (grammar.query_of m inline)
query_low d m inline l h o = omega (arith, h.0, keys_low d m.modifiers.order l h.1, inline_low d inline l o)

module _ (ps : Prefixes) where
  of_condition : Given OfKey (grammar.condition ps)
  unfolding grammar.condition
  of_condition =
      of_either (of_made {P = λ d e. OfKey d (grammar.ordered false e)} (grammar.ordered false) (of_after k.Asc refl (of_parens (of_expression ps) (λ d e l h. bracketed_key d false e h))) (λ d e l h. h))
      (of_either (of_made {P = λ d e. OfKey d (grammar.ordered true e)} (grammar.ordered true) (of_after k.Desc refl (of_parens (of_expression ps) (λ d e l h. bracketed_key d true e h))) (λ d e l h. h))
      (of_either (of_made (λ name. grammar.ordered false (expr.Variable name)) of_variable (λ d name l h. variable_key d name l)) (of_made (grammar.ordered false) (of_constraint ps) (λ d e l h. condition_key d e h))))

  of_order : Given (Each OfKey) (grammar.order ps)
  unfolding grammar.order
  of_order = of_made grammar.order_or (of_opt (of_either (of_after k.Order refl (of_after k.By refl (of_some of_condition))) (of_refusing Unsupported (is k.Grouping)))) (λ d o l h. order_low d o h)

  of_where : Given OfGroup (grammar.where_group ps)
  unfolding grammar.where_group
  of_where = of_made (λ p. p.1) (of_seq (of_maybe (of_either (of_token k.Where refl) (of_refusing Unsupported (is k.From)))) (of_group ps)) (λ d p l h. h.1)

  of_main : Given OfMain (grammar.main ps)
  unfolding grammar.main grammar.modifiers
  of_main =
      let modifiers : Given (λ d (m : Modifiers). Each OfKey d m.order) (made (λ p. record { order = p.0; limits = grammar.limits_or p.1 }) (seq (grammar.order ps) (opt grammar.limits))) =
      of_made (λ p. record { order = p.0; limits = grammar.limits_or p.1 }) (of_seq of_order (of_maybe of_limits)) (λ d p l h. h.0) in
      of_made (λ p. record { head = p.0; group = p.1.0; modifiers = p.1.1 }) (of_seq of_head (of_seq of_where modifiers)) (λ d p l h. (h.1.0, h.1.1))

  of_body : Given OfQuery (grammar.body ps)
  unfolding grammar.body
  of_body = of_made (λ p. grammar.query_of p.0 p.1) (of_seq of_main (of_opt (of_after k.Values refl (of_block ps)))) (λ d p l h. query_low d p.0 p.1 l h.0 h.1)

of_query : Given OfQuery grammar.query
unfolding grammar.query
of_query = of_made (λ p. p.1) (of_then (shape_of (grammar.body [])) grammar.body of_prologue of_body) (λ d p l h. h.1)

-- ---- texts

pub queries_are_shallow : QueriesAreShallow
queries_are_shallow text q h =
    let tokens = classified text h.tokens in
    let tracked : Track outermost tokens = placed_track outermost _ (lexed_good text h.tokens h.utf8 h.lexed) in
    let room : Room 0 (tokens ++ []) = subst (Room 0) (sym (append-nil tokens)) (room_of outermost tokens tracked) in
    let low : OfQuery 0 q = (of_query.holds tokens q h.spelled 0 [] (omega arith) room).0 in
    omega (arith, low)

pub groups_are_shallow : GroupsAreShallow
groups_are_shallow text q h = omega (arith, queries_are_shallow text q h)
