-- A query that a text spells is one that the grammar has.
use Rattle.std.proofs.Common.{◌≡◌, ℕ, ◌^◌, ◌<◌, Bool, true, false, cond, List, [], ◌∷◌, ◌++◌, Option, Some, None, Ok, refl, sym, subst, arith, append-nil, inl, inr, nat_le}
use Rattle.std.specs.Prelude.{codes, ◌==◌, fold}
use Rattle.std.specs.List.{flat_map}
use Rattle.std.specs.Str.{IsUtf8}
use Rattle.std.proofs.lemmas.Bool.{and_from, leb-true}
use Rattle.fx_algebra.specs.Printed.{fixed, number, in_brackets, printed, is_call, is_variable, column_words, distinction, form_words, key_words, order_words, limit_words, offset_words, trailing_words, group_words, query_words}
use Rattle.fx_algebra.specs.Scopes.{is_among, with_name, once, scope, group_mentions}
use Rattle.fx_algebra.specs.declared.expressions.Expr.TheVariants as expr
use Rattle.fx_algebra.specs.declared.queries.Inline.{Inline}
use Rattle.fx_algebra.specs.declared.queries.Order.{Order}
use Rattle.fx_algebra.specs.declared.queries.Group.{Group}
use Rattle.fx_algebra.specs.declared.queries.Query.{Query}
use Rattle.fx_grammar.specs.Kinds.{is}
use Rattle.fx_grammar.specs.Rule.{shape_of, token, one, seq, after, either, opt, some, made, refusing}
use Rattle.fx_grammar.specs.Grammar as grammar
use Rattle.fx_grammar.specs.Grammar.{Prefixes}
use Rattle.fx_grammar.specs.Classified.{classified, outermost}
use Rattle.fx_algebra.specs.Measures.{measured}
use Rattle.fx_spelling.specs.Printable.{AreFine, AreNames, all_keys, is_inline, IsForm, IsPrintable, AcceptedIsPrintable, SpellableIsAccepted}
use Rattle.fx_grammar.specs.declared.kinds.Kind.TheVariants as k
use Rattle.fx_grammar.specs.declared.refusals.SyntaxKind.TheVariants.{Unsupported}
use Rattle.fx_grammar.specs.declared.kinds.Token.{Token}
use Rattle.fx_grammar.specs.declared.kinds.Token.TheVariants as symbol
use Rattle.fx_grammar.specs.declared.parts.Head.{Head}
use Rattle.fx_grammar.specs.declared.parts.Head.TheVariants as head
use Rattle.fx_grammar.specs.declared.parts.Limits.{Limits}
use Rattle.fx_grammar.specs.declared.parts.Modifiers.{Modifiers}
use Rattle.fx_grammar.specs.declared.parts.Main.{Main}
use Rattle.fx_grammar.proofs.KindLaws.{apart_by}
use Rattle.fx_spelling.proofs.Saying.{fine_both}
use Rattle.fx_spelling.proofs.Columns.{once_once, once_names, names_both, fine_columns}
use Rattle.fx_spelling.proofs.Groups.{group_law}
use Rattle.fx_spelling.proofs.Queries.{printed_is_accepted}
use Rattle.fx_spelling.proofs.Tracking.{GoodToken, Track, placed_track, is_turning, Any, Maybe, Each, Some_of, each_of, Given, of_one, of_token, of_refusing, of_made, of_seq, of_after, of_either, of_opt, of_many, of_some, of_parens, of_then}
use Rattle.fx_spelling.proofs.Taken.{GoodPrefixes, OfName, GoodExpr, good_variable, of_variable, of_expression, of_constraint}
use Rattle.fx_spelling.proofs.TakenGroups.{GoodGroup, OfBlock, of_block, of_group}
use Rattle.fx_spelling.proofs.Sayings.{lexed_good}

-- ---- PREFIX

abbrev OfPrefix : Bool → List ℕ × List ℕ → Type 0
OfPrefix b p = IsUtf8 p.1

iri_is : (t : Token) (x : List ℕ) → grammar.iri_of t ≡ Ok x → GoodToken t → IsUtf8 x
iri_is (symbol.Iri iri) x h t = let same : iri ≡ x = cc (h) in subst IsUtf8 same t.utf8
iri_is (symbol.Text text) x h t = absurd (cc (h))
iri_is (symbol.Plain a) x h t = absurd (cc (h))
iri_is (symbol.Comparison a) x h t = absurd (cc (h))
iri_is (symbol.One a) x h t = absurd (cc (h))
iri_is (symbol.Two a) x h t = absurd (cc (h))
iri_is (symbol.Variable a) x h t = absurd (cc (h))
iri_is (symbol.PrefixName a b) x h t = absurd (cc (h))
iri_is (symbol.Tag a) x h t = absurd (cc (h))
iri_is (symbol.Integer a) x h t = absurd (cc (h))
iri_is (symbol.Signed a) x h t = absurd (cc (h))

of_prefix : Given OfPrefix grammar.prefix
unfolding grammar.prefix
of_prefix =
    let name : Given Any (one (is k.PrefixName) grammar.namespace_of) = of_one (is k.PrefixName) grammar.namespace_of (apart_by (is k.PrefixName) is_turning refl) (λ b t x e g. tt) in
    let iri : Given (λ b iri. IsUtf8 iri) (one (is k.Iri) grammar.iri_of) = of_one (is k.Iri) grammar.iri_of (apart_by (is k.Iri) is_turning refl) (λ b t x e g. iri_is t x e g) in
    let both : Given OfPrefix (seq (one (is k.PrefixName) grammar.namespace_of) (one (is k.Iri) grammar.iri_of)) = record { holds = λ ts x s context rest st tr. let r = (of_seq name iri).holds ts x s context rest st tr in (r.0.1, r.1) } in
    of_after k.Prefix refl both

of_prologue : Given (Each OfPrefix) grammar.prologue
unfolding grammar.prologue
of_prologue = of_many of_prefix

good_prefixes : (b : Bool) (ps : Prefixes) → Each OfPrefix b ps → GoodPrefixes ps
good_prefixes b [] h = tt
good_prefixes b (p ∷ ps) h = (h.0, good_prefixes b ps h.1)

-- ---- the head

abbrev OfSelected : Bool → Option (List (List ℕ)) → Type 0
OfSelected b None = Unit {0}
OfSelected b (Some columns) = Some_of OfName b columns

abbrev OfHead : Bool → Head → Type 0
OfHead b (head.Select distinct columns) = OfSelected b columns
OfHead b head.Ask = Unit {0}

of_head : Given OfHead grammar.query_head
unfolding grammar.query_head grammar.select_head grammar.distinct grammar.selected grammar.column
of_head =
    let column : Given OfName (either grammar.variable (refusing Unsupported (is k.LeftParen))) = of_either of_variable (of_refusing Unsupported (is k.LeftParen)) in
    let selected : Given OfSelected (either (made (λ u. None) (token k.Star)) (made Some (some (either grammar.variable (refusing Unsupported (is k.LeftParen)))))) =
    of_either (of_made (λ u. None) (of_token k.Star refl) (λ b u h. tt)) (of_made Some (of_some column) (λ b names h. h)) in
    let distinct : Given Any (either (made (λ u. true) (token k.Distinct)) (made (λ u. false) (token k.Reduced))) = of_either (of_made (λ u. true) (of_token k.Distinct refl) (λ b u h. tt)) (of_made (λ u. false) (of_token k.Reduced refl) (λ b u h. tt)) in
    of_either (of_made (λ p. head.Select (grammar.is_distinct p.0) p.1) (of_after k.Select refl (of_seq (of_opt distinct) selected)) (λ b p h. h.1))
    (of_either (of_made (λ u. head.Ask) (of_token k.Ask refl) (λ b u h. tt)) (of_refusing Unsupported (is k.OtherForm)))

-- ---- numbers

abbrev OfNumber : Bool → ℕ → Type 0
OfNumber b n = n < 2 ^ 64

within_is : (digits : List ℕ) (x : ℕ) → grammar.within (grammar.number_in digits) ≡ Ok x → x < 2 ^ 64
within_is digits x h = go (nat_le (grammar.number_from 0 digits) 18446744073709551615) refl h
  where
    go : (b : Bool) → nat_le (grammar.number_from 0 digits) 18446744073709551615 ≡ b → grammar.within (cond b (Some (grammar.number_from 0 digits)) None) ≡ Ok x → x < 2 ^ 64
    go true e h = let same : grammar.number_from 0 digits ≡ x = cc (h) in omega (arith, leb-true (grammar.number_from 0 digits) 18446744073709551615 e, same)
    go false e h = absurd (cc (h))

number_is : (t : Token) (x : ℕ) → grammar.number_of t ≡ Ok x → x < 2 ^ 64
number_is (symbol.Integer digits) x h = within_is digits x h
number_is (symbol.Iri iri) x h = absurd (cc (h))
number_is (symbol.Text text) x h = absurd (cc (h))
number_is (symbol.Plain a) x h = absurd (cc (h))
number_is (symbol.Comparison a) x h = absurd (cc (h))
number_is (symbol.One a) x h = absurd (cc (h))
number_is (symbol.Two a) x h = absurd (cc (h))
number_is (symbol.Variable a) x h = absurd (cc (h))
number_is (symbol.PrefixName a b) x h = absurd (cc (h))
number_is (symbol.Tag a) x h = absurd (cc (h))
number_is (symbol.Signed a) x h = absurd (cc (h))

of_number : Given OfNumber grammar.number
unfolding grammar.number
of_number = of_one (is k.Integer) grammar.number_of (apart_by (is k.Integer) is_turning refl) (λ b t x e g. number_is t x e)

abbrev OfLimits : Bool → Limits → Type 0
OfLimits b l = Maybe OfNumber b l.limit × Maybe OfNumber b l.offset

of_limits : Given OfLimits grammar.limits
unfolding grammar.limits grammar.limit grammar.offset
of_limits =
    let limit : Given OfNumber (after (token k.Limit) grammar.number) = of_after k.Limit refl of_number in
    let offset : Given OfNumber (after (token k.Offset) grammar.number) = of_after k.Offset refl of_number in
    of_either (of_made (λ p. grammar.limits_of (Some p.0) p.1) (of_seq limit (of_opt offset)) (λ b p h. h)) (of_made (λ p. grammar.limits_of p.1 (Some p.0)) (of_seq offset (of_opt limit)) (λ b p h. (h.1, h.0)))

limits_good : (b : Bool) (o : Option Limits) → Maybe OfLimits b o → OfLimits b (grammar.limits_or o)
limits_good b None h = (tt, tt)
limits_good b (Some l) h = h

-- ---- ORDER BY

abbrev OfKey : Bool → Order → Type 0
OfKey b key = GoodExpr key.expr

order_good : (b : Bool) (o : Option (List Order)) → Maybe (Some_of OfKey) b o → Each OfKey b (grammar.order_or o)
order_good b None h = tt
order_good b (Some keys) h = each_of OfKey b keys h

keys_good : (b : Bool) (keys : List Order) → Each OfKey b keys → all_keys keys ≡ true
keys_good b [] h = refl
keys_good b (key ∷ keys) h = and_from (measured key.expr).good (all_keys keys) h.0.0 (keys_good b keys h.1)

fine_key : (key : Order) → GoodExpr key.expr → AreFine (key_words key)
unfolding key_words
fine_key key h = go key.descending (is_call (printed key.expr).level) (is_variable (printed key.expr).level)
  where
    bracketed : AreFine (in_brackets (printed key.expr).words)
    bracketed = (inl refl, fine_both (printed key.expr).words (fixed (codes ")") ∷ []) h.1 (inl refl, tt))

    go : (d c v : Bool) → AreFine (cond d (fixed (codes "DESC") ∷ in_brackets (printed key.expr).words) (cond c (printed key.expr).words (cond v (printed key.expr).words (fixed (codes "ASC") ∷ in_brackets (printed key.expr).words))))
    go true c v = (inr (inl refl), bracketed)
    go false true v = h.1
    go false false true = h.1
    go false false false = (inr (inl refl), bracketed)

fine_keys : (b : Bool) (keys : List Order) → Each OfKey b keys → AreFine (flat_map key_words keys)
fine_keys b [] h = tt
fine_keys b (key ∷ keys) h = fine_both (key_words key) (flat_map key_words keys) (fine_key key h.0) (fine_keys b keys h.1)

fine_order : (b : Bool) (keys : List Order) → Each OfKey b keys → AreFine (order_words keys)
unfolding order_words
fine_order b [] h = tt
fine_order b (key ∷ keys) h = (inr (inl refl), (inr (inl refl), fine_keys b (key ∷ keys) h))

-- ---- the query's parts

record OfMain (b : Bool) (m : Main) : Type 0 where
  head : OfHead b m.head
  group : GoodGroup b m.group
  order : Each OfKey b m.modifiers.order
  limits : OfLimits b m.modifiers.limits

module _ (ps : Prefixes) (good : GoodPrefixes ps) where
  of_condition : Given OfKey (grammar.condition ps)
  unfolding grammar.condition
  of_condition =
      of_either (of_made (grammar.ordered false) (of_after k.Asc refl (of_parens (of_expression ps good))) (λ b e h. h))
      (of_either (of_made (grammar.ordered true) (of_after k.Desc refl (of_parens (of_expression ps good))) (λ b e h. h))
      (of_either (of_made (λ name. grammar.ordered false (expr.Variable name)) of_variable (λ b name h. good_variable name h)) (of_made (grammar.ordered false) (of_constraint ps good) (λ b e h. h))))

  of_order : Given (Each OfKey) (grammar.order ps)
  unfolding grammar.order
  of_order = of_made grammar.order_or (of_opt (of_either (of_after k.Order refl (of_after k.By refl (of_some of_condition))) (of_refusing Unsupported (is k.Grouping)))) (λ b o h. order_good b o h)

  of_where : Given GoodGroup (grammar.where_group ps)
  unfolding grammar.where_group
  of_where = of_made (λ p. p.1) (of_seq (of_opt (of_either (of_token k.Where refl) (of_refusing Unsupported (is k.From)))) (of_group ps good)) (λ b p h. h.1)

  of_main : Given OfMain (grammar.main ps)
  unfolding grammar.main grammar.modifiers
  of_main =
      let modifiers : Given (λ b (m : Modifiers). Each OfKey b m.order × OfLimits b m.limits) (made (λ p. record { order = p.0; limits = grammar.limits_or p.1 }) (seq (grammar.order ps) (opt grammar.limits))) =
      of_made (λ p. record { order = p.0; limits = grammar.limits_or p.1 }) (of_seq of_order (of_opt of_limits)) (λ b p h. (h.0, limits_good b p.1 h.1)) in
      of_made (λ p. record { head = p.0; group = p.1.0; modifiers = p.1.1 }) (of_seq of_head (of_seq of_where modifiers)) (λ b p h. record { head = h.0; group = h.1.0; order = h.1.1.0; limits = h.1.1.1 })

-- ---- a list of names with one in it

is_there : List (List ℕ) → Type 0
is_there [] = ⊥
is_there (n ∷ names) = Unit {0}

kept_there : (names : List (List ℕ)) (name : List ℕ) → is_there names → is_there (with_name names name)
unfolding with_name is_there
kept_there [] name h = absurd h
kept_there (n ∷ names) name h = go (is_among (n ∷ names) name)
  where
    go : (b : Bool) → is_there (cond b (n ∷ names) ((n ∷ names) ++ name ∷ []))
    go true = tt
    go false = tt

all_there : (front names : List (List ℕ)) → is_there front → is_there (fold with_name front names)
all_there front [] h = h
all_there front (n ∷ names) h = all_there (with_name front n) names (kept_there front n h)

first_there : (n : List ℕ) → is_there (with_name [] n)
unfolding with_name is_there
first_there n = tt

not_none : (names : List (List ℕ)) → is_there names → names ≡ [] → ⊥
unfolding is_there
not_none names h e = subst is_there e h

names_good : (b : Bool) (names : List (List ℕ)) → Each OfName b names → AreNames names
names_good b [] h = tt
names_good b (n ∷ names) h = (h.0, names_good b names h.1)

inline_names : (b : Bool) (inline : Option Inline) → Maybe OfBlock b inline → AreNames (grammar.inline_columns inline)
inline_names b None h = tt
inline_names b (Some inline) h = h.2

inline_good : (b : Bool) (inline : Option Inline) → Maybe OfBlock b inline → is_inline inline ≡ true
inline_good b None h = refl
inline_good b (Some inline) h = h.0

fine_inline : (b : Bool) (inline : Option Inline) → Maybe OfBlock b inline → AreFine (trailing_words inline)
fine_inline b None h = tt
fine_inline b (Some inline) h = (inr (inl refl), h.1)

scope_names : (b : Bool) (g : Group) → GoodGroup b g → AreNames (scope g)
scope_names b g h = once_names (group_mentions g) (subst AreNames (group_law [] g).names h.2)

columns_good : (b : Bool) (columns : Option (List (List ℕ))) (g : Group) (inline : Option Inline) → OfSelected b columns → GoodGroup b g → Maybe OfBlock b inline → AreNames (grammar.columns_of columns g inline)
columns_good b None g inline h i o = once_names (scope g ++ grammar.inline_columns inline) (names_both (scope g) (grammar.inline_columns inline) (scope_names b g i) (inline_names b inline o))
columns_good b (Some names) g inline h i o = once_names names (names_good b names (each_of OfName b names h))

form_good : (b : Bool) (h : Head) (g : Group) (inline : Option Inline) → OfHead b h → IsForm (grammar.form_of h g inline) g inline
form_good b (head.Select distinct None) g inline h = (once_once (scope g ++ grammar.inline_columns inline), λ e. e)
form_good b (head.Select distinct (Some [])) g inline h = absurd h
form_good b (head.Select distinct (Some (n ∷ names))) g inline h = (once_once (n ∷ names), λ e. absurd (not_none (once (n ∷ names)) (all_there (with_name [] n) names (first_there n)) e))
form_good b head.Ask g inline h = tt

fine_distinction : (distinct : Bool) → AreFine (distinction distinct)
fine_distinction true = (inr (inl refl), tt)
fine_distinction false = tt

fine_form : (b : Bool) (h : Head) (g : Group) (inline : Option Inline) → OfHead b h → GoodGroup b g → Maybe OfBlock b inline → AreFine (form_words (grammar.form_of h g inline))
unfolding form_words
fine_form b (head.Select distinct columns) g inline h i o = (
  inr (inl refl),
  fine_both (distinction distinct) (column_words (grammar.columns_of columns g inline) ++ fixed (codes "WHERE") ∷ []) (fine_distinction distinct)
      (fine_both (column_words (grammar.columns_of columns g inline)) (fixed (codes "WHERE") ∷ []) (fine_columns (grammar.columns_of columns g inline) (columns_good b columns g inline h i o)) (inr (inl refl), tt)),
)
fine_form b head.Ask g inline h i o = (inr (inl refl), (inr (inl refl), tt))

fine_limit : (b : Bool) (limit : Option ℕ) → Maybe OfNumber b limit → AreFine (limit_words limit)
fine_limit b None h = tt
fine_limit b (Some n) h = (inr (inl refl), (h, tt))

fine_offset : (b : Bool) (offset : Option ℕ) → Maybe OfNumber b offset → AreFine (offset_words (grammar.offset_or offset))
fine_offset b None h = tt
fine_offset b (Some n) h = go (n == 0)
  where
    go : (z : Bool) → AreFine (cond z [] (fixed (codes "OFFSET") ∷ number n ∷ []))
    go true = tt
    go false = (inr (inl refl), (h, tt))

abbrev OfQuery : Bool → Query → Type 0
OfQuery b q = IsPrintable q

query_good : (b : Bool) (m : Main) (inline : Option Inline) → OfMain b m → Maybe OfBlock b inline → IsPrintable (grammar.query_of m inline)
unfolding query_words
query_good b m inline h o =
    let q = grammar.query_of m inline in
    record {
      words = fine_both (form_words (grammar.form_of m.head m.group inline)) (group_words m.group ++ (order_words m.modifiers.order ++ (limit_words m.modifiers.limits.limit ++ (offset_words (grammar.offset_or m.modifiers.limits.offset) ++ trailing_words inline)))) (fine_form b m.head m.group inline h.head h.group o)
          (fine_both (group_words m.group) (order_words m.modifiers.order ++ (limit_words m.modifiers.limits.limit ++ (offset_words (grammar.offset_or m.modifiers.limits.offset) ++ trailing_words inline))) h.group.1
          (fine_both (order_words m.modifiers.order) (limit_words m.modifiers.limits.limit ++ (offset_words (grammar.offset_or m.modifiers.limits.offset) ++ trailing_words inline)) (fine_order b m.modifiers.order h.order)
          (fine_both (limit_words m.modifiers.limits.limit) (offset_words (grammar.offset_or m.modifiers.limits.offset) ++ trailing_words inline) (fine_limit b m.modifiers.limits.limit h.limits.0)
          (fine_both (offset_words (grammar.offset_or m.modifiers.limits.offset)) (trailing_words inline) (fine_offset b m.modifiers.limits.offset h.limits.1) (fine_inline b inline o)))));
      form = form_good b m.head m.group inline h.head;
      group = h.group.0;
      order = keys_good b m.modifiers.order h.order;
      inline = inline_good b inline o;
    }

of_body : (ps : Prefixes) → GoodPrefixes ps → Given OfQuery (grammar.body ps)
unfolding grammar.body
of_body ps good = of_made (λ p. grammar.query_of p.0 p.1) (of_seq (of_main ps good) (of_opt (of_after k.Values refl (of_block ps good)))) (λ b p h. query_good b p.0 p.1 h.0 h.1)

of_query : Given OfQuery grammar.query
unfolding grammar.query
of_query = of_made (λ p. p.1) (of_then (λ ps. OfQuery) (shape_of (grammar.body [])) grammar.body of_prologue (λ c ps h. of_body ps (good_prefixes c ps h))) (λ b p h. h.1)

-- ---- texts

pub accepted_is_printable : AcceptedIsPrintable
accepted_is_printable text q h =
    let tracked = placed_track outermost _ (lexed_good text h.tokens h.utf8 h.lexed) in
    (of_query.holds (classified text h.tokens) q h.spelled outermost [] tt (subst (Track outermost) (sym (append-nil (classified text h.tokens))) tracked)).0

pub spellable_is_accepted : SpellableIsAccepted
spellable_is_accepted text q h b = printed_is_accepted q (accepted_is_printable text q h) b
