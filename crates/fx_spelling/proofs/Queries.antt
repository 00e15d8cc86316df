-- A printed query is accepted as that query, where the grammar has it and at most 64 brackets are open at once.
use Rattle.std.proofs.Common.{◌≡◌, ℕ, suc, ◌<◌, ◌≤◌, ◌^◌, Bool, true, false, cond, List, [], ◌∷◌, ◌++◌, Option, Some, None, refl, sym, ap, ◌∙◌, subst, arith, append_assoc, inl, inr}
use Rattle.std.specs.Prelude.{codes, ◌==◌}
use Rattle.std.specs.List.{flat_map, list_all}
use Rattle.std.specs.Fmt.{decimal}
use Rattle.std.proofs.lemmas.Bool.{and_parts, eqb-true}
use Rattle.fx_algebra.specs.Printed.{Word, fixed, number, joined, in_brackets, Printed, printed, Level, is_call, is_variable, block, column_words, distinction, form_words, key_words, order_words, limit_words, offset_words, trailing_words, group_words, query_words}
use Rattle.fx_algebra.specs.declared.expressions.Expr.{Expr}
use Rattle.fx_algebra.specs.declared.queries.Inline.{Inline}
use Rattle.fx_algebra.specs.declared.queries.Order.{Order}
use Rattle.fx_algebra.specs.declared.queries.Group.{Group}
use Rattle.fx_algebra.specs.declared.queries.Form.{Form}
use Rattle.fx_algebra.specs.declared.queries.Form.TheVariants as form
use Rattle.fx_algebra.specs.declared.queries.Query.{Query}
use Rattle.fx_grammar.specs.Rule.{token, seq, after, opt, many, some}
use Rattle.fx_grammar.specs.Grammar as grammar
use Rattle.fx_grammar.specs.Accepted.{Accepted}
use Rattle.fx_algebra.specs.Measures.{measured}
use Rattle.fx_spelling.specs.Printable.{AreFine, said, held, block_nest, key_nest, most_keys, all_keys, inline_nest, is_inline, brackets, IsForm, IsPrintable, PrintedIsAccepted}
use Rattle.fx_grammar.specs.declared.kinds.Kind.TheVariants as k
use Rattle.fx_grammar.specs.declared.kinds.Token.{Token}
use Rattle.fx_grammar.specs.declared.kinds.Token.TheVariants as symbol
use Rattle.fx_grammar.specs.declared.parts.Head.{Head}
use Rattle.fx_grammar.specs.declared.parts.Head.TheVariants as head
use Rattle.fx_grammar.specs.declared.parts.Limits.{Limits}
use Rattle.fx_grammar.specs.declared.parts.Main.{Main}
use Rattle.fx_spelling.proofs.Saying.{said_both}
use Rattle.fx_spelling.proofs.Spelling.{mark_said, after_said, parens_said}
use Rattle.fx_spelling.proofs.Numbers.{number_said}
use Rattle.fx_spelling.proofs.Placing.{Passes, passes_none, passes_both, passes_less, passes_served, passes_calm, passes_behind, passes_parens, is_calm, calm_both}
use Rattle.fx_spelling.proofs.Accepting.{accepted_so}
use Rattle.fx_spelling.proofs.Columns.{columns_read, calm_columns, named, selected_said}
use Rattle.fx_spelling.proofs.Expressions.{fine_split, said_brackets, fine_brackets, law}
use Rattle.fx_spelling.proofs.Blocks.{block_passes, block_said}
use Rattle.fx_spelling.proofs.Groups.{group_law, group_passes, serve_more, whole_said}

-- ---- what is asked for

abbrev head_of : Form → Head
head_of (form.Select distinct columns) = head.Select distinct (named columns)
head_of form.Ask = head.Ask

abbrev head_tokens : Form → List Token
head_tokens (form.Select distinct columns) = symbol.Plain k.Select ∷ (said (distinction distinct) ++ said (column_words columns))
head_tokens form.Ask = symbol.Plain k.Ask ∷ []

form_said : (f : Form) → said (form_words f) ≡ head_tokens f ++ symbol.Plain k.Where ∷ []
unfolding form_words
form_said (form.Select distinct columns) =
    ap (λ (v : List Token). symbol.Plain k.Select ∷ v)
    (said_both (distinction distinct) (column_words columns ++ fixed (codes "WHERE") ∷ []) ∙ ap (λ (v : List Token). said (distinction distinct) ++ v) (said_both (column_words columns) (fixed (codes "WHERE") ∷ []))
    ∙ sym (append_assoc (said (distinction distinct)) (said (column_words columns)) (symbol.Plain k.Where ∷ [])))
form_said form.Ask = refl

select_said : (distinct : Bool) (columns : List (List ℕ)) → grammar.select_head.spells (symbol.Plain k.Select ∷ (said (distinction distinct) ++ said (column_words columns))) (head.Select distinct (named columns))
unfolding grammar.select_head grammar.distinct
select_said true columns = (
  (Some true, named columns),
  after_said k.Select (seq grammar.distinct grammar.selected) (symbol.Plain k.Distinct ∷ said (column_words columns)) (Some true, named columns)
      (symbol.Plain k.Distinct ∷ [], said (column_words columns), refl, inl (tt, mark_said k.Distinct, refl), selected_said columns),
  refl,
)
select_said false columns =
    ((None, named columns), after_said k.Select (seq grammar.distinct grammar.selected) (said (column_words columns)) (None, named columns) ([], said (column_words columns), refl, refl, selected_said columns), refl)

head_said : (f : Form) → grammar.query_head.spells (head_tokens f) (head_of f)
unfolding grammar.query_head
head_said (form.Select distinct columns) = inl (select_said distinct columns)
head_said form.Ask = inr (inl (tt, mark_said k.Ask, refl))

calm_distinction : (b : Bool) → list_all is_calm (said (distinction b)) ≡ true
calm_distinction true = refl
calm_distinction false = refl

calm_head : (f : Form) → list_all is_calm (head_tokens f) ≡ true
calm_head (form.Select distinct columns) = calm_both (said (distinction distinct)) (said (column_words columns)) (calm_distinction distinct) (calm_columns columns)
calm_head form.Ask = refl

form_read : (f : Form) (g : Group) (inline : Option Inline) → IsForm f g inline → f ≡ grammar.form_of (head_of f) g inline
form_read (form.Select distinct columns) g inline h = ap (form.Select distinct) (sym (columns_read columns g inline h.0 h.1))
form_read form.Ask g inline h = refl

-- ---- LIMIT and OFFSET

record Limited (limit : Option ℕ) (offset : ℕ) (tokens : List Token) : Type 0 where
  value : Option Limits
  spelled : (opt grammar.limits).spells tokens value
  limit_is : limit ≡ (grammar.limits_or value).limit
  offset_is : offset ≡ grammar.offset_or (grammar.limits_or value).offset

number_one : (n : ℕ) → n < 2 ^ 64 → grammar.number.spells (symbol.Integer (decimal n) ∷ []) n
unfolding grammar.number
number_one n h = (symbol.Integer (decimal n), refl, refl, number_said n h)

limit_one : (n : ℕ) → n < 2 ^ 64 → grammar.limit.spells (symbol.Plain k.Limit ∷ symbol.Integer (decimal n) ∷ []) n
unfolding grammar.limit
limit_one n h = after_said k.Limit grammar.number (symbol.Integer (decimal n) ∷ []) n (number_one n h)

offset_one : (n : ℕ) → n < 2 ^ 64 → grammar.offset.spells (symbol.Plain k.Offset ∷ symbol.Integer (decimal n) ∷ []) n
unfolding grammar.offset
offset_one n h = after_said k.Offset grammar.number (symbol.Integer (decimal n) ∷ []) n (number_one n h)

limits_said : (limit : Option ℕ) (offset : ℕ) (b : Bool) → (offset == 0) ≡ b → AreFine (limit_words limit) → AreFine (cond b [] (fixed (codes "OFFSET") ∷ number offset ∷ [])) → Limited limit offset (said (limit_words limit) ++ said (cond b [] (fixed (codes "OFFSET") ∷ number offset ∷ [])))
unfolding grammar.limits
limits_said None offset true e f g = record { value = None; spelled = refl; limit_is = refl; offset_is = eqb-true offset 0 e }
limits_said None offset false e f g = record {
  value = Some (grammar.limits_of None (Some offset));
  spelled = inr ((offset, None), (symbol.Plain k.Offset ∷ symbol.Integer (decimal offset) ∷ [], [], refl, offset_one offset g.1.0, refl), refl);
  limit_is = refl;
  offset_is = refl;
}
limits_said (Some limit) offset true e f g = record {
  value = Some (grammar.limits_of (Some limit) None);
  spelled = inl ((limit, None), (symbol.Plain k.Limit ∷ symbol.Integer (decimal limit) ∷ [], [], refl, limit_one limit f.1.0, refl), refl);
  limit_is = refl;
  offset_is = eqb-true offset 0 e;
}
limits_said (Some limit) offset false e f g = record {
  value = Some (grammar.limits_of (Some limit) (Some offset));
  spelled = inl ((limit, Some offset), (symbol.Plain k.Limit ∷ symbol.Integer (decimal limit) ∷ [], symbol.Plain k.Offset ∷ symbol.Integer (decimal offset) ∷ [], refl, limit_one limit f.1.0, offset_one offset g.1.0), refl);
  limit_is = refl;
  offset_is = refl;
}

calm_limit : (limit : Option ℕ) → list_all is_calm (said (limit_words limit)) ≡ true
calm_limit None = refl
calm_limit (Some n) = refl

calm_offset : (offset : ℕ) → list_all is_calm (said (offset_words offset)) ≡ true
calm_offset offset = go (offset == 0)
  where
    go : (b : Bool) → list_all is_calm (said (cond b [] (fixed (codes "OFFSET") ∷ number offset ∷ []))) ≡ true
    go true = refl
    go false = refl

-- ---- ORDER BY

abbrev key_at : Bool → Bool → Bool → Printed → List Word
key_at descending call name p = cond descending (fixed (codes "DESC") ∷ in_brackets p.words) (cond call p.words (cond name p.words (fixed (codes "ASC") ∷ in_brackets p.words)))

abbrev nest_at : Bool → Bool → Bool → ℕ → ℕ
nest_at descending call name n = cond descending (suc n) (cond call n (cond name n (suc n)))

pass_brackets : (n : ℕ) (words : List Word) → Passes false n (said words) → Passes false (suc n) (said (in_brackets words))
pass_brackets n words p = subst (Passes false (suc n)) (sym (said_brackets words)) (passes_parens false n (said words) p)

key_passes_at : (descending call name : Bool) (p : Printed) (n : ℕ) → Passes false n (said p.words) → Passes false (nest_at descending call name n) (said (key_at descending call name p))
key_passes_at true call name p n h = passes_behind false (suc n) (symbol.Plain k.Desc) (said (in_brackets p.words)) refl (pass_brackets n p.words h)
key_passes_at false true name p n h = h
key_passes_at false false true p n h = h
key_passes_at false false false p n h = passes_behind false (suc n) (symbol.Plain k.Asc) (said (in_brackets p.words)) refl (pass_brackets n p.words h)

key_nest_is : (key : Order) → key_nest key ≡ nest_at key.descending (is_call (printed key.expr).level) (is_variable (printed key.expr).level) (measured key.expr).nest
key_nest_is key = ap (λ (l : Level). nest_at key.descending (is_call l) (is_variable l) (measured key.expr).nest) (sym (law [] key.expr).level)

key_passes : (key : Order) → Passes false (key_nest key) (said (key_words key))
unfolding key_words
key_passes key =
    subst (λ (n : ℕ). Passes false n (said (key_at key.descending (is_call (printed key.expr).level) (is_variable (printed key.expr).level) (printed key.expr)))) (sym (key_nest_is key))
    (key_passes_at key.descending (is_call (printed key.expr).level) (is_variable (printed key.expr).level) (printed key.expr) (measured key.expr).nest (law [] key.expr).passes)

in_parens : (e : Expr) → (measured e).good ≡ true → AreFine (in_brackets (printed e).words) → suc (measured e).nest ≤ 64 → (grammar.parens (grammar.whole_expression [])).spells (said (in_brackets (printed e).words)) e
in_parens e g f h =
    subst (λ (v : List Token). (grammar.parens (grammar.whole_expression [])).spells v e) (sym (said_brackets (printed e).words))
    (parens_said (grammar.whole_expression []) (said (printed e).words) e (whole_said [] e g (fine_brackets (printed e).words f) (omega (arith, h))))

ordered_as : (key : Order) (b : Bool) → key.descending ≡ b → key ≡ grammar.ordered b key.expr
ordered_as key b e = λ i. record { descending = e i; expr = key.expr }

key_said_at : (key : Order) (descending call name : Bool) → key.descending ≡ descending → is_call (printed key.expr).level ≡ call → is_variable (printed key.expr).level ≡ name → (measured key.expr).good ≡ true → AreFine (key_at descending call name (printed key.expr)) → nest_at descending call name (measured key.expr).nest ≤ 64
    → (grammar.condition []).spells (said (key_at descending call name (printed key.expr))) key
unfolding grammar.condition grammar.constraint grammar.whole_expression grammar.expression grammar.variable
key_said_at key true call name d c v g f h =
    inr (inl (key.expr, after_said k.Desc (grammar.parens (grammar.whole_expression [])) (said (in_brackets (printed key.expr).words)) key.expr (in_parens key.expr g f.1 h), ordered_as key true d))
key_said_at key false true name d c v g f h = inr (inr (inr (key.expr, inr (inl ((law [] key.expr).calls c g f 64 h)), ordered_as key false d)))
key_said_at key false false true d c v g f h =
    let n = (law [] key.expr).is_name (ap is_variable (sym (law [] key.expr).level) ∙ v) in
    inr (inr (inl (n.0, subst (λ (w : List Word). grammar.variable.spells (said w) n.0) (sym n.2) (symbol.Variable n.0, refl, refl, refl), ordered_as key false d ∙ ap (grammar.ordered false) n.1)))
key_said_at key false false false d c v g f h = inl (key.expr, after_said k.Asc (grammar.parens (grammar.whole_expression [])) (said (in_brackets (printed key.expr).words)) key.expr (in_parens key.expr g f.1 h), ordered_as key false d)

key_said : (key : Order) → (measured key.expr).good ≡ true → AreFine (key_words key) → key_nest key ≤ 64 → (grammar.condition []).spells (said (key_words key)) key
unfolding key_words
key_said key g f h =
    key_said_at key key.descending (is_call (printed key.expr).level) (is_variable (printed key.expr).level) refl refl refl g f (subst (λ (n : ℕ). n ≤ 64) (key_nest_is key) h)

keys_said : (keys : List Order) → all_keys keys ≡ true → AreFine (flat_map key_words keys) → most_keys keys ≤ 64 → (many (grammar.condition [])).spells (said (flat_map key_words keys)) keys
keys_said [] g f h = refl
keys_said (key ∷ keys) g f h =
    let t = and_parts (measured key.expr).good (all_keys keys) g in
    let u = fine_split (key_words key) (flat_map key_words keys) f in
    (said (key_words key), said (flat_map key_words keys), said_both (key_words key) (flat_map key_words keys), key_said key t.0 u.0 (omega (arith, h)), keys_said keys t.1 u.1 (omega (arith, h)))

keys_pass : (keys : List Order) (n : ℕ) → most_keys keys ≤ n → Passes false n (said (flat_map key_words keys))
keys_pass [] n h = passes_none false n
keys_pass (key ∷ keys) n h =
    subst (Passes false n) (sym (said_both (key_words key) (flat_map key_words keys))) (passes_both false n (said (key_words key)) (said (flat_map key_words keys)) (passes_less false (key_nest key) n (said (key_words key)) (omega (arith, h)) (key_passes key)) (keys_pass keys n (omega (arith, h))))

order_said : (keys : List Order) → all_keys keys ≡ true → AreFine (order_words keys) → most_keys keys ≤ 64 → (grammar.order []).spells (said (order_words keys)) keys
unfolding grammar.order order_words
order_said [] g f h = (None, refl, refl)
order_said (key ∷ keys) g f h =
    let t = and_parts (measured key.expr).good (all_keys keys) g in
    let u = fine_split (key_words key) (flat_map key_words keys) f.1.1 in
    let some_said : (some (grammar.condition [])).spells (said (flat_map key_words (key ∷ keys))) (key ∷ keys) =
    ((key, keys), (said (key_words key), said (flat_map key_words keys), said_both (key_words key) (flat_map key_words keys), key_said key t.0 u.0 (omega (arith, h)), keys_said keys t.1 u.1 (omega (arith, h))), refl) in
    (Some (key ∷ keys), inl (after_said k.Order (after (token k.By) (some (grammar.condition []))) (symbol.Plain k.By ∷ said (flat_map key_words (key ∷ keys))) (key ∷ keys) (after_said k.By (some (grammar.condition [])) (said (flat_map key_words (key ∷ keys))) (key ∷ keys) some_said)), refl)

order_passes : (keys : List Order) (n : ℕ) → most_keys keys ≤ n → Passes false n (said (order_words keys))
unfolding order_words
order_passes [] n h = passes_none false n
order_passes (key ∷ keys) n h = passes_behind false n (symbol.Plain k.Order) (symbol.Plain k.By ∷ said (flat_map key_words (key ∷ keys))) refl (passes_behind false n (symbol.Plain k.By) (said (flat_map key_words (key ∷ keys))) refl (keys_pass (key ∷ keys) n h))

-- ---- VALUES behind the query

inline_said : (inline : Option Inline) → is_inline inline ≡ true → AreFine (trailing_words inline) → (opt (after (token k.Values) (grammar.block []))).spells (said (trailing_words inline)) inline
inline_said None g f = refl
inline_said (Some inline) g f = after_said k.Values (grammar.block []) (said (block inline)) inline (block_said [] inline g f.1)

inline_passes : (inline : Option Inline) → Passes false (inline_nest inline) (said (trailing_words inline))
inline_passes None = passes_none false 0
inline_passes (Some inline) = passes_behind false (block_nest inline) (symbol.Plain k.Values) (said (block inline)) refl (block_passes false inline)

-- ---- the query

module _ (q : Query) (h : IsPrintable q) (b : brackets q ≤ 64) where
  parts_of : said (query_words q) ≡ said (form_words q.form) ++ (said (group_words q.group) ++ (said (order_words q.order) ++ (said (limit_words q.limit) ++ (said (offset_words q.offset) ++ said (trailing_words q.inline)))))
  unfolding query_words
  parts_of =
      said_both (form_words q.form) (group_words q.group ++ (order_words q.order ++ (limit_words q.limit ++ (offset_words q.offset ++ trailing_words q.inline))))
      ∙ ap (λ (v : List Token). said (form_words q.form) ++ v) (said_both (group_words q.group) (order_words q.order ++ (limit_words q.limit ++ (offset_words q.offset ++ trailing_words q.inline)))
      ∙ ap (λ (v : List Token). said (group_words q.group) ++ v) (said_both (order_words q.order) (limit_words q.limit ++ (offset_words q.offset ++ trailing_words q.inline))
      ∙ ap (λ (v : List Token). said (order_words q.order) ++ v) (said_both (limit_words q.limit) (offset_words q.offset ++ trailing_words q.inline)
      ∙ ap (λ (v : List Token). said (limit_words q.limit) ++ v) (said_both (offset_words q.offset) (trailing_words q.inline)))))

  record Fine : Type 0 where
    group : AreFine (group_words q.group)
    order : AreFine (order_words q.order)
    limit : AreFine (limit_words q.limit)
    offset : AreFine (offset_words q.offset)
    inline : AreFine (trailing_words q.inline)

  fine : Fine
  unfolding query_words
  fine =
      let a = fine_split (form_words q.form) (group_words q.group ++ (order_words q.order ++ (limit_words q.limit ++ (offset_words q.offset ++ trailing_words q.inline)))) h.words in
      let c = fine_split (group_words q.group) (order_words q.order ++ (limit_words q.limit ++ (offset_words q.offset ++ trailing_words q.inline))) a.1 in
      let d = fine_split (order_words q.order) (limit_words q.limit ++ (offset_words q.offset ++ trailing_words q.inline)) c.1 in
      let e = fine_split (limit_words q.limit) (offset_words q.offset ++ trailing_words q.inline) d.1 in
      let f = fine_split (offset_words q.offset) (trailing_words q.inline) e.1 in
      record { group = c.0; order = d.0; limit = e.0; offset = f.0; inline = f.1 }

  calm_passes : (tokens : List Token) → list_all is_calm tokens ≡ true → Passes true 64 tokens
  calm_passes tokens c = passes_calm true 64 tokens c

  query_passes : Passes true 64 (said (query_words q))
  query_passes =
      let group : Passes true 64 (said (group_words q.group)) = passes_less true (held q.group).nest 64 (said (group_words q.group)) (omega (arith, b)) (serve_more (held q.group).serves true (held q.group).nest (said (group_words q.group)) (λ e. refl) (group_passes [] (group_words q.group) (held q.group) q.group (group_law [] q.group) h.group)) in
      let order : Passes true 64 (said (order_words q.order)) = passes_served true 64 (said (order_words q.order)) (order_passes q.order 64 (omega (arith, b))) in
      let inline : Passes true 64 (said (trailing_words q.inline)) = passes_served true 64 (said (trailing_words q.inline)) (passes_less false (inline_nest q.inline) 64 (said (trailing_words q.inline)) (omega (arith, b)) (inline_passes q.inline)) in
      let front : Passes true 64 (said (form_words q.form)) = subst (Passes true 64) (sym (form_said q.form)) (calm_passes (head_tokens q.form ++ symbol.Plain k.Where ∷ []) (calm_both (head_tokens q.form) (symbol.Plain k.Where ∷ []) (calm_head q.form) refl)) in
      subst (Passes true 64) (sym parts_of)
      (passes_both true 64 (said (form_words q.form)) (said (group_words q.group) ++ (said (order_words q.order) ++ (said (limit_words q.limit) ++ (said (offset_words q.offset) ++ said (trailing_words q.inline))))) front
      (passes_both true 64 (said (group_words q.group)) (said (order_words q.order) ++ (said (limit_words q.limit) ++ (said (offset_words q.offset) ++ said (trailing_words q.inline)))) group
      (passes_both true 64 (said (order_words q.order)) (said (limit_words q.limit) ++ (said (offset_words q.offset) ++ said (trailing_words q.inline))) order
      (passes_both true 64 (said (limit_words q.limit)) (said (offset_words q.offset) ++ said (trailing_words q.inline)) (calm_passes (said (limit_words q.limit)) (calm_limit q.limit))
      (passes_both true 64 (said (offset_words q.offset)) (said (trailing_words q.inline)) (calm_passes (said (offset_words q.offset)) (calm_offset q.offset)) inline)))))

  limited : Limited q.limit q.offset (said (limit_words q.limit) ++ said (offset_words q.offset))
  limited = limits_said q.limit q.offset (q.offset == 0) refl fine.limit fine.offset

  where_said : (grammar.where_group []).spells (symbol.Plain k.Where ∷ said (group_words q.group)) q.group
  unfolding grammar.where_group grammar.whole_group
  where_said = ((Some tt, q.group), (symbol.Plain k.Where ∷ [], said (group_words q.group), refl, inl (mark_said k.Where), (group_law [] q.group).spelled h.group fine.group 64 (omega (arith, b)) (omega arith)), refl)

  main_of : Main
  main_of = record { head = head_of q.form; group = q.group; modifiers = record { order = q.order; limits = grammar.limits_or limited.value } }

  modifiers_said : (grammar.modifiers []).spells (said (order_words q.order) ++ (said (limit_words q.limit) ++ said (offset_words q.offset))) (record { order = q.order; limits = grammar.limits_or limited.value })
  unfolding grammar.modifiers
  modifiers_said = ((q.order, limited.value), (said (order_words q.order), said (limit_words q.limit) ++ said (offset_words q.offset), refl, order_said q.order h.order fine.order (omega (arith, b)), limited.spelled), refl)

  abbrev main_tokens : List Token
  main_tokens = head_tokens q.form ++ ((symbol.Plain k.Where ∷ said (group_words q.group)) ++ (said (order_words q.order) ++ (said (limit_words q.limit) ++ said (offset_words q.offset))))

  main_said : (grammar.main []).spells main_tokens main_of
  unfolding grammar.main main_of
  main_said = (
    (head_of q.form, (q.group, record { order = q.order; limits = grammar.limits_or limited.value })),
    (
      head_tokens q.form,
      (symbol.Plain k.Where ∷ said (group_words q.group)) ++ (said (order_words q.order) ++ (said (limit_words q.limit) ++ said (offset_words q.offset))),
      refl,
      head_said q.form,
      (symbol.Plain k.Where ∷ said (group_words q.group), said (order_words q.order) ++ (said (limit_words q.limit) ++ said (offset_words q.offset)), refl, where_said, modifiers_said),
    ),
    refl,
  )

  tokens_are : said (query_words q) ≡ main_tokens ++ said (trailing_words q.inline)
  tokens_are =
      parts_of ∙ ap (λ (v : List Token). v ++ (said (group_words q.group) ++ (said (order_words q.order) ++ (said (limit_words q.limit) ++ (said (offset_words q.offset) ++ said (trailing_words q.inline)))))) (form_said q.form)
      ∙ simp append_assoc

  query_is : q ≡ grammar.query_of main_of q.inline
  unfolding main_of
  query_is = λ i. record { form = form_read q.form q.group q.inline h.form i; group = q.group; order = q.order; offset = limited.offset_is i; limit = limited.limit_is i; inline = q.inline }

  spelled : grammar.query.spells (said (query_words q)) q
  unfolding grammar.query grammar.prologue grammar.body
  spelled = (([], q), ([], said (query_words q), refl, refl, ((main_of, q.inline), (main_tokens, said (trailing_words q.inline), tokens_are, main_said, inline_said q.inline h.inline fine.inline), query_is)), refl)

  accepted : Accepted (joined (query_words q)) q
  accepted = accepted_so (query_words q) q h.words query_passes spelled

pub printed_is_accepted : PrintedIsAccepted
printed_is_accepted q h b = accepted q h b
