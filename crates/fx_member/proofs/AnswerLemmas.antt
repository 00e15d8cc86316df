-- The answer of an accepted query binds its columns alone, and these are distinct.
use Rattle.std.proofs.Common.{◌≡◌, ◌∙◌, ap, sym, subst, refl, ℕ, zero, suc, Bool, true, false, cond, ◌&&◌, ◌||◌, List, [], ◌∷◌, ◌++◌, map, take, drop, Option, None, Some, append_assoc, append-nil}
use Rattle.std.specs.Prelude.{fold, not}
use Rattle.std.specs.List.{list_all, list_any}
use Rattle.std.specs.Ordering.{is_eq, is_le}
use Rattle.std.specs.declared.cmp.Ordering.{Ordering}
use Rattle.std.proofs.lemmas.Cmp.{tied_itself}
use Rattle.std.proofs.lemmas.List.Folds.{list_any-append}
use Rattle.fx_terms.specs.Texts.{text_cmp, texts_total}
use Rattle.fx_terms.specs.declared.triples.Triple.{Triple}
use Rattle.fx_algebra.specs.Answers.{answer, form_answer, selected, query_rows}
use Rattle.fx_algebra.specs.OrderedRows.{keyed, keyed_cmp, in_order}
use Rattle.fx_algebra.specs.Scopes.{is_among, with_name, once, scope}
use Rattle.fx_algebra.specs.Sequences.{projected, sorted_by, insert_by, row_cmp, with_row, distinct_rows, limited}
use Rattle.fx_algebra.specs.Solutions.{Bindings}
use Rattle.fx_algebra.specs.declared.keys.Keyed.{Keyed}
use Rattle.fx_algebra.specs.declared.queries.Form.{Form}
use Rattle.fx_algebra.specs.declared.queries.Form.TheVariants.{Select, Ask}
use Rattle.fx_algebra.specs.declared.queries.Group.{Group}
use Rattle.fx_algebra.specs.declared.queries.Inline.{Inline}
use Rattle.fx_algebra.specs.declared.queries.Order.{Order}
use Rattle.fx_algebra.specs.declared.queries.Query.{Query}
use Rattle.fx_algebra.proofs.ForcedLemmas.{name_from}
use Rattle.fx_results.specs.Meanings.{is_within, binds_columns}
use Rattle.fx_results.specs.Reading.{are_distinct}
use Rattle.fx_grammar.specs.Accepted.{IsSpellable}
use Rattle.fx_grammar.specs.Grammar.{query, body, query_of, form_of, columns_of, inline_columns}
use Rattle.fx_grammar.specs.declared.kinds.Token.{Token}
use Rattle.fx_grammar.specs.declared.parts.Head.{Head}
use Rattle.fx_grammar.specs.declared.parts.Head.TheVariants as head
use Rattle.fx_grammar.specs.declared.parts.Main.{Main}

both : (a b : Bool) → (a && b) ≡ true → (a ≡ true) × (b ≡ true)
both true b h = (refl, h)
both false b h = cc

and_true : (a b : Bool) → a ≡ true → b ≡ true → (a && b) ≡ true
and_true true b g h = h
and_true false b g h = cc

-- ---- names, each once

-- each name is none of those before it
abbrev IsFresh : List (List ℕ) → List (List ℕ) → Type 0
IsFresh before [] = Unit {0}
IsFresh before (n ∷ ns) = (is_among before n ≡ false) × IsFresh (before ++ n ∷ []) ns

fresh_more : (before ns : List (List ℕ)) (n : List ℕ) → IsFresh before ns → is_among (before ++ ns) n ≡ false → IsFresh before (ns ++ n ∷ [])
fresh_more before [] n h new = (ap (λ v. is_among v n) (sym (append-nil before)) ∙ new, tt)
fresh_more before (m ∷ ms) n h new = (h.0, fresh_more (before ++ m ∷ []) ms n h.1 (ap (λ v. is_among v n) (append_assoc before (m ∷ []) ms) ∙ new))

fresh_with : (ns : List (List ℕ)) (n : List ℕ) → IsFresh [] ns → IsFresh [] (with_name ns n)
unfolding with_name
fresh_with ns n h = pick (is_among ns n) refl
  where
    pick : (b : Bool) → is_among ns n ≡ b → IsFresh [] (cond b ns (ns ++ n ∷ []))
    pick true e = h
    pick false e = fresh_more [] ns n h e

fresh_folded : (ns names : List (List ℕ)) → IsFresh [] ns → IsFresh [] (fold with_name ns names)
fresh_folded ns [] h = h
fresh_folded ns (n ∷ names) h = fresh_folded (with_name ns n) names (fresh_with ns n h)

-- a name of those before is none of those that follow
absent : (before ns : List (List ℕ)) (n : List ℕ) → IsFresh before ns → is_among before n ≡ true → is_among ns n ≡ false
absent before [] n h k = refl
absent before (m ∷ ms) n h k = pick (is_eq (text_cmp m n)) refl (absent (before ++ m ∷ []) ms n h.1 (list_any-append (λ x. is_eq (text_cmp x n)) before (m ∷ []) ∙ or_left (is_among before n) (is_among (m ∷ []) n) k))
  where
    or_left : (a b : Bool) → a ≡ true → (a || b) ≡ true
    or_left true b e = refl
    or_left false b e = cc

    pick : (b : Bool) → is_eq (text_cmp m n) ≡ b → is_among ms n ≡ false → (b || is_among ms n) ≡ false
    pick true e later = let same : m ≡ n = name_from m n e in let out : is_among before n ≡ false = subst (λ (v : List ℕ). is_among before v ≡ false) same h.0 in cc
    pick false e later = later

here : (before : List (List ℕ)) (n : List ℕ) → is_among (before ++ n ∷ []) n ≡ true
here before n = list_any-append (λ x. is_eq (text_cmp x n)) before (n ∷ []) ∙ last (is_among before n) (is_eq (text_cmp n n)) (ap is_eq (tied_itself texts_total n))
  where
    last : (a b : Bool) → b ≡ true → (a || (b || false)) ≡ true
    last true b e = refl
    last false true e = refl
    last false false e = cc

distinct : (before ns : List (List ℕ)) → IsFresh before ns → are_distinct ns ≡ true
distinct before [] h = refl
distinct before (n ∷ ns) h =
    and_true (not (is_among ns n)) (are_distinct ns) (ap not (absent (before ++ n ∷ []) ns n h.1 (here before n))) (distinct (before ++ n ∷ []) ns h.1)

once_distinct : (names : List (List ℕ)) → are_distinct (once names) ≡ true
once_distinct names = distinct [] (once names) (fresh_folded [] names tt)

-- ---- rows

projected_within : (columns : List (List ℕ)) (s : Bindings) → is_within columns (projected columns s) ≡ true
projected_within columns [] = refl
projected_within columns (e ∷ es) = pick (is_among columns e.0) refl (projected_within columns es)
  where
    pick : (b : Bool) → is_among columns e.0 ≡ b → is_within columns (projected columns es) ≡ true → is_within columns (cond b (e ∷ projected columns es) (projected columns es)) ≡ true
    pick true k later = and_true (is_among columns e.0) (is_within columns (projected columns es)) k later
    pick false k later = later

all_insert : {X : Type 0} (R : X → X → Ordering) (p : X → Bool) (x : X) (ys : List X) → p x ≡ true → list_all p ys ≡ true → list_all p (insert_by R x ys) ≡ true
unfolding insert_by
all_insert R p x [] h k = and_true (p x) true h refl
all_insert R p x (y ∷ ys) h k = pick (is_le (R x y)) (all_insert R p x ys h (both (p y) (list_all p ys) k).1)
  where
    pick : (b : Bool) → list_all p (insert_by R x ys) ≡ true → list_all p (cond b (x ∷ y ∷ ys) (y ∷ insert_by R x ys)) ≡ true
    pick true later = and_true (p x) (list_all p (y ∷ ys)) h k
    pick false later = and_true (p y) (list_all p (insert_by R x ys)) (both (p y) (list_all p ys) k).0 later

all_sorted : {X : Type 0} (R : X → X → Ordering) (p : X → Bool) (xs : List X) → list_all p xs ≡ true → list_all p (sorted_by R xs) ≡ true
unfolding sorted_by
all_sorted R p [] h = refl
all_sorted R p (x ∷ xs) h = let t = both (p x) (list_all p xs) h in all_insert R p x (sorted_by R xs) t.0 (all_sorted R p xs t.1)

all_kept : (columns : List (List ℕ)) (rows : List Bindings) (row : Bindings) → list_all (is_within columns) rows ≡ true → is_within columns row ≡ true → list_all (is_within columns) (rows ++ row ∷ []) ≡ true
all_kept columns [] row h k = and_true (is_within columns row) true k refl
all_kept columns (r ∷ rs) row h k = let t = both (is_within columns r) (list_all (is_within columns) rs) h in and_true (is_within columns r) _ t.0 (all_kept columns rs row t.1 k)

all_once : (columns : List (List ℕ)) (kept rows : List Bindings) → list_all (is_within columns) kept ≡ true → list_all (is_within columns) rows ≡ true → list_all (is_within columns) (fold (with_row columns) kept rows) ≡ true
all_once columns kept [] h k = h
all_once columns kept (r ∷ rs) h k =
    let t = both (is_within columns r) (list_all (is_within columns) rs) k in
    all_once columns (with_row columns kept r) rs (pick (list_any (λ s. is_eq (row_cmp columns s r)) kept)) t.1
  where
    pick : (b : Bool) → list_all (is_within columns) (cond b kept (kept ++ r ∷ [])) ≡ true
    pick true = h
    pick false = all_kept columns kept r h (both (is_within columns r) (list_all (is_within columns) rs) k).0

all_distinct : (is_distinct : Bool) (columns : List (List ℕ)) (rows : List Bindings) → list_all (is_within columns) rows ≡ true → list_all (is_within columns) (distinct_rows is_distinct columns rows) ≡ true
all_distinct true columns rows h = all_once columns [] rows refl h
all_distinct false columns rows h = h

all_behind : {X : Type 0} (p : X → Bool) (n : ℕ) (xs : List X) → list_all p xs ≡ true → list_all p (drop n xs) ≡ true
all_behind p zero xs h = h
all_behind p (suc n) [] h = h
all_behind p (suc n) (x ∷ xs) h = all_behind p n xs (both (p x) (list_all p xs) h).1

all_front : {X : Type 0} (p : X → Bool) (n : ℕ) (xs : List X) → list_all p xs ≡ true → list_all p (take n xs) ≡ true
all_front p zero xs h = refl
all_front p (suc n) [] h = h
all_front p (suc n) (x ∷ xs) h = let t = both (p x) (list_all p xs) h in and_true (p x) _ t.0 (all_front p n xs t.1)

all_limited : (columns : List (List ℕ)) (limit : Option ℕ) (rows : List Bindings) → list_all (is_within columns) rows ≡ true → list_all (is_within columns) (limited limit rows) ≡ true
all_limited columns (Some limit) rows h = all_front (is_within columns) limit rows h
all_limited columns None rows h = h

all_keyed : (orders : List Order) (columns : List (List ℕ)) (rows : List Bindings) → list_all (λ (k : Keyed). is_within columns k.row) (map (keyed orders columns) rows) ≡ true
all_keyed orders columns [] = refl
all_keyed orders columns (s ∷ ss) = and_true (is_within columns (projected columns s)) _ (projected_within columns s) (all_keyed orders columns ss)

all_mapped : (columns : List (List ℕ)) (ks : List Keyed) → list_all (λ (k : Keyed). is_within columns k.row) ks ≡ true → list_all (is_within columns) (map (λ k. k.row) ks) ≡ true
all_mapped columns [] h = refl
all_mapped columns (k ∷ ks) h = let t = both (is_within columns k.row) (list_all (λ (k : Keyed). is_within columns k.row) ks) h in and_true (is_within columns k.row) _ t.0 (all_mapped columns ks t.1)

all_in_order : (orders : List Order) (columns : List (List ℕ)) (rows : List Bindings) → list_all (is_within columns) (in_order orders columns rows) ≡ true
all_in_order orders columns rows =
    all_mapped columns (sorted_by (keyed_cmp orders columns) (map (keyed orders columns) rows))
    (all_sorted (keyed_cmp orders columns) (λ (k : Keyed). is_within columns k.row) (map (keyed orders columns) rows) (all_keyed orders columns rows))

all_selected : (q : Query) (is_distinct : Bool) (columns : List (List ℕ)) (rows : List Bindings) → list_all (is_within columns) (selected q is_distinct columns rows) ≡ true
all_selected q is_distinct columns rows =
    all_limited columns q.limit (drop q.offset (distinct_rows is_distinct columns (in_order q.order columns rows)))
    (all_behind (is_within columns) q.offset (distinct_rows is_distinct columns (in_order q.order columns rows)) (all_distinct is_distinct columns (in_order q.order columns rows) (all_in_order q.order columns rows)))

-- ---- the answer

-- the columns of a form are distinct
abbrev has_distinct : Form → Bool
has_distinct (Select is_distinct columns) = are_distinct columns
has_distinct Ask = true

form_binds : (q : Query) (form : Form) (rows : List Bindings) → has_distinct form ≡ true → binds_columns (form_answer q form rows) ≡ true
form_binds q (Select is_distinct columns) rows h = and_true (are_distinct columns) _ h (all_selected q is_distinct columns rows)
form_binds q Ask rows h = refl

columns_distinct : (names : Option (List (List ℕ))) (g : Group) (inline : Option Inline) → are_distinct (columns_of names g inline) ≡ true
columns_distinct (Some names) g inline = once_distinct names
columns_distinct None g inline = once_distinct (scope g ++ inline_columns inline)

form_distinct : (h : Head) (g : Group) (inline : Option Inline) → has_distinct (form_of h g inline) ≡ true
form_distinct (head.Select once_each names) g inline = columns_distinct names g inline
form_distinct head.Ask g inline = refl

-- a query that is spelled is made of its parts
made_of : (tokens : List Token) (q : Query) → query.spells tokens q → (main : Main) × (inline : Option Inline) × (q ≡ query_of main inline)
unfolding query body
made_of tokens q h = let whole = h.1.4 in (whole.0.0, whole.0.1, h.2 ∙ whole.2)

pub spelled_answer : (q : Query) (graph : List Triple) (graphs : List ℕ → List Triple) (down : List ℕ) → IsSpellable q → binds_columns (answer q graph graphs down) ≡ true
spelled_answer q graph graphs down h =
    let made = made_of _ q h.1.spelled in
    let distinct : has_distinct q.form ≡ true = subst (λ (r : Query). has_distinct r.form ≡ true) (sym made.2) (form_distinct made.0.head made.0.group made.1) in
    form_binds q q.form (query_rows q graph graphs down) distinct
