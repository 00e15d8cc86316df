-- The run of triples with known parts, in an order in which these come first.
use Rattle.std.proofs.Common.{◌≡◌, ◌∙◌, ap, sym, subst, refl, ℕ, zero, suc, ◌<◌, Bool, true, false, ◌&&◌, cond, List, [], ◌∷◌, length, get_or, filter, arith, Option, Some, None}
use Rattle.std.specs.List.{AllByRecursion}
use Rattle.std.specs.List.Sorted.{IsStrictlySortedBy, IsPartitionedBy}
use Rattle.std.specs.declared.cmp.Ordering.{Ordering}
use Rattle.std.specs.declared.cmp.Ordering.TheVariants.{Less, Equal, Greater}
use Rattle.std.specs.Ordering.{is_lt, is_le, is_eq, ordering_then, ordering_reverse}
use Rattle.std.specs.Cmp.{IsTotalOrder}
use Rattle.std.proofs.lemmas.Cmp.{alike_right}
use Rattle.fx_terms.specs.Texts.{text_cmp}
use Rattle.fx_terms.specs.Triples.{triple_cmp}
use Rattle.fx_terms.specs.Terms.{term_cmp, terms_total}
use Rattle.fx_terms.specs.declared.terms.Term.{Term}
use Rattle.fx_terms.specs.declared.terms.Term.TheVariants.{Iri}
use Rattle.fx_terms.specs.declared.triples.Triple.{Triple}
use Rattle.fx_terms.proofs.OrderLemmas.{exact_terms}
use Rattle.fx_algebra.specs.Solutions.{same_term}
use Rattle.fx_algebra.specs.Sequences.{sorted_by}
use Rattle.fx_algebra.proofs.OrderLemmas.{Le, Ascends, sorted_ascends}
use Rattle.fx_store.specs.Orders.{next, term_at, part_cmp, two_cmp, order_cmp, first_of, in_order}
use Rattle.fx_store.specs.Lookups.{Known, known_at, against, place, place_second, place_third, is_in_front, stands_in_front, order_by, order_for, is_alone, is_predicate_alone, has_parts}
use Rattle.fx_store.specs.declared.orders.Part.{Part}
use Rattle.fx_store.specs.declared.orders.Part.TheVariants.{Subject, Predicate, Object}
use Rattle.fx_store.specs.declared.lookups.End.{End}
use Rattle.fx_store.specs.declared.lookups.End.TheVariants.{First, Last}
use Rattle.fx_store.proofs.PlaceLemmas.{order_total, exact}
use Rattle.fx_store.proofs.SortLemmas.{count_sorted, length_sorted, kept_in_order, sorted_back}

-- ---- the graph's own order

iri_cmp : (a b : List ℕ) → term_cmp (Iri a) (Iri b) ≡ text_cmp a b
iri_cmp a b = elim (text_cmp a b) as (λ o. ordering_then o (ordering_then (text_cmp [] []) (text_cmp [] [])) ≡ o) [ Less ↦ refl | Equal ↦ refl | Greater ↦ refl ]

pub own_order : (a b : Triple) → order_cmp Subject a b ≡ triple_cmp a b
own_order a b =
    ap (λ o. ordering_then o (ordering_then (term_cmp (Iri a.predicate) (Iri b.predicate)) (term_cmp a.object b.object))) (iri_cmp a.subject b.subject)
    ∙ ap (λ o. ordering_then (text_cmp a.subject b.subject) (ordering_then o (term_cmp a.object b.object))) (iri_cmp a.predicate b.predicate)

all_up : (x : Triple) (xs : List Triple) → AllByRecursion (λ y. triple_cmp x y ≡ Less) xs → AllByRecursion (Le (order_cmp Subject) (order_total Subject) x) xs
all_up x [] h = tt
all_up x (y ∷ ys) h = (ap is_le (own_order x y ∙ h.0), all_up x ys h.1)

pub graph_ascends : (xs : List Triple) → IsStrictlySortedBy triple_cmp xs → Ascends (order_cmp Subject) (order_total Subject) xs
unfolding IsStrictlySortedBy
graph_ascends [] h = tt
graph_ascends (x ∷ xs) h = (all_up x xs h.0, graph_ascends xs h.1)

pub ascends : (order : ℕ) (graph : List Triple) → IsStrictlySortedBy triple_cmp graph → Ascends (order_cmp (first_of order)) (order_total (first_of order)) (in_order order graph)
ascends zero graph h = graph_ascends graph h
ascends (suc zero) graph h = sorted_ascends (order_cmp Predicate) (order_total Predicate) graph
ascends (suc (suc order)) graph h = sorted_ascends (order_cmp Object) (order_total Object) graph

pub as_many : (order : ℕ) (graph : List Triple) → length (in_order order graph) ≡ length graph
as_many zero graph = refl
as_many (suc zero) graph = length_sorted (order_cmp Predicate) graph
as_many (suc (suc order)) graph = length_sorted (order_cmp Object) graph

-- ---- places

-- the first stands no further than the second
pub record IsUpTo (x y : Ordering) : Type 0 where
  pub below : is_lt y ≡ true → is_lt x ≡ true
  pub within : is_le y ≡ true → is_le x ≡ true

up_to_same : (x : Ordering) → IsUpTo x x
up_to_same x = record { below = λ h. h; within = λ h. h }

lt_of_first : (x y : Ordering) → is_lt (ordering_then x y) ≡ true → is_le x ≡ true
lt_of_first Less y h = refl
lt_of_first Equal y h = refl
lt_of_first Greater y h = cc

le_of_first : (x y : Ordering) → is_le (ordering_then x y) ≡ true → is_le x ≡ true
le_of_first Less y h = refl
le_of_first Equal y h = refl
le_of_first Greater y h = cc

-- what is below a term is below all that the term is not above
pub below_first : (a b v : Term) (o : Ordering) → term_cmp b v ≡ o → term_cmp a b ≡ Less → is_le o ≡ true → term_cmp a v ≡ Less
below_first a b v Less e f h = terms_total.trans a b v f e
below_first a b v Equal e f h = sym (alike_right terms_total b v a e) ∙ f
below_first a b v Greater e f h = cc

below_then : (a b v : Term) (x y : Ordering) → term_cmp a b ≡ Less → IsUpTo (ordering_then (term_cmp a v) x) (ordering_then (term_cmp b v) y)
below_then a b v x y f = record {
  below = λ h. ap (λ o. is_lt (ordering_then o x)) (below_first a b v (term_cmp b v) refl f (lt_of_first (term_cmp b v) y h));
  within = λ h. ap (λ o. is_le (ordering_then o x)) (below_first a b v (term_cmp b v) refl f (le_of_first (term_cmp b v) y h));
}

then_up_to : (o x y : Ordering) → IsUpTo x y → IsUpTo (ordering_then o x) (ordering_then o y)
then_up_to Less x y h = up_to_same Less
then_up_to Equal x y h = h
then_up_to Greater x y h = up_to_same Greater

tied_then : (a b v : Term) (x y : Ordering) → term_cmp a b ≡ Equal → IsUpTo x y → IsUpTo (ordering_then (term_cmp a v) x) (ordering_then (term_cmp b v) y)
tied_then a b v x y f h = subst (λ o. IsUpTo (ordering_then o x) (ordering_then (term_cmp b v) y)) (sym (terms_total.congr a b v f)) (then_up_to (term_cmp b v) x y h)

-- by the first part, or, where that ties, by the others
first_part : (a b v : Term) (o rest x y : Ordering) → term_cmp a b ≡ o → is_le (ordering_then o rest) ≡ true → (is_le rest ≡ true → IsUpTo x y) → IsUpTo (ordering_then (term_cmp a v) x) (ordering_then (term_cmp b v) y)
first_part a b v Less rest x y e f h = below_then a b v x y e
first_part a b v Equal rest x y e f h = tied_then a b v x y e (h f)
first_part a b v Greater rest x y e f h = cc

against_up : (a b : Term) (sought : Option Term) (rest x y : Ordering) → is_le (ordering_then (term_cmp a b) rest) ≡ true → (is_le rest ≡ true → IsUpTo x y) → IsUpTo (against sought a x) (against sought b y)
against_up a b None rest x y f h = up_to_same Equal
against_up a b (Some v) rest x y f h = first_part a b v (term_cmp a b) rest x y refl f h

alone_le : (o : Ordering) → is_le o ≡ true → is_le (ordering_then o Equal) ≡ true
alone_le Less h = refl
alone_le Equal h = refl
alone_le Greater h = cc

-- of two triples in an order the first stands no further than the second
place_up : (first : Part) (k : Known) (a b : Triple) → is_le (order_cmp first a b) ≡ true → IsUpTo (place first k a) (place first k b)
place_up first k a b f =
    let second = next first in
    let third = next (next first) in
    against_up (term_at first a) (term_at first b) (known_at first k) (two_cmp second a b) (place_second second k a) (place_second second k b) f
    (λ g. against_up (term_at second a) (term_at second b) (known_at second k) (part_cmp third a b) (place_third third k a) (place_third third k b) g
    (λ h. against_up (term_at third a) (term_at third b) (known_at third k) Equal Equal Equal (alone_le (part_cmp third a b) h) (λ _. up_to_same Equal)))

in_front_up : (end : End) (x y : Ordering) → IsUpTo x y → is_in_front end y ≡ true → is_in_front end x ≡ true
in_front_up First x y h e = h.below e
in_front_up Last x y h e = h.within e

-- ---- tests that hold of all before what they hold of

module _ {X : Type 0} (R : X → X → Ordering) (o : IsTotalOrder R) (p : X → Bool) (falls : (a b : X) → is_le (R a b) ≡ true → p b ≡ true → p a ≡ true) where
  above_at : (P : X → Type 0) (xs : List X) (j : ℕ) (d : X) → j < length xs → AllByRecursion P xs → P (get_or xs j d)
  above_at P [] j d b h = absurd (omega arith)
  above_at P (x ∷ xs) zero d b h = h.0
  above_at P (x ∷ xs) (suc j) d b h = above_at P xs j d (omega arith) h.1

  partitioned : (xs : List X) → Ascends R o xs → IsPartitionedBy p xs
  partitioned [] h i j d a b e = absurd (omega arith)
  partitioned (x ∷ xs) h zero zero d a b e = e
  partitioned (x ∷ xs) h zero (suc j) d a b e = falls x (get_or xs j d) (above_at (Le R o x) xs j d (omega arith) h.0) e
  partitioned (x ∷ xs) h (suc i) zero d a b e = absurd (omega arith)
  partitioned (x ∷ xs) h (suc i) (suc j) d a b e = partitioned xs h.1 i j d (omega arith) (omega arith) e

pub front_partitioned : (order : ℕ) (k : Known) (end : End) (graph : List Triple) → IsStrictlySortedBy triple_cmp graph → IsPartitionedBy (stands_in_front order k end) (in_order order graph)
front_partitioned order k end graph h =
    partitioned (order_cmp (first_of order)) (order_total (first_of order)) (stands_in_front order k end)
    (λ a b le e. in_front_up end (place (first_of order) k a) (place (first_of order) k b) (place_up (first_of order) k a b le) e)
    (in_order order graph) (ascends order graph h)

-- ---- which triples have the place of those that are sought

is_eq-reverse : (o : Ordering) → is_eq (ordering_reverse o) ≡ is_eq o
is_eq-reverse Less = refl
is_eq-reverse Equal = refl
is_eq-reverse Greater = refl

same_turned : (a b : Term) → is_eq (term_cmp a b) ≡ same_term b a
same_turned a b = ap is_eq (terms_total.antisymm a b) ∙ is_eq-reverse (term_cmp b a)

eq_then : (a b : Ordering) → is_eq (ordering_then a b) ≡ (is_eq a && is_eq b)
eq_then Less b = refl
eq_then Equal b = refl
eq_then Greater b = refl

-- a part that is known has to be the one that is sought, and what is behind has to be so too
known_part : (v t : Term) (behind : Ordering) (b : Bool) → is_eq behind ≡ b → is_eq (against (Some v) t behind) ≡ (same_term v t && b)
known_part v t behind b e = eq_then (term_cmp t v) behind ∙ ap (λ c. c && is_eq behind) (same_turned t v) ∙ ap (λ c. same_term v t && c) e

and_true : (a : Bool) → (a && true) ≡ a
and_true true = refl
and_true false = refl

and_turned : (a b : Bool) → (a && b) ≡ (b && a)
and_turned true true = refl
and_turned true false = refl
and_turned false true = refl
and_turned false false = refl

abbrev of_parts : Option Term → Option Term → Option Term → Known
of_parts s p o = record { subject = s; predicate = p; object = o }

level_at : (s p o : Option Term) (t : Triple) → is_eq (place (first_of (order_by s p o)) (of_parts s p o) t) ≡ has_parts (of_parts s p o) t
level_at (Some s) (Some p) (Some o) t = known_part s (Iri t.subject) _ _ (known_part p (Iri t.predicate) _ _ (known_part o t.object Equal true refl ∙ and_true (same_term o t.object)))
level_at (Some s) (Some p) None t = known_part s (Iri t.subject) _ _ (known_part p (Iri t.predicate) Equal true refl)
level_at (Some s) None None t = known_part s (Iri t.subject) Equal true refl
level_at (Some s) None (Some o) t =
    known_part o t.object _ _ (known_part s (Iri t.subject) Equal true refl ∙ and_true (same_term s (Iri t.subject))) ∙ and_turned (same_term o t.object) (same_term s (Iri t.subject))
level_at None (Some p) (Some o) t = known_part p (Iri t.predicate) _ _ (known_part o t.object Equal true refl ∙ and_true (same_term o t.object))
level_at None (Some p) None t = known_part p (Iri t.predicate) Equal true refl
level_at None None (Some o) t = known_part o t.object Equal true refl ∙ and_true (same_term o t.object)
level_at None None None t = refl

pub level : (k : Known) (t : Triple) → is_eq (place (first_of (order_for k)) k t) ≡ has_parts k t
level k t = level_at k.subject k.predicate k.object t

pub same_filter : {X : Type 0} (p q : X → Bool) (xs : List X) → ((x : X) → p x ≡ q x) → filter p xs ≡ filter q xs
same_filter p q [] h = refl
same_filter p q (x ∷ xs) h = ap (λ b. cond b (x ∷ filter p xs) (filter p xs)) (h x) ∙ ap (λ v. cond (q x) (x ∷ v) v) (same_filter p q xs h)

-- ---- those with the known parts, in the order of the graph

both : (a b : Bool) → (a && b) ≡ true → (a ≡ true) × (b ≡ true)
both true b h = (refl, h)
both false b h = absurd (cc)

tied : (o : Ordering) → is_eq o ≡ true → o ≡ Equal
tied Less h = cc
tied Equal h = refl
tied Greater h = cc

-- what are the same as one are the same
same_both : (v a b : Term) → same_term v a ≡ true → same_term v b ≡ true → term_cmp a b ≡ Equal
same_both v a b h k =
    ap (λ w. term_cmp w b) (sym (exact_terms v a (tied (term_cmp v a) h))) ∙ tied (term_cmp v b) k

-- by object first, where the objects are the same
after_object : (s p o : Ordering) → o ≡ Equal → ordering_then s (ordering_then p o) ≡ Less → is_le (ordering_then o (ordering_then s p)) ≡ true
after_object Less p o e h = ap (λ v. is_le (ordering_then v Less)) e
after_object Equal Less o e h = ap (λ v. is_le (ordering_then v Less)) e
after_object Equal Equal o e h = ap (λ v. is_le (ordering_then v Equal)) e
after_object Equal Greater o e h = absurd (cc)
after_object Greater p o e h = absurd (cc)

-- by predicate and object first, where both are the same
after_both : (s p o : Ordering) → p ≡ Equal → o ≡ Equal → ordering_then s (ordering_then p o) ≡ Less → is_le (ordering_then p (ordering_then o s)) ≡ true
after_both Less p o e f h = ap (λ v. is_le (ordering_then v (ordering_then o Less))) e ∙ ap (λ v. is_le (ordering_then v Less)) f
after_both Equal p o e f h = ap (λ v. is_le (ordering_then v (ordering_then o Equal))) e ∙ ap (λ v. is_le (ordering_then v Equal)) f
after_both Greater p o e f h = absurd (cc)

keeps_object : (o : Term) (x y : Triple) → same_term o x.object ≡ true → same_term o y.object ≡ true → triple_cmp x y ≡ Less → is_le (order_cmp Object x y) ≡ true
keeps_object o x y h k e = after_object (part_cmp Subject x y) (part_cmp Predicate x y) (part_cmp Object x y) (same_both o x.object y.object h k) (own_order x y ∙ e)

keeps_both : (p o : Term) (x y : Triple) → (same_term p (Iri x.predicate) && same_term o x.object) ≡ true → (same_term p (Iri y.predicate) && same_term o y.object) ≡ true → triple_cmp x y ≡ Less → is_le (order_cmp Predicate x y) ≡ true
keeps_both p o x y h k e =
    let a = both (same_term p (Iri x.predicate)) (same_term o x.object) h in
    let b = both (same_term p (Iri y.predicate)) (same_term o y.object) k in
    after_both (part_cmp Subject x y) (part_cmp Predicate x y) (part_cmp Object x y) (same_both p (Iri x.predicate) (Iri y.predicate) a.0 b.0) (same_both o x.object y.object a.1 b.1) (own_order x y ∙ e)

in_place_at : (s p o : Option Term) (graph : List Triple) → IsStrictlySortedBy triple_cmp graph → is_alone s p o ≡ false → filter (has_parts (of_parts s p o)) (in_order (order_by s p o) graph) ≡ filter (has_parts (of_parts s p o)) graph
in_place_at (Some s) (Some p) o graph h e = refl
in_place_at (Some s) None None graph h e = refl
in_place_at (Some s) None (Some o) graph h e =
    kept_in_order (order_cmp Object) triple_cmp (order_total Object) (has_parts (of_parts (Some s) None (Some o)))
    (λ x y a b c. keeps_object o x y (both (same_term s (Iri x.subject)) (same_term o x.object) a).1 (both (same_term s (Iri y.subject)) (same_term o y.object) b).1 c) graph h
in_place_at None (Some p) (Some o) graph h e = kept_in_order (order_cmp Predicate) triple_cmp (order_total Predicate) (has_parts (of_parts None (Some p) (Some o))) (keeps_both p o) graph h
in_place_at None (Some p) None graph h e = absurd (cc)
in_place_at None None (Some o) graph h e = kept_in_order (order_cmp Object) triple_cmp (order_total Object) (has_parts (of_parts None None (Some o))) (keeps_object o) graph h
in_place_at None None None graph h e = refl

-- unless the predicate alone is known, they stand as in the graph
pub in_place : (k : Known) (graph : List Triple) → IsStrictlySortedBy triple_cmp graph → is_predicate_alone k ≡ false → filter (has_parts k) (in_order (order_for k) graph) ≡ filter (has_parts k) graph
in_place k graph h e = in_place_at k.subject k.predicate k.object graph h e

back_at : (q : Triple → Bool) (s p o : Option Term) (graph : List Triple) → IsStrictlySortedBy triple_cmp graph → is_alone s p o ≡ true → sorted_by (order_cmp Subject) (filter q (in_order (order_by s p o) graph)) ≡ filter q graph
back_at q None (Some p) None graph h e = sorted_back (order_cmp Predicate) (order_cmp Subject) (order_total Subject) q (exact Subject) graph (graph_ascends graph h)
back_at q None (Some p) (Some o) graph h e = absurd (cc)
back_at q None None o graph h e = absurd (cc)
back_at q (Some s) p o graph h e = absurd (cc)

-- and if it is, sorting brings them back
pub sorted_in_place : (k : Known) (graph : List Triple) → IsStrictlySortedBy triple_cmp graph → is_predicate_alone k ≡ true → sorted_by (order_cmp Subject) (filter (has_parts k) (in_order (order_for k) graph)) ≡ filter (has_parts k) graph
sorted_in_place k graph h e = back_at (has_parts k) k.subject k.predicate k.object graph h e

-- each order has as many of them
pub as_many_with : (q : Triple → Bool) (order : ℕ) (graph : List Triple) → length (filter q (in_order order graph)) ≡ length (filter q graph)
as_many_with q zero graph = refl
as_many_with q (suc zero) graph = count_sorted (order_cmp Predicate) q graph
as_many_with q (suc (suc order)) graph = count_sorted (order_cmp Object) q graph
