-- Joins, and how they stand to basic graph patterns.
use Rattle.std.proofs.Common.{◌≡◌, ◌∙◌, ap, sym, subst, refl, ℕ, Bool, true, false, ◌&&◌, ◌||◌, T, cond, List, [], ◌∷◌, ◌++◌, map, filter, sum_by, Option, Some, None, is_some, option_and_then, IsPermutation, append-nil, if◌then◌else◌}
use Rattle.std.specs.List.{AllByRecursion, flat_map, filter_map, cons_option}
use Rattle.std.specs.Option.{option_or}
use Rattle.std.specs.declared.cmp.Ordering.{Ordering}
use Rattle.std.specs.declared.cmp.Ordering.TheVariants.{Less, Equal, Greater}
use Rattle.std.specs.Ordering.{is_eq, is_lt, ordering_then}
use Rattle.std.specs.FinMap.Entries.{below_all}
use Rattle.std.proofs.lemmas.Cmp.{tied_itself}
use Rattle.std.proofs.lemmas.Map.Lookups.{exact_bytes}
use Rattle.fx_terms.specs.Texts.{text_cmp, texts_total}
use Rattle.fx_terms.specs.Terms.{term_cmp}
use Rattle.fx_terms.specs.declared.terms.Term.{Term}
use Rattle.fx_terms.specs.declared.triples.Triple.{Triple}
use Rattle.fx_terms.specs.declared.patterns.Pattern.{Pattern}
use Rattle.fx_terms.specs.declared.patterns.PatternTerm.{PatternTerm}
use Rattle.fx_terms.proofs.OrderLemmas.{exact_terms}
use Rattle.fx_algebra.specs.Solutions.{Bindings, term_of, with_pair, with_new, rises, agree, is_or_none, merge, pair_cmp, solution_cmp, solutions_total}
use Rattle.fx_algebra.specs.BasicGraphPatterns.{choices, parts_of, all_parts, forced, bgp}
use Rattle.fx_algebra.specs.Evaluation.{extended, rows_from}
use Rattle.fx_algebra.specs.Operators.{merges, join}
use Rattle.fx_algebra.proofs.PairLemmas.{rises_merge}
use Rattle.fx_algebra.proofs.ForcedLemmas.{same_from, same_itself, name_from, with_pair_has, value_kept, same_value, Extends, IsForced, AllAre, of_outcome, forced_is, forces, forces_it}
use Rattle.fx_algebra.proofs.BgpLemmas.{rows_beside, rows_from-flat_map, rows_from-bgp}
use Rattle.fx_algebra.proofs.WeightLemmas.{SameWeights, weights_from, permutation_from, sum_by_same, sum_by-flat_map, sum_by-map, sum_by-filter}

-- ---- solutions are told apart

tie : (o p : Ordering) → ordering_then o p ≡ Equal → (o ≡ Equal) × (p ≡ Equal)
tie Equal p h = (refl, h)
tie Less p h = cc
tie Greater p h = cc

exact_pair : (a b : List ℕ × Term) → pair_cmp a b ≡ Equal → a ≡ b
exact_pair a b h =
    let t = tie (text_cmp a.0 b.0) (term_cmp a.1 b.1) h in
    let n : a.0 ≡ b.0 = exact_bytes a.0 b.0 t.0 in
    let e : a.1 ≡ b.1 = exact_terms a.1 b.1 t.1 in
    λ i. (n i, e i)

pub exact_solutions : (a b : Bindings) → solution_cmp a b ≡ Equal → a ≡ b
exact_solutions [] [] h = refl
exact_solutions [] (f ∷ fs) h = cc
exact_solutions (e ∷ es) [] h = cc
exact_solutions (e ∷ es) (f ∷ fs) h =
    let t = tie (pair_cmp e f) (solution_cmp es fs) h in
    let here : e ≡ f = exact_pair e f t.0 in
    let rest : es ≡ fs = exact_solutions es fs t.1 in
    λ i. here i ∷ rest i

pub same_rows_from : (a b : List Bindings) → SameWeights a b → IsPermutation a b
same_rows_from = permutation_from solution_cmp solutions_total exact_solutions

-- ---- the terms of merged solutions

found_new : (a : Bindings) (e : List ℕ × Term) (n : List ℕ) (old found : Option Term) (b : Bool) → term_of a e.0 ≡ old → is_eq (text_cmp n e.0) ≡ b
    → option_or (term_of (cond (is_some old) a (with_pair a e.0 e.1)) n) found ≡ option_or (term_of a n) (cond b (Some e.1) found)
found_new a e n (Some t) found true h k = let x : term_of a n ≡ Some t = ap (term_of a) (name_from n e.0 k) ∙ h in ap (λ o. option_or o found) x ∙ sym (ap (λ o. option_or o (Some e.1)) x)
found_new a e n (Some t) found false h k = refl
found_new a e n None found true h k =
    let x : term_of a n ≡ None = ap (term_of a) (name_from n e.0 k) ∙ h in
    ap (λ o. option_or o found) (with_pair_has a e.0 e.1 n ∙ ap (λ b. cond b (Some e.1) (term_of a n)) k) ∙ sym (ap (λ o. option_or o (Some e.1)) x)
found_new a e n None found false h k = ap (λ o. option_or o found) (with_pair_has a e.0 e.1 n ∙ ap (λ b. cond b (Some e.1) (term_of a n)) k)

or_none : (o : Option Term) → o ≡ option_or o None
or_none None = refl
or_none (Some t) = refl

-- a merge has the first's terms, and of the second those whose names the first lacks
pub find-merge : (a b : Bindings) (n : List ℕ) → term_of (merge a b) n ≡ option_or (term_of a n) (term_of b n)
find-merge a [] n = or_none (term_of a n)
find-merge a (e ∷ es) n = find-merge (with_new a e) es n ∙ found_new a e n (term_of a e.0) (term_of es n) (is_eq (text_cmp n e.0)) refl refl

-- ---- what agreeing means

both : (a b : Bool) → (a && b) ≡ true → (a ≡ true) × (b ≡ true)
both true b h = (refl, h)
both false b h = cc

and_true : (a b : Bool) → a ≡ true → b ≡ true → (a && b) ≡ true
and_true true b g h = h
and_true false b g h = cc

agreed : (u : Term) (o : Option Term) (t : Term) → is_or_none u o ≡ true → o ≡ Some t → u ≡ t
agreed u None t h e = cc
agreed u (Some v) t h e = same_from u v h ∙ same_value v t e

-- solutions that agree have one term under a name that both bind
pub agree_has : (a b : Bindings) (n : List ℕ) (u t : Term) → agree a b ≡ true → term_of a n ≡ Some u → term_of b n ≡ Some t → u ≡ t
agree_has [] b n u t h x y = cc
agree_has (e ∷ es) b n u t h x y =
    let two = both (is_or_none e.1 (term_of b e.0)) (agree es b) h in
    pick (is_eq (text_cmp n e.0)) refl x two.0 (agree_has es b n u t two.1)
  where
    pick : (c : Bool) → is_eq (text_cmp n e.0) ≡ c → cond c (Some e.1) (term_of es n) ≡ Some u → is_or_none e.1 (term_of b e.0) ≡ true → (term_of es n ≡ Some u → term_of b n ≡ Some t → u ≡ t) → u ≡ t
    pick true f k one later = sym (same_value e.1 u k) ∙ agreed e.1 (term_of b e.0) t one (ap (term_of b) (sym (name_from n e.0 f)) ∙ y)
    pick false f k one later = later k y

no_eq : (o : Ordering) → T (is_lt o) → is_eq o ≡ false
no_eq Less h = refl
no_eq Equal h = absurd h
no_eq Greater h = absurd h

T_first : (a b : Bool) → T (a && b) → T a
T_first true b p = tt
T_first false b p = p

T_second : (a b : Bool) → T (a && b) → T b
T_second true b p = p
T_second false b p = absurd p

to_T : (b : Bool) → b ≡ true → T b
to_T true h = tt
to_T false h = cc

true_from : (b : Bool) → T b → b ≡ true
true_from true h = refl
true_from false h = absurd h

-- a name below all others has no term
none_below : (name : List ℕ) (es : Bindings) → T (below_all text_cmp name es) → term_of es name ≡ None
none_below name [] h = refl
none_below name (e ∷ es) h = ap (λ b. cond b (Some e.1) (term_of es name)) (no_eq (text_cmp name e.0) (T_first _ _ h)) ∙ none_below name es (T_second _ _ h)

first_here : (e : List ℕ × Term) (es : Bindings) → term_of (e ∷ es) e.0 ≡ Some e.1
first_here e es = ap (λ o. cond (is_eq o) (Some e.1) (term_of es e.0)) (tied_itself texts_total e.0)

later_here : (e : List ℕ × Term) (es : Bindings) (n : List ℕ) (t : Term) → T (below_all text_cmp e.0 es) → term_of es n ≡ Some t → term_of (e ∷ es) n ≡ Some t
later_here e es n t h k = pick (is_eq (text_cmp n e.0)) refl
  where
    pick : (c : Bool) → is_eq (text_cmp n e.0) ≡ c → cond c (Some e.1) (term_of es n) ≡ Some t
    pick true f = let none : term_of es n ≡ None = ap (term_of es) (name_from n e.0 f) ∙ none_below e.0 es h in absurd (cc)
    pick false f = k

is_or_none_of : (u : Term) (o : Option Term) (r : Option Term) → ((t : Term) → o ≡ Some t → r ≡ Some t) → r ≡ Some u → is_or_none u o ≡ true
is_or_none_of u None r f e = refl
is_or_none_of u (Some t) r f e = same_itself u t (same_value u t (sym e ∙ f t refl))

-- solutions that one solution extends agree
pub extended_agree : (a b r : Bindings) → T (rises a) → Extends a r → Extends b r → agree a b ≡ true
extended_agree [] b r up x y = refl
extended_agree (e ∷ es) b r up x y =
    and_true _ _
    (is_or_none_of e.1 (term_of b e.0) (term_of r e.0) (λ t k. y.has e.0 t k) (x.has e.0 e.1 (first_here e es)))
    (extended_agree es b r (T_second _ _ up) (record { has = λ n t k. x.has n t (later_here e es n t (T_first _ _ up) k) }) y)

or_some : (o p : Option Term) (t : Term) → o ≡ Some t → option_or o p ≡ Some t
or_some None p t e = cc
or_some (Some u) p t e = e

pub merge_extends_left : (a b : Bindings) → Extends a (merge a b)
merge_extends_left a b = record { has = λ n t e. find-merge a b n ∙ or_some (term_of a n) (term_of b n) t e }

pub or_other : (o p : Option Term) (t : Term) → ((u : Term) → o ≡ Some u → u ≡ t) → p ≡ Some t → option_or o p ≡ Some t
or_other None p t f e = e
or_other (Some u) p t f e = ap Some (f u refl)

pub merge_extends_right : (a b : Bindings) → agree a b ≡ true → Extends b (merge a b)
merge_extends_right a b h = record { has = λ n t e. find-merge a b n ∙ or_other (term_of a n) (term_of b n) t (λ u k. agree_has a b n u t h k e) e }

-- ---- what parts force beside a solution is what they force alone, merged with it

-- the merge, where both agree
abbrev pub joined : Bindings → Bindings → Option Bindings
joined a b = if agree a b then Some (merge a b) else None

all_kept : (s r : Bindings) (cs : List (PatternTerm × Term)) → Extends s r → AllAre s cs → AllAre r cs
all_kept s r [] x h = tt
all_kept s r (c ∷ cs) x h = (value_kept s r c.0 c.1 x h.0, all_kept s r cs x h.1)

pub some_or : (o p : Option Term) → is_some (option_or o p) ≡ (is_some o || is_some p)
some_or None p = refl
some_or (Some t) p = refl

none_unless : (o : Option Bindings) → ((r : Bindings) → o ≡ Some r → ⊥) → o ≡ None
none_unless None h = refl
none_unless (Some r) h = absurd (h r refl)

extends_nothing : (r : Bindings) → Extends [] r
extends_nothing r = record { has = λ n t e. cc }

pub forced_beside : (a : Bindings) (cs : List (PatternTerm × Term)) → T (rises a) → forced a cs ≡ option_and_then (joined a) (forced [] cs)
forced_beside a cs up = pick (forced [] cs) refl
  where
    is : (r : Bindings) → forced a cs ≡ Some r → IsForced a cs r
    is r e = of_outcome (IsForced a cs) (forced a cs) r e (forced_is a cs)

    together : (b : Bindings) → forced [] cs ≡ Some b → (c : Bool) → agree a b ≡ c → forced a cs ≡ cond c (Some (merge a b)) None
    together b e true h =
        let f = of_outcome (IsForced [] cs) (forced [] cs) b e (forced_is [] cs) in
        let m = merge a b in
        forces_it a m cs (true_from _ up) (rises_merge a b (true_from _ up)) (merge_extends_left a b) (all_kept b m cs (merge_extends_right a b h) f.values)
        (λ n. ap is_some (find-merge a b n) ∙ some_or (term_of a n) (term_of b n) ∙ ap (λ v. is_some (term_of a n) || v) (f.binds n))
    together b e false h = none_unless (forced a cs) (λ r g.
        let f = is r g in
        let alone = forces [] r cs (extends_nothing r) f.values in
        let same : alone.0 ≡ b = same_row (sym alone.1 ∙ e) in
        let yes : agree a b ≡ true = extended_agree a b r up f.extends (subst (λ (v : Bindings). Extends v r) same alone.2) in
        absurd (cc))
      where
        same_row : {x y : Bindings} → Some x ≡ Some y → x ≡ y
        same_row e = cc

    pick : (o : Option Bindings) → forced [] cs ≡ o → forced a cs ≡ option_and_then (joined a) o
    pick None e = none_unless (forced a cs) (λ r g. let alone = forces [] r cs (extends_nothing r) (is r g).values in let no : Some alone.0 ≡ None = sym alone.1 ∙ e in absurd (cc))
    pick (Some b) e = together b e (agree a b) refl

-- ---- the join with a pattern's solutions

merges_of : {X : Type 0} (f : X → Option Bindings) (a : Bindings) (ts : List X) → merges (filter_map f ts) a ≡ filter_map (λ t. option_and_then (joined a) (f t)) ts
merges_of f a [] = refl
merges_of f a (t ∷ ts) = pick (f t) (merges_of f a ts)
  where
    tested : (b : Bindings) (c : Bool) → merges (filter_map f ts) a ≡ filter_map (λ t. option_and_then (joined a) (f t)) ts
        → map (merge a) (cond c (b ∷ filter (agree a) (filter_map f ts)) (filter (agree a) (filter_map f ts))) ≡ cons_option (cond c (Some (merge a b)) None) (filter_map (λ t. option_and_then (joined a) (f t)) ts)
    tested b true rest = ap (λ v. merge a b ∷ v) rest
    tested b false rest = rest

    pick : (o : Option Bindings) → merges (filter_map f ts) a ≡ filter_map (λ t. option_and_then (joined a) (f t)) ts
        → merges (cons_option o (filter_map f ts)) a ≡ cons_option (option_and_then (joined a) o) (filter_map (λ t. option_and_then (joined a) (f t)) ts)
    pick None rest = rest
    pick (Some b) rest = tested b (agree a b) rest

filter_map_same : {A B : Type 0} (f g : A → Option B) → ((x : A) → f x ≡ g x) → (xs : List A) → filter_map f xs ≡ filter_map g xs
filter_map_same f g same [] = refl
filter_map_same f g same (x ∷ xs) = λ i. cons_option (same x i) (filter_map_same f g same xs i)

flat_map_among : {A B : Type 0} (f g : A → List B) (xs : List A) → AllByRecursion (λ x. f x ≡ g x) xs → flat_map f xs ≡ flat_map g xs
flat_map_among f g [] h = refl
flat_map_among f g (x ∷ xs) h = λ i. h.0 i ++ flat_map_among f g xs h.1 i

all_rows : (graph : List Triple) (p : Pattern) (rows : List Bindings) → AllByRecursion (λ s. T (rises s)) rows
    → AllByRecursion (λ a. merges (filter_map (λ t. forced [] (parts_of p t)) graph) a ≡ filter_map (λ t. forced a (parts_of p t)) graph) rows
all_rows graph p [] h = tt
all_rows graph p (a ∷ rows) h = (
  merges_of (λ t. forced [] (parts_of p t)) a graph ∙ filter_map_same (λ t. option_and_then (joined a) (forced [] (parts_of p t))) (λ t. forced a (parts_of p t)) (λ t. sym (forced_beside a (parts_of p t) h.0)) graph,
  all_rows graph p rows h.1,
)

-- the join with a pattern's solutions is each row with each triple that fits it
pub join_extends : (graph : List Triple) (p : Pattern) (rows : List Bindings) → AllByRecursion (λ s. T (rises s)) rows → join rows (bgp graph (p ∷ [])) ≡ extended graph p rows
join_extends graph p rows h =
    let alone = filter_map (λ t. forced [] (parts_of p t)) graph in
    let one : bgp graph (p ∷ []) ≡ alone = sym (rows_from-bgp graph (p ∷ [])) ∙ append-nil alone in
    ap (join rows) one ∙ flat_map_among (merges alone) (λ a. filter_map (λ t. forced a (parts_of p t)) graph) rows (all_rows graph p rows h)

-- the join with a run's solutions is each row with what the choices for its patterns force beside it
pub join_run : (graph : List Triple) (ps : List Pattern) (rows : List Bindings) → AllByRecursion (λ s. T (rises s)) rows → join rows (bgp graph ps) ≡ rows_from graph rows ps
join_run graph ps rows h = flat_map_among (merges (bgp graph ps)) (rows_beside graph ps) rows (all rows h) ∙ sym (rows_from-flat_map graph rows ps)
  where
    all : (rows : List Bindings) → AllByRecursion (λ s. T (rises s)) rows → AllByRecursion (λ a. merges (bgp graph ps) a ≡ rows_beside graph ps a) rows
    all [] h = tt
    all (a ∷ rows) h = (
      merges_of (λ ts. forced [] (all_parts ps ts)) a (choices graph ps)
          ∙ filter_map_same (λ ts. option_and_then (joined a) (forced [] (all_parts ps ts))) (λ ts. forced a (all_parts ps ts)) (λ ts. sym (forced_beside a (all_parts ps ts) h.0)) (choices graph ps),
      all rows h.1,
    )

-- the join of the one empty solution with a run's solutions is these
pub join_first : (graph : List Triple) (ps : List Pattern) → join ([] ∷ []) (bgp graph ps) ≡ bgp graph ps
join_first graph ps = join_run graph ps ([] ∷ []) (tt, tt) ∙ rows_from-bgp graph ps

-- ---- the join of the same rows

pub join_weight : (h : Bindings → ℕ) (left right : List Bindings) → sum_by h (join left right) ≡ sum_by (λ a. sum_by (λ b. cond (agree a b) (h (merge a b)) 0) right) left
join_weight h left right =
    sum_by-flat_map h (merges right) left
    ∙ sum_by_same (λ a. sum_by h (merges right a)) (λ a. sum_by (λ b. cond (agree a b) (h (merge a b)) 0) right) left
    (λ a m. sum_by-map h (merge a) (filter (agree a) right) ∙ sum_by-filter (λ b. h (merge a b)) (agree a) right)

pub same_joins : (left others right more : List Bindings) → IsPermutation left others → IsPermutation right more → SameWeights (join left right) (join others more)
same_joins left others right more p q h =
    join_weight h left right
    ∙ weights_from left others p (λ a. sum_by (λ b. cond (agree a b) (h (merge a b)) 0) right)
    ∙ sum_by_same (λ a. sum_by (λ b. cond (agree a b) (h (merge a b)) 0) right) (λ a. sum_by (λ b. cond (agree a b) (h (merge a b)) 0) more) others
    (λ a m. weights_from right more q (λ b. cond (agree a b) (h (merge a b)) 0))
    ∙ sym (join_weight h others more)

-- the same rows join to the same rows
pub same_join : (left others right more : List Bindings) → IsPermutation left others → IsPermutation right more → IsPermutation (join left right) (join others more)
same_join left others right more p q = same_rows_from (join left right) (join others more) (same_joins left others right more p q)
