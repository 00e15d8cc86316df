-- When a triple fits a pattern beside a row, and what the row is then.
use Rattle.std.proofs.lemmas.List.{take_more}
use Rattle.std.proofs.lemmas.List.Elements.{filter_map-append}
use Rattle.std.proofs.Common.{◌≡◌, ◌∙◌, ap, sym, refl, ℕ, ◌<◌, ◌+◌, ◌++◌, length, take, get_or, Bool, true, false, ◌&&◌, T, cond, List, [], ◌∷◌, Option, Some, None, is_some, option_and_then}
use Rattle.std.proofs.Common.{append-nil}
use Rattle.std.proofs.lemmas.List.Concat.{flat_map-append}
use Rattle.std.specs.List.{filter_map, flat_map, cons_option, filter}
use Rattle.std.specs.Option.{option_to_list}
use Rattle.std.specs.declared.cmp.Ordering.{Ordering}
use Rattle.std.specs.declared.cmp.Ordering.TheVariants.{Less, Equal, Greater}
use Rattle.std.specs.Ordering.{is_eq, ordering_reverse, ordering_then}
use Rattle.std.specs.FinMap.Entries.{find-put}
use Rattle.std.proofs.lemmas.Cmp.{tied_itself}
use Rattle.std.proofs.lemmas.Map.Lookups.{exact_bytes}
use Rattle.fx_terms.specs.Texts.{text_cmp, texts_total}
use Rattle.fx_terms.specs.Terms.{term_cmp, terms_total}
use Rattle.fx_terms.specs.declared.terms.Term.{Term}
use Rattle.fx_terms.specs.declared.terms.Term.TheVariants.{Iri}
use Rattle.fx_terms.specs.declared.triples.Triple.{Triple}
use Rattle.fx_terms.specs.declared.patterns.Pattern.{Pattern}
use Rattle.fx_terms.specs.declared.patterns.PatternTerm.{PatternTerm}
use Rattle.fx_terms.specs.declared.patterns.PatternTerm.TheVariants.{Variable, Constant}
use Rattle.fx_terms.proofs.OrderLemmas.{exact_terms}
use Rattle.fx_algebra.specs.Solutions.{Bindings, term_of, with_pair, same_term}
use Rattle.fx_algebra.specs.BasicGraphPatterns.{parts_of, forced, value_of, bound_to, with_part}
use Rattle.fx_algebra.proofs.ForcedLemmas.{Extends, IsForced, forced_is, of_outcome, same_value}
use Rattle.fx_store.specs.Lookups.{is_or_free, is_one_variable, fits_subject, fits_predicate, fits_object, has_parts, known_of}

-- ---- tests

equal_from : (o : Ordering) → is_eq o ≡ true → o ≡ Equal
equal_from Less e = cc
equal_from Equal e = refl
equal_from Greater e = cc

is_eq-reverse : (o : Ordering) → is_eq (ordering_reverse o) ≡ is_eq o
is_eq-reverse Less = refl
is_eq-reverse Equal = refl
is_eq-reverse Greater = refl

name_from : (a b : List ℕ) → is_eq (text_cmp a b) ≡ true → a ≡ b
name_from a b e = exact_bytes a b (equal_from (text_cmp a b) e)

pub same_from : (a b : Term) → same_term a b ≡ true → a ≡ b
same_from a b e = exact_terms a b (equal_from (term_cmp a b) e)

same_turned : (a b : Term) → same_term a b ≡ same_term b a
same_turned a b = ap is_eq (terms_total.antisymm a b) ∙ is_eq-reverse (term_cmp b a)

same_iris : (a b : List ℕ) → same_term (Iri a) (Iri b) ≡ is_eq (text_cmp a b)
same_iris a b = elim (text_cmp a b) as (λ o. is_eq (ordering_then o (ordering_then (text_cmp [] []) (text_cmp [] []))) ≡ is_eq o) [ Less ↦ refl | Equal ↦ refl | Greater ↦ refl ]

to_T : (b : Bool) → b ≡ true → T b
to_T true h = tt
to_T false h = cc

-- ---- whether parts fit

some_if : {X : Type 0} (b : Bool) (x : X) → is_some (cond b (Some x) None) ≡ b
some_if true x = refl
some_if false x = refl

fits_bound : (s : Bindings) (name : List ℕ) (term : Term) (o : Option Term) → is_some (bound_to s name term o) ≡ is_or_free o term
fits_bound s name term None = refl
fits_bound s name term (Some value) = some_if (same_term value term) s

-- a part fits where its value is the term or is free
fits_part : (s : Bindings) (part : PatternTerm) (term : Term) → is_some (with_part s part term) ≡ is_or_free (value_of s part) term
fits_part s (Constant constant) term = some_if (same_term constant term) s
fits_part s (Variable name) term = fits_bound s name term (term_of s name)

with_pair_has : (s : Bindings) (name : List ℕ) (term : Term) (n : List ℕ) → term_of (with_pair s name term) n ≡ cond (is_eq (text_cmp n name)) (Some term) (term_of s n)
with_pair_has s name term n = find-put text_cmp texts_total n name term s

-- where a constant fits, nothing changes
unchanged : (s r : Bindings) (b : Bool) → cond b (Some s) None ≡ Some r → s ≡ r
unchanged s r true e = cc
unchanged s r false e = cc

tested : (s r : Bindings) (b : Bool) → cond b (Some s) None ≡ Some r → b ≡ true
tested s r true e = refl
tested s r false e = cc

old_value : (s : Bindings) (n m : List ℕ) (t : Term) (b : Bool) → is_eq (text_cmp m n) ≡ b → term_of s n ≡ Some t → term_of s m ≡ cond b (Some t) (term_of s m)
old_value s n m t true e h = ap (term_of s) (name_from m n e) ∙ h
old_value s n m t false e h = refl

after_bound : (s r : Bindings) (n m : List ℕ) (t : Term) (o : Option Term) → term_of s n ≡ o → bound_to s n t o ≡ Some r → term_of r m ≡ cond (is_eq (text_cmp m n)) (Some t) (term_of s m)
after_bound s r n m t None new e = let same : with_pair s n t ≡ r = cc in ap (λ v. term_of v m) (sym same) ∙ with_pair_has s n t m
after_bound s r n m t (Some value) old e =
    ap (λ v. term_of v m) (sym (unchanged s r (same_term value t) e))
    ∙ old_value s n m t (is_eq (text_cmp m n)) refl (old ∙ ap Some (same_from value t (tested s r (same_term value t) e)))

-- the value of a part after another
value_after : (s r : Bindings) (a b : PatternTerm) (t : Term) → with_part s a t ≡ Some r → value_of r b ≡ cond (is_one_variable a b) (Some t) (value_of s b)
value_after s r (Constant constant) b t e = ap (λ v. value_of v b) (sym (unchanged s r (same_term constant t) e))
value_after s r (Variable n) (Constant constant) t e = refl
value_after s r (Variable n) (Variable m) t e = after_bound s r n m t (term_of s n) refl e

is_or_free_if : (b : Bool) (t : Term) (o : Option Term) (term : Term) → is_or_free (cond b (Some t) o) term ≡ cond b (same_term t term) (is_or_free o term)
is_or_free_if true t o term = refl
is_or_free_if false t o term = refl

-- one outcome and then another
both_some : {X Y : Type 0} (o : Option X) (f : X → Option Y) (a b : Bool) → is_some o ≡ a → ((x : X) → o ≡ Some x → is_some (f x) ≡ b) → is_some (option_and_then f o) ≡ (a && b)
both_some None f a b e h = ap (λ v. v && b) e
both_some (Some x) f a b e h = h x refl ∙ ap (λ v. v && b) e

and_true : (b : Bool) → b ≡ (b && true)
and_true true = refl
and_true false = refl

fits_second : (s r : Bindings) (p : Pattern) (t : Triple) → with_part s p.subject (Iri t.subject) ≡ Some r → is_or_free (value_of r p.predicate) (Iri t.predicate) ≡ fits_predicate p s t
fits_second s r p t e =
    ap (λ v. is_or_free v (Iri t.predicate)) (value_after s r p.subject p.predicate (Iri t.subject) e)
    ∙ is_or_free_if (is_one_variable p.subject p.predicate) (Iri t.subject) (value_of s p.predicate) (Iri t.predicate)
    ∙ ap (λ v. cond (is_one_variable p.subject p.predicate) v (is_or_free (value_of s p.predicate) (Iri t.predicate))) (same_iris t.subject t.predicate)

fits_third : (s r q : Bindings) (p : Pattern) (t : Triple) → with_part s p.subject (Iri t.subject) ≡ Some r → with_part r p.predicate (Iri t.predicate) ≡ Some q → is_or_free (value_of q p.object) t.object ≡ fits_object p s t
fits_third s r q p t e f =
    ap (λ v. is_or_free v t.object) (value_after r q p.predicate p.object (Iri t.predicate) f)
    ∙ is_or_free_if (is_one_variable p.predicate p.object) (Iri t.predicate) (value_of r p.object) t.object
    ∙ ap (λ v. cond (is_one_variable p.predicate p.object) (same_term (Iri t.predicate) t.object) (is_or_free v t.object)) (value_after s r p.subject p.object (Iri t.subject) e)
    ∙ ap (λ v. cond (is_one_variable p.predicate p.object) (same_term (Iri t.predicate) t.object) v) (is_or_free_if (is_one_variable p.subject p.object) (Iri t.subject) (value_of s p.object) t.object)
    ∙ ap (λ v. cond (is_one_variable p.predicate p.object) v (cond (is_one_variable p.subject p.object) (same_term (Iri t.subject) t.object) (is_or_free (value_of s p.object) t.object))) (same_turned (Iri t.predicate) t.object)
    ∙ ap (λ v. cond (is_one_variable p.predicate p.object) (same_term t.object (Iri t.predicate)) (cond (is_one_variable p.subject p.object) v (is_or_free (value_of s p.object) t.object))) (same_turned (Iri t.subject) t.object)

-- a triple fits a pattern where each part does
pub fits_is : (s : Bindings) (p : Pattern) (t : Triple) → is_some (forced s (parts_of p t)) ≡ (fits_subject p s t && (fits_predicate p s t && fits_object p s t))
fits_is s p t =
    both_some (with_part s p.subject (Iri t.subject)) (λ r. forced r ((p.predicate, Iri t.predicate) ∷ (p.object, t.object) ∷ [])) (fits_subject p s t) (fits_predicate p s t && fits_object p s t) (fits_part s p.subject (Iri t.subject))
    (λ r e. both_some (with_part r p.predicate (Iri t.predicate)) (λ q. forced q ((p.object, t.object) ∷ [])) (fits_predicate p s t) (fits_object p s t) (fits_part r p.predicate (Iri t.predicate) ∙ fits_second s r p t e)
    (λ q f. both_some (with_part q p.object t.object) (λ u. Some u) (fits_object p s t) true (fits_part q p.object t.object ∙ fits_third s r q p t e f) (λ u g. refl) ∙ sym (and_true (fits_object p s t))))

-- ---- the triples that may fit

only_these : {X Y : Type 0} (f : X → Option Y) (q : X → Bool) (xs : List X) → ((x : X) → q x ≡ false → f x ≡ None) → filter_map f (filter q xs) ≡ filter_map f xs
only_these f q [] h = refl
only_these f q (x ∷ xs) h = pick (q x) refl (only_these f q xs h)
  where
    pick : (b : Bool) → q x ≡ b → filter_map f (filter q xs) ≡ filter_map f xs → filter_map f (cond b (x ∷ filter q xs) (filter q xs)) ≡ filter_map f (x ∷ xs)
    pick true e rest = ap (cons_option (f x)) rest
    pick false e rest = rest ∙ ap (λ o. cons_option o (filter_map f xs)) (sym (h x e))

value_kept : (s r : Bindings) (part : PatternTerm) (term : Term) → Extends s r → value_of s part ≡ Some term → value_of r part ≡ Some term
value_kept s r (Variable name) term x e = x.has name term e
value_kept s r (Constant constant) term x e = e

-- a part of a triple that fits is the pattern's, where that is known
has_part : (row r : Bindings) (part : PatternTerm) (term : Term) (value : Option Term) → Extends row r → value_of r part ≡ Some term → value_of row part ≡ value → is_or_free value term ≡ true
has_part row r part term None x e f = refl
has_part row r part term (Some v) x e f =
    let same : term ≡ v = same_value term v (sym e ∙ value_kept row r part v x f) in
    ap (λ w. is_eq (term_cmp w term)) (sym same) ∙ ap is_eq (tied_itself terms_total term)

three : (a b c : Bool) → a ≡ true → b ≡ true → c ≡ true → (a && (b && c)) ≡ true
three a b c e f g = ap (λ v. v && (b && c)) e ∙ ap (λ v. v && c) f ∙ g

-- a triple that fits has the parts that are known
has_parts_if : (row r : Bindings) (p : Pattern) (t : Triple) → forced row (parts_of p t) ≡ Some r → has_parts (known_of p row) t ≡ true
has_parts_if row r p t e =
    let is : IsForced row (parts_of p t) r = of_outcome (IsForced row (parts_of p t)) (forced row (parts_of p t)) r e (forced_is row (parts_of p t)) in
    three _ _ _
    (has_part row r p.subject (Iri t.subject) (value_of row p.subject) is.extends is.values.0 refl)
    (has_part row r p.predicate (Iri t.predicate) (value_of row p.predicate) is.extends is.values.1.0 refl)
    (has_part row r p.object t.object (value_of row p.object) is.extends is.values.1.1.0 refl)

none_unless : (o : Option Bindings) (b : Bool) → b ≡ false → ((r : Bindings) → o ≡ Some r → b ≡ true) → o ≡ None
none_unless None b e h = refl
none_unless (Some r) b e h = let other : b ≡ true = h r refl in cc

-- what doesn't have them doesn't fit
not_fitting : (row : Bindings) (p : Pattern) (t : Triple) → has_parts (known_of p row) t ≡ false → forced row (parts_of p t) ≡ None
not_fitting row p t h = none_unless (forced row (parts_of p t)) (has_parts (known_of p row) t) h (λ r e. has_parts_if row r p t e)

-- what fits is among those with the known parts
pub fitting : (row : Bindings) (p : Pattern) (graph : List Triple) → filter_map (λ t. forced row (parts_of p t)) (filter (has_parts (known_of p row)) graph) ≡ filter_map (λ t. forced row (parts_of p t)) graph
fitting row p graph = only_these (λ t. forced row (parts_of p t)) (has_parts (known_of p row)) graph (not_fitting row p)

-- and where no triple has them, none fits
pub none_fitting : (row : Bindings) (p : Pattern) (graph : List Triple) → ((t : Triple) → has_parts (known_of p row) t ≡ false) → [] ≡ filter_map (λ t. forced row (parts_of p t)) graph
none_fitting row p [] h = refl
none_fitting row p (t ∷ ts) h = none_fitting row p ts h ∙ ap (λ o. cons_option o (filter_map (λ t. forced row (parts_of p t)) ts)) (sym (not_fitting row p t (h t)))

-- ---- one element more

pub one_option : {X : Type 0} (o : Option X) → option_to_list o ≡ cons_option o []
one_option None = refl
one_option (Some x) = refl

pub filter_map-more : {X Y : Type 0} (f : X → Option Y) (xs : List X) (i : ℕ) (x : X) → i < length xs → x ≡ get_or xs i x → filter_map f (take i xs) ++ option_to_list (f x) ≡ filter_map f (take (i + 1) xs)
filter_map-more f xs i x b e =
    ap (λ o. filter_map f (take i xs) ++ o) (one_option (f x))
    ∙ sym (filter_map-append f (take i xs) (x ∷ []))
    ∙ ap (filter_map f) (ap (λ v. take i xs ++ v ∷ []) e ∙ sym (take_more xs i x b))

-- three tests, of which two are true
pub third_test : (a b c : Bool) → a ≡ true → b ≡ true → c ≡ (a && (b && c))
third_test true true c e f = refl
third_test true false c e f = cc
third_test false b c e f = cc

-- three tests, of which one of the first two is false
pub failed_test : (a b c : Bool) → a ≡ true → b ≡ false → b ≡ (a && (b && c))
failed_test true true c e f = cc
failed_test true false c e f = refl
failed_test false b c e f = cc

pub flat_map-more : {X Y : Type 0} (f : X → List Y) (xs : List X) (i : ℕ) (x : X) → i < length xs → x ≡ get_or xs i x → flat_map f (take i xs) ++ f x ≡ flat_map f (take (i + 1) xs)
flat_map-more f xs i x b e =
    ap (λ o. flat_map f (take i xs) ++ o) (sym (append-nil (f x)))
    ∙ sym (flat_map-append f (take i xs) (x ∷ []))
    ∙ ap (flat_map f) (ap (λ v. take i xs ++ v ∷ []) e ∙ sym (take_more xs i x b))
