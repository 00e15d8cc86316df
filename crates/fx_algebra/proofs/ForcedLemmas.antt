-- What the solution is that parts force.
use Rattle.std.proofs.Common.{◌≡◌, ◌∙◌, ap, sym, subst, refl, ℕ, Bool, true, false, ◌||◌, T, cond, List, [], ◌∷◌, ◌++◌, Option, Some, None, is_some, IfSome, IsTrue, option_and_then}
use Rattle.std.specs.List.{AllByRecursion, flat_map}
use Rattle.std.specs.declared.cmp.Ordering.{Ordering}
use Rattle.std.specs.declared.cmp.Ordering.TheVariants.{Less, Equal, Greater}
use Rattle.std.specs.Ordering.{is_eq, ordering_reverse}
use Rattle.std.specs.FinMap.Entries.{find-put, same_entries}
use Rattle.std.proofs.lemmas.Cmp.{tied_itself}
use Rattle.std.proofs.lemmas.List.Folds.{list_any-append}
use Rattle.std.proofs.lemmas.Map.Lookups.{exact_bytes}
use Rattle.fx_terms.specs.Texts.{text_cmp, texts_total}
use Rattle.fx_terms.specs.Terms.{term_cmp, terms_total}
use Rattle.fx_terms.specs.declared.terms.Term.{Term}
use Rattle.fx_terms.specs.declared.patterns.PatternTerm.{PatternTerm}
use Rattle.fx_terms.specs.declared.patterns.PatternTerm.TheVariants.{Variable, Constant}
use Rattle.fx_terms.proofs.OrderLemmas.{exact_terms}
use Rattle.fx_algebra.specs.Solutions.{Bindings, term_of, with_pair, same_term, rises}
use Rattle.fx_algebra.specs.Scopes.{is_among, part_names}
use Rattle.fx_algebra.specs.BasicGraphPatterns.{bound_to, with_part, forced, value_of}
use Rattle.fx_algebra.proofs.PairLemmas.{rises_with}

-- ---- tests

equal_from : (o : Ordering) → is_eq o ≡ true → o ≡ Equal
equal_from Less e = cc
equal_from Equal e = refl
equal_from Greater e = cc

pub same_from : (a b : Term) → same_term a b ≡ true → a ≡ b
same_from a b e = exact_terms a b (equal_from (term_cmp a b) e)

pub same_itself : (a b : Term) → a ≡ b → same_term a b ≡ true
same_itself a b e = ap (λ v. same_term a v) (sym e) ∙ ap is_eq (tied_itself terms_total a)

pub name_from : (a b : List ℕ) → is_eq (text_cmp a b) ≡ true → a ≡ b
name_from a b e = exact_bytes a b (equal_from (text_cmp a b) e)

is_eq-reverse : (o : Ordering) → is_eq (ordering_reverse o) ≡ is_eq o
is_eq-reverse Less = refl
is_eq-reverse Equal = refl
is_eq-reverse Greater = refl

is_eq_turned : (a b : List ℕ) → is_eq (text_cmp a b) ≡ is_eq (text_cmp b a)
is_eq_turned a b = ap is_eq (texts_total.antisymm a b) ∙ is_eq-reverse (text_cmp b a)

pub same_value : (a b : Term) → Some a ≡ Some b → a ≡ b
same_value a b e = cc

-- ---- what holds of an outcome, where there is one

weaker : {X : Type 0} (P Q : X → Type 0) (o : Option X) → ((x : X) → P x → Q x) → IfSome o P → IfSome o Q
weaker P Q None f h = h
weaker P Q (Some x) f h = f x h

pub of_outcome : {X : Type 0} (P : X → Type 0) (o : Option X) (x : X) → o ≡ Some x → IfSome o P → P x
of_outcome P o x e h = subst (λ v. IfSome v P) e h

-- ---- one part

-- each term that the first binds is that of the second
pub record Extends (s t : Bindings) : Type 0 where
  pub has : (name : List ℕ) (term : Term) → term_of s name ≡ Some term → term_of t name ≡ Some term

-- the second binds what the first does and the part's name, and the part is the term
record IsStep (s : Bindings) (part : PatternTerm) (term : Term) (r : Bindings) : Type 0 where
  rising : IsTrue (rises s) → IsTrue (rises r)
  extends : Extends s r
  value : value_of r part ≡ Some term
  binds : (name : List ℕ) → is_some (term_of r name) ≡ (is_some (term_of s name) || is_among (part_names part) name)

extends_itself : (s : Bindings) → Extends s s
extends_itself s = record { has = λ name term e. e }

or_false : (b : Bool) → b ≡ (b || false)
or_false true = refl
or_false false = refl

step_constant : (s : Bindings) (constant term : Term) (b : Bool) → same_term constant term ≡ b → IfSome (cond b (Some s) None) (IsStep s (Constant constant) term)
step_constant s constant term true e = record { rising = λ h. h; extends = extends_itself s; value = ap Some (same_from constant term e); binds = λ name. or_false (is_some (term_of s name)) }
step_constant s constant term false e = tt

pub with_pair_has : (s : Bindings) (name : List ℕ) (term : Term) (n : List ℕ) → term_of (with_pair s name term) n ≡ cond (is_eq (text_cmp n name)) (Some term) (term_of s n)
with_pair_has s name term n = find-put text_cmp texts_total n name term s

-- a name that had no term takes none from another
kept_at : (s : Bindings) (name n : List ℕ) (term other : Term) (b : Bool) → is_eq (text_cmp n name) ≡ b → term_of s name ≡ None → term_of s n ≡ Some other → cond b (Some term) (term_of s n) ≡ Some other
kept_at s name n term other true e new h = let same = name_from n name e in let f : term_of s n ≡ None = ap (term_of s) same ∙ new in absurd (cc)
kept_at s name n term other false e new h = h

-- with one more name, whose test is b
binds_new : (o : Option Term) (term : Term) (b : Bool) → is_some (cond b (Some term) o) ≡ (is_some o || (b || false))
binds_new None term true = refl
binds_new None term false = refl
binds_new (Some other) term true = refl
binds_new (Some other) term false = refl

-- with a name that had a term already
binds_old : (o : Option Term) (b : Bool) → (b ≡ true → is_some o ≡ true) → is_some o ≡ (is_some o || (b || false))
binds_old None true h = h refl
binds_old None false h = refl
binds_old (Some other) b h = refl

to_T : (b : Bool) → b ≡ true → T b
to_T true h = tt
to_T false h = cc

-- a name that has no term
step_new : (s : Bindings) (name : List ℕ) (term : Term) → term_of s name ≡ None → IsStep s (Variable name) term (with_pair s name term)
step_new s name term new = record {
  rising = λ h. rises_with s name term h;
  extends = record { has = λ n other e. with_pair_has s name term n ∙ kept_at s name n term other (is_eq (text_cmp n name)) refl new e };
  value = with_pair_has s name term name ∙ ap (λ o. cond (is_eq o) (Some term) (term_of s name)) (tied_itself texts_total name);
  binds = λ n.
      ap is_some (with_pair_has s name term n) ∙ binds_new (term_of s n) term (is_eq (text_cmp n name)) ∙ ap (λ b. is_some (term_of s n) || (b || false)) (is_eq_turned n name);
}

-- a name that has a term
step_old : (s : Bindings) (name : List ℕ) (term other : Term) (b : Bool) → same_term other term ≡ b → term_of s name ≡ Some other → IfSome (cond b (Some s) None) (IsStep s (Variable name) term)
step_old s name term other true e old = record {
  rising = λ h. h;
  extends = extends_itself s;
  value = old ∙ ap Some (same_from other term e);
  binds = λ n. binds_old (term_of s n) (is_eq (text_cmp name n)) (λ t. ap (λ v. is_some (term_of s v)) (sym (name_from name n t)) ∙ ap is_some old);
}
step_old s name term other false e old = tt

step_bound : (s : Bindings) (name : List ℕ) (term : Term) (found : Option Term) → term_of s name ≡ found → IfSome (bound_to s name term found) (IsStep s (Variable name) term)
step_bound s name term None e = step_new s name term e
step_bound s name term (Some other) e = step_old s name term other (same_term other term) refl e

-- what one part gives
step_is : (s : Bindings) (part : PatternTerm) (term : Term) → IfSome (with_part s part term) (IsStep s part term)
step_is s (Constant constant) term = step_constant s constant term (same_term constant term) refl
step_is s (Variable name) term = step_bound s name term (term_of s name) refl

-- ---- all parts

-- the names of the parts
abbrev pub names_of : List (PatternTerm × Term) → List (List ℕ)
names_of cs = flat_map (λ c. part_names c.0) cs

-- each part is its term
abbrev pub AllAre : Bindings → List (PatternTerm × Term) → Type 0
AllAre s cs = AllByRecursion (λ c. value_of s c.0 ≡ Some c.1) cs

-- the second binds what the first does and the parts' names, and each part is its term
pub record IsForced (s : Bindings) (cs : List (PatternTerm × Term)) (r : Bindings) : Type 0 where
  pub rising : IsTrue (rises s) → IsTrue (rises r)
  pub extends : Extends s r
  pub values : AllAre r cs
  pub binds : (name : List ℕ) → is_some (term_of r name) ≡ (is_some (term_of s name) || is_among (names_of cs) name)

or_assoc : (a b c : Bool) → ((a || b) || c) ≡ (a || (b || c))
or_assoc true b c = refl
or_assoc false b c = refl

pub value_kept : (s r : Bindings) (part : PatternTerm) (term : Term) → Extends s r → value_of s part ≡ Some term → value_of r part ≡ Some term
value_kept s r (Variable name) term x e = x.has name term e
value_kept s r (Constant constant) term x e = e

is_among-append : (xs ys : List (List ℕ)) (name : List ℕ) → is_among (xs ++ ys) name ≡ (is_among xs name || is_among ys name)
is_among-append xs ys name = list_any-append (λ n. is_eq (text_cmp n name)) xs ys

-- one part, and then the others
forced_then : (s : Bindings) (c : PatternTerm × Term) (cs : List (PatternTerm × Term)) (r t : Bindings) → IsStep s c.0 c.1 r → IsForced r cs t → IsForced s (c ∷ cs) t
forced_then s c cs r t a b = record {
  rising = λ h. b.rising (a.rising h);
  extends = record { has = λ n term e. b.extends.has n term (a.extends.has n term e) };
  values = (value_kept r t c.0 c.1 b.extends a.value, b.values);
  binds = λ n.
      b.binds n
      ∙ ap (λ v. v || is_among (names_of cs) n) (a.binds n)
      ∙ or_assoc (is_some (term_of s n)) (is_among (part_names c.0) n) (is_among (names_of cs) n)
      ∙ ap (λ v. is_some (term_of s n) || v) (sym (is_among-append (part_names c.0) (names_of cs) n));
}

forced_more : (s : Bindings) (c : PatternTerm × Term) (cs : List (PatternTerm × Term)) (o : Option Bindings) → IfSome o (IsStep s c.0 c.1) → ((r : Bindings) → IfSome (forced r cs) (IsForced r cs)) → IfSome (option_and_then (λ r. forced r cs) o) (IsForced s (c ∷ cs))
forced_more s c cs None h rest = tt
forced_more s c cs (Some r) h rest = weaker (IsForced r cs) (IsForced s (c ∷ cs)) (forced r cs) (λ t k. forced_then s c cs r t h k) (rest r)

-- what parts force beside s, where they force something
pub forced_is : (s : Bindings) (cs : List (PatternTerm × Term)) → IfSome (forced s cs) (IsForced s cs)
forced_is s [] = record { rising = λ h. h; extends = extends_itself s; values = tt; binds = λ n. or_false (is_some (term_of s n)) }
forced_is s (c ∷ cs) = forced_more s c cs (with_part s c.0 c.1) (step_is s c.0 c.1) (λ r. forced_is r cs)

-- ---- parts that are terms under a solution force one

-- where what is bound is the term already
step_forces_old : (s t : Bindings) (a term : Term) → a ≡ term → Extends s t → (r : Bindings) × (cond (same_term a term) (Some s) None ≡ Some r) × Extends r t
step_forces_old s t a term e x = (s, ap (λ b. cond b (Some s) None) (same_itself a term e), x)

-- with one more pair, which the second has too
has_new : (s t : Bindings) (name n : List ℕ) (term other : Term) (b : Bool) → is_eq (text_cmp n name) ≡ b → Extends s t → term_of t name ≡ Some term → cond b (Some term) (term_of s n) ≡ Some other → term_of t n ≡ Some other
has_new s t name n term other true e x h k = ap (term_of t) (name_from n name e) ∙ h ∙ k
has_new s t name n term other false e x h k = x.has n other k

step_forces_bound : (s t : Bindings) (name : List ℕ) (term : Term) (found : Option Term) → term_of s name ≡ found → Extends s t → term_of t name ≡ Some term → (r : Bindings) × (bound_to s name term found ≡ Some r) × Extends r t
step_forces_bound s t name term None e x h = (
  with_pair s name term,
  refl,
  record { has = λ n other k. has_new s t name n term other (is_eq (text_cmp n name)) refl x h (sym (with_pair_has s name term n) ∙ k) },
)
step_forces_bound s t name term (Some other) e x h = step_forces_old s t other term (same_value other term (sym (x.has name other e) ∙ h)) x

-- a part that is the term under t gives an outcome, and t extends it
step_forces : (s t : Bindings) (part : PatternTerm) (term : Term) → Extends s t → value_of t part ≡ Some term → (r : Bindings) × (with_part s part term ≡ Some r) × Extends r t
step_forces s t (Variable name) term x h = step_forces_bound s t name term (term_of s name) refl x h
step_forces s t (Constant constant) term x h = step_forces_old s t constant term (same_value constant term h) x

-- so do all parts
pub forces : (s t : Bindings) (cs : List (PatternTerm × Term)) → Extends s t → AllAre t cs → (r : Bindings) × (forced s cs ≡ Some r) × Extends r t
forces s t [] x h = (s, refl, x)
forces s t (c ∷ cs) x h =
    let a = step_forces s t c.0 c.1 x h.0 in
    let b = forces a.0 t cs a.2 h.1 in
    (b.0, ap (option_and_then (λ r. forced r cs)) a.1 ∙ b.1, b.2)

-- two that bind the same names, of which the one has the other's terms, have the same terms
same_found : (o p : Option Term) → ((term : Term) → o ≡ Some term → p ≡ Some term) → is_some o ≡ is_some p → o ≡ p
same_found None None h e = refl
same_found None (Some b) h e = cc
same_found (Some a) p h e = sym (h a refl)

-- a solution that binds what is bound and the parts' names alone, and makes each part its term, is what the parts force
pub forces_it : (s t : Bindings) (cs : List (PatternTerm × Term)) → IsTrue (rises s) → IsTrue (rises t) → Extends s t → AllAre t cs
    → ((name : List ℕ) → is_some (term_of t name) ≡ (is_some (term_of s name) || is_among (names_of cs) name)) → forced s cs ≡ Some t
forces_it s t cs g h x all names =
    let a = forces s t cs x all in
    let f = of_outcome (IsForced s cs) (forced s cs) a.0 a.1 (forced_is s cs) in
    let same : a.0 ≡ t = same_entries text_cmp texts_total exact_bytes a.0 t (to_T (rises a.0) (f.rising g)) (to_T (rises t) h) (λ n. same_found (term_of a.0 n) (term_of t n) (a.2.has n) (f.binds n ∙ sym (names n))) in
    a.1 ∙ ap Some same
