-- A set that keeps the order of insertion says which names it has, and what is among names that stand once.
use Rattle.std.proofs.Common.{◌≡◌, ◌∙◌, ap, sym, refl, ℕ, Bool, true, false, cond, ◌&&◌, ◌||◌, if◌then◌else◌, List, [], ◌∷◌, ◌++◌, fold, filter}
use Rattle.std.specs.List.{list_any, list_all}
use Rattle.std.specs.declared.cmp.Ordering.{Ordering}
use Rattle.std.specs.declared.cmp.Ordering.TheVariants.{Less, Equal, Greater}
use Rattle.std.specs.Ordering.{is_eq, eq_by_cmp, ordering_reverse}
use Rattle.std.proofs.lemmas.List.Folds.{list_any-append}
use Rattle.std.proofs.lemmas.Map.Lookups.{exact_bytes}
use Rattle.fx_terms.specs.Texts.{text_cmp, texts_total}
use Rattle.fx_algebra.specs.Scopes.{is_among, once, with_name}

tied_back : (o : Ordering) → is_eq (ordering_reverse o) ≡ is_eq o
tied_back Less = refl
tied_back Equal = refl
tied_back Greater = refl

same_test : (a b : List ℕ) → eq_by_cmp text_cmp a b ≡ is_eq (text_cmp b a)
same_test a b = ap is_eq (texts_total.antisymm a b) ∙ tied_back (text_cmp b a)

pub any_is : (names : List (List ℕ)) (name : List ℕ) → list_any (eq_by_cmp text_cmp name) names ≡ is_among names name
any_is [] name = refl
any_is (n ∷ ns) name = λ i. same_test name n i || any_is ns name i

-- ---- what is among names

or_false : (b : Bool) → (b || false) ≡ b
or_false true = refl
or_false false = refl

pub among_both : (xs ys : List (List ℕ)) (name : List ℕ) → is_among (xs ++ ys) name ≡ (is_among xs name || is_among ys name)
among_both xs ys name = list_any-append (λ n. is_eq (text_cmp n name)) xs ys

-- a name that is among names is no other than one of them
pub text_from : (o : Ordering) (a b : List ℕ) → text_cmp a b ≡ o → is_eq o ≡ true → a ≡ b
text_from Less a b e h = cc
text_from Equal a b e h = exact_bytes a b e
text_from Greater a b e h = cc

covers : (b c : Bool) → (c ≡ true → b ≡ true) → b ≡ (b || c)
covers true c h = refl
covers false true h = h refl
covers false false h = refl

-- one more name: those before, and it
pub among_with : (names : List (List ℕ)) (more name : List ℕ) → is_among (with_name names more) name ≡ (is_among names name || is_eq (text_cmp more name))
unfolding with_name
among_with names more name = by (is_among names more) refl
  where
    by : (b : Bool) → is_among names more ≡ b → is_among (if b then names else names ++ more ∷ []) name ≡ (is_among names name || is_eq (text_cmp more name))
    by true e = covers (is_among names name) (is_eq (text_cmp more name)) (λ h. ap (is_among names) (sym (text_from (text_cmp more name) more name refl h)) ∙ e)
    by false e = among_both names (more ∷ []) name ∙ ap (λ b. is_among names name || b) (or_false (is_eq (text_cmp more name)))

or_assoc : (a b c : Bool) → ((a || b) || c) ≡ (a || (b || c))
or_assoc true b c = refl
or_assoc false b c = refl

pub among_fold : (names more : List (List ℕ)) (name : List ℕ) → is_among (fold with_name names more) name ≡ (is_among names name || is_among more name)
among_fold names [] name = sym (or_false (is_among names name))
among_fold names (m ∷ ms) name =
    among_fold (with_name names m) ms name
    ∙ ap (λ b. b || is_among ms name) (among_with names m name)
    ∙ or_assoc (is_among names name) (is_eq (text_cmp m name)) (is_among ms name)

pub among_once : (names : List (List ℕ)) (name : List ℕ) → is_among (once names) name ≡ is_among names name
among_once names name = among_fold [] names name

-- names that have the same among them
pub all_same : (p q : List ℕ → Bool) → ((n : List ℕ) → p n ≡ q n) → (xs : List (List ℕ)) → list_all p xs ≡ list_all q xs
all_same p q h [] = refl
all_same p q h (x ∷ xs) = λ i. h x i && all_same p q h xs i

pub filter_same : (p q : List ℕ → Bool) → ((n : List ℕ) → p n ≡ q n) → (xs : List (List ℕ)) → filter p xs ≡ filter q xs
filter_same p q h xs = λ i. filter (λ n. h n i) xs

-- what two tests leave
filter_cons : (a b c : Bool) → (c ≡ (a && b)) → (x : List ℕ) (xs ys : List (List ℕ)) (p : List ℕ → Bool) → p x ≡ b → filter p xs ≡ ys → filter p (cond a (x ∷ xs) xs) ≡ cond c (x ∷ ys) ys
filter_cons true true c e x xs ys p h k = ap (λ v. cond v (x ∷ filter p xs) (filter p xs)) h ∙ ap (λ v. x ∷ v) k ∙ ap (λ v. cond v (x ∷ ys) ys) (sym e)
filter_cons true false c e x xs ys p h k = ap (λ v. cond v (x ∷ filter p xs) (filter p xs)) h ∙ k ∙ ap (λ v. cond v (x ∷ ys) ys) (sym e)
filter_cons false b c e x xs ys p h k = k ∙ ap (λ v. cond v (x ∷ ys) ys) (sym e)

pub filter_twice : (p q r : List ℕ → Bool) → ((n : List ℕ) → r n ≡ (p n && q n)) → (xs : List (List ℕ)) → filter q (filter p xs) ≡ filter r xs
filter_twice p q r h [] = refl
filter_twice p q r h (x ∷ xs) = filter_cons (p x) (q x) (r x) (h x) x (filter p xs) (filter r xs) q refl (filter_twice p q r h xs)
