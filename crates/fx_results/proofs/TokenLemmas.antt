-- Tokens that are written one after another are those of the whole.
use Rattle.std.proofs.Common.{◌≡◌, ◌∙◌, ◌+◌, ◌<◌, ◌≤◌, ℕ, List, [], ◌∷◌, ◌++◌, map, take, length, get_or, flat_map, Result, Ok, Err, OnOk, refl, sym, ap, append_assoc}
use Rattle.std.proofs.lemmas.List.{flat_map_more, take_all, take_more}
use Rattle.json.specs.Token.{Token, begin_object, end_object, begin_array, end_array, key}
use Rattle.json.specs.Tree.{items_tokens, members_tokens}
use Rattle.serde_json.specs.Data.{Data}
use Rattle.serde_json.specs.View.{items_of}
use Rattle.serde_json.specs.Written.{items_outline, members_outline}
use Rattle.fx_terms.specs.declared.terms.Term.{Term}
use Rattle.fx_algebra.specs.Solutions.{Bindings}
use Rattle.fx_results.specs.Documents.{term_data, row_members, row_data, array_of}
use Rattle.fx_results.specs.Tokens.{data_tokens}

-- ---- tokens behind tokens

pub more : (old xs ys : List Token) {a b : List Token} → a ≡ old ++ xs → b ≡ a ++ ys → b ≡ old ++ (xs ++ ys)
more old xs ys first then = then ∙ ap (λ ts. ts ++ ys) first ∙ append_assoc old xs ys

-- what holds also where writing failed
pub standing : {E : Type 0} {P : Type 0} (r : Result (Unit {0}) E) → P → OnOk r P
standing (Ok x) h = h
standing (Err e) h = tt

-- the last tokens, where they are written
pub ends : {E : Type 0} (r : Result (Unit {0}) E) (old xs ys b : List Token) {a : List Token} → a ≡ old ++ xs → OnOk r (b ≡ a ++ ys) → OnOk r (b ≡ old ++ (xs ++ ys))
ends (Ok x) old xs ys b first then = more old xs ys first then
ends (Err e) old xs ys b first then = tt

-- the last token of a list of parts
pub closes : {E : Type 0} (r : Result (Unit {0}) E) (old parts whole b : List Token) (first last : Token) {mid a : List Token}
    → first ∷ (parts ++ last ∷ []) ≡ whole → mid ≡ old ++ first ∷ [] → a ≡ mid ++ parts → OnOk r (b ≡ a ++ last ∷ []) → OnOk r (b ≡ old ++ whole)
closes (Ok x) old parts whole b first last {mid} all begun done then =
    then ∙ ap (λ ts. ts ++ last ∷ []) done ∙ append_assoc mid parts (last ∷ []) ∙ ap (λ ts. ts ++ (parts ++ last ∷ [])) begun
    ∙ append_assoc old (first ∷ []) (parts ++ last ∷ []) ∙ ap (λ ts. old ++ ts) all
closes (Err e) old parts whole b first last all begun done then = tt

-- one more part
pub one_more : {A : Type 0} (f : A → List Token) (old : List Token) (xs : List A) (i : ℕ) (x : A) {a b : List Token}
    → a ≡ old ++ flat_map f (take i xs) → b ≡ a ++ f x → i < length xs → x ≡ get_or xs i x → b ≡ old ++ flat_map f (take (i + 1) xs)
one_more f old xs i x done then within here =
    then ∙ ap (λ ts. ts ++ f x) done ∙ flat_map_more f old (take i xs) x
    ∙ ap (λ ys. old ++ flat_map f ys) ((λ j. take i xs ++ here j ∷ []) ∙ sym (take_more xs i x within))

-- all parts
pub all_parts : {A : Type 0} (f : A → List Token) (old : List Token) (xs : List A) (i : ℕ) {a : List Token} → a ≡ old ++ flat_map f (take i xs) → length xs ≤ i → a ≡ old ++ flat_map f xs
all_parts f old xs i done end = done ∙ ap (λ ys. old ++ flat_map f ys) (take_all i xs end)

-- ---- lists

-- the tokens of items
abbrev pub each : {A : Type 0} → (A → Data) → List A → List Token
each f xs = flat_map (λ x. data_tokens (f x)) xs

items_are : {A : Type 0} (f : A → Data) (xs : List A) → items_tokens (items_outline (items_of (map f xs))) ≡ each f xs ++ end_array ∷ []
items_are f [] = refl
items_are f (x ∷ xs) = ap (λ ts. data_tokens (f x) ++ ts) (items_are f xs) ∙ sym (append_assoc (data_tokens (f x)) (each f xs) (end_array ∷ []))

pub array_is : {A : Type 0} (f : A → Data) (xs : List A) → begin_array ∷ (each f xs ++ end_array ∷ []) ≡ data_tokens (array_of (map f xs))
array_is f xs = ap (λ ts. begin_array ∷ ts) (sym (items_are f xs))

-- ---- rows

-- the tokens of a pair
abbrev pub pair_tokens : List ℕ × Term → List Token
pair_tokens e = key e.0 ∷ data_tokens (term_data e.1)

abbrev pub pairs_tokens : Bindings → List Token
pairs_tokens row = flat_map pair_tokens row

members_are : (row : Bindings) → members_tokens (members_outline (row_members row)) ≡ pairs_tokens row ++ end_object ∷ []
members_are [] = refl
members_are (e ∷ es) = ap (λ ts. pair_tokens e ++ ts) (members_are es) ∙ sym (append_assoc (pair_tokens e) (pairs_tokens es) (end_object ∷ []))

pub row_is : (row : Bindings) → begin_object ∷ (pairs_tokens row ++ end_object ∷ []) ≡ data_tokens (row_data row)
row_is row = ap (λ ts. begin_object ∷ ts) (sym (members_are row))
