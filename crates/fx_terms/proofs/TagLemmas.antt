-- A language tag in lower case is a language tag.
use Rattle.std.proofs.Common.{◌≡◌, ◌∙◌, ap, refl, arith, ℕ, Bool, true, false, not, ◌&&◌, ◌==◌, cond, List, [], ◌∷◌, map, length}
use Rattle.std.proofs.lemmas.List.{length-map}
use Rattle.std.specs.List.{list_all, slice_split, onto_first}
use Rattle.std.specs.Char.{to_ascii_lowercase}
use Rattle.std.proofs.lemmas.Bool.Decides.{nat_tests}
use Rattle.std.proofs.lemmas.Str.Ascii.{lowercase-lowercase}
use Rattle.fx_terms.specs.Iris.{is_letter}
use Rattle.fx_terms.specs.Literals.{is_dash, is_letter_or_digit, is_letters, is_letters_or_digits, are_tag_parts, is_tag, IsTag}

dash_lower : (b : ℕ) → is_dash (to_ascii_lowercase b) ≡ is_dash b
dash_lower b = grind (arith, nat_tests)

letter_lower : (b : ℕ) → is_letter b ≡ true → is_letter (to_ascii_lowercase b) ≡ true
letter_lower b h = grind (arith, nat_tests)

letter_or_digit_lower : (b : ℕ) → is_letter_or_digit b ≡ true → is_letter_or_digit (to_ascii_lowercase b) ≡ true
letter_or_digit_lower b h = grind (arith, nat_tests)

both : (a b : Bool) → (a && b) ≡ true → (a ≡ true) × (b ≡ true)
both true b h = (refl, h)
both false b h = cc

and_true : (a b : Bool) → a ≡ true → b ≡ true → (a && b) ≡ true
and_true true b g h = h
and_true false b g h = cc

all_lower : (p : ℕ → Bool) → ((b : ℕ) → p b ≡ true → p (to_ascii_lowercase b) ≡ true) → (xs : List ℕ) → list_all p xs ≡ true → list_all p (map to_ascii_lowercase xs) ≡ true
all_lower p keeps [] h = refl
all_lower p keeps (x ∷ xs) h =
    let two = both (p x) (list_all p xs) h in
    and_true (p (to_ascii_lowercase x)) (list_all p (map to_ascii_lowercase xs)) (keeps x two.0) (all_lower p keeps xs two.1)

-- some bytes that all pass
part_lower : (p : ℕ → Bool) → ((b : ℕ) → p b ≡ true → p (to_ascii_lowercase b) ≡ true) → (part : List ℕ) → (not (length part == 0) && list_all p part) ≡ true → (not (length (map to_ascii_lowercase part) == 0) && list_all p (map to_ascii_lowercase part)) ≡ true
part_lower p keeps part h =
    let two = both (not (length part == 0)) (list_all p part) h in
    and_true _ _ (ap (λ n. not (n == 0)) (length-map part to_ascii_lowercase) ∙ two.0) (all_lower p keeps part two.1)

parts_lower : (p : List ℕ → Bool) → ((part : List ℕ) → p part ≡ true → p (map to_ascii_lowercase part) ≡ true) → (parts : List (List ℕ)) → list_all p parts ≡ true → list_all p (map (map to_ascii_lowercase) parts) ≡ true
parts_lower p keeps [] h = refl
parts_lower p keeps (x ∷ xs) h =
    let two = both (p x) (list_all p xs) h in
    and_true (p (map to_ascii_lowercase x)) (list_all p (map (map to_ascii_lowercase) xs)) (keeps x two.0) (parts_lower p keeps xs two.1)

tag_parts_lower : (parts : List (List ℕ)) → are_tag_parts parts ≡ true → are_tag_parts (map (map to_ascii_lowercase) parts) ≡ true
tag_parts_lower [] h = h
tag_parts_lower (part ∷ parts) h =
    let two = both (is_letters part) (list_all is_letters_or_digits parts) h in
    and_true _ _ (part_lower is_letter letter_lower part two.0) (parts_lower is_letters_or_digits (part_lower is_letter_or_digit letter_or_digit_lower) parts two.1)

first_lower : (x : ℕ) (parts : List (List ℕ)) → onto_first (to_ascii_lowercase x) (map (map to_ascii_lowercase) parts) ≡ map (map to_ascii_lowercase) (onto_first x parts)
first_lower x [] = refl
first_lower x (part ∷ parts) = refl

-- the parts are cut at the same dashes
split_lower : (tag : List ℕ) → slice_split is_dash (map to_ascii_lowercase tag) ≡ map (map to_ascii_lowercase) (slice_split is_dash tag)
split_lower [] = refl
split_lower (x ∷ xs) = ap (λ b. cond b ([] ∷ slice_split is_dash (map to_ascii_lowercase xs)) (onto_first (to_ascii_lowercase x) (slice_split is_dash (map to_ascii_lowercase xs)))) (dash_lower x) ∙ pick (is_dash x) (split_lower xs)
  where
    pick : (b : Bool) → slice_split is_dash (map to_ascii_lowercase xs) ≡ map (map to_ascii_lowercase) (slice_split is_dash xs) → cond b ([] ∷ slice_split is_dash (map to_ascii_lowercase xs)) (onto_first (to_ascii_lowercase x) (slice_split is_dash (map to_ascii_lowercase xs))) ≡ map (map to_ascii_lowercase) (cond b ([] ∷ slice_split is_dash xs) (onto_first x (slice_split is_dash xs)))
    pick true rest = ap (λ parts. [] ∷ parts) rest
    pick false rest = ap (onto_first (to_ascii_lowercase x)) rest ∙ first_lower x (slice_split is_dash xs)

lower_twice : (tag : List ℕ) → map to_ascii_lowercase (map to_ascii_lowercase tag) ≡ map to_ascii_lowercase tag
lower_twice [] = refl
lower_twice (x ∷ xs) = ap (λ b. b ∷ map to_ascii_lowercase (map to_ascii_lowercase xs)) (lowercase-lowercase x) ∙ ap (λ v. to_ascii_lowercase x ∷ v) (lower_twice xs)

pub tag_in_lower_case : (tag : List ℕ) → is_tag tag ≡ true → IsTag (map to_ascii_lowercase tag)
tag_in_lower_case tag h = record { tag = ap are_tag_parts (split_lower tag) ∙ tag_parts_lower (slice_split is_dash tag) h; lower = lower_twice tag }

-- a tag has a letter
no_tag : is_tag [] ≡ false
no_tag = refl

pub tag_is_some : (tag : List ℕ) → is_tag tag ≡ true → (length (map to_ascii_lowercase tag) == 0) ≡ false
tag_is_some [] h = cc
tag_is_some (x ∷ xs) h = grind (arith, nat_tests)
