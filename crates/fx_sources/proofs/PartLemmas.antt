-- Lists in parts: the first part, and what is behind it.
use Rattle.std.proofs.Common.{◌≡◌, ◌∙◌, ℕ, ◌+◌, ◌<◌, ◌≤◌, ◌==◌, Bool, true, false, not, cond, List, [], ◌∷◌, length, take, drop, filter, refl, ap, sym, ⊎_elim, arith}
use Rattle.std.specs.List.{position_or_len, slice_split, onto_first}
use Rattle.std.specs.Str.Lines.{lines, lines_of_parts, strip_carriage_return}
use Rattle.std.proofs.lemmas.List.{drop_all}
use Rattle.std.proofs.lemmas.List.Splits.{slice_split_first, length-slice_split}
use Rattle.std.proofs.lemmas.Bool.{cases_lt}
use Rattle.std.proofs.lemmas.Bool.Decides.{nat_tests}
use Rattle.std.proofs.Math.Seq.{take-length}
use Rattle.fx_sources.specs.Lines.{is_blank, is_word, words}

uncut_by : {X : Type 0} (p : X → Bool) (b : Bool) (x : X) (xs : List X) (n : ℕ) → (n ≡ length xs → slice_split p xs ≡ xs ∷ []) → cond {A = ℕ} (not b) (1 + n) 0 ≡ length xs + 1
    → cond b ([] ∷ slice_split p xs) (onto_first x (slice_split p xs)) ≡ (x ∷ xs) ∷ []
uncut_by p true x xs n rest e = absurd (omega arith)
uncut_by p false x xs n rest e = ap (onto_first x) (rest (omega arith))

-- a list in which no element passes is one part
uncut : {X : Type 0} (p : X → Bool) (xs : List X) → position_or_len p xs ≡ length xs → slice_split p xs ≡ xs ∷ []
uncut p [] e = refl
uncut p (x ∷ xs) e = uncut_by p (p x) x xs (position_or_len p xs) (uncut p xs) (e ∙ (let more : length (x ∷ xs) ≡ length xs + 1 = omega arith in more))

kept : (part : List ℕ) (parts : List (List ℕ)) → (length part == 0) ≡ false → filter is_word (part ∷ parts) ≡ part ∷ filter is_word parts
kept part parts some = ap (λ b. cond (not b) (part ∷ filter is_word parts) (filter is_word parts)) some

-- the word before the first blank
pub words_first : (text : List ℕ) (place : ℕ) → place ≡ position_or_len is_blank text → place ≤ length text → (length (take place text) == 0) ≡ false
    → words text ≡ take place text ∷ words (drop (place + 1) text)
words_first text place is within some =
    ⊎_elim
    (λ (inside : place < length text).
    let parts : slice_split is_blank text ≡ take place text ∷ slice_split is_blank (drop (place + 1) text) = rw is (slice_split_first is_blank text 0 (rw (← is) inside)) in
    ap (filter is_word) parts ∙ kept (take place text) (slice_split is_blank (drop (place + 1) text)) some)
    (λ (outside : length text ≤ place).
    let all : place ≡ length text = omega arith in
    let whole : take place text ≡ text = ap (λ n. take n text) all ∙ take-length text in
    let empty : drop (place + 1) text ≡ [] = drop_all (place + 1) text (omega arith) in
    let one : slice_split is_blank text ≡ text ∷ [] = uncut is_blank text (sym is ∙ all) in
    ap (filter is_word) one ∙ kept text [] (ap (λ (t : List ℕ). length t == 0) (sym whole) ∙ some) ∙ rw (whole, empty) refl)
    (cases_lt place (length text))

lines_of_more : (part : List ℕ) (parts : List (List ℕ)) → 0 < length parts → lines_of_parts (part ∷ parts) ≡ strip_carriage_return part ∷ lines_of_parts parts
lines_of_more part [] some = absurd (omega arith)
lines_of_more part (x ∷ xs) some = refl

-- a line before a line feed
pub lines_first : (text : List ℕ) (place : ℕ) → place ≡ position_or_len (λ b. b == 10) text → place < length text
    → lines text ≡ strip_carriage_return (take place text) ∷ lines (drop (place + 1) text)
lines_first text place is inside =
    let parts : slice_split (λ b. b == 10) text ≡ take place text ∷ slice_split (λ b. b == 10) (drop (place + 1) text) = rw is (slice_split_first (λ b. b == 10) text 0 (rw (← is) inside)) in
    let some : 0 < length (slice_split (λ b. b == 10) (drop (place + 1) text)) = omega (arith, length-slice_split (λ b. b == 10) (drop (place + 1) text)) in
    ap lines_of_parts parts ∙ lines_of_more (take place text) _ some

one_line : (text : List ℕ) → 0 < length text → lines_of_parts (text ∷ []) ≡ text ∷ []
one_line [] some = absurd (omega arith)
one_line (b ∷ bs) some = (let full : (length (b ∷ bs) == 0) ≡ false = grind (arith, nat_tests) in ap (λ t. cond t [] ((b ∷ bs) ∷ [])) full)

-- a last line with no line feed
pub lines_last : (text : List ℕ) (place : ℕ) → place ≡ position_or_len (λ b. b == 10) text → place ≡ length text → 0 < length text → lines text ≡ text ∷ lines (drop (place + 1) text)
lines_last text place is all some =
    let empty : drop (place + 1) text ≡ [] = drop_all (place + 1) text (omega arith) in
    ap lines_of_parts (uncut (λ b. b == 10) text (sym is ∙ all)) ∙ one_line text some ∙ rw empty refl
