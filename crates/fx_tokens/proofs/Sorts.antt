-- Which kind a token is of shows in its first character, in whether something stands behind it, and in whether a colon, a `>`, or
-- what is no digit does.
use Rattle.std.proofs.Common.{◌≡◌, ℕ, ◌<◌, Bool, true, false, cond, not, ◌&&◌, ◌||◌, List, [], ◌∷◌, ◌++◌, refl, sym, ap, ◌∙◌, subst, arith, inl, inr}
use Rattle.std.specs.Prelude.{◌==◌, nat_le, if◌then◌else◌}
use Rattle.std.proofs.lemmas.Bool.{eqb-true, leb-true, not-false, not_from_true, and_parts, and_cases, and_from, and_left, and_right, or_cases, or_from, or_left, or_right, both_ways, cond-true, cond-false, agree_below, agree_below_at}
use Rattle.fx_terms.specs.Names.{is_base_char, is_name_start, is_name_char}
use Rattle.fx_tokens.specs.Classes as class
use Rattle.fx_tokens.specs.Forms.{One, Then, Repeat, none, more, Either, Maybe}
use Rattle.fx_tokens.specs.Kinds as kind
use Rattle.fx_tokens.specs.declared.TokenKind.{TokenKind}
use Rattle.fx_tokens.specs.declared.TokenKind.TheVariants as token
use Rattle.fx_tokens.proofs.KindLaws.{class_apart}

-- ---- what a text holds

-- a character of a class stands in the text
abbrev has : (ℕ → Bool) → List ℕ → Bool
has p [] = false
has p (c ∷ text) = p c || has p text

abbrev is_none : List ℕ → Bool
is_none [] = true
is_none (c ∷ text) = false

has_behind : (p : ℕ → Bool) (front back : List ℕ) → has p back ≡ true → has p (front ++ back) ≡ true
has_behind p [] back h = h
has_behind p (c ∷ front) back h = or_right (p c) (has p (front ++ back)) (has_behind p front back h)

has_back : (p : ℕ → Bool) (a b : List ℕ → Type 0) (text : List ℕ) → (h : Then a b text) → has p h.back ≡ true → has p text ≡ true
has_back p a b text h e = ap (has p) h.joined ∙ has_behind p h.front h.back e

-- the first character, where a form begins with one
first_is : (q : ℕ → Bool) (b : List ℕ → Type 0) (text : List ℕ) → (h : Then (One q) b text) → text ≡ h.first.character ∷ h.back
first_is q b text h = h.joined ∙ ap (λ v. v ++ h.back) h.first.alone

has_front : (p q : ℕ → Bool) (b : List ℕ → Type 0) (text : List ℕ) → (h : Then (One q) b text) → p h.first.character ≡ true → has p text ≡ true
has_front p q b text h e = ap (has p) (first_is q b text h) ∙ or_left (p h.first.character) (has p h.back) e

has_one : (p : ℕ → Bool) (text : List ℕ) → One p text → has p text ≡ true
has_one p text h = ap (has p) h.alone ∙ or_left (p h.character) false h.holds

has_some : (p : ℕ → Bool) (text : List ℕ) → has p text ≡ true → is_none text ≡ false
has_some p [] h = absurd (cc)
has_some p (c ∷ text) h = refl

has_no : (p q : ℕ → Bool) → ((c : ℕ) → q c ≡ true → p c ≡ false) → (text : List ℕ) → Repeat (One q) text → has p text ≡ false
has_no p q apart text (none e) = ap (has p) e
has_no p q apart text (more front back e h further) =
    ap (has p) (e ∙ ap (λ v. v ++ back) h.alone) ∙ or_from (p h.character) (has p back) (apart h.character h.holds) (has_no p q apart back further)

-- ---- classes of characters

-- what holds of two characters holds of each that is one of them
either_char : (P : ℕ → Type 0) (a b : ℕ) → P a → P b → (c : ℕ) → (c == a || c == b) ≡ true → P c
either_char P a b x y c h = elim (or_cases (c == a) (c == b) h) [ inl l ↦ subst P (sym (eqb-true c a l)) x | inr r ↦ subst P (sym (eqb-true c b r)) y ]

-- two classes of which no character below a number is in both are apart, where the first ends before it
apart_below : (q p : ℕ → Bool) (n : ℕ) → agree_below (λ c. q c && p c) (λ c. false) n ≡ true → (c : ℕ) → c < n → q c ≡ true → p c ≡ false
apart_below q p n e c less h = elim (and_cases (q c) (p c) (agree_below_at (λ c. q c && p c) (λ c. false) n c e less)) [ inl l ↦ absurd (both_ways (q c) l h) | inr r ↦ r ]

digit_apart : (p : ℕ → Bool) → agree_below (λ c. class.is_digit c && p c) (λ c. false) 58 ≡ true → (c : ℕ) → class.is_digit c ≡ true → p c ≡ false
digit_apart p e c h = apart_below class.is_digit p 58 e c (omega (arith, leb-true c 57 (and_parts (nat_le 48 c) (nat_le c 57) h).1)) h

letter_below : (c : ℕ) → class.is_letter c ≡ true → c < 123
letter_below c h = elim (or_cases (nat_le 65 c && nat_le c 90) (nat_le 97 c && nat_le c 122) h) [
  | inl l ↦ omega (arith, leb-true c 90 (and_parts (nat_le 65 c) (nat_le c 90) l).1)
  | inr r ↦ omega (arith, leb-true c 122 (and_parts (nat_le 97 c) (nat_le c 122) r).1)
]

letter_apart : (p : ℕ → Bool) → agree_below (λ c. class.is_letter c && p c) (λ c. false) 123 ≡ true → (c : ℕ) → class.is_letter c ≡ true → p c ≡ false
letter_apart p e c h = apart_below class.is_letter p 123 e c (letter_below c h) h

letter_base : (c : ℕ) → class.is_letter c ≡ true → is_base_char c ≡ true
letter_base c h = not-false (is_base_char c) (letter_apart (λ c. not (is_base_char c)) refl c h)

abbrev is_no_digit : ℕ → Bool
is_no_digit c = not (class.is_digit c)

digit_is : (c : ℕ) → class.is_digit c ≡ true → is_no_digit c ≡ false
digit_is c h = not_from_true (class.is_digit c) h

point_is : (c : ℕ) → (c == 46) ≡ true → is_no_digit c ≡ true
point_is c h = ap is_no_digit (eqb-true c 46 h)

-- ---- the one kind that a text may be of

abbrev of_mark : ℕ → List ℕ → TokenKind
of_mark c text =
    if class.is_sign c then (if has is_no_digit text then token.Decimal else token.Signed)
    else (if c == 60 then (if has (class.is 62) text then token.Iri else token.Mark)
    else (if c == 58 then token.PrefixName
    else (if class.is_variable_mark c then token.Variable
    else (if c == 95 then token.Blank
    else (if c == 64 then token.Tag
    else (if c == 39 || c == 34 then token.Text
    else token.Mark))))))

abbrev of_first : ℕ → List ℕ → TokenKind
of_first c text =
    if is_base_char c then (if has (class.is 58) text then token.PrefixName else token.Word)
    else (if class.is_digit c || c == 46 then (if has is_no_digit (c ∷ text) then token.Decimal else token.Integer) else of_mark c text)

abbrev sort : List ℕ → TokenKind
sort [] = token.Mark
sort (c ∷ text) = if class.is_mark c && is_none text then token.Mark else of_first c text

by_first : (k : TokenKind) (q : ℕ → Bool) (b : List ℕ → Type 0) (text : List ℕ) → (h : Then (One q) b text) → sort (h.first.character ∷ h.back) ≡ k → sort text ≡ k
by_first k q b text h e = ap sort (first_is q b text h) ∙ e

by_char : (k : TokenKind) (a : ℕ) (b : List ℕ → Type 0) (text : List ℕ) → (h : Then (kind.Is a) b text) → sort (a ∷ h.back) ≡ k → sort text ≡ k
by_char k a b text h e = by_first k (class.is a) b text h (ap (λ c. sort (c ∷ h.back)) (eqb-true h.first.character a h.first.holds) ∙ e)

-- no mark stands alone where the character is none
no_mark : (c : ℕ) (text : List ℕ) → class.is_mark c ≡ false → sort (c ∷ text) ≡ of_first c text
no_mark c text e = cond-false (class.is_mark c && is_none text) _ _ (and_left (class.is_mark c) (is_none text) e)

-- nor where something stands behind it
not_alone : (c : ℕ) (text : List ℕ) → is_none text ≡ false → sort (c ∷ text) ≡ of_first c text
not_alone c text e = cond-false (class.is_mark c && is_none text) _ _ (and_right (class.is_mark c) (is_none text) e)

-- ---- each kind

iri_sort : (text : List ℕ) → kind.Iri text → sort text ≡ token.Iri
iri_sort text h =
    let behind = has_back (class.is 62) (Repeat kind.IriPart) (kind.Is 62) h.back h.second (has_one (class.is 62) h.second.back h.second.second) in
    by_char token.Iri 60 (Then (Repeat kind.IriPart) (kind.Is 62)) text h (not_alone 60 h.back (has_some (class.is 62) h.back behind) ∙ cond-true (has (class.is 62) h.back) _ _ behind)

prefix_name_sort : (text : List ℕ) → kind.PrefixName text → sort text ≡ token.PrefixName
prefix_name_sort text (inl h) = by_char token.PrefixName 58 (Maybe kind.Local) text h refl
prefix_name_sort text (inr h) =
    let c = h.first.character in
    let behind = has_back (class.is 58) (kind.Dotted (One class.is_part_char)) kind.ColonLocal h.back h.second (has_front (class.is 58) (class.is 58) (Maybe kind.Local) h.second.back h.second.second h.second.second.first.holds) in
    by_first token.PrefixName is_base_char (Then (kind.Dotted (One class.is_part_char)) kind.ColonLocal) text h
    (not_alone c h.back (has_some (class.is 58) h.back behind) ∙ cond-true (is_base_char c) _ _ h.first.holds ∙ cond-true (has (class.is 58) h.back) _ _ behind)

variable_sort : (text : List ℕ) → kind.Variable text → sort text ≡ token.Variable
variable_sort text h =
    let d = h.second.first.character in
    let rest = h.second.back in
    by_first token.Variable class.is_variable_mark (Then (One is_name_start) (Repeat (One is_name_char))) text h
    (ap (λ v. sort (h.first.character ∷ v)) (first_is is_name_start (Repeat (One is_name_char)) h.back h.second) ∙ either_char (λ c. sort (c ∷ d ∷ rest) ≡ token.Variable) 63 36 refl refl h.first.character h.first.holds)

blank_sort : (text : List ℕ) → kind.Blank text → sort text ≡ token.Blank
blank_sort text h = by_char token.Blank 95 (Then (kind.Is 58) (Then (One is_name_start) (kind.Dotted (One class.is_part_char)))) text h refl

tag_sort : (text : List ℕ) → kind.Tag text → sort text ≡ token.Tag
tag_sort text h = by_char token.Tag 64 (Then (One class.is_letter) (Then (Repeat (One class.is_letter)) (Repeat kind.TagPart))) text h refl

integer_digits : (text : List ℕ) → kind.Integer text → has is_no_digit text ≡ false
integer_digits text h =
    ap (has is_no_digit) (first_is class.is_digit (Repeat (One class.is_digit)) text h) ∙ or_from (is_no_digit h.first.character) (has is_no_digit h.back) (digit_is h.first.character h.first.holds) (has_no is_no_digit class.is_digit digit_is h.back h.second)

-- a number without a sign by its first digit
digit_sort : (c : ℕ) (text : List ℕ) → class.is_digit c ≡ true → sort (c ∷ text) ≡ cond (has is_no_digit (c ∷ text)) token.Decimal token.Integer
digit_sort c text h =
    no_mark c text (digit_apart class.is_mark refl c h) ∙ cond-false (is_base_char c) _ _ (digit_apart is_base_char refl c h) ∙ cond-true (class.is_digit c || c == 46) _ _ (or_left (class.is_digit c) (c == 46) h)

integer_sort : (text : List ℕ) → kind.Integer text → sort text ≡ token.Integer
integer_sort text h =
    let begins = first_is class.is_digit (Repeat (One class.is_digit)) text h in
    by_first token.Integer class.is_digit (Repeat (One class.is_digit)) text h
    (digit_sort h.first.character h.back h.first.holds ∙ cond-false (has is_no_digit (h.first.character ∷ h.back)) _ _ (ap (has is_no_digit) (sym begins) ∙ integer_digits text h))

-- a sign, and what shows behind it
sign_sort : (k : TokenKind) (c : ℕ) (text : List ℕ) → class.is_sign c ≡ true → is_none text ≡ false → cond (has is_no_digit text) token.Decimal token.Signed ≡ k → sort (c ∷ text) ≡ k
sign_sort k c text h some e = either_char (λ c. sort (c ∷ text) ≡ k) 43 45 (not_alone 43 text some ∙ e) (not_alone 45 text some ∙ e) c h

signed_sort : (text : List ℕ) → kind.Signed text → sort text ≡ token.Signed
signed_sort text h =
    let some = ap is_none (first_is class.is_digit (Repeat (One class.is_digit)) h.back h.second) in
    by_first token.Signed class.is_sign kind.Integer text h (sign_sort token.Signed h.first.character h.back h.first.holds some (cond-false (has is_no_digit h.back) _ _ (integer_digits h.back h.second)))

-- a number with a dot or an exponent
abbrev Pointed : List ℕ → Type 0
Pointed = Then (Repeat (One class.is_digit)) (Then (kind.Is 46) (Then (One class.is_digit) (Then (Repeat (One class.is_digit)) (Maybe kind.Exponent))))

abbrev Powered : List ℕ → Type 0
Powered = Then (One class.is_digit) (Then (Repeat (One class.is_digit)) (Either kind.Exponent (Then (kind.Is 46) kind.Exponent)))

pointed_has : (text : List ℕ) → Pointed text → has is_no_digit text ≡ true
pointed_has text h =
    let digits = Then (One class.is_digit) (Then (Repeat (One class.is_digit)) (Maybe kind.Exponent)) in
    has_back is_no_digit (Repeat (One class.is_digit)) (Then (kind.Is 46) digits) text h
    (has_front is_no_digit (class.is 46) digits h.back h.second (point_is h.second.first.character h.second.first.holds))

powered_has : (text : List ℕ) → Powered text → has is_no_digit text ≡ true
powered_has text h =
    let power = Either kind.Exponent (Then (kind.Is 46) kind.Exponent) in
    has_back is_no_digit (One class.is_digit) (Then (Repeat (One class.is_digit)) power) text h
    (has_back is_no_digit (Repeat (One class.is_digit)) power h.back h.second (go h.second.back h.second.second))
  where
    go : (text : List ℕ) → Either kind.Exponent (Then (kind.Is 46) kind.Exponent) text → has is_no_digit text ≡ true
    go text (inl x) =
        has_front is_no_digit class.is_exponent (Either kind.Integer (Then (One class.is_sign) kind.Integer)) text x
        (either_char (λ c. is_no_digit c ≡ true) 101 69 refl refl x.first.character x.first.holds)
    go text (inr y) = has_front is_no_digit (class.is 46) kind.Exponent text y (point_is y.first.character y.first.holds)

unsigned_has : (text : List ℕ) → kind.Unsigned text → has is_no_digit text ≡ true
unsigned_has text (inl x) = pointed_has text x
unsigned_has text (inr y) = powered_has text y

decimal_by : (text : List ℕ) (c : ℕ) (rest : List ℕ) → text ≡ c ∷ rest → class.is_digit c ≡ true → has is_no_digit text ≡ true → sort text ≡ token.Decimal
decimal_by text c rest e h has_point = ap sort e ∙ digit_sort c rest h ∙ cond-true (has is_no_digit (c ∷ rest)) _ _ (ap (has is_no_digit) (sym e) ∙ has_point)

-- digits before the dot, or none
pointed_sort : (text : List ℕ) → Pointed text → sort text ≡ token.Decimal
pointed_sort text h = go h.front h.joined h.first
  where
    go : (front : List ℕ) → text ≡ front ++ h.back → Repeat (One class.is_digit) front → sort text ≡ token.Decimal
    go front e (none f) =
        let digits = Then (One class.is_digit) (Then (Repeat (One class.is_digit)) (Maybe kind.Exponent)) in
        let rest = first_is class.is_digit (Then (Repeat (One class.is_digit)) (Maybe kind.Exponent)) h.second.back h.second.second in
        ap sort (e ∙ ap (λ v. v ++ h.back) f) ∙ by_char token.Decimal 46 digits h.back h.second (ap (λ v. sort (46 ∷ v)) rest)
    go front e (more x y f d further) = decimal_by text d.character (y ++ h.back) (e ∙ ap (λ v. v ++ h.back) (f ∙ ap (λ v. v ++ y) d.alone)) d.holds (pointed_has text h)

unsigned_sort : (text : List ℕ) → kind.Unsigned text → sort text ≡ token.Decimal
unsigned_sort text (inl x) = pointed_sort text x
unsigned_sort text (inr y) = decimal_by text y.first.character y.back (first_is class.is_digit (Then (Repeat (One class.is_digit)) (Either kind.Exponent (Then (kind.Is 46) kind.Exponent))) text y) y.first.holds (powered_has text y)

decimal_sort : (text : List ℕ) → kind.Decimal text → sort text ≡ token.Decimal
decimal_sort text (inl x) = unsigned_sort text x
decimal_sort text (inr y) =
    let point = unsigned_has y.back y.second in
    by_first token.Decimal class.is_sign kind.Unsigned text y (sign_sort token.Decimal y.first.character y.back y.first.holds (has_some is_no_digit y.back point) (cond-true (has is_no_digit y.back) _ _ point))

long_sort : (quote : ℕ) (text : List ℕ) → ((rest : List ℕ) → sort (quote ∷ rest) ≡ token.Text) → kind.Long quote text → sort text ≡ token.Text
long_sort quote text e h =
    let first = first_is (class.is quote) (Then (kind.Is quote) (kind.Is quote)) h.front h.first in
    let same = eqb-true h.first.first.character quote h.first.first.holds in
    ap sort (h.joined ∙ ap (λ v. v ++ h.back) (first ∙ ap (λ c. c ∷ h.first.back) same)) ∙ e (h.first.back ++ h.back)

text_sort : (text : List ℕ) → kind.Text text → sort text ≡ token.Text
text_sort text (inl (inl h)) = by_char token.Text 39 (Then (Repeat (kind.TextPart 39)) (kind.Is 39)) text h refl
text_sort text (inl (inr h)) = by_char token.Text 34 (Then (Repeat (kind.TextPart 34)) (kind.Is 34)) text h refl
text_sort text (inr (inl h)) = long_sort 39 text (λ rest. refl) h
text_sort text (inr (inr h)) = long_sort 34 text (λ rest. refl) h

word_sort : (text : List ℕ) → kind.Word text → sort text ≡ token.Word
word_sort text h =
    let c = h.first.character in
    by_first token.Word class.is_letter (Repeat (One class.is_word_char)) text h
    (no_mark c h.back (letter_apart class.is_mark refl c h.first.holds) ∙ cond-true (is_base_char c) _ _ (letter_base c h.first.holds)
    ∙ cond-false (has (class.is 58) h.back) _ _ (has_no (class.is 58) class.is_word_char (class_apart class.is_word_char 58 refl) h.back h.second))

-- two characters of which the second is known
pair_sort : (q : ℕ → Bool) (a : ℕ) (text : List ℕ) → ((c : ℕ) → q c ≡ true → sort (c ∷ a ∷ []) ≡ token.Mark) → Then (One q) (kind.Is a) text → sort text ≡ token.Mark
pair_sort q a text e h =
    let c = h.first.character in
    by_first token.Mark q (kind.Is a) text h (ap (λ v. sort (c ∷ v)) (h.second.alone ∙ ap (λ d. d ∷ []) (eqb-true h.second.character a h.second.holds)) ∙ e c h.first.holds)

twice_sort : (a : ℕ) → sort (a ∷ a ∷ []) ≡ token.Mark → (text : List ℕ) → Then (kind.Is a) (kind.Is a) text → sort text ≡ token.Mark
twice_sort a e text h = pair_sort (class.is a) a text (λ c f. ap (λ d. sort (d ∷ a ∷ [])) (eqb-true c a f) ∙ e) h

before_equal : (c : ℕ) → class.is_before_equal c ≡ true → sort (c ∷ 61 ∷ []) ≡ token.Mark
before_equal c h = elim (or_cases (c == 33) (c == 60 || c == 62) h) [
  | inl l ↦ ap (λ d. sort (d ∷ 61 ∷ [])) (eqb-true c 33 l)
  | inr r ↦ either_char (λ d. sort (d ∷ 61 ∷ []) ≡ token.Mark) 60 62 refl refl c r
]

mark_sort : (text : List ℕ) → kind.Mark text → sort text ≡ token.Mark
mark_sort text (inl h) = ap sort h.alone ∙ cond-true (class.is_mark h.character && true) _ _ (and_from (class.is_mark h.character) true h.holds refl)
mark_sort text (inr (inl h)) = pair_sort class.is_before_equal 61 text before_equal h
mark_sort text (inr (inr (inl h))) = twice_sort 38 refl text h
mark_sort text (inr (inr (inr (inl h)))) = twice_sort 124 refl text h
mark_sort text (inr (inr (inr (inr h)))) = twice_sort 94 refl text h

token_sort : (k : TokenKind) (text : List ℕ) → kind.IsToken k text → sort text ≡ k
token_sort token.Iri text h = iri_sort text h
token_sort token.PrefixName text h = prefix_name_sort text h
token_sort token.Variable text h = variable_sort text h
token_sort token.Blank text h = blank_sort text h
token_sort token.Tag text h = tag_sort text h
token_sort token.Integer text h = integer_sort text h
token_sort token.Signed text h = signed_sort text h
token_sort token.Decimal text h = decimal_sort text h
token_sort token.Text text h = text_sort text h
token_sort token.Word text h = word_sort text h
token_sort token.Mark text h = mark_sort text h

pub one_kind : kind.OneKind
one_kind a b text h g = sym (token_sort a text h) ∙ token_sort b text g
