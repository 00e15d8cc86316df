-- Each reader finds the longest token of its kind.
use Rattle.std.proofs.Common.{◌≡◌, ℕ, zero, suc, ◌+◌, ◌*◌, ◌<◌, ◌≤◌, Bool, true, false, cond, ◌&&◌, ◌||◌, List, [], ◌∷◌, ◌++◌, length, Option, Some, None, refl, sym, ap, ◌∙◌, subst, arith, append_assoc, append-nil, length-append, inl, inr, ◌⊎◌}
use Rattle.std.specs.Prelude.{◌==◌}
use Rattle.std.specs.Char.{digit_value, is_ascii_hexdigit}
use Rattle.std.specs.List.{list_all}
use Rattle.std.proofs.lemmas.Bool.{eqb-true}
use Rattle.fx_terms.specs.Escapes.{hex_value}
use Rattle.fx_terms.specs.Names.{is_base_char, is_name_start, is_name_char}
use Rattle.fx_tokens.specs.Answers.{width}
use Rattle.fx_tokens.specs.Classes as class
use Rattle.fx_tokens.specs.Forms.{One, Then, Repeat, none, more, Either, Maybe, AtLeastOne, Hex}
use Rattle.fx_tokens.specs.Kinds as kind
use Rattle.fx_tokens.specs.declared.classes.QuoteMark.{QuoteMark}
use Rattle.fx_tokens.specs.declared.classes.QuoteMark.TheVariants.{Single, Double}
use Rattle.fx_tokens.specs.declared.TokenKind.{TokenKind}
use Rattle.fx_tokens.specs.declared.TokenKind.TheVariants as token
use Rattle.fx_tokens.specs.declared.kinds.Part.{Part}
use Rattle.fx_tokens.specs.declared.kinds.Part.TheVariants as part
use Rattle.fx_tokens.specs.Scan as scan
use Rattle.fx_tokens.proofs.Readers.{Found, Best, IsUnit, unit_one, unit_then, unit_either, unit_or, unit_repeat_then, best_then, best_unit, best_either, best_maybe, best_repeat, best_repeat_then, Ends, apart_one, apart_then, width_behind, skip_found, skip_step, skip_most, skip_exact, step, IsStep, behind_first}

-- ---- the same up to how a reader is written

pub unit_as : {a : List ℕ → Type 0} {read other : List ℕ → Option (List ℕ)} → ((text : List ℕ) → other text ≡ read text) → IsUnit a read → IsUnit a other
unit_as {a} {read} {other} same u = record {
  found = λ text. subst (λ (v : Option (List ℕ)). Found a text v) (sym (same text)) (u.found text);
  whole = λ front back h. same (front ++ back) ∙ u.whole front back h;
  some = u.some;
}

pub best_as : {a : List ℕ → Type 0} {text : List ℕ} {rest other : Option (List ℕ)} → other ≡ rest → Best a text rest → Best a text other
best_as {a} {text} {rest} {other} same u = subst (λ (v : Option (List ℕ)). Best a text v) (sym same) u

-- a character is apart from a class that doesn't hold it
char_apart : (p : ℕ → Bool) (a : ℕ) → p a ≡ false → (c : ℕ) → (c == a) ≡ true → p c ≡ false
char_apart p a e c h = ap p (eqb-true c a h) ∙ e

-- a class that doesn't hold a character is apart from it
pub class_apart : (p : ℕ → Bool) (a : ℕ) → p a ≡ false → (c : ℕ) → p c ≡ true → (c == a) ≡ false
class_apart p a e c h = go (c == a) refl
  where
    go : (t : Bool) → (c == a) ≡ t → t ≡ false
    go false k = refl
    go true k = absurd (let same = ap p (eqb-true c a k) in cc (same, e, h))

-- what begins with a character
begins_one : (a : ℕ) (front back : List ℕ) → kind.Is a front → front ++ back ≡ a ∷ back
begins_one a front back h = ap (λ v. v ++ back) h.alone ∙ ap (λ v. v ∷ back) (eqb-true h.character a h.holds)

begins : (a : ℕ) (b : List ℕ → Type 0) (front back : List ℕ) → (h : Then (kind.Is a) b front) → front ++ back ≡ a ∷ (h.back ++ back)
begins a b front back h = ap (λ v. v ++ back) h.joined ∙ append_assoc h.front h.back back ∙ begins_one a h.front (h.back ++ back) h.first

stops_one : (read : List ℕ → Option (List ℕ)) (a : ℕ) → ((rest : List ℕ) → read (a ∷ rest) ≡ None) → (front back : List ℕ) → kind.Is a front → read (front ++ back) ≡ None
stops_one read a stop front back h = ap read (begins_one a front back h) ∙ stop back

stops_then : (read : List ℕ → Option (List ℕ)) (a : ℕ) (b : List ℕ → Type 0) → ((rest : List ℕ) → read (a ∷ rest) ≡ None) → (front back : List ℕ) → Then (kind.Is a) b front → read (front ++ back) ≡ None
stops_then read a b stop front back h = ap read (begins a b front back h) ∙ stop (h.back ++ back)

-- a reader that goes on behind another
and_then_some : (x : Option (List ℕ)) (f : List ℕ → List ℕ) (g : List ℕ → Option (List ℕ)) → scan.and_then (scan.and_then x (λ rest. Some (f rest))) g ≡ scan.and_then x (λ rest. g (f rest))
and_then_some None f g = refl
and_then_some (Some rest) f g = refl

-- ---- hexadecimal digits

and_true : (a b : Bool) → (a && b) ≡ true → (a ≡ true) × (b ≡ true)
and_true true b e = (refl, e)
and_true false b e = absurd (cc)

hexes_whole : (n high : ℕ) (front back : List ℕ) → length front ≡ n → list_all is_ascii_hexdigit front ≡ true → scan.hexes n high (front ++ back) ≡ Some (hex_value high front, back)
unfolding scan.hexes scan.digit
hexes_whole zero high [] back long hex = refl
hexes_whole zero high (c ∷ front) back long hex = absurd (omega (arith, long))
hexes_whole (suc n) high [] back long hex = absurd (omega (arith, long))
hexes_whole (suc n) high (c ∷ front) back long hex =
    let h = and_true (is_ascii_hexdigit c) (list_all is_ascii_hexdigit front) hex in
    ap (λ b. scan.and_number (cond b (Some (high * 16 + digit_value c, front ++ back)) None) (scan.hexes n)) h.0 ∙ hexes_whole n (high * 16 + digit_value c) front back (omega (arith, long)) h.1

abbrev FoundHex : ℕ → ℕ → List ℕ → Option (ℕ × List ℕ) → Type 0
FoundHex n high text None = Unit {0}
FoundHex n high text (Some p) = (front : List ℕ) × (text ≡ front ++ p.1) × (length front ≡ n) × (list_all is_ascii_hexdigit front ≡ true) × (hex_value high front ≡ p.0)

hex_more : (n high c : ℕ) (text : List ℕ) (x : Option (ℕ × List ℕ)) → is_ascii_hexdigit c ≡ true → FoundHex n (high * 16 + digit_value c) text x → FoundHex (suc n) high (c ∷ text) x
hex_more n high c text None h f = tt
hex_more n high c text (Some p) h f = (c ∷ f.0, ap (λ v. c ∷ v) f.1, omega (arith, f.2), rw h f.3, f.4)

hex_turn : (n high c : ℕ) (text : List ℕ) (b : Bool) → is_ascii_hexdigit c ≡ b → FoundHex n (high * 16 + digit_value c) text (scan.hexes n (high * 16 + digit_value c) text)
    → FoundHex (suc n) high (c ∷ text) (scan.and_number (cond b (Some (high * 16 + digit_value c, text)) None) (scan.hexes n))
hex_turn n high c text true e f = hex_more n high c text (scan.hexes n (high * 16 + digit_value c) text) e f
hex_turn n high c text false e f = tt

hexes_found : (n high : ℕ) (text : List ℕ) → FoundHex n high text (scan.hexes n high text)
unfolding scan.hexes scan.digit
hexes_found zero high text = ([], refl, refl, refl, refl)
hexes_found (suc n) high [] = tt
hexes_found (suc n) high (c ∷ text) = hex_turn n high c text (is_ascii_hexdigit c) refl (hexes_found n (high * 16 + digit_value c) text)

abbrev hex : (ℕ → Bool) → ℕ → List ℕ → Option (List ℕ)
hex fits count text = scan.fitting fits (scan.hexes count 0 text)

hex_fits : (fits : ℕ → Bool) (count : ℕ) (text front rest : List ℕ) (b : Bool) → fits (hex_value 0 front) ≡ b → text ≡ front ++ rest → length front ≡ count → list_all is_ascii_hexdigit front ≡ true → Found (Hex fits count) text (cond b (Some rest) None)
hex_fits fits count text front rest true e f g h = (front, f, record { long = g; digits = h; passes = e })
hex_fits fits count text front rest false e f g h = tt

hex_found : (fits : ℕ → Bool) (count : ℕ) (text : List ℕ) (x : Option (ℕ × List ℕ)) → FoundHex count 0 text x → Found (Hex fits count) text (scan.fitting fits x)
hex_found fits count text None f = tt
hex_found fits count text (Some p) f = hex_fits fits count text f.0 p.1 (fits p.0) (ap fits f.4) f.1 f.2 f.3

hex_unit : (fits : ℕ → Bool) (n : ℕ) → IsUnit (Hex fits (suc n)) (hex fits (suc n))
hex_unit fits n = record {
  found = λ text. hex_found fits (suc n) text (scan.hexes (suc n) 0 text) (hexes_found (suc n) 0 text);
  whole = λ front back h. ap (scan.fitting fits) (hexes_whole (suc n) 0 front back h.long h.digits) ∙ ap (λ b. cond b (Some back) None) h.passes;
  some = λ front h. omega (arith, h.long);
}

hexes_two : (x : Option (ℕ × List ℕ)) (f g : ℕ → List ℕ → Option (ℕ × List ℕ)) (k : ℕ → List ℕ → Option (ℕ × List ℕ)) → ((high : ℕ) (text : List ℕ) → k high text ≡ scan.and_number (f high text) g) → scan.and_number x k ≡ scan.and_number (scan.and_number x f) g
hexes_two None f g k same = refl
hexes_two (Some p) f g k same = same p.0 p.1

hexes_more : (n m k high : ℕ) (text : List ℕ) → k ≡ n + m → scan.hexes k high text ≡ scan.and_number (scan.hexes n high text) (scan.hexes m)
unfolding scan.hexes
hexes_more zero m k high text e = let same : k ≡ m = omega (arith, e) in ap (λ j. scan.hexes j high text) same
hexes_more (suc n) m zero high text e = absurd (omega (arith, e))
hexes_more (suc n) m (suc k) high text e = hexes_two (scan.digit high text) (scan.hexes n) (scan.hexes m) (scan.hexes k) (λ higher rest. hexes_more n m k higher rest (omega (arith, e)))

short_code_is : (fits : ℕ → Bool) (text : List ℕ) → scan.short_code fits text ≡ hex fits 4 text
unfolding scan.short_code
short_code_is fits text = refl

long_code_is : (fits : ℕ → Bool) (text : List ℕ) → scan.long_code fits text ≡ hex fits 8 text
unfolding scan.long_code
long_code_is fits text = ap (scan.fitting fits) (sym (hexes_more 4 4 8 0 text refl))

short_code_unit : (fits : ℕ → Bool) → IsUnit (Hex fits 4) (scan.short_code fits)
short_code_unit fits = unit_as (short_code_is fits) (hex_unit fits 3)

long_code_unit : (fits : ℕ → Bool) → IsUnit (Hex fits 8) (scan.long_code fits)
long_code_unit fits = unit_as (long_code_is fits) (hex_unit fits 7)

code_unit : (fits : ℕ → Bool) → IsUnit (kind.Code fits) (scan.code fits)
unfolding scan.code
code_unit fits = unit_or (class.is 117) (short_code_unit fits) (unit_then (unit_one (class.is 85)) (long_code_unit fits)) (apart_then (class.is 117) (class.is 85) (Hex fits 8) (char_apart (class.is 117) 85 refl))

-- ---- IRIs

iri_part_unit : IsUnit kind.IriPart scan.iri_part
unfolding scan.iri_part
iri_part_unit = unit_either (unit_one class.is_iri_char) (unit_then (unit_one (class.is 92)) (code_unit class.is_iri_scalar)) (apart_then class.is_iri_char (class.is 92) (kind.Code class.is_iri_scalar) (char_apart class.is_iri_char 92 refl))

iri_stops : (rest : List ℕ) → scan.iri_part (62 ∷ rest) ≡ None
unfolding scan.iri_part scan.one
iri_stops rest = refl

pub iri_best : (text : List ℕ) → Best kind.Iri text (scan.iri text)
unfolding scan.iri
iri_best text = best_then (unit_one (class.is 60)) (best_repeat_then iri_part_unit (λ front back h. inr (stops_one scan.iri_part 62 iri_stops front back h)) (best_unit (unit_one (class.is 62)))) text

-- ---- texts

escape_unit : IsUnit kind.Escape scan.escape
unfolding scan.escape
escape_unit = unit_then (unit_one (class.is 92)) (unit_either (unit_one class.is_escape_letter) (code_unit class.is_scalar) apart)
  where
    apart : (front back : List ℕ) → kind.Code class.is_scalar front → scan.one class.is_escape_letter (front ++ back) ≡ None
    apart front back h = elim h [ inl x ↦ apart_then class.is_escape_letter (class.is 117) (Hex class.is_scalar 4) (char_apart class.is_escape_letter 117 refl) front back x | inr y ↦ apart_then class.is_escape_letter (class.is 85) (Hex class.is_scalar 8) (char_apart class.is_escape_letter 85 refl) front back y ]

pub text_part_unit : (quote : ℕ) → class.is_plain quote 92 ≡ false → IsUnit (kind.TextPart quote) (scan.text_part quote)
unfolding scan.text_part
text_part_unit quote e = unit_either (unit_one (class.is_plain quote)) escape_unit (apart_then (class.is_plain quote) (class.is 92) (Either (One class.is_escape_letter) (kind.Code class.is_scalar)) (char_apart (class.is_plain quote) 92 e))

long_part_unit : (quote : ℕ) → class.is_long_plain quote 92 ≡ false → IsUnit (kind.LongPart quote) (scan.long_part quote)
unfolding scan.long_part
long_part_unit quote e = unit_either (unit_one (class.is_long_plain quote)) escape_unit (apart_then (class.is_long_plain quote) (class.is 92) (Either (One class.is_escape_letter) (kind.Code class.is_scalar)) (char_apart (class.is_long_plain quote) 92 e))

-- a quote that is no backslash
record IsQuote (quote : ℕ) : Type 0 where
  plain : class.is_plain quote 92 ≡ false
  long_plain : class.is_long_plain quote 92 ≡ false
  short : (rest : List ℕ) → scan.text_part quote (quote ∷ rest) ≡ None
  long : (rest : List ℕ) → scan.long_part quote (quote ∷ rest) ≡ None
  three : (rest : List ℕ) → scan.quoted quote (quote ∷ quote ∷ quote ∷ rest) ≡ None

single : IsQuote 39
unfolding scan.text_part scan.long_part scan.quoted scan.quoted_once scan.escape scan.one
single = record { plain = refl; long_plain = refl; short = λ rest. refl; long = λ rest. refl; three = λ rest. refl }

double : IsQuote 34
unfolding scan.text_part scan.long_part scan.quoted scan.quoted_once scan.escape scan.one
double = record { plain = refl; long_plain = refl; short = λ rest. refl; long = λ rest. refl; three = λ rest. refl }

short_best : (quote : ℕ) → IsQuote quote → (text : List ℕ) → Best (kind.Short quote) text (scan.short quote text)
unfolding scan.short
short_best quote q text =
    best_then (unit_one (class.is quote)) (best_repeat_then (text_part_unit quote q.plain) (λ front back h. inr (stops_one (scan.text_part quote) quote q.short front back h)) (best_unit (unit_one (class.is quote)))) text

quoted_once_unit : (quote : ℕ) → IsQuote quote → IsUnit (Either (kind.LongPart quote) (Then (kind.Is quote) (kind.LongPart quote))) (scan.quoted_once quote)
unfolding scan.quoted_once
quoted_once_unit quote q =
    let part = long_part_unit quote q.long_plain in
    unit_either part (unit_then (unit_one (class.is quote)) part) (stops_then (scan.long_part quote) quote (kind.LongPart quote) q.long)

quoted_unit : (quote : ℕ) → IsQuote quote → IsUnit (kind.Quoted quote) (scan.quoted quote)
unfolding scan.quoted
quoted_unit quote q =
    unit_either (long_part_unit quote q.long_plain) (unit_then (unit_one (class.is quote)) (quoted_once_unit quote q))
    (stops_then (scan.long_part quote) quote (Either (kind.LongPart quote) (Then (kind.Is quote) (kind.LongPart quote))) q.long)

three_unit : (quote : ℕ) → IsUnit (kind.Three quote) (scan.three quote)
unfolding scan.three
three_unit quote = unit_then (unit_one (class.is quote)) (unit_then (unit_one (class.is quote)) (unit_one (class.is quote)))

three_stops : (quote : ℕ) → IsQuote quote → Ends (kind.Three quote) (scan.quoted quote)
three_stops quote q front back h =
    inr (ap (scan.quoted quote) (begins quote (Then (kind.Is quote) (kind.Is quote)) front back h ∙ ap (λ v. quote ∷ v) (begins quote (kind.Is quote) h.back back h.second ∙ ap (λ v. quote ∷ v) (begins_one quote h.second.back back h.second.second))) ∙ q.three back)

long_best : (quote : ℕ) → IsQuote quote → (text : List ℕ) → Best (kind.Long quote) text (scan.long quote text)
unfolding scan.long
long_best quote q text = best_then (three_unit quote) (best_repeat_then (quoted_unit quote q) (three_stops quote q) (best_unit (three_unit quote))) text

pub text_best : (text : List ℕ) → Best kind.Text text (scan.string text)
unfolding scan.string
text_best text = best_either (best_either (short_best 39 single text) (short_best 34 double text)) (best_either (long_best 39 single text) (long_best 34 double text))

-- ---- marks

pair_best : (p : ℕ → Bool) (c : ℕ) (text : List ℕ) → Best (Then (One p) (kind.Is c)) text (scan.pair p c text)
unfolding scan.pair
pair_best p c text = best_unit (unit_then (unit_one p) (unit_one (class.is c))) text

pub mark_best : (text : List ℕ) → Best kind.Mark text (scan.mark text)
unfolding scan.mark
mark_best text = best_either (best_unit (unit_one class.is_mark) text) (best_either (pair_best class.is_before_equal 61 text) (best_either (pair_best (class.is 38) 38 text) (best_either (pair_best (class.is 124) 124 text) (pair_best (class.is 94) 94 text))))

-- ---- names

pub word_best : (text : List ℕ) → Best kind.Word text (scan.word text)
unfolding scan.word
word_best text = best_then (unit_one class.is_letter) (best_repeat (unit_one class.is_word_char)) text

pub variable_best : (text : List ℕ) → Best kind.Variable text (scan.variable text)
unfolding scan.variable
variable_best text = best_then (unit_one class.is_variable_mark) (best_then (unit_one is_name_start) (best_repeat (unit_one is_name_char))) text

pub integer_best : (text : List ℕ) → Best kind.Integer text (scan.integer text)
integer_best text = best_then (unit_one class.is_digit) (best_repeat (unit_one class.is_digit)) text

pub signed_best : (text : List ℕ) → Best kind.Signed text (scan.signed text)
unfolding scan.signed
signed_best text = best_then (unit_one class.is_sign) integer_best text

-- dots, and then a part of a name
pub name_part_unit : IsUnit (Then (Repeat (kind.Is 46)) (One class.is_part_char)) scan.name_part
unfolding scan.name_part
name_part_unit = unit_repeat_then (unit_one (class.is 46)) (unit_one class.is_part_char) (apart_one (class.is 46) class.is_part_char (class_apart class.is_part_char 46 refl))

pub blank_best : (text : List ℕ) → Best kind.Blank text (scan.blank text)
unfolding scan.blank
blank_best text = best_then (unit_one (class.is 95)) (best_then (unit_one (class.is 58)) (best_then (unit_one is_name_start) (best_repeat name_part_unit))) text

local_escape_unit : IsUnit kind.LocalEscape scan.local_escape
unfolding scan.local_escape
local_escape_unit = unit_or (class.is 37) (unit_then (unit_one is_ascii_hexdigit) (unit_one is_ascii_hexdigit)) (unit_then (unit_one (class.is 92)) (unit_one class.is_local_escape)) (apart_then (class.is 37) (class.is 92) (One class.is_local_escape) (char_apart (class.is 37) 92 refl))

escape_apart : (p : ℕ → Bool) → p 37 ≡ false → p 92 ≡ false → (front back : List ℕ) → kind.LocalEscape front → scan.one p (front ++ back) ≡ None
escape_apart p e f front back h = elim h [ inl x ↦ apart_then p (class.is 37) (Then (One is_ascii_hexdigit) (One is_ascii_hexdigit)) (char_apart p 37 e) front back x | inr y ↦ apart_then p (class.is 92) (One class.is_local_escape) (char_apart p 92 f) front back y ]

local_start_unit : IsUnit (Either (One class.is_local_start) kind.LocalEscape) scan.local_start
unfolding scan.local_start
local_start_unit = unit_either (unit_one class.is_local_start) local_escape_unit (escape_apart class.is_local_start refl refl)

local_char_unit : IsUnit (Either (One class.is_local_char) kind.LocalEscape) scan.local_char
unfolding scan.local_char
local_char_unit = unit_either (unit_one class.is_local_char) local_escape_unit (escape_apart class.is_local_char refl refl)

local_part_unit : IsUnit (Then (Repeat (kind.Is 46)) (Either (One class.is_local_char) kind.LocalEscape)) scan.local_part
unfolding scan.local_part
local_part_unit = unit_repeat_then (unit_one (class.is 46)) local_char_unit apart
  where
    apart : (front back : List ℕ) → Either (One class.is_local_char) kind.LocalEscape front → scan.one (class.is 46) (front ++ back) ≡ None
    apart front back h = elim h [ inl x ↦ apart_one (class.is 46) class.is_local_char (class_apart class.is_local_char 46 refl) front back x | inr y ↦ escape_apart (class.is 46) refl refl front back y ]

local_best : (text : List ℕ) → Best kind.Local text (scan.local text)
unfolding scan.local
local_best text = best_then local_start_unit (best_repeat local_part_unit) text

colon_local_best : (text : List ℕ) → Best kind.ColonLocal text (scan.colon_local text)
unfolding scan.colon_local
colon_local_best text = best_then (unit_one (class.is 58)) (λ rest. best_maybe (local_best rest)) text

colon_stops : (rest : List ℕ) → scan.name_part (58 ∷ rest) ≡ None
unfolding scan.name_part scan.one scan.skip
colon_stops rest = refl

pub prefix_name_best : (text : List ℕ) → Best kind.PrefixName text (scan.prefix_name text)
unfolding scan.prefix_name scan.long_prefix
prefix_name_best text = best_either (colon_local_best text) (best_then (unit_one is_base_char) (best_repeat_then name_part_unit (λ front back h. inr (stops_then scan.name_part 58 (Maybe kind.Local) colon_stops front back h)) colon_local_best) text)

-- ---- numbers

exponent_best : (text : List ℕ) → Best kind.Exponent text (scan.exponent text)
unfolding scan.exponent
exponent_best text = best_then (unit_one class.is_exponent) (λ rest. best_either (integer_best rest) (signed_best rest)) text

digit_stops : (rest : List ℕ) → scan.one class.is_digit (46 ∷ rest) ≡ None
unfolding scan.one
digit_stops rest = refl

no_digit : (c : ℕ) → class.is_exponent c ≡ true → class.is_digit c ≡ false
no_digit c h = go (c == 101) (c == 69) refl refl h
  where
    go : (x y : Bool) → (c == 101) ≡ x → (c == 69) ≡ y → (x || y) ≡ true → class.is_digit c ≡ false
    go true y e f h = char_apart class.is_digit 101 refl c e
    go false true e f h = char_apart class.is_digit 69 refl c f
    go false false e f h = absurd (cc)

exponent_stops : (front back : List ℕ) → kind.Exponent front → scan.one class.is_digit (front ++ back) ≡ None
exponent_stops front back h = apart_then class.is_digit class.is_exponent (Either kind.Integer (Then (One class.is_sign) kind.Integer)) no_digit front back h

maybe_ends : Ends (Maybe kind.Exponent) (scan.one class.is_digit)
maybe_ends front back h = elim h [ inl e ↦ inl e | inr x ↦ inr (exponent_stops front back x) ]

power_ends : Ends (Either kind.Exponent (Then (kind.Is 46) kind.Exponent)) (scan.one class.is_digit)
power_ends front back h = elim h [ inl x ↦ inr (exponent_stops front back x) | inr y ↦ inr (stops_then (scan.one class.is_digit) 46 kind.Exponent digit_stops front back y) ]

-- digits, and then what follows them
behind_digits : (b : List ℕ → Type 0) (read : List ℕ → Option (List ℕ)) → Ends b (scan.one class.is_digit) → ((text : List ℕ) → Best b text (read text)) → (text : List ℕ)
    → Best (Then (One class.is_digit) (Then (Repeat (One class.is_digit)) b)) text (scan.and_then (scan.integer text) read)
behind_digits b read ends u text =
    best_as (and_then_some (scan.one class.is_digit text) (scan.skip (scan.one class.is_digit)) read)
    (best_then (unit_one class.is_digit) (best_repeat_then (unit_one class.is_digit) ends u) text)

pointed_best : (text : List ℕ) → Best (Then (Repeat (One class.is_digit)) (Then (kind.Is 46) (Then (One class.is_digit) (Then (Repeat (One class.is_digit)) (Maybe kind.Exponent))))) text (scan.pointed text)
unfolding scan.pointed
pointed_best text =
    best_repeat_then (unit_one class.is_digit) (λ front back h. inr (stops_then (scan.one class.is_digit) 46 (Then (One class.is_digit) (Then (Repeat (One class.is_digit)) (Maybe kind.Exponent))) digit_stops front back h))
    (best_then (unit_one (class.is 46)) (behind_digits (Maybe kind.Exponent) (λ rest. Some (scan.or_here (scan.exponent rest) rest)) maybe_ends (λ rest. best_maybe (exponent_best rest)))) text

dot_exponent_best : (text : List ℕ) → Best (Then (kind.Is 46) kind.Exponent) text (scan.dot_exponent text)
unfolding scan.dot_exponent
dot_exponent_best text = best_then (unit_one (class.is 46)) exponent_best text

powered_best : (text : List ℕ) → Best (Then (One class.is_digit) (Then (Repeat (One class.is_digit)) (Either kind.Exponent (Then (kind.Is 46) kind.Exponent)))) text (scan.powered text)
unfolding scan.powered
powered_best text =
    behind_digits (Either kind.Exponent (Then (kind.Is 46) kind.Exponent)) (λ rest. scan.longer (scan.exponent rest) (scan.dot_exponent rest)) power_ends
    (λ rest. best_either (exponent_best rest) (dot_exponent_best rest)) text

unsigned_best : (text : List ℕ) → Best kind.Unsigned text (scan.unsigned text)
unfolding scan.unsigned
unsigned_best text = best_either (pointed_best text) (powered_best text)

pub decimal_best : (text : List ℕ) → Best kind.Decimal text (scan.decimal text)
unfolding scan.decimal
decimal_best text = best_either (unsigned_best text) (best_then (unit_one class.is_sign) unsigned_best text)

-- ---- tags

tag_part_best : (text : List ℕ) → Best kind.TagPart text (scan.tag_part text)
unfolding scan.tag_part
tag_part_best text = best_then (unit_one (class.is 45)) (best_then (unit_one class.is_letter_or_digit) (best_repeat (unit_one class.is_letter_or_digit))) text

tag_part_step : IsStep kind.TagPart scan.tag_part
tag_part_step = record {
  found = λ text. (tag_part_best text).found;
  some = λ front h. omega (arith, (unit_one (class.is 45)).some h.front h.first, ap (λ (s : List ℕ). length s) h.joined, length-append h.front h.back);
}

-- a part of a tag goes as far as its letters and digits
tag_part_at : (front back : List ℕ) → (h : kind.TagPart front) → scan.tag_part (front ++ back) ≡ Some (scan.skip (scan.one class.is_letter_or_digit) (h.second.back ++ back))
unfolding scan.tag_part
tag_part_at front back h =
    let read = scan.one class.is_letter_or_digit in
    let rest : List ℕ → Option (List ℕ) = λ text. scan.and_then (read text) (λ behind. Some (scan.skip read behind)) in
    ap (λ v. scan.and_then v rest) (behind_first (kind.Is 45) (AtLeastOne (One class.is_letter_or_digit)) (scan.is 45) front back (unit_one (class.is 45)) h)
    ∙ ap (λ v. scan.and_then v (λ behind. Some (scan.skip read behind))) (behind_first (One class.is_letter_or_digit) (Repeat (One class.is_letter_or_digit)) read h.back back (unit_one class.is_letter_or_digit) h.second)

tag_stops : (front back : List ℕ) → kind.TagPart front → scan.one class.is_letter_or_digit (front ++ back) ≡ None
tag_stops front back h = apart_then class.is_letter_or_digit (class.is 45) (AtLeastOne (One class.is_letter_or_digit)) (char_apart class.is_letter_or_digit 45 refl) front back h

-- what follows a part is nothing, or begins with a dash
tag_begins : (text : List ℕ) → Repeat kind.TagPart text → (text ≡ []) ⊎ ((back : List ℕ) → scan.one class.is_letter_or_digit (text ++ back) ≡ None)
tag_begins text (none e) = inl e
tag_begins text (more x y e h rest) = inr (λ back. ap (λ v. scan.one class.is_letter_or_digit (v ++ back)) e ∙ ap (scan.one class.is_letter_or_digit) (append_assoc x y back) ∙ tag_stops x (y ++ back) h)

tag_turn : (front back x y : List ℕ) → front ≡ x ++ y → kind.TagPart x → width (scan.skip scan.tag_part (y ++ back)) ≤ width back → (y ≡ []) ⊎ ((rest : List ℕ) → scan.one class.is_letter_or_digit (y ++ rest) ≡ None)
    → width (scan.skip scan.tag_part (front ++ back)) ≤ width back
tag_turn front back x y e h further (inl nothing) =
    let rest = h.second.back in
    let letters = scan.one class.is_letter_or_digit in
    let behind : List ℕ = scan.skip letters (rest ++ back) in
    let here : front ++ back ≡ x ++ back = ap (λ v. v ++ back) (e ∙ ap (λ v. x ++ v) nothing ∙ append-nil x) in
    let step : scan.skip scan.tag_part (front ++ back) ≡ scan.skip scan.tag_part behind = ap (scan.skip scan.tag_part) here ∙ skip_step tag_part_step (x ++ back) behind (tag_part_at x back h) in
    let f = skip_found tag_part_step behind in
    omega (arith, ap width step, width_behind behind f.0 (scan.skip scan.tag_part behind) f.1, skip_most (unit_one class.is_letter_or_digit) rest back h.second.second)
tag_turn front back x y e h further (inr stops) =
    let rest = h.second.back in
    let here : front ++ back ≡ x ++ (y ++ back) = ap (λ v. v ++ back) e ∙ append_assoc x y back in
    let at : scan.tag_part (x ++ (y ++ back)) ≡ Some (y ++ back) = tag_part_at x (y ++ back) h ∙ ap (λ v. Some v) (skip_exact (unit_one class.is_letter_or_digit) rest (y ++ back) h.second.second (stops back)) in
    let step : scan.skip scan.tag_part (front ++ back) ≡ scan.skip scan.tag_part (y ++ back) = ap (scan.skip scan.tag_part) here ∙ skip_step tag_part_step (x ++ (y ++ back)) (y ++ back) at in
    omega (arith, ap width step, further)

tag_parts_most : (front back : List ℕ) → Repeat kind.TagPart front → width (scan.skip scan.tag_part (front ++ back)) ≤ width back
tag_parts_most front back (none e) =
    let f = skip_found tag_part_step back in
    let same : scan.skip scan.tag_part (front ++ back) ≡ scan.skip scan.tag_part back = ap (λ v. scan.skip scan.tag_part (v ++ back)) e in
    omega (arith, ap width same, width_behind back f.0 (scan.skip scan.tag_part back) f.1)
tag_parts_most front back (more x y e h rest) = tag_turn front back x y e h (tag_parts_most y back rest) (tag_begins y rest)

tag_parts_best : (text : List ℕ) → Best (Repeat kind.TagPart) text (Some (scan.skip scan.tag_part text))
tag_parts_best text = record {
  found = skip_found tag_part_step text;
  most = λ front back e h. omega (arith, ap (λ v. width (scan.skip scan.tag_part v)) e, tag_parts_most front back h);
}

tag_ends : Ends (Repeat kind.TagPart) (scan.one class.is_letter)
tag_ends front back (none e) = inl e
tag_ends front back (more x y e h rest) =
    inr (ap (λ v. scan.one class.is_letter (v ++ back)) e ∙ ap (scan.one class.is_letter) (append_assoc x y back)
    ∙ apart_then class.is_letter (class.is 45) (AtLeastOne (One class.is_letter_or_digit)) (char_apart class.is_letter 45 refl) x (y ++ back) h)

pub tag_best : (text : List ℕ) → Best kind.Tag text (scan.tag text)
unfolding scan.tag
tag_best text = best_then (unit_one (class.is 64)) (best_then (unit_one class.is_letter) (best_repeat_then (unit_one class.is_letter) tag_ends tag_parts_best)) text

-- ---- the parts that the code repeats

is_quote : (q : QuoteMark) → IsQuote (class.quote q)
is_quote Single = single
is_quote Double = double

pub text_unit : (q : QuoteMark) → IsUnit (kind.TextPart (class.quote q)) (scan.text_part (class.quote q))
text_unit q = text_part_unit (class.quote q) (is_quote q).plain

abbrev pub form_of : Part → List ℕ → Type 0
form_of part.Iri = kind.IriPart
form_of part.Name = Then (Repeat (kind.Is 46)) (One class.is_part_char)
form_of part.Local = Then (Repeat (kind.Is 46)) (Either (One class.is_local_char) kind.LocalEscape)
form_of part.Tag = kind.TagPart
form_of (part.Text q) = kind.TextPart (class.quote q)
form_of (part.Long q) = kind.Quoted (class.quote q)

pub part_step : (p : Part) → IsStep (form_of p) (scan.part_of p)
part_step part.Iri = step iri_part_unit
part_step part.Name = step name_part_unit
part_step part.Local = step local_part_unit
part_step part.Tag = tag_part_step
part_step (part.Text q) = step (text_unit q)
part_step (part.Long q) = step (quoted_unit (class.quote q) (is_quote q))

-- ---- no token is empty

then_some : (p : ℕ → Bool) (b : List ℕ → Type 0) (front : List ℕ) → Then (One p) b front → 0 < length front
then_some p b front h = omega (arith, (unit_one p).some h.front h.first, ap (λ (s : List ℕ). length s) h.joined, length-append h.front h.back)

behind_some : (a : List ℕ → Type 0) (p : ℕ → Bool) (b : List ℕ → Type 0) (front : List ℕ) → Then a (Then (One p) b) front → 0 < length front
behind_some a p b front h = omega (arith, then_some p b h.back h.second, ap (λ (s : List ℕ). length s) h.joined, length-append h.front h.back)

unsigned_some : (front : List ℕ) → kind.Unsigned front → 0 < length front
unsigned_some front h = elim h [
  | inl x ↦ behind_some (Repeat (One class.is_digit)) (class.is 46) (Then (One class.is_digit) (Then (Repeat (One class.is_digit)) (Maybe kind.Exponent))) front x
  | inr y ↦ then_some class.is_digit (Then (Repeat (One class.is_digit)) (Either kind.Exponent (Then (kind.Is 46) kind.Exponent))) front y
]

short_some : (quote : ℕ) (front : List ℕ) → kind.Short quote front → 0 < length front
short_some quote front h = then_some (class.is quote) (Then (Repeat (kind.TextPart quote)) (kind.Is quote)) front h

long_some : (quote : ℕ) (front : List ℕ) → kind.Long quote front → 0 < length front
long_some quote front h = omega (arith, (three_unit quote).some h.front h.first, ap (λ (s : List ℕ). length s) h.joined, length-append h.front h.back)

text_some : (front : List ℕ) → kind.Text front → 0 < length front
text_some front h = elim h [ inl s ↦ elim s [ inl x ↦ short_some 39 front x | inr y ↦ short_some 34 front y ] | inr l ↦ elim l [ inl x ↦ long_some 39 front x | inr y ↦ long_some 34 front y ] ]

mark_some : (front : List ℕ) → kind.Mark front → 0 < length front
mark_some front h = elim h [
  | inl a ↦ (unit_one class.is_mark).some front a
  | inr g ↦ elim g [
    | inl b ↦ then_some class.is_before_equal (kind.Is 61) front b
    | inr i ↦ elim i [
      | inl c ↦ then_some (class.is 38) (kind.Is 38) front c
      | inr j ↦ elim j [ inl d ↦ then_some (class.is 124) (kind.Is 124) front d | inr e ↦ then_some (class.is 94) (kind.Is 94) front e ]
    ]
  ]
]

pub token_some : (k : TokenKind) (front : List ℕ) → kind.IsToken k front → 0 < length front
token_some token.Iri front h = then_some (class.is 60) (Then (Repeat kind.IriPart) (kind.Is 62)) front h
token_some token.PrefixName front h = elim h [ inl x ↦ then_some (class.is 58) (Maybe kind.Local) front x | inr y ↦ then_some is_base_char (Then (kind.Dotted (One class.is_part_char)) kind.ColonLocal) front y ]
token_some token.Variable front h = then_some class.is_variable_mark (Then (One is_name_start) (Repeat (One is_name_char))) front h
token_some token.Blank front h = then_some (class.is 95) (Then (kind.Is 58) (Then (One is_name_start) (kind.Dotted (One class.is_part_char)))) front h
token_some token.Tag front h = then_some (class.is 64) (Then (One class.is_letter) (Then (Repeat (One class.is_letter)) (Repeat kind.TagPart))) front h
token_some token.Integer front h = then_some class.is_digit (Repeat (One class.is_digit)) front h
token_some token.Signed front h = then_some class.is_sign kind.Integer front h
token_some token.Decimal front h = elim h [ inl x ↦ unsigned_some front x | inr y ↦ then_some class.is_sign kind.Unsigned front y ]
token_some token.Text front h = text_some front h
token_some token.Word front h = then_some class.is_letter (Repeat (One class.is_word_char)) front h
token_some token.Mark front h = mark_some front h
