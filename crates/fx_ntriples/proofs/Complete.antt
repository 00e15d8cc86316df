-- What the forms say is read.
use Rattle.std.proofs.Common.{◌≡◌, ℕ, zero, suc, ◌+◌, ◌<◌, ◌==◌, Bool, true, false, cond, not, ◌&&◌, Option, Some, None, Ok, Err, List, [], ◌∷◌, ◌++◌, length, take, drop, refl, sym, ap, ◌∙◌, arith, append_assoc}
use Rattle.std.specs.List.{list_all, prefix_len, slice_split, onto_first}
use Rattle.std.specs.Char.{is_ascii_hexdigit, encode_utf8}
use Rattle.std.proofs.lemmas.Bool.{eqb-true}
use Rattle.std.proofs.lemmas.Bool.Decides.{nat_tests}
use Rattle.std.proofs.lemmas.Str.{is_utf8-from_IsUtf8}
use Rattle.std.proofs.lemmas.List.Splits.{length-slice_split}
use Rattle.fx_terms.specs.declared.terms.Term.{Term}
use Rattle.fx_terms.specs.declared.terms.Term.TheVariants as term
use Rattle.fx_terms.specs.declared.triples.Triple.{Triple}
use Rattle.fx_terms.specs.Literals.{LiteralParts, typed, tagged, is_tag, is_dash, are_tag_parts, is_letters, is_letters_or_digits, is_letter_or_digit}
use Rattle.fx_ntriples.specs.declared.quotes.Quote.{Quote}
use Rattle.fx_ntriples.specs.declared.quotes.Quote.TheVariants.{Iri, Text}
use Rattle.fx_rules.specs.Rule.{and_then}
use Rattle.fx_ntriples.specs.Quotes.{got, in_front, names, escape_at, body, is_plain, closing, hex_value, numbered, naming, short, may_name, IsEscape, letter, four, eight, IsBody, nothing, itself, escape}
use Rattle.fx_ntriples.specs.Reading.{is_blank, is_line_end, unblanked, iri, in_part, tag_len, if_literal, with_tag, untagged, literal, object, triple, ended, said, line, all, also, read_lines, read_document}
use Rattle.fx_ntriples.specs.Forms as form
use Rattle.fx_ntriples.proofs.Steps.{passed_over, whole_number}

pub both : (a b : Bool) → (a && b) ≡ true → (a ≡ true) × (b ≡ true)
both true b h = (refl, h)
both false b h = absurd (cc)

-- ---- what stands between signs

pub front_of : (xs ys : List ℕ) (n : ℕ) → length xs ≡ n → take n (xs ++ ys) ≡ xs
front_of [] ys zero e = refl
front_of [] ys (suc n) e = absurd (cc)
front_of (x ∷ xs) ys zero e = absurd (cc)
front_of (x ∷ xs) ys (suc n) e = ap (λ t. x ∷ t) (front_of xs ys n (omega arith))

pub back_of : (xs ys : List ℕ) (n : ℕ) → length xs ≡ n → drop n (xs ++ ys) ≡ ys
back_of [] ys zero e = refl
back_of [] ys (suc n) e = absurd (cc)
back_of (x ∷ xs) ys zero e = absurd (cc)
back_of (x ∷ xs) ys (suc n) e = back_of xs ys n (omega arith)

pub all_pass : (p : ℕ → Bool) (xs : List ℕ) → list_all p xs ≡ true → prefix_len p xs ≡ length xs
all_pass p [] h = refl
all_pass p (x ∷ xs) h = let b = both (p x) (list_all p xs) h in rw (b.0, all_pass p xs b.1) (omega arith)

number_reads : (q : Quote) (ds rest : List ℕ) (n : ℕ) → length ds ≡ n → list_all is_ascii_hexdigit ds ≡ true → may_name q (hex_value 0 ds) ≡ true → numbered q n (ds ++ rest) ≡ names (encode_utf8 (hex_value 0 ds)) (n + 1)
number_reads q ds rest n e h m =
    let front : take n (ds ++ rest) ≡ ds = front_of ds rest n e in
    let count : prefix_len is_ascii_hexdigit (take n (ds ++ rest)) ≡ n = ap (prefix_len is_ascii_hexdigit) front ∙ all_pass is_ascii_hexdigit ds h ∙ e in
    whole_number q n (ds ++ rest) count ∙ ap (λ t. naming q (hex_value 0 t) (n + 1)) front ∙ rw m refl

no_number : (q : Quote) (b c : ℕ) → short q b ≡ Some c → ((b == 117) ≡ false) × ((b == 85) ≡ false)
no_number Iri b c h = absurd (cc)
no_number Text b c h = (grind (arith, nat_tests), grind (arith, nat_tests))

pub escape_reads : (q : Quote) (e c rest : List ℕ) → IsEscape q e c → escape_at q (e ++ rest) ≡ names c (length e)
unfolding escape_at
escape_reads q _ _ rest (letter {q = r} {b} {c} h) = let n = no_number r b c h in rw (n.0, n.1, h) refl
escape_reads q _ _ rest (four {q = r} {ds} e h m) = let long : 4 + 1 ≡ suc (length ds) = omega arith in number_reads r ds rest 4 e h m ∙ ap (names (encode_utf8 (hex_value 0 ds))) long
escape_reads q _ _ rest (eight {q = r} {ds} e h m) = let long : 8 + 1 ≡ suc (length ds) = omega arith in number_reads r ds rest 8 e h m ∙ ap (names (encode_utf8 (hex_value 0 ds))) long

closing_plain : (q : Quote) → is_plain q (closing q) ≡ false
closing_plain Iri = refl
closing_plain Text = refl

same_test : (n : ℕ) → (n == n) ≡ true
same_test n = grind (arith, nat_tests)

pub backslash_plain : (q : Quote) → is_plain q 92 ≡ false
backslash_plain Iri = refl
backslash_plain Text = refl

pub backslash_closing : (q : Quote) → (92 == closing q) ≡ false
backslash_closing Iri = refl
backslash_closing Text = refl

body_closes : (q : Quote) (rest : List ℕ) → body q 0 (closing q ∷ rest) ≡ got [] rest
unfolding body
body_closes q rest = rw (closing_plain q, same_test (closing q)) refl

pub body_plain : (q : Quote) (b : ℕ) (s : List ℕ) → is_plain q b ≡ true → body q 0 (b ∷ s) ≡ in_front (b ∷ []) (body q 0 s)
unfolding body
body_plain q b s h = rw h refl

pub body_escapes : (q : Quote) (s c : List ℕ) (n : ℕ) → escape_at q s ≡ names c n → body q 0 (92 ∷ s) ≡ in_front c (body q 0 (drop n s))
unfolding body
body_escapes q s c n e = rw (backslash_plain q, backslash_closing q, e) (ap (in_front c) (passed_over q n s))

pub body_reads : (q : Quote) (s t rest : List ℕ) → IsBody q s t → body q 0 (s ++ closing q ∷ rest) ≡ got t rest
body_reads q _ _ rest (nothing {q = r}) = body_closes r rest
body_reads q _ _ rest (itself {q = r} {b} {s} {t} h more) = body_plain r b (s ++ closing r ∷ rest) h ∙ ap (in_front (b ∷ [])) (body_reads r s t rest more)
body_reads q _ _ rest (escape {q = r} {e} {c} {s} {t} h more) =
    ap (λ x. body r 0 (92 ∷ x)) (append_assoc e s (closing r ∷ rest)) ∙ body_escapes r (e ++ (s ++ closing r ∷ rest)) c (length e) (escape_reads r e c (s ++ closing r ∷ rest) h)
    ∙ ap (λ x. in_front c (body r 0 x)) (back_of e (s ++ closing r ∷ rest) (length e) refl) ∙ ap (in_front c) (body_reads r s t rest more)

-- ---- terms

pub iri_reads : (s t rest : List ℕ) → form.IsIriRef s t → iri (s ++ rest) ≡ got t rest
iri_reads _ _ rest (form.iriref {s} {t} h e) =
    ap (λ x. iri (60 ∷ x)) (append_assoc s (62 ∷ []) rest) ∙ rw (body_reads Iri s t rest h, e) refl

blank_step : (b : ℕ) (s : List ℕ) → is_blank b ≡ true → unblanked (b ∷ s) ≡ unblanked s
blank_step b s h = rw h refl

pub blanks_read : (a s : List ℕ) → form.AreBlanks a → unblanked (a ++ s) ≡ unblanked s
blanks_read [] s h = refl
blanks_read (b ∷ a) s h = let t = both (is_blank b) (list_all is_blank a) h in blank_step b (a ++ s) t.0 ∙ blanks_read a s t.1

pub iri_unblanked : (s t rest : List ℕ) → form.IsIriRef s t → unblanked (s ++ rest) ≡ s ++ rest
iri_unblanked _ _ rest (form.iriref {s} {t} h e) = refl

-- ---- tags

unfoldable pub Parts : Bool → Bool → List (List ℕ) → Type 0
Parts first empty [] = ⊥
Parts first empty (p ∷ ps) = (empty ≡ true → 0 < length p) × (list_all (in_part first) p ≡ true) × (list_all is_letters_or_digits ps ≡ true)

some_length : (n : ℕ) → not (n == 0) ≡ true → 0 < n
some_length n h = grind (arith, nat_tests)

pub parts_of_tag : (ps : List (List ℕ)) → are_tag_parts ps ≡ true → Parts true true ps
unfolding Parts
parts_of_tag [] h = absurd (cc)
parts_of_tag (p ∷ ps) h =
    let a = both (is_letters p) (list_all is_letters_or_digits ps) h in
    let b = both (not (length p == 0)) (list_all (in_part true) p) a.0 in
    (λ e. some_length (length p) b.0, b.1, a.1)

pub later_parts : (ps : List (List ℕ)) → 0 < length ps → list_all is_letters_or_digits ps ≡ true → Parts false true ps
unfolding Parts
later_parts [] l h = absurd (omega arith)
later_parts (p ∷ ps) l h =
    let a = both (is_letters_or_digits p) (list_all is_letters_or_digits ps) h in
    let b = both (not (length p == 0)) (list_all (in_part false) p) a.0 in
    (λ e. some_length (length p) b.0, b.1, a.1)

-- what no tag goes on with
pub NoTag : List ℕ → Type 0
NoTag [] = Unit {0}
NoTag (b ∷ s) = (is_letter_or_digit b ≡ false) × ((b == 45) ≡ false)

pub no_tag_nil : NoTag []
unfolding NoTag
no_tag_nil = tt

no_part : (first : Bool) (b : ℕ) → is_letter_or_digit b ≡ false → in_part first b ≡ false
no_part true b h = grind (arith, nat_tests)
no_part false b h = h

tag_stops : (first empty : Bool) (rest : List ℕ) → NoTag rest → tag_len first empty rest ≡ 0
unfolding tag_len NoTag
tag_stops first empty [] h = refl
tag_stops first empty (b ∷ s) h = rw (no_part first b h.0, h.1) refl

dash_part : (first : Bool) → in_part first 45 ≡ false
dash_part true = refl
dash_part false = refl

tag_dash : (first : Bool) (s : List ℕ) → tag_len first false (45 ∷ s) ≡ 1 + tag_len false true s
unfolding tag_len
tag_dash first s = rw (dash_part first) refl

tag_part : (first empty : Bool) (b : ℕ) (s : List ℕ) → in_part first b ≡ true → tag_len first empty (b ∷ s) ≡ 1 + tag_len first false s
unfolding tag_len
tag_part first empty b s h = rw h refl

tag_step : (first empty : Bool) (b : ℕ) (t rest : List ℕ) (parts : List (List ℕ)) (v : Bool) → (b == 45) ≡ v → 0 < length parts → Parts first empty (cond v ([] ∷ parts) (onto_first b parts)) →
    ((f e : Bool) → Parts f e parts → tag_len f e (t ++ rest) ≡ length t) → tag_len first empty (b ∷ (t ++ rest)) ≡ suc (length t)
unfolding Parts
tag_step first true b t rest parts true d l h ih = absurd (let none : 0 < 0 = h.0 refl in omega arith)
tag_step first false b t rest parts true d l h ih =
    ap (λ x. tag_len first false (x ∷ (t ++ rest))) (eqb-true b 45 d) ∙ tag_dash first (t ++ rest) ∙ ap (λ n. 1 + n) (ih false true (later_parts parts l h.2)) ∙ omega arith
tag_step first empty b t rest [] false d l h ih = absurd (omega arith)
tag_step first empty b t rest (p ∷ ps) false d l h ih =
    let a = both (in_part first b) (list_all (in_part first) p) h.1 in
    tag_part first empty b (t ++ rest) a.0 ∙ ap (λ n. 1 + n) (ih first false (λ e. absurd (cc), a.1, h.2)) ∙ omega arith

pub tag_reads : (first empty : Bool) (t rest : List ℕ) → NoTag rest → Parts first empty (slice_split is_dash t) → tag_len first empty (t ++ rest) ≡ length t
tag_reads first empty [] rest n h = tag_stops first empty rest n
tag_reads first empty (b ∷ t) rest n h =
    tag_step first empty b t rest (slice_split is_dash t) (b == 45) refl (omega (arith, length-slice_split is_dash t)) h (λ f e k. tag_reads f e t rest n k)

chosen : {A B : Type 0} (v : Bool) (a : A) (b : B) (x : A) → cond v (Ok a) (Err b) ≡ Ok x → v ≡ true
chosen true a b x h = refl
chosen false a b x h = absurd (cc)

tag_is_read : (form_text tag rest : List ℕ) (l : LiteralParts) → NoTag rest → tagged form_text tag ≡ Ok l → with_tag form_text (tag ++ rest) ≡ got (term.Literal l) rest
tag_is_read form_text tag rest l n h =
    let t : is_tag tag ≡ true = chosen (is_tag tag) _ _ l h in
    let size : tag_len true true (tag ++ rest) ≡ length tag = tag_reads true true tag rest n (parts_of_tag (slice_split is_dash tag) t) in
    rw (size, front_of tag rest (length tag) refl, back_of tag rest (length tag) refl, h) refl

-- ---- literals and objects

pub string_object : (s t rest : List ℕ) → form.IsString s t → object (s ++ rest) ≡ literal t rest
string_object _ _ rest (form.quoted {s} {t} h) = ap (λ x. object (34 ∷ x)) (append_assoc s (34 ∷ []) rest) ∙ rw (body_reads Text s t rest h) refl

-- what stands behind blanks and is no @ and no blank
pub not_at : (form_text a : List ℕ) (b : ℕ) (rest : List ℕ) → form.AreBlanks a → is_blank b ≡ false → (b == 64) ≡ false → literal form_text (a ++ b ∷ rest) ≡ untagged form_text (b ∷ rest)
not_at form_text [] b rest h n m = rw (m, n) refl
not_at form_text (c ∷ a) b rest h n m =
    let t = both (is_blank c) (list_all is_blank a) h in
    let other : (c == 64) ≡ false = (let k = t.0 in grind (arith, nat_tests)) in
    let here : unblanked (b ∷ rest) ≡ b ∷ rest = rw n refl in
    rw other (ap (untagged form_text) (blank_step c (a ++ b ∷ rest) t.0 ∙ blanks_read a (b ∷ rest) t.1 ∙ here))

no_tag : (d rest : List ℕ) → form.AreBlanks d → NoTag (d ++ 46 ∷ rest)
unfolding NoTag
no_tag [] rest h = (refl, refl)
no_tag (b ∷ d) rest h =
    let t = (both (is_blank b) (list_all is_blank d) h).0 in
    (grind (arith, nat_tests), grind (arith, nat_tests))

pub object_reads : (o : List ℕ) (obj : Term) (d rest : List ℕ) → form.IsObject o obj → form.AreBlanks d → (r : List ℕ) × (object (o ++ (d ++ 46 ∷ rest)) ≡ got obj r) × (unblanked r ≡ 46 ∷ rest)
object_reads _ _ d rest (form.reference {s} {t} (form.iriref {s = i} {t = u} h e)) k =
    (d ++ 46 ∷ rest, ap (λ g. and_then g (λ t r. got (term.Iri t) r)) (iri_reads (60 ∷ (i ++ 62 ∷ [])) u (d ++ 46 ∷ rest) (form.iriref h e)), blanks_read d (46 ∷ rest) k)
object_reads _ _ d rest (form.alone {s} {form = f} h) k = (46 ∷ rest, string_object s f (d ++ 46 ∷ rest) h ∙ not_at f d 46 rest k refl refl, refl)
object_reads _ _ d rest (form.with_tag {s} {form = f} tag {l} h e) k =
    (d ++ 46 ∷ rest, ap object (append_assoc s (64 ∷ tag) (d ++ 46 ∷ rest)) ∙ string_object s f (64 ∷ (tag ++ (d ++ 46 ∷ rest))) h ∙ tag_is_read f tag (d ++ 46 ∷ rest) l (no_tag d rest k) e, blanks_read d (46 ∷ rest) k)
object_reads _ _ d rest (form.with_datatype {s} {form = f} {datatype} a b dt {l} h x y i e) k = (
  d ++ 46 ∷ rest,
  ap object (append_assoc s (a ++ 94 ∷ 94 ∷ (b ++ dt)) (d ++ 46 ∷ rest)) ∙ string_object s f ((a ++ 94 ∷ 94 ∷ (b ++ dt)) ++ (d ++ 46 ∷ rest)) h
      ∙ ap (literal f) (append_assoc a (94 ∷ 94 ∷ (b ++ dt)) (d ++ 46 ∷ rest)) ∙ not_at f a 94 (94 ∷ ((b ++ dt) ++ (d ++ 46 ∷ rest))) x refl refl
      ∙ ap (λ s. and_then (iri s) (λ datatype r. if_literal s r (typed f datatype))) (ap unblanked (append_assoc b dt (d ++ 46 ∷ rest)) ∙ blanks_read b (dt ++ (d ++ 46 ∷ rest)) y ∙ iri_unblanked dt datatype (d ++ 46 ∷ rest) i)
      ∙ rw (iri_reads dt datatype (d ++ 46 ∷ rest) i, e) refl,
  blanks_read d (46 ∷ rest) k,
)

object_unblanked : (o : List ℕ) (obj : Term) (rest : List ℕ) → form.IsObject o obj → unblanked (o ++ rest) ≡ o ++ rest
object_unblanked _ _ rest (form.reference (form.iriref h e)) = refl
object_unblanked _ _ rest (form.alone (form.quoted h)) = refl
object_unblanked _ _ rest (form.with_tag tag (form.quoted h) e) = refl
object_unblanked _ _ rest (form.with_datatype a b d (form.quoted h) x y i e) = refl

-- ---- lines and documents

comment_ends : (t : Triple) (c : List ℕ) → form.IsComment c → ended (Some t) (unblanked c) ≡ got (Some t) []
comment_ends t [] h = refl
comment_ends t (b ∷ s) h = ap (λ x. ended (Some t) (unblanked (x ∷ s))) h

comment_says : (c : List ℕ) → form.IsComment c → said (unblanked c) ≡ got None []
comment_says [] h = refl
comment_says (b ∷ s) h = ap (λ x. said (unblanked (x ∷ s))) h

pub triple_reads : (b c d s p o rest sub pre : List ℕ) (obj : Term) → form.AreBlanks b → form.AreBlanks c → form.AreBlanks d → form.IsIriRef s sub → form.IsIriRef p pre → form.IsObject o obj →
    triple (s ++ (b ++ (p ++ (c ++ (o ++ (d ++ 46 ∷ rest)))))) ≡ got (record { subject = sub; predicate = pre; object = obj }) rest
triple_reads b c d _ p o rest _ pre obj hb hc hd (form.iriref {s} {t} x e) hp ho =
    let after = p ++ (c ++ (o ++ (d ++ 46 ∷ rest))) in
    let g = object_reads o obj d rest ho hd in
    rw (
      iri_reads (60 ∷ (s ++ 62 ∷ [])) t (b ++ after) (form.iriref x e),
      blanks_read b after hb,
      iri_unblanked p pre (c ++ (o ++ (d ++ 46 ∷ rest))) hp,
      iri_reads p pre (c ++ (o ++ (d ++ 46 ∷ rest))) hp,
      blanks_read c (o ++ (d ++ 46 ∷ rest)) hc,
      object_unblanked o obj (d ++ 46 ∷ rest) ho,
      g.1,
      g.2,
    ) refl

said_triple : (s t rest : List ℕ) → form.IsIriRef s t → said (s ++ rest) ≡ and_then (triple (s ++ rest)) (λ t r. ended (Some t) (unblanked r))
said_triple _ _ rest (form.iriref x e) = refl

pub line_reads : (l : List ℕ) (t : Option Triple) → form.IsLine l t → line l ≡ got t []
unfolding line
line_reads _ _ (form.empty a c x y) = ap said (blanks_read a c x) ∙ comment_says c y
line_reads _ _ (form.says a b c d e f s p o {subject = sub} {predicate = pre} {object = obj} ha hb hc hd he hf hs hp ho) =
    let after = b ++ (p ++ (c ++ (o ++ (d ++ 46 ∷ (e ++ f))))) in
    ap said (blanks_read a (s ++ after) ha ∙ iri_unblanked s sub after hs) ∙ said_triple s sub after hs
    ∙ ap (λ g. and_then g (λ t r. ended (Some t) (unblanked r))) (triple_reads b c d s p o (e ++ f) sub pre obj hb hc hd hs hp ho)
    ∙ ap (ended (Some (record { subject = sub; predicate = pre; object = obj }))) (blanks_read e f he) ∙ comment_ends (record { subject = sub; predicate = pre; object = obj }) f hf

pub lines_read : (start : ℕ) (ls : List (List ℕ)) (ts : List Triple) → form.AreLines ls ts → read_lines start ls ≡ all ts
lines_read start _ _ form.none = refl
lines_read start _ _ (form.silent {l} {ls} {ts} h others) = rw (line_reads l None h) (lines_read (start + length l + 1) ls ts others)
lines_read start _ _ (form.more {l} {ls} {t} {ts} h others) = rw (line_reads l (Some t) h) (ap (also (Some t)) (lines_read (start + length l + 1) ls ts others))

pub document_reads : (bytes : List ℕ) (g : List Triple) → form.IsDocument bytes g → read_document bytes ≡ Ok g
document_reads bytes g h = rw (is_utf8-from_IsUtf8 bytes h.utf8, lines_read 0 (slice_split is_line_end bytes) h.triples h.lines) (ap (λ x. Ok x) (sym h.holds))
