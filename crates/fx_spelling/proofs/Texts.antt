-- Literals of a printed query read as their tokens.
use Rattle.std.proofs.Common.{◌≡◌, ℕ, zero, suc, ◌+◌, ◌<◌, ◌≤◌, Bool, true, false, cond, not, List, [], ◌∷◌, ◌++◌, length, get_or, Option, Some, None, refl, sym, ap, ◌∙◌, subst, arith, append_assoc, append-nil, length-append, inl, inr, nat_lt}
use Rattle.std.specs.Prelude.{◌==◌, All, encode_utf8}
use Rattle.std.specs.List.{list_all, flat_map, slice_split, join_with_byte}
use Rattle.std.specs.Str.{chars, IsUtf8, encode_utf8_all, IsAscii}
use Rattle.std.proofs.lemmas.Bool.{and_from, eq-eqb, lt-ltb, eqb-true, ne_eqb, and_parts, cases_lt}
use Rattle.std.proofs.lemmas.Bool.Decides.{nat_tests}
use Rattle.std.proofs.lemmas.List.Elements.{All-head, All-tail, All-from_get_or}
use Rattle.std.proofs.lemmas.List.Concat.{flat_map-append}
use Rattle.std.proofs.lemmas.List.Splits.{join_with_byte-slice_split}
use Rattle.std.proofs.lemmas.Str.{IsUtf8-append, IsUtf8-from_ascii, chars-IsAscii, chars-encodes, encodes-chars, encodes-append, scalars-chars, encode_ascii, inside_one, encodes-IsAscii}
use lib.Utf8.{scalar, scalars}
use Rattle.fx_terms.specs.Literals.{is_dash, is_letters, is_letters_or_digits, are_tag_parts, is_tag}
use Rattle.fx_terms.specs.Writing.{written_byte, written_form}
use Rattle.fx_tokens.specs.Classes as class
use Rattle.fx_tokens.specs.Decoding.{next, decoded, unescaped, escape, between_quotes, is_long, behind_first, first}
use Rattle.fx_tokens.specs.Forms.{Repeat, none, more}
use Rattle.fx_tokens.specs.Kinds as form
use Rattle.fx_tokens.specs.Reads.{BeginsToken}
use Rattle.fx_tokens.specs.Scan as scan
use Rattle.fx_tokens.specs.declared.TokenKind.TheVariants as kind
use Rattle.fx_tokens.specs.declared.decoding.Closing.TheVariants.{One as OneSign, Three}
use Rattle.fx_tokens.specs.declared.kinds.Part.TheVariants as part
use Rattle.fx_tokens.proofs.Readers.{skip_step, skip_end, skip_exact}
use Rattle.fx_tokens.proofs.KindLaws.{part_step, text_part_unit}
use Rattle.fx_grammar.specs.declared.kinds.Kind.TheVariants as k
use Rattle.fx_grammar.specs.declared.kinds.Token.TheVariants as token
use Rattle.fx_spelling.proofs.Pieces.{Reading}
use Rattle.fx_spelling.proofs.Fixed.{is_ascii, longer_mark}
use Rattle.fx_spelling.proofs.Words.{Ends, ends_by, chars_end, ascii_of, low_chars, low_utf8, behind_low, skip_ones, takes_one, closed_chars, shorter_chars}

-- ---- how a character is written

-- escaped, or as it is
written_cases : (P : List ℕ → Type 0) (c : ℕ) → (c ≡ 34 → P (92 ∷ 34 ∷ [])) → (c ≡ 92 → P (92 ∷ 92 ∷ [])) → (c ≡ 10 → P (92 ∷ 110 ∷ [])) → (c ≡ 13 → P (92 ∷ 114 ∷ []))
    → ((c == 34) ≡ false → (c == 92) ≡ false → (c == 10) ≡ false → (c == 13) ≡ false → P (c ∷ [])) → P (written_byte c)
written_cases P c a b d e f = go (c == 34) (c == 92) (c == 10) (c == 13) refl refl refl refl
  where
    go : (w x y z : Bool) → (c == 34) ≡ w → (c == 92) ≡ x → (c == 10) ≡ y → (c == 13) ≡ z → P (cond w (92 ∷ 34 ∷ []) (cond x (92 ∷ 92 ∷ []) (cond y (92 ∷ 110 ∷ []) (cond z (92 ∷ 114 ∷ []) (c ∷ [])))))
    go true x y z i j l m = a (eqb-true c 34 i)
    go false true y z i j l m = b (eqb-true c 92 j)
    go false false true z i j l m = d (eqb-true c 10 l)
    go false false false true i j l m = e (eqb-true c 13 m)
    go false false false false i j l m = f i j l m

written_low : (c : ℕ) → c < 128 → IsAscii (written_byte c)
written_low c h =
    written_cases IsAscii c (λ e. ascii_of (92 ∷ 34 ∷ []) refl) (λ e. ascii_of (92 ∷ 92 ∷ []) refl) (λ e. ascii_of (92 ∷ 110 ∷ []) refl) (λ e. ascii_of (92 ∷ 114 ∷ []) refl)
    (λ i j l m. ascii_of (c ∷ []) (and_from (nat_lt c 128) true (lt-ltb c 128 h) refl))

written_high : (c : ℕ) → 128 ≤ c → written_byte c ≡ c ∷ []
written_high c h =
    written_cases (λ v. v ≡ c ∷ []) c (λ e. absurd (omega (arith, h, e))) (λ e. absurd (omega (arith, h, e))) (λ e. absurd (omega (arith, h, e))) (λ e. absurd (omega (arith, h, e))) (λ i j l m. refl)

written_scalars : (c : ℕ) (rest : List ℕ) → scalar c ≡ true → scalars rest ≡ true → scalars (written_byte c ++ rest) ≡ true
written_scalars c rest h s = written_cases (λ v. scalars (v ++ rest) ≡ true) c (λ e. s) (λ e. s) (λ e. s) (λ e. s) (λ i j l m. and_from (scalar c) (scalars rest) h s)

all_written_scalars : (cs : List ℕ) → scalars cs ≡ true → scalars (flat_map written_byte cs) ≡ true
all_written_scalars [] h = refl
all_written_scalars (c ∷ cs) h = let t = and_parts (scalar c) (scalars cs) h in written_scalars c (flat_map written_byte cs) t.0 (all_written_scalars cs t.1)

-- no byte of a character beyond ASCII is one of ASCII
high_bytes : (c : ℕ) → 128 ≤ c → All (λ b. 128 ≤ b) (encode_utf8 c)
high_bytes c h = All-from_get_or (λ b. 128 ≤ b) (encode_utf8 c) 0 (λ i l. elim (cases_lt (get_or (encode_utf8 c) i 0) 128) [
  | inl low ↦ absurd (omega (arith, h, low, inside_one c [] (encode_utf8 c) i (sym (append-nil (encode_utf8 c))) l low))
  | inr high ↦ high
])

high_written : (bytes : List ℕ) → All (λ b. 128 ≤ b) bytes → flat_map written_byte bytes ≡ bytes
high_written [] h = refl
high_written (b ∷ bytes) h = ap (λ v. v ++ flat_map written_byte bytes) (written_high b (All-head (λ b. 128 ≤ b) b bytes h)) ∙ ap (λ v. b ∷ v) (high_written bytes (All-tail (λ b. 128 ≤ b) b bytes h))

one_written : (c : ℕ) → flat_map written_byte (encode_utf8 c) ≡ encode_utf8_all (written_byte c)
one_written c = elim (cases_lt c 128) [
  | inl l ↦ ap (flat_map written_byte) (encode_ascii c l) ∙ append-nil (written_byte c) ∙ sym (encodes-IsAscii (written_byte c) (written_low c l))
  | inr h ↦ high_written (encode_utf8 c) (high_bytes c h) ∙ sym (append-nil (encode_utf8 c)) ∙ ap encode_utf8_all (sym (written_high c h))
]

-- bytes are escaped as characters are
written_bytes : (cs : List ℕ) → flat_map written_byte (encode_utf8_all cs) ≡ encode_utf8_all (flat_map written_byte cs)
written_bytes [] = refl
written_bytes (c ∷ cs) =
    flat_map-append written_byte (encode_utf8 c) (encode_utf8_all cs) ∙ ap (λ v. v ++ flat_map written_byte (encode_utf8_all cs)) (one_written c) ∙ ap (λ v. encode_utf8_all (written_byte c) ++ v) (written_bytes cs)
    ∙ sym (encodes-append (written_byte c) (flat_map written_byte cs))

body_is : (text : List ℕ) → IsUtf8 text → encode_utf8_all (flat_map written_byte (chars text)) ≡ flat_map written_byte text
body_is text u = sym (written_bytes (chars text)) ∙ ap (flat_map written_byte) (encodes-chars text u)

body_utf8 : (text : List ℕ) → IsUtf8 text → IsUtf8 (flat_map written_byte text)
body_utf8 text u = (flat_map written_byte (chars text), (all_written_scalars (chars text) (scalars-chars text u), body_is text u))

body_chars : (text : List ℕ) → IsUtf8 text → chars (flat_map written_byte text) ≡ flat_map written_byte (chars text)
body_chars text u = ap chars (sym (body_is text u)) ∙ chars-encodes (flat_map written_byte (chars text)) (all_written_scalars (chars text) (scalars-chars text u))

-- ---- what is read of it

escape_part : (c : ℕ) → class.is_escape_letter c ≡ true → form.TextPart 34 (92 ∷ c ∷ [])
escape_part c h = inr (record { front = 92 ∷ []; back = c ∷ []; joined = refl; first = record { character = 92; alone = refl; holds = refl }; second = inl (record { character = c; alone = refl; holds = h }) })

body_parts : (cs : List ℕ) → Repeat (form.TextPart 34) (flat_map written_byte cs)
body_parts [] = none refl
body_parts (c ∷ cs) =
    let rest = body_parts cs in
    let behind = flat_map written_byte cs in
    written_cases (λ v. Repeat (form.TextPart 34) (v ++ behind)) c
    (λ e. more (92 ∷ 34 ∷ []) behind refl (escape_part 34 refl) rest) (λ e. more (92 ∷ 92 ∷ []) behind refl (escape_part 92 refl) rest) (λ e. more (92 ∷ 110 ∷ []) behind refl (escape_part 110 refl) rest) (λ e. more (92 ∷ 114 ∷ []) behind refl (escape_part 114 refl) rest)
    (λ i j l m. more (c ∷ []) behind refl (inl (record { character = c; alone = refl; holds = rw (i, j, l, m) refl })) rest)

body_unescaped : (n : ℕ) (cs rest : List ℕ) → length (flat_map written_byte cs) < n → unescaped (OneSign 34) n (flat_map written_byte cs ++ 34 ∷ rest) ≡ cs
unfolding unescaped escape
body_unescaped zero cs rest h = absurd (omega (arith, h))
body_unescaped (suc n) [] rest h = refl
body_unescaped (suc n) (c ∷ cs) rest h =
    let behind = flat_map written_byte cs in
    let further = body_unescaped n cs rest in
    let same : length (written_byte c ++ behind) ≡ length (written_byte c) + length behind = length-append (written_byte c) behind in
    written_cases (λ v. length (v ++ behind) < suc n → unescaped (OneSign 34) (suc n) ((v ++ behind) ++ 34 ∷ rest) ≡ c ∷ cs) c
    (λ e l. ap (λ v. v ∷ unescaped (OneSign 34) n (behind ++ 34 ∷ rest)) (sym e) ∙ ap (λ v. c ∷ v) (further (omega (arith, l))))
    (λ e l. ap (λ v. v ∷ unescaped (OneSign 34) n (behind ++ 34 ∷ rest)) (sym e) ∙ ap (λ v. c ∷ v) (further (omega (arith, l))))
    (λ e l. ap (λ v. v ∷ unescaped (OneSign 34) n (behind ++ 34 ∷ rest)) (sym e) ∙ ap (λ v. c ∷ v) (further (omega (arith, l))))
    (λ e l. ap (λ v. v ∷ unescaped (OneSign 34) n (behind ++ 34 ∷ rest)) (sym e) ∙ ap (λ v. c ∷ v) (further (omega (arith, l))))
    (λ i j x y l. ap (λ (b : Bool). cond b [] ((next c (behind ++ 34 ∷ rest)).0 ∷ unescaped (OneSign 34) n (next c (behind ++ 34 ∷ rest)).1)) i
    ∙ ap (λ (b : Bool). (cond b (escape (behind ++ 34 ∷ rest)) (c, behind ++ 34 ∷ rest)).0 ∷ unescaped (OneSign 34) n (cond b (escape (behind ++ 34 ∷ rest)) (c, behind ++ 34 ∷ rest)).1) j
    ∙ ap (λ v. c ∷ v) (further (omega (arith, l)))) h

-- no third quote stands behind the first
no_third : (cs rest : List ℕ) → scan.is 34 rest ≡ None → scan.and_then (scan.is 34 (flat_map written_byte cs ++ 34 ∷ rest)) (scan.is 34) ≡ None
unfolding scan.one
no_third [] rest h = h
no_third (c ∷ cs) rest h =
    let behind = flat_map written_byte cs in
    written_cases (λ v. scan.and_then (scan.is 34 ((v ++ behind) ++ 34 ∷ rest)) (scan.is 34) ≡ None) c (λ e. refl) (λ e. refl) (λ e. refl) (λ e. refl)
    (λ i j x y. ap (λ (b : Bool). scan.and_then (cond b (Some (behind ++ 34 ∷ rest)) None) (scan.is 34)) i)

quoted_found : (cs rest : List ℕ) → scan.short 34 (34 ∷ (flat_map written_byte cs ++ 34 ∷ rest)) ≡ Some rest
unfolding scan.short scan.one scan.text_part scan.escape
quoted_found cs rest = ap (scan.is 34) (skip_exact (text_part_unit 34 refl) (flat_map written_byte cs) (34 ∷ rest) (body_parts cs) refl)

long_found : (text : List ℕ) → scan.and_then (scan.is 34 text) (scan.is 34) ≡ None → scan.long 34 (34 ∷ text) ≡ None
unfolding scan.long scan.three scan.one
long_found text h = ap (λ (v : Option (List ℕ)). scan.and_then v (λ rest. scan.three 34 (scan.skip (scan.quoted 34) rest))) h

-- what the other kinds leave of a text that begins with a quote
text_first : (text : List ℕ) (o p : Option (List ℕ)) → scan.short 34 (34 ∷ text) ≡ o → scan.long 34 (34 ∷ text) ≡ p → scan.longest (34 ∷ text) ≡ scan.better (scan.better (scan.better None kind.Text (scan.longer (scan.longer None o) (scan.longer None p))) kind.Word None) kind.Mark None
unfolding scan.longest scan.early scan.iri scan.iri_part scan.prefix_name scan.colon_local scan.long_prefix scan.variable scan.blank scan.tag scan.tag_part scan.signed scan.exponent scan.pointed scan.dot_exponent scan.powered scan.unsigned scan.decimal scan.short scan.long scan.three scan.string scan.word scan.pair scan.mark scan.one scan.skip
text_first text o p e f =
    ap (λ (v : Option (List ℕ)). scan.better (scan.better (scan.better None kind.Text (scan.longer (scan.longer None v) (scan.longer None (scan.long 34 (34 ∷ text))))) kind.Word None) kind.Mark None) e
    ∙ ap (λ (v : Option (List ℕ)). scan.better (scan.better (scan.better None kind.Text (scan.longer (scan.longer None o) (scan.longer None v))) kind.Word None) kind.Mark None) f

text_reads : (cs rest : List ℕ) → scan.is 34 rest ≡ None → scan.longest (34 ∷ (flat_map written_byte cs ++ 34 ∷ rest)) ≡ Some (kind.Text, rest)
text_reads cs rest h =
    text_first (flat_map written_byte cs ++ 34 ∷ rest) (Some rest) None (quoted_found cs rest) (long_found (flat_map written_byte cs ++ 34 ∷ rest) (no_third cs rest h))

third : (b : ℕ) (text rest : List ℕ) → (b == 34) ≡ false → is_long (34 ∷ b ∷ (text ++ 34 ∷ rest)) ≡ false
third b [] rest h = ne_eqb 34 b (λ e. absurd (let f = eq-eqb b 34 (sym e) in cc (f, h)))
third b (c ∷ text) rest h = ne_eqb 34 b (λ e. absurd (let f = eq-eqb b 34 (sym e) in cc (f, h)))

not_long : (form : List ℕ) → is_long (34 ∷ (flat_map written_byte form ++ 34 ∷ [])) ≡ false
not_long [] = refl
not_long (b ∷ form) =
    let behind = flat_map written_byte form in
    written_cases (λ v. is_long (34 ∷ ((v ++ behind) ++ 34 ∷ [])) ≡ false) b (λ e. refl) (λ e. refl) (λ e. refl) (λ e. refl) (λ i j x y. third b behind [] i)

inner_chars : (text : List ℕ) → IsUtf8 text → chars (flat_map written_byte text ++ 34 ∷ []) ≡ flat_map written_byte (chars text) ++ 34 ∷ []
inner_chars text u = closed_chars (flat_map written_byte text) 34 (body_utf8 text u) (omega arith) ∙ ap (λ v. v ++ 34 ∷ []) (body_chars text u)

form_decoded : (text : List ℕ) → IsUtf8 text → decoded (OneSign 34) (flat_map written_byte text ++ 34 ∷ []) ≡ text
form_decoded text u =
    let body = flat_map written_byte text in
    let long : length (flat_map written_byte (chars text)) < length (body ++ 34 ∷ []) = omega (arith, shorter_chars body 34 (body_utf8 text u), ap (λ (v : List ℕ). length v) (body_chars text u)) in
    ap (λ (v : List ℕ). encode_utf8_all (unescaped (OneSign 34) (length (body ++ 34 ∷ [])) v)) (inner_chars text u)
    ∙ ap encode_utf8_all (body_unescaped (length (body ++ 34 ∷ [])) (chars text) [] long) ∙ encodes-chars text u

form_said : (text : List ℕ) → IsUtf8 text → between_quotes (written_form text) ≡ text
form_said text u =
    let inner = flat_map written_byte text ++ 34 ∷ [] in
    let inside : IsUtf8 inner = IsUtf8-append (flat_map written_byte text) (34 ∷ []) (body_utf8 text u) (low_utf8 34 (omega arith)) in
    ap (λ (b : Bool). cond b (decoded (Three (first (chars (34 ∷ inner)))) (behind_first (behind_first (behind_first (34 ∷ inner))))) (decoded (OneSign (first (chars (34 ∷ inner)))) (behind_first (34 ∷ inner)))) (not_long text)
    ∙ ap (λ (v : List ℕ). decoded (OneSign (first v)) (behind_first (34 ∷ inner))) (low_chars 34 inner (omega arith))
    ∙ ap (decoded (OneSign 34)) (behind_low 34 inner (omega arith) inside)
    ∙ form_decoded text u

-- the form of a literal, where no quote follows
pub form_reading : (text rest : List ℕ) → IsUtf8 text → scan.is 34 (chars rest) ≡ None → Reading (written_form text) rest (token.Text text)
form_reading text rest u stop =
    let inner = flat_map written_byte text ++ 34 ∷ [] in
    let inside : IsUtf8 inner = IsUtf8-append (flat_map written_byte text) (34 ∷ []) (body_utf8 text u) (low_utf8 34 (omega arith)) in
    let same : chars (34 ∷ inner) ≡ 34 ∷ (flat_map written_byte (chars text) ++ 34 ∷ []) = low_chars 34 inner (omega arith) ∙ ap (λ v. 34 ∷ v) (inner_chars text u) in
    record {
      utf8 = IsUtf8-append (34 ∷ []) inner (low_utf8 34 (omega arith)) inside;
      begins = subst (λ (v : List ℕ). BeginsToken (v ++ chars rest)) (sym same) refl;
      kind = kind.Text;
      reads = subst (λ (v : List ℕ). scan.longest (v ++ chars rest) ≡ Some (kind.Text, chars rest)) (sym same)
          (ap (λ (v : List ℕ). scan.longest (34 ∷ v)) (append_assoc (flat_map written_byte (chars text)) (34 ∷ []) (chars rest)) ∙ text_reads (chars text) (chars rest) stop);
      says = ap token.Text (form_said text u);
    }

-- ---- the mark before a datatype

carets_read : (rest : List ℕ) → scan.longest (94 ∷ 94 ∷ rest) ≡ Some (kind.Mark, rest)
unfolding scan.longest scan.early scan.iri scan.iri_part scan.prefix_name scan.colon_local scan.long_prefix scan.variable scan.blank scan.tag scan.tag_part scan.signed scan.exponent scan.pointed scan.dot_exponent scan.powered scan.unsigned scan.decimal scan.short scan.long scan.three scan.string scan.word scan.pair scan.mark scan.one scan.skip
carets_read rest = ap (scan.better None kind.Mark) (longer_mark 94 rest (omega arith))

pub carets_reading : (rest : List ℕ) → Reading (94 ∷ 94 ∷ []) rest (token.Plain k.CaretCaret)
carets_reading rest =
    let a = ascii_of (94 ∷ 94 ∷ []) refl in
    let same : 94 ∷ 94 ∷ [] ≡ chars (94 ∷ 94 ∷ []) = sym (chars-IsAscii (94 ∷ 94 ∷ []) a) in
    record {
      utf8 = IsUtf8-from_ascii (94 ∷ 94 ∷ []) a;
      begins = subst (λ (v : List ℕ). BeginsToken (v ++ chars rest)) same refl;
      kind = kind.Mark;
      reads = subst (λ (v : List ℕ). scan.longest (v ++ chars rest) ≡ Some (kind.Mark, chars rest)) same (carets_read (chars rest));
      says = refl;
    }

-- ---- tags

abbrev dashed : List (List ℕ) → List ℕ
dashed parts = flat_map (λ part. 45 ∷ part) parts

joined_dashed : (p : List ℕ) (parts : List (List ℕ)) → join_with_byte 45 (p ∷ parts) ≡ p ++ dashed parts
joined_dashed p [] = sym (append-nil p)
joined_dashed p (q ∷ parts) = ap (λ (v : List ℕ). p ++ 45 ∷ v) (joined_dashed q parts)

dash_stops : (p : ℕ → Bool) → p 45 ≡ false → p 32 ≡ false → (parts : List (List ℕ)) (rest : List ℕ) → Ends rest → scan.one p (dashed parts ++ rest) ≡ None
unfolding scan.one
dash_stops p d s [] rest e = ends_by (λ r. scan.one p r ≡ None) refl (λ r. ap (λ (b : Bool). cond b (Some r) None) s) rest e
dash_stops p d s (q ∷ parts) rest e = ap (λ (b : Bool). cond b (Some ((q ++ dashed parts) ++ rest)) None) d

part_found : (q rest : List ℕ) → is_letters_or_digits q ≡ true → scan.one class.is_letter_or_digit rest ≡ None → scan.tag_part (45 ∷ (q ++ rest)) ≡ Some rest
unfolding scan.tag_part scan.one
part_found [] rest h stop = absurd (cc (h))
part_found (c ∷ q) rest h stop =
    let t = and_parts (class.is_letter_or_digit c) (list_all class.is_letter_or_digit q) (and_parts (not (length (c ∷ q) == 0)) (list_all class.is_letter_or_digit (c ∷ q)) h).1 in
    ap (λ (v : Option (List ℕ)). scan.and_then v (λ r. Some (scan.skip (scan.one class.is_letter_or_digit) r))) (takes_one class.is_letter_or_digit c (q ++ rest) t.0)
    ∙ ap (λ (v : List ℕ). Some v) (skip_ones class.is_letter_or_digit q rest t.1 stop)

no_tag_part : (rest : List ℕ) → Ends rest → scan.tag_part rest ≡ None
unfolding scan.tag_part scan.one
no_tag_part rest e = ends_by (λ r. scan.tag_part r ≡ None) refl (λ r. refl) rest e

parts_skipped : (parts : List (List ℕ)) (rest : List ℕ) → list_all is_letters_or_digits parts ≡ true → Ends rest → scan.skip scan.tag_part (dashed parts ++ rest) ≡ rest
parts_skipped [] rest h e = skip_end scan.tag_part rest (no_tag_part rest e)
parts_skipped (q ∷ parts) rest h e =
    let t = and_parts (is_letters_or_digits q) (list_all is_letters_or_digits parts) h in
    ap (λ (v : List ℕ). scan.skip scan.tag_part (45 ∷ v)) (append_assoc q (dashed parts) rest)
    ∙ skip_step (part_step part.Tag) (45 ∷ (q ++ (dashed parts ++ rest))) (dashed parts ++ rest) (part_found q (dashed parts ++ rest) t.0 (dash_stops class.is_letter_or_digit refl refl parts rest e))
    ∙ parts_skipped parts rest t.1 e

tag_found : (p : List ℕ) (parts : List (List ℕ)) (rest : List ℕ) → is_letters p ≡ true → list_all is_letters_or_digits parts ≡ true → Ends rest → scan.tag (64 ∷ ((p ++ dashed parts) ++ rest)) ≡ Some rest
unfolding scan.tag scan.one
tag_found [] parts rest h g e = absurd (cc (h))
tag_found (c ∷ p) parts rest h g e =
    let t = and_parts (class.is_letter c) (list_all class.is_letter p) (and_parts (not (length (c ∷ p) == 0)) (list_all class.is_letter (c ∷ p)) h).1 in
    ap (λ (v : Option (List ℕ)). scan.and_then v (λ r. Some (scan.skip scan.tag_part (scan.skip (scan.one class.is_letter) r)))) (takes_one class.is_letter c ((p ++ dashed parts) ++ rest) t.0)
    ∙ ap (λ (v : List ℕ). Some (scan.skip scan.tag_part (scan.skip (scan.one class.is_letter) v))) (append_assoc p (dashed parts) rest)
    ∙ ap (λ (v : List ℕ). Some (scan.skip scan.tag_part v)) (skip_ones class.is_letter p (dashed parts ++ rest) t.1 (dash_stops class.is_letter refl refl parts rest e))
    ∙ ap (λ (v : List ℕ). Some v) (parts_skipped parts rest g e)

-- what the other kinds leave of a text that begins with `@`
tag_first : (text : List ℕ) (o : Option (List ℕ)) → scan.tag (64 ∷ text) ≡ o
    → scan.longest (64 ∷ text) ≡ scan.better (scan.better (scan.better (scan.better (scan.better (scan.better (scan.better None kind.Tag o) kind.Integer None) kind.Signed None) kind.Decimal None) kind.Text None) kind.Word None) kind.Mark None
unfolding scan.longest scan.early scan.iri scan.iri_part scan.prefix_name scan.colon_local scan.long_prefix scan.variable scan.blank scan.signed scan.exponent scan.pointed scan.dot_exponent scan.powered scan.unsigned scan.decimal scan.short scan.long scan.three scan.string scan.word scan.pair scan.mark scan.one scan.skip
tag_first text o e = ap (λ (v : Option (List ℕ)). scan.better (scan.better (scan.better (scan.better (scan.better (scan.better (scan.better None kind.Tag v) kind.Integer None) kind.Signed None) kind.Decimal None) kind.Text None) kind.Word None) kind.Mark None) e

letter_low : (b : ℕ) → class.is_letter_or_digit b ≡ true → is_ascii b ≡ true
letter_low b h = grind (arith, nat_tests)

letter_low_too : (b : ℕ) → class.is_letter b ≡ true → is_ascii b ≡ true
letter_low_too b h = grind (arith, nat_tests)

all_lower : (p : ℕ → Bool) → ((b : ℕ) → p b ≡ true → is_ascii b ≡ true) → (text : List ℕ) → list_all p text ≡ true → list_all is_ascii text ≡ true
all_lower p f [] h = refl
all_lower p f (b ∷ text) h = let t = and_parts (p b) (list_all p text) h in and_from (is_ascii b) (list_all is_ascii text) (f b t.0) (all_lower p f text t.1)

all_both : (p : ℕ → Bool) (xs ys : List ℕ) → list_all p xs ≡ true → list_all p ys ≡ true → list_all p (xs ++ ys) ≡ true
all_both p [] ys h g = g
all_both p (x ∷ xs) ys h g = let t = and_parts (p x) (list_all p xs) h in and_from (p x) (list_all p (xs ++ ys)) t.0 (all_both p xs ys t.1 g)

dashed_low : (parts : List (List ℕ)) → list_all is_letters_or_digits parts ≡ true → list_all is_ascii (dashed parts) ≡ true
dashed_low [] h = refl
dashed_low (q ∷ parts) h =
    let t = and_parts (is_letters_or_digits q) (list_all is_letters_or_digits parts) h in
    all_both is_ascii q (dashed parts) (all_lower class.is_letter_or_digit letter_low q (and_parts (not (length q == 0)) (list_all class.is_letter_or_digit q) t.0).1) (dashed_low parts t.1)

record Parts (tag : List ℕ) : Type 0 where
  first : List ℕ
  others : List (List ℕ)
  joined : tag ≡ first ++ dashed others
  letters : is_letters first ≡ true
  digits : list_all is_letters_or_digits others ≡ true

parts_of : (tag : List ℕ) → is_tag tag ≡ true → Parts tag
parts_of tag h = go (slice_split is_dash tag) refl h
  where
    go : (parts : List (List ℕ)) → slice_split is_dash tag ≡ parts → are_tag_parts parts ≡ true → Parts tag
    go [] e h = absurd (cc (h))
    go (p ∷ parts) e h =
        let t = and_parts (is_letters p) (list_all is_letters_or_digits parts) h in
        record { first = p; others = parts; joined = sym (join_with_byte-slice_split 45 tag) ∙ ap (join_with_byte 45) e ∙ joined_dashed p parts; letters = t.0; digits = t.1 }

pub tag_low : (tag : List ℕ) → is_tag tag ≡ true → IsAscii tag
tag_low tag h =
    let p = parts_of tag h in
    ascii_of tag (ap (list_all is_ascii) p.joined ∙ all_both is_ascii p.first (dashed p.others) (all_lower class.is_letter letter_low_too p.first (and_parts (not (length p.first == 0)) (list_all class.is_letter p.first) p.letters).1) (dashed_low p.others p.digits))

pub tag_reading : (tag rest : List ℕ) → is_tag tag ≡ true → Ends rest → Reading (64 ∷ tag) rest (token.Tag tag)
tag_reading tag rest h e =
    let a = tag_low tag h in
    let u : IsUtf8 tag = IsUtf8-from_ascii tag a in
    let p = parts_of tag h in
    let same : chars (64 ∷ tag) ≡ 64 ∷ tag = low_chars 64 tag (omega arith) ∙ ap (λ v. 64 ∷ v) (chars-IsAscii tag a) in
    let found : scan.tag (64 ∷ (tag ++ chars rest)) ≡ Some (chars rest) =
    ap (λ (v : List ℕ). scan.tag (64 ∷ (v ++ chars rest))) p.joined ∙ tag_found p.first p.others (chars rest) p.letters p.digits (chars_end rest e) in
    record {
      utf8 = IsUtf8-append (64 ∷ []) tag (low_utf8 64 (omega arith)) u;
      begins = subst (λ (v : List ℕ). BeginsToken (v ++ chars rest)) (sym same) refl;
      kind = kind.Tag;
      reads = subst (λ (v : List ℕ). scan.longest (v ++ chars rest) ≡ Some (kind.Tag, chars rest)) (sym same) (tag_first (tag ++ chars rest) (Some (chars rest)) found);
      says = ap token.Tag (behind_low 64 tag (omega arith) u);
    }
