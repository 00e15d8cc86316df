-- Names and terms of a printed query read as their tokens.
use Rattle.std.proofs.Common.{◌≡◌, ℕ, zero, suc, ◌<◌, ◌≤◌, Bool, true, false, cond, not, ltb, List, [], ◌∷◌, ◌++◌, length, drop, Option, Some, None, Ok, refl, sym, ap, ◌∙◌, subst, arith, append_assoc, length-append, inl, inr, ◌⊎◌, ◌&&◌}
use Rattle.std.specs.Prelude.{◌==◌, All, encode_utf8}
use Rattle.std.specs.List.{list_all}
use Rattle.std.specs.Str.{chars, IsUtf8, encode_utf8_all, IsAscii}
use Rattle.std.proofs.lemmas.Bool.{and_from, not-true, eq-eqb, le-ltb, ltb-true, and_parts, cases_lt}
use Rattle.std.proofs.lemmas.Bool.Decides.{nat_tests}
use Rattle.std.proofs.lemmas.List.Elements.{All-head, All-drop, All-cons, All-nil}
use Rattle.std.proofs.Math.Seq.{drop-append_seam}
use Rattle.std.proofs.lemmas.Str.{IsUtf8-append, IsUtf8-from_ascii, chars-append, chars-IsAscii, encodes-chars, encode_ascii, length-le-encodes}
use Rattle.std.proofs.lemmas.Str.Ascii.{IsAscii-from_all, IsAscii-cons, IsAscii-nil}
use Rattle.fx_terms.specs.Names as names
use Rattle.fx_terms.specs.Iris.{is_forbidden, read_iri, IsIri}
use Rattle.fx_terms.proofs.IriLemmas.{iri_bytes}
use Rattle.fx_tokens.specs.Answers.{width}
use Rattle.fx_tokens.specs.Classes as class
use Rattle.fx_tokens.specs.Decoding.{next, decoded, unescaped, escape, behind_first}
use Rattle.fx_tokens.specs.Reads.{BeginsToken}
use Rattle.fx_tokens.specs.Scan as scan
use Rattle.fx_tokens.specs.declared.TokenKind.TheVariants as kind
use Rattle.fx_tokens.specs.declared.TokenKind.{TokenKind}
use Rattle.fx_tokens.specs.declared.decoding.Closing.TheVariants.{One as OneSign}
use Rattle.fx_tokens.specs.declared.kinds.Part.TheVariants as part
use Rattle.fx_tokens.proofs.Readers.{IsStep, step, unit_one, skip_step, skip_end, width_behind}
use Rattle.fx_tokens.proofs.KindLaws.{part_step}
use Rattle.fx_grammar.specs.Classified.{variable_of, iri_or}
use Rattle.fx_spelling.specs.Printable.{fixed_token}
use Rattle.fx_grammar.specs.declared.kinds.Token.TheVariants as token
use Rattle.fx_spelling.proofs.Pieces.{Reading, space_chars}
use Rattle.fx_spelling.proofs.Fixed.{Fixed, is_ascii}

-- ---- the end of a word

-- nothing more, or a space
abbrev pub Ends : List ℕ → Type 0
Ends rest = (rest ≡ []) ⊎ ((behind : List ℕ) × (rest ≡ 32 ∷ behind))

pub ends_by : (P : List ℕ → Type 0) → P [] → ((behind : List ℕ) → P (32 ∷ behind)) → (rest : List ℕ) → Ends rest → P rest
ends_by P at_end at_space rest h = elim h [ inl e ↦ subst P (sym e) at_end | inr s ↦ subst P (sym s.1) (at_space s.0) ]

-- the same of the characters
pub chars_end : (rest : List ℕ) → Ends rest → Ends (chars rest)
unfolding chars
chars_end rest h = elim h [ inl e ↦ inl (ap chars e) | inr s ↦ inr (chars s.0, ap chars s.1 ∙ space_chars s.0) ]

-- ---- keywords and marks

all_low : (text : List ℕ) → list_all is_ascii text ≡ true → All (λ b. b < 128) text
all_low [] h = All-nil (λ b. b < 128)
all_low (c ∷ text) h = let t = and_parts (is_ascii c) (list_all is_ascii text) h in All-cons (λ b. b < 128) c text (ltb-true c 128 t.0) (all_low text t.1)

pub ascii_of : (text : List ℕ) → list_all is_ascii text ≡ true → IsAscii text
ascii_of text h = IsAscii-from_all text (all_low text h)

pub fixed_reading : (text rest : List ℕ) → Fixed text → Ends rest → Reading text rest (fixed_token text)
fixed_reading text rest f e =
    let a = ascii_of text f.ascii in
    let same : text ≡ chars text = sym (chars-IsAscii text a) in
    record {
      utf8 = IsUtf8-from_ascii text a;
      begins = subst (λ (v : List ℕ). BeginsToken (v ++ chars rest)) same (f.begins (chars rest));
      kind = f.kind;
      reads = subst (λ (v : List ℕ). scan.longest (v ++ chars rest) ≡ Some (f.kind, chars rest)) same
          (ends_by (λ r. scan.longest (text ++ r) ≡ Some (f.kind, r)) f.at_end f.at_space (chars rest) (chars_end rest e));
      says = f.says;
    }

-- ---- characters that a reader takes one by one

pub skip_chars : {a : List ℕ → Type 0} {read : List ℕ → Option (List ℕ)} → IsStep a read → (p : ℕ → Bool) → ((c : ℕ) (text : List ℕ) → p c ≡ true → read (c ∷ text) ≡ Some text) → (cs rest : List ℕ) → list_all p cs ≡ true → read rest ≡ None
    → scan.skip read (cs ++ rest) ≡ rest
skip_chars {a} {read} s p takes [] rest h stop = skip_end read rest stop
skip_chars {a} {read} s p takes (c ∷ cs) rest h stop =
    let t = and_parts (p c) (list_all p cs) h in
    skip_step s (c ∷ (cs ++ rest)) (cs ++ rest) (takes c (cs ++ rest) t.0) ∙ skip_chars s p takes cs rest t.1 stop

pub takes_one : (p : ℕ → Bool) (c : ℕ) (text : List ℕ) → p c ≡ true → scan.one p (c ∷ text) ≡ Some text
unfolding scan.one
takes_one p c text h = ap (λ (b : Bool). cond b (Some text) None) h

pub skip_ones : (p : ℕ → Bool) (cs rest : List ℕ) → list_all p cs ≡ true → scan.one p rest ≡ None → scan.skip (scan.one p) (cs ++ rest) ≡ rest
skip_ones p cs rest h stop = skip_chars (step (unit_one p)) p (takes_one p) cs rest h stop

-- a mark at the front is no longer
pub keeps : (k : TokenKind) (rest far : List ℕ) → width rest ≤ width far → scan.better (Some (k, rest)) kind.Mark (Some far) ≡ Some (k, rest)
keeps k rest far h = ap (λ (b : Bool). cond b (Some (kind.Mark, far)) (Some (k, rest))) (le-ltb (width far) (width rest) h)

-- ---- names

no_name_char : (rest : List ℕ) → Ends rest → scan.one names.is_name_char rest ≡ None
unfolding scan.one
no_name_char rest e = ends_by (λ r. scan.one names.is_name_char r ≡ None) refl (λ r. refl) rest e

variable_found : (c : ℕ) (cs rest : List ℕ) → names.is_name_start c ≡ true → list_all names.is_name_char cs ≡ true → Ends rest → scan.variable (63 ∷ c ∷ (cs ++ rest)) ≡ Some rest
unfolding scan.variable scan.one
variable_found c cs rest s h e =
    ap (λ (v : Option (List ℕ)). scan.and_then v (λ r. Some (scan.skip (scan.one names.is_name_char) r))) (takes_one names.is_name_start c (cs ++ rest) s)
    ∙ ap (λ (v : List ℕ). Some v) (skip_ones names.is_name_char cs rest h (no_name_char rest e))

-- what the other kinds leave of a text that begins with a question mark
variable_first : (text : List ℕ) (o : Option (List ℕ)) → scan.variable (63 ∷ text) ≡ o
    → scan.longest (63 ∷ text)
    ≡ scan.better (scan.better (scan.better (scan.better (scan.better (scan.better (scan.better (scan.better (scan.better None kind.Variable o) kind.Blank None) kind.Tag None) kind.Integer None) kind.Signed None) kind.Decimal None) kind.Text None) kind.Word None) kind.Mark (Some text)
unfolding scan.longest scan.early scan.iri scan.iri_part scan.prefix_name scan.colon_local scan.long_prefix scan.blank scan.tag scan.tag_part scan.signed scan.exponent scan.pointed scan.dot_exponent scan.powered scan.unsigned scan.decimal scan.short scan.long scan.three scan.string scan.word scan.pair scan.mark scan.one scan.skip
variable_first text o e = ap (λ (v : Option (List ℕ)). scan.better (scan.better (scan.better (scan.better (scan.better (scan.better (scan.better (scan.better (scan.better None kind.Variable v) kind.Blank None) kind.Tag None) kind.Integer None) kind.Signed None) kind.Decimal None) kind.Text None) kind.Word None) kind.Mark (Some text)) e

variable_reads : (cs rest : List ℕ) → names.is_name cs ≡ true → Ends rest → scan.longest (63 ∷ (cs ++ rest)) ≡ Some (kind.Variable, rest)
variable_reads [] rest h e = absurd (cc)
variable_reads (c ∷ cs) rest h e =
    let t = and_parts (names.is_name_start c) (list_all names.is_name_char (c ∷ cs)) h in
    let u = and_parts (names.is_name_char c) (list_all names.is_name_char cs) t.1 in
    variable_first (c ∷ (cs ++ rest)) (Some rest) (variable_found c cs rest t.0 u.1 e) ∙ keeps kind.Variable rest (c ∷ (cs ++ rest)) (width_behind (c ∷ (cs ++ rest)) (c ∷ cs) rest refl)

is_name_of : (name : List ℕ) (b : Bool) → names.named name b ≡ Ok name → b ≡ true
is_name_of name true h = refl
is_name_of name false h = absurd (cc)

-- a character of ASCII in front of a text
pub low_utf8 : (c : ℕ) → c < 128 → IsUtf8 (c ∷ [])
low_utf8 c h = IsUtf8-from_ascii (c ∷ []) (IsAscii-cons c [] h IsAscii-nil)

pub low_chars : (c : ℕ) (text : List ℕ) → c < 128 → chars (c ∷ text) ≡ c ∷ chars text
low_chars c text h = chars-append (c ∷ []) text (low_utf8 c h) ∙ ap (λ v. v ++ chars text) (chars-IsAscii (c ∷ []) (IsAscii-cons c [] h IsAscii-nil))

pub behind_low : (c : ℕ) (text : List ℕ) → c < 128 → IsUtf8 text → behind_first (c ∷ text) ≡ text
behind_low c text h u = ap (λ (v : List ℕ). encode_utf8_all (drop 1 v)) (low_chars c text h) ∙ encodes-chars text u

pub name_reading : (name rest : List ℕ) → names.IsName name → Ends rest → Reading (63 ∷ name) rest (token.Variable name)
name_reading name rest n e =
    let same : chars (63 ∷ name) ≡ 63 ∷ chars name = low_chars 63 name (omega arith) in
    let good = is_name_of name (names.is_name (chars name)) n.name in
    record {
      utf8 = IsUtf8-append (63 ∷ []) name (low_utf8 63 (omega arith)) n.utf8;
      begins = subst (λ (v : List ℕ). BeginsToken (v ++ chars rest)) (sym same) refl;
      kind = kind.Variable;
      reads = subst (λ (v : List ℕ). scan.longest (v ++ chars rest) ≡ Some (kind.Variable, chars rest)) (sym same) (variable_reads (chars name) (chars rest) good (chars_end rest e));
      says = ap (λ (v : List ℕ). variable_of (names.read_name v)) (behind_low 63 name (omega arith) n.utf8) ∙ ap variable_of n.name;
    }

-- ---- characters by their bytes

-- of each character of ASCII a fact of its byte, and another test of all
tests_of : (P : ℕ → Type 0) (p : ℕ → Bool) → ((c : ℕ) → P c → p c ≡ true) → ((c : ℕ) → 128 ≤ c → p c ≡ true) → (cs : List ℕ) → All P (encode_utf8_all cs) → list_all p cs ≡ true
tests_of P p low high [] h = refl
tests_of P p low high (c ∷ cs) h =
    let rest : All P (encode_utf8_all cs) = subst (All P) (drop-append_seam (encode_utf8 c) (encode_utf8_all cs)) (All-drop P (length (encode_utf8 c)) (encode_utf8 c ++ encode_utf8_all cs) h) in
    and_from (p c) (list_all p cs) (elim (cases_lt c 128) [ inl l ↦ low c (All-head P c (encode_utf8_all cs) (subst (λ (v : List ℕ). All P (v ++ encode_utf8_all cs)) (encode_ascii c l) h)) | inr r ↦ high c r ]) (tests_of P p low high cs rest)

allowed_low : (c : ℕ) → is_forbidden c ≡ false → class.is_iri_char c ≡ true
allowed_low c h = grind (arith, nat_tests)

allowed_high : (c : ℕ) → 128 ≤ c → class.is_iri_char c ≡ true
allowed_high c h = grind (arith, nat_tests)

iri_chars : (iri : List ℕ) → IsIri iri → list_all class.is_iri_char (chars iri) ≡ true
iri_chars iri h = tests_of (λ b. is_forbidden b ≡ false) class.is_iri_char allowed_low allowed_high (chars iri) (subst (All (λ b. is_forbidden b ≡ false)) (sym (encodes-chars iri h.utf8)) (iri_bytes iri h))

-- ---- IRIs

takes_iri : (c : ℕ) (text : List ℕ) → class.is_iri_char c ≡ true → scan.iri_part (c ∷ text) ≡ Some text
unfolding scan.iri_part scan.one
takes_iri c text h = ap (λ (b : Bool). scan.or_else (cond b (Some text) None) (scan.and_then (scan.is 92 (c ∷ text)) (scan.code class.is_iri_scalar))) h

iri_found : (cs rest : List ℕ) → list_all class.is_iri_char cs ≡ true → scan.iri (60 ∷ (cs ++ 62 ∷ rest)) ≡ Some rest
unfolding scan.iri scan.one scan.iri_part
iri_found cs rest h = ap (scan.is 62) (skip_chars (part_step part.Iri) class.is_iri_char takes_iri cs (62 ∷ rest) h refl)

-- what the other kinds leave of a text that begins with `<`
iri_first : (c : ℕ) (text : List ℕ) (o : Option (List ℕ)) → scan.iri (60 ∷ c ∷ text) ≡ o
    → scan.longest (60 ∷ c ∷ text)
    ≡ scan.better (scan.better (scan.better (scan.better (scan.better (scan.better (scan.better (scan.better (scan.better (scan.better (scan.better None kind.Iri o) kind.PrefixName None) kind.Variable None) kind.Blank None) kind.Tag None) kind.Integer None) kind.Signed None) kind.Decimal None) kind.Text None) kind.Word None) kind.Mark (scan.longer (Some (c ∷ text)) (scan.longer (cond (c == 61) (Some text) None) None))
unfolding scan.longest scan.early scan.prefix_name scan.colon_local scan.long_prefix scan.variable scan.blank scan.tag scan.tag_part scan.signed scan.exponent scan.pointed scan.dot_exponent scan.powered scan.unsigned scan.decimal scan.short scan.long scan.three scan.string scan.word scan.pair scan.mark scan.one scan.skip
iri_first c text o e = ap (λ (v : Option (List ℕ)). scan.better (scan.better (scan.better (scan.better (scan.better (scan.better (scan.better (scan.better (scan.better (scan.better (scan.better None kind.Iri v) kind.PrefixName None) kind.Variable None) kind.Blank None) kind.Tag None) kind.Integer None) kind.Signed None) kind.Decimal None) kind.Text None) kind.Word None) kind.Mark (scan.longer (Some (c ∷ text)) (scan.longer (cond (c == 61) (Some text) None) None))) e

keeps_either : (b t : Bool) (rest far near : List ℕ) → width rest ≤ width far → width rest ≤ width near → scan.better (Some (kind.Iri, rest)) kind.Mark (cond t (Some near) (Some far)) ≡ Some (kind.Iri, rest)
keeps_either b true rest far near h g = keeps kind.Iri rest near g
keeps_either b false rest far near h g = keeps kind.Iri rest far h

keeps_iri : (b : Bool) (rest far near : List ℕ) → width rest ≤ width far → width rest ≤ width near → scan.better (Some (kind.Iri, rest)) kind.Mark (scan.longer (Some far) (scan.longer (cond b (Some near) None) None)) ≡ Some (kind.Iri, rest)
keeps_iri true rest far near h g = keeps_either true (ltb (width near) (width far)) rest far near h g
keeps_iri false rest far near h g = keeps kind.Iri rest far h

iri_reads : (cs rest : List ℕ) → 0 < length cs → list_all class.is_iri_char cs ≡ true → scan.longest (60 ∷ (cs ++ 62 ∷ rest)) ≡ Some (kind.Iri, rest)
iri_reads [] rest n h = absurd (omega (arith, n))
iri_reads (c ∷ cs) rest n h =
    iri_first c (cs ++ 62 ∷ rest) (Some rest) (iri_found (c ∷ cs) rest h)
    ∙ keeps_iri (c == 61) rest (c ∷ (cs ++ 62 ∷ rest)) (cs ++ 62 ∷ rest)
    (width_behind (c ∷ (cs ++ 62 ∷ rest)) (c ∷ (cs ++ 62 ∷ [])) rest (ap (λ v. c ∷ v) (sym (append_assoc cs (62 ∷ []) rest))))
    (width_behind (cs ++ 62 ∷ rest) (cs ++ 62 ∷ []) rest (sym (append_assoc cs (62 ∷ []) rest)))

-- no IRI is empty
iri_some : (iri : List ℕ) → IsIri iri → 0 < length iri
iri_some [] h = absurd (let e = h.iri in cc)
iri_some (b ∷ iri) h = omega arith

chars_some : (text : List ℕ) → IsUtf8 text → 0 < length text → 0 < length (chars text)
chars_some text u h = go (chars text) refl
  where
    go : (cs : List ℕ) → chars text ≡ cs → 0 < length cs
    go [] e = absurd (omega (arith, h, ap (λ (v : List ℕ). length v) (sym (encodes-chars text u) ∙ ap encode_utf8_all e)))
    go (c ∷ cs) e = omega arith

pub closed_chars : (text : List ℕ) (c : ℕ) → IsUtf8 text → c < 128 → chars (text ++ c ∷ []) ≡ chars text ++ c ∷ []
closed_chars text c u h = chars-append text (c ∷ []) u ∙ ap (λ v. chars text ++ v) (chars-IsAscii (c ∷ []) (IsAscii-cons c [] h IsAscii-nil))

-- what stands before a closing sign, where each character stands for itself
plain_unescaped : (sign : ℕ) (n : ℕ) (cs rest : List ℕ) → length cs < n → list_all (λ c. not (c == sign) && not (c == 92)) cs ≡ true → unescaped (OneSign sign) n (cs ++ sign ∷ rest) ≡ cs
unfolding unescaped
plain_unescaped sign zero cs rest l h = absurd (omega (arith, l))
plain_unescaped sign (suc n) [] rest l h = ap (λ (b : Bool). cond b [] ((next sign rest).0 ∷ unescaped (OneSign sign) n (next sign rest).1)) (eq-eqb sign sign refl)
plain_unescaped sign (suc n) (c ∷ cs) rest l h =
    let t = and_parts (not (c == sign) && not (c == 92)) (list_all (λ c. not (c == sign) && not (c == 92)) cs) h in
    let u = and_parts (not (c == sign)) (not (c == 92)) t.0 in
    ap (λ (b : Bool). cond b [] ((next c (cs ++ sign ∷ rest)).0 ∷ unescaped (OneSign sign) n (next c (cs ++ sign ∷ rest)).1)) (not-true (c == sign) u.0)
    ∙ ap (λ (b : Bool). (cond b (escape (cs ++ sign ∷ rest)) (c, cs ++ sign ∷ rest)).0 ∷ unescaped (OneSign sign) n (cond b (escape (cs ++ sign ∷ rest)) (c, cs ++ sign ∷ rest)).1) (not-true (c == 92) u.1)
    ∙ ap (λ v. c ∷ v) (plain_unescaped sign n cs rest (omega (arith, l)) t.1)

no_sign : (c : ℕ) → class.is_iri_char c ≡ true → (not (c == 62) && not (c == 92)) ≡ true
no_sign c h = grind (arith, nat_tests)

all_weaker : (p q : ℕ → Bool) → ((c : ℕ) → p c ≡ true → q c ≡ true) → (cs : List ℕ) → list_all p cs ≡ true → list_all q cs ≡ true
all_weaker p q f [] h = refl
all_weaker p q f (c ∷ cs) h = let t = and_parts (p c) (list_all p cs) h in and_from (q c) (list_all q cs) (f c t.0) (all_weaker p q f cs t.1)

pub shorter_chars : (text : List ℕ) (c : ℕ) → IsUtf8 text → length (chars text) < length (text ++ c ∷ [])
shorter_chars text c u = omega (arith, length-le-encodes (chars text), ap (λ (v : List ℕ). length v) (encodes-chars text u), length-append text (c ∷ []))

iri_decoded : (iri : List ℕ) → IsIri iri → decoded (OneSign 62) (iri ++ 62 ∷ []) ≡ iri
iri_decoded iri h =
    ap (λ (v : List ℕ). encode_utf8_all (unescaped (OneSign 62) (length (iri ++ 62 ∷ [])) v)) (closed_chars iri 62 h.utf8 (omega arith))
    ∙ ap encode_utf8_all (plain_unescaped 62 (length (iri ++ 62 ∷ [])) (chars iri) [] (shorter_chars iri 62 h.utf8) (all_weaker class.is_iri_char (λ c. not (c == 62) && not (c == 92)) no_sign (chars iri) (iri_chars iri h)))
    ∙ encodes-chars iri h.utf8

pub iri_reading : (iri rest : List ℕ) → IsIri iri → Reading (60 ∷ (iri ++ 62 ∷ [])) rest (token.Iri iri)
iri_reading iri rest h =
    let inner : IsUtf8 (iri ++ 62 ∷ []) = IsUtf8-append iri (62 ∷ []) h.utf8 (low_utf8 62 (omega arith)) in
    let same : chars (60 ∷ (iri ++ 62 ∷ [])) ≡ 60 ∷ (chars iri ++ 62 ∷ []) = low_chars 60 (iri ++ 62 ∷ []) (omega arith) ∙ ap (λ v. 60 ∷ v) (closed_chars iri 62 h.utf8 (omega arith)) in
    record {
      utf8 = IsUtf8-append (60 ∷ []) (iri ++ 62 ∷ []) (low_utf8 60 (omega arith)) inner;
      begins = subst (λ (v : List ℕ). BeginsToken (v ++ chars rest)) (sym same) refl;
      kind = kind.Iri;
      reads = subst (λ (v : List ℕ). scan.longest (v ++ chars rest) ≡ Some (kind.Iri, chars rest)) (sym same)
          (ap (λ (v : List ℕ). scan.longest (60 ∷ v)) (append_assoc (chars iri) (62 ∷ []) (chars rest)) ∙ iri_reads (chars iri) (chars rest) (chars_some iri h.utf8 (iri_some iri h)) (iri_chars iri h));
      says = ap (λ (v : List ℕ). iri_or (read_iri (decoded (OneSign 62) v))) (behind_low 60 (iri ++ 62 ∷ []) (omega arith) inner) ∙ ap (λ (v : List ℕ). iri_or (read_iri v)) (iri_decoded iri h) ∙ ap iri_or h.iri;
    }
