-- What is written of terms reads as the tokens that say them in Turtle.
use Rattle.std.proofs.Common.{◌≡◌, ℕ, Bool, true, false, List, [], ◌∷◌, ◌++◌, length, Some, None, Ok, Err, Result, refl, sym, ap, ◌∙◌, subst, arith, length-append, inl, inr}
use Rattle.std.specs.Str.{chars, IsUtf8}
use Rattle.std.proofs.lemmas.Bool.{eqb-true}
use Rattle.std.proofs.lemmas.List.{append_cancel_right}
use Rattle.std.proofs.lemmas.Str.{IsUtf8-append}
use Rattle.fx_terms.specs.Iris.{IsIri, read_iri}
use Rattle.fx_terms.specs.Literals.{is_tag}
use Rattle.fx_terms.specs.Writing.{written_form, written_iri}
use Rattle.fx_terms.specs.declared.iris.TermError.{TermError}
use Rattle.fx_terms.specs.declared.names.NameError.{NameError}
use Rattle.fx_tokens.specs.Classes as class
use Rattle.fx_tokens.specs.Decoding.{behind_first, iri_text}
use Rattle.fx_tokens.specs.Forms.{One, Then}
use Rattle.fx_tokens.specs.Kinds.{IsToken}
use Rattle.fx_tokens.specs.Reads.{BeginsToken}
use Rattle.fx_tokens.specs.Scan as scan
use Rattle.fx_tokens.specs.declared.TokenKind.{TokenKind}
use Rattle.fx_tokens.specs.declared.TokenKind.TheVariants as kind
use Rattle.fx_tokens.proofs.Longest.{longest_some}
use Rattle.fx_tokens.proofs.Sorts.{one_kind}
use Rattle.fx_grammar.specs.Classified.{token_of, read_name}
use Rattle.fx_grammar.specs.Classified as query
use Rattle.fx_grammar.specs.declared.kinds.Token.{Token}
use Rattle.fx_grammar.specs.declared.kinds.Token.TheVariants as token
use Rattle.fx_spelling.proofs.Pieces as spelled
use Rattle.fx_spelling.proofs.Words.{closed_chars, low_chars, low_utf8, iri_reading}
use Rattle.fx_spelling.proofs.Texts.{form_reading, carets_reading, tag_reading}
use Rattle.fx_turtle.specs.Symbols as symbol
use Rattle.fx_turtle.specs.Symbols.{Symbol, symbol_of, iri_or}
use Rattle.fx_turtle.specs.declared.kinds.Kind.TheVariants as k
use Rattle.fx_turtle.proofs.PrintedPieces.{Reading}

-- ---- forms by their first character

abbrev first_or : ℕ → List ℕ → ℕ
first_or d [] = d
first_or d (c ∷ text) = c

abbrev rest_of : List ℕ → List ℕ
rest_of [] = []
rest_of (c ∷ text) = text

module _ (p : ℕ → Bool) where
  begins_with : (b : List ℕ → Type 0) (c : ℕ) (text : List ℕ) → Then (One p) b (c ∷ text) → p c ≡ true
  begins_with b c text h =
      let e : c ∷ text ≡ h.first.character ∷ h.back = h.joined ∙ ap (λ v. v ++ h.back) h.first.alone in
      ap p (ap (first_or 0) e) ∙ h.first.holds

  is_one : (c : ℕ) (text : List ℕ) → One p (c ∷ text) → p c ≡ true
  is_one c text h = ap p (ap (first_or 0) h.alone) ∙ h.holds

  never_begins : (b : List ℕ → Type 0) (c : ℕ) (text : List ℕ) → p c ≡ false → Then (One p) b (c ∷ text) → ⊥
  never_begins b c text fails h = let holds = begins_with b c text h in absurd (cc (fails, holds))

  never_one : (c : ℕ) (text : List ℕ) → p c ≡ false → One p (c ∷ text) → ⊥
  never_one c text fails h = let holds = is_one c text h in absurd (cc (fails, holds))

no_word : (c : ℕ) (text : List ℕ) → class.is_letter c ≡ false → IsToken kind.Word (c ∷ text) → ⊥
no_word c text fails h = never_begins class.is_letter _ c text fails h

no_mark : (c : ℕ) (text : List ℕ) → class.is_mark c ≡ false → class.is_before_equal c ≡ false → class.is 38 c ≡ false → class.is 124 c ≡ false → class.is 94 c ≡ false → IsToken kind.Mark (c ∷ text) → ⊥
no_mark c text one equal and or carets h = elim h [
  | inl a ↦ never_one class.is_mark c text one a
  | inr a ↦ elim a [
    | inl b ↦ never_begins class.is_before_equal _ c text equal b
    | inr b ↦ elim b [
      | inl d ↦ never_begins (class.is 38) _ c text and d
      | inr d ↦ elim d [ inl e ↦ never_begins (class.is 124) _ c text or e | inr e ↦ never_begins (class.is 94) _ c text carets e ]
    ]
  ]
]

never_empty : (text : List ℕ) → text ++ 62 ∷ [] ≡ [] → ⊥
never_empty text e = absurd (omega (arith, length-append text (62 ∷ []), ap (λ (v : List ℕ). length v) e))

never_equal_sign : (text : List ℕ) → text ++ 62 ∷ [] ≡ 61 ∷ [] → ⊥
never_equal_sign [] e = absurd (omega (arith, ap (first_or 0) e))
never_equal_sign (c ∷ text) e = never_empty text (ap rest_of e)

-- what stands between < and > is no mark
iri_no_mark : (text : List ℕ) → IsToken kind.Mark (60 ∷ (text ++ 62 ∷ [])) → ⊥
iri_no_mark text h = elim h [
  | inl a ↦ never_empty text (ap rest_of a.alone)
  | inr a ↦ elim a [
    | inl b ↦
        never_equal_sign text
        (ap rest_of (b.joined ∙ ap (λ v. v ++ b.back) b.first.alone) ∙ b.second.alone ∙ ap (λ c. c ∷ []) (eqb-true b.second.character 61 b.second.holds))
    | inr b ↦ elim b [
      | inl d ↦ never_begins (class.is 38) _ 60 _ refl d
      | inr d ↦ elim d [ inl e ↦ never_begins (class.is 124) _ 60 _ refl e | inr e ↦ never_begins (class.is 94) _ 60 _ refl e ]
    ]
  ]
]

-- ---- what a token says to a query, and what it says in Turtle

abbrev text_in : Token → List ℕ
text_in (token.Iri iri) = iri
text_in (token.Tag tag) = tag
text_in (token.Text text) = text
text_in _ = []

iri_or_same : (r : Result (List ℕ) TermError) (iri : List ℕ) → query.iri_or r ≡ token.Iri iri → iri_or r ≡ symbol.iri iri
iri_or_same (Ok a) iri e = ap symbol.iri (ap text_in e)
iri_or_same (Err why) iri e = absurd (cc (e))

-- an IRI, a tag or a text
abbrev is_said : Token → Bool
is_said (token.Iri iri) = true
is_said (token.Tag tag) = true
is_said (token.Text text) = true
is_said _ = false

-- which no name of a variable is
no_name : (r : Result (List ℕ) NameError) (t : Token) → is_said t ≡ true → query.variable_of r ≡ t → ⊥
no_name (Ok a) t h e = absurd (cc (h, e))
no_name (Err why) t h e = absurd (cc (h, e))

-- a token that is neither a word nor a mark says the same to both
module _ (front : List ℕ) (no_word_is : IsToken kind.Word (chars front) → ⊥) (no_mark_is : IsToken kind.Mark (chars front) → ⊥) where
  iri_said : (a : TokenKind) (iri : List ℕ) → IsToken a (chars front) → token_of a front ≡ token.Iri iri → symbol_of a front ≡ symbol.iri iri
  iri_said kind.Iri iri h e = iri_or_same (read_iri (iri_text front)) iri e
  iri_said kind.PrefixName iri h e = absurd (cc (e))
  iri_said kind.Variable iri h e = absurd (no_name (read_name (behind_first front)) (token.Iri iri) refl e)
  iri_said kind.Blank iri h e = absurd (cc (e))
  iri_said kind.Tag iri h e = absurd (cc (e))
  iri_said kind.Integer iri h e = absurd (cc (e))
  iri_said kind.Signed iri h e = absurd (cc (e))
  iri_said kind.Decimal iri h e = absurd (cc (e))
  iri_said kind.Text iri h e = absurd (cc (e))
  iri_said kind.Word iri h e = absurd (no_word_is h)
  iri_said kind.Mark iri h e = absurd (no_mark_is h)

  tag_said : (a : TokenKind) (tag : List ℕ) → IsToken a (chars front) → token_of a front ≡ token.Tag tag → symbol_of a front ≡ symbol.tag tag
  tag_said kind.Iri tag h e = absurd (no_iri_tag (read_iri (iri_text front)) e)
    where
      no_iri_tag : (r : Result (List ℕ) TermError) → query.iri_or r ≡ token.Tag tag → ⊥
      no_iri_tag (Ok a) e = absurd (cc (e))
      no_iri_tag (Err why) e = absurd (cc (e))
  tag_said kind.PrefixName tag h e = absurd (cc (e))
  tag_said kind.Variable tag h e = absurd (no_name (read_name (behind_first front)) (token.Tag tag) refl e)
  tag_said kind.Blank tag h e = absurd (cc (e))
  tag_said kind.Tag tag h e = ap symbol.tag (ap text_in e)
  tag_said kind.Integer tag h e = absurd (cc (e))
  tag_said kind.Signed tag h e = absurd (cc (e))
  tag_said kind.Decimal tag h e = absurd (cc (e))
  tag_said kind.Text tag h e = absurd (cc (e))
  tag_said kind.Word tag h e = absurd (no_word_is h)
  tag_said kind.Mark tag h e = absurd (no_mark_is h)

  text_said : (a : TokenKind) (text : List ℕ) → IsToken a (chars front) → token_of a front ≡ token.Text text → symbol_of a front ≡ symbol.text text
  text_said kind.Iri text h e = absurd (no_iri_text (read_iri (iri_text front)) e)
    where
      no_iri_text : (r : Result (List ℕ) TermError) → query.iri_or r ≡ token.Text text → ⊥
      no_iri_text (Ok a) e = absurd (cc (e))
      no_iri_text (Err why) e = absurd (cc (e))
  text_said kind.PrefixName text h e = absurd (cc (e))
  text_said kind.Variable text h e = absurd (no_name (read_name (behind_first front)) (token.Text text) refl e)
  text_said kind.Blank text h e = absurd (cc (e))
  text_said kind.Tag text h e = absurd (cc (e))
  text_said kind.Integer text h e = absurd (cc (e))
  text_said kind.Signed text h e = absurd (cc (e))
  text_said kind.Decimal text h e = absurd (cc (e))
  text_said kind.Text text h e = ap symbol.text (ap text_in e)
  text_said kind.Word text h e = absurd (no_word_is h)
  text_said kind.Mark text h e = absurd (no_mark_is h)

-- what is read as a token of a kind is one
is_token : {front rest : List ℕ} {t : Token} (r : spelled.Reading front rest t) → IsToken r.kind (chars front)
is_token {front} {rest} r =
    let found = longest_some (chars front ++ chars rest) r.kind (chars rest) r.reads in
    let same : found.0 ≡ chars front = append_cancel_right found.0 (chars front) (chars rest) (sym found.1.parts) in
    subst (IsToken r.kind) same found.1.is

-- the same token, by what it says in Turtle
as_symbol : {front rest : List ℕ} {t : Token} (r : spelled.Reading front rest t) (s : Symbol) → symbol_of r.kind front ≡ s → Reading symbol_of front rest s
as_symbol r s e = record { utf8 = r.utf8; begins = r.begins; kind = r.kind; reads = r.reads; says = e }

-- ---- the pieces of a printed line

pub iri_reads : (iri rest : List ℕ) → IsIri iri → Reading symbol_of (written_iri iri) rest (symbol.iri iri)
iri_reads iri rest h =
    let r = iri_reading iri rest h in
    let inner : IsUtf8 (iri ++ 62 ∷ []) = IsUtf8-append iri (62 ∷ []) h.utf8 (low_utf8 62 (omega arith)) in
    let same : chars (written_iri iri) ≡ 60 ∷ (chars iri ++ 62 ∷ []) = low_chars 60 (iri ++ 62 ∷ []) (omega arith) ∙ ap (λ v. 60 ∷ v) (closed_chars iri 62 h.utf8 (omega arith)) in
    as_symbol r (symbol.iri iri)
    (iri_said (written_iri iri) (λ w. no_word 60 (chars iri ++ 62 ∷ []) refl (subst (IsToken kind.Word) same w)) (λ m. iri_no_mark (chars iri) (subst (IsToken kind.Mark) same m)) r.kind iri (is_token r) r.says)

pub form_reads : (text rest : List ℕ) → IsUtf8 text → scan.is 34 (chars rest) ≡ None → Reading symbol_of (written_form text) rest (symbol.text text)
form_reads text rest u stop =
    let r = form_reading text rest u stop in
    let same : chars (written_form text) ≡ 34 ∷ _ = low_chars 34 _ (omega arith) in
    as_symbol r (symbol.text text)
    (text_said (written_form text) (λ w. no_word 34 _ refl (subst (IsToken kind.Word) same w)) (λ m. no_mark 34 _ refl refl refl refl refl (subst (IsToken kind.Mark) same m)) r.kind text (is_token r) r.says)

pub tag_reads : (tag rest : List ℕ) → is_tag tag ≡ true → Reading symbol_of (64 ∷ tag) (32 ∷ rest) (symbol.tag tag)
tag_reads tag rest h =
    let r = tag_reading tag (32 ∷ rest) h (inr (rest, refl)) in
    let same : chars (64 ∷ tag) ≡ 64 ∷ chars tag = low_chars 64 tag (omega arith) in
    as_symbol r (symbol.tag tag)
    (tag_said (64 ∷ tag) (λ w. no_word 64 (chars tag) refl (subst (IsToken kind.Word) same w)) (λ m. no_mark 64 (chars tag) refl refl refl refl refl (subst (IsToken kind.Mark) same m)) r.kind tag (is_token r) r.says)

two_carets : chars (94 ∷ 94 ∷ []) ≡ 94 ∷ 94 ∷ []
unfolding chars
two_carets = refl

pub carets_read : (rest : List ℕ) → Reading symbol_of (94 ∷ 94 ∷ []) rest (symbol.plain k.CaretCaret)
carets_read rest =
    let r = carets_reading rest in
    let mark : IsToken kind.Mark (94 ∷ 94 ∷ []) =
    inr (inr (inr (inr (record { front = 94 ∷ []; back = 94 ∷ []; joined = refl; first = record { character = 94; alone = refl; holds = refl }; second = record { character = 94; alone = refl; holds = refl } })))) in
    let same : r.kind ≡ kind.Mark = one_kind r.kind kind.Mark (94 ∷ 94 ∷ []) (subst (IsToken r.kind) two_carets (is_token r)) mark in
    as_symbol r (symbol.plain k.CaretCaret) (ap (λ (a : TokenKind). symbol_of a (94 ∷ 94 ∷ [])) same)

one_dot : chars (46 ∷ []) ≡ 46 ∷ []
unfolding chars
one_dot = refl

dot_scanned : (rest : List ℕ) → scan.longest (46 ∷ 10 ∷ rest) ≡ Some (kind.Mark, 10 ∷ rest)
unfolding scan.longest scan.early scan.iri scan.iri_part scan.prefix_name scan.colon_local scan.long_prefix scan.local scan.local_start scan.local_escape scan.name_part scan.variable scan.blank scan.tag scan.tag_part scan.signed scan.exponent scan.pointed scan.dot_exponent scan.powered scan.unsigned scan.decimal scan.escape scan.text_part scan.short scan.long scan.three scan.string scan.word scan.pair scan.mark scan.one scan.skip
dot_scanned rest = refl

pub dot_reads : (rest : List ℕ) → Reading symbol_of (46 ∷ []) (10 ∷ rest) (symbol.plain k.Dot)
dot_reads rest =
    let whole : chars (46 ∷ []) ++ chars (10 ∷ rest) ≡ 46 ∷ 10 ∷ chars rest = ap (λ v. v ++ chars (10 ∷ rest)) one_dot ∙ ap (λ v. 46 ∷ v) (low_chars 10 rest (omega arith)) in
    record {
      utf8 = low_utf8 46 (omega arith);
      begins = subst BeginsToken (sym whole) refl;
      kind = kind.Mark;
      reads = ap scan.longest whole ∙ dot_scanned (chars rest) ∙ ap (λ (v : List ℕ). Some (kind.Mark, v)) (sym (low_chars 10 rest (omega arith)));
      says = refl;
    }
