-- What tokens say: names are names, IRIs are IRIs, and texts are UTF-8.
use Rattle.std.proofs.Common.{◌≡◌, ℕ, zero, suc, ◌+◌, ◌*◌, Bool, true, false, cond, List, [], ◌∷◌, length, map, drop, Option, Some, None, Ok, Err, Result, refl, ap, arith}
use Rattle.std.specs.Prelude.{codes, ◌==◌, ◌||◌, All, slice_range}
use Rattle.std.specs.Option.{unwrap_or}
use Rattle.std.specs.Char.{digit_value, is_ascii_hexdigit, to_ascii_uppercase}
use Rattle.std.specs.Str.{chars, IsUtf8, encode_utf8_all, bytes_eq}
use Rattle.std.proofs.lemmas.Bool.{and_from, and_parts}
use Rattle.std.proofs.lemmas.Bool.Decides.{nat_tests}
use Rattle.std.proofs.lemmas.List.Elements.{All-head, All-tail}
use Rattle.std.proofs.lemmas.Str.{scalars-chars, IsUtf8-between}
use lib.Utf8.{scalar, scalars}
use Rattle.fx_terms.specs.Iris.{read_iri}
use Rattle.fx_terms.specs.Names as names
use Rattle.fx_terms.specs.declared.iris.TermError.{TermError}
use Rattle.fx_tokens.specs.Classes as class
use Rattle.fx_tokens.specs.Decoding.{between_quotes, is_long, decoded, unescaped, closes, next, escape, coded, eight, letter, char_of, behind_first, first, local, behind_colon}
use Rattle.fx_tokens.specs.Scan as scan
use Rattle.fx_tokens.specs.Reads.{Reads, IsSlice}
use Rattle.fx_tokens.specs.declared.Token as read
use Rattle.fx_tokens.specs.declared.TokenKind.{TokenKind}
use Rattle.fx_tokens.specs.declared.TokenKind.TheVariants as kind
use Rattle.fx_tokens.specs.declared.decoding.Closing.{Closing}
use Rattle.fx_tokens.specs.declared.decoding.Closing.TheVariants.{One as OneSign, Three}
use Rattle.fx_tokens.proofs.Slices.{slices}
use Rattle.fx_algebra.specs.declared.expressions.Compare.{Compare}
use Rattle.fx_algebra.specs.declared.expressions.Function.{Function}
use Rattle.fx_algebra.specs.declared.expressions.Function.TheVariants as function
use Rattle.fx_grammar.specs.Classified.{token_of, says, iri_or, variable_of}
use Rattle.fx_grammar.specs.Keywords as keywords
use Rattle.fx_grammar.specs.declared.kinds.Kind.TheVariants as k
use Rattle.fx_grammar.specs.declared.kinds.Token.{Token}
use Rattle.fx_grammar.specs.declared.kinds.Token.TheVariants as token_is
use Rattle.fx_spelling.proofs.Tracking.{GoodToken, AllGood, is_one_function, is_two_function}
use Rattle.fx_spelling.proofs.Taken.{read_is}

-- ---- characters

utf8_of : (cs : List ℕ) → scalars cs ≡ true → IsUtf8 (encode_utf8_all cs)
utf8_of cs h = (cs, (h, refl))

scalars_tail : (cs : List ℕ) → scalars cs ≡ true → scalars (drop 1 cs) ≡ true
scalars_tail [] h = refl
scalars_tail (c ∷ cs) h = (and_parts (scalar c) (scalars cs) h).1

behind_utf8 : (text : List ℕ) → IsUtf8 text → IsUtf8 (behind_first text)
behind_utf8 text u = utf8_of (drop 1 (chars text)) (scalars_tail (chars text) (scalars-chars text u))

scalar_class : (c : ℕ) → class.is_scalar c ≡ true → scalar c ≡ true
scalar_class c h = grind (arith, nat_tests)

char_scalar : (n : ℕ) → scalar (char_of n) ≡ true
char_scalar n = go (class.is_scalar n) refl
  where
    go : (b : Bool) → class.is_scalar n ≡ b → scalar (cond b n 0xFFFD) ≡ true
    go true e = scalar_class n e
    go false e = refl

letter_scalar : (c : ℕ) → scalar c ≡ true → scalar (letter c) ≡ true
letter_scalar c h = go (c == 116) (c == 98) (c == 110) (c == 114) (c == 102) (c == 34 || c == 39 || c == 92)
  where
    go : (a b d e f g : Bool) → scalar (unwrap_or (cond a (Some 9) (cond b (Some 8) (cond d (Some 10) (cond e (Some 13) (cond f (Some 12) (cond g (Some c) None)))))) c) ≡ true
    go true b d e f g = refl
    go false true d e f g = refl
    go false false true e f g = refl
    go false false false true f g = refl
    go false false false false true g = refl
    go false false false false false true = h
    go false false false false false false = h

abbrev RestScalars : Option (ℕ × List ℕ) → Type 0
RestScalars None = Unit {0}
RestScalars (Some p) = scalars p.1 ≡ true

and_scalars : (o : Option (ℕ × List ℕ)) (f : ℕ → List ℕ → Option (ℕ × List ℕ)) → RestScalars o → ((high : ℕ) (text : List ℕ) → scalars text ≡ true → RestScalars (f high text)) → RestScalars (scan.and_number o f)
and_scalars None f h g = tt
and_scalars (Some p) f h g = g p.0 p.1 h

digit_scalars : (high : ℕ) (text : List ℕ) → scalars text ≡ true → RestScalars (scan.digit high text)
unfolding scan.digit
digit_scalars high [] h = tt
digit_scalars high (c ∷ text) h = go (is_ascii_hexdigit c)
  where
    go : (b : Bool) → RestScalars (cond b (Some (high * 16 + digit_value c, text)) None)
    go true = (and_parts (scalar c) (scalars text) h).1
    go false = tt

hexes_scalars : (n high : ℕ) (text : List ℕ) → scalars text ≡ true → RestScalars (scan.hexes n high text)
unfolding scan.hexes
hexes_scalars zero high text h = h
hexes_scalars (suc n) high text h = and_scalars (scan.digit high text) (scan.hexes n) (digit_scalars high text h) (hexes_scalars n)

abbrev Scalars : ℕ × List ℕ → Type 0
Scalars p = (scalar p.0 ≡ true) × (scalars p.1 ≡ true)

coded_scalars : (o : Option (ℕ × List ℕ)) (text : List ℕ) → RestScalars o → scalars text ≡ true → Scalars (coded o text)
coded_scalars None text r h = (refl, h)
coded_scalars (Some p) text r h = (char_scalar p.0, r)

escape_scalars : (text : List ℕ) → scalars text ≡ true → Scalars (escape text)
unfolding escape
escape_scalars [] h = (refl, refl)
escape_scalars (c ∷ text) h = go (c == 117) (c == 85) (and_parts (scalar c) (scalars text) h).0 (and_parts (scalar c) (scalars text) h).1
  where
    go : (a b : Bool) → scalar c ≡ true → scalars text ≡ true → Scalars (cond a (coded (scan.hexes 4 0 text) text) (cond b (coded (eight text) text) (letter c, text)))
    go true b x y = coded_scalars (scan.hexes 4 0 text) text (hexes_scalars 4 0 text y) y
    go false true x y = coded_scalars (eight text) text (and_scalars (scan.hexes 4 0 text) (scan.hexes 4) (hexes_scalars 4 0 text y) (hexes_scalars 4)) y
    go false false x y = (letter_scalar c x, y)

next_scalars : (c : ℕ) (text : List ℕ) → scalar c ≡ true → scalars text ≡ true → Scalars (next c text)
next_scalars c text h g = go (c == 92)
  where
    go : (b : Bool) → Scalars (cond b (escape text) (c, text))
    go true = escape_scalars text g
    go false = (h, g)

unescaped_scalars : (closing : Closing) (n : ℕ) (text : List ℕ) → scalars text ≡ true → scalars (unescaped closing n text) ≡ true
unfolding unescaped
unescaped_scalars closing zero text h = refl
unescaped_scalars closing (suc n) [] h = refl
unescaped_scalars closing (suc n) (c ∷ text) h =
    let t = and_parts (scalar c) (scalars text) h in
    let p = next_scalars c text t.0 t.1 in
    unescaped_turn (closes closing (c ∷ text)) (next c text).0 (unescaped closing n (next c text).1) p.0 (unescaped_scalars closing n (next c text).1 p.1)
  where
    unescaped_turn : (b : Bool) (d : ℕ) (rest : List ℕ) → scalar d ≡ true → scalars rest ≡ true → scalars (cond b [] (d ∷ rest)) ≡ true
    unescaped_turn true d rest x y = refl
    unescaped_turn false d rest x y = and_from (scalar d) (scalars rest) x y

decoded_utf8 : (closing : Closing) (text : List ℕ) → IsUtf8 text → IsUtf8 (decoded closing text)
decoded_utf8 closing text u = utf8_of (unescaped closing (length text) (chars text)) (unescaped_scalars closing (length text) (chars text) (scalars-chars text u))

quotes_utf8 : (text : List ℕ) → IsUtf8 text → IsUtf8 (between_quotes text)
quotes_utf8 text u = go (is_long text)
  where
    go : (b : Bool) → IsUtf8 (cond b (decoded (Three (first (chars text))) (behind_first (behind_first (behind_first text)))) (decoded (OneSign (first (chars text))) (behind_first text)))
    go true = decoded_utf8 (Three (first (chars text))) (behind_first (behind_first (behind_first text))) (behind_utf8 (behind_first (behind_first text)) (behind_utf8 (behind_first text) (behind_utf8 text u)))
    go false = decoded_utf8 (OneSign (first (chars text))) (behind_first text) (behind_utf8 text u)

colon_scalars : (cs : List ℕ) → scalars cs ≡ true → scalars (behind_colon cs) ≡ true
unfolding behind_colon
colon_scalars [] h = refl
colon_scalars (c ∷ cs) h = colon_turn (c == 58) (scalars_tail (c ∷ cs) h) (colon_scalars cs (scalars_tail (c ∷ cs) h))
  where
    colon_turn : (b : Bool) → scalars cs ≡ true → scalars (behind_colon cs) ≡ true → scalars (cond b cs (behind_colon cs)) ≡ true
    colon_turn true x y = x
    colon_turn false x y = y

local_scalars : (cs : List ℕ) → scalars cs ≡ true → scalars (local cs) ≡ true
unfolding local
local_scalars [] h = refl
local_scalars (c ∷ cs) h = local_turn (c == 92) (local_scalars cs (scalars_tail (c ∷ cs) h))
  where
    local_turn : (b : Bool) → scalars (local cs) ≡ true → scalars (cond b (local cs) (c ∷ local cs)) ≡ true
    local_turn true x = x
    local_turn false x = and_from (scalar c) (scalars (local cs)) (and_parts (scalar c) (scalars cs) h).0 x

-- ---- keywords and marks

abbrev GoodMaybe : Option Token → Type 0
GoodMaybe None = Unit {0}
GoodMaybe (Some t) = GoodToken t

abbrev GoodOne : Option Function → Type 0
GoodOne None = Unit {0}
GoodOne (Some f) = is_one_function f ≡ true

abbrev GoodTwo : Option Function → Type 0
GoodTwo None = Unit {0}
GoodTwo (Some f) = is_two_function f ≡ true

cond_good : (b : Bool) (t : Token) (rest : Option Token) → GoodToken t → GoodMaybe rest → GoodMaybe (cond b (Some t) rest)
cond_good true t rest g h = g
cond_good false t rest g h = h

cond_one : (b : Bool) (f : Function) (rest : Option Function) → is_one_function f ≡ true → GoodOne rest → GoodOne (cond b (Some f) rest)
cond_one true f rest g h = g
cond_one false f rest g h = h

cond_two : (b : Bool) (f : Function) (rest : Option Function) → is_two_function f ≡ true → GoodTwo rest → GoodTwo (cond b (Some f) rest)
cond_two true f rest g h = g
cond_two false f rest g h = h

form_word_good : (text : List ℕ) → GoodMaybe (keywords.form_word text)
form_word_good text =
    (cond_good (bytes_eq text (codes "PREFIX")) (token_is.Plain k.Prefix) _ tt
    (cond_good (bytes_eq text (codes "SELECT")) (token_is.Plain k.Select) _ tt
    (cond_good (bytes_eq text (codes "ASK")) (token_is.Plain k.Ask) _ tt
    (cond_good (bytes_eq text (codes "DISTINCT")) (token_is.Plain k.Distinct) _ tt
    (cond_good (bytes_eq text (codes "REDUCED")) (token_is.Plain k.Reduced) _ tt
    (cond_good (bytes_eq text (codes "WHERE")) (token_is.Plain k.Where) _ tt
    (cond_good (bytes_eq text (codes "ORDER")) (token_is.Plain k.Order) _ tt
    (cond_good (bytes_eq text (codes "BY")) (token_is.Plain k.By) _ tt
    (cond_good (bytes_eq text (codes "ASC")) (token_is.Plain k.Asc) _ tt
    (cond_good (bytes_eq text (codes "DESC")) (token_is.Plain k.Desc) _ tt
    (cond_good (bytes_eq text (codes "LIMIT")) (token_is.Plain k.Limit) _ tt
    (cond_good (bytes_eq text (codes "OFFSET")) (token_is.Plain k.Offset) _ tt tt))))))))))))

group_word_good : (text : List ℕ) → GoodMaybe (keywords.group_word text)
group_word_good text =
    (cond_good (bytes_eq text (codes "UNION")) (token_is.Plain k.Union) _ tt
    (cond_good (bytes_eq text (codes "OPTIONAL")) (token_is.Plain k.Optional) _ tt
    (cond_good (bytes_eq text (codes "MINUS")) (token_is.Plain k.Minus) _ tt
    (cond_good (bytes_eq text (codes "SERVICE")) (token_is.Plain k.Service) _ tt
    (cond_good (bytes_eq text (codes "SILENT")) (token_is.Plain k.Silent) _ tt
    (cond_good (bytes_eq text (codes "FILTER")) (token_is.Plain k.Filter) _ tt
    (cond_good (bytes_eq text (codes "BIND")) (token_is.Plain k.Bind) _ tt
    (cond_good (bytes_eq text (codes "AS")) (token_is.Plain k.As) _ tt
    (cond_good (bytes_eq text (codes "VALUES")) (token_is.Plain k.Values) _ tt
    (cond_good (bytes_eq text (codes "UNDEF")) (token_is.Plain k.Undef) _ tt tt))))))))))

expression_word_good : (text : List ℕ) → GoodMaybe (keywords.expression_word text)
expression_word_good text =
    (cond_good (bytes_eq text (codes "TRUE")) (token_is.Plain k.True) _ tt
    (cond_good (bytes_eq text (codes "FALSE")) (token_is.Plain k.False) _ tt
    (cond_good (bytes_eq text (codes "NOT")) (token_is.Plain k.Not) _ tt
    (cond_good (bytes_eq text (codes "IN")) (token_is.Plain k.In) _ tt
    (cond_good (bytes_eq text (codes "BOUND")) (token_is.Plain k.Bound) _ tt
    (cond_good (bytes_eq text (codes "COALESCE")) (token_is.Plain k.Coalesce) _ tt
    (cond_good (bytes_eq text (codes "IF")) (token_is.Plain k.If) _ tt
    (cond_good (bytes_eq text (codes "FROM")) (token_is.Plain k.From) _ tt
    (cond_good (bytes_eq text (codes "GROUP")) (token_is.Plain k.Grouping) _ tt
    (cond_good (bytes_eq text (codes "HAVING")) (token_is.Plain k.Grouping) _ tt
    (cond_good (bytes_eq text (codes "GRAPH")) (token_is.Plain k.Graph) _ tt tt)))))))))))

first_marks_good : (text : List ℕ) → GoodMaybe (keywords.first_marks text)
first_marks_good text =
    (cond_good (bytes_eq text (codes "{")) (token_is.Plain k.LeftBrace) _ tt
    (cond_good (bytes_eq text (codes "}")) (token_is.Plain k.RightBrace) _ tt
    (cond_good (bytes_eq text (codes "(")) (token_is.Plain k.LeftParen) _ tt
    (cond_good (bytes_eq text (codes ")")) (token_is.Plain k.RightParen) _ tt
    (cond_good (bytes_eq text (codes "[")) (token_is.Plain k.LeftBracket) _ tt
    (cond_good (bytes_eq text (codes ".")) (token_is.Plain k.Dot) _ tt
    (cond_good (bytes_eq text (codes ";")) (token_is.Plain k.Semicolon) _ tt
    (cond_good (bytes_eq text (codes ",")) (token_is.Plain k.Comma) _ tt
    (cond_good (bytes_eq text (codes "*")) (token_is.Plain k.Star) _ tt
    (cond_good (bytes_eq text (codes "/")) (token_is.Plain k.Slash) _ tt tt))))))))))

second_marks_good : (text : List ℕ) → GoodMaybe (keywords.second_marks text)
second_marks_good text =
    (cond_good (bytes_eq text (codes "|")) (token_is.Plain k.Bar) _ tt
    (cond_good (bytes_eq text (codes "^")) (token_is.Plain k.Caret) _ tt
    (cond_good (bytes_eq text (codes "+")) (token_is.Plain k.Plus) _ tt
    (cond_good (bytes_eq text (codes "-")) (token_is.Plain k.Dash) _ tt
    (cond_good (bytes_eq text (codes "?")) (token_is.Plain k.Question) _ tt
    (cond_good (bytes_eq text (codes "!")) (token_is.Plain k.Bang) _ tt
    (cond_good (bytes_eq text (codes "&&")) (token_is.Plain k.AndAnd) _ tt
    (cond_good (bytes_eq text (codes "||")) (token_is.Plain k.OrOr) _ tt
    (cond_good (bytes_eq text (codes "^^")) (token_is.Plain k.CaretCaret) _ tt tt)))))))))

one_word_good : (text : List ℕ) → GoodOne (keywords.one_word text)
one_word_good text =
    (cond_one (bytes_eq text (codes "STR")) function.Str _ refl
    (cond_one (bytes_eq text (codes "LANG")) function.Lang _ refl
    (cond_one (bytes_eq text (codes "DATATYPE")) function.Datatype _ refl
    (cond_one (bytes_eq text (codes "STRLEN")) function.StrLen _ refl
    (cond_one (bytes_eq text (codes "ISIRI")) function.IsIri _ refl
    (cond_one (bytes_eq text (codes "ISURI")) function.IsIri _ refl
    (cond_one (bytes_eq text (codes "ISLITERAL")) function.IsLiteral _ refl
    (cond_one (bytes_eq text (codes "ISBLANK")) function.IsBlank _ refl
    (cond_one (bytes_eq text (codes "ISNUMERIC")) function.IsNumeric _ refl tt)))))))))

two_word_good : (text : List ℕ) → GoodTwo (keywords.two_word text)
two_word_good text =
    (cond_two (bytes_eq text (codes "LANGMATCHES")) function.LangMatches _ refl
    (cond_two (bytes_eq text (codes "SAMETERM")) function.SameTerm _ refl
    (cond_two (bytes_eq text (codes "CONTAINS")) function.Contains _ refl
    (cond_two (bytes_eq text (codes "STRSTARTS")) function.StrStarts _ refl
    (cond_two (bytes_eq text (codes "STRENDS")) function.StrEnds _ refl tt)))))

found_good : (o : Option Token) (t : Token) → GoodMaybe o → GoodToken t → GoodToken (keywords.found_or o t)
found_good None t h g = g
found_good (Some s) t h g = h

other_good : (text : List ℕ) → GoodToken (keywords.other_word text)
other_good text = go (keywords.is_other_form text) (keywords.is_other_call text)
  where
    go : (a b : Bool) → GoodToken (cond a (token_is.Plain k.OtherForm) (cond b (token_is.Plain k.OtherCall) (token_is.Plain k.Other)))
    go true b = tt
    go false true = tt
    go false false = tt

two_call_good : (o : Option Function) (text : List ℕ) → GoodTwo o → GoodToken (keywords.two_call o text)
two_call_good None text h = other_good text
two_call_good (Some f) text h = h

one_call_good : (o : Option Function) (text : List ℕ) → GoodOne o → GoodToken (keywords.one_call o text)
one_call_good None text h = two_call_good (keywords.two_word text) text (two_word_good text)
one_call_good (Some f) text h = h

keyword_good : (text : List ℕ) → GoodToken (keywords.keyword text)
keyword_good text =
    found_good (keywords.form_word text) _ (form_word_good text)
    (found_good (keywords.group_word text) _ (group_word_good text) (found_good (keywords.expression_word text) (keywords.call_word text) (expression_word_good text) (one_call_good (keywords.one_word text) text (one_word_good text))))

word_good : (text : List ℕ) → GoodToken (keywords.word text)
word_good text = go (bytes_eq text (codes "a"))
  where
    go : (b : Bool) → GoodToken (cond b (token_is.Plain k.A) (keywords.keyword (map to_ascii_uppercase text)))
    go true = tt
    go false = keyword_good (map to_ascii_uppercase text)

compared_good : (o : Option Compare) (t : Token) → GoodToken t → GoodToken (keywords.compared o t)
compared_good None t h = h
compared_good (Some op) t h = tt

mark_good : (text : List ℕ) → GoodToken (keywords.mark text)
mark_good text = compared_good (keywords.comparison text) _ (found_good (keywords.first_marks text) _ (first_marks_good text) (found_good (keywords.second_marks text) (token_is.Plain k.Other) (second_marks_good text) tt))

-- ---- what each kind says

iri_good : (text : List ℕ) (r : Result (List ℕ) TermError) → read_iri text ≡ r → IsUtf8 text → GoodToken (iri_or r)
iri_good text (Ok iri) e u = read_is text iri u e
iri_good text (Err why) e u = tt

name_good : (text : List ℕ) (b : Bool) → names.is_name (chars text) ≡ b → IsUtf8 text → GoodToken (variable_of (names.named text b))
name_good text true e u = record { utf8 = u; name = ap (names.named text) e }
name_good text false e u = tt

said_good : (a : TokenKind) (text : List ℕ) → IsUtf8 text → GoodToken (token_of a text)
said_good kind.Iri text u = iri_good (decoded (OneSign 62) (behind_first text)) (read_iri (decoded (OneSign 62) (behind_first text))) refl (decoded_utf8 (OneSign 62) (behind_first text) (behind_utf8 text u))
said_good kind.PrefixName text u = utf8_of (local (behind_colon (chars text))) (local_scalars (behind_colon (chars text)) (colon_scalars (chars text) (scalars-chars text u)))
said_good kind.Variable text u = name_good (behind_first text) (names.is_name (chars (behind_first text))) refl (behind_utf8 text u)
said_good kind.Blank text u = tt
said_good kind.Tag text u = tt
said_good kind.Integer text u = u
said_good kind.Signed text u = u
said_good kind.Decimal text u = tt
said_good kind.Text text u = quotes_utf8 text u
said_good kind.Word text u = word_good text
said_good kind.Mark text u = mark_good text

all_said : (text : List ℕ) (tokens : List read.Token) → IsUtf8 text → All (IsSlice text) tokens → AllGood (map (says text) tokens)
all_said text [] u h = tt
all_said text (t ∷ tokens) u h =
    let s = All-head (IsSlice text) t tokens h in
    (said_good t.kind (slice_range text t.start t.end) (IsUtf8-between text t.start t.end u (omega (arith, s.some)) s.from s.to), all_said text tokens u (All-tail (IsSlice text) t tokens h))

-- the tokens of a text
pub lexed_good : (text : List ℕ) (tokens : List read.Token) → IsUtf8 text → Reads 0 (chars text) (Ok tokens) → AllGood (map (says text) tokens)
lexed_good text tokens u r = all_said text tokens u (slices {V = List read.Token} (λ v. v) text (Ok tokens) u r).0
