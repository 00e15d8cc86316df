-- The keywords and marks of a printed query read as one token each.
use Rattle.std.proofs.Common.{◌≡◌, ℕ, suc, ◌<◌, Bool, true, false, cond, List, [], ◌∷◌, ◌++◌, length, map, Some, None, refl, sym, ap, subst, arith, inl, inr, nat_lt, ◌||◌}
use Rattle.std.specs.Prelude.{codes}
use Rattle.std.specs.List.{list_all, list_any}
use Rattle.std.specs.Str.{bytes_eq, encode_utf8_all}
use Rattle.std.proofs.lemmas.Str.{encode_ascii}
use Rattle.std.proofs.lemmas.Bool.{lt-ltb}
use Rattle.std.specs.Cmp.Lexicographic.{same_text}
use Rattle.fx_tokens.specs.Answers.{width}
use Rattle.fx_tokens.specs.Reads.{BeginsToken}
use Rattle.fx_tokens.specs.Scan as scan
use Rattle.fx_tokens.specs.declared.TokenKind.{TokenKind}
use Rattle.fx_tokens.specs.declared.TokenKind.TheVariants as kind
use Rattle.fx_grammar.specs.Classified.{token_of}
use Rattle.fx_algebra.specs.Printed.{fixed}
use Rattle.fx_spelling.specs.Printable.{fixed_token, IsFine}

abbrev pub is_ascii : ℕ → Bool
is_ascii c = nat_lt c 128

-- a text of ASCII that reads as one token, at the end and before a space
pub record Fixed (text : List ℕ) : Type 0 where
  pub ascii : list_all is_ascii text ≡ true
  pub kind : TokenKind
  pub begins : (rest : List ℕ) → BeginsToken (text ++ rest)
  pub at_end : scan.longest (text ++ []) ≡ Some (kind, [])
  pub at_space : (rest : List ℕ) → scan.longest (text ++ 32 ∷ rest) ≡ Some (kind, 32 ∷ rest)
  pub says : token_of kind text ≡ fixed_token text

-- of two marks that begin alike the longer is taken
pub longer_mark : (c : ℕ) (rest : List ℕ) → c < 128 → scan.longer (Some (c ∷ rest)) (Some rest) ≡ Some rest
longer_mark c rest h =
    let w : width (c ∷ rest) ≡ suc (width rest) = ap (λ (v : List ℕ). length (v ++ encode_utf8_all rest)) (encode_ascii c h) in
    ap (λ (b : Bool). cond b (Some rest) (Some (c ∷ rest))) (lt-ltb (width rest) (width (c ∷ rest)) (omega (arith, w)))

pub marks_read : List ((text : List ℕ) × Fixed text)
unfolding scan.longest scan.early scan.iri scan.iri_part scan.prefix_name scan.colon_local scan.long_prefix scan.local scan.local_start scan.local_escape scan.name_part scan.variable scan.blank scan.tag scan.tag_part scan.signed scan.exponent scan.pointed scan.dot_exponent scan.powered scan.unsigned scan.decimal scan.escape scan.text_part scan.short scan.long scan.three scan.string scan.word scan.pair scan.mark scan.one scan.skip
marks_read =
    (codes "{", record { ascii = refl; kind = kind.Mark; begins = λ rest. refl; at_end = refl; at_space = λ rest. refl; says = refl }) ∷
    (codes "}", record { ascii = refl; kind = kind.Mark; begins = λ rest. refl; at_end = refl; at_space = λ rest. refl; says = refl }) ∷
    (codes "(", record { ascii = refl; kind = kind.Mark; begins = λ rest. refl; at_end = refl; at_space = λ rest. refl; says = refl }) ∷
    (codes ")", record { ascii = refl; kind = kind.Mark; begins = λ rest. refl; at_end = refl; at_space = λ rest. refl; says = refl }) ∷
    (codes ".", record { ascii = refl; kind = kind.Mark; begins = λ rest. refl; at_end = refl; at_space = λ rest. refl; says = refl }) ∷
    (codes ",", record { ascii = refl; kind = kind.Mark; begins = λ rest. refl; at_end = refl; at_space = λ rest. refl; says = refl }) ∷
    (codes "*", record { ascii = refl; kind = kind.Mark; begins = λ rest. refl; at_end = refl; at_space = λ rest. refl; says = refl }) ∷
    (codes "||", record { ascii = refl; kind = kind.Mark; begins = λ rest. refl; at_end = ap (scan.better None kind.Mark) (longer_mark 124 [] (omega arith)); at_space = λ rest. ap (scan.better None kind.Mark) (longer_mark 124 (32 ∷ rest) (omega arith)); says = refl }) ∷
    (codes "&&", record { ascii = refl; kind = kind.Mark; begins = λ rest. refl; at_end = refl; at_space = λ rest. refl; says = refl }) ∷
    (codes "!", record { ascii = refl; kind = kind.Mark; begins = λ rest. refl; at_end = refl; at_space = λ rest. refl; says = refl }) ∷
    (codes "+", record { ascii = refl; kind = kind.Mark; begins = λ rest. refl; at_end = refl; at_space = λ rest. refl; says = refl }) ∷
    (codes "-", record { ascii = refl; kind = kind.Mark; begins = λ rest. refl; at_end = refl; at_space = λ rest. refl; says = refl }) ∷
    (codes "=", record { ascii = refl; kind = kind.Mark; begins = λ rest. refl; at_end = refl; at_space = λ rest. refl; says = refl }) ∷
    (codes "!=", record { ascii = refl; kind = kind.Mark; begins = λ rest. refl; at_end = ap (scan.better None kind.Mark) (longer_mark 61 [] (omega arith)); at_space = λ rest. ap (scan.better None kind.Mark) (longer_mark 61 (32 ∷ rest) (omega arith)); says = refl }) ∷
    (codes "<", record { ascii = refl; kind = kind.Mark; begins = λ rest. refl; at_end = refl; at_space = λ rest. refl; says = refl }) ∷
    (codes ">", record { ascii = refl; kind = kind.Mark; begins = λ rest. refl; at_end = refl; at_space = λ rest. refl; says = refl }) ∷
    (codes "<=", record { ascii = refl; kind = kind.Mark; begins = λ rest. refl; at_end = ap (scan.better None kind.Mark) (longer_mark 61 [] (omega arith)); at_space = λ rest. ap (scan.better None kind.Mark) (longer_mark 61 (32 ∷ rest) (omega arith)); says = refl }) ∷
    (codes ">=", record { ascii = refl; kind = kind.Mark; begins = λ rest. refl; at_end = ap (scan.better None kind.Mark) (longer_mark 61 [] (omega arith)); at_space = λ rest. ap (scan.better None kind.Mark) (longer_mark 61 (32 ∷ rest) (omega arith)); says = refl }) ∷ []

pub query_words_read : List ((text : List ℕ) × Fixed text)
unfolding scan.longest scan.early scan.iri scan.iri_part scan.prefix_name scan.colon_local scan.long_prefix scan.local scan.local_start scan.local_escape scan.name_part scan.variable scan.blank scan.tag scan.tag_part scan.signed scan.exponent scan.pointed scan.dot_exponent scan.powered scan.unsigned scan.decimal scan.escape scan.text_part scan.short scan.long scan.three scan.string scan.word scan.pair scan.mark scan.one scan.skip
query_words_read =
    (codes "SELECT", record { ascii = refl; kind = kind.Word; begins = λ rest. refl; at_end = refl; at_space = λ rest. refl; says = refl }) ∷
    (codes "DISTINCT", record { ascii = refl; kind = kind.Word; begins = λ rest. refl; at_end = refl; at_space = λ rest. refl; says = refl }) ∷
    (codes "ASK", record { ascii = refl; kind = kind.Word; begins = λ rest. refl; at_end = refl; at_space = λ rest. refl; says = refl }) ∷
    (codes "WHERE", record { ascii = refl; kind = kind.Word; begins = λ rest. refl; at_end = refl; at_space = λ rest. refl; says = refl }) ∷
    (codes "ORDER", record { ascii = refl; kind = kind.Word; begins = λ rest. refl; at_end = refl; at_space = λ rest. refl; says = refl }) ∷
    (codes "BY", record { ascii = refl; kind = kind.Word; begins = λ rest. refl; at_end = refl; at_space = λ rest. refl; says = refl }) ∷
    (codes "ASC", record { ascii = refl; kind = kind.Word; begins = λ rest. refl; at_end = refl; at_space = λ rest. refl; says = refl }) ∷
    (codes "DESC", record { ascii = refl; kind = kind.Word; begins = λ rest. refl; at_end = refl; at_space = λ rest. refl; says = refl }) ∷
    (codes "LIMIT", record { ascii = refl; kind = kind.Word; begins = λ rest. refl; at_end = refl; at_space = λ rest. refl; says = refl }) ∷
    (codes "OFFSET", record { ascii = refl; kind = kind.Word; begins = λ rest. refl; at_end = refl; at_space = λ rest. refl; says = refl }) ∷
    (codes "UNION", record { ascii = refl; kind = kind.Word; begins = λ rest. refl; at_end = refl; at_space = λ rest. refl; says = refl }) ∷
    (codes "OPTIONAL", record { ascii = refl; kind = kind.Word; begins = λ rest. refl; at_end = refl; at_space = λ rest. refl; says = refl }) ∷
    (codes "MINUS", record { ascii = refl; kind = kind.Word; begins = λ rest. refl; at_end = refl; at_space = λ rest. refl; says = refl }) ∷
    (codes "SERVICE", record { ascii = refl; kind = kind.Word; begins = λ rest. refl; at_end = refl; at_space = λ rest. refl; says = refl }) ∷
    (codes "SILENT", record { ascii = refl; kind = kind.Word; begins = λ rest. refl; at_end = refl; at_space = λ rest. refl; says = refl }) ∷
    (codes "FILTER", record { ascii = refl; kind = kind.Word; begins = λ rest. refl; at_end = refl; at_space = λ rest. refl; says = refl }) ∷
    (codes "BIND", record { ascii = refl; kind = kind.Word; begins = λ rest. refl; at_end = refl; at_space = λ rest. refl; says = refl }) ∷
    (codes "AS", record { ascii = refl; kind = kind.Word; begins = λ rest. refl; at_end = refl; at_space = λ rest. refl; says = refl }) ∷
    (codes "VALUES", record { ascii = refl; kind = kind.Word; begins = λ rest. refl; at_end = refl; at_space = λ rest. refl; says = refl }) ∷
    (codes "UNDEF", record { ascii = refl; kind = kind.Word; begins = λ rest. refl; at_end = refl; at_space = λ rest. refl; says = refl }) ∷ []

pub expression_words_read : List ((text : List ℕ) × Fixed text)
unfolding scan.longest scan.early scan.iri scan.iri_part scan.prefix_name scan.colon_local scan.long_prefix scan.local scan.local_start scan.local_escape scan.name_part scan.variable scan.blank scan.tag scan.tag_part scan.signed scan.exponent scan.pointed scan.dot_exponent scan.powered scan.unsigned scan.decimal scan.escape scan.text_part scan.short scan.long scan.three scan.string scan.word scan.pair scan.mark scan.one scan.skip
expression_words_read =
    (codes "NOT", record { ascii = refl; kind = kind.Word; begins = λ rest. refl; at_end = refl; at_space = λ rest. refl; says = refl }) ∷
    (codes "IN", record { ascii = refl; kind = kind.Word; begins = λ rest. refl; at_end = refl; at_space = λ rest. refl; says = refl }) ∷
    (codes "BOUND", record { ascii = refl; kind = kind.Word; begins = λ rest. refl; at_end = refl; at_space = λ rest. refl; says = refl }) ∷
    (codes "COALESCE", record { ascii = refl; kind = kind.Word; begins = λ rest. refl; at_end = refl; at_space = λ rest. refl; says = refl }) ∷
    (codes "IF", record { ascii = refl; kind = kind.Word; begins = λ rest. refl; at_end = refl; at_space = λ rest. refl; says = refl }) ∷
    (codes "STR", record { ascii = refl; kind = kind.Word; begins = λ rest. refl; at_end = refl; at_space = λ rest. refl; says = refl }) ∷
    (codes "LANG", record { ascii = refl; kind = kind.Word; begins = λ rest. refl; at_end = refl; at_space = λ rest. refl; says = refl }) ∷
    (codes "DATATYPE", record { ascii = refl; kind = kind.Word; begins = λ rest. refl; at_end = refl; at_space = λ rest. refl; says = refl }) ∷
    (codes "STRLEN", record { ascii = refl; kind = kind.Word; begins = λ rest. refl; at_end = refl; at_space = λ rest. refl; says = refl }) ∷
    (codes "isIRI", record { ascii = refl; kind = kind.Word; begins = λ rest. refl; at_end = refl; at_space = λ rest. refl; says = refl }) ∷
    (codes "isLITERAL", record { ascii = refl; kind = kind.Word; begins = λ rest. refl; at_end = refl; at_space = λ rest. refl; says = refl }) ∷
    (codes "isBLANK", record { ascii = refl; kind = kind.Word; begins = λ rest. refl; at_end = refl; at_space = λ rest. refl; says = refl }) ∷
    (codes "isNUMERIC", record { ascii = refl; kind = kind.Word; begins = λ rest. refl; at_end = refl; at_space = λ rest. refl; says = refl }) ∷
    (codes "LANGMATCHES", record { ascii = refl; kind = kind.Word; begins = λ rest. refl; at_end = refl; at_space = λ rest. refl; says = refl }) ∷
    (codes "sameTerm", record { ascii = refl; kind = kind.Word; begins = λ rest. refl; at_end = refl; at_space = λ rest. refl; says = refl }) ∷
    (codes "CONTAINS", record { ascii = refl; kind = kind.Word; begins = λ rest. refl; at_end = refl; at_space = λ rest. refl; says = refl }) ∷
    (codes "STRSTARTS", record { ascii = refl; kind = kind.Word; begins = λ rest. refl; at_end = refl; at_space = λ rest. refl; says = refl }) ∷
    (codes "STRENDS", record { ascii = refl; kind = kind.Word; begins = λ rest. refl; at_end = refl; at_space = λ rest. refl; says = refl }) ∷ []

find_next : (p : (text : List ℕ) × Fixed text) (text : List ℕ) (b rest : Bool) → bytes_eq text p.0 ≡ b → (rest ≡ true → Fixed text) → (b || rest) ≡ true → Fixed text
find_next p text true rest e further h = subst Fixed (sym (same_text text p.0 (sym e))) p.1
find_next p text false rest e further h = further h

find : (pieces : List ((text : List ℕ) × Fixed text)) (text : List ℕ) → list_any (bytes_eq text) (map (λ p. p.0) pieces) ≡ true → Fixed text
find [] text h = absurd (cc)
find (p ∷ pieces) text h = find_next p text (bytes_eq text p.0) (list_any (bytes_eq text) (map (λ p. p.0) pieces)) refl (find pieces text) h

pub fixed_reads : (text : List ℕ) → IsFine (fixed text) → Fixed text
unfolding marks_read query_words_read expression_words_read
fixed_reads text h = elim h [ inl a ↦ find marks_read text a | inr b ↦ elim b [ inl c ↦ find query_words_read text c | inr d ↦ find expression_words_read text d ] ]
