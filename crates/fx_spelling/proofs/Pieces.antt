-- Texts that read as tokens, a piece after the other.
use Rattle.std.proofs.Common.{◌≡◌, ℕ, ◌+◌, ◌-◌, List, [], ◌∷◌, ◌++◌, length, map, Some, Ok, refl, sym, ap, ◌∙◌, subst, arith, append_assoc, length-append}
use Rattle.std.proofs.lemmas.List.{append_cancel_right}
use Rattle.std.proofs.Math.Seq.{take-append_seam, drop-append_seam}
use Rattle.std.specs.Prelude.{slice_range}
use Rattle.std.specs.Str.{chars, IsUtf8}
use Rattle.std.proofs.lemmas.Str.{IsUtf8-append, IsUtf8-nil, chars-append, chars-nil, encodes-chars}
use Rattle.fx_tokens.specs.Answers.{width}
use Rattle.fx_tokens.specs.Reads.{BeginsToken, Longest, Reads, ends, blank, token as one_token}
use Rattle.fx_tokens.specs.Scan as scan
use Rattle.fx_tokens.specs.declared.Token as read
use Rattle.fx_tokens.specs.declared.TokenKind.{TokenKind}
use Rattle.fx_tokens.proofs.Longest.{longest_some}
use Rattle.fx_grammar.specs.Classified.{token_of, says}
use Rattle.fx_grammar.specs.declared.kinds.Token.{Token}

-- a text that reads as one token before another text
pub record Reading (front rest : List ℕ) (t : Token) : Type 0 where
  pub utf8 : IsUtf8 front
  pub begins : BeginsToken (chars front ++ chars rest)
  pub kind : TokenKind
  pub reads : scan.longest (chars front ++ chars rest) ≡ Some (kind, chars rest)
  pub says : token_of kind front ≡ t

-- a text that reads as tokens
pub data SaysAll : List ℕ → List Token → Type 0 where
  nothing : {text : List ℕ} {tokens : List Token} → text ≡ [] → tokens ≡ [] → SaysAll text tokens
  space : {text : List ℕ} {tokens : List Token} (rest : List ℕ) → text ≡ 32 ∷ rest → SaysAll rest tokens → SaysAll text tokens
  piece : {text : List ℕ} {tokens : List Token} (front rest : List ℕ) (t : Token) (more : List Token) → text ≡ front ++ rest → tokens ≡ t ∷ more → Reading front rest t → SaysAll rest more → SaysAll text tokens

-- how it is read behind another
pub record Lexed (before text : List ℕ) (tokens : List Token) : Type 0 where
  pub utf8 : IsUtf8 text
  pub read : List read.Token
  pub lexed : Reads (length before) (chars text) (Ok read)
  pub says : map (says (before ++ text)) read ≡ tokens

pub slice_mid : (before mid after : List ℕ) → slice_range (before ++ (mid ++ after)) (length before) (length before + length mid) ≡ mid
slice_mid before mid after =
    let n : length before + length mid - length before ≡ length mid = omega arith in
    rw (n, drop-append_seam before (mid ++ after)) (take-append_seam mid after)

space_utf8 : IsUtf8 (32 ∷ [])
unfolding lib.Utf8.encode
space_utf8 = (32 ∷ [], (refl, refl))

one_space : chars (32 ∷ []) ≡ 32 ∷ []
unfolding chars
one_space = refl

pub space_chars : (rest : List ℕ) → chars (32 ∷ rest) ≡ 32 ∷ chars rest
space_chars rest = chars-append (32 ∷ []) rest space_utf8 ∙ ap (λ v. v ++ chars rest) one_space

width_chars : (text : List ℕ) → IsUtf8 text → width (chars text) ≡ length text
width_chars text u = ap (λ (v : List ℕ). length v) (encodes-chars text u)

at_space : (before rest : List ℕ) (tokens : List Token) → Lexed (before ++ 32 ∷ []) rest tokens → Lexed before (32 ∷ rest) tokens
unfolding lib.Utf8.encode
at_space before rest tokens l = record {
  utf8 = IsUtf8-append (32 ∷ []) rest space_utf8 l.utf8;
  read = l.read;
  lexed = blank 32 (chars rest) (space_chars rest) refl (subst (λ (n : ℕ). Reads n (chars rest) (Ok l.read)) (length-append before (32 ∷ [])) l.lexed);
  says = ap (λ (v : List ℕ). map (says v) l.read) (sym (append_assoc before (32 ∷ []) rest)) ∙ l.says;
}

at_piece : (before front rest : List ℕ) (t : Token) (more : List Token) → Reading front rest t → Lexed (before ++ front) rest more → Lexed before (front ++ rest) (t ∷ more)
at_piece before front rest t more r l =
    let both : chars (front ++ rest) ≡ chars front ++ chars rest = chars-append front rest r.utf8 in
    let found = longest_some (chars front ++ chars rest) r.kind (chars rest) r.reads in
    let same : found.0 ≡ chars front = append_cancel_right found.0 (chars front) (chars rest) (sym found.1.parts) in
    let long : Longest r.kind (chars front) (chars rest) (chars front ++ chars rest) = subst (λ (v : List ℕ). Longest r.kind v (chars rest) (chars front ++ chars rest)) same found.1 in
    let end : length before + width (chars front) ≡ length before + length front = ap (λ (n : ℕ). length before + n) (width_chars front r.utf8) in
    let behind : Reads (length before + width (chars front)) (chars rest) (Ok l.read) = subst (λ (n : ℕ). Reads n (chars rest) (Ok l.read)) (length-append before front ∙ sym end) l.lexed in
    let here : read.Token = record { kind = r.kind; start = length before; end = length before + width (chars front) } in
    let this : says (before ++ (front ++ rest)) here ≡ t = ap (λ (n : ℕ). token_of r.kind (slice_range (before ++ (front ++ rest)) (length before) n)) end ∙ ap (token_of r.kind) (slice_mid before front rest) ∙ r.says in
    record {
      utf8 = IsUtf8-append front rest r.utf8 l.utf8;
      read = here ∷ l.read;
      lexed = subst (λ (v : List ℕ). Reads (length before) v (Ok (here ∷ l.read))) (sym both) (one_token r.kind (chars front) (chars rest) (Ok l.read) r.begins long behind refl);
      says = ap (λ v. v ∷ map (says (before ++ (front ++ rest))) l.read) this ∙ ap (λ (v : List Token). t ∷ v) (ap (λ (v : List ℕ). map (says v) l.read) (sym (append_assoc before front rest)) ∙ l.says);
    }

pub lexes : (text : List ℕ) (tokens : List Token) → SaysAll text tokens → (before : List ℕ) → Lexed before text tokens
lexes text tokens (nothing e f) before = record {
  utf8 = subst IsUtf8 (sym e) IsUtf8-nil;
  read = [];
  lexed = ends (ap chars e ∙ chars-nil) refl;
  says = sym f;
}
lexes text tokens (space rest e s) before = subst (λ (v : List ℕ). Lexed before v tokens) (sym e) (at_space before rest tokens (lexes rest tokens s (before ++ 32 ∷ [])))
lexes text tokens (piece front rest t more e f r s) before =
    subst (λ (v : List Token). Lexed before text v) (sym f) (subst (λ (v : List ℕ). Lexed before v (t ∷ more)) (sym e) (at_piece before front rest t more r (lexes rest more s (before ++ front))))
