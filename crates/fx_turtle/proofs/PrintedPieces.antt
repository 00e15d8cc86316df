-- Texts that read as tokens, a piece after the other, by what is made of each token.
use Rattle.std.proofs.Common.{◌≡◌, ℕ, ◌+◌, ◌-◌, ◌<◌, true, List, [], ◌∷◌, ◌++◌, length, map, Some, Ok, refl, sym, ap, ◌∙◌, subst, arith, append_assoc, length-append}
use Rattle.std.proofs.lemmas.Bool.Decides.{nat_tests}
use Rattle.std.proofs.lemmas.List.{append_cancel_right}
use Rattle.std.proofs.Math.Seq.{take-append_seam, drop-append_seam}
use Rattle.std.specs.Prelude.{slice_range}
use Rattle.std.specs.Str.{chars, IsUtf8}
use Rattle.std.proofs.lemmas.Str.{IsUtf8-append, IsUtf8-nil, chars-append, chars-nil, encodes-chars, encode_ascii}
use Rattle.fx_tokens.specs.Answers.{width}
use Rattle.fx_tokens.specs.Classes.{is_white_space}
use Rattle.fx_tokens.specs.Reads.{BeginsToken, Longest, Reads, ends, blank, token as one_token}
use Rattle.fx_tokens.specs.Scan as scan
use Rattle.fx_tokens.specs.declared.Token as read
use Rattle.fx_tokens.specs.declared.TokenKind.{TokenKind}
use Rattle.fx_tokens.proofs.Longest.{longest_some}
use Rattle.fx_spelling.proofs.Words.{low_chars, low_utf8}

-- ---- places

white_low : (c : ℕ) → is_white_space c ≡ true → c < 128
white_low c h = grind (arith, nat_tests)

white_width : (c : ℕ) → c < 128 → width (c ∷ []) ≡ 1
white_width c l = ap (λ (v : List ℕ). length (v ++ [])) (encode_ascii c l)

slice_mid : (before mid after : List ℕ) → slice_range (before ++ (mid ++ after)) (length before) (length before + length mid) ≡ mid
slice_mid before mid after =
    let n : length before + length mid - length before ≡ length mid = omega arith in
    rw (n, drop-append_seam before (mid ++ after)) (take-append_seam mid after)

width_chars : (text : List ℕ) → IsUtf8 text → width (chars text) ≡ length text
width_chars text u = ap (λ (v : List ℕ). length v) (encodes-chars text u)

-- ---- what is made of a token of a kind and its text

module _ {A : Type 0} (say : TokenKind → List ℕ → A) where
  abbrev pub says : List ℕ → read.Token → A
  says bytes t = say t.kind (slice_range bytes t.start t.end)

  -- a text that reads as one token before another text
  pub record Reading (front rest : List ℕ) (said : A) : Type 0 where
    pub utf8 : IsUtf8 front
    pub begins : BeginsToken (chars front ++ chars rest)
    pub kind : TokenKind
    pub reads : scan.longest (chars front ++ chars rest) ≡ Some (kind, chars rest)
    pub says : say kind front ≡ said

  -- a text that reads as tokens
  pub data SaysAll : List ℕ → List A → Type 0 where
    nothing : {text : List ℕ} {said : List A} → text ≡ [] → said ≡ [] → SaysAll text said
    space : {text : List ℕ} {said : List A} (c : ℕ) (rest : List ℕ) → is_white_space c ≡ true → text ≡ c ∷ rest → SaysAll rest said → SaysAll text said
    piece : {text : List ℕ} {said : List A} (front rest : List ℕ) (a : A) (more : List A) → text ≡ front ++ rest → said ≡ a ∷ more → Reading front rest a → SaysAll rest more → SaysAll text said

  -- how it is read behind another
  pub record Lexed (before text : List ℕ) (said : List A) : Type 0 where
    pub utf8 : IsUtf8 text
    pub read : List read.Token
    pub lexed : Reads (length before) (chars text) (Ok read)
    pub says : map (says (before ++ text)) read ≡ said

  at_space : (before : List ℕ) (c : ℕ) (rest : List ℕ) (said : List A) → is_white_space c ≡ true → Lexed (before ++ c ∷ []) rest said → Lexed before (c ∷ rest) said
  at_space before c rest said h l =
      let low = white_low c h in
      let further : length (before ++ c ∷ []) ≡ length before + width (c ∷ []) = length-append before (c ∷ []) ∙ ap (λ (n : ℕ). length before + n) (sym (white_width c low)) in
      record {
        utf8 = IsUtf8-append (c ∷ []) rest (low_utf8 c low) l.utf8;
        read = l.read;
        lexed = blank c (chars rest) (low_chars c rest low) h (subst (λ (n : ℕ). Reads n (chars rest) (Ok l.read)) further l.lexed);
        says = ap (λ (v : List ℕ). map (says v) l.read) (sym (append_assoc before (c ∷ []) rest)) ∙ l.says;
      }

  at_piece : (before front rest : List ℕ) (a : A) (more : List A) → Reading front rest a → Lexed (before ++ front) rest more → Lexed before (front ++ rest) (a ∷ more)
  at_piece before front rest a more r l =
      let both : chars (front ++ rest) ≡ chars front ++ chars rest = chars-append front rest r.utf8 in
      let found = longest_some (chars front ++ chars rest) r.kind (chars rest) r.reads in
      let same : found.0 ≡ chars front = append_cancel_right found.0 (chars front) (chars rest) (sym found.1.parts) in
      let long : Longest r.kind (chars front) (chars rest) (chars front ++ chars rest) = subst (λ (v : List ℕ). Longest r.kind v (chars rest) (chars front ++ chars rest)) same found.1 in
      let end : length before + width (chars front) ≡ length before + length front = ap (λ (n : ℕ). length before + n) (width_chars front r.utf8) in
      let behind : Reads (length before + width (chars front)) (chars rest) (Ok l.read) = subst (λ (n : ℕ). Reads n (chars rest) (Ok l.read)) (length-append before front ∙ sym end) l.lexed in
      let here : read.Token = record { kind = r.kind; start = length before; end = length before + width (chars front) } in
      let this : says (before ++ (front ++ rest)) here ≡ a = ap (λ (n : ℕ). say r.kind (slice_range (before ++ (front ++ rest)) (length before) n)) end ∙ ap (say r.kind) (slice_mid before front rest) ∙ r.says in
      record {
        utf8 = IsUtf8-append front rest r.utf8 l.utf8;
        read = here ∷ l.read;
        lexed = subst (λ (v : List ℕ). Reads (length before) v (Ok (here ∷ l.read))) (sym both) (one_token r.kind (chars front) (chars rest) (Ok l.read) r.begins long behind refl);
        says = ap (λ v. v ∷ map (says (before ++ (front ++ rest))) l.read) this ∙ ap (λ (v : List A). a ∷ v) (ap (λ (v : List ℕ). map (says v) l.read) (sym (append_assoc before front rest)) ∙ l.says);
      }

  pub lexes : (text : List ℕ) (said : List A) → SaysAll text said → (before : List ℕ) → Lexed before text said
  lexes text said (nothing e f) before = record {
    utf8 = subst IsUtf8 (sym e) IsUtf8-nil;
    read = [];
    lexed = ends (ap chars e ∙ chars-nil) refl;
    says = sym f;
  }
  lexes text said (space c rest h e s) before = subst (λ (v : List ℕ). Lexed before v said) (sym e) (at_space before c rest said h (lexes rest said s (before ++ c ∷ [])))
  lexes text said (piece front rest a more e f r s) before =
      subst (λ (v : List A). Lexed before text v) (sym f) (subst (λ (v : List ℕ). Lexed before v (a ∷ more)) (sym e) (at_piece before front rest a more r (lexes rest more s (before ++ front))))
