-- What was passed over before the next token, and the token.
use Rattle.std.proofs.Common.{◌≡◌, ℕ, ◌+◌, ◌-◌, ◌<◌, ◌≤◌, List, [], ◌∷◌, ◌++◌, length, take, drop, Some, Result, Ok, sym, ap, ◌∙◌, subst, arith, true, length-append, append-nil}
use Rattle.std.specs.Str.{chars, IsUtf8, IsCharBoundary, encode_utf8_all}
use Rattle.std.proofs.Math.Utf8.{scalars}
use Rattle.std.proofs.Math.Seq.{drop-append_seam}
use Rattle.std.proofs.lemmas.Str.{chars-encodes, encodes-chars, IsUtf8-drop, IsUtf8-take, IsCharBoundary-start}
use Rattle.std.proofs.lemmas.List.{length-take-le, length-drop, take-append-drop}
use Rattle.fx_tokens.specs.Answers.{width}
use Rattle.fx_tokens.specs.Reads.{Reads, with_front, BeginsToken, IsSlice, IsNext}
use Rattle.fx_tokens.specs.Scan as scan
use Rattle.fx_tokens.specs.declared.Token.{Token}
use Rattle.fx_tokens.specs.declared.TokenKind.{TokenKind}
use Rattle.fx_tokens.specs.declared.TokenError.{TokenError}
use Rattle.fx_tokens.proofs.Readers.{width_append}
use Rattle.fx_tokens.proofs.Longest.{longest_some}
use Rattle.fx_tokens.proofs.Slices.{moved, slice, scalars_parts}
use Rattle.fx_tokens.proofs.Turns.{token_turn, with_fronts, no_fronts, one_front}

-- behind a place nothing but white space and comments stands before the rest
pub record Passed (text : List ℕ) (at : ℕ) (rest : List ℕ) : Type 0 where
  pub before : List ℕ
  pub bytes : text ≡ encode_utf8_all before ++ encode_utf8_all rest
  pub from : at ≤ width before
  pub reads : (answer : Result (List Token) TokenError) → Reads (length text - width rest) rest answer → Reads at (chars (drop at text)) answer

pub passed_long : (text : List ℕ) (at : ℕ) (rest : List ℕ) → (p : Passed text at rest) → length text ≡ width p.before + width rest
passed_long text at rest p = ap (λ (v : List ℕ). length v) p.bytes ∙ length-append (encode_utf8_all p.before) (encode_utf8_all rest)

pub passed_within : (text : List ℕ) (at : ℕ) (rest : List ℕ) → Passed text at rest → width rest ≤ length text
passed_within text at rest p = omega (arith, passed_long text at rest p)

pub passed_none : (text : List ℕ) (at : ℕ) → IsUtf8 text → IsCharBoundary text at → Passed text at (chars (drop at text))
passed_none text at u b =
    let front : encode_utf8_all (chars (take at text)) ≡ take at text = encodes-chars (take at text) (IsUtf8-take text at u b) in
    let back : encode_utf8_all (chars (drop at text)) ≡ drop at text = encodes-chars (drop at text) (IsUtf8-drop text at u b) in
    let long : width (chars (take at text)) ≡ at = ap (λ (v : List ℕ). length v) front ∙ length-take-le at text b.0 in
    let whole : length text ≡ at + width (chars (drop at text)) = omega (arith, ap (λ (v : List ℕ). length v) back, length-drop at text, b.0) in
    let place : length text - width (chars (drop at text)) ≡ at = omega (arith, whole) in
    record {
      before = chars (take at text);
      bytes = sym (take-append-drop at text) ∙ ap (λ v. v ++ drop at text) (sym front) ∙ ap (λ v. encode_utf8_all (chars (take at text)) ++ v) (sym back);
      from = omega (arith, long);
      reads = λ answer r. subst (λ (n : ℕ). Reads n (chars (drop at text)) answer) place r;
    }

pub passed_on : (text : List ℕ) (at : ℕ) (rest front behind : List ℕ) → Passed text at rest → rest ≡ front ++ behind
    → ((answer : Result (List Token) TokenError) → Reads (length text - width behind) behind answer → Reads (length text - width rest) rest answer) → Passed text at behind
passed_on text at rest front behind p e turn = record {
  before = p.before ++ front;
  bytes = moved text p.before rest front behind p.bytes e;
  from = omega (arith, p.from, width_append p.before front);
  reads = λ answer r. p.reads answer (turn answer r);
}

-- what stands behind a token
left_behind : (text : List ℕ) (at : ℕ) (rest front after : List ℕ) → Passed text at rest → rest ≡ front ++ after → scalars after ≡ true → chars (drop (length text - width after) text) ≡ after
left_behind text at rest front after p e s =
    let parts = moved text p.before rest front after p.bytes e in
    let long : length text - width after ≡ width (p.before ++ front) = omega (arith, ap (λ (v : List ℕ). length v) parts, length-append (encode_utf8_all (p.before ++ front)) (encode_utf8_all after)) in
    ap chars (ap (λ (n : ℕ). drop n text) long ∙ ap (drop (width (p.before ++ front))) parts ∙ drop-append_seam (encode_utf8_all (p.before ++ front)) (encode_utf8_all after)) ∙ chars-encodes after s

pub behind_token : (text : List ℕ) (at : ℕ) (rest after : List ℕ) (k : TokenKind) → Passed text at rest → scan.longest rest ≡ Some (k, after) → scalars rest ≡ true → chars (drop (length text - width after) text) ≡ after
behind_token text at rest after k p e s =
    let l = longest_some rest k after e in
    left_behind text at rest l.0 after p l.1.parts (scalars_parts l.0 after (ap scalars (sym l.1.parts) ∙ s)).1

pub next_found : (text : List ℕ) (at : ℕ) (rest after : List ℕ) (k : TokenKind) → Passed text at rest → BeginsToken rest → scan.longest rest ≡ Some (k, after) → scalars rest ≡ true
    → IsNext text at (record { kind = k; start = length text - width rest; end = length text - width after })
next_found text at rest after k p b e s =
    let l = longest_some rest k after e in
    let parts = l.1.parts in
    let whole = passed_long text at rest p in
    let long : width rest ≡ width l.0 + width after = ap width parts ∙ width_append l.0 after in
    let start : width p.before ≡ length text - width rest = omega (arith, whole) in
    let end : width p.before + width l.0 ≡ length text - width after = omega (arith, whole, long) in
    let same = behind_token text at rest after k p e s in
    record {
      slice = subst (λ (n : ℕ). IsSlice text (record { kind = k; start = length text - width rest; end = n })) end
          (subst (λ (n : ℕ). IsSlice text (record { kind = k; start = n; end = width p.before + width l.0 })) start (slice text p.before rest k l.0 after p.bytes s parts l.1.is));
      rises = omega (arith, p.from, start);
      reads = λ answer r. p.reads (with_front (record { kind = k; start = length text - width rest; end = length text - width after }) answer)
          (token_turn (length text) rest k after answer b e (passed_within text at rest p) (subst (λ (v : List ℕ). Reads (length text - width after) v answer) same r));
    }

-- ---- the tokens of a text one after the other

-- where reading has come to, behind these tokens
pub record GoesOn (text : List ℕ) (place : ℕ) (tokens : List Token) : Type 0 where
  pub cut : IsCharBoundary text place
  pub reads : (answer : Result (List Token) TokenError) → Reads place (chars (drop place text)) answer → Reads 0 (chars text) (with_fronts tokens answer)

pub goes_on_none : (text : List ℕ) → IsUtf8 text → GoesOn text 0 []
goes_on_none text u = record { cut = IsCharBoundary-start text u; reads = λ answer r. subst (λ (a : Result (List Token) TokenError). Reads 0 (chars text) a) (sym (no_fronts answer)) r }

pub goes_on_next : (text : List ℕ) (place : ℕ) (tokens : List Token) (t : Token) → GoesOn text place tokens → IsNext text place t → GoesOn text t.end (tokens ++ t ∷ [])
goes_on_next text place tokens t g n = record {
  cut = n.slice.to;
  reads = λ answer r. subst (λ (a : Result (List Token) TokenError). Reads 0 (chars text) a) (one_front tokens t answer) (g.reads (with_front t answer) (n.reads answer r));
}

pub goes_on_end : (text : List ℕ) (place : ℕ) (tokens : List Token) → GoesOn text place tokens → Reads place (chars (drop place text)) (Ok []) → Reads 0 (chars text) (Ok tokens)
goes_on_end text place tokens g r = subst (λ (v : List Token). Reads 0 (chars text) (Ok v)) (append-nil tokens) (g.reads (Ok []) r)

pub next_smaller : (text : List ℕ) (place : ℕ) (t : Token) → IsNext text place t → length text - t.end < length text - place
next_smaller text place t n = omega (arith, n.rises, n.slice.some, n.slice.within)
