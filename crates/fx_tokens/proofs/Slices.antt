-- The tokens that a text reads as are slices of its bytes, one behind the other.
use Rattle.std.proofs.Common.{◌≡◌, ℕ, ◌+◌, ◌-◌, ◌≤◌, Bool, true, false, ◌&&◌, List, [], ◌∷◌, ◌++◌, length, take, drop, Result, Ok, Err, refl, sym, ap, ◌∙◌, subst, arith, append_assoc, length-append}
use Rattle.std.specs.Prelude.{All, slice_range, IfOk}
use Rattle.std.specs.Str.{chars, IsUtf8, IsCharBoundary, encode_utf8_all}
use Rattle.std.proofs.Math.Utf8.{scalars}
use Rattle.std.proofs.Math.Seq.{take-append_seam, drop-append_seam}
use Rattle.std.proofs.lemmas.List.Elements.{All-cons}
use Rattle.std.proofs.lemmas.Str.{encodes-append, chars-encodes, IsCharBoundary-at_seam, length-le-encodes, encodes-chars, scalars-chars}
use Rattle.fx_tokens.specs.Answers.{width}
use Rattle.fx_tokens.specs.Kinds.{IsToken}
use Rattle.fx_tokens.specs.Reads.{Reads, ends, blank, comment, token, fault, with_front, IsSlice, RiseFrom}
use Rattle.fx_tokens.specs.declared.Token.{Token}
use Rattle.fx_tokens.specs.declared.TokenKind.{TokenKind}
use Rattle.fx_tokens.specs.declared.TokenError.{TokenError}
use Rattle.fx_tokens.proofs.Readers.{width_append}
use Rattle.fx_tokens.proofs.KindLaws.{token_some}

and_both : (a b : Bool) → (a && b) ≡ true → (a ≡ true) × (b ≡ true)
and_both true b e = (refl, e)
and_both false b e = absurd (cc)

-- both parts of a text are characters
pub scalars_parts : (front rest : List ℕ) → scalars (front ++ rest) ≡ true → (scalars front ≡ true) × (scalars rest ≡ true)
scalars_parts [] rest e = (refl, e)
scalars_parts (c ∷ front) rest e =
    let h = and_both _ (scalars (front ++ rest)) e in
    let g = scalars_parts front rest h.1 in
    (rw h.0 g.0, g.1)

-- where a text stands in the bytes
pub moved : (bytes before text front rest : List ℕ) → bytes ≡ encode_utf8_all before ++ encode_utf8_all text → text ≡ front ++ rest → bytes ≡ encode_utf8_all (before ++ front) ++ encode_utf8_all rest
moved bytes before text front rest e f =
    e ∙ ap (λ v. encode_utf8_all before ++ encode_utf8_all v) f ∙ ap (λ v. encode_utf8_all before ++ v) (encodes-append front rest)
    ∙ sym (append_assoc (encode_utf8_all before) (encode_utf8_all front) (encode_utf8_all rest)) ∙ ap (λ v. v ++ encode_utf8_all rest) (sym (encodes-append before front))

boundary : (bytes before text : List ℕ) → bytes ≡ encode_utf8_all before ++ encode_utf8_all text → scalars text ≡ true → IsCharBoundary bytes (width before)
boundary bytes before text e s = IsCharBoundary-at_seam bytes (encode_utf8_all before) (encode_utf8_all text) e (text, (s, refl))

cut_out : (bytes before front rest : List ℕ) → bytes ≡ encode_utf8_all before ++ (encode_utf8_all front ++ encode_utf8_all rest) → slice_range bytes (width before) (width before + width front) ≡ encode_utf8_all front
cut_out bytes before front rest e =
    let long : width before + width front - width before ≡ length (encode_utf8_all front) = omega arith in
    ap (λ v. take (width before + width front - width before) (drop (width before) v)) e
    ∙ ap (take (width before + width front - width before)) (drop-append_seam (encode_utf8_all before) (encode_utf8_all front ++ encode_utf8_all rest))
    ∙ ap (λ (n : ℕ). take n (encode_utf8_all front ++ encode_utf8_all rest)) long ∙ take-append_seam (encode_utf8_all front) (encode_utf8_all rest)

pub slice : (bytes before text : List ℕ) (k : TokenKind) (front rest : List ℕ) → bytes ≡ encode_utf8_all before ++ encode_utf8_all text → scalars text ≡ true → text ≡ front ++ rest → IsToken k front
    → IsSlice bytes (record { kind = k; start = width before; end = width before + width front })
slice bytes before text k front rest e s f t =
    let parts = scalars_parts front rest (ap scalars (sym f) ∙ s) in
    let behind = moved bytes before text front rest e f in
    let long : width (before ++ front) ≡ width before + width front = width_append before front in
    let all : length bytes ≡ width (before ++ front) + width rest = ap (λ (v : List ℕ). length v) behind ∙ length-append (encode_utf8_all (before ++ front)) (encode_utf8_all rest) in
    let whole : bytes ≡ encode_utf8_all before ++ (encode_utf8_all front ++ encode_utf8_all rest) = e ∙ ap (λ v. encode_utf8_all before ++ encode_utf8_all v) f ∙ ap (λ v. encode_utf8_all before ++ v) (encodes-append front rest) in
    record {
      some = omega (arith, token_some k front t, length-le-encodes front);
      within = omega (arith, all, long);
      from = boundary bytes before text e s;
      to = subst (IsCharBoundary bytes) long (boundary bytes (before ++ front) rest behind parts.1);
      is = subst (IsToken k) (sym (ap chars (cut_out bytes before front rest whole) ∙ chars-encodes front parts.0)) t;
    }

rise_less : (near far : ℕ) (tokens : List Token) → near ≤ far → RiseFrom far tokens → RiseFrom near tokens
rise_less near far [] h r = tt
rise_less near far (t ∷ tokens) h r = (omega (arith, h, r.0), r.1)

front_ok : (t : Token) (further : Result (List Token) TokenError) (tokens : List Token) → with_front t further ≡ Ok tokens → (more : List Token) × (further ≡ Ok more) × (tokens ≡ t ∷ more)
front_ok t (Ok more) tokens e = (more, refl, cc (e))
front_ok t (Err error) tokens e = absurd (cc (e))

AreSlices : List ℕ → ℕ → List Token → Type 0
AreSlices bytes at tokens = All (IsSlice bytes) tokens × RiseFrom at tokens

none_slices : (bytes : List ℕ) (at : ℕ) → AreSlices bytes at []
unfolding AreSlices
none_slices bytes at = (λ k d h. absurd (omega (arith, h)), tt)

-- behind what is passed over
passed : (bytes before text front rest : List ℕ) (at : ℕ) (tokens : List Token) → AreSlices bytes (at + width front) tokens → AreSlices bytes at tokens
unfolding AreSlices
passed bytes before text front rest at tokens h = (h.0, rise_less at (at + width front) tokens (omega arith) h.1)

next_slice : (bytes : List ℕ) (k : TokenKind) (at n : ℕ) (tokens : List Token) → IsSlice bytes (record { kind = k; start = at; end = at + n }) → AreSlices bytes (at + n) tokens → AreSlices bytes at (record { kind = k; start = at; end = at + n } ∷ tokens)
unfolding AreSlices
next_slice bytes k at n tokens s h = (All-cons (IsSlice bytes) (record { kind = k; start = at; end = at + n }) tokens s h.0, (omega arith, h.1))

are_slices : (bytes before text : List ℕ) (at : ℕ) (answer : Result (List Token) TokenError) (tokens : List Token) → bytes ≡ encode_utf8_all before ++ encode_utf8_all text → scalars text ≡ true → at ≡ width before → Reads at text answer → answer ≡ Ok tokens → AreSlices bytes at tokens
are_slices bytes before text at answer tokens e s w (ends f g) h = subst (AreSlices bytes at) (let same : [] ≡ tokens = cc (g, h) in same) (none_slices bytes at)
are_slices bytes before text at answer tokens e s w (blank c rest f g r) h =
    let parts = scalars_parts (c ∷ []) rest (ap scalars (sym f) ∙ s) in
    let long : at + width (c ∷ []) ≡ width (before ++ c ∷ []) = omega (arith, w, width_append before (c ∷ [])) in
    passed bytes before text (c ∷ []) rest at tokens (are_slices bytes (before ++ c ∷ []) rest (at + width (c ∷ [])) answer tokens (moved bytes before text (c ∷ []) rest e f) parts.1 long r h)
are_slices bytes before text at answer tokens e s w (comment body rest f g l r) h =
    let parts = scalars_parts (35 ∷ body) rest (ap scalars (sym f) ∙ s) in
    let long : at + width (35 ∷ body) ≡ width (before ++ 35 ∷ body) = omega (arith, w, width_append before (35 ∷ body)) in
    passed bytes before text (35 ∷ body) rest at tokens (are_slices bytes (before ++ 35 ∷ body) rest (at + width (35 ∷ body)) answer tokens (moved bytes before text (35 ∷ body) rest e f) parts.1 long r h)
are_slices bytes before text at answer tokens e s w (token k front rest further b l r g) h =
    let parts = scalars_parts front rest (ap scalars (sym l.parts) ∙ s) in
    let long : at + width front ≡ width (before ++ front) = omega (arith, w, width_append before front) in
    let f = front_ok (record { kind = k; start = at; end = at + width front }) further tokens (sym g ∙ h) in
    let this = subst (λ (n : ℕ). IsSlice bytes (record { kind = k; start = n; end = n + width front })) (sym w) (slice bytes before text k front rest e s l.parts l.is) in
    subst (AreSlices bytes at) (sym f.2) (next_slice bytes k at (width front) f.0 this (are_slices bytes (before ++ front) rest (at + width front) further f.0 (moved bytes before text front rest e l.parts) parts.1 long r f.1))
are_slices bytes before text at answer tokens e s w (fault error b n f g) h = absurd (cc (g, h))

both_slices : (text : List ℕ) (tokens : List Token) → AreSlices text 0 tokens → All (IsSlice text) tokens × RiseFrom 0 tokens
unfolding AreSlices
both_slices text tokens h = h

pub slices : {V : Type 0} (items : V → List Token) (text : List ℕ) (result : Result V TokenError) → IsUtf8 text → IfOk result (λ v. Reads 0 (chars text) (Ok (items v))) → IfOk result (λ v. All (IsSlice text) (items v) × RiseFrom 0 (items v))
slices items text (Ok v) u h = both_slices text (items v) (are_slices text [] (chars text) 0 (Ok (items v)) (items v) (sym (encodes-chars text u)) (scalars-chars text u) refl h refl)
slices items text (Err e) u h = tt
