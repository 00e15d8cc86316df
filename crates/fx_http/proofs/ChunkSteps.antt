-- Chunks, one after another.
use Rattle.std.proofs.Common.{◌≡◌, ◌∙◌, ℕ, ◌<◌, List, [], ◌∷◌, ◌++◌, length, refl, sym, ap, subst, arith, append_assoc, ◌⊎◌, inl, inr}
use Rattle.std.specs.List.{All, flat_map}
use Rattle.std.proofs.lemmas.List.{append-nil}
use Rattle.std.proofs.lemmas.List.Elements.{All-cons, All-nil, All-head, All-tail}
use Rattle.httparse.specs.Grammar.{ChunkLine, print_chunk_line, ReadsChunkLine, HasNoChunkLine, chunk_size}
use Rattle.httparse.proofs.ChunkLemmas.{chunk_line_unique}
use Rattle.fx_http.specs.Chunks.{Chunk, print_chunk, IsChunk, IsTrailer, IsEnd, IsChunked, HasNoChunks}

-- the chunks that were read hold the body so far, and what is left decides
pub record IsOn (all left body : List ℕ) : Type 0 where
  pub found : (tail : List ℕ) → IsChunked left tail → IsChunked all (body ++ tail)
  pub lost : HasNoChunks left → HasNoChunks all

pub IsOn-start : (all : List ℕ) → IsOn all all []
IsOn-start all = record { found = λ tail h. h; lost = λ h. h }

pub cons-append : (x : ℕ) (a b : List ℕ) → (x ∷ a) ++ b ≡ x ∷ (a ++ b)
cons-append x a b = refl

-- lists of one length that stand in front of equal lists are equal
pub same_front : (a b c d : List ℕ) → length a ≡ length b → a ++ c ≡ b ++ d → (a ≡ b) × (c ≡ d)
same_front [] [] c d n e = (refl, e)
same_front [] (y ∷ b) c d n e = absurd (omega arith)
same_front (x ∷ a) [] c d n e = absurd (omega arith)
same_front (x ∷ a) (y ∷ b) c d n e =
    let first : x ≡ y = cc in
    let behind : a ++ c ≡ b ++ d = cc in
    let rest = same_front a b c d (omega arith) behind in
    let front = rest.0 in
    (cc, rest.1)

-- the first chunk, and what is behind its line
line_of : (left body : List ℕ) (c : Chunk) (cs : List Chunk) (rest : List ℕ)
    → IsChunk c → left ≡ flat_map print_chunk (c ∷ cs) ++ rest
    → ReadsChunkLine left c.line (c.bytes ++ 13 ∷ 10 ∷ (flat_map print_chunk cs ++ rest))
line_of left body c cs rest h e = (h.line, e ∙ regroup (print_chunk_line c.line) c.bytes (flat_map print_chunk cs) rest)
  where
    regroup : (l b f r : List ℕ) → ((l ++ b ++ 13 ∷ 10 ∷ []) ++ f) ++ r ≡ l ++ (b ++ 13 ∷ 10 ∷ (f ++ r))
    regroup l b f r = simp (append_assoc, cons-append)

-- the first chunk's bytes, and the chunked body behind it
pub record HasChunk (behind : List ℕ) (size : ℕ) (body : List ℕ) : Type 0 where
  pub bytes : List ℕ
  pub more : List ℕ
  pub tail : List ℕ
  pub some : 0 < length bytes
  pub size_is : size ≡ length bytes
  pub layout : behind ≡ bytes ++ 13 ∷ 10 ∷ more
  pub chunked : IsChunked more tail
  pub body_is : body ≡ bytes ++ tail

-- behind the first size line there is the end, or a chunk and more
pub chunked_cases : (left body : List ℕ) (l : ChunkLine) (behind : List ℕ) → ReadsChunkLine left l behind → IsChunked left body
    → ((chunk_size l ≡ 0) × IsTrailer behind × (body ≡ [])) ⊎ HasChunk behind (chunk_size l) body
chunked_cases left body l behind reads k = by_chunks k.chunks k.whole k.layout k.holds
  where
    by_chunks : (cs : List Chunk) → All IsChunk cs → left ≡ flat_map print_chunk cs ++ k.rest → body ≡ flat_map (λ (c : Chunk). c.bytes) cs
        → ((chunk_size l ≡ 0) × IsTrailer behind × (body ≡ [])) ⊎ HasChunk behind (chunk_size l) body
    by_chunks [] whole layout holds =
        let here : ReadsChunkLine left k.ended.line k.ended.rest = (k.ended.reads.0, layout ∙ k.ended.reads.1) in
        let same = chunk_line_unique left l k.ended.line behind k.ended.rest reads here in
        inl (ap chunk_size same.0 ∙ k.ended.zero, subst IsTrailer (sym same.1) k.ended.trailer, holds)
    by_chunks (c ∷ cs) whole layout holds =
        let first = All-head IsChunk c cs whole in
        let same = chunk_line_unique left l c.line behind _ reads (line_of left body c cs k.rest first layout) in
        inr (record {
          bytes = c.bytes;
          more = flat_map print_chunk cs ++ k.rest;
          tail = flat_map (λ (c : Chunk). c.bytes) cs;
          some = first.some;
          size_is = ap chunk_size same.0 ∙ first.size;
          layout = same.1;
          chunked = record { chunks = cs; rest = k.rest; whole = All-tail IsChunk c cs whole; layout = refl; ended = k.ended; holds = refl };
          body_is = holds;
        })

-- no size line, no chunks
pub lost_line : (left : List ℕ) → HasNoChunkLine left → HasNoChunks left
lost_line left none body k = by_chunks k.chunks k.whole k.layout
  where
    by_chunks : (cs : List Chunk) → All IsChunk cs → left ≡ flat_map print_chunk cs ++ k.rest → ⊥
    by_chunks [] whole layout = none k.ended.line k.ended.rest (k.ended.reads.0, layout ∙ k.ended.reads.1)
    by_chunks (c ∷ cs) whole layout = none c.line _ (line_of left body c cs k.rest (All-head IsChunk c cs whole) layout)

-- a last line that no trailer follows
pub lost_end : (left : List ℕ) (l : ChunkLine) (behind : List ℕ) → ReadsChunkLine left l behind → chunk_size l ≡ 0 → ¬ IsTrailer behind → HasNoChunks left
lost_end left l behind reads zero none body k =
    elim (chunked_cases left body l behind reads k) [
      | inl e ↦ none e.1
      | inr h ↦ let e = h.size_is in let s = h.some in absurd (omega arith)
    ]

-- a line of some size that not so many bytes follow with their line end
pub lost_bytes : (left : List ℕ) (l : ChunkLine) (behind : List ℕ) → ReadsChunkLine left l behind → 0 < chunk_size l
    → ((chunk rest : List ℕ) → length chunk ≡ chunk_size l → ¬ (behind ≡ chunk ++ 13 ∷ 10 ∷ rest)) → HasNoChunks left
lost_bytes left l behind reads some none body k =
    elim (chunked_cases left body l behind reads k) [
      | inl e ↦ let z = e.0 in absurd (omega arith)
      | inr h ↦ none h.bytes h.more (sym h.size_is) h.layout
    ]

-- the end
pub found_end : (left : List ℕ) (l : ChunkLine) (behind : List ℕ) → ReadsChunkLine left l behind → chunk_size l ≡ 0 → IsTrailer behind → IsChunked left []
found_end left l behind reads zero trailer = record {
  chunks = [];
  rest = left;
  whole = All-nil IsChunk;
  layout = refl;
  ended = record { line = l; rest = behind; reads = reads; zero = zero; trailer = trailer };
  holds = refl;
}

-- one chunk more
pub found_chunk : (left : List ℕ) (l : ChunkLine) (behind bytes more : List ℕ) → ReadsChunkLine left l behind
    → 0 < chunk_size l → chunk_size l ≡ length bytes → behind ≡ bytes ++ 13 ∷ 10 ∷ more
    → (tail : List ℕ) → IsChunked more tail → IsChunked left (bytes ++ tail)
found_chunk left l behind bytes more reads some size layout tail k = record {
  chunks = record { line = l; bytes = bytes } ∷ k.chunks;
  rest = k.rest;
  whole = All-cons IsChunk _ k.chunks (record { line = reads.0; size = size; some = omega arith }) k.whole;
  layout = reads.1 ∙ ap (λ (t : List ℕ). print_chunk_line l ++ t) (layout ∙ ap (λ (t : List ℕ). bytes ++ 13 ∷ 10 ∷ t) k.layout) ∙ sym (regroup (print_chunk_line l) bytes (flat_map print_chunk k.chunks) k.rest);
  ended = k.ended;
  holds = ap (λ (t : List ℕ). bytes ++ t) k.holds;
}
  where
    regroup : (l b f r : List ℕ) → ((l ++ b ++ 13 ∷ 10 ∷ []) ++ f) ++ r ≡ l ++ (b ++ 13 ∷ 10 ∷ (f ++ r))
    regroup l b f r = simp (append_assoc, cons-append)

pub lost_chunk : (left : List ℕ) (l : ChunkLine) (behind bytes more : List ℕ) → ReadsChunkLine left l behind
    → 0 < chunk_size l → chunk_size l ≡ length bytes → behind ≡ bytes ++ 13 ∷ 10 ∷ more → HasNoChunks more → HasNoChunks left
lost_chunk left l behind bytes more reads some size layout none body k =
    elim (chunked_cases left body l behind reads k) [
      | inl e ↦ let z = e.0 in absurd (omega arith)
      | inr h ↦
          let long : length bytes ≡ length h.bytes = sym size ∙ h.size_is in
          let same = same_front bytes h.bytes (13 ∷ 10 ∷ more) (13 ∷ 10 ∷ h.more) long (sym layout ∙ h.layout) in
          let ends = same.1 in
          let behind_is : more ≡ h.more = cc in
          none h.tail (subst (λ (t : List ℕ). IsChunked t h.tail) (sym behind_is) h.chunked)
    ]

pub IsOn-chunk : (all left body : List ℕ) (l : ChunkLine) (behind bytes more : List ℕ) → IsOn all left body → ReadsChunkLine left l behind
    → 0 < chunk_size l → chunk_size l ≡ length bytes → behind ≡ bytes ++ 13 ∷ 10 ∷ more → IsOn all more (body ++ bytes)
IsOn-chunk all left body l behind bytes more on reads some size layout = record {
  found = λ tail k. subst (IsChunked all) (sym (append_assoc body bytes tail)) (on.found (bytes ++ tail) (found_chunk left l behind bytes more reads some size layout tail k));
  lost = λ none. on.lost (lost_chunk left l behind bytes more reads some size layout none);
}

pub IsOn-end : (all left body : List ℕ) → IsOn all left body → IsChunked left [] → IsChunked all body
IsOn-end all left body on k = subst (IsChunked all) (append-nil body) (on.found [] k)

-- a chunked body is one body
unique_from : (cs : List Chunk) (rest bytes body : List ℕ) → All IsChunk cs → IsEnd rest → bytes ≡ flat_map print_chunk cs ++ rest
    → IsChunked bytes body → body ≡ flat_map (λ (c : Chunk). c.bytes) cs
unique_from [] rest bytes body whole ended layout k =
    elim (chunked_cases bytes body ended.line ended.rest (ended.reads.0, layout ∙ ended.reads.1) k) [
      | inl e ↦ e.2
      | inr h ↦ let z = ended.zero in let e = h.size_is in let s = h.some in absurd (omega arith)
    ]
unique_from (c ∷ cs) rest bytes body whole ended layout k =
    let first = All-head IsChunk c cs whole in
    let behind = c.bytes ++ 13 ∷ 10 ∷ (flat_map print_chunk cs ++ rest) in
    elim (chunked_cases bytes body c.line behind (line_of bytes body c cs rest first layout) k) [
      | inl e ↦ let z = e.0 in let n = first.size in let s = first.some in absurd (omega arith)
      | inr h ↦
          let long : length c.bytes ≡ length h.bytes = sym first.size ∙ h.size_is in
          let same = same_front c.bytes h.bytes (13 ∷ 10 ∷ (flat_map print_chunk cs ++ rest)) (13 ∷ 10 ∷ h.more) long h.layout in
          let ends = same.1 in
          let more : h.more ≡ flat_map print_chunk cs ++ rest = cc in
          let tail = unique_from cs rest h.more h.tail (All-tail IsChunk c cs whole) ended more h.chunked in
          h.body_is ∙ ap (λ (t : List ℕ). t ++ h.tail) (sym same.0) ∙ ap (λ (t : List ℕ). c.bytes ++ t) tail
    ]

pub chunked_unique : (bytes a b : List ℕ) → IsChunked bytes a → IsChunked bytes b → a ≡ b
chunked_unique bytes a b x y = x.holds ∙ sym (unique_from x.chunks x.rest bytes b x.whole x.ended x.layout y)
