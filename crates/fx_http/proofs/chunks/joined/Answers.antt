use Rattle.std.proofs.Common.{◌≡◌, sym, ◌∙◌, arith, refl, true, false, ◌<◌}
use Rattle.httparse.specs.Grammar.{chunk_size}
use Rattle.fx_http.proofs.ChunkSteps.{lost_line, lost_end, lost_bytes, found_end, IsOn-end, IsOn-chunk}
use Rattle.fx_http.proofs.chunks.joined.Goals.{then-is_trailer, else-is_trailer}
use Rattle.fx_http.proofs.chunks.joined.Goals as goal

pub returns-then-size-eq0 : goal.returns-then-size-eq0
returns-then-size-eq0 c =
    let line = c.in-Some.ensures.some in
    let zero = sym line.2 ∙ c.if-size-eq0.true in
    elim c.if-is_trailer.branch [
      | then-is_trailer w ↦
          rw w.result-is (IsOn-end c.args.bytes.now c.loop-size.left.now _ c.loop-size.invariant
          (found_end c.loop-size.left.now line.0 c.in-Some.behind.now line.1 zero (w.if-is_trailer.ensures.0 refl)))
      | else-is_trailer w ↦
          rw w.result-is (c.loop-size.invariant.lost
          (lost_end c.loop-size.left.now line.0 c.in-Some.behind.now line.1 zero (λ t. let other : false ≡ true = w.if-is_trailer.ensures.1 t in cc)))
    ]

pub returns-in_default-chunk : goal.returns-in_default-chunk
returns-in_default-chunk c =
    let line = c.in-Some.ensures.some in
    let size = line.2 in
    let some : 0 < chunk_size line.0 = omega arith in
    c.loop-size.invariant.lost
    (lost_bytes c.loop-size.left.now line.0 c.in-Some.behind.now line.1 some (λ bytes rest long. c.in_default-chunk.ensures.none bytes rest (long ∙ sym size)))

pub loop-size-preserved : goal.loop-size-preserved
loop-size-preserved c =
    let line = c.in-Some.ensures.some in
    let size = line.2 in
    let some : 0 < chunk_size line.0 = omega arith in
    let chunk = c.in-Some-chunk.ensures.some in
    rw c.in_ok-extend_from_slice.ensures.items
    (IsOn-chunk c.args.bytes.now c.loop-size.left.now c.loop-size.body.items line.0 c.in-Some.behind.now c.in-Some-chunk.chunk.now c.in-Some-chunk.more.now
    c.loop-size.invariant line.1 some (sym size ∙ sym chunk.0) chunk.1)

pub returns : goal.returns
returns c = c.loop-size.invariant.lost (lost_line c.loop-size.left.now c.in_default.ensures.none)
