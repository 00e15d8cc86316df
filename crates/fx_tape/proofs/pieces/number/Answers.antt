use Rattle.std.proofs.Common.{refl, ◌≡◌, ◌<◌, ◌∙◌, ◌==◌, false, ℕ, List, length, get_or, sym, subst, arith}
use Rattle.fx_tape.specs.Pieces.{number, goes_on}
use Rattle.fx_tape.specs.Spellings.{Begins}
use Rattle.fx_tape.proofs.NumberTurns.{digited_more, none_there, ended_there, other_there, read_there}
use Rattle.fx_tape.proofs.pieces.number.Goals as goal
use Rattle.fx_tape.proofs.pieces.number.Goals.{then-loop-place-test+else-goes_on, else-loop-place-test, then-place-eq0-via-then-place-eq0, then-place-eq0-via-else-place-eq0+then-place-bytes, then-place-eq0-via-else-place-eq0+else-place-bytes+then-bytes-place}

pub loop-place-preserved : goal.loop-place-preserved
loop-place-preserved c =
    digited_more c.args.least c.args.most c.requires.short c.args.bytes.now c.loop-place.place c.loop-place.value _ c.loop-place-test.true refl c.loop-place.invariant (sym c.goes_on.ensures ∙ c.if-goes_on.true)

pub returns-then-place-eq0 : goal.returns-then-place-eq0
returns-then-place-eq0 c =
    let h = c.loop-place.invariant in
    let within = h.within in
    let stuck : c.loop-place.place < length c.args.bytes.now → goes_on c.args.least c.args.most (c.loop-place.place == 0) c.loop-place.value (get_or c.args.bytes.now c.loop-place.place 0) ≡ false =
    elim c.loop-place-test.branch [
      | then-loop-place-test+else-goes_on w ↦ λ k. sym w.goes_on.ensures ∙ w.if-goes_on.false
      | else-loop-place-test w ↦ λ k. absurd (omega arith)
    ] in
    elim c.then-place-eq0.branch [
      | then-place-eq0-via-then-place-eq0 w ↦ none_there c.args.least c.args.most c.requires.short c.args.bytes.now c.args.end c.requires.low c.requires.some c.requires.ends c.loop-place.place c.loop-place.value w.if-place-eq0.true h stuck
      | then-place-eq0-via-else-place-eq0+then-place-bytes w ↦ (
          let some : 0 < c.loop-place.place = omega arith in
          ended_there c.args.least c.args.most c.requires.short c.args.bytes.now c.args.end c.requires.low c.requires.some c.requires.ends c.loop-place.place c.loop-place.value some w.if-place-bytes.true h
          )
      | then-place-eq0-via-else-place-eq0+else-place-bytes+then-bytes-place w ↦ (
          let some : 0 < c.loop-place.place = omega arith in
          let inside : c.loop-place.place < length c.args.bytes.now = omega arith in
          other_there c.args.least c.args.most c.requires.short c.args.bytes.now c.args.end c.requires.low c.requires.some c.requires.ends c.loop-place.place c.loop-place.value some inside h w.if-bytes-place.true (stuck inside)
          )
    ]

pub returns : goal.returns
returns c =
    let h = c.loop-place.invariant in
    let within = h.within in
    let some : 0 < c.loop-place.place = omega arith in
    let inside : c.loop-place.place < length c.args.bytes.now = omega arith in
    subst (λ (z : List ℕ). Begins (number c.args.least c.args.most c.args.end) c.args.bytes.now c.loop-place.value z) (sym c.after.ensures)
    (read_there c.args.least c.args.most c.requires.short c.args.bytes.now c.args.end c.requires.low c.requires.some c.requires.ends c.loop-place.place c.loop-place.value some inside h c.if-bytes-place.false)
