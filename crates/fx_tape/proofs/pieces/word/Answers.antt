use Rattle.std.proofs.Common.{◌≢◌, ◌<◌, get_or, length, sym, subst, arith, ℕ, List}
use Rattle.fx_tape.specs.Pieces.{word}
use Rattle.fx_tape.specs.Spellings.{Begins}
use Rattle.fx_tape.proofs.PieceLemmas.{word_begins, word_short, word_other}
use Rattle.fx_tape.proofs.pieces.word.Goals as goal
use Rattle.fx_tape.proofs.pieces.word.Goals.{then-place-bytes-via-then-place-bytes, then-place-bytes-via-else-place-bytes+then-bytes-place}

pub returns : goal.returns
returns c =
    subst (λ (z : List ℕ). Begins (word c.args.text.now) c.args.bytes.now tt z) (sym c.after.ensures)
    (word_begins c.args.text.now c.args.bytes.now c.loop-place.place c.loop-place-test.false (omega arith) c.loop-place.invariant.2)

pub returns-then-place-bytes : goal.returns-then-place-bytes
returns-then-place-bytes c =
    elim c.then-place-bytes.branch [
      | then-place-bytes-via-then-place-bytes w ↦ word_short c.args.text.now c.args.bytes.now c.loop-place.place c.loop-place-test.true c.loop-place.invariant.2 (omega arith)
      | then-place-bytes-via-else-place-bytes+then-bytes-place w ↦ (
          let inside : c.loop-place.place < length c.args.bytes.now = omega arith in
          let other : get_or c.args.bytes.now c.loop-place.place 0 ≢ get_or c.args.text.now c.loop-place.place 0 = λ e. w.if-bytes-place.true (cc) in
          word_other c.args.text.now c.args.bytes.now c.loop-place.place c.loop-place-test.true c.loop-place.invariant.2 inside other
          )
    ]
