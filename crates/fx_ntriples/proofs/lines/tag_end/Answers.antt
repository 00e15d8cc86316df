use Rattle.std.proofs.Common.{◌≡◌, ◌∙◌, sym, refl, drop, false, arith}
use Rattle.fx_ntriples.specs.Reading as spec
use Rattle.std.proofs.lemmas.Str.{IsCharBoundary-after_ascii}
use Rattle.fx_ntriples.proofs.Tags.{in_part_ascii, part_here, dash_here}
use Rattle.fx_ntriples.proofs.lines.tag_end.Goals as goal
use Rattle.fx_ntriples.proofs.lines.tag_end.Goals.{then-in_part, else-in_part+then-b-eq45+then-not-is_empty}

pub loop-end-preserved : goal.loop-end-preserved
loop-end-preserved c =
    elim c.if-in_part.branch [
      | then-in_part w ↦ (
        IsCharBoundary-after_ascii c.args.line.now c.loop-end.end c.requires.utf8 (omega arith) (in_part_ascii c.loop-end.is_first _ (sym c.in_part.ensures ∙ w.if-in_part.true)),
        (let e = part_here c.loop-end.is_first c.loop-end.is_empty c.args.line.now c.loop-end.end (omega arith) (sym c.in_part.ensures ∙ w.if-in_part.true) in
            rw (w.is_first-is, w.is_empty-is) (omega arith)),
      )
      | else-in_part+then-b-eq45+then-not-is_empty w ↦ (
        IsCharBoundary-after_ascii c.args.line.now c.loop-end.end c.requires.utf8 (omega arith) (omega arith),
        (let whole : spec.tag_len c.loop-end.is_first c.loop-end.is_empty (drop c.loop-end.end c.args.line.now) ≡ spec.tag_len c.loop-end.is_first false (drop c.loop-end.end c.args.line.now) = rw w.if-not-is_empty.true refl in
            let e = dash_here c.loop-end.is_first c.args.line.now c.loop-end.end (omega arith) (sym c.in_part.ensures ∙ w.if-in_part.false) w.if-b-eq45.true in
            rw (w.is_first-is, w.is_empty-is) (omega arith)),
      )
    ]
