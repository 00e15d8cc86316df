use Rattle.std.proofs.Common.{◌≡◌, ◌+◌, ◌<◌, ℕ, List, Ok, Err, drop, length, subst, arith}
use Rattle.std.specs.List.{position_or_len, slice_split}
use Rattle.std.proofs.lemmas.Str.{IsCharBoundary-start, IsCharBoundary-after_ascii}
use Rattle.fx_ntriples.specs.Reading.{is_line_end, read_lines, line}
use Rattle.fx_ntriples.specs.Answers.{Pushes}
use Rattle.fx_ntriples.proofs.LineSteps.{Cut, behind-nil, stops_at, ends_with, goes_on, end_passes}
use Rattle.fx_ntriples.proofs.reading.triples.Goals as goal

pub lines-init : goal.lines-init
lines-init c = (IsCharBoundary-start c.args.text.now c.utf8.text, rw c.new-triples.ensures.items (behind-nil (read_lines 0 (slice_split is_line_end c.args.text.now))))

pub range-requires-clause-end_boundary : goal.range-requires-clause-end_boundary
range-requires-clause-end_boundary c =
    let place : c.line_end-end.result ≡ c.lines.start + position_or_len is_line_end (drop c.lines.start c.args.text.now) = cc in
    let cut : Cut c.args.text.now c.lines.start c.line_end-end.result = record { place = place; within = omega arith } in
    (omega arith, λ l h. absurd (omega (arith, end_passes c.args.text.now c.lines.start c.line_end-end.result cut l)))

pub returns-in-Err : goal.returns-in-Err
returns-in-Err c =
    let place : c.line_end-end.result ≡ c.lines.start + position_or_len is_line_end (drop c.lines.start c.args.text.now) = cc in
    let cut : Cut c.args.text.now c.lines.start c.line_end-end.result = record { place = place; within = omega arith } in
    let said = subst (λ (b : List ℕ). Pushes b (Err c.in-Err.stop) c.lines.triples.items c.push_line.new.triples.items (line b)) c.range.ensures.value c.in-Err.ensures in
    rw c.stopped.ensures (stops_at c.args.text.now c.lines.start c.line_end-end.result c.lines.triples.items c.push_line.new.triples.items c.in-Err.stop (read_lines 0 (slice_split is_line_end c.args.text.now)) cut c.lines.invariant.1 said)

pub returns-then-end-bytes : goal.returns-then-end-bytes
returns-then-end-bytes c =
    let place : c.line_end-end.result ≡ c.lines.start + position_or_len is_line_end (drop c.lines.start c.args.text.now) = cc in
    let cut : Cut c.args.text.now c.lines.start c.line_end-end.result = record { place = place; within = omega arith } in
    let end : c.line_end-end.result ≡ length c.args.text.now = cc in
    let said = subst (λ (b : List ℕ). Pushes b (Ok tt) c.lines.triples.items c.push_line.new.triples.items (line b)) c.range.ensures.value c.in_default.ensures in
    ends_with c.args.text.now c.lines.start c.line_end-end.result c.lines.triples.items c.push_line.new.triples.items (read_lines 0 (slice_split is_line_end c.args.text.now)) cut end c.lines.invariant.1 said

pub lines-preserved : goal.lines-preserved
lines-preserved c =
    let place : c.line_end-end.result ≡ c.lines.start + position_or_len is_line_end (drop c.lines.start c.args.text.now) = cc in
    let cut : Cut c.args.text.now c.lines.start c.line_end-end.result = record { place = place; within = omega arith } in
    let inside : c.line_end-end.result < length c.args.text.now = omega arith in
    let said = subst (λ (b : List ℕ). Pushes b (Ok tt) c.lines.triples.items c.push_line.new.triples.items (line b)) c.range.ensures.value c.in_default.ensures in (
      IsCharBoundary-after_ascii c.args.text.now c.line_end-end.result c.utf8.text inside (end_passes c.args.text.now c.lines.start c.line_end-end.result cut inside),
      goes_on c.args.text.now c.lines.start c.line_end-end.result c.lines.triples.items c.push_line.new.triples.items (read_lines 0 (slice_split is_line_end c.args.text.now)) cut inside c.lines.invariant.1 said,
    )
