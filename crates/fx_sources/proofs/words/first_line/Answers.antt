use Rattle.std.proofs.Common.{arith}
use Rattle.fx_sources.proofs.PartLemmas.{lines_first, lines_last}
use Rattle.fx_sources.proofs.words.first_line.Goals as goal

pub returns-then-place-text-clause-first : goal.returns-then-place-text-clause-first
returns-then-place-text-clause-first c =
    rw c.behind.ensures (lines_last c.args.text.now c.line_feed_place-place.result c.line_feed_place-place.ensures.place c.if-place-text.true c.requires)

pub returns-clause-first : goal.returns-clause-first
returns-clause-first c =
    rw (c.behind-2.ensures, c.without_return.ensures) (lines_first c.args.text.now c.line_feed_place-place.result c.line_feed_place-place.ensures.place (omega arith))
