use Rattle.std.proofs.Common.{◌≡◌, length}
use Rattle.fx_sources.specs.Lines.{words}
use Rattle.fx_sources.proofs.words.first_word.Given as goal

abbrev pub invariant-loop-left : goal.invariant-loop-left
invariant-loop-left l = words l.left ≡ words l.line

abbrev pub decreases-loop-left : goal.decreases-loop-left
decreases-loop-left l = length l.left
