use Rattle.std.proofs.Common.{◌<◌, length}
use Rattle.fx_evaluation.proofs.estimates.lightest.Given as goal

-- what was chosen so far is the place of an element's place
abbrev pub invariant-loop-back : goal.invariant-loop-back
invariant-loop-back l = l.best.place < length l.held
