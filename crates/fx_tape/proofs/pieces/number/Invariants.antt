use Rattle.std.proofs.Common.{length, ◌-◌}
use Rattle.fx_tape.proofs.NumberTurns.{Digited}
use Rattle.fx_tape.proofs.pieces.number.Given as goal

abbrev pub invariant-loop-place : goal.invariant-loop-place
invariant-loop-place l = Digited l.least l.most l.bytes l.place l.value

abbrev pub decreases-loop-place : goal.decreases-loop-place
decreases-loop-place l = length l.bytes - l.place
