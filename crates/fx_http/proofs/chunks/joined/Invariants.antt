use Rattle.std.proofs.Common.{length}
use Rattle.fx_http.proofs.ChunkSteps.{IsOn}
use Rattle.fx_http.proofs.chunks.joined.Given as goal

abbrev pub invariant-loop-size : goal.invariant-loop-size
invariant-loop-size l = IsOn l.bytes l.left l.body.items

abbrev pub decreases-loop-size : goal.decreases-loop-size
decreases-loop-size l = length l.left
