use Rattle.std.proofs.Common.{length}
use Rattle.fx_tape.proofs.ExchangeLemmas.{Going}
use Rattle.fx_tape.proofs.exchanges.exchanges.Given as goal

abbrev pub invariant-more : goal.invariant-more
invariant-more l = Going l.bytes l.left l.all.items

abbrev pub decreases-more : goal.decreases-more
decreases-more l = length l.left
