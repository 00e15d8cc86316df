use Rattle.std.proofs.Common.{◌≡◌, drop}
use Rattle.fx_values.specs.Sent.{lacks_one}
use Rattle.fx_values.proofs.reading.lacks_one.Given as goal

abbrev pub invariant-loop-pair : goal.invariant-loop-pair
invariant-loop-pair l = lacks_one (drop l.pair-index l.pairs) l.row ≡ lacks_one l.pairs l.row
