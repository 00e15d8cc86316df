use Rattle.std.proofs.Common.{◌≡◌, drop}
use Rattle.fx_bound.specs.Reading.{binds_one}
use Rattle.fx_bound.specs.Sent.{others}
use Rattle.fx_bound.proofs.reading.binds_any.Given as goal

abbrev pub invariant-loop-pair : goal.invariant-loop-pair
invariant-loop-pair l = binds_one (others (drop l.pair-index l.pairs)) l.row ≡ binds_one (others l.pairs) l.row
