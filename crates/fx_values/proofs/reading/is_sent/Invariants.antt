use Rattle.std.proofs.Common.{◌≡◌, drop}
use Rattle.fx_algebra.specs.Scopes.{is_among}
use Rattle.fx_values.specs.Sent.{others}
use Rattle.fx_values.proofs.reading.is_sent.Given as goal

abbrev pub invariant-loop-pair : goal.invariant-loop-pair
invariant-loop-pair l = is_among (others (drop l.pair-index l.pairs)) l.name ≡ is_among (others l.pairs) l.name
