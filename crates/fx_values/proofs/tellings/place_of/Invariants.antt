use Rattle.std.proofs.Common.{◌≡◌, ◌+◌, drop}
use Rattle.fx_algebra.specs.Solutions.{place_in}
use Rattle.fx_values.proofs.tellings.place_of.Given as goal

abbrev pub invariant-loop-pair : goal.invariant-loop-pair
invariant-loop-pair l = (l.place ≡ l.pair-index) × (l.place + place_in (drop l.pair-index l.pairs) l.name ≡ place_in l.pairs l.name)
