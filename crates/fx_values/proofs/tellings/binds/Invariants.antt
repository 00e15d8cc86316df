use Rattle.std.proofs.Common.{◌≡◌, drop, is_some}
use Rattle.fx_algebra.specs.Solutions.{term_of}
use Rattle.fx_values.proofs.tellings.binds.Given as goal

abbrev pub invariant-loop-pair : goal.invariant-loop-pair
invariant-loop-pair l = is_some (term_of (drop l.pair-index l.pairs) l.name) ≡ is_some (term_of l.pairs l.name)
