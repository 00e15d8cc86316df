use Rattle.std.proofs.Common.{◌≡◌, take}
use Rattle.fx_algebra.proofs.queries.copy_keys.Given as goal

abbrev pub invariant-loop-key : goal.invariant-loop-key
invariant-loop-key l = l.copies ≡ take l.key-index l.keys
