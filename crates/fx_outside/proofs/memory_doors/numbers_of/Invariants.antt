use Rattle.std.proofs.Common.{◌≡◌, take}
use Rattle.fx_outside.specs.Doors.{numbers_of}
use Rattle.fx_outside.proofs.memory_doors.numbers_of.Given as goal

abbrev pub invariant-loop-pair : goal.invariant-loop-pair
invariant-loop-pair l = l.numbers.items ≡ numbers_of l.connection (take l.pair-index l.pairs)
