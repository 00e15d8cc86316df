use Rattle.std.proofs.Common.{◌<◌}
use Rattle.std.specs.Vec.{vec_len}
use Rattle.fedx.proofs.wires.Given as goal

abbrev pub invariant-loop : goal.invariant-loop
invariant-loop l = 0 < vec_len l.wires
