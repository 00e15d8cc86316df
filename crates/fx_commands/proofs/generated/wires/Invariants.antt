use Rattle.std.proofs.Common.{◌≡◌, length}
use Rattle.std.specs.Prelude.{All}
use Rattle.fx_commands.specs.GeneratorSteps.{IsOver}
use Rattle.fx_commands.proofs.generated.wires.Given as goal

-- so many were made
abbrev pub invariant-loop-number : goal.invariant-loop-number
invariant-loop-number l = (length l.wires.items ≡ l._number) × All (IsOver l.members) l.wires.items
