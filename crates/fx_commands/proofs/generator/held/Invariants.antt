use Rattle.std.proofs.Common.{◌≡◌}
use Rattle.std.specs.List.{flat_map, range_with_len}
use Rattle.fx_commands.specs.Generator.{held_of}
use Rattle.fx_commands.proofs.generator.held.Given as goal

-- what those before it have
abbrev pub invariant-loop-number : goal.invariant-loop-number
invariant-loop-number l = l.held.items ≡ flat_map (held_of l.size l.member) (range_with_len 0 l.number)
