use Rattle.std.proofs.Common.{◌≡◌, take}
use Rattle.fx_values.proofs.names.Names.items.Given as goal

abbrev pub invariant-loop-name : goal.invariant-loop-name
invariant-loop-name l = l.items ≡ take l.name-index l.name-items
