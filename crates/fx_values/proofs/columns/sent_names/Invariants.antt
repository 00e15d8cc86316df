use Rattle.std.proofs.Common.{◌≡◌, map, take}
use Rattle.fx_values.specs.Values.{named}
use Rattle.fx_values.proofs.columns.sent_names.Given as goal

abbrev pub invariant-loop-name : goal.invariant-loop-name
invariant-loop-name l = l.sent ≡ map (λ n. (named l.names n, n)) (take l.name-index l.name-items)
