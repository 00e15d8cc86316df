use Rattle.std.proofs.Common.{◌≡◌, ◌++◌, drop}
use Rattle.fx_local.specs.Services.{numbered}
use Rattle.fx_local.proofs.local.numbers.Given as goal

-- what is left completes the numbers
abbrev pub invariant-loop-at : goal.invariant-loop-at
invariant-loop-at l = l.numbers.items ++ numbered l.at (drop l.at l.occurrences) ≡ numbered 0 l.occurrences
