use Rattle.std.proofs.Common.{◌≡◌, drop, fold}
use Rattle.fx_algebra.specs.Scopes.{with_name, once}
use Rattle.fx_algebra.proofs.scopes.once.Given as goal

-- what is left completes the names
abbrev pub invariant-loop-name : goal.invariant-loop-name
invariant-loop-name l = fold with_name l.all.keys (drop l.name-index l.names) ≡ once l.names
