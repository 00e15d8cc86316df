use Rattle.std.proofs.Common.{◌≡◌, drop, fold}
use Rattle.fx_algebra.specs.Scopes.{with_name}
use Rattle.fx_plan.proofs.names.Names.add_all.Given as goal

-- what is left completes the names
abbrev pub invariant-loop-name : goal.invariant-loop-name
invariant-loop-name l = fold with_name l.self (drop l.name-index l.more) ≡ fold with_name l.initial.self l.more
