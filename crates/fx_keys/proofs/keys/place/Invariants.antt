use Rattle.std.proofs.Common.{◌≡◌, ◌+◌, drop}
use Rattle.fx_keys.specs.Keys as spec
use Rattle.fx_keys.proofs.keys.place.Given as goal

-- what is left says the place
abbrev pub invariant-loop-before : goal.invariant-loop-before
invariant-loop-before l = l.before + spec.place (drop l.before l.names) l.name ≡ spec.place l.names l.name
