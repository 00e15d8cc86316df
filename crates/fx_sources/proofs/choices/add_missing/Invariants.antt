use Rattle.std.proofs.Common.{◌≡◌, ◌++◌, drop}
use Rattle.fx_sources.specs.Probes as spec
use Rattle.fx_sources.proofs.choices.add_missing.Given as goal

-- what is left completes the probes
abbrev pub invariant-loop-key : goal.invariant-loop-key
invariant-loop-key l = l.probes.items ++ spec.missing_at l.cache (drop l.key-index l.keys) l.at ≡ l.fn.probes.items ++ spec.missing_at l.cache l.keys l.at
