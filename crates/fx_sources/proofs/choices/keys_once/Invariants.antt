use Rattle.std.proofs.Common.{◌≡◌, [], drop, fold, map}
use Rattle.fx_keys.specs.Probes.{key_of}
use Rattle.fx_sources.specs.Probes.{with_key}
use Rattle.fx_sources.proofs.choices.keys_once.Given as goal

-- what is left completes the keys
abbrev pub invariant-loop-pattern : goal.invariant-loop-pattern
invariant-loop-pattern l = fold with_key l.keys.keys (map key_of (drop l.pattern-index l.patterns)) ≡ fold with_key [] (map key_of l.patterns)
