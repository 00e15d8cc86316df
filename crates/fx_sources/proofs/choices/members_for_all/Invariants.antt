use Rattle.std.proofs.Common.{◌≡◌, ◌++◌, map, drop}
use Rattle.fx_keys.specs.Probes.{key_of}
use Rattle.fx_sources.specs.Probes as spec
use Rattle.fx_sources.proofs.choices.members_for_all.Given as goal

-- what is left completes the members
abbrev pub invariant-loop-pattern : goal.invariant-loop-pattern
invariant-loop-pattern l =
    l.chosen ++ map (λ p. spec.kept_members l.kept (spec.members_of (l.answers.entries ++ l.cache) l.members (key_of p))) (drop l.pattern-index l.patterns)
    ≡ map (λ p. spec.kept_members l.kept (spec.members_of (l.answers.entries ++ l.cache) l.members (key_of p))) l.patterns
