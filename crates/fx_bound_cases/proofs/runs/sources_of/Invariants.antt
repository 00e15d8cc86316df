use Rattle.std.proofs.Common.{◌≡◌, map, take}
use Rattle.fx_bound_cases.specs.LoneRuns as spec
use Rattle.fx_bound_cases.proofs.runs.sources_of.Given as goal

abbrev pub invariant-loop-pattern : goal.invariant-loop-pattern
invariant-loop-pattern l = l.sources.items ≡ map spec.member_of (take l._pattern-index l.patterns)
