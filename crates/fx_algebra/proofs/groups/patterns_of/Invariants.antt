use Rattle.std.proofs.Common.{◌≡◌, ◌++◌, map, drop}
use Rattle.std.specs.List.{filter_map}
use Rattle.fx_algebra.specs.Answers.{pattern_in}
use Rattle.fx_algebra.proofs.groups.patterns_of.Given as goal

-- what is left completes the patterns
abbrev pub invariant-loop-element : goal.invariant-loop-element
invariant-loop-element l = l.patterns.items ++ filter_map (λ pattern. pattern) (map pattern_in (drop l.element-index l.element-items)) ≡ filter_map (λ pattern. pattern) (map pattern_in l.element-items)
