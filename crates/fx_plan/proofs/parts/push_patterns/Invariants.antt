use Rattle.std.proofs.Common.{◌≡◌, ◌++◌, drop, string_bytes}
use Rattle.fx_plan.specs.Explained as spec
use Rattle.fx_plan.proofs.parts.push_patterns.Given as goal

-- what is left completes the text
abbrev pub invariant-loop-pattern : goal.invariant-loop-pattern
invariant-loop-pattern l =
    string_bytes l.text ++ spec.pattern_lines (drop l.pattern-index l.patterns) ≡ string_bytes l.initial.text ++ spec.pattern_lines l.patterns
