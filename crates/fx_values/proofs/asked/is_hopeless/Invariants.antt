use Rattle.std.proofs.Common.{◌≡◌, drop, map}
use Rattle.fx_renaming.specs.Branches.{bound_pattern, is_hopeless}
use Rattle.fx_values.proofs.asked.is_hopeless.Given as goal

abbrev pub invariant-loop-pattern : goal.invariant-loop-pattern
invariant-loop-pattern l = is_hopeless (map (bound_pattern (λ name. name) l.row) (drop l.pattern-index l.patterns)) ≡ is_hopeless (map (bound_pattern (λ name. name) l.row) l.patterns)
