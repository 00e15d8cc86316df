use Rattle.std.proofs.Common.{◌≡◌, drop}
use Rattle.std.specs.List.{list_any}
use Rattle.fx_algebra.specs.Scopes.{is_among, pattern_names}
use Rattle.fx_evaluation.proofs.known.has_name.Given as goal

-- what is left decides
abbrev pub invariant-loop-pattern : goal.invariant-loop-pattern
invariant-loop-pattern l = list_any (λ p. is_among (pattern_names p) l.name) (drop l.pattern-index l.patterns) ≡ list_any (λ p. is_among (pattern_names p) l.name) l.patterns
