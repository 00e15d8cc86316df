use Rattle.std.proofs.Common.{◌≡◌}
use Rattle.std.specs.List.{flat_map}
use Rattle.fx_evaluation.specs.Optionals.{matches_or_itself}
use Rattle.fx_evaluation.proofs.optionals.with_matches.Given as goal

abbrev pub invariant-loop-row : goal.invariant-loop-row
invariant-loop-row l = l.rows.items ≡ flat_map (matches_or_itself l.store l.patterns l.conditions) l.yielded
