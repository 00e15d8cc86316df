use Rattle.std.proofs.Common.{◌≡◌}
use Rattle.fx_plan.specs.Plans as spec
use Rattle.fx_plan.proofs.ShareLemmas.{left_after}
use Rattle.fx_plan.proofs.shares.shared.Given as goal

abbrev pub invariant-loop-unit : goal.invariant-loop-unit
invariant-loop-unit l = record {
  with : l.with.items ≡ spec.shared l.fn.filters.items l.yielded;
  left : l.left.items ≡ left_after l.fn.filters.items l.yielded;
}
