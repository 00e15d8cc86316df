use Rattle.std.proofs.Common.{◌≡◌, filter, take}
use Rattle.fx_algebra.specs.Units.{is_pushable}
use Rattle.fx_plan.proofs.shares.all_pushable.Given as goal

abbrev pub invariant-loop-filter : goal.invariant-loop-filter
invariant-loop-filter l = l.kept.items ≡ filter is_pushable (take l.filter-index l.filters)
