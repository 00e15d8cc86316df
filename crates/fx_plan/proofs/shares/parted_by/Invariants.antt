use Rattle.std.proofs.Common.{◌≡◌, filter, not}
use Rattle.fx_plan.specs.Conditions.{has_names}
use Rattle.fx_plan.proofs.shares.parted_by.Given as goal

abbrev pub invariant-loop-filter : goal.invariant-loop-filter
invariant-loop-filter l = record {
  own : l.own ≡ filter (has_names l.names) l.yielded;
  others : l.others.items ≡ filter (λ e. not (has_names l.names e)) l.yielded;
}
