use Rattle.std.proofs.Common.{◌<◌}
use Rattle.fx_side_by_side.proofs.choices.best_of.Given as goal

abbrev pub invariant-loop-used : goal.invariant-loop-used
invariant-loop-used l = record {
  within : (0 < l.best) × (l.best < l.wires);
  from : 0 < l.used;
}
