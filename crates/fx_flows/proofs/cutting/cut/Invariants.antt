use Rattle.std.proofs.Common.{◌≡◌, ◌++◌}
use Rattle.fx_flows.proofs.CutLemmas.{AreCutSoFar}
use Rattle.fx_flows.proofs.cutting.cut.Given as goal

abbrev pub invariant-loop-row : goal.invariant-loop-row
invariant-loop-row l = record {
  whole : l.yielded ++ l.row-iterator.rest.items ≡ l.fn.rows.items;
  cut : AreCutSoFar l.yielded l.fn.block l.batches.items l.batch;
}
