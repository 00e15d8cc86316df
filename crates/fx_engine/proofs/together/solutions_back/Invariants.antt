use Rattle.std.proofs.Common.{◌≡◌, ◌+◌, ◌++◌, length, IsPermutation}
use Rattle.fx_steps.specs.Steps.{solutions_of}
use Rattle.fx_engine.proofs.together.solutions_back.Given as goal

abbrev pub invariant-loop : goal.invariant-loop
invariant-loop l = record {
  same : IsPermutation (l.rows.items ++ solutions_of l.left) (solutions_of l.fn.found);
  count : l.counter + length l.left ≡ l.end;
}
