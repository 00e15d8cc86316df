use Rattle.std.proofs.Common.{◌≡◌, ◌++◌, drop, filter, map}
use Rattle.fx_bound.specs.Parts.{branch_of}
use Rattle.fx_founds.specs.Uniting.{branches, is_worth_asking, places_from}
use Rattle.fx_bound.proofs.branches.branches_of.Given as goal

abbrev pub invariant-loop-row : goal.invariant-loop-row
invariant-loop-row l = record {
  number : l.number ≡ l.row-index;
  all : l.all ++ map (branch_of l.unit) (filter (is_worth_asking l.unit) (places_from l.number (drop l.row-index l.rows))) ≡ map (branch_of l.unit) (branches l.unit l.rows);
}
