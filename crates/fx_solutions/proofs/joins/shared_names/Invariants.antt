use Rattle.std.proofs.Common.{◌≡◌, true}
use Rattle.std.specs.List.{list_all}
use Rattle.fx_solutions.specs.Joins.{is_shared}
use Rattle.fx_solutions.proofs.joins.shared_names.Given as goal

abbrev pub invariant-loop-pair : goal.invariant-loop-pair
invariant-loop-pair l = list_all (is_shared l.left l.right) l.shared.items ≡ true
