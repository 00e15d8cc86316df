use Rattle.std.proofs.Common.{◌≡◌, ◌++◌, drop}
use Rattle.std.specs.List.{flat_map}
use Rattle.fx_founds.proofs.uniting.each_once.Given as goal

abbrev pub invariant-loop-list : goal.invariant-loop-list
invariant-loop-list l = l.founds.items ++ flat_map (λ list. list) (drop l.list-index l.lists) ≡ flat_map (λ list. list) l.lists
