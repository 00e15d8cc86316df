use Rattle.std.proofs.Common.{◌≡◌, ◌++◌, map, take}
use Rattle.fx_trees.proofs.patterns.add_objects.Given as goal

abbrev pub invariant-loop-object : goal.invariant-loop-object
invariant-loop-object l = l.patterns ≡ l.initial.patterns ++ map (λ object. record { subject = l.subject; predicate = l.property.0; object = object }) (take l.object-index l.object-items)
