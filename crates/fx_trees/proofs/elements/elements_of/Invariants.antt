use Rattle.std.proofs.Common.{◌≡◌, map, take}
use Rattle.fx_algebra.specs.declared.queries.Element.TheVariants as element
use Rattle.fx_trees.proofs.elements.elements_of.Given as goal

abbrev pub invariant-loop-pattern : goal.invariant-loop-pattern
invariant-loop-pattern l = l.elements ≡ map element.Triple (take l.pattern-index l.patterns)
