use Rattle.std.proofs.Common.{◌≡◌, ◌++◌, map, drop}
use Rattle.fx_algebra.specs.Scopes.{all_of, mentions}
use Rattle.fx_trees.proofs.elements.mentions.Given as goal

abbrev pub invariant-loop-element : goal.invariant-loop-element
invariant-loop-element l = l.names.items ++ all_of (map mentions (drop l.element-index l.elements)) ≡ all_of (map mentions l.elements)
