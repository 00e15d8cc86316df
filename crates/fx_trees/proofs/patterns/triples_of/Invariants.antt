use Rattle.std.proofs.Common.{◌≡◌, ◌++◌, drop}
use Rattle.std.specs.List.{flat_map}
use Rattle.fx_grammar.specs.Grammar.{property_triples}
use Rattle.fx_trees.proofs.patterns.triples_of.Given as goal

-- what is left completes the triples
abbrev pub invariant-loop-property : goal.invariant-loop-property
invariant-loop-property l = l.patterns ++ flat_map (property_triples l.subject) (drop l.property-index l.properties) ≡ flat_map (property_triples l.subject) l.properties
