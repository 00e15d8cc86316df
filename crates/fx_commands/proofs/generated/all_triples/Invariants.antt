use Rattle.std.proofs.Common.{◌≡◌, ◌++◌, List, drop}
use Rattle.std.specs.List.{flat_map}
use Rattle.fx_terms.specs.declared.triples.Triple.{Triple}
use Rattle.fx_commands.specs.GeneratorSteps.{graphs_of}
use Rattle.fx_commands.proofs.generated.all_triples.Given as goal

-- what is left completes what they hold
abbrev pub invariant-loop-member : goal.invariant-loop-member
invariant-loop-member l = l.all.items ++ flat_map (λ (graph : List Triple). graph) (graphs_of (drop l.member-index l.members)) ≡ flat_map (λ (graph : List Triple). graph) (graphs_of l.members)
