-- The laws are the lemmas of `CutLemmas`.
use Rattle.fx_algebra.proofs.CutLemmas.{has_the_names, has_the_tree, seeds_for_each, stations_are_fixed}
use Rattle.fx_algebra.proofs.laws.one_cut.Goals as goal

pub returns-clause-fixed : goal.returns-clause-fixed
returns-clause-fixed c = stations_are_fixed

pub returns-clause-seeds : goal.returns-clause-seeds
returns-clause-seeds c = seeds_for_each

pub returns-clause-tree : goal.returns-clause-tree
returns-clause-tree c = has_the_tree

pub returns-clause-names : goal.returns-clause-names
returns-clause-names c = has_the_names
