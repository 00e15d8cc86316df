use Rattle.std.proofs.Common.{◌≡◌, drop, fold}
use Rattle.fx_algebra.specs.Scopes.{with_name}
use Rattle.fx_trees.proofs.elements.note_names.Given as goal

abbrev pub invariant-loop-name : goal.invariant-loop-name
invariant-loop-name l = fold with_name l.names.keys (drop l.name-index l.more) ≡ fold with_name l.initial.names.keys l.more
