use Rattle.std.proofs.Common.{◌≡◌, take}
use Rattle.fx_walks.proofs.sections.begin.Given as goal

abbrev pub invariant-loop-name : goal.invariant-loop-name
invariant-loop-name l = l.known.items ≡ take l.name-index l.before
