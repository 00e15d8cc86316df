use Rattle.std.proofs.Common.{◌≡◌, ◌++◌, take}
use Rattle.fx_founds.proofs.uniting.add_all.Given as goal

abbrev pub invariant-loop-found : goal.invariant-loop-found
invariant-loop-found l = l.founds.items ≡ l.initial.founds.items ++ take l.found-index l.more
