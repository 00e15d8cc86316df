use Rattle.std.proofs.Common.{◌≡◌, ◌++◌, drop}
use Rattle.fx_commands.proofs.generated.push_triples.Given as goal

-- what is left completes them
abbrev pub invariant-loop-triple : goal.invariant-loop-triple
invariant-loop-triple l = l.all.items ++ drop l.triple-index l.triples ≡ l.fn.all.items ++ l.triples
