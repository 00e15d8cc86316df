use Rattle.std.proofs.Common.{◌+◌, ◌-◌, length}
use Rattle.fx_turtle.proofs.WindowTokens.{Come}
use Rattle.fx_turtle.proofs.reading.triples.Given as goal

abbrev pub invariant-each : goal.invariant-each
invariant-each l = Come l.text l.prefixes l.triples.items l.tokens.items l.at

abbrev pub decreases-each : goal.decreases-each
decreases-each l = length l.text - l.at.place + length l.tokens.items
