-- What a writer holds stays while writes are interrupted.
use Rattle.std.specs.Io.KnownBytes.{Keeps}
use Rattle.fx_outside.proofs.system_streams.write_some.Given as goal

abbrev pub invariant-loop : goal.invariant-loop
invariant-loop g l = Keeps (g.W.Write.contents l.initial.writer) (g.W.Write.contents l.writer)
