use Rattle.std.proofs.Common.{◌≡◌, take}
use Rattle.fx_services.specs.Noted.{places}
use Rattle.fx_engine.proofs.outcomes.numbers_of.Given as goal

abbrev pub invariant-loop-occurrence : goal.invariant-loop-occurrence
invariant-loop-occurrence l = l.numbers.items ≡ places (take l.occurrence-index l.down)
