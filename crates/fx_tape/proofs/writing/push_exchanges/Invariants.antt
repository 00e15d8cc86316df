use Rattle.std.proofs.Common.{◌≡◌, ◌++◌, take}
use Rattle.fx_tape.specs.Tapes.{exchanges_text}
use Rattle.fx_tape.proofs.writing.push_exchanges.Given as goal

abbrev pub invariant-loop-exchange : goal.invariant-loop-exchange
invariant-loop-exchange l = l.out.items ≡ l.fn.out.items ++ exchanges_text (take l.exchange-index l.exchanges)
