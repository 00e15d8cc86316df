use Rattle.std.proofs.Common.{◌≡◌, take}
use Rattle.fx_algebra.specs.Evaluation.{extended}
use Rattle.fx_store.proofs.stores.Store.extend_counted.Given as goal

abbrev pub invariant-loop-row : goal.invariant-loop-row
invariant-loop-row g l = l.more.items ≡ extended l.self l.pattern (take l.row-index l.rows)
