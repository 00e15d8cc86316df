use Rattle.std.proofs.Common.{sym}
use Rattle.fx_store.specs.Lookups.{has_parts, known_of}
use Rattle.fx_store.proofs.CountLemmas.{none_pass}
use Rattle.fx_store.proofs.lookups.count.Goals as goal

pub returns-in-None-clause-count : goal.returns-in-None-clause-count
returns-in-None-clause-count g c = sym (none_pass (has_parts (known_of c.args.pattern.now c.args.row.now)) c.in-None.ensures.none c.args.orders.now)
