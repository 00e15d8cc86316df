use Rattle.fx_store.proofs.CountLemmas.{run_count}
use Rattle.fx_store.proofs.lookups.count_of.Goals as goal

pub returns-clause-count : goal.returns-clause-count
returns-clause-count g c = run_count c.run-found.result c.args.orders.now c.args.sought.now c.run-found.ensures.within c.run-found.ensures.run
