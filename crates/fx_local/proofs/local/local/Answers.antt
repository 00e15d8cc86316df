use Rattle.fx_local.specs.RefusalStatuses.{status_of}
use Rattle.fx_local.proofs.CountLemmas.{loads_later}
use Rattle.fx_local.proofs.LocalLemmas.{local_gives}
use Rattle.fx_local.proofs.local.local.Goals as goal

pub returns-in-Ok-clause-outcome : goal.returns-in-Ok-clause-outcome
returns-in-Ok-clause-outcome g c =
    local_gives (g.F.Files.seen c.args.files.now) (g.F.Files.seen c.load_store.new.files) (g.F.Files.seen c.answer_over.new.files) c.args.graph.now c.args.query.now c.in-Ok.store c.answer_over.result (c.in-Ok.ensures.same c.args.query.now) (c.in-Ok.ensures.counted c.args.query.now)
    c.in-Ok.ensures.outcome c.answer_over.ensures.outcome

pub returns-in-Ok-clause-counted : goal.returns-in-Ok-clause-counted
returns-in-Ok-clause-counted g c = loads_later status_of _ _ _ c.answer_over.result c.in-Ok.ensures.counted c.answer_over.ensures.counted
