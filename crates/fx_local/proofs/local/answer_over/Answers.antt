use Rattle.fx_local.specs.RefusalStatuses.{query_status, status_of}
use Rattle.fx_local.proofs.CountLemmas.{loads_none, only_read}
use Rattle.fx_local.proofs.local.answer_over.Goals as goal

pub returns-in-Err-clause-counted : goal.returns-in-Err-clause-counted
returns-in-Err-clause-counted g c = only_read c.args.query.now (query_status c.in-Err.refusal) (g.F.Files.seen c.args.files.now).faults (g.F.Files.seen c.load_query.new.files).faults c.in-Err.ensures.counted

pub returns-in-Ok-clause-counted : goal.returns-in-Ok-clause-counted
returns-in-Ok-clause-counted g c = loads_none status_of (g.F.Files.seen c.args.files.now).faults (g.F.Files.seen c.load_query.new.files).faults c.report_over.result c.in-Ok.ensures.counted
