-- Jobs and units may be shared between threads.
use denote.Param.Send.{IsSend, IsSync, sendable}
use Rattle.std.proofs.Crossing.{crosses}
use Rattle.std.proofs.MapsCrossing as texts
use Rattle.sqlite_items.proofs.items.Items.TheSendSync as items
use Rattle.sqlite_items.proofs.boxed.Boxed.TheSendSync as boxed
use Rattle.fx_terms.proofs.names.Name.TheSendSync as name
use Rattle.fx_terms.proofs.patterns.Pattern.TheSendSync as pattern
use Rattle.fx_algebra.proofs.expressions.Sign.TheSendSync as sign
use Rattle.fx_algebra.proofs.units.Row.TheSendSync as row
use Rattle.fx_algebra.proofs.expressions.Expr.TheLaws.TheKnot as knot
use Rattle.fx_bound.proofs.branches.Branch.TheSendSync as branch
use Rattle.fx_pool.proofs.jobs.RequestText.TheSendSync as text
use Rattle.fx_algebra.specs.contracts.units.Unit as unit
use Rattle.fx_bound.specs.contracts.batches.Batch as batch
use Rattle.fx_values.specs.contracts.batches.ValuesBatch as values
use Rattle.fx_pool.specs.contracts.jobs.Job as job
use Rattle.fx_pool.specs.contracts.jobs.Work as work

batches_are_shared : IsSync batch.the_row
batches_are_shared =
    search (sendable, crosses, texts.crosses, items.the_sync, boxed.the_sync, name.the_sync, pattern.the_sync, sign.the_sync, row.the_sync, knot.sync-Expr, branch.the_sync) depth 60 fits 4000

blocks_are_shared : IsSync values.the_row
blocks_are_shared =
    search (sendable, crosses, texts.crosses, items.the_sync, boxed.the_sync, name.the_sync, pattern.the_sync, sign.the_sync, row.the_sync, knot.sync-Expr) depth 60 fits 4000

pub works_are_shared : IsSync work.the_row
works_are_shared = search (sendable, crosses, texts.crosses, items.the_sync, boxed.the_sync, name.the_sync, text.the_sync, batches_are_shared, blocks_are_shared) depth 60 fits 4000

pub jobs_are_shared : IsSync job.the_row
jobs_are_shared = search (sendable, crosses, texts.crosses, items.the_sync, boxed.the_sync, name.the_sync, text.the_sync, batches_are_shared, blocks_are_shared) depth 60 fits 4000

batches_are_sent : IsSend batch.the_row
batches_are_sent =
    search (sendable, crosses, texts.crosses, items.the_send, boxed.the_send, name.the_send, pattern.the_send, sign.the_send, row.the_send, knot.send-Expr, branch.the_send) depth 60 fits 4000

blocks_are_sent : IsSend values.the_row
blocks_are_sent =
    search (sendable, crosses, texts.crosses, items.the_send, boxed.the_send, name.the_send, pattern.the_send, sign.the_send, row.the_send, knot.send-Expr) depth 60 fits 4000

pub works_are_sent : IsSend work.the_row
works_are_sent = search (sendable, crosses, texts.crosses, items.the_send, boxed.the_send, name.the_send, text.the_send, batches_are_sent, blocks_are_sent) depth 60 fits 4000

pub jobs_are_sent : IsSend job.the_row
jobs_are_sent = search (sendable, crosses, texts.crosses, items.the_send, boxed.the_send, name.the_send, text.the_send, batches_are_sent, blocks_are_sent) depth 60 fits 4000

pub units_are_shared : IsSync unit.the_row
units_are_shared =
    search (sendable, crosses, texts.crosses, items.the_sync, boxed.the_sync, name.the_sync, pattern.the_sync, sign.the_sync, knot.sync-Expr) depth 60 fits 4000
