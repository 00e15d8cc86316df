-- The forms of a batch may be shared between threads.
use denote.Param.Send.{IsSync, sendable}
use denote.Ref.{NamedLft}
use Rattle.std.proofs.Crossing.{crosses}
use Rattle.std.proofs.MapsCrossing as texts
use Rattle.sqlite_items.proofs.items.Items.TheSendSync as items
use Rattle.sqlite_items.proofs.boxed.Boxed.TheSendSync as boxed
use Rattle.fx_terms.proofs.names.Name.TheSendSync as name
use Rattle.fx_terms.proofs.patterns.Pattern.TheSendSync as pattern
use Rattle.fx_algebra.proofs.expressions.Sign.TheSendSync as sign
use Rattle.fx_algebra.proofs.units.Row.TheSendSync as row
use Rattle.fx_algebra.proofs.expressions.Expr.TheLaws.TheKnot as knot
use Rattle.fx_bound.proofs.branches.Branch.TheSendSync as branch
use Rattle.fx_bound.specs.contracts.batches.Batch as batch
use Rattle.fx_values.specs.contracts.batches.ValuesBatch as values
use Rattle.fx_pool.proofs.ShareLemmas.{units_are_shared}
use Rattle.fx_flows.specs.contracts.forms.Forms as forms

batches_are_shared : IsSync batch.the_row
batches_are_shared =
    search (sendable, crosses, texts.crosses, items.the_sync, boxed.the_sync, name.the_sync, pattern.the_sync, sign.the_sync, row.the_sync, knot.sync-Expr, branch.the_sync) depth 60 fits 4000

blocks_are_shared : IsSync values.the_row
blocks_are_shared =
    search (sendable, crosses, texts.crosses, items.the_sync, boxed.the_sync, name.the_sync, pattern.the_sync, sign.the_sync, row.the_sync, knot.sync-Expr) depth 60 fits 4000

pub forms_are_shared : (κ : NamedLft) → IsSync (forms.the_row κ)
forms_are_shared κ = search (sendable, crosses, texts.crosses, boxed.the_sync, row.the_sync, units_are_shared, batches_are_shared, blocks_are_shared) depth 60 fits 4000
