use denote.Param.Send.{sendable}
use Rattle.fx_pool.proofs.ShareLemmas.{works_are_sent, works_are_shared}
use Rattle.fx_pool.proofs.share_works.Goals as goal

pub shareable-requires-send-T : goal.shareable-requires-send-T
shareable-requires-send-T c κs = search (sendable, works_are_sent) depth 20

pub shareable-requires-sync-T : goal.shareable-requires-sync-T
shareable-requires-sync-T c κs = search (sendable, works_are_shared) depth 20
