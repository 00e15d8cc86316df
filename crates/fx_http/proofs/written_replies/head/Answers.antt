use Rattle.fx_http.proofs.WrittenReplyLaws.{reply_head_is}
use Rattle.fx_http.proofs.written_replies.head.Goals as goal

pub returns : goal.returns
returns c =
    simp (reply_head_is c.args.status c.args.size) (rw (c.reason-reason.ensures, c.allowed-allowed.ensures, c.media_type-media_type.ensures) at c.format.ensures.ok)
