use Rattle.fx_http.proofs.ReplyLaws.{only_answer}
use Rattle.fx_http.proofs.replies.read_reply.Goals as goal

pub returns-clause-only : goal.returns-clause-only
returns-clause-only c = only_answer c.args.bytes.now c.read.result c.read.ensures
