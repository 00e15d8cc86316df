use Rattle.std.proofs.Common.{ℕ, ap, refl, Ok}
use Rattle.fx_results.specs.Documents.{document}
use Rattle.fx_member.specs.Served.{told}
use Rattle.fx_gateway.specs.Replies.{gated_of}
use Rattle.fx_gateway.proofs.replies.answer_reply.Goals as goal

pub returns : goal.returns
returns c =
    let reply = c.in_ok-reply.ensures in
    record {
      t = told 200 (document c.args.all.outcome.answer);
      told = refl;
      gated_is = ap (λ (s : ℕ). gated_of s (Ok c.args.all)) reply.told.is_status;
      laid_out = reply.told.is_reply;
      means = reply.means;
    }
