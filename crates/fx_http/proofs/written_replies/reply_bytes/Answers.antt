use Rattle.std.proofs.Common.{rules, ◌≡◌, ◌∙◌, sym, subst, ap, arith, List, ℕ, ◌<◌, ◌^◌, length}
use Rattle.fx_http.specs.Replies.{IsReply}
use Rattle.fx_http.specs.WrittenReplies.{reply_of}
use Rattle.fx_http.proofs.WrittenReplyLaws.{reply_is}
use Rattle.fx_http.proofs.written_replies.reply_bytes.Goals as goal

pub returns-clause-exact : goal.returns-clause-exact
returns-clause-exact c = search rules

pub returns-clause-read : goal.returns-clause-read
returns-clause-read c =
    λ e.
    let whole : c.extend_from_slice.new.self.items ≡ reply_of 200 c.args.body.now = returns-clause-exact c ∙ ap (λ (s : ℕ). reply_of s c.args.body.now) e in
    let short : length c.args.body.now < 10 ^ 19 = omega arith in
    subst (λ (t : List ℕ). IsReply t c.args.body.now) (sym whole) (reply_is c.args.body.now short)
