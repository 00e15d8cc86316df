use Rattle.std.proofs.Common.{subst, ℕ, List}
use Rattle.fx_member.specs.Served.{IsTextTold, TellsOver}
use Rattle.fx_member.specs.GraphWires.{RepliesTo}
use Rattle.fx_member.proofs.HonestLemmas.{served_text, served_refusal, honest_text, honest_refusal, asks_refusal, ok_as}
use Rattle.fx_member.proofs.serving.prepare.Goals as goal

pub returns-in_ok-text_reply-in-Ok-clause-served : goal.returns-in_ok-text_reply-in-Ok-clause-served
returns-in_ok-text_reply-in-Ok-clause-served g c = λ tells.
    let t = c.in_ok-text_reply-in-Ok.ensures.told in
    served_text (TellsOver c.args.store.now) (g.S.Ends.left c.args.source.now) c.in-Ok.asked t.0 _ _ (c.in-Ok.ensures.found tells) (subst (λ (text : List ℕ). IsTextTold c.args.store.now text t.0) c.text.ensures t.1) t.2

pub returns-in_ok-text_reply-in-Ok-clause-honest : goal.returns-in_ok-text_reply-in-Ok-clause-honest
returns-in_ok-text_reply-in-Ok-clause-honest g c = λ tells.
    honest_text c.args.store.now (g.S.Ends.left c.args.source.now) c.in-Ok.asked _ (c.in-Ok.ensures.found tells)
    (subst (λ (text : List ℕ). RepliesTo c.args.store.now text c.in_ok-text_reply-in-Ok.field-0.bytes.items) c.text.ensures c.in_ok-text_reply-in-Ok.ensures.means)

pub returns-in-Err-clause-served : goal.returns-in-Err-clause-served
returns-in-Err-clause-served g c = λ tells.
    let input = g.S.Ends.left c.args.source.now in
    let found = c.in-Err.ensures.found tells in
    ok_as c.refused_reply.result
    (λ reply t. served_refusal (TellsOver c.args.store.now) input c.in-Err.error t.0 _ _ (asks_refusal input c.in-Err.error t.0 t.1 found) t.1 t.2) c.refused_reply.ensures.told

pub returns-in-Err-clause-honest : goal.returns-in-Err-clause-honest
returns-in-Err-clause-honest g c = λ tells.
    let input = g.S.Ends.left c.args.source.now in
    let found = c.in-Err.ensures.found tells in
    ok_as c.refused_reply.result (λ reply t. honest_refusal c.args.store.now input _ c.in-Err.error (asks_refusal input c.in-Err.error t.0 t.1 found)) c.refused_reply.ensures.told
