use Rattle.std.proofs.Common.{subst, List, ℕ}
use Rattle.fx_gateway.specs.Connected.{link_seen}
use Rattle.fx_gateway.specs.Steps.{IsTextReceived}
use Rattle.fx_gateway.proofs.RequestLemmas.{of_its_refusal, of_its_text}
use Rattle.fx_gateway.proofs.requests.read_query.Goals as goal

pub returns-in_ok-text_received-in-Ok-clause-received : goal.returns-in_ok-text_received-in-Ok-clause-received
returns-in_ok-text_received-in-Ok-clause-received g c =
    let r = c.in_ok-text_received-in-Ok.field-0 in
    of_its_text (link_seen g.S.Ends c.args.source.now) c.in-Ok.asked r c.in-Ok.ensures.found (subst (λ (text : List ℕ). IsTextReceived text r) c.text.ensures c.in_ok-text_received-in-Ok.ensures)

pub returns-in_ok-refused_reply-in-Err-clause-received : goal.returns-in_ok-refused_reply-in-Err-clause-received
returns-in_ok-refused_reply-in-Err-clause-received g c =
    let t = c.in_ok-refused_reply-in-Err.ensures.told in
    of_its_refusal (link_seen g.S.Ends c.args.source.now) c.in-Err.error _ t.0 _ c.in-Err.ensures.found t.1 t.2
