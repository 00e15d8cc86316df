use Rattle.std.proofs.Common.{refl}
use Rattle.fx_traffic.specs.Gains.{seen}
use Rattle.fx_gateway.specs.Connected.{federation, link_seen}
use Rattle.fx_gateway.proofs.StepLemmas.{refused_gated}
use Rattle.fx_gateway.proofs.serving.gated_reply.Goals as goal

pub returns-in-Ok-Refused-clause-prepared : goal.returns-in-Ok-Refused-clause-prepared
returns-in-Ok-Refused-clause-prepared g c =
    let link = link_seen g.S.Ends c.args.source.now in
    let f = federation (seen g.W.Wire c.args.wires.now c.args.wires.now) c.args.registry.now c.args.cache.now c.args.cache.now c.args.options.block in
    let h = rw c.in-Ok-Refused.field-0-is at c.in-Ok-Refused.ensures.received in
    refused_gated link f (record { same = refl; kept = refl }) h.0 h.1 c.in-Ok-Refused.reply.status c.in-Ok-Refused.reply.bytes.items h.2 c.unasked_reply.result c.unasked_reply.ensures.gated c.unasked_reply.ensures.bytes
