use Rattle.std.proofs.Common.{refl, inl, rules, true, []}
use Rattle.fx_traffic.specs.Gains.{seen}
use Rattle.fx_gateway.specs.Connected.{LinkSeen, federation}
use Rattle.fx_gate_wires.proofs.OwnLemmas.{own_given, own_lost}
use Rattle.fx_gate_wires.proofs.replies.gated_over.Goals as goal

pub returns-in_default : goal.returns-in_default
returns-in_default g c =
    let link : LinkSeen = record { tells_left = true; left = []; tells_held = true; held = []; read_faults = 0; write_faults = 0 } in
    record { link = link; is_lost = inl (record { same = refl; kept = refl }) }

pub returns-in-Ok-gated_reply_by : goal.returns-in-Ok-gated_reply_by
returns-in-Ok-gated_reply_by g c =
    let f = federation (seen g.W.Wire c.args.wires.now c.gated_reply_by.new.wires) c.args.registry.now c.args.cache.now c.gated_reply_by.new.cache c.args.options.block in
    own_given f c.args.request.now c.args.limit _ refl (search rules) c.in-Ok-gated_reply_by.reply c.given_by.result c.in-Ok-gated_reply_by.ensures.prepared c.given_by.ensures

pub returns : goal.returns
returns g c =
    let f = federation (seen g.W.Wire c.args.wires.now c.gated_reply_by.new.wires) c.args.registry.now c.args.cache.now c.gated_reply_by.new.cache c.args.options.block in
    own_lost f c.args.request.now c.args.limit _ _ c.in-Err.ensures.prepared
