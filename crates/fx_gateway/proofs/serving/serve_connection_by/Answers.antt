use Rattle.fx_traffic.specs.Gains.{seen}
use Rattle.fx_gateway.specs.Connected.{federation}
use Rattle.fx_gateway.proofs.StepLemmas.{unreplied_connected, written_connected}
use Rattle.fx_gateway.proofs.serving.serve_connection_by.Goals as goal

pub returns-in-Ok-clause-connected : goal.returns-in-Ok-clause-connected
returns-in-Ok-clause-connected g c =
    let f = federation (seen g.W.Wire c.args.wires.now c.gated_reply_by.new.wires) c.args.registry.now c.args.cache.now c.gated_reply_by.new.cache c.args.options.block in
    written_connected g.L.Ends c.args.link.now c.gated_reply_by.new.source f c.in-Ok.ensures.held c.write_reply.new.link c.in-Ok.reply c.write_reply.result c.in-Ok.ensures.prepared c.in-Ok.ensures.writes c.write_reply.ensures.written

pub returns-in-Err-clause-connected : goal.returns-in-Err-clause-connected
returns-in-Err-clause-connected g c =
    let f = federation (seen g.W.Wire c.args.wires.now c.gated_reply_by.new.wires) c.args.registry.now c.args.cache.now c.gated_reply_by.new.cache c.args.options.block in
    unreplied_connected g.L.Ends c.args.link.now c.gated_reply_by.new.source f c.in-Err.ensures.held c.in-Err.error c.unreplied.result c.unreplied.ensures c.in-Err.ensures.prepared c.in-Err.ensures.failed
