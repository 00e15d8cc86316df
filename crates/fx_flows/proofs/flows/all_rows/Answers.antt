use Rattle.std.proofs.Common.{◌++◌, ◌≡◌, ◌∙◌, map, arith, rules}
use Rattle.fx_flows.proofs.FlowLemmas.{at_the_begin, beside_idle, not_flowed, on_ok, run_flowed}
use Rattle.fx_flows.proofs.flows.all_rows.Goals as goal

pub returns-then-is_err : goal.returns-then-is_err
returns-then-is_err g c = λ rows cut. not_flowed g.W.Wire.tells_log g.W.Wire.counts_alone (map g.W.Wire.seen c.args.wires.now) c.args.run.now.endpoints.now (map g.U.Step.unit c.args.run.now.units.now) c.args.run.now.shape.block rows

pub returns : goal.returns
returns g c = λ rows cut.
    let see = g.W.Wire.seen in
    let shape = c.args.run.now.shape in
    let begun = at_the_begin c.args.me.now.me.view.client c.put_all.new.me.me.view.client shape c.args.first.items c.put_all.result c.requires.pass.1 (search rules) c.put_all.ensures.put in
    let parts : c.flow_out-found.new.me.me.view.client.parts ≡ 16 = c.flow_out-found.ensures.pass.1.0 ∙ begun.2 in
    let left = c.waiting-left.ensures.left in
    let flowed = beside_idle see g.W.Wire.tells_log g.W.Wire.counts_alone c.args.run.now.endpoints.now (map g.U.Step.unit c.args.run.now.units.now) shape c.put_all.new.me.me.view.client c.flow_out-found.new.me.me.view.client
    c.args.wires.now c.split_at_mut-used.result.0.now c.flow_out-found.new.wires c.split_at_mut-used.result.1.now c.flow_out-found.result (search rules) c.flow_out-found.ensures.flowed in
    run_flowed g.W.Wire.tells_log g.W.Wire.counts_alone c.args.run.now.endpoints.now (map g.U.Step.unit c.args.run.now.units.now) shape c.requires.run.positive c.requires.run.units (omega (arith, c.requires.run.units, c.requires.some)) rows c.args.first.items cut
    (map see c.args.wires.now) (map see (c.flow_out-found.new.wires ++ c.split_at_mut-used.result.1.now)) c.put_all.new.me.me.view.client c.flow_out-found.new.me.me.view.client
    begun.0 begun.1 left.0 (left.2 parts) c.flow_out-found.result flowed (on_ok c.put_all.new.me.me.view.client c.flow_out-found.new.me.me.view.client c.flow_out-found.result c.flow_out-found.ensures.empty begun.2)
