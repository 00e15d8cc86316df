use Rattle.std.proofs.Common.{◌∙◌, map, rules}
use Rattle.fx_flows.proofs.FlowLemmas.{emptied_by_both, first_flowed, then_flowed}
use Rattle.fx_pool.proofs.WiresLemmas.{all_tell}
use Rattle.fx_flows.proofs.flowing.flow_out.Goals as goal

pub returns-in-Ok-clause-flowed : goal.returns-in-Ok-clause-flowed
returns-in-Ok-clause-flowed g c =
    let see = g.W.Wire.seen in
    let tells = g.W.Wire.tells_log in
    let alone = g.W.Wire.counts_alone in
    let units = map g.U.Step.unit c.args.run.now.units.now in
    let laws = g.met.W.Wire g.world.𝓛 g.world.𝓜 g.world.𝓡 ((λ s x. x), (λ x. x), (λ x. x), λ x. x) in
    let rest = first_flowed see tells alone c.flow.new.wires c.index-wires-0.result c.work-rest.new.wire c.args.run.now.endpoints.now units c.args.run.now.shape
    c.flow.new.me.me.view.client c.work-rest.new.me.me.view.client c.work-rest.result laws.told (search rules) c.work-rest.ensures.flowed in
    then_flowed tells alone c.args.run.now.endpoints.now units c.args.run.now.shape c.args.me.now.me.view.client c.flow.new.me.me.view.client c.work-rest.new.me.me.view.client
    (map see c.args.wires.now) (map see c.flow.new.wires) _ c.in-Ok.made c.work-rest.result c.both.result
    (all_tell see tells laws.told c.args.wires.now) (all_tell see tells laws.told c.flow.new.wires)
    c.in-Ok.ensures.flowed rest c.both.ensures

pub work-rest-requires-clause-run : goal.work-rest-requires-clause-run
work-rest-requires-clause-run g c = c.requires.run

pub work-rest-requires-clause-shape : goal.work-rest-requires-clause-shape
work-rest-requires-clause-shape g c = c.in-Ok.ensures.pass.1.1 ∙ c.requires.shape

pub returns-in-Err-clause-pass : goal.returns-in-Err-clause-pass
returns-in-Err-clause-pass g c = c.in-Err.ensures.pass

pub returns-in-Err-clause-flowed : goal.returns-in-Err-clause-flowed
returns-in-Err-clause-flowed g c = c.in-Err.ensures.flowed

pub returns-in-Ok-clause-pass : goal.returns-in-Ok-clause-pass
returns-in-Ok-clause-pass g c =
    let first = c.in-Ok.ensures.pass.1 in
    let then = c.work-rest.ensures.pass.1 in (c.work-rest.ensures.pass.0, (then.0 ∙ first.0, then.1 ∙ first.1))

pub returns-in-Ok-clause-empty : goal.returns-in-Ok-clause-empty
returns-in-Ok-clause-empty g c =
    emptied_by_both c.in-Ok.made c.work-rest.result c.both.result c.args.me.now.me.view.client c.flow.new.me.me.view.client c.work-rest.new.me.me.view.client c.both.ensures c.work-rest.ensures.empty c.in-Ok.ensures.pass.1.0
