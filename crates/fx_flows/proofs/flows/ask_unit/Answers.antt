use Rattle.std.proofs.Common.{map, subst, List}
use Rattle.fx_algebra.specs.declared.units.Row.{Row}
use Rattle.fx_algebra.specs.declared.units.Unit as unit
use Rattle.fx_flows.specs.Flows.{rows_in}
use Rattle.fx_flows.specs.RunFlows.{RunFlowed}
use Rattle.fx_flows.specs.Teams.{StepAsked}
use Rattle.fx_flows.proofs.TeamStepLemmas.{step_flowed}
use Rattle.fx_flows.proofs.flows.ask_unit.Goals as goal

pub returns-then-waits_less_in_rounds : goal.returns-then-waits_less_in_rounds
returns-then-waits_less_in_rounds g c = λ rows cut.
    let tells = g.W.Wire.tells_log in
    let alone = g.W.Wire.counts_alone in
    let s = map g.W.Wire.seen c.args.wires.now in
    let t = map g.W.Wire.seen c.ask_rounds.new.wires in
    let es = c.args.endpoints.now in
    let u = c.args.unit.now in
    let asked = subst (λ (v : List (List Row)). StepAsked tells alone s t es u v (rows_in c.ask_rounds.result)) c.as_slice.ensures.value c.ask_rounds.ensures in
    step_flowed tells alone s t es u c.args.block rows c.args.batches.items (rows_in c.ask_rounds.result) c.requires.block.0 cut asked

pub returns : goal.returns
returns g c = λ rows cut.
    subst (λ (v : List unit.Unit). RunFlowed g.W.Wire.tells_log g.W.Wire.counts_alone (map g.W.Wire.seen c.args.wires.now) (map g.W.Wire.seen c.piped.new.wires) c.args.endpoints.now v c.args.block rows (rows_in c.piped.result)) c.from_ref.ensures.value
    (c.piped.ensures rows cut)

pub ask_rounds-requires-clause-sendable : goal.ask_rounds-requires-clause-sendable
ask_rounds-requires-clause-sendable g c = λ κs within. c.requires.sendable

pub ask_rounds-requires-clause-fit : goal.ask_rounds-requires-clause-fit
ask_rounds-requires-clause-fit g c = λ κs within. c.requires.fit

pub ask_rounds-requires-clause-within : goal.ask_rounds-requires-clause-within
ask_rounds-requires-clause-within g c = λ κs within. c.requires.within

pub piped-requires-clause-sendable : goal.piped-requires-clause-sendable
piped-requires-clause-sendable g c = λ κs within. c.requires.sendable
