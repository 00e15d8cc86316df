use Rattle.std.proofs.Common.{List, map, rules, subst, sym}
use Rattle.fx_algebra.specs.declared.units.Unit as unit
use Rattle.fx_flows.specs.Flows.{rows_in}
use Rattle.fx_side_by_side.specs.SideBySide.{RunsFlowed}
use Rattle.fx_side_by_side.proofs.RunsLemmas.{Results}
use Rattle.fx_side_by_side.proofs.WalkLemmas.{as_many_begun, next_step, runs_begun, steps_done, up_to}
use Rattle.fx_side_by_side.proofs.steps.ask_in_steps.Goals as goal

pub loop-step-init : goal.loop-step-init
loop-step-init g c =
    let wires = map g.W.Wire.seen c.args.wires.now in
    let es = c.args.endpoints.now in
    let runs = c.args.runs.now in
    record {
      wired = c.requires.wired;
      many = as_many_begun c.args.found.now runs c.requires.begun;
      so_far = subst (λ (v : Results). RunsFlowed g.W.Wire.tells_log g.W.Wire.counts_alone wires wires es (up_to 0 runs) c.args.block v) (sym c.requires.begun) (runs_begun g.W.Wire.tells_log g.W.Wire.counts_alone wires es c.args.block runs);
    }

pub loop-step-preserved : goal.loop-step-preserved
loop-step-preserved g c =
    let laws = g.met.W.Wire g.world.𝓛 g.world.𝓜 g.world.𝓡 ((λ s x. x), (λ x. x), (λ x. x), λ x. x) in
    record {
      wired = search rules;
      many = search rules;
      so_far = next_step g.W.Wire.seen g.W.Wire.tells_log g.W.Wire.counts_alone laws.told c.args.endpoints.now c.loop-step.step c.args.block c.args.runs.now
          c.args.wires.now c.loop-step.wires c.ask_steps.new.wires (map rows_in c.loop-step.found) (map rows_in c.ask_steps.new.found) c.loop-step.invariant.so_far c.ask_steps.ensures;
    }

pub returns : goal.returns
returns g c =
    subst (λ (v : List (List unit.Unit)). RunsFlowed g.W.Wire.tells_log g.W.Wire.counts_alone (map g.W.Wire.seen c.args.wires.now) (map g.W.Wire.seen c.loop-step.wires) c.args.endpoints.now v c.args.block (map rows_in c.loop-step.found))
    (steps_done c.loop-step.step c.longest-step-end.result c.args.runs.now (search rules) c.longest-step-end.ensures.longest) c.loop-step.invariant.so_far
