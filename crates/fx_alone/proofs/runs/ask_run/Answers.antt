use Rattle.std.proofs.Common.{map}
use Rattle.fx_steps.specs.Steps.{numbered}
use Rattle.fx_flows.proofs.FlowLemmas.{not_flowed}
use Rattle.fx_alone.proofs.runs.ask_run.Goals as goal

pub returns-in_default : goal.returns-in_default
returns-in_default g c = not_flowed g.W.Wire.tells_log g.W.Wire.counts_alone (map g.W.Wire.seen c.args.wires.now) c.args.endpoints.now c.args.units.now c.args.block (numbered 0 c.args.rows.now)
