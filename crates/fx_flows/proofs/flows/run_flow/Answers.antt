use Rattle.std.proofs.Common.{map}
use Rattle.fx_steps.specs.Steps.{numbered}
use Rattle.fx_flows.proofs.FlowLemmas.{not_flowed}
use Rattle.fx_flows.proofs.flows.run_flow.Goals as goal

pub returns-in_default : goal.returns-in_default
returns-in_default g c = not_flowed g.W.Wire.tells_log g.W.Wire.counts_alone (map g.W.Wire.seen c.args.wires.now) c.args.endpoints.now c.args.units.now c.args.block (numbered 0 c.args.rows.now)

pub run_rows-requires-clause-sendable : goal.run_rows-requires-clause-sendable
run_rows-requires-clause-sendable g c = λ κs within. c.requires.sendable

pub run_rows-requires-clause-fit : goal.run_rows-requires-clause-fit
run_rows-requires-clause-fit g c = λ κs within. c.requires.fit

pub run_rows-requires-clause-within : goal.run_rows-requires-clause-within
run_rows-requires-clause-within g c = λ κs within. c.requires.within
