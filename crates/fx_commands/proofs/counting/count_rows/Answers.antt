use Rattle.fx_traffic.specs.Gains.{wires_seen}
use Rattle.fx_commands.proofs.CountingLemmas.{counted, refused_by, was_counted, was_refused}
use Rattle.fx_commands.proofs.counting.count_rows.Goals as goal

pub returns-in-Ok-clause-counted : goal.returns-in-Ok-clause-counted
returns-in-Ok-clause-counted g c = counted (wires_seen g.W.Wire.tells_log g.W.Wire.counts_alone g.W.Wire.seen c.args.wires.now c.over_members.new.wires) c.in-Ok.all c.rows_of.result c.rows_of.ensures c.in-Ok.ensures.answered

pub returns-in-Ok-clause-asked : goal.returns-in-Ok-clause-asked
returns-in-Ok-clause-asked g c = was_counted (wires_seen g.W.Wire.tells_log g.W.Wire.counts_alone g.W.Wire.seen c.args.wires.now c.over_members.new.wires) c.in-Ok.all c.rows_of.result c.rows_of.ensures c.in-Ok.ensures.answered

pub returns-in-Err-clause-asked : goal.returns-in-Err-clause-asked
returns-in-Err-clause-asked g c = was_refused (wires_seen g.W.Wire.tells_log g.W.Wire.counts_alone g.W.Wire.seen c.args.wires.now c.over_members.new.wires) c.in-Err.error c.in-Err.ensures.answered

pub returns-in-Err-clause-refused : goal.returns-in-Err-clause-refused
returns-in-Err-clause-refused g c = refused_by (wires_seen g.W.Wire.tells_log g.W.Wire.counts_alone g.W.Wire.seen c.args.wires.now c.over_members.new.wires) c.in-Err.error c.in-Err.ensures.answered
