use Rattle.std.proofs.Common.{map}
use Rattle.fx_engine.proofs.BehindLemmas.{both_asked, both_refused}
use Rattle.fx_engine.proofs.together.run_and_groups.Goals as goal

pub returns-in-Err : goal.returns-in-Err
returns-in-Err g c = λ tasks next end k.
    both_refused g.W.Wire.tells_log g.W.Wire.counts_alone c.args.walk.now.endpoints.now c.args.walk.now.block tasks next end c.args.groups.now c.args.its.now (map g.W.Wire.seen c.args.wires.now) (map g.W.Wire.seen c.rows_together.new.wires) k c.in-Err.error (c.in-Err.ensures tasks k.are_next.in_front)

pub returns-in-Ok : goal.returns-in-Ok
returns-in-Ok g c = λ tasks next end k.
    both_asked g.W.Wire.tells_log g.W.Wire.counts_alone c.args.walk.now.endpoints.now c.args.walk.now.block tasks next end c.args.groups.now c.args.its.now (map g.W.Wire.seen c.args.wires.now) (map g.W.Wire.seen c.rows_together.new.wires) k c.in-Ok.founds.items c.parted.result
    c.parted.ensures.given c.parted.ensures.memory (c.in-Ok.ensures tasks k.are_next.in_front)
