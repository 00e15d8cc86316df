use Rattle.std.proofs.Common.{◌<◌, [], All, map}
use Rattle.crossbeam_queue.specs.SegTies.{IsSegPassOf}
use Rattle.fx_flows.specs.Followed.{IsSamePass, WireFlowed, in_hand}
use Rattle.fx_flows.specs.Parcels.{IsParcelOf}
use Rattle.fx_flows.proofs.following.work.Given as goal

abbrev pub invariant-loop : goal.invariant-loop
invariant-loop g l = record {
  pass : IsSegPassOf l.queue.line.now l.me;
  same : IsSamePass l.initial.me.me.view.client l.me.me.view.client;
  some_part : 0 < l.me.me.view.client.parts;
  flowed : WireFlowed g.W.Wire.counts_alone (g.W.Wire.seen l.initial.wire) (g.W.Wire.seen l.wire) l.run.endpoints.now (map g.U.Step.unit l.run.units.now) l.run.shape l.initial.me.me.view.client l.me.me.view.client [] [] (in_hand l.in_hand) l.made.items;
  of_run : All (IsParcelOf l.run.shape) (in_hand l.in_hand);
}
