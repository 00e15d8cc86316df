use Rattle.std.proofs.Common.{◌≡◌}
use Rattle.crossbeam_queue.specs.SegTies.{IsSegPassOf}
use Rattle.fx_flows.proofs.following.waited_for.Given as goal

abbrev pub invariant-loop : goal.invariant-loop
invariant-loop g l = record {
  pass : IsSegPassOf l.queue.line.now l.me;
  same : l.me.me.view.client ≡ l.initial.me.me.view.client;
}
