use Rattle.std.proofs.Common.{◌≡◌, ◌<◌, [], Some, length, map}
use Rattle.fx_pool.specs.Runs.{WireDid}
use Rattle.fx_pool.specs.Sharing.{below, jobs_of, number_of, reply_of}
use Rattle.fx_pool.proofs.working.work.Given as goal

abbrev pub invariant-loop : goal.invariant-loop
invariant-loop g l = record {
  table : (l.me.table_id ≡ l.claims.shared.table_id) × (l.claims.shared.table_id.words ≡ 1);
  same_table : l.me.table_id ≡ l.initial.me.table_id;
  seat : (l.me.me.1 ≡ []) × (l.me.me.0.parts ≡ l.initial.me.me.0.parts) × (0 < l.me.me.0.parts) × (l.me.me.0.jobs ≡ length (map g.T.Task.job l.tasks)) × (l.me.me.0.past ≡ 0);
  did : WireDid g.W.Wire.counts_alone (g.W.Wire.seen l.initial.wire) (g.W.Wire.seen l.wire) l.endpoints (jobs_of (map g.T.Task.job l.tasks) l.me.me.0.numbers) (Some (map reply_of l.done.items));
  all : map number_of l.done.items ≡ below (length (map g.T.Task.job l.tasks)) l.me.me.0.numbers;
}
