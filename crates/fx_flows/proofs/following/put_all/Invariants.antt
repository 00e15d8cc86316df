use Rattle.std.proofs.Common.{◌≡◌, ◌+◌, ◌<◌, ◌++◌, ℕ, Some, length, sum_by}
use Rattle.crossbeam_queue.specs.SegTies.{IsSegPassOf}
use Rattle.fx_flows.specs.Lines.{MayPut}
use Rattle.fx_flows.specs.Parcels.{parcels}
use Rattle.fx_flows.specs.declared.parcels.Parcel.{Parcel}
use Rattle.fx_flows.proofs.following.put_all.Given as goal

abbrev pub invariant-loop-rows : goal.invariant-loop-rows
invariant-loop-rows g l = record {
  whole : l.yielded ++ l.rows-iterator.rest.items ≡ l.fn.batches.items;
  pass : IsSegPassOf l.line l.me;
  parts : l.me.me.view.client.parts ≡ l.fn.me.me.view.client.parts;
  took : l.me.me.view.client.took ≡ l.fn.me.me.view.client.took;
  may : MayPut l.shape l.me.me.view.client;
  known : 0 < length l.yielded → l.me.me.view.client.shape ≡ Some l.shape;
  still : l.fn.me.me.view.client.shape ≡ Some l.shape → l.me.me.view.client.shape ≡ Some l.shape;
  put : (h : Parcel → ℕ) → sum_by h l.me.me.view.client.put ≡ sum_by h l.fn.me.me.view.client.put + sum_by h (parcels l.shape l.step l.yielded);
}
