use Rattle.std.proofs.Common.{map, rules}
use Rattle.fx_side_by_side.proofs.RunsLemmas.{runs_unasked, unasked_all}
use Rattle.fx_side_by_side.proofs.runs.run_side_by_side.Goals as goal

pub returns-in_err-found : goal.returns-in_err-found
returns-in_err-found g c = record {
  results = unasked_all c.args.runs.now;
  flowed = runs_unasked g.W.Wire.tells_log g.W.Wire.counts_alone (map g.W.Wire.seen c.args.wires.now) c.args.endpoints.now c.args.block c.args.runs.now;
  given = search rules;
}
