use Rattle.std.proofs.Common.{◌<◌, ◌≤◌}
use Rattle.fx_flows.proofs.teams.teams_for.Given as goal

abbrev pub invariant-loop-teams : goal.invariant-loop-teams
invariant-loop-teams l = record {
  within : (0 < l.best) × (l.best ≤ l.wires);
  from : 0 < l.teams;
}
