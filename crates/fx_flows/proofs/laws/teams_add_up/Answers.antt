-- The laws are lemmas of `TeamLemmas` and `TeamTurnLemmas`.
use Rattle.fx_flows.proofs.TeamTurnLemmas.{team_laws}
use Rattle.fx_flows.proofs.laws.teams_add_up.Goals as goal

pub returns : goal.returns
returns c = team_laws
