-- The laws are the lemmas of `TurnLemmas`.
use Rattle.fx_flows.proofs.TurnLemmas.{run_laws}
use Rattle.fx_flows.proofs.laws.runs_add_up.Goals as goal

pub returns : goal.returns
returns c = run_laws
