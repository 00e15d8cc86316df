use Rattle.fx_rounds.proofs.TrafficLemmas as lemmas
use Rattle.fx_rounds.proofs.laws.rounds_are_traffic.Goals as goal

pub returns : goal.returns
returns c = lemmas.rounds_are_traffic
