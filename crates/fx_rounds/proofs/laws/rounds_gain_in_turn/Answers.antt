use Rattle.fx_rounds.proofs.TurnLemmas as lemmas
use Rattle.fx_rounds.proofs.laws.rounds_gain_in_turn.Goals as goal

pub returns : goal.returns
returns c = lemmas.rounds_gain_in_turn
