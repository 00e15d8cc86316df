use Rattle.fx_rounds.proofs.TurnLemmas as lemmas
use Rattle.fx_rounds.proofs.laws.each_log_is_in_turn.Goals as goal

pub returns : goal.returns
returns c = lemmas.each_log_is_in_turn
