use Rattle.fx_walks.proofs.UnitLemmas as lemmas
use Rattle.fx_walks.proofs.laws.units_are_sound.Goals as goal

pub returns : goal.returns
returns c = lemmas.units_are_sound
