use Rattle.fx_tape.proofs.laws.others_are_not.Goals as goal

pub returns : goal.returns
returns c = λ t bytes h. h.text
