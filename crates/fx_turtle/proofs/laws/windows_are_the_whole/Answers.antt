use Rattle.fx_turtle.proofs.GrammarLaws.{windows_are_the_whole_holds}
use Rattle.fx_turtle.proofs.laws.windows_are_the_whole.Goals as goal

pub returns : goal.returns
returns c = windows_are_the_whole_holds
