use Rattle.fx_spelling.proofs.Runs as laws
use Rattle.fx_spelling.proofs.laws.runs_are_of_the_grammar.Goals as goal

pub returns : goal.returns
returns c = laws.runs_are_of_the_grammar
