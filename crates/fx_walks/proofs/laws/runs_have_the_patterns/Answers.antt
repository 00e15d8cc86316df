use Rattle.fx_walks.proofs.SectionLemmas.{runs_have}
use Rattle.fx_walks.proofs.laws.runs_have_the_patterns.Goals as goal

pub returns : goal.returns
returns c = runs_have
