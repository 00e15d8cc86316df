use Rattle.fx_flows.proofs.LineLemmas.{learns, takes}
use Rattle.fx_flows.proofs.lines.take.Goals as goal

pub pop_as-requires-clause-rule : goal.pop_as-requires-clause-rule
pop_as-requires-clause-rule g c = (takes _ _ c.requires.pass.1, learns _ _)
