use Rattle.fx_flows.proofs.LineLemmas.{forks}
use Rattle.fx_flows.proofs.lines.shared_out.Goals as goal

pub another-requires-clause-rule : goal.another-requires-clause-rule
another-requires-clause-rule c = forks _ _ c.requires.1
