use Rattle.fx_flows.proofs.LineLemmas.{puts}
use Rattle.fx_flows.proofs.lines.put.Goals as goal

pub push_as-requires-clause-rule : goal.push_as-requires-clause-rule
push_as-requires-clause-rule g c = λ n. puts n _ _ _ c.requires.pass.1 c.requires.may.0 c.requires.may.1
