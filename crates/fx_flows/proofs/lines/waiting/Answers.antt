use Rattle.fx_flows.proofs.LineLemmas.{learns}
use Rattle.fx_flows.proofs.lines.waiting.Goals as goal

pub len_as-requires-clause-rule : goal.len_as-requires-clause-rule
len_as-requires-clause-rule g c = learns _ _
