use Rattle.fx_flows.proofs.LineLemmas.{opened_even}
use Rattle.fx_flows.proofs.lines.lined.Goals as goal

pub with_rule-requires : goal.with_rule-requires
with_rule-requires c = opened_even
