use Rattle.fx_flows.proofs.LineLemmas.{merges}
use Rattle.fx_flows.proofs.lines.taken_in.Goals as goal

pub absorb-requires-clause-rule : goal.absorb-requires-clause-rule
absorb-requires-clause-rule c = merges _ _ _ _ c.requires.2 c.requires.3
