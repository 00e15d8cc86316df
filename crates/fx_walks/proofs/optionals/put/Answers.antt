use Rattle.std.proofs.Common.{arith}
use Rattle.fx_walks.proofs.LeftRowLemmas.{with_found_past}
use Rattle.fx_walks.proofs.optionals.put.Goals as goal

pub returns-else-at-len : goal.returns-else-at-len
returns-else-at-len c = with_found_past c.args.row.solution c.args.row.origin c.args.rows.now.items (omega (arith, c.if-at-len.false, c.len.ensures))
