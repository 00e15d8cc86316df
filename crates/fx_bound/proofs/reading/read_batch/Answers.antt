use Rattle.fx_bound.proofs.AnswerLemmas.{all_of_branches, table_read, tells_graph}
use Rattle.fx_bound.proofs.reading.read_batch.Goals as goal

pub returns-in-Table-clause-tells : goal.returns-in-Table-clause-tells
returns-in-Table-clause-tells c =
    tells_graph c.args.batch.now c.args.answer.now c.read_rows.result c.branches-branches.ensures.known
    (table_read c.args.batch.now c.in-Table.columns c.as_slice.result.now c.in-Table.rows c.args.answer.now c.read_rows.result c.read_rows.ensures c.as_slice.ensures c.in-Table.is)

pub returns-in-Table-clause-branches : goal.returns-in-Table-clause-branches
returns-in-Table-clause-branches c =
    all_of_branches c.args.batch.now c.args.answer.now c.read_rows.result
    (table_read c.args.batch.now c.in-Table.columns c.as_slice.result.now c.in-Table.rows c.args.answer.now c.read_rows.result c.read_rows.ensures c.as_slice.ensures c.in-Table.is)
