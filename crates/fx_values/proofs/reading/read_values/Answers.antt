use Rattle.fx_values.proofs.AnswerLemmas.{all_of_rows, table_read, tells_graph}
use Rattle.fx_values.proofs.reading.read_values.Goals as goal

pub returns-in-Table-clause-tells : goal.returns-in-Table-clause-tells
returns-in-Table-clause-tells c =
    tells_graph c.args.batch.now c.args.answer.now c.read_rows.result c.rows-rows.ensures.known
    (table_read c.args.batch.now c.in-Table.columns c.as_slice.result.now c.in-Table.rows c.args.answer.now c.read_rows.result c.read_rows.ensures c.as_slice.ensures c.in-Table.is)

pub returns-in-Table-clause-rows : goal.returns-in-Table-clause-rows
returns-in-Table-clause-rows c =
    all_of_rows c.args.batch.now c.args.answer.now c.read_rows.result
    (table_read c.args.batch.now c.in-Table.columns c.as_slice.result.now c.in-Table.rows c.args.answer.now c.read_rows.result c.read_rows.ensures c.as_slice.ensures c.in-Table.is)
