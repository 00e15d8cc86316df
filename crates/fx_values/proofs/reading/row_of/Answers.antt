use Rattle.fx_values.proofs.SentLemmas.{row_of_batch}
use Rattle.fx_values.proofs.reading.row_of.Goals as goal

pub returns : goal.returns
returns c =
    row_of_batch c.args.batch.now.unit (λ b. b.now) c.args.batch.now.places c.columns-columns.result.now c.rows-rows.result.now c.args.row.now c.row_among.result c.columns-columns.ensures c.rows-rows.ensures.all c.row_among.ensures
