-- The law is the lemma of `ReadingLemmas`.
use Rattle.fx_values.proofs.ReadingLemmas.{answer_tells_rows}
use Rattle.fx_values.proofs.answer_tells_rows.Goals as goal

pub returns : goal.returns
returns c = answer_tells_rows
