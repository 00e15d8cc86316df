use Rattle.std.proofs.Common.{◌≡◌, ◌++◌, All, take}
use Rattle.fx_results.specs.Documents.{row_data}
use Rattle.fx_results.specs.KnownAnswers.{IsKnownRow}
use Rattle.fx_results.proofs.TokenLemmas.{each}
use Rattle.fx_results.proofs.documents.write_rows.Given as goal

abbrev pub invariant-loop-row : goal.invariant-loop-row
invariant-loop-row l = record {
  tokens : l.text.tokens ≡ l.initial.text.tokens ++ each row_data (take l.row-index l.rows);
  before : l.text.before ≡ l.initial.text.before;
  known : All IsKnownRow (take l.row-index l.rows);
}
