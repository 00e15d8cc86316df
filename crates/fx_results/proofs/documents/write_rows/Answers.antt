use Rattle.std.proofs.Common.{◌∙◌, subst, All}
use Rattle.std.proofs.lemmas.List.{take_all}
use Rattle.std.proofs.lemmas.List.Elements.{All-more}
use Rattle.json.specs.Token.{begin_array, end_array}
use Rattle.fx_results.specs.Documents.{row_data}
use Rattle.fx_results.specs.KnownAnswers.{IsKnownRow}
use Rattle.fx_results.specs.Tokens.{data_tokens}
use Rattle.fx_results.proofs.TokenLemmas.{each, array_is, closes, one_more, all_parts, standing}
use Rattle.fx_results.proofs.documents.write_rows.Goals as goal

pub loop-row-preserved : goal.loop-row-preserved
loop-row-preserved c = record {
  tokens =
      one_more (λ row. data_tokens (row_data row)) c.begin_array.new.self.tokens c.args.rows.now c.loop-row.row-index c.row-item.result c.loop-row.invariant.tokens
      c.in_ok-write_row.ensures.tokens c.loop-row-test.true c.row-item.is;
  before = c.in_ok-write_row.ensures.before ∙ c.loop-row.invariant.before;
  known = All-more IsKnownRow c.args.rows.now c.loop-row.row-index c.row-item.result c.loop-row-test.true c.loop-row.invariant.known (subst IsKnownRow c.row-item.is c.in_ok-write_row.ensures.known);
}

pub returns-clause-tokens : goal.returns-clause-tokens
returns-clause-tokens c =
    let rows = c.args.rows.now in
    let mid = c.begin_array.new.self.tokens in
    closes c.end_array.result c.args.text.now.tokens (each row_data rows) _ c.end_array.new.self.tokens begin_array end_array (array_is row_data rows) c.in_ok-begin_array.ensures.ok
    (all_parts (λ row. data_tokens (row_data row)) mid rows c.loop-row.row-index c.loop-row.invariant.tokens c.loop-row-test.false) c.end_array.ensures.ok

pub returns-clause-known : goal.returns-clause-known
returns-clause-known c = standing c.end_array.result (subst (All IsKnownRow) (take_all c.loop-row.row-index c.args.rows.now c.loop-row-test.false) c.loop-row.invariant.known)
