use Rattle.fx_results.proofs.TokenLemmas.{more, ends}
use Rattle.fx_results.proofs.documents.write_results.Goals as goal

pub returns-clause-tokens : goal.returns-clause-tokens
returns-clause-tokens c =
    let old = c.args.text.now.tokens in
    ends c.end_object.result old _ _ c.end_object.new.self.tokens (more old _ _ (more old _ _ c.in_ok-begin_object.ensures.ok c.in_ok-key.ensures.ok) c.in_ok-write_rows.ensures.tokens) c.end_object.ensures.ok
