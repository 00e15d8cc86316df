use Rattle.std.proofs.Common.{◌∙◌, ap, List}
use Rattle.fx_terms.specs.declared.patterns.Pattern.{Pattern}
use Rattle.fx_algebra.specs.BasicGraphPatterns.{variables}
use Rattle.fx_algebra.specs.Scopes.{once}
use Rattle.fx_bound.proofs.BatchTextLemmas.{made}
use Rattle.fx_bound.proofs.batches.batch_text.Goals as goal

pub batch_of-requires : goal.batch_of-requires
batch_of-requires c =
    made c.args.unit.now c.args.rows.now c.in_ok-names.names c.as_slice-2.result.now c.in_ok-branches.branches _ c.requires.fit c.requires.few c.known_rows.ensures
    (c.in_ok-names.ensures ∙ ap (λ (ps : List Pattern). once (variables ps)) c.as_slice.ensures) c.len-count.ensures.few c.in_ok-branches.ensures c.as_slice-2.ensures c.in_ok-text.ensures
