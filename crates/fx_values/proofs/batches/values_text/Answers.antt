use Rattle.std.proofs.Common.{◌∙◌, ap, List}
use Rattle.fx_terms.specs.declared.patterns.Pattern.{Pattern}
use Rattle.fx_algebra.specs.BasicGraphPatterns.{variables}
use Rattle.fx_algebra.specs.Scopes.{once}
use Rattle.fx_values.proofs.BlockTextLemmas.{made}
use Rattle.fx_values.proofs.batches.values_text.Goals as goal

pub invariant_of-result : goal.invariant_of-result
invariant_of-result c =
    made c.args.unit.now c.in_ok-unit.unit c.args.rows.now c.in_ok-variables.variables c.in_ok-names.names c.in_ok-columns.columns c.in_ok-asked.asked c.as_slice-2.result.now _ c.requires.fit c.requires.few c.known_rows.ensures
    (c.in_ok-variables.ensures ∙ ap (λ (ps : List Pattern). once (variables ps)) c.as_slice.ensures) c.len-count.ensures.few c.in_ok-columns.ensures c.in_ok-asked.ensures c.as_slice-2.ensures c.in_ok-text.ensures c.in_ok-names.ensures c.in_ok-unit.ensures
