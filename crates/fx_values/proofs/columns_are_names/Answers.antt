-- The law is the lemma of `TextNames`.
use Rattle.fx_values.proofs.TextNames.{columns_are_names}
use Rattle.fx_values.proofs.columns_are_names.Goals as goal

pub returns : goal.returns
returns c = columns_are_names
