use Rattle.std.proofs.Common.{◌≡◌, length, []}
use Rattle.fx_grammar.specs.Grammar.{columns}
use Rattle.fx_blocks.proofs.ValueLaws.{columns_from}
use Rattle.fx_blocks.proofs.values.columns.Given as goal

abbrev pub invariant-more : goal.invariant-more
invariant-more l = columns_from l.names.keys l.rest ≡ (columns []).read l.tokens

abbrev pub decreases-more : goal.decreases-more
decreases-more l = length l.rest
