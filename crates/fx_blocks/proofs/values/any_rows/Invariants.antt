use Rattle.std.proofs.Common.{◌≡◌, length}
use Rattle.fx_grammar.specs.Rule.{with_front, any_number}
use Rattle.fx_grammar.specs.Grammar.{row}
use Rattle.fx_blocks.proofs.values.any_rows.Given as goal

abbrev pub invariant-more : goal.invariant-more
invariant-more l = with_front l.parts (any_number (row l.prefixes l.width) l.rest) ≡ any_number (row l.prefixes l.width) l.tokens

abbrev pub decreases-more : goal.decreases-more
decreases-more l = length l.rest
