use Rattle.std.proofs.Common.{◌≡◌, length}
use Rattle.fx_grammar.specs.Rule.{with_front, any_number}
use Rattle.fx_grammar.specs.Grammar.{column}
use Rattle.fx_heads.proofs.heads.columns_more.Given as goal

abbrev pub invariant-more : goal.invariant-more
invariant-more l = with_front l.parts (any_number column l.rest) ≡ with_front l.fn.parts (any_number column l.tokens)

abbrev pub decreases-more : goal.decreases-more
decreases-more l = length l.rest
