use Rattle.std.proofs.Common.{◌≡◌, length}
use Rattle.fx_grammar.specs.Rule.{with_front, any_number}
use Rattle.fx_grammar.specs.Grammar.{condition}
use Rattle.fx_syntax.proofs.orders.conditions_more.Given as goal

abbrev pub invariant-more : goal.invariant-more
invariant-more l = with_front l.parts (any_number (condition l.prefixes) l.rest) ≡ with_front l.fn.parts (any_number (condition l.prefixes) l.tokens)

abbrev pub decreases-more : goal.decreases-more
decreases-more l = length l.rest
