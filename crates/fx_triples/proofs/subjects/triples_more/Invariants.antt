use Rattle.std.proofs.Common.{◌≡◌, true, length}
use Rattle.fx_grammar.specs.Rule.{with_each}
use Rattle.fx_grammar.specs.Grammar.{more_triples_from, option_items}
use Rattle.fx_triples.proofs.subjects.triples_more.Given as goal

abbrev pub invariant-more : goal.invariant-more
invariant-more l = with_each option_items l.patterns (more_triples_from l.prefixes l.behind l.rest) ≡ with_each option_items l.fn.patterns (more_triples_from l.prefixes true l.tokens)

abbrev pub decreases-more : goal.decreases-more
decreases-more l = length l.rest
