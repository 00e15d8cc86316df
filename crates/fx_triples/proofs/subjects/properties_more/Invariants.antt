use Rattle.std.proofs.Common.{◌≡◌, length}
use Rattle.fx_grammar.specs.Rule.{with_each, more, opt}
use Rattle.fx_grammar.specs.Grammar.{property, option_list}
use Rattle.fx_grammar.specs.declared.kinds.Kind.TheVariants as k
use Rattle.fx_triples.proofs.subjects.properties_more.Given as goal

abbrev pub invariant-more : goal.invariant-more
invariant-more l = with_each option_list l.parts (more k.Semicolon (opt (property l.prefixes)) l.rest) ≡ with_each option_list l.fn.parts (more k.Semicolon (opt (property l.prefixes)) l.tokens)

abbrev pub decreases-more : goal.decreases-more
decreases-more l = length l.rest
