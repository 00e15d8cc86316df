use Rattle.std.proofs.Common.{◌≡◌, length}
use Rattle.fx_grammar.specs.Rule.{with_front, more}
use Rattle.fx_grammar.specs.Grammar.{graph_term}
use Rattle.fx_grammar.specs.declared.kinds.Kind.TheVariants as k
use Rattle.fx_triples.proofs.subjects.objects_more.Given as goal

abbrev pub invariant-more : goal.invariant-more
invariant-more l = with_front l.parts (more k.Comma (graph_term l.prefixes) l.rest) ≡ with_front l.fn.parts (more k.Comma (graph_term l.prefixes) l.tokens)

abbrev pub decreases-more : goal.decreases-more
decreases-more l = length l.rest
