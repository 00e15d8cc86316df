use Rattle.fx_grammar.specs.declared.kinds.Kind.TheVariants as k
use Rattle.fx_grammar.specs.Grammar.{graph_term, objects}
use Rattle.fx_readers.proofs.Loops.{chain_is}
use Rattle.fx_triples.proofs.subjects.objects.Goals as goal

pub returns : goal.returns
unfolding objects
returns c =
    rw (chain_is k.Comma (graph_term c.args.prefixes.now) c.args.tokens.now c.in_ok-first.rest.now c.in_ok-first.first c.in_ok-parts.parts c.in_ok-first.ensures c.in_ok-parts.ensures) c.objects_more.ensures
