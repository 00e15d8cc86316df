use Rattle.std.proofs.Common.{[], ◌∷◌}
use Rattle.fx_grammar.specs.Rule.{more}
use Rattle.fx_grammar.specs.Grammar.{property, properties, more_properties, option_list}
use Rattle.fx_readers.proofs.Loops.{each_is}
use Rattle.fx_triples.proofs.subjects.properties.Goals as goal

pub returns : goal.returns
unfolding properties more_properties more
returns c =
    rw (each_is (property c.args.prefixes.now) (more_properties c.args.prefixes.now) (λ x. x ∷ []) option_list c.args.tokens.now c.in_ok-first.rest.now c.in_ok-first.first c.in_ok-parts.parts c.in_ok-first.ensures c.in_ok-parts.ensures) c.properties_more.ensures
