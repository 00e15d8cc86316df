use Rattle.fx_grammar.specs.Grammar.{condition}
use Rattle.fx_readers.proofs.Loops.{some_is}
use Rattle.fx_syntax.proofs.orders.conditions.Goals as goal

pub returns : goal.returns
returns c =
    rw (some_is (condition c.args.prefixes.now) c.args.tokens.now c.in_ok-descending.rest.now _ c.in_ok-parts.parts c.in_ok-descending.ensures c.in_ok-parts.ensures) c.conditions_more.ensures
