use Rattle.fx_grammar.specs.Grammar.{column}
use Rattle.fx_readers.proofs.Loops.{some_is}
use Rattle.fx_heads.proofs.heads.columns.Goals as goal

pub returns : goal.returns
returns c =
    rw (some_is column c.args.tokens.now c.in_ok-first.rest.now c.in_ok-first.first c.in_ok-parts.parts c.in_ok-first.ensures c.in_ok-parts.ensures) c.columns_more.ensures
