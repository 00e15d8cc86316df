use Rattle.std.proofs.Common.{◌≡◌}
use Rattle.fx_grammar.specs.declared.refusals.SyntaxError.TheVariants as syntax
use Rattle.fx_commands.specs.Counting.{generated_query}
use Rattle.fx_commands.proofs.CountingLemmas.{query_accepted}
use Rattle.fx_commands.proofs.counting.query.Goals as goal

pub returns-in-Ok : goal.returns-in-Ok
returns-in-Ok c = let same : c.in-Ok.query ≡ generated_query = c.in-Ok.ensures.only generated_query query_accepted in rw same at c.boxed.ensures

pub unreachable-requires : goal.unreachable-requires
unreachable-requires c =
    let is : c.in-Err-Refused.field-0 ≡ syntax.Memory = c.in-Err-Refused.ensures.only generated_query query_accepted in
    let other = c.in-Err-Refused.field-0-is in
    cc
