use Rattle.std.proofs.Common.{subst, ℕ, List}
use Rattle.std.specs.Str.Parse.{ParsesUnsigned}
use Rattle.fx_http.proofs.NumberLemmas.{number_is_utf8, number_parses}
use Rattle.fx_http.proofs.fields.number.Goals as goal

pub unreachable-requires : goal.unreachable-requires
unreachable-requires c = c.in_default.ensures.cases.0 (number_is_utf8 c.args.value.now c.requires)

pub unreachable-requires-in-Err : goal.unreachable-requires-in-Err
unreachable-requires-in-Err c =
    let read = subst (λ (t : List ℕ). ParsesUnsigned 64 10 t c.parse.result) c.in-Ok.ensures.cases.0 c.parse.ensures.value.0 in
    let parsed = number_parses c.args.value.now c.parse.result c.requires read in
    let refused = c.in-Err.is in
    cc
