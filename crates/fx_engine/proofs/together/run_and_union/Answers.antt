use Rattle.std.proofs.Common.{subst, List, map}
use Rattle.std.specs.Prelude.{IfOk, IsPermutation}
use Rattle.fx_algebra.specs.Operators.{join}
use Rattle.fx_algebra.specs.Solutions.{Bindings}
use Rattle.fx_engine.proofs.BehindLemmas.{union_behind, union_behind_refused}
use Rattle.fx_engine.proofs.together.run_and_union.Goals as goal

pub returns-in-Err : goal.returns-in-Err
returns-in-Err g c = λ tasks next end k.
    union_behind_refused g.W.Wire.tells_log g.W.Wire.counts_alone c.args.walk.now.endpoints.now c.args.walk.now.block tasks next end (map g.W.Wire.seen c.args.wires.now) (map g.W.Wire.seen c.run_and_groups.new.wires) c.args.groups.now c.in-Err.error (c.in-Err.ensures tasks next end k)

pub returns-in-Ok : goal.returns-in-Ok
returns-in-Ok g c = λ tasks next end k.
    union_behind g.W.Wire.tells_log g.W.Wire.counts_alone c.args.walk.now.endpoints.now c.args.walk.now.block tasks next end (map g.W.Wire.seen c.args.wires.now) (map g.W.Wire.seen c.run_and_groups.new.wires) c.args.groups.now c.in-Ok.rows.items c.in-Ok.found.items c.joined.result
    (subst (λ (v : List Bindings). IfOk c.joined.result (λ rows. IsPermutation (join v c.in-Ok.found.items) rows.items)) c.as_slice.ensures.value c.joined.ensures.given) c.joined.ensures.memory (c.in-Ok.ensures tasks next end k)
