use Rattle.std.proofs.Common.{◌∙◌, ◌++◌, ap, arith, Option}
use Rattle.std.specs.List.{slice_get}
use Rattle.std.specs.Option.{option_to_list}
use Rattle.fx_terms.specs.declared.triples.Triple.{Triple}
use Rattle.fx_algebra.specs.Solutions.{Bindings}
use Rattle.fx_algebra.specs.BasicGraphPatterns.{parts_of, forced}
use Rattle.fx_store.proofs.WalkLemmas.{found_more}
use Rattle.fx_store.proofs.evaluation.rows_at.Goals as goal

pub loop-place-preserved : goal.loop-place-preserved
loop-place-preserved g c =
    let f : Triple → Option Bindings = λ t. forced c.args.row.now (parts_of c.args.pattern.now t) in
    record {
      rows =
          c.in_ok-add_if_fitting.ensures
          ∙ ap (λ v. v ++ option_to_list (f c.look-triple.result.now)) c.loop-place.invariant.rows
          ∙ found_more f (slice_get c.args.orders.now) c.args.places.now c.loop-place.place-index c.look-triple.result.now c.loop-place-test.true c.look-triple.ensures.triple;
      steps = omega (arith, c.loop-place.invariant.steps, c.look-triple.ensures.step);
    }
