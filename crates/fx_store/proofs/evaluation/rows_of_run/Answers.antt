use Rattle.std.proofs.Common.{◌∙◌, ◌++◌, ap, arith, Option}
use Rattle.std.specs.Option.{option_to_list}
use Rattle.fx_terms.specs.declared.triples.Triple.{Triple}
use Rattle.fx_algebra.specs.Solutions.{Bindings}
use Rattle.fx_algebra.specs.BasicGraphPatterns.{parts_of, forced}
use Rattle.fx_store.specs.Orders.{in_order}
use Rattle.fx_store.proofs.WalkLemmas.{rows_more}
use Rattle.fx_store.proofs.evaluation.rows_of_run.Goals as goal

pub loop-place-preserved : goal.loop-place-preserved
loop-place-preserved g c =
    let run = c.args.run in
    let f : Triple → Option Bindings = λ t. forced c.args.row.now (parts_of c.args.pattern.now t) in
    record {
      rows =
          c.in_ok-add_if_fitting.ensures
          ∙ ap (λ v. v ++ option_to_list (f c.look-triple.result.now)) c.loop-place.invariant.rows
          ∙ rows_more (in_order run.order c.args.orders.now) run.start c.loop-place.place c.look-triple.result.now (omega arith) c.look-triple.ensures.triple f;
      steps = omega (arith, c.loop-place.invariant.steps, c.look-triple.ensures.step);
    }
