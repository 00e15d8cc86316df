use Rattle.fx_evaluation.proofs.OptionalLemmas.{run_all, run_with_filter, run_with_triple}
use Rattle.fx_evaluation.proofs.optionals.run_of.Goals as goal
use Rattle.fx_evaluation.proofs.optionals.run_of.Goals.{in-Triple+in_ok-copy-in-Triple+in_ok-push-in-Triple, in-Filter}

pub loop-element-preserved : goal.loop-element-preserved
loop-element-preserved c =
    let all = c.as_slice-element-items.result.now in
    let i = c.loop-element.element-index in
    let e = c.element-item.result in
    let patterns = c.loop-element.patterns.items in
    elim c.match-element.branch [
      | in-Triple+in_ok-copy-in-Triple+in_ok-push-in-Triple w ↦ rw w.patterns-is (run_with_triple all i e patterns c.loop-element-test.true c.element-item.is w.in-Triple.pattern _ _ w.in-Triple.is w.in_ok-copy-in-Triple.ensures w.in_ok-push-in-Triple.ensures.items c.loop-element.invariant)
      | in-Filter w ↦ rw w.patterns-is (run_with_filter all i e patterns c.loop-element-test.true c.element-item.is w.in-Filter.field-0 w.in-Filter.is c.loop-element.invariant)
    ]

pub returns : goal.returns
returns c = run_all c.args.group.now c.as_slice-element-items.result.now c.loop-element.element-index c.loop-element.patterns.items c.as_slice-element-items.ensures c.loop-element-test.false c.loop-element.invariant
