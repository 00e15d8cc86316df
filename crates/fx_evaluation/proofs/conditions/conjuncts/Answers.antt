use Rattle.fx_evaluation.proofs.ConjunctLemmas.{all_added, filter_added}
use Rattle.fx_evaluation.proofs.conditions.conjuncts.Goals as goal

pub loop-filter-preserved : goal.loop-filter-preserved
loop-filter-preserved c =
    filter_added c.args.filters.now c.loop-filter.filter-index c.filter-item.result c.loop-filter.parts.items c.add_conjuncts.new.parts.items c.loop-filter-test.true c.filter-item.is c.loop-filter.invariant c.in_ok-add_conjuncts.ensures

pub returns : goal.returns
returns c = all_added c.args.filters.now c.loop-filter.filter-index c.loop-filter.parts.items c.loop-filter-test.false c.loop-filter.invariant
