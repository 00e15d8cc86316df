use Rattle.std.proofs.Common.{List, subst, ◌∙◌}
use Rattle.std.proofs.lemmas.List.{take_all}
use Rattle.fx_algebra.specs.declared.queries.Element.{Element}
use Rattle.fx_evaluation.proofs.GroupLemmas.{AreFiltersSoFar, filters_next, filters_all}
use Rattle.fx_evaluation.proofs.groups.filters_of.Goals as goal

pub loop-element-preserved : goal.loop-element-preserved
loop-element-preserved c =
    filters_next c.as_slice-element-items.result.now c.loop-element.element-index c.element-item.result c.loop-element.filters.items c.add_filter.new.filters.items c.loop-element-test.true c.element-item.is
    c.loop-element.invariant c.in_ok-add_filter.ensures

pub returns : goal.returns
returns c =
    let all = c.as_slice-element-items.result.now in
    let i = c.loop-element.element-index in
    let P : List Element → Type 0 = λ v. AreFiltersSoFar v c.loop-element.filters.items in
    filters_all c.args.group.now c.loop-element.filters.items (subst P (take_all i all c.loop-element-test.false ∙ c.as_slice-element-items.ensures) c.loop-element.invariant)
