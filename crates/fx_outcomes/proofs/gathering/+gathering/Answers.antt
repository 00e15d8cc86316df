use Rattle.std.proofs.Common.{◌≡◌, ◌∙◌, ◌++◌, ap, sym, subst, List, OnOk, rules}
use Rattle.std.specs.List.{flat_map}
use Rattle.std.proofs.lemmas.List.{take_all}
use Rattle.fx_services.specs.Beside.{Occurrence}
use Rattle.fx_outcomes.specs.Invocations.{in_element, in_group}
use Rattle.fx_outcomes.proofs.GatherLemmas.{none_more, one_more}
use Rattle.fx_outcomes.proofs.OccurrenceLemmas.{of_bind, of_elements, of_filter, of_service, of_triple, of_union, of_values}
use Rattle.fx_outcomes.proofs.gathering.+gathering.Goals as goal

pub gather_element-returns-in-Triple : goal.gather_element-returns-in-Triple
gather_element-returns-in-Triple t c = none_more c.args.found.now.items _ (ap in_element c.in-Triple.is ∙ of_triple c.in-Triple.field-0)

pub gather_element-returns-in-Filter : goal.gather_element-returns-in-Filter
gather_element-returns-in-Filter t c = none_more c.args.found.now.items _ (ap in_element c.in-Filter.is ∙ of_filter c.in-Filter.field-0)

pub gather_element-returns-in-Bind : goal.gather_element-returns-in-Bind
gather_element-returns-in-Bind t c = none_more c.args.found.now.items _ (ap in_element c.in-Bind.is ∙ of_bind c.in-Bind.expr c.in-Bind.name)

pub gather_element-returns-in-Values : goal.gather_element-returns-in-Values
gather_element-returns-in-Values t c = none_more c.args.found.now.items _ (ap in_element c.in-Values.is ∙ of_values c.in-Values.field-0)

pub gather_element-returns-in-Union : goal.gather_element-returns-in-Union
gather_element-returns-in-Union t c =
    subst (λ (os : List Occurrence). OnOk c.gather_groups.result (c.gather_groups.new.found.items ≡ c.args.found.now.items ++ os))
    (sym (ap in_element c.in-Union.is ∙ of_union c.in-Union.groups ∙ ap (flat_map in_group) (sym c.as_slice.ensures))) c.gather_groups.ensures

pub gather_element-returns-in-Service : goal.gather_element-returns-in-Service
gather_element-returns-in-Service t c =
    subst (λ (os : List Occurrence). OnOk c.gather_one.result (c.gather_one.new.found.items ≡ c.args.found.now.items ++ os))
    (sym (ap in_element c.in-Service.is ∙ of_service c.in-Service.silent c.in-Service.iri c.in-Service.group)) c.gather_one.ensures

pub gather_group-loop-element-init : goal.gather_group-loop-element-init
gather_group-loop-element-init t c = record { are = c.as_slice-element-items.ensures; so_far = search rules }

pub gather_group-loop-element-preserved : goal.gather_group-loop-element-preserved
gather_group-loop-element-preserved t c = record {
  are = c.loop-element.invariant.are;
  so_far = one_more in_element c.as_slice-element-items.result.now c.args.found.now.items c.loop-element.found.items c.gather_element.new.found.items c.loop-element.element-index c.element-item.result c.loop-element-test.true c.element-item.is
      c.loop-element.invariant.so_far c.in-Ok.ensures;
}

pub gather_group-returns : goal.gather_group-returns
gather_group-returns t c =
    let all = c.as_slice-element-items.result.now in
    c.loop-element.invariant.so_far
    ∙ ap (λ v. c.args.found.now.items ++ v) (ap (flat_map in_element) (take_all c.loop-element.element-index all c.loop-element-test.false) ∙ ap (flat_map in_element) c.loop-element.invariant.are ∙ sym (of_elements c.args.group.now))

pub gather_groups-loop-group-preserved : goal.gather_groups-loop-group-preserved
gather_groups-loop-group-preserved t c =
    one_more in_group c.args.groups.now c.args.found.now.items c.loop-group.found.items c.gather_group.new.found.items c.loop-group.group-index c.group-item.result c.loop-group-test.true c.group-item.is
    c.loop-group.invariant c.in-Ok.ensures
