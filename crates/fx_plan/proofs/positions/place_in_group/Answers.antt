use Rattle.std.proofs.Common.{◌≡◌, ◌∙◌, ap, sym, Some, None, OnOk, [], subst}
use Rattle.std.specs.Prelude.{position}
use Rattle.std.proofs.lemmas.Result.{on_ok_weaker}
use Rattle.std.proofs.lemmas.List.Quantifiers.{position-Some}
use Rattle.fx_plan.specs.Plans.{group_of, is_group_of}
use Rattle.fx_plan.proofs.PlaceLemmas.{none_before, placed_at, placed_new, position_joined}
use Rattle.fx_plan.proofs.positions.place_in_group.Goals as goal

pub join-requires : goal.join-requires
join-requires c =
    let us = c.args.units.now.items in
    let m = c.args.member in
    let stands : position (is_group_of m) us ≡ Some c.in-Some.at = sym (c.requires m) ∙ sym (c.copied.ensures ∙ c.get.ensures.value) ∙ c.in-Some.is in
    (position-Some (is_group_of m) us c.in-Some.at (group_of m []) stands).0

pub begin-requires : goal.begin-requires
begin-requires c = record {
  knows = c.requires;
  new = sym (c.requires c.args.member) ∙ sym (c.copied.ensures ∙ c.get.ensures.value) ∙ c.in-None.is;
}

pub returns-in-Some-clause-units : goal.returns-in-Some-clause-units
returns-in-Some-clause-units c =
    let us = c.args.units.now.items in
    let m = c.args.member in
    let d = group_of m [] in
    let stands : position (is_group_of m) us ≡ Some c.in-Some.at = sym (c.requires m) ∙ sym (c.copied.ensures ∙ c.get.ensures.value) ∙ c.in-Some.is in
    let found = position-Some (is_group_of m) us c.in-Some.at d stands in
    subst (λ v. OnOk c.join.result (c.join.new.units.items ≡ v)) (placed_at m c.args.pattern.now us c.in-Some.at d found.0 found.1 found.2) c.join.ensures

pub returns-in-Some-clause-groups : goal.returns-in-Some-clause-groups
returns-in-Some-clause-groups c =
    let us = c.args.units.now.items in
    let m = c.args.member in
    let d = group_of m [] in
    let stands : position (is_group_of m) us ≡ Some c.in-Some.at = sym (c.requires m) ∙ sym (c.copied.ensures ∙ c.get.ensures.value) ∙ c.in-Some.is in
    let found = position-Some (is_group_of m) us c.in-Some.at d stands in
    on_ok_weaker c.join.result (λ e k. c.requires k ∙ sym (ap (position (is_group_of k)) e ∙ position_joined k us c.in-Some.at c.args.pattern.now d found.0)) c.join.ensures

pub returns-in-None-clause-units : goal.returns-in-None-clause-units
returns-in-None-clause-units c =
    let us = c.args.units.now.items in
    let m = c.args.member in
    let d = group_of m [] in
    let stands : position (is_group_of m) us ≡ None = sym (c.requires m) ∙ sym (c.copied.ensures ∙ c.get.ensures.value) ∙ c.in-None.is in
    subst (λ v. OnOk c.begin.result (c.begin.new.units.items ≡ v)) (placed_new m c.args.pattern.now us d (none_before (is_group_of m) us d stands)) c.begin.ensures.units
