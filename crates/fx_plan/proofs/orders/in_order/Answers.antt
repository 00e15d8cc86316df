use Rattle.std.proofs.Common.{◌≡◌, ◌∙◌, ap, map, fold, ℕ, List}
use Rattle.fx_algebra.specs.Scopes.{once, with_name}
use Rattle.fx_plan.specs.Places.{waits}
use Rattle.fx_plan.proofs.NameLemmas.{among_once}
use Rattle.fx_plan.proofs.OrderLemmas.{waits_same}
use Rattle.fx_plan.proofs.orders.in_order.Goals as goal

pub returns : goal.returns
returns c =
    let known = c.args.known.now in
    let us = c.args.units.items in
    let names : c.add_all.new.self ≡ once known = c.in_ok-add_all.ensures ∙ ap (λ (n : List (List ℕ)). fold with_name n known) c.new-names.ensures in
    c.taken.ensures known us (c.in_ok-left.ensures ∙ ap (λ (n : List (List ℕ)). map (waits n) us) names ∙ waits_same (once known) known (among_once known) us)
