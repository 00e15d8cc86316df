use Rattle.std.proofs.Common.{◌≤◌, All, List, arith, length, rules, subst, take}
use Rattle.std.proofs.lemmas.List.{take_all}
use Rattle.std.proofs.lemmas.List.Elements.{All-more, All-weaker}
use Rattle.fx_algebra.specs.declared.units.Unit as unit
use Rattle.fx_side_by_side.proofs.steps.longest.Goals as goal

pub loop-units-preserved : goal.loop-units-preserved
loop-units-preserved c =
    let runs = c.args.runs.now in
    let k = c.loop-units.units-index in
    let us = c.units-item.result in
    let most = c.max-most.result in
    let grows : c.loop-units.most ≤ most = search rules in
    let its : length us ≤ most = search rules in
    record {
      longest =
          All-more (λ (v : List unit.Unit). length v ≤ most) runs k us c.loop-units-test.true
          (All-weaker (λ (v : List unit.Unit). length v ≤ c.loop-units.most) (λ (v : List unit.Unit). length v ≤ most) (λ v low. omega (arith, low, grows)) (take k runs) c.loop-units.invariant.longest)
          (subst (λ (v : List unit.Unit). length v ≤ most) c.units-item.is its);
      some = λ positive. omega (arith, c.loop-units-test.true);
    }

pub returns-clause-longest : goal.returns-clause-longest
returns-clause-longest c =
    subst (All (λ (v : List unit.Unit). length v ≤ c.loop-units.most)) (take_all c.loop-units.units-index c.args.runs.now (search rules)) c.loop-units.invariant.longest
