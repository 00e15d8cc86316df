use Rattle.std.proofs.Common.{◌≡◌, ◌∙◌, ap, sym, arith, append_assoc, length, map, get_or, remove, ◌<◌, ◌++◌, ◌∷◌, [], List, ℕ}
use Rattle.std.proofs.lemmas.List.{length-map}
use Rattle.fx_algebra.specs.BasicGraphPatterns.{variables}
use Rattle.fx_algebra.specs.declared.units.Unit as unit
use Rattle.fx_plan.specs.Places.{first_place, without}
use Rattle.fx_plan.specs.Plans.{in_order}
use Rattle.fx_plan.proofs.OrderLemmas.{follows, written}
use Rattle.fx_plan.proofs.orders.taken.Goals as goal

pub loop-left-preserved : goal.loop-left-preserved
loop-left-preserved c = λ known us h.
    let t = c.loop-left.invariant known us h in
    let left = c.loop-left.left.items in
    let w = c.remove-unit.result in
    let place : c.next.result ≡ first_place left = c.next.ensures.place ∙ ap first_place c.as_slice.ensures.value in
    let some : 0 < length left = omega (arith, c.next.ensures.within, ap length c.as_slice.ensures.value) in
    let item : w ≡ get_or left (first_place left) w = c.remove-unit.ensures.value ∙ ap (λ (n : ℕ). get_or left n w) place in
    let f = follows t.0 left t.1 t.2 some w item in
    let others : c.as_mut_slice.result.now ≡ remove left (first_place left) = c.as_mut_slice.ensures.value ∙ c.remove-unit.ensures.items ∙ ap (remove left) place in
    let size : length c.forget.new.left ≡ length c.remove-unit.new.self.items =
    ap length c.forget.ensures ∙ length-map c.as_mut_slice.result.now (without w.free) ∙ ap length c.as_mut_slice.ensures.value in (
      t.0 ++ variables w.unit.patterns,
      f.rest,
      written c.forget.new.left c.remove-unit.new.self.items c.remove-unit.new.self.len size c.remove-unit.new.self.ok.0
          ∙ c.forget.ensures
          ∙ ap (map (without w.free)) others
          ∙ f.waiting,
      ap (λ (v : List unit.Unit). v ++ in_order (t.0 ++ variables w.unit.patterns) f.rest) c.in_ok-push.ensures.items
          ∙ append_assoc c.loop-left.ordered.items (w.unit ∷ []) (in_order (t.0 ++ variables w.unit.patterns) f.rest)
          ∙ ap (λ (v : List unit.Unit). c.loop-left.ordered.items ++ v) (sym f.order)
          ∙ t.3,
    )
