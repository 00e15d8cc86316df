use Rattle.std.proofs.Common.{◌≡◌, ◌∙◌, ap, sym, refl, arith, zero, suc, ◌+◌, ◌<◌, [], ◌∷◌, ◌++◌, drop, take, set, get_or, length, map, ℕ, List}
use Rattle.fx_plan.specs.Places.{without}
use Rattle.fx_plan.specs.declared.orders.Waiting.{Waiting}
use Rattle.fx_plan.proofs.orders.forget.Goals as goal

module _ (f : Waiting → Waiting) where
  none_yet : (ws : List Waiting) → map f (take 0 ws) ++ drop 0 ws ≡ ws
  none_yet [] = refl
  none_yet (w ∷ ws) = refl

  item : (ws : List Waiting) (i : ℕ) (d : Waiting) → i < length ws → get_or (map f (take i ws) ++ drop i ws) i d ≡ get_or ws i d
  item [] i d h = absurd (omega arith)
  item (w ∷ ws) zero d h = refl
  item (w ∷ ws) (suc i) d h = item ws i d (omega arith)

  one_more : (ws : List Waiting) (i : ℕ) (d : Waiting) → i < length ws → set (map f (take i ws) ++ drop i ws) i (f (get_or ws i d)) ≡ map f (take (suc i) ws) ++ drop (suc i) ws
  one_more [] i d h = absurd (omega arith)
  one_more (w ∷ ws) zero d h = ap (λ (v : List Waiting). f w ∷ v) (sym (none_yet ws))
  one_more (w ∷ ws) (suc i) d h = ap (λ (v : List Waiting). f w ∷ v) (one_more ws i d (omega arith))

more : (n : ℕ) → suc n ≡ n + 1
more n = omega arith

pub loop-one-preserved : goal.loop-one-preserved
loop-one-preserved c =
    let names = c.args.names.now in
    let ws = c.args.left.now in
    let i = c.loop-one.one-index in
    let r = c.one-item.result in
    let so_far = map (without names) (take i ws) ++ drop i ws in
    let here : get_or c.loop-one.one-items i r ≡ get_or ws i r = ap (λ (v : List Waiting). get_or v i r) c.loop-one.invariant ∙ item (without names) ws i r c.loop-one-test.true in
    (λ j. set (c.loop-one.invariant j) i (record { unit = (get_or c.loop-one.one-items i r).unit; free = c.forget.ensures j }))
    ∙ ap (λ (v : Waiting). set so_far i (without names v)) here
    ∙ one_more (without names) ws i r c.loop-one-test.true
    ∙ ap (λ (n : ℕ). map (without names) (take n ws) ++ drop n ws) (more i)
