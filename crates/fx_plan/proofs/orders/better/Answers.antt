use Rattle.std.proofs.Common.{◌≡◌, ◌∙◌, ap, sym, arith, suc, ◌+◌, ◌<◌, ◌∷◌, drop, length, length-drop, get_or, if◌then◌else◌, ℕ, Bool, List}
use Rattle.std.proofs.Math.Seq.{drop-cons}
use Rattle.fx_plan.specs.Places.{first_place, is_sooner_waiting}
use Rattle.fx_plan.specs.declared.orders.Waiting.{Waiting}
use Rattle.fx_plan.proofs.OrderLemmas.{drop_get, place_step}
use Rattle.fx_plan.proofs.orders.better.Goals as goal

more : (n : ℕ) → n + 1 ≡ suc n
more n = omega arith

-- the first place from one on, by that from the next on
place_from : (ws : List Waiting) (at best : ℕ) (x b : Waiting) (r : Bool) → at < best → best < length ws → best ≡ at + 1 + first_place (drop (at + 1) ws) → x ≡ get_or ws at x → b ≡ get_or ws best b → r ≡ is_sooner_waiting b x →
    first_place (drop at ws) ≡ (if r then suc (first_place (drop (suc at) ws)) else 0)
place_from ws at best x b r low high e fx fb s =
    ap first_place (drop-cons ws at x (omega (arith, low, high)) ∙ ap (λ (v : Waiting). v ∷ drop (suc at) ws) (sym fx))
    ∙ place_step x b (drop (suc at) ws) (omega (arith, length-drop (suc at) ws, low, high)) own
    ∙ ap (λ (v : Bool). if v then suc (first_place (drop (suc at) ws)) else 0) (sym s)
  where
    next : best ≡ suc at + first_place (drop (suc at) ws)
    next = e ∙ ap (λ (n : ℕ). n + first_place (drop n ws)) (more at)

    own : b ≡ get_or (drop (suc at) ws) (first_place (drop (suc at) ws)) b
    own = fb ∙ ap (λ (n : ℕ). get_or ws n b) next ∙ drop_get ws (suc at) (first_place (drop (suc at) ws)) b

same_after : (ws : List Waiting) (at : ℕ) → first_place (drop (at + 1) ws) ≡ first_place (drop (suc at) ws)
same_after ws at = ap (λ (n : ℕ). first_place (drop n ws)) (more at)

pub returns-then-is_sooner : goal.returns-then-is_sooner
returns-then-is_sooner c =
    let from = place_from c.args.left.now c.args.at c.args.best c.index-left-at.result c.index-left-best.result c.is_sooner.result c.requires.low c.requires.within c.requires.behind c.index-left-at.is c.index-left-best.is c.is_sooner.ensures in
    let first = from ∙ ap (λ (v : Bool). if v then suc (first_place (drop (suc c.args.at) c.args.left.now)) else 0) c.if-is_sooner.true in
    let after = same_after c.args.left.now c.args.at in
    record {
      place = omega (arith, first, after, c.requires.behind);
      low = omega (arith, c.requires.low);
      within = c.requires.within;
    }

pub returns-else-is_sooner : goal.returns-else-is_sooner
returns-else-is_sooner c =
    let from = place_from c.args.left.now c.args.at c.args.best c.index-left-at.result c.index-left-best.result c.is_sooner.result c.requires.low c.requires.within c.requires.behind c.index-left-at.is c.index-left-best.is c.is_sooner.ensures in
    let first = from ∙ ap (λ (v : Bool). if v then suc (first_place (drop (suc c.args.at) c.args.left.now)) else 0) c.if-is_sooner.false in
    record {
      place = omega (arith, first);
      low = omega arith;
      within = omega (arith, c.requires.low, c.requires.within);
    }
