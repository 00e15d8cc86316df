use Rattle.std.proofs.Common.{◌≡◌, ◌∙◌, ap, sym, refl, ℕ, zero, suc, ◌≤◌, List, [], ◌∷◌, drop, length, min, fold, arith}
use Rattle.std.specs.List.{zip}
use Rattle.fx_algebra.specs.Operators as spec
use Rattle.fx_solutions.proofs.rows.inline_row.Goals as goal

abbrev nil_of : (Y : Type 0) → List Y
nil_of Y = []

zip_nil : {X Y : Type 0} (xs : List X) → zip xs (nil_of Y) ≡ []
zip_nil [] = refl
zip_nil (x ∷ xs) = refl

nothing_left : {X Y : Type 0} (i : ℕ) (xs : List X) (ys : List Y) → min (length xs) (length ys) ≤ i → zip (drop i xs) (drop i ys) ≡ []
nothing_left zero [] ys h = refl
nothing_left (suc i) [] ys h = refl
nothing_left zero (x ∷ xs) [] h = refl
nothing_left (suc i) (x ∷ xs) [] h = zip_nil (drop i xs)
nothing_left zero (x ∷ xs) (y ∷ ys) h = absurd (omega arith)
nothing_left (suc i) (x ∷ xs) (y ∷ ys) h = nothing_left i xs ys (omega arith)

pub returns : goal.returns
returns c =
    let columns = c.args.columns.now in
    let row = c.args.row.now in
    ap (fold spec.with_cell c.loop-i.solution) (sym (nothing_left c.loop-i.i columns row (omega (arith, c.min-count.ensures, c.loop-i-test.false)))) ∙ c.loop-i.invariant
