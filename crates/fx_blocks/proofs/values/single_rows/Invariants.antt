use Rattle.std.proofs.Common.{◌≡◌, map, take, [], ◌∷◌}
use Rattle.fx_blocks.proofs.values.single_rows.Given as goal

abbrev pub invariant-loop-value : goal.invariant-loop-value
invariant-loop-value l = l.rows ≡ map (λ v. v ∷ []) (take l.value-index l.values)
