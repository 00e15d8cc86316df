use Rattle.std.proofs.Common.{◌≡◌, map, take}
use Rattle.fx_renaming.specs.Branches.{bound_expr}
use Rattle.fx_bound.specs.Reading.{named}
use Rattle.fx_bound.proofs.filters.+bound.Given as goal

abbrev pub invariant-bound_all-loop-part : goal.invariant-bound_all-loop-part
invariant-bound_all-loop-part l = l.all ≡ map (bound_expr (named l.names l.number) l.row) (take l.part-index l.parts)

abbrev pub invariant-bound_signed-loop-sign : goal.invariant-bound_signed-loop-sign
invariant-bound_signed-loop-sign l = l.all ≡ map (λ part. (part.0, bound_expr (named l.names l.number) l.row part.1)) (take l.sign-index l.parts)
