use Rattle.std.proofs.Common.{◌≡◌, [], map, take}
use Rattle.fx_renaming.specs.Branches.{bound_expr}
use Rattle.fx_values.specs.Values.{named}
use Rattle.fx_values.proofs.filters.+renamed.Given as goal

abbrev pub invariant-renamed_all-loop-part : goal.invariant-renamed_all-loop-part
invariant-renamed_all-loop-part l = l.all ≡ map (bound_expr (named l.names) []) (take l.part-index l.parts)

abbrev pub invariant-renamed_signed-loop-sign : goal.invariant-renamed_signed-loop-sign
invariant-renamed_signed-loop-sign l = l.all ≡ map (λ part. (part.0, bound_expr (named l.names) [] part.1)) (take l.sign-index l.parts)
