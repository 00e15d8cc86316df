use Rattle.std.proofs.Common.{◌≡◌, ◌++◌, ◌∷◌, [], map, take, string_bytes}
use Rattle.std.specs.List.{flat_map}
use Rattle.std.specs.Prelude.{codes}
use Rattle.fx_algebra.specs.Printed as spec
use Rattle.fx_print.proofs.groups.push_values.Given as goal

abbrev pub invariant-loop-value : goal.invariant-loop-value
invariant-loop-value l = string_bytes l.text ≡ string_bytes l.initial.text ++ spec.spaced (map spec.value_word (take l.value-index l.row))
