use Rattle.std.proofs.Common.{◌≡◌, ◌++◌, map, take, string_bytes}
use Rattle.fx_algebra.specs.Printed.{spaced, value_word}
use Rattle.fx_algebra.specs.Solutions.{term_of}
use Rattle.fx_values.proofs.texts.push_values.Given as goal

abbrev pub invariant-loop-name : goal.invariant-loop-name
invariant-loop-name l = string_bytes l.text ≡ string_bytes l.initial.text ++ spaced (map value_word (map (term_of l.row) (take l.name-index l.names)))
