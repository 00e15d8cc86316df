use Rattle.std.proofs.Common.{◌≡◌, ◌++◌, take, string_bytes}
use Rattle.fx_algebra.specs.Printed.{spaced}
use Rattle.fx_values.specs.Texts.{triple_words}
use Rattle.fx_values.proofs.texts.push_patterns.Given as goal

abbrev pub invariant-loop-pattern : goal.invariant-loop-pattern
invariant-loop-pattern l = string_bytes l.text ≡ string_bytes l.initial.text ++ spaced (triple_words l.names (take l.pattern-index l.patterns))
