use Rattle.std.proofs.Common.{◌≡◌, ◌++◌, take, string_bytes}
use Rattle.fx_algebra.specs.Printed.{spaced}
use Rattle.fx_bound.specs.Sent.{column_words}
use Rattle.fx_bound.proofs.texts.push_columns.Given as goal

abbrev pub invariant-loop-branch : goal.invariant-loop-branch
invariant-loop-branch l = string_bytes l.text ≡ string_bytes l.initial.text ++ spaced (column_words (take l.branch-index l.branches))
