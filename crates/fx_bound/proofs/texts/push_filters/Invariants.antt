use Rattle.std.proofs.Common.{◌≡◌, ◌++◌, take, string_bytes}
use Rattle.fx_algebra.specs.Printed.{spaced}
use Rattle.fx_bound.specs.Reading.{named}
use Rattle.fx_bound.specs.Sent.{filter_words}
use Rattle.fx_bound.proofs.texts.push_filters.Given as goal

abbrev pub invariant-loop-filter : goal.invariant-loop-filter
invariant-loop-filter l = string_bytes l.text ≡ string_bytes l.initial.text ++ spaced (filter_words (named l.names l.branch.number) l.branch.row.solution (take l.filter-index l.filters))
