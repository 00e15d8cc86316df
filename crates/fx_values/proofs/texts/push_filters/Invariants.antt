use Rattle.std.proofs.Common.{◌≡◌, ◌++◌, take, string_bytes}
use Rattle.std.specs.List.{flat_map}
use Rattle.fx_algebra.specs.Printed.{spaced}
use Rattle.fx_values.specs.Texts.{filter_words}
use Rattle.fx_values.proofs.texts.push_filters.Given as goal

abbrev pub invariant-loop-filter : goal.invariant-loop-filter
invariant-loop-filter l = string_bytes l.text ≡ string_bytes l.initial.text ++ spaced (flat_map (filter_words l.names) (take l.filter-index l.filters))
