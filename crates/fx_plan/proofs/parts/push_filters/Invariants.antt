use Rattle.std.proofs.Common.{◌≡◌, ◌++◌, drop, string_bytes}
use Rattle.fx_plan.specs.Explained as spec
use Rattle.fx_plan.proofs.parts.push_filters.Given as goal

-- what is left completes the text
abbrev pub invariant-loop-filter : goal.invariant-loop-filter
invariant-loop-filter l =
    string_bytes l.text ++ spec.filter_lines (drop l.filter-index l.filters) ≡ string_bytes l.initial.text ++ spec.filter_lines l.filters
