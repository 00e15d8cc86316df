use Rattle.std.proofs.Common.{◌≡◌, ◌++◌, drop}
use Rattle.fx_local.specs.Services.{silent_lines}
use Rattle.fx_local.proofs.local.silent_lines.Given as goal

-- what is left completes the lines
abbrev pub invariant-loop-iri : goal.invariant-loop-iri
invariant-loop-iri l = l.lines.items ++ silent_lines (drop l.iri-index l.occurrences) ≡ silent_lines l.occurrences
