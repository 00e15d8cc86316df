use Rattle.std.proofs.Common.{◌≡◌, drop}
use Rattle.fx_local.specs.Services.{first_plain}
use Rattle.fx_local.proofs.local.first_plain.Given as goal

-- it is the first of what is left
abbrev pub invariant-loop-iri : goal.invariant-loop-iri
invariant-loop-iri l = first_plain (drop l.iri-index l.occurrences) ≡ first_plain l.occurrences
