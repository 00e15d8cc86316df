use Rattle.std.proofs.Common.{◌≡◌, drop}
use Rattle.fx_walks.specs.Unknown.{first_unknown}
use Rattle.fx_walks.proofs.unknown.first_unknown.Given as goal

-- it is the first of what is left
abbrev pub invariant-loop-iri : goal.invariant-loop-iri
invariant-loop-iri l = first_unknown l.registry (drop l.iri-index l.occurrences) ≡ first_unknown l.registry l.occurrences
