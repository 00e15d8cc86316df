use Rattle.std.proofs.Common.{◌≡◌, ◌-◌, length, drop}
use Rattle.std.specs.Str.{IsCharBoundary}
use Rattle.std.specs.String.{string_bytes}
use Rattle.fx_ntriples.specs.Quotes as spec
use Rattle.fx_ntriples.proofs.quotes.quoted.Given as goal

abbrev pub invariant-loop-bytes : goal.invariant-loop-bytes
invariant-loop-bytes l =
    IsCharBoundary l.line l.from × (spec.in_front (string_bytes l.decoded) (spec.body l.quote 0 (drop l.from l.line)) ≡ spec.body l.quote 0 (drop l.fn.at l.line))

abbrev pub decreases-loop-bytes : goal.decreases-loop-bytes
decreases-loop-bytes l = length l.line - l.from
