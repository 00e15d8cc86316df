use Rattle.std.proofs.Common.{◌≡◌, ◌^◌, ◌<◌, true, drop}
use Rattle.std.specs.List.{list_all}
use Rattle.std.specs.Char.{is_ascii_hexdigit}
use Rattle.fx_ntriples.specs.Quotes as spec
use Rattle.fx_ntriples.proofs.quotes.hex_value.Given as goal

abbrev pub invariant-loop-d : goal.invariant-loop-d
invariant-loop-d l =
    (l.value < 16 ^ l.d-index) × (list_all is_ascii_hexdigit (drop l.d-index l.digits) ≡ true)
    × (spec.hex_value l.value (drop l.d-index l.digits) ≡ spec.hex_value 0 l.digits)
