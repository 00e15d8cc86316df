use Rattle.std.proofs.Common.{◌≡◌, take}
use Rattle.std.specs.List.{flat_map}
use Rattle.std.specs.String.{string_bytes}
use Rattle.fx_ntriples.specs.Printing.{printed_line}
use Rattle.fx_ntriples.proofs.printing.print.Given as goal

abbrev pub invariant-loop-triple : goal.invariant-loop-triple
invariant-loop-triple l = string_bytes l.out ≡ flat_map printed_line (take l.triple-index l.triples)
