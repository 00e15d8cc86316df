use Rattle.std.proofs.Common.{take, All}
use Rattle.fx_terms.specs.Triples.{IsTriple}
use Rattle.fx_terms.proofs.graphs.known.Given as goal

abbrev pub invariant-loop-triple : goal.invariant-loop-triple
invariant-loop-triple l = All IsTriple (take l.triple-index l.triples)
