-- What is printed of a graph is a document of that graph and of no other.
use Rattle.std.proofs.Common.{List, [], sym, subst, All}
use Rattle.std.specs.List.{flat_map}
use Rattle.fx_terms.specs.Triples.{IsTriple, triple_cmp}
use Rattle.fx_terms.specs.declared.triples.Triple.{Triple}
use Rattle.fx_ntriples.specs.Printing.{printed_graph}
use Rattle.fx_ntriples.proofs.Back.{rising_set}
use Rattle.fx_turtle.specs.Documents.{IsTurtle}
use Rattle.fx_turtle.specs.Grammar.{document}
use Rattle.fx_turtle.specs.Printed.{PrintedIsRead}
use Rattle.fx_turtle.specs.Symbols.{Symbol, symbol_of}
use Rattle.fx_turtle.proofs.PrintedPieces.{lexes}
use Rattle.fx_turtle.proofs.PrintedLines.{triple_symbols, graph_says}
use Rattle.fx_turtle.proofs.PrintedStatements.{document_spelled}

-- the lines of triples are a document of these, in whatever order they stand
pub lines_are_turtle : (triples : List Triple) → All IsTriple triples → IsTurtle (printed_graph triples) triples
lines_are_turtle triples h =
    let l = lexes symbol_of (printed_graph triples) (flat_map triple_symbols triples) (graph_says triples h) [] in
    record {
      utf8 = l.utf8;
      tokens = l.read;
      lexed = l.lexed;
      spelled = subst (λ (v : List Symbol). document.spells v triples) (sym l.says) (document_spelled triples h);
    }

pub printed_is_read_holds : PrintedIsRead
printed_is_read_holds graph h = record { triples = graph; document = lines_are_turtle graph h.terms; holds = sym (rising_set triple_cmp graph h.rises) }
