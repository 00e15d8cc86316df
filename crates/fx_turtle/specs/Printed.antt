-- What is printed of a graph (`fx_ntriples`) is Turtle too.
use Rattle.std.specs.Prelude.{List}
use Rattle.fx_terms.specs.Graphs.{IsGraph}
use Rattle.fx_terms.specs.declared.triples.Triple.{Triple}
use Rattle.fx_ntriples.specs.Printing.{printed_graph}
use Rattle.fx_turtle.specs.Documents.{IsTurtleOf}

-- the law: it is a document, and its graph is the one that was printed
abbrev pub PrintedIsRead : Type 0
PrintedIsRead = (graph : List Triple) → IsGraph graph → IsTurtleOf (printed_graph graph) graph
