use Rattle.std.proofs.Common.{◌≡◌, List, subst}
use Rattle.std.specs.Prelude.{IfOk}
use Rattle.std.specs.String.{string_bytes}
use Rattle.fx_terms.specs.declared.triples.Triple.{Triple}
use Rattle.fx_ntriples.specs.Printing.{printed_graph}
use Rattle.fx_ntriples.proofs.Back.{back_law}
use Rattle.fx_ntriples.proofs.printing.print_graph.Goals as goal

pub returns-clause-back : goal.returns-clause-back
returns-clause-back c =
    let text = subst (λ (g : List Triple). IfOk c.print.result (λ text. string_bytes text ≡ printed_graph g)) c.triples.ensures.all c.print.ensures in
    back_law c.print.result c.args.graph.now text c.triples.ensures.rises c.triples.ensures.terms
