-- A text is one graph at most in a language, and none where it is refused.
use Rattle.std.proofs.Common.{◌≡◌, ◌∙◌, ap, sym, ℕ, Bool, true, false, List, Ok, Err}
use Rattle.fx_terms.specs.Graphs.{graph_of}
use Rattle.fx_terms.specs.declared.triples.Triple.{Triple}
use Rattle.fx_ntriples.specs.Reading.{read_document}
use Rattle.fx_ntriples.proofs.Complete.{document_reads}
use Rattle.fx_turtle.proofs.Documented.{never_both_holds, one_document_holds}
use Rattle.fx_local.specs.GraphTexts.{IsFaultIn, IsGraphIn}
use Rattle.fx_local.specs.declared.refusals.GraphFault.{GraphFault}
use Rattle.fx_local.specs.declared.refusals.GraphFault.TheVariants as fault

pub one_graph : (turtle : Bool) (text : List ℕ) (a b : List Triple) → IsGraphIn turtle text a → IsGraphIn turtle text b → a ≡ b
one_graph true text a b h k = h.holds ∙ ap graph_of (one_document_holds text h.triples k.triples h.document k.document) ∙ sym k.holds
one_graph false text a b h k = let here = document_reads text a h in let there = document_reads text b k in cc

pub never_refused : (turtle : Bool) (text : List ℕ) (graph : List Triple) (e : GraphFault) → IsGraphIn turtle text graph → IsFaultIn turtle text e → ⊥
never_refused true text graph (fault.Turtle kind place) h k = never_both_holds text kind place h.triples k h.document
never_refused true text graph (fault.Triples e) h k = absurd k
never_refused false text graph (fault.Turtle kind place) h k = absurd k
never_refused false text graph (fault.Triples e) h k = clash (read_document text) (document_reads text graph h) k
  where
    clash : (o : _) → o ≡ Ok graph → o ≡ Err e → ⊥
    clash o a b = cc
