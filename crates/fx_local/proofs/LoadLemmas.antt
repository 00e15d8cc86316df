-- What the texts of files give.
use Rattle.std.proofs.Common.{◌≡◌, ◌∙◌, subst, ℕ, ◌≤◌, List, Option, Some, None, Ok, Err, length}
use Rattle.std.specs.Prelude.{IfSome, Result}
use Rattle.fx_grammar.specs.Refused.{IsRefused, IsCause}
use Rattle.fx_grammar.specs.declared.refusals.SyntaxKind.{SyntaxKind}
use Rattle.fx_grammar.specs.declared.refusals.SyntaxError.{SyntaxError}
use Rattle.fx_grammar.specs.declared.refusals.SyntaxError.TheVariants.{Refused}
use Rattle.fx_terms.specs.declared.triples.Triple.{Triple}
use Rattle.fx_ntriples.specs.declared.faults.NtError.TheVariants as error
use Rattle.fx_local.specs.Limits.{graph_limit}
use Rattle.fx_local.specs.GraphTexts.{GivesGraphText, IsGraphFault, IsGraphText}
use Rattle.fx_local.specs.declared.refusals.GraphFault.{GraphFault}
use Rattle.fx_local.specs.declared.refusals.GraphFault.TheVariants as fault
use Rattle.fx_local.specs.declared.refusals.GraphRefusal.{GraphRefusal}
use Rattle.fx_local.specs.declared.refusals.GraphRefusal.TheVariants as graph
use Rattle.fx_local.specs.Files.{FileRead, IsNoGraph}
use Rattle.fx_local.specs.LocalSteps.{GivesGraph}

-- a text that is refused as a query
pub no_query : (content : Option (List ℕ)) (limit : ℕ) (bytes text : List ℕ) (e : SyntaxError) (kind : SyntaxKind) (place : ℕ) → IfSome content (λ all. (bytes ≡ all) × (length all ≤ limit)) → text ≡ bytes → e ≡ Refused kind place → IsCause text e → IfSome content (λ all. (length all ≤ limit) × IsRefused all kind place)
no_query None limit bytes text e kind place h s is cause = tt
no_query (Some all) limit bytes text e kind place h s is cause = (h.1, subst (λ (v : List ℕ). IsRefused v kind place) (s ∙ h.0) (subst (IsCause text) is cause))

-- what the text of a graph's file gives
pub graph_given : (f : FileRead) (bytes text : List ℕ) (result : Result (List Triple) GraphRefusal) → IfSome f.content (λ all. (bytes ≡ all) × (length all ≤ graph_limit)) → text ≡ bytes → GivesGraphText f.name text result → GivesGraph f result
graph_given f bytes text result h same k = by_result result k
  where
    told : (P : List ℕ → Type 0) → P text → IfSome f.content (λ all. (length all ≤ graph_limit) × P all)
    told P k = pick f.content h
      where
        pick : (o : Option (List ℕ)) → IfSome o (λ all. (bytes ≡ all) × (length all ≤ graph_limit)) → IfSome o (λ all. (length all ≤ graph_limit) × P all)
        pick None h = tt
        pick (Some all) h = (h.1, subst P (same ∙ h.0) k)

    refused : (e : GraphFault) → IsGraphFault f.name text e → IsNoGraph f e
    refused e k = told (λ all. IsGraphFault f.name all e) k

    by_result : (result : Result (List Triple) GraphRefusal) → GivesGraphText f.name text result → GivesGraph f result
    by_result (Ok g) k = told (λ all. IsGraphText f.name all g) k
    by_result (Err (graph.Refused (fault.Triples error.Memory))) k = tt
    by_result (Err (graph.Refused (fault.Triples (error.BadUtf8 at)))) k = refused (fault.Triples (error.BadUtf8 at)) k
    by_result (Err (graph.Refused (fault.Triples (error.Bad l c)))) k = refused (fault.Triples (error.Bad l c)) k
    by_result (Err (graph.Refused (fault.Triples (error.Blank l c)))) k = refused (fault.Triples (error.Blank l c)) k
    by_result (Err (graph.Refused (fault.Triples (error.Relative l c)))) k = refused (fault.Triples (error.Relative l c)) k
    by_result (Err (graph.Refused (fault.Turtle kind at))) k = refused (fault.Turtle kind at) k
    by_result (Err graph.Memory) k = tt
    by_result (Err graph.Fault) k = absurd k
    by_result (Err graph.TooLong) k = absurd k
