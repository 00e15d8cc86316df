-- Texts of graphs: which graph the text of a file is, by the file's name.
use Rattle.std.specs.Prelude.{◌≡◌, ℕ, Bool, true, false, List, codes, Result, Ok, Err}
use Rattle.fx_terms.specs.declared.triples.Triple.{Triple}
use Rattle.fx_algebra.specs.Words.{ends}
use Rattle.fx_ntriples.specs.Forms.{IsDocument}
use Rattle.fx_ntriples.specs.Reading.{read_document}
use Rattle.fx_ntriples.specs.declared.faults.NtError.TheVariants as error
use Rattle.fx_turtle.specs.Documents.{IsRefused, IsTurtleOf}
use Rattle.fx_local.specs.declared.refusals.GraphFault.{GraphFault}
use Rattle.fx_local.specs.declared.refusals.GraphFault.TheVariants as fault
use Rattle.fx_local.specs.declared.refusals.GraphRefusal.{GraphRefusal}
use Rattle.fx_local.specs.declared.refusals.GraphRefusal.TheVariants as graph

-- a file whose name ends so holds Turtle, and any other N-Triples
abbrev pub is_turtle : List ℕ → Bool
is_turtle name = ends name (codes ".ttl")

-- ---- by the language

-- the text is a document of the graph: of Turtle, or else of N-Triples
abbrev pub IsGraphIn : Bool → List ℕ → List Triple → Type 0
IsGraphIn true text graph = IsTurtleOf text graph
IsGraphIn false text graph = IsDocument text graph

-- it is none, for this reason
abbrev pub IsFaultIn : Bool → List ℕ → GraphFault → Type 0
IsFaultIn true text (fault.Turtle kind place) = IsRefused text kind place
IsFaultIn true text (fault.Triples e) = ⊥
IsFaultIn false text (fault.Turtle kind place) = ⊥
IsFaultIn false text (fault.Triples e) = read_document text ≡ Err e

-- the graph of the text, or why there is none
abbrev pub GivesGraphIn : Bool → List ℕ → Result (List Triple) GraphRefusal → Type 0
GivesGraphIn turtle text (Ok graph) = IsGraphIn turtle text graph
GivesGraphIn turtle text (Err (graph.Refused (fault.Triples error.Memory))) = Unit {0}
GivesGraphIn turtle text (Err (graph.Refused e)) = IsFaultIn turtle text e
GivesGraphIn turtle text (Err graph.Memory) = Unit {0}
GivesGraphIn turtle text (Err graph.Fault) = ⊥
GivesGraphIn turtle text (Err graph.TooLong) = ⊥

-- ---- by the name of the file

abbrev pub IsGraphText : List ℕ → List ℕ → List Triple → Type 0
IsGraphText name text graph = IsGraphIn (is_turtle name) text graph

abbrev pub IsGraphFault : List ℕ → List ℕ → GraphFault → Type 0
IsGraphFault name text e = IsFaultIn (is_turtle name) text e

abbrev pub GivesGraphText : List ℕ → List ℕ → Result (List Triple) GraphRefusal → Type 0
GivesGraphText name text result = GivesGraphIn (is_turtle name) text result
