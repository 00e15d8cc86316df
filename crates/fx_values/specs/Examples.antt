-- The texts of some blocks, written out, and what some rows of their answers tell.
use Rattle.std.specs.Prelude.{◌≡◌, ℕ, List, [], ◌∷◌, ◌++◌, codes, false, Option, None, Some, Result, Ok, Err, pos}
use Rattle.fx_terms.specs.Literals.{plain}
use Rattle.fx_terms.specs.declared.terms.Term.{Term}
use Rattle.fx_terms.specs.declared.terms.Term.TheVariants.{Iri, Literal}
use Rattle.fx_terms.specs.declared.patterns.Pattern.{Pattern}
use Rattle.fx_terms.specs.declared.patterns.PatternTerm.TheVariants.{Variable, Constant}
use Rattle.fx_algebra.specs.Solutions.{Bindings}
use Rattle.fx_algebra.specs.Values.{integer}
use Rattle.fx_algebra.specs.declared.units.Row.{Row}
use Rattle.fx_algebra.specs.declared.units.Unit as unit
use Rattle.fx_founds.specs.Uniting.{branches}
use Rattle.fx_values.specs.Parts.{Parts, text_of}
use Rattle.fx_values.specs.Reading.{read_row}
use Rattle.fx_values.specs.declared.faults.RowFault.{RowFault}
use Rattle.fx_values.specs.declared.faults.RowFault.TheVariants.{Foreign, Partial, Mixed}
use Rattle.fx_values.specs.declared.located.Located.{Located}

-- names and terms are known by their last letter here
abbrev pub iri : List ℕ → Term
iri letter = Iri (codes "http://e/" ++ letter)

abbrev pub linked : List ℕ → List ℕ → List ℕ → Pattern
linked subject predicate object = record { subject = Variable subject; predicate = Constant (iri predicate); object = Variable object }

abbrev pub of_patterns : List Pattern → unit.Unit
of_patterns patterns = record { patterns = patterns; filters = []; members = []; group = false }

abbrev pub with_terms : Bindings → Row
with_terms solution = record { origin = 0; solution = solution }

abbrev pub of_rows : unit.Unit → List Row → Parts
of_rows u rows = record { unit = u; places = branches u rows }

abbrev pub text : unit.Unit → List Row → Option (List ℕ)
text u rows = text_of (of_rows u rows)

-- the pattern `?x p ?y`
abbrev pub one : unit.Unit
one = of_patterns (linked (codes "x") (codes "p") (codes "y") ∷ [])

abbrev pub subject : Term → Row
subject t = with_terms ((codes "x", t) ∷ [])

-- a literal can't be a subject
abbrev pub literal : Term
literal = Literal (plain (codes "c"))

-- two rows that bind the subject; a row between that is left out; a name beside the unit's; two patterns; no row that is left
pub record TextsAreWritten : Type 0 where
  pub twice : text one (subject (iri (codes "a")) ∷ subject (iri (codes "a")) ∷ [])
      ≡ Some (codes "SELECT ?k ?v0 ?v1 WHERE { VALUES ( ?k ?v0 ?v1 ) { ( \"0\"^^<http://www.w3.org/2001/XMLSchema#integer> <http://e/a> UNDEF ) ( \"1\"^^<http://www.w3.org/2001/XMLSchema#integer> <http://e/a> UNDEF ) } ?v0 <http://e/p> ?v1 . }")
  pub between : text one (subject (iri (codes "a")) ∷ subject literal ∷ subject (iri (codes "b")) ∷ [])
      ≡ Some (codes "SELECT ?k ?v0 ?v1 WHERE { VALUES ( ?k ?v0 ?v1 ) { ( \"0\"^^<http://www.w3.org/2001/XMLSchema#integer> <http://e/a> UNDEF ) ( \"2\"^^<http://www.w3.org/2001/XMLSchema#integer> <http://e/b> UNDEF ) } ?v0 <http://e/p> ?v1 . }")
  pub whole : text one (with_terms ((codes "w", iri (codes "c")) ∷ (codes "x", iri (codes "a")) ∷ (codes "y", iri (codes "b")) ∷ []) ∷ [])
      ≡ Some (codes "SELECT ?k ?v0 ?v1 WHERE { VALUES ( ?k ?v0 ?v1 ) { ( \"0\"^^<http://www.w3.org/2001/XMLSchema#integer> <http://e/a> <http://e/b> ) } ?v0 <http://e/p> ?v1 . }")
  pub two : text (of_patterns (linked (codes "y") (codes "q") (codes "z") ∷ linked (codes "z") (codes "q") (codes "y") ∷ [])) (with_terms [] ∷ [])
      ≡ Some (codes "SELECT ?k ?v0 ?v1 WHERE { VALUES ( ?k ?v0 ?v1 ) { ( \"0\"^^<http://www.w3.org/2001/XMLSchema#integer> UNDEF UNDEF ) } ?v0 <http://e/q> ?v1 . ?v1 <http://e/q> ?v0 . }")
  pub none_left : text one (subject literal ∷ []) ≡ None

-- ---- rows of answers

-- by rows of which the second is left out
abbrev pub read : Bindings → Result Located RowFault
read row = let rows = subject (iri (codes "a")) ∷ subject literal ∷ subject (iri (codes "b")) ∷ [] in read_row one (branches one rows) row

abbrev pub numbered : ℕ → Bindings → Bindings
numbered number row = (codes "k", integer (pos number)) ∷ row

-- what a row tells, and the fault of one that tells nothing; a name that wasn't asked for is the first fault, and an unbound column the second
pub record RowsAreRead : Type 0 where
  pub told : read (numbered 2 ((codes "v0", iri (codes "b")) ∷ (codes "v1", iri (codes "c")) ∷ [])) ≡ Ok (record { row = 2; solution = (codes "x", iri (codes "b")) ∷ (codes "y", iri (codes "c")) ∷ [] })
  pub left_out : read (numbered 1 ((codes "v0", iri (codes "a")) ∷ (codes "v1", iri (codes "c")) ∷ [])) ≡ Err Mixed
  pub unknown : read (numbered 3 ((codes "v0", iri (codes "a")) ∷ (codes "v1", iri (codes "c")) ∷ [])) ≡ Err Mixed
  pub of_another : read (numbered 2 ((codes "v0", iri (codes "a")) ∷ (codes "v1", iri (codes "c")) ∷ [])) ≡ Err Mixed
  pub numberless : read ((codes "v0", iri (codes "a")) ∷ (codes "v1", iri (codes "c")) ∷ []) ≡ Err Partial
  pub of_half : read (numbered 3 ((codes "v0", iri (codes "a")) ∷ [])) ≡ Err Partial
  pub of_none : read [] ≡ Err Partial
  pub unasked : read (numbered 0 ((codes "v7", iri (codes "a")) ∷ [])) ≡ Err Foreign
