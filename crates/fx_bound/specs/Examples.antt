-- The texts of some batches, written out, and what some rows of their answers tell.
use Rattle.std.specs.Prelude.{◌≡◌, ℕ, List, [], ◌∷◌, ◌++◌, codes, false, Result, Ok, Err, pos}
use Rattle.fx_terms.specs.declared.terms.Term.{Term}
use Rattle.fx_terms.specs.declared.terms.Term.TheVariants.{Iri}
use Rattle.fx_terms.specs.declared.patterns.Pattern.{Pattern}
use Rattle.fx_terms.specs.declared.patterns.PatternTerm.TheVariants.{Variable, Constant}
use Rattle.fx_algebra.specs.Printed.{printed_query}
use Rattle.fx_algebra.specs.Solutions.{Bindings}
use Rattle.fx_algebra.specs.Values.{integer}
use Rattle.fx_algebra.specs.declared.units.Row.{Row}
use Rattle.fx_algebra.specs.declared.units.Unit as unit
use Rattle.fx_bound.specs.Batches.{batch_query}
use Rattle.fx_bound.specs.Reading.{read_row}
use Rattle.fx_founds.specs.Uniting.{branches}
use Rattle.fx_bound.specs.declared.faults.RowFault.{RowFault}
use Rattle.fx_bound.specs.declared.faults.RowFault.TheVariants.{Foreign, Mixed, Partial}
use Rattle.fx_founds.specs.declared.founds.Found.{Found}

-- names and terms are known by their last letter here
abbrev pub iri : List ℕ → Term
iri letter = Iri (codes "http://e/" ++ letter)

abbrev pub linked : List ℕ → List ℕ → List ℕ → Pattern
linked subject predicate object = record { subject = Variable subject; predicate = Constant (iri predicate); object = Variable object }

abbrev pub of_patterns : List Pattern → unit.Unit
of_patterns patterns = record { patterns = patterns; filters = []; members = []; group = false }

abbrev pub with_terms : Bindings → Row
with_terms solution = record { origin = 0; solution = solution }

abbrev pub text : unit.Unit → List Row → List ℕ
text u rows = printed_query (batch_query u (branches u rows))

-- one pattern beside the row without terms; two patterns; two rows that bind its subject; a row that binds all
pub record TextsAreWritten : Type 0 where
  pub one : text (of_patterns (linked (codes "y") (codes "q") (codes "z") ∷ [])) (with_terms [] ∷ []) ≡ codes "SELECT ?v0_0 ?v1_0 WHERE { { ?v0_0 <http://e/q> ?v1_0 . } }"
  pub two : text (of_patterns (linked (codes "y") (codes "q") (codes "z") ∷ linked (codes "y") (codes "q") (codes "w") ∷ [])) (with_terms [] ∷ [])
      ≡ codes "SELECT ?v0_0 ?v1_0 ?v2_0 WHERE { { ?v0_0 <http://e/q> ?v1_0 . ?v0_0 <http://e/q> ?v2_0 . } }"
  pub twice : text (of_patterns (linked (codes "x") (codes "p") (codes "y") ∷ [])) (with_terms ((codes "x", iri (codes "a")) ∷ []) ∷ with_terms ((codes "x", iri (codes "a")) ∷ []) ∷ [])
      ≡ codes "SELECT ?v1_0 ?v1_1 WHERE { { <http://e/a> <http://e/p> ?v1_0 . } UNION { <http://e/a> <http://e/p> ?v1_1 . } }"
  pub whole : text (of_patterns (linked (codes "x") (codes "p") (codes "y") ∷ [])) (with_terms ((codes "x", iri (codes "a")) ∷ (codes "y", iri (codes "b")) ∷ []) ∷ [])
      ≡ codes "SELECT ?k_0 WHERE { { <http://e/a> <http://e/p> <http://e/b> . BIND ( \"1\"^^<http://www.w3.org/2001/XMLSchema#integer> AS ?k_0 ) } }"

-- ---- rows of answers

abbrev pub read : unit.Unit → List Row → Bindings → Result Found RowFault
read u rows row = read_row u (branches u rows) row

-- the subject bound by two rows
abbrev pub by_subject : Bindings → Result Found RowFault
by_subject = read (of_patterns (linked (codes "x") (codes "p") (codes "y") ∷ [])) (with_terms ((codes "x", iri (codes "a")) ∷ []) ∷ with_terms ((codes "x", iri (codes "c")) ∷ []) ∷ [])

-- what a row tells, and the fault of one that tells nothing; a name that wasn't asked for is the first fault
pub record RowsAreRead : Type 0 where
  pub told_by_second : by_subject ((codes "v1_1", iri (codes "b")) ∷ []) ≡ Ok (record { branch = 1; solution = (codes "x", iri (codes "c")) ∷ (codes "y", iri (codes "b")) ∷ [] })
  pub of_two_branches : by_subject ((codes "v1_0", iri (codes "b")) ∷ (codes "v1_1", iri (codes "b")) ∷ []) ≡ Err Mixed
  pub of_none : by_subject [] ≡ Err Partial
  pub unasked : by_subject ((codes "v7_0", iri (codes "b")) ∷ []) ≡ Err Foreign
  pub unasked_first : by_subject ((codes "v1_0", iri (codes "b")) ∷ (codes "v1_1", iri (codes "b")) ∷ (codes "v7_0", iri (codes "b")) ∷ []) ≡ Err Foreign
  pub of_half : read (of_patterns (linked (codes "y") (codes "q") (codes "z") ∷ [])) (with_terms [] ∷ []) ((codes "v0_0", iri (codes "b")) ∷ []) ≡ Err Partial
  pub of_all : read (of_patterns (linked (codes "x") (codes "p") (codes "y") ∷ [])) (with_terms ((codes "x", iri (codes "a")) ∷ (codes "y", iri (codes "b")) ∷ []) ∷ []) ((codes "k_0", integer (pos 1)) ∷ [])
      ≡ Ok (record { branch = 0; solution = (codes "x", iri (codes "a")) ∷ (codes "y", iri (codes "b")) ∷ [] })
