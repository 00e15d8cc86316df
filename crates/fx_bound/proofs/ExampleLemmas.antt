-- The texts of the examples, by their words, and their rows.
use Rattle.std.proofs.Common.{◌≡◌, ◌∙◌, ap, refl, ℕ, List, [], ◌∷◌, codes}
use Rattle.std.specs.Fmt.{digits}
use Rattle.fx_algebra.specs.Printed.{joined}
use Rattle.fx_algebra.specs.Scopes.{with_name}
use Rattle.fx_algebra.specs.Values.{integer}
use Rattle.fx_algebra.specs.declared.units.Row.{Row}
use Rattle.fx_algebra.specs.declared.units.Unit as unit
use Rattle.fx_bound.specs.Examples.{RowsAreRead, TextsAreWritten, linked, of_patterns, with_terms, iri, text}
use Rattle.fx_bound.specs.Texts.{batch_words}
use Rattle.fx_founds.specs.Uniting.{branches}
use Rattle.fx_bound.proofs.AcceptLemmas.{batch_has_the_words}

by_words : (u : unit.Unit) (rows : List Row) (written : List ℕ) → joined (batch_words u (branches u rows)) ≡ written → text u rows ≡ written
by_words u rows written h = ap joined (batch_has_the_words u (branches u rows)) ∙ h

pub texts_are_written : TextsAreWritten
unfolding with_name digits integer
texts_are_written = record {
  one = by_words (of_patterns (linked (codes "y") (codes "q") (codes "z") ∷ [])) (with_terms [] ∷ []) (codes "SELECT ?v0_0 ?v1_0 WHERE { { ?v0_0 <http://e/q> ?v1_0 . } }") refl;
  two = by_words (of_patterns (linked (codes "y") (codes "q") (codes "z") ∷ linked (codes "y") (codes "q") (codes "w") ∷ [])) (with_terms [] ∷ [])
      (codes "SELECT ?v0_0 ?v1_0 ?v2_0 WHERE { { ?v0_0 <http://e/q> ?v1_0 . ?v0_0 <http://e/q> ?v2_0 . } }") refl;
  twice = by_words (of_patterns (linked (codes "x") (codes "p") (codes "y") ∷ [])) (with_terms ((codes "x", iri (codes "a")) ∷ []) ∷ with_terms ((codes "x", iri (codes "a")) ∷ []) ∷ [])
      (codes "SELECT ?v1_0 ?v1_1 WHERE { { <http://e/a> <http://e/p> ?v1_0 . } UNION { <http://e/a> <http://e/p> ?v1_1 . } }") refl;
  whole = by_words (of_patterns (linked (codes "x") (codes "p") (codes "y") ∷ [])) (with_terms ((codes "x", iri (codes "a")) ∷ (codes "y", iri (codes "b")) ∷ []) ∷ [])
      (codes "SELECT ?k_0 WHERE { { <http://e/a> <http://e/p> <http://e/b> . BIND ( \"1\"^^<http://www.w3.org/2001/XMLSchema#integer> AS ?k_0 ) } }") refl;
}

pub rows_are_read : RowsAreRead
unfolding with_name digits integer
rows_are_read = record { told_by_second = refl; of_two_branches = refl; of_none = refl; unasked = refl; unasked_first = refl; of_half = refl; of_all = refl }
