-- The texts of the examples, by their words, and their rows.
use Rattle.std.proofs.Common.{◌≡◌, ◌∙◌, ap, refl, ℕ, List, [], ◌∷◌, codes, Some}
use Rattle.std.specs.Fmt.{digits}
use Rattle.fx_algebra.specs.Printed.{joined}
use Rattle.fx_algebra.specs.Scopes.{with_name}
use Rattle.fx_algebra.specs.Values.{integer}
use Rattle.fx_algebra.specs.declared.units.Row.{Row}
use Rattle.fx_algebra.specs.declared.units.Unit as unit
use Rattle.fx_founds.specs.Uniting.{Place}
use Rattle.fx_values.specs.Examples.{RowsAreRead, TextsAreWritten, iri, linked, of_patterns, one, subject, with_terms}
use Rattle.fx_values.specs.Parts.{text_of}
use Rattle.fx_values.specs.Texts.{values_words}
use Rattle.fx_values.proofs.AcceptLemmas.{values_have_the_words}

by_words : (u : unit.Unit) (b : Place) (bs : List Place) (written : List ℕ) → joined (values_words u (b ∷ bs)) ≡ written → text_of (record { unit = u; places = b ∷ bs }) ≡ Some written
by_words u b bs written h = ap (λ (v : List ℕ). Some v) (ap joined (values_have_the_words u (b ∷ bs)) ∙ h)

abbrev at : ℕ → Row → Place
at number row = record { number = number; row = row }

pub rows_are_read : RowsAreRead
unfolding with_name digits integer
rows_are_read = record { told = refl; left_out = refl; unknown = refl; of_another = refl; numberless = refl; of_half = refl; of_none = refl; unasked = refl }

pub texts_are_written : TextsAreWritten
unfolding with_name digits integer
texts_are_written = record {
  twice = by_words one (at 0 (subject (iri (codes "a")))) (at 1 (subject (iri (codes "a"))) ∷ [])
      (codes "SELECT ?k ?v0 ?v1 WHERE { VALUES ( ?k ?v0 ?v1 ) { ( \"0\"^^<http://www.w3.org/2001/XMLSchema#integer> <http://e/a> UNDEF ) ( \"1\"^^<http://www.w3.org/2001/XMLSchema#integer> <http://e/a> UNDEF ) } ?v0 <http://e/p> ?v1 . }") refl;
  between = by_words one (at 0 (subject (iri (codes "a")))) (at 2 (subject (iri (codes "b"))) ∷ [])
      (codes "SELECT ?k ?v0 ?v1 WHERE { VALUES ( ?k ?v0 ?v1 ) { ( \"0\"^^<http://www.w3.org/2001/XMLSchema#integer> <http://e/a> UNDEF ) ( \"2\"^^<http://www.w3.org/2001/XMLSchema#integer> <http://e/b> UNDEF ) } ?v0 <http://e/p> ?v1 . }") refl;
  whole = by_words one (at 0 (with_terms ((codes "w", iri (codes "c")) ∷ (codes "x", iri (codes "a")) ∷ (codes "y", iri (codes "b")) ∷ []))) []
      (codes "SELECT ?k ?v0 ?v1 WHERE { VALUES ( ?k ?v0 ?v1 ) { ( \"0\"^^<http://www.w3.org/2001/XMLSchema#integer> <http://e/a> <http://e/b> ) } ?v0 <http://e/p> ?v1 . }") refl;
  two = by_words (of_patterns (linked (codes "y") (codes "q") (codes "z") ∷ linked (codes "z") (codes "q") (codes "y") ∷ [])) (at 0 (with_terms [])) []
      (codes "SELECT ?k ?v0 ?v1 WHERE { VALUES ( ?k ?v0 ?v1 ) { ( \"0\"^^<http://www.w3.org/2001/XMLSchema#integer> UNDEF UNDEF ) } ?v0 <http://e/q> ?v1 . ?v1 <http://e/q> ?v0 . }") refl;
  none_left = refl;
}
