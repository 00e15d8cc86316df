-- The order of terms: IRIs before literals, then code points of form, datatype and tag, where an IRI
-- has its text as form and nothing else.
use Rattle.std.specs.Prelude.{ℕ, List, []}
use Rattle.std.specs.declared.cmp.Ordering.{Ordering}
use Rattle.std.specs.Ordering.{nat_cmp, on, then_cmp}
use Rattle.std.specs.Cmp.{IsTotalOrder}
use Rattle.std.proofs.lemmas.Cmp.{then_total, on_total, nat_cmp_total}
use Rattle.fx_terms.specs.Texts.{text_cmp, texts_total}
use Rattle.fx_terms.specs.Iris.{IsIri}
use Rattle.fx_terms.specs.Literals.{IsLiteral}
use Rattle.fx_terms.specs.declared.terms.Term.{Term}
use Rattle.fx_terms.specs.declared.terms.Term.TheVariants.{Iri, Literal}

abbrev pub kind_of : Term → ℕ
kind_of (Iri a) = 0
kind_of (Literal a) = 1

abbrev pub form_of : Term → List ℕ
form_of (Iri a) = a
form_of (Literal a) = a.form

abbrev pub datatype_of : Term → List ℕ
datatype_of (Iri a) = []
datatype_of (Literal a) = a.datatype

abbrev pub tag_of : Term → List ℕ
tag_of (Iri a) = []
tag_of (Literal a) = a.tag

abbrev pub term_cmp : Term → Term → Ordering
term_cmp = then_cmp (on kind_of nat_cmp) (then_cmp (on form_of text_cmp) (then_cmp (on datatype_of text_cmp) (on tag_of text_cmp)))

pub terms_total : IsTotalOrder term_cmp
terms_total = then_total (on_total kind_of nat_cmp_total) (then_total (on_total form_of texts_total) (then_total (on_total datatype_of texts_total) (on_total tag_of texts_total)))

-- an IRI that is accepted, or a literal that can be made
abbrev pub IsTerm : Term → Type 0
IsTerm (Iri a) = IsIri a
IsTerm (Literal a) = IsLiteral a
