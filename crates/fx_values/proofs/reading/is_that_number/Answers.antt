use Rattle.std.proofs.Common.{◌∙◌, ap, sym, Bool, ◌&&◌, []}
use Rattle.std.specs.Prelude.{pos}
use Rattle.std.specs.Str.{bytes_eq}
use Rattle.fx_terms.specs.Datatypes.{xsd_integer}
use Rattle.fx_terms.specs.declared.terms.Term.{Term}
use Rattle.fx_algebra.specs.Solutions.{same_term}
use Rattle.fx_algebra.specs.Values.{integer}
use Rattle.fx_values.proofs.NumberLemmas.{is_number, no_iri}
use Rattle.fx_values.proofs.reading.is_that_number.Goals as goal

pub returns-in-Iri : goal.returns-in-Iri
returns-in-Iri c = no_iri c.args.number c.in-Iri.field-0 ∙ ap (λ (t : Term). same_term (integer (pos c.args.number)) t) (sym c.in-Iri.is)

pub returns-then-has_form : goal.returns-then-has_form
returns-then-has_form c =
    c.is_integer.ensures
    ∙ ap (λ (b : Bool). b && (bytes_eq c.in-Literal.literal.datatype xsd_integer && bytes_eq c.in-Literal.literal.tag [])) (sym c.if-has_form.true ∙ c.has_form.ensures)
    ∙ is_number c.args.number c.in-Literal.literal
    ∙ ap (λ (t : Term). same_term (integer (pos c.args.number)) t) (sym c.in-Literal.is)

pub returns-else-has_form : goal.returns-else-has_form
returns-else-has_form c =
    c.if-has_form.false
    ∙ ap (λ (b : Bool). b && (bytes_eq c.in-Literal.literal.datatype xsd_integer && bytes_eq c.in-Literal.literal.tag [])) (sym c.if-has_form.false ∙ c.has_form.ensures)
    ∙ is_number c.args.number c.in-Literal.literal
    ∙ ap (λ (t : Term). same_term (integer (pos c.args.number)) t) (sym c.in-Literal.is)
