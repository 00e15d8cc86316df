-- A literal is a number in plain decimal where its form, its datatype and its tag are.
use Rattle.std.proofs.Common.{◌≡◌, ◌∙◌, ap, sym, refl, ℕ, Bool, true, false, ◌&&◌, List, []}
use Rattle.std.specs.Prelude.{pos}
use Rattle.std.specs.Fmt.{decimal}
use Rattle.std.specs.Str.{bytes_eq}
use Rattle.std.proofs.lemmas.Slice.Eq.{bytes_eq-Decides}
use Rattle.fx_terms.specs.Datatypes.{xsd_integer}
use Rattle.fx_terms.specs.Literals.{LiteralParts}
use Rattle.fx_terms.specs.declared.terms.Term.{Term}
use Rattle.fx_terms.specs.declared.terms.Term.TheVariants.{Iri, Literal}
use Rattle.fx_algebra.specs.Solutions.{same_term}
use Rattle.fx_algebra.specs.Values.{integer}
use Rattle.fx_algebra.proofs.ForcedLemmas.{same_from, same_itself}
use Rattle.fx_values.proofs.BlockLemmas.{same_tests}

both : (a b : Bool) → (a && b) ≡ true → (a ≡ true) × (b ≡ true)
both true b h = (refl, h)
both false b h = absurd (cc)

and_true : (a b : Bool) → a ≡ true → b ≡ true → (a && b) ≡ true
and_true true b g h = h
and_true false b g h = cc

equal : (xs ys : List ℕ) → bytes_eq xs ys ≡ true → xs ≡ ys
equal xs ys h = (bytes_eq-Decides xs ys).0 h

tested : (xs ys : List ℕ) → xs ≡ ys → bytes_eq xs ys ≡ true
tested xs ys e = (bytes_eq-Decides xs ys).1 e

nothing : LiteralParts
nothing = record { form = []; datatype = []; tag = [] }

abbrev parts_of : Term → LiteralParts
parts_of (Iri a) = nothing
parts_of (Literal l) = l

number_parts : ℕ → LiteralParts
number_parts n = record { form = decimal n; datatype = xsd_integer; tag = [] }

is_written : (n : ℕ) → integer (pos n) ≡ Literal (number_parts n)
unfolding integer number_parts
is_written n = refl

pub is_number : (n : ℕ) (l : LiteralParts) → (bytes_eq l.form (decimal n) && (bytes_eq l.datatype xsd_integer && bytes_eq l.tag [])) ≡ same_term (integer (pos n)) (Literal l)
unfolding number_parts
is_number n l =
    same_tests (bytes_eq l.form (decimal n) && (bytes_eq l.datatype xsd_integer && bytes_eq l.tag [])) (same_term (integer (pos n)) (Literal l))
    (λ h.
    let one = both (bytes_eq l.form (decimal n)) (bytes_eq l.datatype xsd_integer && bytes_eq l.tag []) h in
    let two = both (bytes_eq l.datatype xsd_integer) (bytes_eq l.tag []) one.1 in
    let form : l.form ≡ decimal n = equal l.form (decimal n) one.0 in
    let datatype : l.datatype ≡ xsd_integer = equal l.datatype xsd_integer two.0 in
    let tag : l.tag ≡ [] = equal l.tag [] two.1 in
    same_itself (integer (pos n)) (Literal l) (is_written n ∙ (λ i. Literal (record { form = sym form i; datatype = sym datatype i; tag = sym tag i }))))
    (λ h.
    let same : number_parts n ≡ l = ap parts_of (sym (is_written n) ∙ same_from (integer (pos n)) (Literal l) h) in
    and_true (bytes_eq l.form (decimal n)) (bytes_eq l.datatype xsd_integer && bytes_eq l.tag []) (tested l.form (decimal n) (sym (ap (λ (p : LiteralParts). p.form) same)))
    (and_true (bytes_eq l.datatype xsd_integer) (bytes_eq l.tag []) (tested l.datatype xsd_integer (sym (ap (λ (p : LiteralParts). p.datatype) same))) (tested l.tag [] (sym (ap (λ (p : LiteralParts). p.tag) same)))))

pub no_iri : (n : ℕ) (a : List ℕ) → false ≡ same_term (integer (pos n)) (Iri a)
unfolding integer
no_iri n a = refl
