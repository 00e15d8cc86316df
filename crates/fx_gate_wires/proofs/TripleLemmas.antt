-- A list passes the test of its triples exactly where each is one that readers accept.
use Rattle.std.proofs.Common.{◌≡◌, ◌∙◌, ap, sym, refl, ℕ, suc, ◌<◌, Bool, true, false, not, ◌&&◌, List, [], ◌∷◌, Option, Some, None, Ok, All, length, map, arith}
use Rattle.std.specs.Prelude.{◌==◌, bytes_eq, position}
use Rattle.std.specs.List.{AllByRecursion, list_all}
use Rattle.std.specs.Str.{is_utf8}
use Rattle.std.specs.Char.{to_ascii_lowercase}
use Rattle.std.proofs.lemmas.Bool.{eqb-true}
use Rattle.std.proofs.lemmas.List.Elements.{All-from_recursion, recursion_from_All}
use Rattle.std.proofs.lemmas.Slice.Eq.{bytes_eq-Decides}
use Rattle.std.proofs.lemmas.Str.{IsUtf8-from_is_utf8, is_utf8-from_IsUtf8}
use Rattle.fx_terms.specs.Datatypes.{lang_string}
use Rattle.fx_terms.specs.Iris.{IsIri, has_scheme, iri_after, iri_with_scheme, is_forbidden, read_iri}
use Rattle.fx_terms.specs.Literals.{IsLiteral, IsTag, LiteralParts, is_tag}
use Rattle.fx_terms.specs.Terms.{IsTerm}
use Rattle.fx_terms.specs.Triples.{IsTriple}
use Rattle.fx_terms.specs.declared.terms.Term.{Term}
use Rattle.fx_terms.specs.declared.terms.Term.TheVariants.{Iri, Literal}
use Rattle.fx_terms.specs.declared.triples.Triple.{Triple}
use Rattle.fx_gate_wires.specs.Told.{has_fit_tag, is_iri, is_kept_tag, is_literal, is_read, is_term, is_triple}

pub both : (a b : Bool) → (a && b) ≡ true → (a ≡ true) × (b ≡ true)
both true true h = (refl, refl)
both true false h = absurd (cc)
both false b h = absurd (cc)

pub together : (a b : Bool) → a ≡ true → b ≡ true → (a && b) ≡ true
together true true h k = refl
together true false h k = absurd (cc)
together false b h k = absurd (cc)

not_true : (b : Bool) → not b ≡ true → b ≡ false
not_true true h = absurd (cc)
not_true false h = refl

-- ---- IRIs

scheme_same : (text : List ℕ) (b : Bool) → is_read (iri_with_scheme text b) ≡ true → iri_with_scheme text b ≡ Ok text
scheme_same text true h = refl
scheme_same text false h = absurd (cc)

after_same : (text : List ℕ) (o : Option ℕ) → is_read (iri_after text o) ≡ true → iri_after text o ≡ Ok text
after_same text (Some place) h = absurd (cc)
after_same text None h = scheme_same text (has_scheme text) h

iri_sound : (text : List ℕ) → is_iri text ≡ true → IsIri text
iri_sound text h =
    let k = both (is_utf8 text) (is_read (read_iri text)) h in
    record { utf8 = IsUtf8-from_is_utf8 text k.0; iri = after_same text (position is_forbidden text) k.1 }

iri_complete : (text : List ℕ) → IsIri text → is_iri text ≡ true
iri_complete text h = together (is_utf8 text) (is_read (read_iri text)) (is_utf8-from_IsUtf8 text h.utf8) (ap is_read h.iri)

-- ---- literals

long_test : (n : ℕ) → (suc n == 0) ≡ false
long_test n = by (suc n == 0) refl
  where
    by : (b : Bool) → (suc n == 0) ≡ b → b ≡ false
    by true is = let none : suc n ≡ 0 = eqb-true (suc n) 0 is in absurd (omega (arith, none))
    by false is = refl

tag_sound : (tag : List ℕ) → is_kept_tag tag ≡ true → IsTag tag
tag_sound tag h =
    let k = both (is_tag tag) (bytes_eq (map to_ascii_lowercase tag) tag) h in
    record { tag = k.0; lower = (bytes_eq-Decides (map to_ascii_lowercase tag) tag).0 k.1 }

tag_complete : (tag : List ℕ) → IsTag tag → is_kept_tag tag ≡ true
tag_complete tag h = together (is_tag tag) (bytes_eq (map to_ascii_lowercase tag) tag) h.tag ((bytes_eq-Decides (map to_ascii_lowercase tag) tag).1 h.lower)

fit_sound : (datatype tag : List ℕ) → has_fit_tag datatype tag ≡ true → ((length tag == 0) ≡ not (bytes_eq datatype lang_string)) × (0 < length tag → IsTag tag)
fit_sound datatype [] h = (sym h, λ some. absurd (omega (arith, some)))
fit_sound datatype (b ∷ tag) h =
    let k = both (bytes_eq datatype lang_string) (is_kept_tag (b ∷ tag)) h in
    (long_test (length tag) ∙ ap not (sym k.0), λ some. tag_sound (b ∷ tag) k.1)

fit_complete : (datatype tag : List ℕ) → (length tag == 0) ≡ not (bytes_eq datatype lang_string) → (0 < length tag → IsTag tag) → has_fit_tag datatype tag ≡ true
fit_complete datatype [] fits h = sym fits
fit_complete datatype (b ∷ tag) fits h = together (bytes_eq datatype lang_string) (is_kept_tag (b ∷ tag)) (other (bytes_eq datatype lang_string) fits) (tag_complete (b ∷ tag) (h (omega arith)))
  where
    other : (c : Bool) → (length (b ∷ tag) == 0) ≡ not c → c ≡ true
    other true k = refl
    other false k = let test = long_test (length tag) in absurd (cc)

literal_sound : (l : LiteralParts) → is_literal l ≡ true → IsLiteral l
literal_sound l h =
    let k = both (is_utf8 l.form) (is_iri l.datatype && has_fit_tag l.datatype l.tag) h in
    let m = both (is_iri l.datatype) (has_fit_tag l.datatype l.tag) k.1 in
    let fit = fit_sound l.datatype l.tag m.1 in
    record { form = IsUtf8-from_is_utf8 l.form k.0; datatype = iri_sound l.datatype m.0; fits = fit.0; tag = fit.1 }

literal_complete : (l : LiteralParts) → IsLiteral l → is_literal l ≡ true
literal_complete l h =
    together (is_utf8 l.form) (is_iri l.datatype && has_fit_tag l.datatype l.tag) (is_utf8-from_IsUtf8 l.form h.form)
    (together (is_iri l.datatype) (has_fit_tag l.datatype l.tag) (iri_complete l.datatype h.datatype) (fit_complete l.datatype l.tag h.fits h.tag))

-- ---- triples

term_sound : (t : Term) → is_term t ≡ true → IsTerm t
term_sound (Iri text) h = iri_sound text h
term_sound (Literal l) h = literal_sound l h

term_complete : (t : Term) → IsTerm t → is_term t ≡ true
term_complete (Iri text) h = iri_complete text h
term_complete (Literal l) h = literal_complete l h

triple_sound : (t : Triple) → is_triple t ≡ true → IsTriple t
triple_sound t h =
    let k = both (is_iri t.subject) (is_iri t.predicate && is_term t.object) h in
    let m = both (is_iri t.predicate) (is_term t.object) k.1 in
    record { subject = iri_sound t.subject k.0; predicate = iri_sound t.predicate m.0; object = term_sound t.object m.1 }

triple_complete : (t : Triple) → IsTriple t → is_triple t ≡ true
triple_complete t h =
    together (is_iri t.subject) (is_iri t.predicate && is_term t.object) (iri_complete t.subject h.subject)
    (together (is_iri t.predicate) (is_term t.object) (iri_complete t.predicate h.predicate) (term_complete t.object h.object))

each_sound : (ts : List Triple) → list_all is_triple ts ≡ true → AllByRecursion IsTriple ts
each_sound [] h = tt
each_sound (t ∷ ts) h = let k = both (is_triple t) (list_all is_triple ts) h in (triple_sound t k.0, each_sound ts k.1)

pub all_sound : (ts : List Triple) → list_all is_triple ts ≡ true → All IsTriple ts
all_sound ts h = All-from_recursion IsTriple ts (each_sound ts h)

each_complete : (ts : List Triple) → AllByRecursion IsTriple ts → list_all is_triple ts ≡ true
each_complete [] h = refl
each_complete (t ∷ ts) h = together (is_triple t) (list_all is_triple ts) (triple_complete t h.0) (each_complete ts h.1)

pub all_complete : (ts : List Triple) → All IsTriple ts → list_all is_triple ts ≡ true
all_complete ts h = each_complete ts (recursion_from_All IsTriple ts h)
