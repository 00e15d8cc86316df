-- Terms by their members.
use Rattle.std.proofs.Common.{◌≡◌, ◌∙◌, ap, sym, refl, ℕ, Bool, true, false, if◌then◌else◌, List, ◌⊎◌, inl, inr, Option, Some, None, Ok, Err, option_map, option_and_then, is_some}
use Rattle.std.specs.Prelude.{bytes_eq, codes}
use Rattle.std.specs.Option.{ok_or}
use Rattle.std.specs.Result.{result_ok}
use Rattle.std.specs.Cmp.Lexicographic.{bytes_decides}
use Rattle.serde_json.specs.Data.{Data, string}
use Rattle.serde_json.specs.Find.{as_str, get}
use Rattle.fx_terms.specs.Iris.{read_iri}
use Rattle.fx_terms.specs.Datatypes.{lang_string}
use Rattle.fx_terms.specs.Literals.{LiteralParts, plain, tagged, typed}
use Rattle.fx_terms.specs.declared.terms.Term.{Term}
use Rattle.fx_terms.specs.declared.terms.Term.TheVariants.{Iri, Literal}
use Rattle.fx_results.specs.Reading.{and_then, iri_in, iri_of, is_text, known_term, literal_in, literal_of, tagged_of, term_in, term_of_type, text_at, typed_in}
use Rattle.fx_results.specs.declared.faults.ResultsError.TheVariants.{BadTerm, Blank}
use Rattle.fx_laws_results.specs.Told.{Has, HasNo, IsLiteralType, IsTermOf, plain_literal, tagged_and_typed, tagged_literal, typed_literal, uri}
use Rattle.fx_laws_results.proofs.PartLemmas.{if_some, map_some, or_ok, result_some, string_of, text_there, then_ok, then_some}

abbrev type_name : List ℕ
type_name = codes "type"

abbrev value_name : List ℕ
value_name = codes "value"

abbrev datatype_name : List ℕ
datatype_name = codes "datatype"

abbrev tag_name : List ℕ
tag_name = codes "xml:lang"

-- ---- from what was read

is_the_text : (text : List ℕ) (o : Option (List ℕ)) → is_text text o ≡ true → o ≡ Some text
is_the_text text None e = absurd (cc)
is_the_text text (Some other) e = ap Some ((bytes_decides other text).0 e)

-- the IRI of a value
record HasIri (v : Data) (iri : List ℕ) : Type 0 where
  text : List ℕ
  is : v ≡ string text
  read : read_iri text ≡ Ok iri

iri_there : (v : Data) (iri : List ℕ) → iri_of v ≡ Some iri → HasIri v iri
iri_there v iri e =
    let t = then_some (as_str v) (λ text. result_ok (read_iri text)) iri e in
    record { text = t.0; is = string_of v t.0 t.1; read = result_some (read_iri t.0) iri t.2 }

record HasTag (v : Data) (form : List ℕ) (l : LiteralParts) : Type 0 where
  text : List ℕ
  is : v ≡ string text
  made : tagged form text ≡ Ok l

tag_there : (v : Data) (form : List ℕ) (l : LiteralParts) → tagged_of form v ≡ Some l → HasTag v form l
tag_there v form l e =
    let t = then_some (as_str v) (λ text. result_ok (tagged form text)) l e in
    record { text = t.0; is = string_of v t.0 t.1; made = result_some (tagged form t.0) l t.2 }

-- the type of a literal: where it is typed-literal there is a datatype
abbrev HasType : Data → List ℕ → Type 0
HasType d kind = (kind ≡ codes "literal") ⊎ ((kind ≡ codes "typed-literal") × (is_some (get datatype_name d) ≡ true))

kind_is : (d : Data) (kind : List ℕ) → HasType d kind → IsLiteralType kind
kind_is d kind (inl e) = inl e
kind_is d kind (inr t) = inr t.0

without_datatype : (d : Data) (kind : List ℕ) → HasType d kind → HasNo d datatype_name → kind ≡ codes "literal"
without_datatype d kind (inl e) n = e
without_datatype d kind (inr t) n = let no : is_some (get datatype_name d) ≡ false = ap is_some n in let h = t.1 in absurd (cc)

literal_there : (d : Data) (kind : List ℕ) (l : LiteralParts) (t : Term) → Has d type_name (string kind) → HasType d kind → literal_in d ≡ Some l → t ≡ Literal l → IsTermOf d t
literal_there d kind l t has k e is =
    let f = then_some (text_at value_name d) (λ form. literal_of form (get datatype_name d) (get tag_name d)) l e in
    by f.0 (text_there value_name d f.0 f.1) (get datatype_name d) refl (get tag_name d) refl f.2
  where
    here : HasNo d datatype_name → Has d type_name (string (codes "literal"))
    here n = has ∙ ap (λ (v : List ℕ). Some (string v)) (without_datatype d kind k n)

    with_both : (form : List ℕ) → Has d value_name (string form) → (v : Data) → Has d datatype_name v → (w : Data) → Has d tag_name w → (is_text lang_string (as_str v) ≡ true) × (tagged_of form w ≡ Some l) → IsTermOf d t
    with_both form value v a w b h =
        let g = tag_there w form l h.1 in
        tagged_and_typed kind form g.text l (kind_is d kind k) has value (a ∙ ap Some (string_of v lang_string (is_the_text lang_string (as_str v) h.0))) (b ∙ ap Some g.is) g.made is

    by : (form : List ℕ) → Has d value_name (string form) → (o : Option Data) → get datatype_name d ≡ o → (p : Option Data) → get tag_name d ≡ p → literal_of form o p ≡ Some l → IsTermOf d t
    by form value None a None b h = plain_literal form (here a) value a b (is ∙ ap Literal (sym (inside h)))
      where
        inside : Some (plain form) ≡ Some l → plain form ≡ l
        inside m = cc
    by form value None a (Some w) b h = let g = tag_there w form l h in tagged_literal form g.text l (here a) value a (b ∙ ap Some g.is) g.made is
    by form value (Some v) a None b h =
        let i = then_some (iri_of v) (λ iri. result_ok (typed form iri)) l h in
        let g = iri_there v i.0 i.1 in
        typed_literal kind form g.text i.0 l (kind_is d kind k) has value (a ∙ ap Some g.is) b g.read (result_some (typed form i.0) l i.2) is
    by form value (Some v) a (Some w) b h = with_both form value v a w b (if_some (is_text lang_string (as_str v)) (tagged_of form w) l h)

known_there : (d : Data) (kind : List ℕ) (t : Term) → Has d type_name (string kind) → known_term kind d ≡ Some t → IsTermOf d t
known_there d kind t has e = by (bytes_eq kind (codes "uri")) refl (bytes_eq kind (codes "literal")) refl (bytes_eq kind (codes "typed-literal")) refl e
  where
    by : (a : Bool) → bytes_eq kind (codes "uri") ≡ a → (b : Bool) → bytes_eq kind (codes "literal") ≡ b → (c : Bool) → bytes_eq kind (codes "typed-literal") ≡ c
        → (if a then option_map Iri (iri_in d) else if b then option_map Literal (literal_in d) else if c then option_map Literal (typed_in d) else None) ≡ Some t → IsTermOf d t
    by true h b i c j k =
        let m = map_some (iri_in d) Iri t k in
        let v = then_some (get value_name d) iri_of m.0 m.1 in
        let g = iri_there v.0 m.0 v.2 in
        uri g.text m.0 (has ∙ ap (λ (x : List ℕ). Some (string x)) ((bytes_decides kind (codes "uri")).0 h)) (v.1 ∙ ap Some g.is) g.read (sym m.2)
    by false h true i c j k = let m = map_some (literal_in d) Literal t k in literal_there d kind m.0 t has (inl ((bytes_decides kind (codes "literal")).0 i)) m.1 (sym m.2)
    by false h false i true j k =
        let m = map_some (typed_in d) Literal t k in
        let p = if_some (is_some (get datatype_name d)) (literal_in d) m.0 m.1 in
        literal_there d kind m.0 t has (inr ((bytes_decides kind (codes "typed-literal")).0 j, p.0)) p.1 (sym m.2)
    by false h false i false j k = absurd (cc)

pub term_there : (d : Data) (t : Term) → term_in d ≡ Ok t → IsTermOf d t
term_there d t e =
    let k = then_ok (ok_or (text_at type_name d) BadTerm) (λ kind. term_of_type kind d) t e in
    known_there d k.0 t (text_there type_name d k.0 (or_ok (text_at type_name d) BadTerm k.0 k.1)) (by k.0 (bytes_eq k.0 (codes "bnode")) k.2)
  where
    by : (kind : List ℕ) (b : Bool) → (if b then Err Blank else ok_or (known_term kind d) BadTerm) ≡ Ok t → known_term kind d ≡ Some t
    by kind true h = absurd (cc)
    by kind false h = or_ok (known_term kind d) BadTerm t h

-- ---- to what is read

of_kind : (d : Data) (kind : List ℕ) (t : Term) → Has d type_name (string kind) → bytes_eq kind (codes "bnode") ≡ false → known_term kind d ≡ Some t → term_in d ≡ Ok t
of_kind d kind t has e k =
    ap (λ (o : Option Data). and_then (ok_or (option_and_then as_str o) BadTerm) (λ x. term_of_type x d)) has
    ∙ (ap (λ (b : Bool). if b then Err Blank else ok_or (known_term kind d) BadTerm) e ∙ ap (λ (o : Option Term). ok_or o BadTerm) k)

literal_is : (d : Data) (form : List ℕ) (o p : Option Data) (l : LiteralParts) → Has d value_name (string form) → get datatype_name d ≡ o → get tag_name d ≡ p → literal_of form o p ≡ Some l → literal_in d ≡ Some l
literal_is d form o p l value a b e =
    ap (λ (x : Option Data). option_and_then (λ f. literal_of f (get datatype_name d) (get tag_name d)) (option_and_then as_str x)) value
    ∙ (ap (λ (x : Option Data). literal_of form x (get tag_name d)) a ∙ (ap (λ (x : Option Data). literal_of form o x) b ∙ e))

of_literal : (d : Data) (l : LiteralParts) (t : Term) → Has d type_name (string (codes "literal")) → literal_in d ≡ Some l → t ≡ Literal l → term_in d ≡ Ok t
of_literal d l t has e is = of_kind d (codes "literal") t has refl (ap (option_map Literal) e ∙ ap Some (sym is))

of_typed : (d : Data) (v : Data) (l : LiteralParts) (t : Term) → Has d type_name (string (codes "typed-literal")) → Has d datatype_name v → literal_in d ≡ Some l → t ≡ Literal l → term_in d ≡ Ok t
of_typed d v l t has dt e is =
    of_kind d (codes "typed-literal") t has refl
    (ap (λ (o : Option Data). option_map Literal (if is_some o then literal_in d else None)) dt ∙ (ap (option_map Literal) e ∙ ap Some (sym is)))

of_either : (d : Data) (kind : List ℕ) (v : Data) (l : LiteralParts) (t : Term) → IsLiteralType kind → Has d type_name (string kind) → Has d datatype_name v → literal_in d ≡ Some l → t ≡ Literal l → term_in d ≡ Ok t
of_either d kind v l t (inl k) has dt e is = of_literal d l t (has ∙ ap (λ (x : List ℕ). Some (string x)) k) e is
of_either d kind v l t (inr k) has dt e is = of_typed d v l t (has ∙ ap (λ (x : List ℕ). Some (string x)) k) dt e is

pub term_from : (d : Data) (t : Term) → IsTermOf d t → term_in d ≡ Ok t
term_from d t (uri text iri has value r is) =
    of_kind d (codes "uri") t has refl
    (ap (λ (o : Option Data). option_map Iri (option_and_then iri_of o)) value ∙ (ap (λ (x : Option (List ℕ)). option_map Iri x) (ap result_ok r) ∙ ap Some (sym is)))
term_from d t (plain_literal form has value a b is) = of_literal d (plain form) t has (literal_is d form None None (plain form) value a b refl) is
term_from d t (tagged_literal form tag l has value a b m is) = of_literal d l t has (literal_is d form None (Some (string tag)) l value a b (ap result_ok m)) is
term_from d t (typed_literal kind form text iri l k has value a b r m is) =
    of_either d kind (string text) l t k has a
    (literal_is d form (Some (string text)) None l value a b (ap (λ (x : Option (List ℕ)). option_and_then (λ i. result_ok (typed form i)) x) (ap result_ok r) ∙ ap result_ok m)) is
term_from d t (tagged_and_typed kind form tag l k has value a b m is) =
    of_either d kind (string lang_string) l t k has a (literal_is d form (Some (string lang_string)) (Some (string tag)) l value a b (ap result_ok m)) is
