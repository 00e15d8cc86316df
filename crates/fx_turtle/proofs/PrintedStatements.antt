-- The symbols of what is written of a triple spell a statement that says it, and those of lines a document.
use Rattle.std.proofs.Common.{◌≡◌, ℕ, Bool, true, false, cond, not, List, [], ◌∷◌, length, map, Some, None, Ok, Err, refl, sym, ap, ◌∙◌, arith, append-nil, inl, inr, All}
use Rattle.std.specs.Prelude.{◌==◌, codes}
use Rattle.std.specs.List.{flat_map}
use Rattle.std.specs.Str.{bytes_eq}
use Rattle.std.specs.Cmp.Lexicographic.{same_text}
use Rattle.std.proofs.lemmas.Bool.{eqb-false, eqb-true}
use Rattle.std.proofs.lemmas.List.Elements.{All-head, All-tail}
use Rattle.fx_terms.specs.Datatypes.{xsd_string, lang_string}
use Rattle.fx_terms.specs.Literals.{LiteralParts, IsLiteral, is_tag}
use Rattle.fx_terms.specs.Terms.{IsTerm}
use Rattle.fx_terms.specs.Triples.{IsTriple}
use Rattle.fx_terms.specs.declared.terms.Term.{Term}
use Rattle.fx_terms.specs.declared.terms.Term.TheVariants.{Iri, Literal}
use Rattle.fx_terms.specs.declared.triples.Triple.{Triple}
use Rattle.fx_grammar.specs.Grammar.{Prefixes, annotated}
use Rattle.fx_grammar.specs.declared.parts.Annotation.TheVariants as annotation
use Rattle.fx_grammar.specs.declared.refusals.SyntaxKind.TheVariants.{BadLiteral}
use Rattle.fx_turtle.specs.Grammar.{as_turtle, is_any_tag, iri_name, datatype, text_suffix, literal, object, subject, verb, property, more_properties, properties, triples, Statement, holds, triples_in, statement, statements, document}
use Rattle.fx_turtle.specs.Symbols as symbol
use Rattle.fx_turtle.specs.Symbols.{tag_kind}
use Rattle.fx_turtle.specs.declared.kinds.Kind.TheVariants as k
use Rattle.fx_turtle.specs.declared.refusals.TurtleKind.TheVariants.{Unexpected}
use Rattle.fx_turtle.proofs.PrintedLines.{suffix_symbols, term_symbols, triple_symbols}

-- ---- literals

-- behind a text each tag is one, also where its name is that of a declaration
any_tag : (tag : List ℕ) → is_any_tag (tag_kind tag) ≡ true
any_tag tag = go (bytes_eq tag (codes "prefix")) (bytes_eq tag (codes "base"))
  where
    go : (a b : Bool) → is_any_tag (cond a k.AtPrefix (cond b k.AtBase k.Tag)) ≡ true
    go true b = refl
    go false true = refl
    go false false = refl

not_of : (a b : Bool) → a ≡ not b → b ≡ not a
not_of true true e = absurd (cc (e))
not_of true false e = refl
not_of false true e = refl
not_of false false e = absurd (cc (e))

no_bytes : (text : List ℕ) → (length text == 0) ≡ true → text ≡ []
no_bytes [] h = refl
no_bytes (c ∷ text) h = absurd (omega (arith, eqb-true (length (c ∷ text)) 0 h))

abbrev parts : List ℕ → List ℕ → List ℕ → LiteralParts
parts form datatype tag = record { form = form; datatype = datatype; tag = tag }

-- a literal is what its parts make of it
is_tagged : (l : LiteralParts) → IsLiteral l → (length l.tag == 0) ≡ false → Literal l ≡ annotated l.form (Some (annotation.Tag l.tag))
is_tagged l h e =
    let lang : l.datatype ≡ lang_string = same_text l.datatype lang_string (sym (not_of (length l.tag == 0) (bytes_eq l.datatype lang_string) h.fits ∙ ap not e)) in
    let lower = (h.tag (omega (arith, eqb-false (length l.tag) 0 e))).lower in
    ap (λ (d : List ℕ). Literal (parts l.form d l.tag)) lang ∙ ap (λ (t : List ℕ). Literal (parts l.form lang_string t)) (sym lower)

is_plain : (l : LiteralParts) → (length l.tag == 0) ≡ true → bytes_eq l.datatype xsd_string ≡ true → Literal l ≡ annotated l.form None
is_plain l e f =
    ap (λ (d : List ℕ). Literal (parts l.form d l.tag)) (same_text l.datatype xsd_string (sym f)) ∙ ap (λ (t : List ℕ). Literal (parts l.form xsd_string t)) (no_bytes l.tag e)

is_typed : (l : LiteralParts) → (length l.tag == 0) ≡ true → Literal l ≡ annotated l.form (Some (annotation.Datatype l.datatype))
is_typed l e = ap (λ (t : List ℕ). Literal (parts l.form l.datatype t)) (no_bytes l.tag e)

module _ (ps : Prefixes) where
  iri_spelled : (iri : List ℕ) → (iri_name ps).spells (symbol.iri iri ∷ []) iri
  unfolding iri_name
  iri_spelled iri = (symbol.iri iri, refl, refl, refl)

  datatype_spelled : (iri : List ℕ) → bytes_eq iri lang_string ≡ false → (datatype ps).spells (symbol.iri iri ∷ []) iri
  unfolding datatype
  datatype_spelled iri e = (symbol.iri iri, refl, refl, ap (λ (b : Bool). as_turtle (cond b (Err BadLiteral) (Ok iri))) e)

  tag_spelled : (tag : List ℕ) → is_tag tag ≡ true → (text_suffix ps).spells (symbol.tag tag ∷ []) (annotation.Tag tag)
  unfolding text_suffix
  tag_spelled tag h = inl (tag, (symbol.tag tag, refl, any_tag tag, ap (λ (b : Bool). cond b (Ok tag) (Err Unexpected)) h), refl)

  carets_spelled : (iri : List ℕ) → bytes_eq iri lang_string ≡ false → (text_suffix ps).spells (symbol.plain k.CaretCaret ∷ symbol.iri iri ∷ []) (annotation.Datatype iri)
  unfolding text_suffix
  carets_spelled iri e = inr (iri, ((tt, iri), (symbol.plain k.CaretCaret ∷ [], symbol.iri iri ∷ [], refl, (symbol.plain k.CaretCaret, refl, refl, refl), datatype_spelled iri e), refl), refl)

  literal_spelled : (l : LiteralParts) → IsLiteral l → (literal ps).spells (symbol.text l.form ∷ suffix_symbols l) (Literal l)
  unfolding literal
  literal_spelled l h = go (length l.tag == 0) refl (bytes_eq l.datatype xsd_string) refl
    where
      go : (a : Bool) → (length l.tag == 0) ≡ a → (b : Bool) → bytes_eq l.datatype xsd_string ≡ b
          → (literal ps).spells (symbol.text l.form ∷ cond a (cond b [] (symbol.plain k.CaretCaret ∷ symbol.iri l.datatype ∷ [])) (symbol.tag l.tag ∷ [])) (Literal l)
      go true e true f = inl ((l.form, None), (symbol.text l.form ∷ [], [], refl, (symbol.text l.form, refl, refl, refl), refl), is_plain l e f)
      go true e false f =
          let other : bytes_eq l.datatype lang_string ≡ false = not_of (length l.tag == 0) (bytes_eq l.datatype lang_string) h.fits ∙ ap not e in
          inl ((l.form, Some (annotation.Datatype l.datatype)), (symbol.text l.form ∷ [], _, refl, (symbol.text l.form, refl, refl, refl), carets_spelled l.datatype other), is_typed l e)
      go false e b f =
          let tag = (h.tag (omega (arith, eqb-false (length l.tag) 0 e))).tag in
          inl ((l.form, Some (annotation.Tag l.tag)), (symbol.text l.form ∷ [], _, refl, (symbol.text l.form, refl, refl, refl), tag_spelled l.tag tag), is_tagged l h e)

  object_spelled : (t : Term) → IsTerm t → (object ps).spells (term_symbols t) t
  unfolding object
  object_spelled (Iri a) h = inl (a, iri_spelled a, refl)
  object_spelled (Literal l) h = inr (inr (literal_spelled l h))

  -- ---- triples

  verb_spelled : (iri : List ℕ) → (verb ps).spells (symbol.iri iri ∷ []) iri
  unfolding verb
  verb_spelled iri = inr (iri_spelled iri)

  property_spelled : (predicate : List ℕ) (o : Term) → IsTerm o → (property ps).spells (symbol.iri predicate ∷ term_symbols o) (predicate, o ∷ [])
  unfolding property
  property_spelled predicate o h =
      (symbol.iri predicate ∷ [], term_symbols o, refl, verb_spelled predicate, ((o, []), (term_symbols o, [], sym (append-nil (term_symbols o)), object_spelled o h, refl), refl))

  properties_spelled : (predicate : List ℕ) (o : Term) → IsTerm o → (properties ps).spells (symbol.iri predicate ∷ term_symbols o) ((predicate, o ∷ []) ∷ [])
  unfolding properties more_properties
  properties_spelled predicate o h =
      let all = symbol.iri predicate ∷ term_symbols o in
      (((predicate, o ∷ []), []), (all, [], sym (append-nil all), property_spelled predicate o h, refl), refl)

  triples_spelled : (t : Triple) → IsTriple t → (triples ps).spells (symbol.iri t.subject ∷ symbol.iri t.predicate ∷ term_symbols t.object) (t ∷ [])
  unfolding triples subject
  triples_spelled t h =
      ((t.subject, (t.predicate, t.object ∷ []) ∷ []), (symbol.iri t.subject ∷ [], symbol.iri t.predicate ∷ term_symbols t.object, refl, inl (iri_spelled t.subject), properties_spelled t.predicate t.object h.object), refl)

  statement_spelled : (t : Triple) → IsTriple t → (statement ps).spells (triple_symbols t) (holds (t ∷ []))
  unfolding statement
  statement_spelled t h =
      let before = symbol.iri t.subject ∷ symbol.iri t.predicate ∷ term_symbols t.object in
      inr (inr (inr (t ∷ [], ((t ∷ [], tt), (before, symbol.plain k.Dot ∷ [], refl, triples_spelled t h, (symbol.plain k.Dot, refl, refl, refl)), refl), refl)))

-- ---- documents

abbrev said : List Triple → List Statement
said ts = map (λ t. holds (t ∷ [])) ts

statements_spelled : (ts : List Triple) → All IsTriple ts → (statements []).spells (flat_map triple_symbols ts) (said ts)
unfolding statements
statements_spelled [] h = refl
statements_spelled (t ∷ ts) h = (triple_symbols t, flat_map triple_symbols ts, refl, statement_spelled [] t (All-head IsTriple t ts h), statements_spelled ts (All-tail IsTriple t ts h))

all_said : (ts : List Triple) → ts ≡ flat_map triples_in (said ts)
all_said [] = refl
all_said (t ∷ ts) = ap (λ (v : List Triple). t ∷ v) (all_said ts)

pub document_spelled : (ts : List Triple) → All IsTriple ts → document.spells (flat_map triple_symbols ts) ts
unfolding document
document_spelled ts h = (said ts, statements_spelled ts h, all_said ts)
