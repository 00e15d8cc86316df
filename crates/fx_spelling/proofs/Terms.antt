-- Printed terms and triples are spelled by their tokens.
use Rattle.std.proofs.Common.{◌≡◌, ℕ, ◌<◌, Bool, true, false, not, cond, List, [], ◌∷◌, ◌++◌, length, map, Option, Some, None, refl, sym, ap, ◌∙◌, arith, append_assoc, append-nil, inl, inr}
use Rattle.std.specs.Prelude.{◌==◌}
use Rattle.std.specs.List.{flat_map, list_all}
use Rattle.std.specs.Str.{bytes_eq}
use Rattle.std.specs.Char.{to_ascii_lowercase}
use Rattle.std.specs.Cmp.Lexicographic.{same_text}
use Rattle.std.proofs.lemmas.Bool.{eqb-true, eqb-false}
use Rattle.std.proofs.lemmas.List.{nil_from_length}
use Rattle.fx_terms.specs.Datatypes.{xsd_string, lang_string}
use Rattle.fx_terms.specs.Literals.{LiteralParts, IsLiteral}
use Rattle.fx_terms.specs.declared.terms.Term.{Term}
use Rattle.fx_terms.specs.declared.terms.Term.TheVariants.{Iri, Literal}
use Rattle.fx_terms.specs.declared.patterns.Pattern.{Pattern}
use Rattle.fx_terms.specs.declared.patterns.PatternTerm.{PatternTerm}
use Rattle.fx_terms.specs.declared.patterns.PatternTerm.TheVariants.{Variable, Constant}
use Rattle.fx_algebra.specs.Printed.{part_word, pattern_words}
use Rattle.fx_grammar.specs.Rule.{Rule}
use Rattle.fx_grammar.specs.Grammar.{Prefixes, iri_name, datatype, datatype_in, no_call, no_path, literal, text_suffix, variable, graph_term, part_literal, verb, verb_iri, objects, property, more_properties, properties, same_subject, dot_triples, more_triples, triples, option_items}
use Rattle.fx_spelling.specs.Printable.{IsFine, AreFine, word_tokens, term_tokens, suffix_tokens, said, IsPart, IsVerb, IsTriple, AreTriples, is_verb}
use Rattle.fx_grammar.specs.declared.kinds.Kind.TheVariants as k
use Rattle.fx_grammar.specs.declared.kinds.Token.{Token}
use Rattle.fx_grammar.specs.declared.kinds.Token.TheVariants as symbol
use Rattle.fx_grammar.specs.declared.parts.Annotation.TheVariants as annotation
use Rattle.fx_spelling.proofs.Placing.{is_calm, calm_both}
use Rattle.fx_spelling.proofs.Spelling.{mark_said, after_said}

-- ---- literals

same_parts : (l : LiteralParts) (type tag : List ℕ) → l.datatype ≡ type → l.tag ≡ tag → Literal l ≡ Literal (record { form = l.form; datatype = type; tag = tag })
same_parts l type tag d t = λ i. Literal (record { form = l.form; datatype = d i; tag = t i })

no_tag : (l : LiteralParts) → (length l.tag == 0) ≡ true → l.tag ≡ []
no_tag l e = nil_from_length l.tag (eqb-true (length l.tag) 0 e)

not_back : (b : Bool) → true ≡ not b → b ≡ false
not_back true e = absurd (cc)
not_back false e = refl

not_back_too : (b : Bool) → false ≡ not b → b ≡ true
not_back_too true e = refl
not_back_too false e = absurd (cc)

pub literal_said : (kinds : Rule (List ℕ)) → ((iri : List ℕ) → bytes_eq iri lang_string ≡ false → kinds.spells (symbol.Iri iri ∷ []) iri) → (l : LiteralParts) → IsLiteral l → (literal kinds).spells (term_tokens (Literal l)) (Literal l)
unfolding literal text_suffix
literal_said kinds d l h = go (length l.tag == 0) refl (bytes_eq l.datatype xsd_string) refl
  where
    go : (a : Bool) → (length l.tag == 0) ≡ a → (b : Bool) → bytes_eq l.datatype xsd_string ≡ b
        → (literal kinds).spells (symbol.Text l.form ∷ cond a (cond b [] (symbol.Plain k.CaretCaret ∷ symbol.Iri l.datatype ∷ [])) (symbol.Tag l.tag ∷ [])) (Literal l)
    go true e true f = inl ((l.form, None), (symbol.Text l.form ∷ [], [], refl, (symbol.Text l.form, refl, refl, refl), refl), same_parts l xsd_string [] (same_text l.datatype xsd_string (sym f)) (no_tag l e))
    go true e false f =
        let other : bytes_eq l.datatype lang_string ≡ false = not_back _ (sym e ∙ h.fits) in
        inl (
          (l.form, Some (annotation.Datatype l.datatype)),
          (
            symbol.Text l.form ∷ [],
            symbol.Plain k.CaretCaret ∷ symbol.Iri l.datatype ∷ [],
            refl,
            (symbol.Text l.form, refl, refl, refl),
            inr (l.datatype, after_said k.CaretCaret kinds (symbol.Iri l.datatype ∷ []) l.datatype (d l.datatype other), refl),
          ),
          same_parts l l.datatype [] refl (no_tag l e),
        )
    go false e b f =
        let some : 0 < length l.tag = omega (arith, eqb-false (length l.tag) 0 e) in
        let t = h.tag some in
        let other : bytes_eq l.datatype lang_string ≡ true = not_back_too _ (sym e ∙ h.fits) in
        inl (
          (l.form, Some (annotation.Tag l.tag)),
          (
            symbol.Text l.form ∷ [],
            symbol.Tag l.tag ∷ [],
            refl,
            (symbol.Text l.form, refl, refl, refl),
            inl (l.tag, (symbol.Tag l.tag, refl, refl, rw t.tag refl), refl),
          ),
          same_parts l lang_string (map to_ascii_lowercase l.tag) (same_text l.datatype lang_string (sym other)) (sym t.lower),
        )

-- ---- as words

pub verb_part : (p : PatternTerm) → IsVerb p → IsPart p
verb_part (Variable name) h = h
verb_part (Constant (Iri a)) h = h
verb_part (Constant (Literal l)) h = absurd h

pub fine_part : (p : PatternTerm) → IsPart p → IsFine (part_word p)
fine_part (Variable name) h = h
fine_part (Constant t) h = h

pub fine_triple : (p : Pattern) → IsTriple p → AreFine (pattern_words p)
fine_triple p h = (fine_part p.subject h.subject, (fine_part p.predicate (verb_part p.predicate h.predicate), (fine_part p.object h.object, (inl refl, tt))))

-- ---- from words

part_from : (p : PatternTerm) → IsFine (part_word p) → IsPart p
part_from (Variable name) h = h
part_from (Constant t) h = h

verb_from : (p : PatternTerm) → is_verb p ≡ true → IsFine (part_word p) → IsVerb p
verb_from (Variable name) v h = h
verb_from (Constant (Iri a)) v h = h
verb_from (Constant (Literal l)) v h = absurd (cc (v))

pub triple_from : (p : Pattern) → is_verb p.predicate ≡ true → AreFine (pattern_words p) → IsTriple p
triple_from p v f = record { subject = part_from p.subject f.0; predicate = verb_from p.predicate v f.1.0; object = part_from p.object f.1.1.0 }

pub verb_good : (p : PatternTerm) → IsVerb p → is_verb p ≡ true
verb_good (Variable name) h = refl
verb_good (Constant (Iri a)) h = refl
verb_good (Constant (Literal l)) h = absurd h

calm_suffix : (l : LiteralParts) → list_all is_calm (suffix_tokens l) ≡ true
calm_suffix l = go (length l.tag == 0) (bytes_eq l.datatype xsd_string)
  where
    go : (a b : Bool) → list_all is_calm (cond a (cond b [] (symbol.Plain k.CaretCaret ∷ symbol.Iri l.datatype ∷ [])) (symbol.Tag l.tag ∷ [])) ≡ true
    go true true = refl
    go true false = refl
    go false b = refl

pub calm_term : (t : Term) → list_all is_calm (term_tokens t) ≡ true
calm_term (Iri a) = refl
calm_term (Literal l) = calm_suffix l

pub calm_part : (p : PatternTerm) → list_all is_calm (word_tokens (part_word p)) ≡ true
calm_part (Variable name) = refl
calm_part (Constant t) = calm_term t

pub calm_triple : (p : Pattern) → list_all is_calm (said (pattern_words p)) ≡ true
calm_triple p =
    calm_both (word_tokens (part_word p.subject)) (word_tokens (part_word p.predicate) ++ (word_tokens (part_word p.object) ++ symbol.Plain k.Dot ∷ [])) (calm_part p.subject)
    (calm_both (word_tokens (part_word p.predicate)) (word_tokens (part_word p.object) ++ symbol.Plain k.Dot ∷ []) (calm_part p.predicate)
    (calm_both (word_tokens (part_word p.object)) (symbol.Plain k.Dot ∷ []) (calm_part p.object) refl))

module _ (ps : Prefixes) where
  pub iri_said : (iri : List ℕ) → (iri_name ps).spells (symbol.Iri iri ∷ []) iri
  unfolding iri_name
  iri_said iri = (symbol.Iri iri, refl, refl, refl)

  datatype_said : (iri : List ℕ) → bytes_eq iri lang_string ≡ false → (datatype ps).spells (symbol.Iri iri ∷ []) iri
  unfolding datatype
  datatype_said iri h = (symbol.Iri iri, refl, refl, rw h refl)

  pub datatype_in_said : (b : Bool) (iri : List ℕ) → bytes_eq iri lang_string ≡ false → (datatype_in b ps).spells (symbol.Iri iri ∷ []) iri
  unfolding no_call
  datatype_in_said false iri h = datatype_said iri h
  datatype_in_said true iri h = ((iri, None), (symbol.Iri iri ∷ [], [], refl, datatype_said iri h, refl), refl)

  -- ---- parts of a triple

  abbrev pub part_tokens : PatternTerm → List Token
  part_tokens p = word_tokens (part_word p)

  pub part_said : (p : PatternTerm) → IsPart p → (graph_term ps).spells (part_tokens p) p
  unfolding graph_term variable part_literal
  part_said (Variable name) h = inl (name, (symbol.Variable name, refl, refl, refl), refl)
  part_said (Constant (Iri a)) h = inr (inl (a, iri_said a, refl))
  part_said (Constant (Literal l)) h = inr (inr (inr (inr (Literal l, literal_said (datatype_in false ps) (datatype_in_said false) l h, refl))))

  verb_said : (p : PatternTerm) → IsVerb p → (verb ps).spells (part_tokens p) p
  unfolding verb variable verb_iri no_path
  verb_said (Variable name) h = inl (name, (symbol.Variable name, refl, refl, refl), refl)
  verb_said (Constant (Iri a)) h = inr (inl (a, ((a, None), (symbol.Iri a ∷ [], [], refl, inr (iri_said a), refl), refl), refl))
  verb_said (Constant (Literal l)) h = absurd h

  -- the tokens of a triple, without its dot
  abbrev pub triple_tokens : Pattern → List Token
  triple_tokens p = part_tokens p.subject ++ (part_tokens p.predicate ++ part_tokens p.object)

  objects_said : (o : PatternTerm) → IsPart o → (objects ps).spells (part_tokens o) (o ∷ [])
  unfolding objects
  objects_said o h = ((o, []), (part_tokens o, [], sym (append-nil (part_tokens o)), part_said o h, refl), refl)

  properties_said : (v o : PatternTerm) → IsVerb v → IsPart o → (properties ps).spells (part_tokens v ++ part_tokens o) ((v, o ∷ []) ∷ [])
  unfolding properties property more_properties
  properties_said v o h g = (((v, o ∷ []), []), (part_tokens v ++ part_tokens o, [], sym (append-nil (part_tokens v ++ part_tokens o)), (part_tokens v, part_tokens o, refl, verb_said v h, objects_said o g), refl), refl)

  pub triple_said : (p : Pattern) → IsTriple p → (same_subject ps).spells (triple_tokens p) (p ∷ [])
  unfolding same_subject
  triple_said p h = ((p.subject, (p.predicate, p.object ∷ []) ∷ []), (part_tokens p.subject, part_tokens p.predicate ++ part_tokens p.object, refl, part_said p.subject h.subject, properties_said p.predicate p.object h.predicate h.object), refl)

  -- ---- triples, each with its dot

  -- what follows the first triple of a run, from its dot
  abbrev pub behind_triple : List Pattern → List Token
  behind_triple [] = symbol.Plain k.Dot ∷ []
  behind_triple (p ∷ more) = symbol.Plain k.Dot ∷ (triple_tokens p ++ behind_triple more)

  abbrev rest_of : List Pattern → List (Option (List Pattern))
  rest_of [] = None ∷ []
  rest_of (p ∷ more) = Some (p ∷ []) ∷ rest_of more

  rest_items : (more : List Pattern) → flat_map option_items (rest_of more) ≡ more
  rest_items [] = refl
  rest_items (p ∷ more) = ap (λ (v : List Pattern). p ∷ v) (rest_items more)

  rest_said : (more : List Pattern) → AreTriples more → (more_triples ps true).spells (behind_triple more) (rest_of more)
  unfolding more_triples dot_triples
  rest_said [] h = (symbol.Plain k.Dot ∷ [], [], refl, ((tt, None), (symbol.Plain k.Dot ∷ [], [], refl, mark_said k.Dot, refl), refl), refl)
  rest_said (p ∷ more) h = (symbol.Plain k.Dot ∷ triple_tokens p, behind_triple more, refl, ((tt, Some (p ∷ [])), (symbol.Plain k.Dot ∷ [], triple_tokens p, refl, mark_said k.Dot, triple_said p h.0), refl), rest_said more h.1)

  pub triples_said : (p : Pattern) (more : List Pattern) → IsTriple p → AreTriples more → (triples ps).spells (triple_tokens p ++ behind_triple more) (p ∷ more)
  unfolding triples
  triples_said p more h g = ((p ∷ [], rest_of more), (triple_tokens p, behind_triple more, refl, triple_said p h, rest_said more g), ap (λ (v : List Pattern). p ∷ v) (sym (rest_items more)))

-- the tokens of a run are what its words say
pub run_is : (ps : Prefixes) (p : Pattern) (more : List Pattern) → flat_map (λ (q : Pattern). said (pattern_words q)) (p ∷ more) ≡ triple_tokens ps p ++ behind_triple ps more
run_is ps p [] = simp append_assoc
run_is ps p (q ∷ more) = ap (λ (v : List Token). said (pattern_words p) ++ v) (run_is ps q more) ∙ simp append_assoc
