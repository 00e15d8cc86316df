-- A document is read statement by statement, by prefixes of which it counts alone what each is declared for.
use Rattle.std.proofs.Common.{◌≡◌, ◌∙◌, ℕ, zero, suc, ◌<◌, Bool, true, false, cond, ◌||◌, Some, List, [], ◌∷◌, ◌++◌, length, Ok, Err, refl, sym, ap, append-nil, if◌then◌else◌, arith}
use Rattle.std.specs.List.{flat_map}
use Rattle.std.specs.Str.{bytes_eq}
use Rattle.std.proofs.Math.Path.{fun_ext}
use Rattle.fx_terms.specs.declared.triples.Triple.{Triple}
use Rattle.fx_grammar.specs.Grammar.{Prefixes, declared, expanded, not_lang_string}
use Rattle.fx_rules.specs.Rule as rules
use Rattle.fx_rules.proofs.RuleLaws as laws
use Rattle.fx_rules.specs.Rule.{and_then, refuse, sees, to_end, read_from}
use Rattle.fx_turtle.specs.Gives.{added}
use Rattle.fx_turtle.specs.Grammar.{is_iri_name, begins_blank_node, begins_base, as_turtle, named_by, iri_name, datatype, text_suffix, literal, left_out, object, subject, verb, property, more_properties, properties, triples, Statement, declares, holds, declare, triples_in, declaration, statement, statements, document}
use Rattle.fx_turtle.specs.Rule.{alphabet, Outcome, Refusal, Rule, one, token, shape_of, read_whole}
use Rattle.fx_turtle.specs.Symbols as symbol
use Rattle.fx_turtle.specs.Windows.{rest_of_document}
use Rattle.fx_turtle.specs.Symbols.{Symbol, is, kind_of}
use Rattle.fx_turtle.specs.declared.kinds.Kind.TheVariants as k
use Rattle.fx_turtle.specs.declared.refusals.TurtleKind.TheVariants.{Unexpected, Unsupported}
use Rattle.fx_turtle.proofs.Choices.{sees_alone, subject_name, name_lacks}
use Rattle.fx_turtle.proofs.GrammarLaws.{kept_statement}
use Rattle.fx_turtle.proofs.Keeping.{declared_last}
use Rattle.fx_turtle.proofs.Loops.{from_turn, from_fails, from_ends, from_smaller}

-- ---- two lists of declarations that say the same

abbrev pub AreSame : Prefixes → Prefixes → Type 0
AreSame ps qs = (q : List ℕ) → declared ps q ≡ declared qs q

same_declare : (ps qs : Prefixes) → AreSame ps qs → (s : Statement) → AreSame (declare ps s) (declare qs s)
same_declare ps qs h (declares prefix iri) =
    λ q. declared_last ps prefix iri q ∙ ap (λ o. if bytes_eq prefix q then Some iri else o) (h q) ∙ sym (declared_last qs prefix iri q)
same_declare ps qs h (holds said) = h

module _ (ps qs : Prefixes) (h : AreSame ps qs) where
  same_named : (s : Symbol) → named_by ps s ≡ named_by qs s
  same_named (symbol.prefix_name prefix local) = ap (λ o. expanded o local) (h prefix)
  same_named (symbol.iri iri) = refl
  same_named (symbol.plain kind) = refl
  same_named (symbol.text form) = refl
  same_named (symbol.tag tag) = refl
  same_named (symbol.number parts) = refl
  same_named (symbol.truth parts) = refl

  same_iri_name : iri_name ps ≡ iri_name qs
  unfolding iri_name
  same_iri_name = ap (λ value. one is_iri_name value) (fun_ext (λ s. ap as_turtle (same_named s)))

  same_datatype : datatype ps ≡ datatype qs
  unfolding datatype
  same_datatype = ap (λ value. one is_iri_name value) (fun_ext (λ s. ap (λ o. as_turtle (not_lang_string o)) (same_named s)))

  same_suffix : text_suffix ps ≡ text_suffix qs
  unfolding text_suffix
  same_suffix = rw same_datatype refl

  same_literal : literal ps ≡ literal qs
  unfolding literal
  same_literal = rw same_suffix refl

  same_object : object ps ≡ object qs
  unfolding object
  same_object = rw (same_iri_name, same_literal) refl

  same_subject : subject ps ≡ subject qs
  unfolding subject
  same_subject = rw same_iri_name refl

  same_verb : verb ps ≡ verb qs
  unfolding verb
  same_verb = rw same_iri_name refl

  same_property : property ps ≡ property qs
  unfolding property
  same_property = rw (same_verb, same_object) refl

  same_more : more_properties ps ≡ more_properties qs
  unfolding more_properties
  same_more = rw same_property refl

  same_properties : properties ps ≡ properties qs
  unfolding properties
  same_properties = rw (same_property, same_more) refl

  same_triples : triples ps ≡ triples qs
  unfolding triples
  same_triples = rw (same_subject, same_properties) refl

  same_statement : statement ps ≡ statement qs
  unfolding statement
  same_statement = rw same_triples refl

abbrev from : ℕ → Prefixes → List Symbol → Outcome (List Statement)
from n ps ts = read_from alphabet (statement []).begins statement declare n ps ts

same_behind : (n : ℕ) (ps qs : Prefixes) (o : Outcome Statement) → ((s : Statement) (mid : List Symbol) → from n (declare ps s) mid ≡ from n (declare qs s) mid)
    → and_then o (λ x mid. and_then (from n (declare ps x) mid) (λ xs rest. Ok (x ∷ xs, rest))) ≡ and_then o (λ x mid. and_then (from n (declare qs x) mid) (λ xs rest. Ok (x ∷ xs, rest)))
same_behind n ps qs (Ok p) again = ap (λ (o : Outcome (List Statement)). and_then o (λ xs rest. Ok (p.0 ∷ xs, rest))) (again p.0 p.1)
same_behind n ps qs (Err r) again = refl

same_from : (n : ℕ) (ps qs : Prefixes) (ts : List Symbol) → AreSame ps qs → from n ps ts ≡ from n qs ts
unfolding read_from
same_from zero ps qs ts h = refl
same_from (suc n) ps qs ts h =
    ap (λ rule. cond (sees alphabet (statement []).begins ts) (and_then (rule ts) (λ x mid. and_then (from n (declare ps x) mid) (λ xs rest. Ok (x ∷ xs, rest)))) (Ok ([], ts))) (ap (λ (r : Rule Statement). r.read) (same_statement ps qs h))
    ∙ ap (λ (o : Outcome (List Statement)). cond (sees alphabet (statement []).begins ts) o (Ok ([], ts)))
    (same_behind n ps qs ((statement qs).read ts) (λ s mid. same_from n (declare ps s) (declare qs s) mid (same_declare ps qs h s)))

pub same_statements : (ps qs : Prefixes) (ts : List Symbol) → AreSame ps qs → (statements ps).read ts ≡ (statements qs).read ts
unfolding statements
same_statements ps qs ts h = same_from (length ts) ps qs ts h

-- ---- the rest of a document, behind what was said before

pub document_begins : (ts : List Symbol) → rest_of_document [] [] ts ≡ read_whole document ts
unfolding rest_of_document added document rules.read_whole
document_begins ts = go ((statements []).read ts)
  where
    go : (o : Outcome (List Statement)) → and_then (and_then o (λ x rest. Ok ([] ++ flat_map triples_in x, rest))) (to_end alphabet) ≡ and_then (and_then o (λ x rest. Ok (flat_map triples_in x, rest))) (to_end alphabet)
    go (Ok p) = refl
    go (Err r) = refl

-- ---- a statement, as the next symbol says

module _ (ps : Prefixes) (ts : List Symbol) where
  module _ (mid : List Symbol) (at : sees alphabet (is k.AtPrefix) ts ≡ true) (marked : (token k.AtPrefix).read ts ≡ Ok (tt, mid)) where
    pub marked_read : (s : Statement) (dot next : List Symbol) → declaration.read mid ≡ Ok (s, dot) → (token k.Dot).read dot ≡ Ok (tt, next) → (statement ps).read ts ≡ Ok (s, next)
    unfolding statement
    marked_read s dot next e f = rw (sees_alone (is k.AtPrefix) ts true at, marked, e, f) refl

    pub marked_fails : (r : Refusal) → declaration.read mid ≡ Err r → (statement ps).read ts ≡ Err r
    unfolding statement
    marked_fails r e = rw (sees_alone (is k.AtPrefix) ts true at, marked, e) refl

    pub marked_undotted : (s : Statement) (dot : List Symbol) (r : Refusal) → declaration.read mid ≡ Ok (s, dot) → (token k.Dot).read dot ≡ Err r → (statement ps).read ts ≡ Err r
    unfolding statement
    marked_undotted s dot r e f = rw (sees_alone (is k.AtPrefix) ts true at, marked, e, f) refl

  module _ (no : sees alphabet (is k.AtPrefix) ts ≡ false) where
    module _ (mid : List Symbol) (at : sees alphabet (is k.Prefix) ts ≡ true) (marked : (token k.Prefix).read ts ≡ Ok (tt, mid)) where
      pub worded_read : (s : Statement) (next : List Symbol) → declaration.read mid ≡ Ok (s, next) → (statement ps).read ts ≡ Ok (s, next)
      unfolding statement
      worded_read s next e = rw (sees_alone (is k.AtPrefix) ts false no, sees_alone (is k.Prefix) ts true at, marked, e) refl

      pub worded_fails : (r : Refusal) → declaration.read mid ≡ Err r → (statement ps).read ts ≡ Err r
      unfolding statement
      worded_fails r e = rw (sees_alone (is k.AtPrefix) ts false no, sees_alone (is k.Prefix) ts true at, marked, e) refl

    module _ (nor : sees alphabet (is k.Prefix) ts ≡ false) where
      pub base_refused : sees alphabet begins_base ts ≡ true → (statement ps).read ts ≡ refuse alphabet Unsupported ts
      unfolding statement
      base_refused e = rw (sees_alone (is k.AtPrefix) ts false no, sees_alone (is k.Prefix) ts false nor, e) refl

      module _ (base : sees alphabet begins_base ts ≡ false) where
        pub held_read : (said : List Triple) (dot next : List Symbol) → (triples ps).read ts ≡ Ok (said, dot) → (token k.Dot).read dot ≡ Ok (tt, next) → (statement ps).read ts ≡ Ok (holds said, next)
        unfolding statement
        held_read said dot next e f = rw (sees_alone (is k.AtPrefix) ts false no, sees_alone (is k.Prefix) ts false nor, base, e, f) refl

        pub held_fails : (r : Refusal) → (triples ps).read ts ≡ Err r → (statement ps).read ts ≡ Err r
        unfolding statement
        held_fails r e = rw (sees_alone (is k.AtPrefix) ts false no, sees_alone (is k.Prefix) ts false nor, base, e) refl

        pub held_undotted : (said : List Triple) (dot : List Symbol) (r : Refusal) → (triples ps).read ts ≡ Ok (said, dot) → (token k.Dot).read dot ≡ Err r → (statement ps).read ts ≡ Err r
        unfolding statement
        held_undotted said dot r e f = rw (sees_alone (is k.AtPrefix) ts false no, sees_alone (is k.Prefix) ts false nor, base, e, f) refl

pub statement_law : (ps : Prefixes) → laws.Lawful alphabet (statement ps)
statement_law ps = (kept_statement ps).law

statement_fits : (ps : Prefixes) → rules.Shaped (shape_of (statement [])) (statement ps)
unfolding statement declaration triples subject properties more_properties property verb object left_out literal text_suffix datatype iri_name
statement_fits ps = record { begins = refl; empty = refl; goes_on = refl }

statement_some : (statement []).empty ≡ false
unfolding statement declaration triples subject properties more_properties property verb object left_out literal text_suffix datatype iri_name
statement_some = refl

none_of : (a b c i l p : Bool) → ((a || false) || ((b || false) || (c || (((i || (l || p)) || false) || false)))) ≡ false → (a ≡ false) × (b ≡ false) × (c ≡ false) × (i ≡ false) × (l ≡ false) × (p ≡ false)
none_of true b c i l p e = absurd (cc e)
none_of false true c i l p e = absurd (cc e)
none_of false false true i l p e = absurd (cc e)
none_of false false false true l p e = absurd (cc e)
none_of false false false false true p e = absurd (cc e)
none_of false false false false false true e = absurd (cc e)
none_of false false false false false false e = (refl, refl, refl, refl, refl, refl)

unsaid : (ps : Prefixes) (ts : List Symbol) (r : Refusal) → (subject ps).read ts ≡ Err r → (triples ps).read ts ≡ Err r
unfolding triples
unsaid ps ts r e = rw e refl

-- what begins no statement is refused as what is left over is
statement_lacks : (ps : Prefixes) (ts : List Symbol) → sees alphabet (statement []).begins ts ≡ false → (statement ps).read ts ≡ refuse alphabet Unexpected ts
unfolding statement declaration triples subject properties more_properties property verb object left_out literal text_suffix datatype iri_name
statement_lacks ps [] e = refl
statement_lacks ps (t ∷ ts) e =
    let kind = kind_of t in
    let f = none_of (is k.AtPrefix kind) (is k.Prefix kind) (begins_base kind) (is_iri_name kind) (begins_blank_node kind) (is k.LeftParen kind) e in
    held_fails ps (t ∷ ts) f.0 f.1 f.2 (rules.refused_at alphabet Unexpected (t ∷ ts))
    (unsaid ps (t ∷ ts) (rules.refused_at alphabet Unexpected (t ∷ ts)) (subject_name ps (t ∷ ts) f.4 f.5 ∙ name_lacks ps (t ∷ ts) f.3))

abbrev as_other : Outcome Statement → Outcome (List Triple)
as_other (Ok p) = Ok ([], [])
as_other (Err r) = Err r

refused_other : (ts : List Symbol) (r : Refusal) → refuse alphabet {A = Statement} Unexpected ts ≡ Err r → refuse alphabet {A = List Triple} Unexpected ts ≡ Err r
refused_other ts r f = ap as_other f

end_refuses : (front : List Triple) (ts : List Symbol) → 0 < length ts → to_end alphabet front ts ≡ refuse alphabet Unexpected ts
unfolding to_end
end_refuses front [] h = absurd (omega (arith, h))
end_refuses front (t ∷ ts) h = refl

module _ (ps : Prefixes) (front : List Triple) (ts : List Symbol) where
  pub document_ends : ts ≡ [] → rest_of_document ps front ts ≡ Ok (front, [])
  unfolding rest_of_document statements to_end
  document_ends e =
      rw e
      (ap (λ (o : Outcome (List Triple)). and_then o (to_end alphabet))
      (from_ends (shape_of (statement [])) statement declare statement_law statement_fits statement_some triples_in ps front [] refl))

  pub document_smaller : (s : Statement) (next : List Symbol) → (statement ps).read ts ≡ Ok (s, next) → length next < length ts
  document_smaller s next e = from_smaller (shape_of (statement [])) statement declare statement_law statement_fits statement_some triples_in ps ts next s e

  pub document_fails : (r : Refusal) → 0 < length ts → (statement ps).read ts ≡ Err r → rest_of_document ps front ts ≡ Err r
  unfolding rest_of_document statements
  document_fails r h e = go (sees alphabet (statement []).begins ts) refl
    where
      go : (b : Bool) → sees alphabet (statement []).begins ts ≡ b → rest_of_document ps front ts ≡ Err r
      go true g = ap (λ (o : Outcome (List Triple)). and_then o (to_end alphabet)) (from_fails (shape_of (statement [])) statement declare statement_law statement_fits statement_some triples_in ps front ts r g e)
      go false g =
          ap (λ (o : Outcome (List Triple)). and_then o (to_end alphabet)) (from_ends (shape_of (statement [])) statement declare statement_law statement_fits statement_some triples_in ps front ts g)
          ∙ end_refuses front ts h ∙ refused_other ts r (sym (statement_lacks ps ts g) ∙ e)

  pub document_turn : (qs : Prefixes) (all : List Triple) (next : List Symbol) (s : Statement) → (statement ps).read ts ≡ Ok (s, next) → AreSame qs (declare ps s) → all ≡ front ++ triples_in s → rest_of_document qs all next ≡ rest_of_document ps front ts
  unfolding rest_of_document statements
  document_turn qs all next s e h is =
      ap (λ (o : Outcome (List Statement)). and_then (added all (flat_map triples_in) o) (to_end alphabet)) (same_statements qs (declare ps s) next h)
      ∙ ap (λ (v : List Triple). and_then (added v (flat_map triples_in) ((statements (declare ps s)).read next)) (to_end alphabet)) is
      ∙ ap (λ (o : Outcome (List Triple)). and_then o (to_end alphabet)) (turned (sees alphabet (statement []).begins ts) refl)
    where
      turned : (b : Bool) → sees alphabet (statement []).begins ts ≡ b → added (front ++ triples_in s) (flat_map triples_in) ((statements (declare ps s)).read next) ≡ added front (flat_map triples_in) ((statements ps).read ts)
      turned true g = from_turn (shape_of (statement [])) statement declare statement_law statement_fits statement_some triples_in ps front ts next s g e
      turned false g = let f : refuse alphabet {A = Statement} Unexpected ts ≡ Ok (s, next) = sym (statement_lacks ps ts g) ∙ e in absurd (cc f)

-- a declaration says no triples
pub says_none : (old said : List Triple) → [] ≡ [] ++ said → old ≡ old ++ said
says_none old said e = sym (append-nil old) ∙ ap (λ (v : List Triple). old ++ v) e

pub no_length : (ts : List Symbol) → length ts ≡ 0 → ts ≡ []
no_length [] e = refl
no_length (t ∷ ts) e = absurd (omega (arith, e))
