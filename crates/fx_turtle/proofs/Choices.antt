-- Which way a rule goes on, as the next symbol says.
use Rattle.std.proofs.Common.{◌≡◌, ◌∙◌, ℕ, Bool, true, false, ◌||◌, List, [], ◌∷◌, Option, Some, None, Result, Ok, Err, refl, sym, ap}
use Rattle.fx_terms.specs.declared.terms.Term.{Term}
use Rattle.fx_terms.specs.declared.terms.Term.TheVariants as term
use Rattle.fx_grammar.specs.Grammar.{Prefixes, rdf_type, annotated}
use Rattle.fx_grammar.specs.declared.parts.Annotation.{Annotation}
use Rattle.fx_grammar.specs.declared.parts.Annotation.TheVariants as annotation
use Rattle.fx_rules.specs.Rule.{Apart, and_then, refuse, sees}
use Rattle.fx_rules.proofs.RuleLaws as laws
use Rattle.fx_turtle.specs.Grammar.{text_of, tag_of, value_of, is_iri_name, is_any_tag, is_value, begins_blank_node, left_out, iri_name, datatype, text_suffix, literal, object, subject, verb}
use Rattle.fx_turtle.specs.Rule.{alphabet, Outcome, made, seq, after, one, token, opt}
use Rattle.fx_turtle.specs.Sources.{is_any_name}
use Rattle.fx_turtle.specs.Symbols.{Symbol, is, kind_of}
use Rattle.fx_turtle.specs.declared.kinds.Kind.{Kind}
use Rattle.fx_turtle.specs.declared.kinds.Kind.TheVariants as k
use Rattle.fx_turtle.specs.declared.refusals.TurtleKind.TheVariants.{Unexpected, Blank, Unsupported}
use Rattle.fx_turtle.proofs.KindLaws.{apart_by}

-- of several kinds, one or the other
module _ (p q : Kind → Bool) where
  neither : (ts : List Symbol) → sees alphabet p ts ≡ false → sees alphabet q ts ≡ false → sees alphabet (λ kind. p kind || q kind) ts ≡ false
  neither [] e f = refl
  neither (t ∷ ts) e f = rw (e, f) refl

  the_other : (ts : List Symbol) → sees alphabet (λ kind. p kind || q kind) ts ≡ true → sees alphabet p ts ≡ false → sees alphabet q ts ≡ true
  the_other [] e f = e
  the_other (t ∷ ts) e f = go (p (kind_of t)) e f
    where
      go : (a : Bool) → (a || q (kind_of t)) ≡ true → a ≡ false → q (kind_of t) ≡ true
      go true e f = absurd (cc f)
      go false e f = e

  first_of : (ts : List Symbol) → sees alphabet p ts ≡ true → sees alphabet (λ kind. p kind || q kind) ts ≡ true
  first_of ts e = laws.sees-left alphabet p q ts e

  second_of : (ts : List Symbol) → sees alphabet q ts ≡ true → sees alphabet (λ kind. p kind || q kind) ts ≡ true
  second_of ts e = laws.sees-right alphabet p q ts e

  not_the_other : (ts : List Symbol) → Apart p q → sees alphabet p ts ≡ true → sees alphabet q ts ≡ false
  not_the_other ts apart e = laws.sees-apart alphabet p q ts apart e

pub sees_alone : (p : Kind → Bool) (ts : List Symbol) (b : Bool) → sees alphabet p ts ≡ b → sees alphabet (λ kind. p kind || false) ts ≡ b
sees_alone p [] b e = e
sees_alone p (t ∷ ts) b e = go (p (kind_of t)) ∙ e
  where
    go : (c : Bool) → (c || false) ≡ c
    go true = refl
    go false = refl

one_lacks : {A : Type 0} (kinds : Kind → Bool) (value : Symbol → Result A _) (ts : List Symbol) → sees alphabet kinds ts ≡ false → (one kinds value).read ts ≡ refuse alphabet Unexpected ts
one_lacks kinds value [] e = refl
one_lacks kinds value (t ∷ ts) e = rw e refl

module _ (ps : Prefixes) (ts : List Symbol) where
  pub name_lacks : sees alphabet is_iri_name ts ≡ false → (iri_name ps).read ts ≡ refuse alphabet Unexpected ts
  unfolding iri_name
  name_lacks e = one_lacks is_iri_name _ ts e

  -- ---- subjects

  pub subject_blank : sees alphabet begins_blank_node ts ≡ true → (subject ps).read ts ≡ refuse alphabet Blank ts
  unfolding subject left_out iri_name
  subject_blank e = rw (not_the_other begins_blank_node is_iri_name ts (apart_by _ _ refl) e, e) refl

  pub subject_paren : sees alphabet begins_blank_node ts ≡ false → sees alphabet (is k.LeftParen) ts ≡ true → (subject ps).read ts ≡ refuse alphabet Unsupported ts
  unfolding subject left_out iri_name
  subject_paren e f = rw (not_the_other (is k.LeftParen) is_iri_name ts (apart_by _ _ refl) f, e, f) refl

  pub subject_name : sees alphabet begins_blank_node ts ≡ false → sees alphabet (is k.LeftParen) ts ≡ false → (subject ps).read ts ≡ (iri_name ps).read ts
  unfolding subject left_out iri_name
  subject_name e f = go (sees alphabet is_iri_name ts) refl
    where
      go : (b : Bool) → sees alphabet is_iri_name ts ≡ b → (subject ps).read ts ≡ (iri_name ps).read ts
      go true g = rw g refl
      go false g =
          let lacks : (subject ps).read ts ≡ refuse alphabet Unexpected ts = rw (g, e, f) refl in
          lacks ∙ sym (name_lacks g)

  -- ---- verbs

  pub verb_a : sees alphabet (is k.A) ts ≡ true → (verb ps).read ts ≡ and_then ((token k.A).read ts) (λ u rest. Ok (rdf_type, rest))
  unfolding verb
  verb_a e = rw e refl

  pub verb_name : sees alphabet (is k.A) ts ≡ false → (verb ps).read ts ≡ (iri_name ps).read ts
  unfolding verb
  verb_name e = rw e refl

  pub opt_verb_a : sees alphabet (is k.A) ts ≡ true → (opt (verb ps)).read ts ≡ and_then ((token k.A).read ts) (λ u rest. Ok (Some rdf_type, rest))
  unfolding verb iri_name
  opt_verb_a e = rw (first_of (is k.A) is_iri_name ts e, e) (go ((token k.A).read ts))
    where
      go : (o : Outcome (Unit {0})) → and_then (and_then o (λ u rest. Ok (rdf_type, rest))) (λ x rest. Ok (Some x, rest)) ≡ and_then o (λ u rest. Ok (Some rdf_type, rest))
      go (Ok p) = refl
      go (Err r) = refl

  pub opt_verb_name : sees alphabet (is k.A) ts ≡ false → (opt (verb ps)).read ts ≡ (opt (iri_name ps)).read ts
  unfolding verb iri_name
  opt_verb_name e = go (sees alphabet is_iri_name ts) refl
    where
      go : (b : Bool) → sees alphabet is_iri_name ts ≡ b → (opt (verb ps)).read ts ≡ (opt (iri_name ps)).read ts
      go true g = rw (second_of (is k.A) is_iri_name ts g, e, g) refl
      go false g = rw (neither (is k.A) is_iri_name ts e g, g) refl

  -- ---- literals

  pub literal_text : sees alphabet (is k.Text) ts ≡ true → (literal ps).read ts ≡ (made (λ p. annotated p.0 p.1) (seq (one (is k.Text) text_of) (opt (text_suffix ps)))).read ts
  unfolding literal
  literal_text e = rw (sees_alone (is k.Text) ts true e) refl

  pub literal_value : sees alphabet (is k.Text) ts ≡ false → (literal ps).read ts ≡ (one is_value value_of).read ts
  unfolding literal
  literal_value e = rw (sees_alone (is k.Text) ts false e) refl

  -- ---- what stands behind a text

  module _ {B : Type 0} (f : Option Annotation → List Symbol → Outcome B) where
    pub suffix_tag : sees alphabet is_any_tag ts ≡ true → and_then ((opt (text_suffix ps)).read ts) f ≡ and_then ((one is_any_tag tag_of).read ts) (λ tag rest. f (Some (annotation.Tag tag)) rest)
    unfolding text_suffix
    suffix_tag e = rw (first_of is_any_tag (λ kind. is k.CaretCaret kind || false) ts e, e) (go ((one is_any_tag tag_of).read ts))
      where
        go : (o : Outcome (List ℕ)) → and_then (and_then (and_then o (λ x rest. Ok (annotation.Tag x, rest))) (λ x rest. Ok (Some x, rest))) f ≡ and_then o (λ tag rest. f (Some (annotation.Tag tag)) rest)
        go (Ok p) = refl
        go (Err r) = refl

    pub suffix_datatype : sees alphabet is_any_tag ts ≡ false → sees alphabet (is k.CaretCaret) ts ≡ true
        → and_then ((opt (text_suffix ps)).read ts) f ≡ and_then ((after (token k.CaretCaret) (datatype ps)).read ts) (λ iri rest. f (Some (annotation.Datatype iri)) rest)
    unfolding text_suffix
    suffix_datatype e g =
        rw (second_of is_any_tag (λ kind. is k.CaretCaret kind || false) ts (sees_alone (is k.CaretCaret) ts true g), e) (go ((after (token k.CaretCaret) (datatype ps)).read ts))
      where
        go : (o : Outcome (List ℕ)) → and_then (and_then (and_then o (λ x rest. Ok (annotation.Datatype x, rest))) (λ x rest. Ok (Some x, rest))) f ≡ and_then o (λ iri rest. f (Some (annotation.Datatype iri)) rest)
        go (Ok p) = refl
        go (Err r) = refl

    pub suffix_none : sees alphabet is_any_tag ts ≡ false → sees alphabet (is k.CaretCaret) ts ≡ false → and_then ((opt (text_suffix ps)).read ts) f ≡ f None ts
    unfolding text_suffix
    suffix_none e g = rw (neither is_any_tag (λ kind. is k.CaretCaret kind || false) ts e (sees_alone (is k.CaretCaret) ts false g)) refl

  -- ---- objects

  abbrev named_object : Outcome Term
  named_object = and_then ((iri_name ps).read ts) (λ x rest. Ok (term.Iri x, rest))

  pub object_name : sees alphabet is_any_name ts ≡ true → (object ps).read ts ≡ named_object
  unfolding object left_out literal iri_name
  object_name e = go (sees alphabet is_iri_name ts) refl
    where
      go : (b : Bool) → sees alphabet is_iri_name ts ≡ b → (object ps).read ts ≡ named_object
      go true g = rw g refl
      go false g =
          let r = the_other is_iri_name (is k.Relative) ts e g in
          let blank = not_the_other (is k.Relative) begins_blank_node ts (apart_by _ _ refl) r in
          let paren = not_the_other (is k.Relative) (is k.LeftParen) ts (apart_by _ _ refl) r in
          let text = not_the_other (is k.Relative) (is k.Text) ts (apart_by _ _ refl) r in
          let value = not_the_other (is k.Relative) is_value ts (apart_by _ _ refl) r in
          let lacks : (object ps).read ts ≡ refuse alphabet Unexpected ts = rw (g, neither begins_blank_node (is k.LeftParen) ts blank paren, sees_alone (is k.Text) ts false text) (one_lacks is_value value_of ts value) in
          lacks ∙ ap (λ (o : Outcome (List ℕ)). and_then o (λ x rest. Ok (term.Iri x, rest))) (sym (name_lacks g))

  pub object_blank : sees alphabet begins_blank_node ts ≡ true → (object ps).read ts ≡ refuse alphabet Blank ts
  unfolding object left_out iri_name
  object_blank e = rw (not_the_other begins_blank_node is_iri_name ts (apart_by _ _ refl) e, first_of begins_blank_node (is k.LeftParen) ts e, e) refl

  pub object_paren : sees alphabet begins_blank_node ts ≡ false → sees alphabet (is k.LeftParen) ts ≡ true → (object ps).read ts ≡ refuse alphabet Unsupported ts
  unfolding object left_out iri_name
  object_paren e f = rw (not_the_other (is k.LeftParen) is_iri_name ts (apart_by _ _ refl) f, second_of begins_blank_node (is k.LeftParen) ts f, e, f) refl

  pub object_literal : sees alphabet is_any_name ts ≡ false → sees alphabet begins_blank_node ts ≡ false → sees alphabet (is k.LeftParen) ts ≡ false → (object ps).read ts ≡ (literal ps).read ts
  unfolding object left_out iri_name
  object_literal e f g = rw (not_name ts e, neither begins_blank_node (is k.LeftParen) ts f g) refl
    where
      not_name : (ts : List Symbol) → sees alphabet is_any_name ts ≡ false → sees alphabet is_iri_name ts ≡ false
      not_name [] e = refl
      not_name (t ∷ ts) e = go (is_iri_name (kind_of t)) e
        where
          go : (a : Bool) → (a || is k.Relative (kind_of t)) ≡ false → a ≡ false
          go true e = absurd (cc e)
          go false e = refl
