-- No rule of the grammar but that of statements takes a dot: so of symbols that end in a dot a statement refuses none behind it.
use Rattle.std.proofs.Common.{◌≡◌, ◌<◌, ℕ, List, [], ◌∷◌, ◌++◌, Err, refl, subst}
use Rattle.fx_grammar.specs.Grammar.{Prefixes}
use Rattle.fx_terms.specs.declared.terms.Term.{Term}
use Rattle.fx_turtle.specs.Grammar.{Statement, text_of, tag_of, value_of, namespace_of, iri_of, is_value, is_any_tag, begins_blank_node, begins_base, left_out, iri_name, datatype, text_suffix, literal, object, subject, verb, property, more_properties, properties, triples, declaration, statement}
use Rattle.fx_turtle.specs.Rule.{alphabet, Outcome, Rule, Refusal}
use Rattle.fx_turtle.specs.Symbols as symbol
use Rattle.fx_turtle.specs.Symbols.{Symbol, is}
use Rattle.fx_turtle.specs.declared.kinds.Kind.TheVariants as k
use Rattle.fx_turtle.specs.declared.refusals.TurtleKind.TheVariants.{Blank, Unsupported}
use Rattle.fx_turtle.proofs.RuleDots as dots

abbrev pub dot : Symbol
dot = symbol.plain k.Dot

abbrev Ends : List Symbol → Type 0
Ends = dots.EndsIn alphabet dot

abbrev Any : List Symbol → Type 0
Any = dots.Anything alphabet dot

-- it leaves the dot, and it may take it
abbrev Short : {A : Type 0} → Rule A → Type 0
Short r = dots.Caps alphabet dot Ends r

abbrev Full : {A : Type 0} → Rule A → Type 0
Full r = dots.Caps alphabet dot Any r

short_left_out : (A : Type 0) → Short (left_out {A = A})
unfolding left_out
short_left_out A = dots.caps_either alphabet dot Ends (dots.caps_refusing alphabet dot Ends A Blank begins_blank_node) (dots.caps_refusing alphabet dot Ends A Unsupported (is k.LeftParen))

module _ (ps : Prefixes) where
  short_iri_name : Short (iri_name ps)
  unfolding iri_name
  short_iri_name = dots.caps_one alphabet dot _ _ refl

  short_datatype : Short (datatype ps)
  unfolding datatype
  short_datatype = dots.caps_one alphabet dot _ _ refl

  short_text_suffix : Short (text_suffix ps)
  unfolding text_suffix
  short_text_suffix =
      dots.caps_either alphabet dot Ends (dots.caps_made alphabet dot Ends _ (dots.caps_one alphabet dot is_any_tag tag_of refl))
      (dots.caps_made alphabet dot Ends _ (dots.caps_after alphabet dot Ends (dots.caps_one alphabet dot (is k.CaretCaret) _ refl) short_datatype))

  short_literal : Short (literal ps)
  unfolding literal
  short_literal =
      dots.caps_either alphabet dot Ends (dots.caps_made alphabet dot Ends _ (dots.caps_seq alphabet dot Ends (dots.caps_one alphabet dot (is k.Text) text_of refl) (dots.caps_opt alphabet dot short_text_suffix)))
      (dots.caps_one alphabet dot is_value value_of refl)

  short_object : Short (object ps)
  unfolding object
  short_object = dots.caps_either alphabet dot Ends (dots.caps_made alphabet dot Ends _ short_iri_name) (dots.caps_either alphabet dot Ends (short_left_out Term) short_literal)

  short_subject : Short (subject ps)
  unfolding subject
  short_subject = dots.caps_either alphabet dot Ends short_iri_name (short_left_out (List ℕ))

  short_verb : Short (verb ps)
  unfolding verb
  short_verb = dots.caps_either alphabet dot Ends (dots.caps_made alphabet dot Ends _ (dots.caps_one alphabet dot (is k.A) _ refl)) short_iri_name

  short_property : Short (property ps)
  unfolding property
  short_property = dots.caps_seq alphabet dot Ends short_verb (dots.caps_chain alphabet dot k.Comma refl short_object)

  short_more_properties : Short (more_properties ps)
  unfolding more_properties
  short_more_properties = dots.caps_many alphabet dot (dots.caps_after alphabet dot Ends (dots.caps_one alphabet dot (is k.Semicolon) _ refl) (dots.caps_opt alphabet dot short_property))

  short_properties : Short (properties ps)
  unfolding properties
  short_properties = dots.caps_made alphabet dot Ends _ (dots.caps_seq alphabet dot Ends short_property short_more_properties)

  short_triples : Short (triples ps)
  unfolding triples
  short_triples = dots.caps_made alphabet dot Ends _ (dots.caps_seq alphabet dot Ends short_subject short_properties)

short_declaration : Short declaration
unfolding declaration
short_declaration = dots.caps_made alphabet dot Ends _ (dots.caps_seq alphabet dot Ends (dots.caps_one alphabet dot (is k.PrefixName) namespace_of refl) (dots.caps_one alphabet dot (is k.Iri) iri_of refl))

full_statement : (ps : Prefixes) → Full (statement ps)
unfolding statement
full_statement ps =
    dots.caps_either alphabet dot Any
    (dots.caps_after alphabet dot Any (dots.caps_one alphabet dot (is k.AtPrefix) _ refl) (dots.caps_before alphabet dot Any short_declaration (dots.caps_token alphabet dot k.Dot)))
    (dots.caps_either alphabet dot Any (dots.caps_any alphabet dot (dots.caps_after alphabet dot Ends (dots.caps_one alphabet dot (is k.Prefix) _ refl) short_declaration))
    (dots.caps_either alphabet dot Any (dots.caps_refusing alphabet dot Any _ Unsupported begins_base)
    (dots.caps_made alphabet dot Any _ (dots.caps_before alphabet dot Any (short_triples ps) (dots.caps_token alphabet dot k.Dot)))))

-- what a statement refuses of symbols that end in a dot stands at one of them
pub refused_within : (ps : Prefixes) (front : List Symbol) (f : Refusal) → (statement ps).read (front ++ dot ∷ []) ≡ Err f → 0 < f.left
refused_within ps front f e = subst (λ (o : Outcome Statement). dots.Out alphabet dot Any o) e ((full_statement ps).reads front)
