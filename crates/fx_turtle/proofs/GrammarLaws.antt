-- The grammar is read exactly as it is spelled, and refused exactly where it stops: each choice in it is decided by the next symbol.
use Rattle.std.proofs.Common.{◌≡◌, ℕ, false, List, [], refl}
use Rattle.fx_rules.specs.Rule.{EndsAsSpelled}
use Rattle.fx_rules.proofs.RuleWhole as whole
use Rattle.fx_grammar.specs.Grammar.{Prefixes}
use Rattle.fx_terms.specs.declared.terms.Term.{Term}
use Rattle.fx_turtle.specs.Grammar.{text_of, tag_of, value_of, namespace_of, iri_of, is_value, is_any_tag, begins_blank_node, begins_base, left_out, iri_name, datatype, text_suffix, literal, object, subject, verb, property, more_properties, properties, triples, declare, declaration, statement, statements, document, WindowsAreTheWhole}
use Rattle.fx_turtle.specs.Rule.{alphabet, shape_of, ReadAsSpelled, RefusedAsStopped, SpelledOrStopped, RefusedForGood, RefusedTheSame, RefusedFitly}
use Rattle.fx_turtle.specs.Symbols.{is}
use Rattle.fx_turtle.specs.declared.kinds.Kind.{Kind}
use Rattle.fx_turtle.specs.declared.kinds.Kind.TheVariants as k
use Rattle.fx_turtle.specs.declared.refusals.TurtleKind.TheVariants.{Blank, Unsupported}
use Rattle.fx_turtle.proofs.KindLaws.{apart_by}
use Rattle.fx_turtle.proofs.RuleWindows as windows
use Rattle.fx_turtle.proofs.RuleLaws.{settled, Kept, kept_one, kept_token, kept_refusing, kept_made, kept_seq, kept_after, kept_before, kept_either, kept_opt, kept_many_from, kept_many, kept_chain}

pub kept_left_out : (A : Type 0) → Kept (left_out {A = A})
unfolding left_out
kept_left_out A = kept_either (kept_refusing A Blank begins_blank_node) (kept_refusing A Unsupported (is k.LeftParen)) refl refl (apart_by _ _ refl)

module _ (ps : Prefixes) where
  pub kept_iri_name : Kept (iri_name ps)
  unfolding iri_name
  kept_iri_name = kept_one _ _

  pub kept_datatype : Kept (datatype ps)
  unfolding datatype
  kept_datatype = kept_one _ _

  pub kept_text_suffix : Kept (text_suffix ps)
  unfolding text_suffix datatype
  kept_text_suffix = kept_either (kept_made _ (kept_one is_any_tag tag_of)) (kept_made _ (kept_after (kept_token k.CaretCaret) kept_datatype (λ kind e. refl))) refl refl (apart_by _ _ refl)

  pub kept_literal : Kept (literal ps)
  unfolding literal text_suffix datatype
  kept_literal = kept_either (kept_made _ (kept_seq (kept_one (is k.Text) text_of) (kept_opt kept_text_suffix refl) (λ kind e. refl))) (kept_one is_value value_of) refl refl (apart_by _ _ refl)

  pub kept_object : Kept (object ps)
  unfolding object left_out literal text_suffix datatype iri_name
  kept_object = kept_either (kept_made _ kept_iri_name) (kept_either (kept_left_out Term) kept_literal refl refl (apart_by _ _ refl)) refl refl (apart_by _ _ refl)

  pub kept_subject : Kept (subject ps)
  unfolding subject left_out iri_name
  kept_subject = kept_either kept_iri_name (kept_left_out (List ℕ)) refl refl (apart_by _ _ refl)

  pub kept_verb : Kept (verb ps)
  unfolding verb iri_name
  kept_verb = kept_either (kept_made _ (kept_token k.A)) kept_iri_name refl refl (apart_by _ _ refl)

  pub kept_property : Kept (property ps)
  unfolding property verb object left_out literal text_suffix datatype iri_name
  kept_property = kept_seq kept_verb (kept_chain k.Comma kept_object refl (apart_by _ _ refl)) (apart_by _ _ refl)

  pub kept_more_properties : Kept (more_properties ps)
  unfolding more_properties property verb object left_out literal text_suffix datatype iri_name
  kept_more_properties = kept_many (kept_after (kept_token k.Semicolon) (kept_opt kept_property refl) (λ kind e. refl)) refl (apart_by _ _ refl)

  pub kept_properties : Kept (properties ps)
  unfolding properties more_properties property verb object left_out literal text_suffix datatype iri_name
  kept_properties = kept_made _ (kept_seq kept_property kept_more_properties (apart_by _ _ refl))

  pub kept_triples : Kept (triples ps)
  unfolding triples subject properties more_properties property verb object left_out literal text_suffix datatype iri_name
  kept_triples = kept_made _ (kept_seq kept_subject kept_properties (apart_by _ _ refl))

pub kept_declaration : Kept declaration
unfolding declaration
kept_declaration = kept_made _ (kept_seq (kept_one (is k.PrefixName) namespace_of) (kept_one (is k.Iri) iri_of) (λ kind e. refl))

pub kept_statement : (ps : Prefixes) → Kept (statement ps)
unfolding statement declaration triples subject properties more_properties property verb object left_out literal text_suffix datatype iri_name
kept_statement ps =
    kept_either (kept_after (kept_token k.AtPrefix) (kept_before kept_declaration (kept_token k.Dot) (apart_by _ _ refl)) (λ kind e. refl))
    (kept_either (kept_after (kept_token k.Prefix) kept_declaration (λ kind e. refl))
    (kept_either (kept_refusing _ Unsupported begins_base)
    (kept_made _ (kept_before (kept_triples ps) (kept_token k.Dot) (apart_by _ _ refl))) refl refl (apart_by _ _ refl)) refl refl (apart_by _ _ refl)) refl refl (apart_by _ _ refl)

pub kept_statements : (ps : Prefixes) → Kept (statements ps)
unfolding statements statement declaration triples subject properties more_properties property verb object left_out literal text_suffix datatype iri_name
kept_statements = kept_many_from (shape_of (statement [])) statement declare kept_statement (λ ps. record { begins = refl; empty = refl; goes_on = refl }) refl (apart_by _ _ refl)

pub kept_document : Kept document
unfolding document statements
kept_document = kept_made _ (kept_statements [])

-- a statement ends by itself
pub ends_alone : (ps : Prefixes) (kind : Kind) → (statement ps).goes_on kind ≡ false
unfolding statement declaration triples subject properties more_properties property verb object left_out literal text_suffix datatype iri_name
ends_alone ps kind = refl

pub windows_are_the_whole_holds : WindowsAreTheWhole
unfolding statements
windows_are_the_whole_holds = record {
  spelled = λ ps window rest front back h l. windows.spelled_on alphabet (shape_of (statement [])) statement declare kept_statement ends_alone ps window rest front back h l;
  stopped = λ ps window rest front refusal h l. windows.whole_stops alphabet (shape_of (statement [])) statement declare kept_statement ends_alone ps window rest front refusal h l;
}

-- ---- the laws

pub document_read_as_spelled : ReadAsSpelled document
document_read_as_spelled = whole.read_as_spelled alphabet document kept_document.law

pub document_refused_as_stopped : RefusedAsStopped document
document_refused_as_stopped = whole.refused_as_stopped alphabet document kept_document.law kept_document.exact

pub document_spelled_or_stopped : SpelledOrStopped document
document_spelled_or_stopped = whole.spelled_or_stopped alphabet document kept_document.law kept_document.exact

pub document_ends_as_spelled : EndsAsSpelled document
document_ends_as_spelled = whole.ends_as_spelled alphabet settled document kept_document.law kept_document.local kept_document.exact

pub document_refused_for_good : RefusedForGood document
document_refused_for_good = whole.refused_for_good alphabet settled document kept_document.law kept_document.local kept_document.exact

pub document_refused_the_same : RefusedTheSame document
document_refused_the_same = whole.refused_the_same alphabet settled document kept_document.law kept_document.local kept_document.exact

pub document_refused_fitly : RefusedFitly document
document_refused_fitly = whole.refused_fitly alphabet settled document kept_document.law kept_document.local kept_document.exact
