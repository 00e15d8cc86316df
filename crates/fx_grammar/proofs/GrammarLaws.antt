-- The grammar is read exactly as it is spelled, and refused exactly where it stops: each choice in it is decided by the next token.
use Rattle.std.proofs.Common.{◌≡◌, ℕ, Bool, true, false, List, [], length, Option, refl}
use Rattle.fx_grammar.specs.Kinds.{is}
use Rattle.fx_grammar.specs.Rule.{alphabet, Rule, shape_of, Shaped, Depth, with_depth, nothing, token, after, opt, depth, Apart, ReadAsSpelled, RefusedAsStopped, SpelledOrStopped, EndsAsSpelled, RefusedForGood, RefusedTheSame, RefusedFitly}
use Rattle.fx_grammar.specs.Grammar.{Prefixes, parens, braces, body, block, single_block, wide_block, rows, row, row_end, columns, new_column, value, literal, text_suffix, datatype, iri_name, variable, main, query_head, select_head, distinct, selected, column, where_group, whole_group, group, braced, inside, items, first_triples, item, behind_other, other, union, service, service_name, binding, unbound, constraint, whole_expression, expression, disjunction, conjunction, relation, compared, among, sum, addend, signed_product, signed_literal, product, factor, no_quotient, unary, primary, primary_iri, primary_literal, no_call, call, bound_call, coalesce_call, if_call, one_call, two_call, two_args, list, triples, more_triples, dot_triples, same_subject, properties, more_properties, property, objects, verb, verb_iri, no_path, graph_term, part_literal, modifiers, order, condition, limits, limit, offset, number, query, prologue, prefix, with_elements, tag_of, text_of, is_plain_literal, literal_of, one_of, two_of, signed_of, comparison_of, namespace_of, iri_of, dot}
use Rattle.fx_grammar.specs.declared.kinds.Kind.TheVariants as k
use Rattle.fx_algebra.specs.declared.expressions.Expr.{Expr}
use Rattle.fx_algebra.specs.declared.queries.Group.{Group}
use Rattle.fx_terms.specs.declared.terms.Term.{Term}
use Rattle.fx_grammar.proofs.KindLaws.{apart_by}
use Rattle.fx_grammar.proofs.RuleLaws.{Lawful, Kept, kept_one, kept_token, kept_made, kept_then_by, kept_seq, kept_after, kept_before, kept_either, kept_opt, kept_many_from, kept_many, kept_chain, kept_some, kept_refusing, kept_nested, read_as_spelled, refused_as_stopped, spelled_or_stopped, ends_as_spelled, refused_for_good, refused_the_same, refused_fitly}

-- brackets round a rule that doesn't go on with their end
pub kept_parens : {A : Type 0} {a : Rule A} → Kept a → Apart (is k.RightParen) (after (token k.LeftParen) a).goes_on → Kept (parens a)
kept_parens kept apart = kept_before (kept_after (kept_token k.LeftParen) kept (λ kind e. refl)) (kept_token k.RightParen) apart

pub kept_braces : {A : Type 0} {a : Rule A} → Kept a → Apart (is k.RightBrace) (after (token k.LeftBrace) a).goes_on → Kept (braces a)
kept_braces kept apart = kept_before (kept_after (kept_token k.LeftBrace) kept (λ kind e. refl)) (kept_token k.RightBrace) apart

pub kept_variable : Kept variable
unfolding variable
kept_variable = kept_one _ _

pub kept_no_call : Kept no_call
unfolding no_call
kept_no_call = kept_opt (kept_refusing _ _ _) refl

pub kept_no_quotient : Kept no_quotient
unfolding no_quotient
kept_no_quotient = kept_opt (kept_refusing _ _ _) refl

pub kept_no_path : Kept no_path
unfolding no_path
kept_no_path = kept_opt (kept_refusing _ _ _) refl

module _ (ps : Prefixes) where
  pub kept_iri_name : Kept (iri_name ps)
  unfolding iri_name
  kept_iri_name = kept_one _ _

  pub kept_datatype : Kept (datatype ps)
  unfolding datatype
  kept_datatype = kept_one _ _

module _ {rule : Rule (List ℕ)} (kept : Kept rule) where
  pub kept_text_suffix : Kept (text_suffix rule)
  unfolding text_suffix
  kept_text_suffix = kept_either (kept_made _ (kept_one (is k.Tag) tag_of)) (kept_made _ (kept_after (kept_token k.CaretCaret) kept (λ kind e. refl))) refl refl (apart_by _ _ refl)

  pub kept_literal : Kept (literal rule)
  unfolding literal text_suffix
  kept_literal = kept_either (kept_made _ (kept_seq (kept_one (is k.Text) text_of) (kept_opt kept_text_suffix refl) (λ kind e. refl))) (kept_one is_plain_literal literal_of) refl refl (apart_by _ _ refl)

-- ---- expressions

module _ (ps : Prefixes) (d : Depth Expr) (kept : Kept (with_depth (shape_of (disjunction ps nothing)) d)) where
  abbrev inner : Rule Expr
  inner = with_depth (shape_of (disjunction ps nothing)) d

  pub kept_inner_parens : Kept (parens inner)
  unfolding disjunction conjunction relation compared among sum addend signed_product signed_literal product factor no_quotient unary primary primary_iri primary_literal no_call call bound_call coalesce_call if_call one_call two_call two_args list literal text_suffix datatype iri_name variable
  kept_inner_parens = kept_parens kept (apart_by _ _ refl)

  pub kept_list : Kept (list inner)
  unfolding disjunction conjunction relation compared among sum addend signed_product signed_literal product factor no_quotient unary primary primary_iri primary_literal no_call call bound_call coalesce_call if_call one_call two_call two_args list literal text_suffix datatype iri_name variable
  kept_list =
      kept_after (kept_token k.LeftParen)
      (kept_either (kept_made _ (kept_token k.RightParen)) (kept_before (kept_chain k.Comma kept refl (apart_by _ _ refl)) (kept_token k.RightParen) (apart_by _ _ refl)) refl refl (apart_by _ _ refl)) (λ kind e. refl)

  pub kept_bound_call : Kept bound_call
  unfolding bound_call variable
  kept_bound_call = kept_made _ (kept_after (kept_token k.Bound) (kept_parens kept_variable (apart_by _ _ refl)) (λ kind e. refl))

  pub kept_coalesce_call : Kept (coalesce_call inner)
  unfolding disjunction conjunction relation compared among sum addend signed_product signed_literal product factor no_quotient unary primary primary_iri primary_literal no_call call bound_call coalesce_call if_call one_call two_call two_args list literal text_suffix datatype iri_name variable
  kept_coalesce_call = kept_made _ (kept_after (kept_token k.Coalesce) kept_list (λ kind e. refl))

  pub kept_two_args : Kept (two_args inner)
  unfolding disjunction conjunction relation compared among sum addend signed_product signed_literal product factor no_quotient unary primary primary_iri primary_literal no_call call bound_call coalesce_call if_call one_call two_call two_args list literal text_suffix datatype iri_name variable
  kept_two_args = kept_seq kept (kept_after (kept_token k.Comma) kept (λ kind e. refl)) (apart_by _ _ refl)

  pub kept_if_call : Kept (if_call inner)
  unfolding disjunction conjunction relation compared among sum addend signed_product signed_literal product factor no_quotient unary primary primary_iri primary_literal no_call call bound_call coalesce_call if_call one_call two_call two_args list literal text_suffix datatype iri_name variable
  kept_if_call =
      kept_made _ (kept_after (kept_token k.If)
      (kept_parens (kept_seq kept (kept_after (kept_token k.Comma) kept_two_args (λ kind e. refl)) (apart_by _ _ refl)) (apart_by _ _ refl)) (λ kind e. refl))

  pub kept_one_call : Kept (one_call inner)
  unfolding disjunction conjunction relation compared among sum addend signed_product signed_literal product factor no_quotient unary primary primary_iri primary_literal no_call call bound_call coalesce_call if_call one_call two_call two_args list literal text_suffix datatype iri_name variable
  kept_one_call = kept_made _ (kept_seq (kept_one (is k.One) one_of) kept_inner_parens (λ kind e. refl))

  pub kept_two_call : Kept (two_call inner)
  unfolding disjunction conjunction relation compared among sum addend signed_product signed_literal product factor no_quotient unary primary primary_iri primary_literal no_call call bound_call coalesce_call if_call one_call two_call two_args list literal text_suffix datatype iri_name variable
  kept_two_call = kept_made _ (kept_seq (kept_one (is k.Two) two_of) (kept_parens kept_two_args (apart_by _ _ refl)) (λ kind e. refl))

  pub kept_call : Kept (call inner)
  unfolding disjunction conjunction relation compared among sum addend signed_product signed_literal product factor no_quotient unary primary primary_iri primary_literal no_call call bound_call coalesce_call if_call one_call two_call two_args list literal text_suffix datatype iri_name variable
  kept_call =
      kept_either kept_bound_call
      (kept_either kept_coalesce_call
      (kept_either kept_if_call
      (kept_either kept_one_call
      (kept_either kept_two_call (kept_refusing _ _ _) refl refl (apart_by _ _ refl)) refl refl (apart_by _ _ refl)) refl refl (apart_by _ _ refl)) refl refl (apart_by _ _ refl)) refl refl (apart_by _ _ refl)

  pub kept_primary_iri : Kept (primary_iri ps)
  unfolding primary_iri iri_name no_call
  kept_primary_iri = kept_made _ (kept_before (kept_iri_name ps) kept_no_call (apart_by _ _ refl))

  pub kept_primary_literal : Kept (primary_literal ps)
  unfolding primary_literal datatype no_call
  kept_primary_literal = kept_made _ (kept_literal (kept_before (kept_datatype ps) kept_no_call (apart_by _ _ refl)))

  pub kept_primary : Kept (primary ps inner)
  unfolding disjunction conjunction relation compared among sum addend signed_product signed_literal product factor no_quotient unary primary primary_iri primary_literal no_call call bound_call coalesce_call if_call one_call two_call two_args list literal text_suffix datatype iri_name variable
  kept_primary =
      kept_either kept_inner_parens
      (kept_either kept_call
      (kept_either kept_primary_iri
      (kept_either (kept_made _ kept_variable) kept_primary_literal refl refl (apart_by _ _ refl)) refl refl (apart_by _ _ refl)) refl refl (apart_by _ _ refl)) refl refl (apart_by _ _ refl)

  pub kept_unary : Kept (unary ps inner)
  unfolding disjunction conjunction relation compared among sum addend signed_product signed_literal product factor no_quotient unary primary primary_iri primary_literal no_call call bound_call coalesce_call if_call one_call two_call two_args list literal text_suffix datatype iri_name variable
  kept_unary =
      kept_either (kept_made _ (kept_after (kept_token k.Bang) kept_primary (λ kind e. refl)))
      (kept_either (kept_made _ (kept_after (kept_token k.Plus) kept_primary (λ kind e. refl)))
      (kept_either (kept_made _ (kept_after (kept_token k.Dash) kept_primary (λ kind e. refl))) kept_primary refl refl (apart_by _ _ refl)) refl refl (apart_by _ _ refl)) refl refl (apart_by _ _ refl)

  pub kept_factor : Kept (factor ps inner)
  unfolding disjunction conjunction relation compared among sum addend signed_product signed_literal product factor no_quotient unary primary primary_iri primary_literal no_call call bound_call coalesce_call if_call one_call two_call two_args list literal text_suffix datatype iri_name variable
  kept_factor = kept_before kept_unary kept_no_quotient (apart_by _ _ refl)

  pub kept_product : Kept (product ps inner)
  unfolding disjunction conjunction relation compared among sum addend signed_product signed_literal product factor no_quotient unary primary primary_iri primary_literal no_call call bound_call coalesce_call if_call one_call two_call two_args list literal text_suffix datatype iri_name variable
  kept_product = kept_made _ (kept_chain k.Star kept_factor refl (apart_by _ _ refl))

  pub kept_signed_product : Kept (signed_product ps inner)
  unfolding disjunction conjunction relation compared among sum addend signed_product signed_literal product factor no_quotient unary primary primary_iri primary_literal no_call call bound_call coalesce_call if_call one_call two_call two_args list literal text_suffix datatype iri_name variable
  kept_signed_product = kept_seq (kept_either (kept_made _ (kept_token k.Plus)) (kept_made _ (kept_token k.Dash)) refl refl (apart_by _ _ refl)) kept_product (λ kind e. refl)

  pub kept_signed_literal : Kept (signed_literal ps inner)
  unfolding disjunction conjunction relation compared among sum addend signed_product signed_literal product factor no_quotient unary primary primary_iri primary_literal no_call call bound_call coalesce_call if_call one_call two_call two_args list literal text_suffix datatype iri_name variable
  kept_signed_literal = kept_made _ (kept_seq (kept_one (is k.Signed) signed_of) (kept_many (kept_after (kept_token k.Star) kept_factor (λ kind e. refl)) refl (apart_by _ _ refl)) (λ kind e. refl))

  pub kept_addend : Kept (addend ps inner)
  unfolding disjunction conjunction relation compared among sum addend signed_product signed_literal product factor no_quotient unary primary primary_iri primary_literal no_call call bound_call coalesce_call if_call one_call two_call two_args list literal text_suffix datatype iri_name variable
  kept_addend = kept_either kept_signed_product kept_signed_literal refl refl (apart_by _ _ refl)

  pub kept_sum : Kept (sum ps inner)
  unfolding disjunction conjunction relation compared among sum addend signed_product signed_literal product factor no_quotient unary primary primary_iri primary_literal no_call call bound_call coalesce_call if_call one_call two_call two_args list literal text_suffix datatype iri_name variable
  kept_sum = kept_made _ (kept_seq kept_product (kept_many kept_addend refl (apart_by _ _ refl)) (apart_by _ _ refl))

  pub kept_compared : Kept (compared ps inner)
  unfolding disjunction conjunction relation compared among sum addend signed_product signed_literal product factor no_quotient unary primary primary_iri primary_literal no_call call bound_call coalesce_call if_call one_call two_call two_args list literal text_suffix datatype iri_name variable
  kept_compared = kept_made _ (kept_seq (kept_one (is k.Comparison) comparison_of) kept_sum (λ kind e. refl))

  pub kept_among : Kept (among ps inner)
  unfolding disjunction conjunction relation compared among sum addend signed_product signed_literal product factor no_quotient unary primary primary_iri primary_literal no_call call bound_call coalesce_call if_call one_call two_call two_args list literal text_suffix datatype iri_name variable
  kept_among = kept_made _ (kept_seq (kept_opt (kept_token k.Not) refl) (kept_after (kept_token k.In) kept_list (λ kind e. refl)) (apart_by _ _ refl))

  pub kept_relation : Kept (relation ps inner)
  unfolding disjunction conjunction relation compared among sum addend signed_product signed_literal product factor no_quotient unary primary primary_iri primary_literal no_call call bound_call coalesce_call if_call one_call two_call two_args list literal text_suffix datatype iri_name variable
  kept_relation = kept_made _ (kept_seq kept_sum (kept_opt (kept_either kept_compared kept_among refl refl (apart_by _ _ refl)) refl) (apart_by _ _ refl))

  pub kept_conjunction : Kept (conjunction ps inner)
  unfolding disjunction conjunction relation compared among sum addend signed_product signed_literal product factor no_quotient unary primary primary_iri primary_literal no_call call bound_call coalesce_call if_call one_call two_call two_args list literal text_suffix datatype iri_name variable
  kept_conjunction = kept_made _ (kept_chain k.AndAnd kept_relation refl (apart_by _ _ refl))

  pub kept_disjunction : Kept (disjunction ps inner)
  unfolding disjunction conjunction relation compared among sum addend signed_product signed_literal product factor no_quotient unary primary primary_iri primary_literal no_call call bound_call coalesce_call if_call one_call two_call two_args list literal text_suffix datatype iri_name variable
  kept_disjunction = kept_made _ (kept_chain k.OrOr kept_conjunction refl (apart_by _ _ refl))

module _ (ps : Prefixes) where
  pub expression_fits : (d : Depth Expr) → Shaped (shape_of (disjunction ps nothing)) (disjunction ps (with_depth (shape_of (disjunction ps nothing)) d))
  unfolding disjunction conjunction relation compared among sum addend signed_product signed_literal product factor no_quotient unary primary primary_iri primary_literal no_call call bound_call coalesce_call if_call one_call two_call two_args list literal text_suffix datatype iri_name variable
  expression_fits d = record { begins = refl; empty = refl; goes_on = refl }

  expression_takes : (shape_of (disjunction ps nothing)).empty ≡ false
  unfolding disjunction conjunction relation compared among sum addend signed_product signed_literal product factor no_quotient unary primary primary_iri primary_literal no_call call bound_call coalesce_call if_call one_call two_call two_args list literal text_suffix datatype iri_name variable
  expression_takes = refl

  pub kept_expression : (n : ℕ) → Kept (expression ps n)
  unfolding expression
  kept_expression n = kept_nested (disjunction ps) expression_fits expression_takes (λ d kd. kept_disjunction ps d kd) n

  pub kept_whole_expression : Kept (whole_expression ps)
  unfolding whole_expression
  kept_whole_expression = kept_expression 64

  pub kept_constraint : Kept (constraint ps)
  unfolding constraint whole_expression expression disjunction conjunction relation compared among sum addend signed_product signed_literal product factor no_quotient unary primary primary_iri primary_literal no_call call bound_call coalesce_call if_call one_call two_call two_args list literal text_suffix datatype iri_name variable
  kept_constraint =
      kept_either (kept_parens kept_whole_expression (apart_by _ _ refl))
      (kept_either (kept_call ps (depth alphabet (disjunction ps) 64) kept_whole_expression) (kept_refusing _ _ _) refl refl (apart_by _ _ refl)) refl refl (apart_by _ _ refl)

  -- ---- triples

  pub kept_part_literal : Kept (part_literal ps)
  unfolding part_literal
  kept_part_literal = kept_literal (kept_datatype ps)

  pub kept_graph_term : Kept (graph_term ps)
  unfolding graph_term part_literal literal text_suffix datatype iri_name variable
  kept_graph_term =
      kept_either (kept_made _ kept_variable)
      (kept_either (kept_made _ (kept_iri_name ps))
      (kept_either (kept_refusing _ _ _)
      (kept_either (kept_refusing _ _ _) (kept_made _ kept_part_literal) refl refl (apart_by _ _ refl)) refl refl (apart_by _ _ refl)) refl refl (apart_by _ _ refl)) refl refl (apart_by _ _ refl)

  pub kept_verb_iri : Kept (verb_iri ps)
  unfolding verb_iri no_path iri_name
  kept_verb_iri = kept_before (kept_either (kept_made _ (kept_token k.A)) (kept_iri_name ps) refl refl (apart_by _ _ refl)) kept_no_path (apart_by _ _ refl)

  pub kept_verb : Kept (verb ps)
  unfolding verb verb_iri no_path iri_name variable
  kept_verb = kept_either (kept_made _ kept_variable) (kept_either (kept_made _ kept_verb_iri) (kept_refusing _ _ _) refl refl (apart_by _ _ refl)) refl refl (apart_by _ _ refl)

  pub kept_objects : Kept (objects ps)
  unfolding objects graph_term part_literal literal text_suffix datatype iri_name variable
  kept_objects = kept_chain k.Comma kept_graph_term refl (apart_by _ _ refl)

  pub kept_property : Kept (property ps)
  unfolding property objects verb verb_iri no_path graph_term part_literal literal text_suffix datatype iri_name variable
  kept_property = kept_seq kept_verb kept_objects (apart_by _ _ refl)

  pub kept_more_properties : Kept (more_properties ps)
  unfolding properties more_properties property objects verb verb_iri no_path graph_term part_literal literal text_suffix datatype iri_name variable
  kept_more_properties = kept_many (kept_after (kept_token k.Semicolon) (kept_opt kept_property refl) (λ kind e. refl)) refl (apart_by _ _ refl)

  pub kept_properties : Kept (properties ps)
  unfolding properties more_properties property objects verb verb_iri no_path graph_term part_literal literal text_suffix datatype iri_name variable
  kept_properties = kept_made _ (kept_seq kept_property kept_more_properties (apart_by _ _ refl))

  pub kept_same_subject : Kept (same_subject ps)
  unfolding same_subject properties more_properties property objects verb verb_iri no_path graph_term part_literal literal text_suffix datatype iri_name variable
  kept_same_subject = kept_made _ (kept_seq kept_graph_term kept_properties (apart_by _ _ refl))

  pub kept_dot : (behind : Bool) → Kept (dot behind)
  kept_dot true = kept_token k.Dot
  kept_dot false = kept_refusing _ _ _

  pub dot_apart : (behind : Bool) → Apart (opt (same_subject ps)).begins (dot behind).goes_on
  dot_apart true = λ kind e. refl
  dot_apart false = λ kind e. refl

  pub kept_dot_triples : (behind : Bool) → Kept (dot_triples ps behind)
  unfolding dot_triples same_subject properties more_properties property objects verb verb_iri no_path graph_term part_literal literal text_suffix datatype iri_name variable
  kept_dot_triples behind = kept_after (kept_dot behind) (kept_opt kept_same_subject refl) (dot_apart behind)

  pub dot_fits : (behind : Bool) → Shaped (shape_of (dot_triples ps true)) (dot_triples ps behind)
  unfolding dot_triples same_subject properties more_properties property objects verb verb_iri no_path graph_term part_literal literal text_suffix datatype iri_name variable
  dot_fits true = record { begins = refl; empty = refl; goes_on = refl }
  dot_fits false = record { begins = refl; empty = refl; goes_on = refl }

  pub kept_more_triples : (behind : Bool) → Kept (more_triples ps behind)
  unfolding triples more_triples dot_triples same_subject properties more_properties property objects verb verb_iri no_path graph_term part_literal literal text_suffix datatype iri_name variable
  kept_more_triples behind = kept_many_from _ _ _ kept_dot_triples dot_fits refl (apart_by _ _ refl) behind

  pub kept_triples : Kept (triples ps)
  unfolding triples more_triples dot_triples same_subject properties more_properties property objects verb verb_iri no_path graph_term part_literal literal text_suffix datatype iri_name variable
  kept_triples = kept_made _ (kept_seq kept_same_subject (kept_more_triples true) (apart_by _ _ refl))

-- ---- VALUES

pub kept_new_column : (names : List (List ℕ)) → Kept (new_column names)
unfolding new_column
kept_new_column names = kept_one _ _

pub kept_columns : (names : List (List ℕ)) → Kept (columns names)
unfolding columns new_column
kept_columns names = kept_many_from _ _ _ kept_new_column (λ s. record { begins = refl; empty = refl; goes_on = refl }) refl (apart_by _ _ refl) names

pub kept_row_end : (width : ℕ) (row : List (Option Term)) → Kept (row_end width row)
unfolding row_end
kept_row_end width row = kept_one _ _

module _ (ps : Prefixes) where
  pub kept_value : Kept (value ps)
  unfolding value literal text_suffix datatype iri_name variable
  kept_value = kept_either (kept_made _ (kept_iri_name ps)) (kept_either (kept_made _ (kept_token k.Undef)) (kept_made _ (kept_literal (kept_datatype ps))) refl refl (apart_by _ _ refl)) refl refl (apart_by _ _ refl)

  pub kept_row : (width : ℕ) → Kept (row ps width)
  unfolding row row_end value literal text_suffix datatype iri_name variable
  kept_row width = kept_made _ (kept_then_by _ _ (kept_after (kept_token k.LeftParen) (kept_many kept_value refl (apart_by _ _ refl)) (λ kind e. refl)) (kept_row_end width) (λ x. record { begins = refl; empty = refl; goes_on = refl }) (apart_by _ _ refl))

  pub kept_rows : (width : ℕ) → Kept (rows ps width)
  unfolding rows row row_end value literal text_suffix datatype iri_name variable
  kept_rows width = kept_braces (kept_many (kept_row width) refl (apart_by _ _ refl)) (apart_by _ _ refl)

  pub kept_single_block : Kept (single_block ps)
  unfolding single_block variable value literal text_suffix datatype iri_name
  kept_single_block = kept_made _ (kept_seq kept_variable (kept_braces (kept_many kept_value refl (apart_by _ _ refl)) (apart_by _ _ refl)) (apart_by _ _ refl))

  pub kept_wide_block : Kept (wide_block ps)
  unfolding block single_block wide_block rows row row_end columns new_column value literal text_suffix datatype iri_name variable
  kept_wide_block = kept_made _ (kept_then_by _ _ (kept_parens (kept_columns []) (apart_by _ _ refl)) (λ names. kept_rows (length names)) (λ x. record { begins = refl; empty = refl; goes_on = refl }) (apart_by _ _ refl))

  pub kept_block : Kept (block ps)
  unfolding block single_block wide_block rows row row_end columns new_column value literal text_suffix datatype iri_name variable
  kept_block = kept_either kept_single_block kept_wide_block refl refl (apart_by _ _ refl)

-- ---- groups

pub kept_unbound : (names : List (List ℕ)) → Kept (unbound names)
unfolding unbound
kept_unbound names = kept_one _ _

module _ (ps : Prefixes) (d : Depth Group) (kept : Kept (with_depth (shape_of (braced ps nothing)) d)) where
  abbrev within : Rule Group
  within = with_depth (shape_of (braced ps nothing)) d

  pub kept_union : Kept (union ps within)
  unfolding union braced inside items first_triples item behind_other other service service_name binding unbound block single_block wide_block rows row row_end columns new_column value literal text_suffix datatype iri_name variable constraint whole_expression expression disjunction conjunction relation compared among sum addend signed_product signed_literal product factor no_quotient unary primary primary_iri primary_literal no_call call bound_call coalesce_call if_call one_call two_call two_args list triples more_triples dot_triples same_subject properties more_properties property objects verb verb_iri no_path graph_term part_literal
  kept_union = kept_made _ (kept_chain k.Union kept refl (apart_by _ _ refl))

  pub kept_service_name : Kept (service_name ps)
  unfolding service_name iri_name
  kept_service_name = kept_either (kept_iri_name ps) (kept_refusing _ _ _) refl refl (apart_by _ _ refl)

  pub kept_service : Kept (service ps within)
  unfolding service service_name iri_name braced inside items first_triples item behind_other other union binding unbound block single_block wide_block rows row row_end columns new_column value literal text_suffix datatype variable constraint whole_expression expression disjunction conjunction relation compared among sum addend signed_product signed_literal product factor no_quotient unary primary primary_iri primary_literal no_call call bound_call coalesce_call if_call one_call two_call two_args list triples more_triples dot_triples same_subject properties more_properties property objects verb verb_iri no_path graph_term part_literal
  kept_service = kept_made _ (kept_after (kept_token k.Service) (kept_seq (kept_opt (kept_token k.Silent) refl) (kept_seq kept_service_name kept (apart_by _ _ refl)) (apart_by _ _ refl)) (λ kind e. refl))

  pub kept_binding : (names : List (List ℕ)) → Kept (binding ps names)
  unfolding binding unbound whole_expression expression disjunction conjunction relation compared among sum addend signed_product signed_literal product factor no_quotient unary primary primary_iri primary_literal no_call call bound_call coalesce_call if_call one_call two_call two_args list literal text_suffix datatype iri_name variable
  kept_binding names = kept_made _ (kept_after (kept_token k.Bind) (kept_parens (kept_seq (kept_whole_expression ps) (kept_after (kept_token k.As) (kept_unbound names) (λ kind e. refl)) (apart_by _ _ refl)) (apart_by _ _ refl)) (λ kind e. refl))

  pub kept_other : (names : List (List ℕ)) → Kept (other ps within names)
  unfolding braced inside items first_triples item behind_other other union service service_name binding unbound block single_block wide_block rows row row_end columns new_column value literal text_suffix datatype iri_name variable constraint whole_expression expression disjunction conjunction relation compared among sum addend signed_product signed_literal product factor no_quotient unary primary primary_iri primary_literal no_call call bound_call coalesce_call if_call one_call two_call two_args list triples more_triples dot_triples same_subject properties more_properties property objects verb verb_iri no_path graph_term part_literal
  kept_other names =
      kept_either kept_union
      (kept_either (kept_made _ (kept_after (kept_token k.Optional) kept (λ kind e. refl)))
      (kept_either (kept_made _ (kept_after (kept_token k.Minus) kept (λ kind e. refl)))
      (kept_either kept_service
      (kept_either (kept_made _ (kept_after (kept_token k.Filter) (kept_constraint ps) (λ kind e. refl)))
      (kept_either (kept_binding names)
      (kept_either (kept_made _ (kept_after (kept_token k.Values) (kept_block ps) (λ kind e. refl))) (kept_refusing _ _ _)
      refl refl (apart_by _ _ refl)) refl refl (apart_by _ _ refl)) refl refl (apart_by _ _ refl)) refl refl (apart_by _ _ refl)) refl refl (apart_by _ _ refl)) refl refl (apart_by _ _ refl)) refl refl (apart_by _ _ refl)

  pub kept_behind_other : Kept (behind_other ps)
  unfolding behind_other triples more_triples dot_triples same_subject properties more_properties property objects verb verb_iri no_path graph_term part_literal literal text_suffix datatype iri_name variable
  kept_behind_other = kept_made _ (kept_after (kept_opt (kept_token k.Dot) refl) (kept_opt (kept_triples ps) refl) (apart_by _ _ refl))

  pub kept_item : (names : List (List ℕ)) → Kept (item ps within names)
  unfolding braced inside items first_triples item behind_other other union service service_name binding unbound block single_block wide_block rows row row_end columns new_column value literal text_suffix datatype iri_name variable constraint whole_expression expression disjunction conjunction relation compared among sum addend signed_product signed_literal product factor no_quotient unary primary primary_iri primary_literal no_call call bound_call coalesce_call if_call one_call two_call two_args list triples more_triples dot_triples same_subject properties more_properties property objects verb verb_iri no_path graph_term part_literal
  kept_item names = kept_made _ (kept_seq (kept_other names) kept_behind_other (apart_by _ _ refl))

  pub kept_items : (names : List (List ℕ)) → Kept (items ps within names)
  unfolding braced inside items first_triples item behind_other other union service service_name binding unbound block single_block wide_block rows row row_end columns new_column value literal text_suffix datatype iri_name variable constraint whole_expression expression disjunction conjunction relation compared among sum addend signed_product signed_literal product factor no_quotient unary primary primary_iri primary_literal no_call call bound_call coalesce_call if_call one_call two_call two_args list triples more_triples dot_triples same_subject properties more_properties property objects verb verb_iri no_path graph_term part_literal
  kept_items names = kept_many_from _ _ _ kept_item (λ s. record { begins = refl; empty = refl; goes_on = refl }) refl (apart_by _ _ refl) names

  pub kept_first_triples : Kept (first_triples ps)
  unfolding first_triples triples more_triples dot_triples same_subject properties more_properties property objects verb verb_iri no_path graph_term part_literal literal text_suffix datatype iri_name variable
  kept_first_triples = kept_made _ (kept_opt (kept_either (kept_triples ps) (kept_refusing _ _ _) refl refl (apart_by _ _ refl)) refl)

  pub kept_inside : Kept (inside ps within)
  unfolding braced inside items first_triples item behind_other other union service service_name binding unbound block single_block wide_block rows row row_end columns new_column value literal text_suffix datatype iri_name variable constraint whole_expression expression disjunction conjunction relation compared among sum addend signed_product signed_literal product factor no_quotient unary primary primary_iri primary_literal no_call call bound_call coalesce_call if_call one_call two_call two_args list triples more_triples dot_triples same_subject properties more_properties property objects verb verb_iri no_path graph_term part_literal
  kept_inside = kept_made _ (kept_then_by _ _ kept_first_triples (λ first. kept_items (with_elements [] first)) (λ x. record { begins = refl; empty = refl; goes_on = refl }) (apart_by _ _ refl))

  pub kept_braced : Kept (braced ps within)
  unfolding braced inside items first_triples item behind_other other union service service_name binding unbound block single_block wide_block rows row row_end columns new_column value literal text_suffix datatype iri_name variable constraint whole_expression expression disjunction conjunction relation compared among sum addend signed_product signed_literal product factor no_quotient unary primary primary_iri primary_literal no_call call bound_call coalesce_call if_call one_call two_call two_args list triples more_triples dot_triples same_subject properties more_properties property objects verb verb_iri no_path graph_term part_literal
  kept_braced = kept_braces kept_inside (apart_by _ _ refl)

module _ (ps : Prefixes) where
  braced_fits : (d : Depth Group) → Shaped (shape_of (braced ps nothing)) (braced ps (with_depth (shape_of (braced ps nothing)) d))
  unfolding braced inside items first_triples item behind_other other union service service_name binding unbound block single_block wide_block rows row row_end columns new_column value literal text_suffix datatype iri_name variable constraint whole_expression expression disjunction conjunction relation compared among sum addend signed_product signed_literal product factor no_quotient unary primary primary_iri primary_literal no_call call bound_call coalesce_call if_call one_call two_call two_args list triples more_triples dot_triples same_subject properties more_properties property objects verb verb_iri no_path graph_term part_literal
  braced_fits d = record { begins = refl; empty = refl; goes_on = refl }

  braced_takes : (shape_of (braced ps nothing)).empty ≡ false
  unfolding braced
  braced_takes = refl

  pub kept_group : (n : ℕ) → Kept (group ps n)
  unfolding group
  kept_group n = kept_nested (braced ps) (λ d. braced_fits d) braced_takes (λ d kd. kept_braced ps d kd) n

  pub kept_whole_group : Kept (whole_group ps)
  unfolding whole_group
  kept_whole_group = kept_group 64

-- ---- queries

pub kept_number : Kept number
unfolding number
kept_number = kept_one _ _

pub kept_limit : Kept limit
unfolding limit
kept_limit = kept_after (kept_token k.Limit) kept_number (λ kind e. refl)

pub kept_offset : Kept offset
unfolding offset
kept_offset = kept_after (kept_token k.Offset) kept_number (λ kind e. refl)

pub kept_limits : Kept limits
unfolding limits limit offset number
kept_limits = kept_either (kept_made _ (kept_seq kept_limit (kept_opt kept_offset refl) (apart_by _ _ refl))) (kept_made _ (kept_seq kept_offset (kept_opt kept_limit refl) (apart_by _ _ refl))) refl refl (apart_by _ _ refl)

pub kept_column : Kept column
unfolding column variable
kept_column = kept_either kept_variable (kept_refusing _ _ _) refl refl (apart_by _ _ refl)

pub kept_selected : Kept selected
unfolding selected column variable
kept_selected = kept_either (kept_made _ (kept_token k.Star)) (kept_made _ (kept_some kept_column refl (apart_by _ _ refl))) refl refl (apart_by _ _ refl)

pub kept_distinct : Kept distinct
unfolding distinct
kept_distinct = kept_opt (kept_either (kept_made _ (kept_token k.Distinct)) (kept_made _ (kept_token k.Reduced)) refl refl (apart_by _ _ refl)) refl

pub kept_select_head : Kept select_head
unfolding query_head select_head distinct selected column variable
kept_select_head = kept_made _ (kept_after (kept_token k.Select) (kept_seq kept_distinct kept_selected (apart_by _ _ refl)) (λ kind e. refl))

pub kept_query_head : Kept query_head
unfolding query_head select_head distinct selected column variable
kept_query_head = kept_either kept_select_head (kept_either (kept_made _ (kept_token k.Ask)) (kept_refusing _ _ _) refl refl (apart_by _ _ refl)) refl refl (apart_by _ _ refl)

pub kept_prefix : Kept prefix
unfolding prefix
kept_prefix = kept_after (kept_token k.Prefix) (kept_seq (kept_one (is k.PrefixName) namespace_of) (kept_one (is k.Iri) iri_of) (λ kind e. refl)) (λ kind e. refl)

pub kept_prologue : Kept prologue
unfolding prologue prefix
kept_prologue = kept_many kept_prefix refl (apart_by _ _ refl)

module _ (ps : Prefixes) where
  pub kept_condition : Kept (condition ps)
  unfolding condition constraint whole_expression expression disjunction conjunction relation compared among sum addend signed_product signed_literal product factor no_quotient unary primary primary_iri primary_literal no_call call bound_call coalesce_call if_call one_call two_call two_args list literal text_suffix datatype iri_name variable
  kept_condition =
      kept_either (kept_made _ (kept_after (kept_token k.Asc) (kept_parens (kept_whole_expression ps) (apart_by _ _ refl)) (λ kind e. refl)))
      (kept_either (kept_made _ (kept_after (kept_token k.Desc) (kept_parens (kept_whole_expression ps) (apart_by _ _ refl)) (λ kind e. refl)))
      (kept_either (kept_made _ kept_variable) (kept_made _ (kept_constraint ps)) refl refl (apart_by _ _ refl)) refl refl (apart_by _ _ refl)) refl refl (apart_by _ _ refl)

  pub kept_order : Kept (order ps)
  unfolding order condition constraint whole_expression expression disjunction conjunction relation compared among sum addend signed_product signed_literal product factor no_quotient unary primary primary_iri primary_literal no_call call bound_call coalesce_call if_call one_call two_call two_args list literal text_suffix datatype iri_name variable
  kept_order =
      kept_made _ (kept_opt (kept_either (kept_after (kept_token k.Order) (kept_after (kept_token k.By) (kept_some kept_condition refl (apart_by _ _ refl)) (λ kind e. refl)) (λ kind e. refl))
      (kept_refusing _ _ _) refl refl (apart_by _ _ refl)) refl)

  pub kept_modifiers : Kept (modifiers ps)
  unfolding modifiers order condition constraint whole_expression expression disjunction conjunction relation compared among sum addend signed_product signed_literal product factor no_quotient unary primary primary_iri primary_literal no_call call bound_call coalesce_call if_call one_call two_call two_args list literal text_suffix datatype iri_name variable limits limit offset number
  kept_modifiers = kept_made _ (kept_seq kept_order (kept_opt kept_limits refl) (apart_by _ _ refl))

  pub kept_where_group : Kept (where_group ps)
  unfolding where_group whole_group group braced inside items first_triples item behind_other other union service service_name binding unbound block single_block wide_block rows row row_end columns new_column value literal text_suffix datatype iri_name variable constraint whole_expression expression disjunction conjunction relation compared among sum addend signed_product signed_literal product factor no_quotient unary primary primary_iri primary_literal no_call call bound_call coalesce_call if_call one_call two_call two_args list triples more_triples dot_triples same_subject properties more_properties property objects verb verb_iri no_path graph_term part_literal
  kept_where_group = kept_after (kept_opt (kept_either (kept_token k.Where) (kept_refusing _ _ _) refl refl (apart_by _ _ refl)) refl) (kept_whole_group ps) (apart_by _ _ refl)

  pub kept_main : Kept (main ps)
  unfolding main query_head select_head distinct selected column variable where_group whole_group group braced inside items first_triples item behind_other other union service service_name binding unbound block single_block wide_block rows row row_end columns new_column value literal text_suffix datatype iri_name constraint whole_expression expression disjunction conjunction relation compared among sum addend signed_product signed_literal product factor no_quotient unary primary primary_iri primary_literal no_call call bound_call coalesce_call if_call one_call two_call two_args list triples more_triples dot_triples same_subject properties more_properties property objects verb verb_iri no_path graph_term part_literal modifiers order condition limits limit offset number
  kept_main = kept_made _ (kept_seq kept_query_head (kept_seq kept_where_group kept_modifiers (apart_by _ _ refl)) (apart_by _ _ refl))

  pub kept_body : Kept (body ps)
  unfolding body block single_block wide_block rows row row_end columns new_column value literal text_suffix datatype iri_name variable main query_head select_head distinct selected column where_group whole_group group braced inside items first_triples item behind_other other union service service_name binding unbound constraint whole_expression expression disjunction conjunction relation compared among sum addend signed_product signed_literal product factor no_quotient unary primary primary_iri primary_literal no_call call bound_call coalesce_call if_call one_call two_call two_args list triples more_triples dot_triples same_subject properties more_properties property objects verb verb_iri no_path graph_term part_literal modifiers order condition limits limit offset number
  kept_body = kept_made _ (kept_seq kept_main (kept_opt (kept_after (kept_token k.Values) (kept_block ps) (λ kind e. refl)) refl) (apart_by _ _ refl))

pub kept_query : Kept query
unfolding query prologue prefix body block single_block wide_block rows row row_end columns new_column value literal text_suffix datatype iri_name variable main query_head select_head distinct selected column where_group whole_group group braced inside items first_triples item behind_other other union service service_name binding unbound constraint whole_expression expression disjunction conjunction relation compared among sum addend signed_product signed_literal product factor no_quotient unary primary primary_iri primary_literal no_call call bound_call coalesce_call if_call one_call two_call two_args list triples more_triples dot_triples same_subject properties more_properties property objects verb verb_iri no_path graph_term part_literal modifiers order condition limits limit offset number
kept_query = kept_made _ (kept_then_by _ _ kept_prologue kept_body (λ x. record { begins = refl; empty = refl; goes_on = refl }) (apart_by _ _ refl))

-- ---- the laws of what loops read

module _ (ps : Prefixes) where
  pub opt_property_law : Lawful (opt (property ps))
  unfolding properties more_properties property objects verb verb_iri no_path graph_term part_literal literal text_suffix datatype iri_name variable
  opt_property_law = (kept_opt (kept_property ps) refl).law

  pub graph_term_law : Lawful (graph_term ps)
  graph_term_law = (kept_graph_term ps).law

  pub dot_law : (behind : Bool) → Lawful (dot_triples ps behind)
  dot_law behind = (kept_dot_triples ps behind).law

  pub dot_takes : (shape_of (dot_triples ps true)).empty ≡ false
  unfolding dot_triples
  dot_takes = refl

  pub value_law : Lawful (value ps)
  value_law = (kept_value ps).law

  pub value_takes : (value ps).empty ≡ false
  unfolding value literal text_suffix datatype iri_name variable
  value_takes = refl

  pub row_law : (width : ℕ) → Lawful (row ps width)
  row_law width = (kept_row ps width).law

  pub row_takes : (width : ℕ) → (row ps width).empty ≡ false
  unfolding row row_end value literal text_suffix datatype iri_name variable
  row_takes width = refl

  pub condition_law : Lawful (condition ps)
  condition_law = (kept_condition ps).law

  pub condition_takes : (condition ps).empty ≡ false
  unfolding condition constraint whole_expression expression disjunction conjunction relation compared among sum addend signed_product signed_literal product factor no_quotient unary primary primary_iri primary_literal no_call call bound_call coalesce_call if_call one_call two_call two_args list literal text_suffix datatype iri_name variable
  condition_takes = refl

  module _ (n : ℕ) where
    pub group_law : Lawful (group ps n)
    group_law = (kept_group ps n).law

    pub item_law : (names : List (List ℕ)) → Lawful (item ps (group ps n) names)
    unfolding group
    item_law names = (kept_item ps (depth alphabet (braced ps) n) (kept_group ps n) names).law

    pub item_fits : (names : List (List ℕ)) → Shaped (shape_of (item ps (group ps n) [])) (item ps (group ps n) names)
    unfolding group braced inside items first_triples item behind_other other union service service_name binding unbound block single_block wide_block rows row row_end columns new_column value literal text_suffix datatype iri_name variable constraint whole_expression expression disjunction conjunction relation compared among sum addend signed_product signed_literal product factor no_quotient unary primary primary_iri primary_literal no_call call bound_call coalesce_call if_call one_call two_call two_args list triples more_triples dot_triples same_subject properties more_properties property objects verb verb_iri no_path graph_term part_literal
    item_fits names = record { begins = refl; empty = refl; goes_on = refl }

    pub item_takes : (shape_of (item ps (group ps n) [])).empty ≡ false
    unfolding group braced inside items first_triples item behind_other other union service service_name binding unbound block single_block wide_block rows row row_end columns new_column value literal text_suffix datatype iri_name variable constraint whole_expression expression disjunction conjunction relation compared among sum addend signed_product signed_literal product factor no_quotient unary primary primary_iri primary_literal no_call call bound_call coalesce_call if_call one_call two_call two_args list triples more_triples dot_triples same_subject properties more_properties property objects verb verb_iri no_path graph_term part_literal
    item_takes = refl

pub new_column_law : (names : List (List ℕ)) → Lawful (new_column names)
new_column_law names = (kept_new_column names).law

pub new_column_fits : (names : List (List ℕ)) → Shaped (shape_of (new_column [])) (new_column names)
unfolding new_column
new_column_fits names = record { begins = refl; empty = refl; goes_on = refl }

pub new_column_takes : (shape_of (new_column [])).empty ≡ false
unfolding new_column
new_column_takes = refl

pub column_law : Lawful column
column_law = kept_column.law

pub column_takes : column.empty ≡ false
unfolding column variable
column_takes = refl

pub prefix_law : Lawful prefix
prefix_law = kept_prefix.law

pub prefix_takes : prefix.empty ≡ false
unfolding prefix
prefix_takes = refl

module _ (ps : Prefixes) (n : ℕ) where
  pub law_expression : Lawful (expression ps n)
  law_expression = (kept_expression ps n).law

  pub law_factor : Lawful (factor ps (expression ps n))
  unfolding expression
  law_factor = (kept_factor ps (depth alphabet (disjunction ps) n) (kept_expression ps n)).law

  pub law_addend : Lawful (addend ps (expression ps n))
  unfolding expression
  law_addend = (kept_addend ps (depth alphabet (disjunction ps) n) (kept_expression ps n)).law

  pub addend_takes : (addend ps (expression ps n)).empty ≡ false
  unfolding expression disjunction conjunction relation compared among sum addend signed_product signed_literal product factor no_quotient unary primary primary_iri primary_literal no_call call bound_call coalesce_call if_call one_call two_call two_args list literal text_suffix datatype iri_name variable
  addend_takes = refl

  pub law_relation : Lawful (relation ps (expression ps n))
  unfolding expression
  law_relation = (kept_relation ps (depth alphabet (disjunction ps) n) (kept_expression ps n)).law

  pub law_conjunction : Lawful (conjunction ps (expression ps n))
  unfolding expression
  law_conjunction = (kept_conjunction ps (depth alphabet (disjunction ps) n) (kept_expression ps n)).law

pub query_read_as_spelled : ReadAsSpelled query
query_read_as_spelled = read_as_spelled query kept_query

pub query_refused_as_stopped : RefusedAsStopped query
query_refused_as_stopped = refused_as_stopped query kept_query

pub query_spelled_or_stopped : SpelledOrStopped query
query_spelled_or_stopped = spelled_or_stopped query kept_query

pub query_ends_as_spelled : EndsAsSpelled query
query_ends_as_spelled = ends_as_spelled query kept_query

pub query_refused_for_good : RefusedForGood query
query_refused_for_good = refused_for_good query kept_query

pub query_refused_the_same : RefusedTheSame query
query_refused_the_same = refused_the_same query kept_query

pub query_refused_fitly : RefusedFitly query
query_refused_fitly = refused_fitly query kept_query
