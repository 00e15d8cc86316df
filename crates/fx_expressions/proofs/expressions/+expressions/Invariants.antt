use Rattle.std.proofs.Common.{◌≡◌, ◌+◌, ◌*◌, length}
use Rattle.fx_grammar.specs.Rule.{with_front, more, any_number}
use Rattle.fx_grammar.specs.declared.kinds.Kind.TheVariants as k
use Rattle.fx_grammar.specs.Grammar as grammar
use Rattle.fx_expressions.proofs.expressions.+expressions.Given as goal

abbrev pub decreases-expression : goal.decreases-expression
decreases-expression l = 32 * l.depth

abbrev pub decreases-parens : goal.decreases-parens
decreases-parens l = 32 * l.depth + 1

abbrev pub decreases-list_more : goal.decreases-list_more
decreases-list_more l = 32 * l.depth + 2

abbrev pub decreases-some_list : goal.decreases-some_list
decreases-some_list l = 32 * l.depth + 3

abbrev pub decreases-list : goal.decreases-list
decreases-list l = 32 * l.depth + 4

abbrev pub decreases-two_args : goal.decreases-two_args
decreases-two_args l = 32 * l.depth + 4

abbrev pub decreases-coalesce_call : goal.decreases-coalesce_call
decreases-coalesce_call l = 32 * l.depth + 5

abbrev pub decreases-if_call : goal.decreases-if_call
decreases-if_call l = 32 * l.depth + 5

abbrev pub decreases-one_call : goal.decreases-one_call
decreases-one_call l = 32 * l.depth + 5

abbrev pub decreases-two_call : goal.decreases-two_call
decreases-two_call l = 32 * l.depth + 5

abbrev pub decreases-call : goal.decreases-call
decreases-call l = 32 * l.depth + 6

abbrev pub decreases-primary : goal.decreases-primary
decreases-primary l = 32 * l.depth + 8

abbrev pub decreases-unary : goal.decreases-unary
decreases-unary l = 32 * l.depth + 9

abbrev pub decreases-factor : goal.decreases-factor
decreases-factor l = 32 * l.depth + 10

abbrev pub decreases-product_more : goal.decreases-product_more
decreases-product_more l = 32 * l.depth + 11

abbrev pub decreases-product : goal.decreases-product
decreases-product l = 32 * l.depth + 12

abbrev pub decreases-signed_product : goal.decreases-signed_product
decreases-signed_product l = 32 * l.depth + 13

abbrev pub decreases-signed_literal : goal.decreases-signed_literal
decreases-signed_literal l = 32 * l.depth + 13

abbrev pub decreases-addend : goal.decreases-addend
decreases-addend l = 32 * l.depth + 14

abbrev pub decreases-addends : goal.decreases-addends
decreases-addends l = 32 * l.depth + 15

abbrev pub decreases-sum : goal.decreases-sum
decreases-sum l = 32 * l.depth + 16

abbrev pub decreases-compared : goal.decreases-compared
decreases-compared l = 32 * l.depth + 17

abbrev pub decreases-among : goal.decreases-among
decreases-among l = 32 * l.depth + 17

abbrev pub decreases-relative : goal.decreases-relative
decreases-relative l = 32 * l.depth + 18

abbrev pub decreases-relation : goal.decreases-relation
decreases-relation l = 32 * l.depth + 19

abbrev pub decreases-and_more : goal.decreases-and_more
decreases-and_more l = 32 * l.depth + 20

abbrev pub decreases-conjunction : goal.decreases-conjunction
decreases-conjunction l = 32 * l.depth + 21

abbrev pub decreases-or_more : goal.decreases-or_more
decreases-or_more l = 32 * l.depth + 22

abbrev pub decreases-disjunction : goal.decreases-disjunction
decreases-disjunction l = 32 * l.depth + 23

abbrev pub invariant-list_more-more : goal.invariant-list_more-more
invariant-list_more-more l =
    let a = grammar.expression l.prefixes l.depth in
    with_front l.parts (more k.Comma a l.rest) ≡ with_front l.fn.parts (more k.Comma a l.tokens)

abbrev pub decreases-list_more-more : goal.decreases-list_more-more
decreases-list_more-more l = length l.rest

abbrev pub invariant-product_more-more : goal.invariant-product_more-more
invariant-product_more-more l =
    let a = grammar.factor l.prefixes (grammar.expression l.prefixes l.depth) in
    with_front l.parts (more k.Star a l.rest) ≡ with_front l.fn.parts (more k.Star a l.tokens)

abbrev pub decreases-product_more-more : goal.decreases-product_more-more
decreases-product_more-more l = length l.rest

abbrev pub invariant-and_more-more : goal.invariant-and_more-more
invariant-and_more-more l =
    let a = grammar.relation l.prefixes (grammar.expression l.prefixes l.depth) in
    with_front l.parts (more k.AndAnd a l.rest) ≡ with_front l.fn.parts (more k.AndAnd a l.tokens)

abbrev pub decreases-and_more-more : goal.decreases-and_more-more
decreases-and_more-more l = length l.rest

abbrev pub invariant-or_more-more : goal.invariant-or_more-more
invariant-or_more-more l =
    let a = grammar.conjunction l.prefixes (grammar.expression l.prefixes l.depth) in
    with_front l.parts (more k.OrOr a l.rest) ≡ with_front l.fn.parts (more k.OrOr a l.tokens)

abbrev pub decreases-or_more-more : goal.decreases-or_more-more
decreases-or_more-more l = length l.rest

abbrev pub invariant-addends-more : goal.invariant-addends-more
invariant-addends-more l =
    let a = grammar.addend l.prefixes (grammar.expression l.prefixes l.depth) in
    with_front l.parts (any_number a l.rest) ≡ any_number a l.tokens

abbrev pub decreases-addends-more : goal.decreases-addends-more
decreases-addends-more l = length l.rest
