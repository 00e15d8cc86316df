use Rattle.std.proofs.Common.{◌≡◌, ◌+◌, ◌*◌, length}
use Rattle.fx_grammar.specs.Rule.{with_front, with_each, more}
use Rattle.fx_grammar.specs.Grammar.{group, items_from}
use Rattle.fx_grammar.specs.declared.kinds.Kind.TheVariants as k
use Rattle.fx_groups.proofs.groups.+groups.Given as goal

abbrev pub decreases-group : goal.decreases-group
decreases-group g l = 16 * l.depth

abbrev pub decreases-union_more : goal.decreases-union_more
decreases-union_more g l = 16 * l.depth + 1

abbrev pub decreases-union : goal.decreases-union
decreases-union g l = 16 * l.depth + 2

abbrev pub decreases-service : goal.decreases-service
decreases-service g l = 16 * l.depth + 2

abbrev pub decreases-optional : goal.decreases-optional
decreases-optional g l = 16 * l.depth + 2

abbrev pub decreases-minus : goal.decreases-minus
decreases-minus g l = 16 * l.depth + 2

abbrev pub decreases-other : goal.decreases-other
decreases-other g l = 16 * l.depth + 3

abbrev pub decreases-item : goal.decreases-item
decreases-item g l = 16 * l.depth + 4

abbrev pub decreases-items : goal.decreases-items
decreases-items g l = 16 * l.depth + 5

abbrev pub decreases-inside : goal.decreases-inside
decreases-inside g l = 16 * l.depth + 6

abbrev pub decreases-braced : goal.decreases-braced
decreases-braced g l = 16 * l.depth + 7

abbrev pub invariant-union_more-more : goal.invariant-union_more-more
invariant-union_more-more g l =
    with_front l.parts (more k.Union (group l.prefixes l.depth) l.rest) ≡ with_front l.fn.parts (more k.Union (group l.prefixes l.depth) l.tokens)

abbrev pub decreases-union_more-more : goal.decreases-union_more-more
decreases-union_more-more g l = length l.rest

abbrev pub invariant-items-more : goal.invariant-items-more
invariant-items-more g l =
    with_each (λ es. es) l.elements (items_from l.prefixes (group l.prefixes l.depth) l.names.keys l.rest) ≡ with_each (λ es. es) l.fn.elements (items_from l.prefixes (group l.prefixes l.depth) l.fn.names.keys l.tokens)

abbrev pub decreases-items-more : goal.decreases-items-more
decreases-items-more g l = length l.rest
