use Rattle.std.proofs.Common.{arith, sym, ◌∙◌, refl}
use Rattle.std.proofs.lemmas.Result.{err_from_is_err_and}
use Rattle.fx_grammar.specs.declared.kinds.Kind.TheVariants as k
use Rattle.fx_grammar.specs.Grammar.{group, braced}
use Rattle.fx_grammar.proofs.GrammarLaws.{group_law}
use Rattle.fx_readers.proofs.Loops.{hands_on, chain_made, chain_made_refused, chain_turn, chain_fails, chain_ends, chain_smaller, nested_none, nested_more}
use Rattle.fx_groups.proofs.GroupLaws.{items_turn, items_fail, items_end, items_smaller, inside_made, inside_refused, inside_unread}
use Rattle.fx_grammar.specs.Grammar as grammar
use Rattle.fx_algebra.specs.declared.queries.Element.TheVariants as element
use Rattle.fx_groups.proofs.groups.+groups.Goals as goal

pub group-returns-then-depth-eq0 : goal.group-returns-then-depth-eq0
unfolding group
group-returns-then-depth-eq0 g t c =
    rw (nested_none (braced c.args.prefixes.now) c.args.depth c.args.tokens.now c.if-depth-eq0.true) (rw c.refuse.ensures refl)

pub group-returns : goal.group-returns
unfolding group
group-returns g t c =
    rw (nested_more (braced c.args.prefixes.now) c.args.depth c.args.tokens.now (omega arith)) c.braced.ensures

pub union-returns-in_err-parts-2 : goal.union-returns-in_err-parts-2
unfolding grammar.union
union-returns-in_err-parts-2 g t c =
    let p = err_from_is_err_and c.from_residual-in_err-parts-2.result c.from_residual-in_err-parts-2.ensures.1 in
    rw (p.1, p.2) (hands_on _ _ _ c.in_err-parts-2.ensures (λ r e. chain_made_refused k.Union (group c.args.prefixes.now c.args.depth) element.Union c.args.tokens.now c.in_ok-first.rest.now c.in_ok-first.first _ r c.in_ok-first.ensures c.in_ok-parts.ensures e))

pub union-returns : goal.union-returns
unfolding grammar.union
union-returns g t c =
    chain_made k.Union (group c.args.prefixes.now c.args.depth) element.Union c.args.tokens.now c.in_ok-first.rest.now _ c.in_ok-first.first _ _ _ c.in_ok-first.ensures c.in_ok-parts.ensures c.in_ok-parts-2.ensures c.in_ok-element.ensures

pub union_more-returns-in_err-next : goal.union_more-returns-in_err-next
union_more-returns-in_err-next g t c =
    let p = err_from_is_err_and c.from_residual-in_err-next.result c.from_residual-in_err-next.ensures.1 in
    rw (p.1, p.2, ← c.more.invariant)
    (hands_on _ _ _ c.in_err-next.ensures (λ r e. chain_fails k.Union (group c.args.prefixes.now c.args.depth) (group_law c.args.prefixes.now c.args.depth) c.more.parts c.more.rest.now c.in_ok-after.after.now r (sym c.sees.ensures ∙ c.more-test.true) c.in_ok-after.ensures e))

pub union_more-more-smaller : goal.union_more-more-smaller
union_more-more-smaller g t c = chain_smaller k.Union (group c.args.prefixes.now c.args.depth) (group_law c.args.prefixes.now c.args.depth) c.more.rest.now c.in_ok-after.after.now c.in_ok-next.after.now c.in_ok-next.next c.in_ok-after.ensures c.in_ok-next.ensures

pub union_more-more-preserved : goal.union_more-more-preserved
union_more-more-preserved g t c =
    rw c.in_ok-push.ensures.ok
    (chain_turn k.Union (group c.args.prefixes.now c.args.depth) (group_law c.args.prefixes.now c.args.depth) c.more.parts c.more.rest.now c.in_ok-after.after.now c.in_ok-next.after.now c.in_ok-next.next (sym c.sees.ensures ∙ c.more-test.true) c.in_ok-after.ensures c.in_ok-next.ensures ∙ c.more.invariant)

pub union_more-returns : goal.union_more-returns
union_more-returns g t c =
    sym c.more.invariant ∙ chain_ends k.Union (group c.args.prefixes.now c.args.depth) (group_law c.args.prefixes.now c.args.depth) c.more.parts c.more.rest.now (sym c.sees.ensures ∙ c.more-test.false)

pub items-returns-in_err-next : goal.items-returns-in_err-next
items-returns-in_err-next g t c =
    let p = err_from_is_err_and c.from_residual.result c.from_residual.ensures.1 in
    rw (p.1, p.2, ← c.more.invariant)
    (hands_on _ _ _ c.in_err-next.ensures (λ r e. items_fail c.args.prefixes.now c.args.depth c.more.names.keys c.more.elements c.more.rest.now r (sym (c.sees_item.ensures c.args.prefixes.now c.args.depth) ∙ c.more-test.true) e))

pub items-more-smaller : goal.items-more-smaller
items-more-smaller g t c = items_smaller c.args.prefixes.now c.args.depth c.more.names.keys c.more.rest.now c.in_ok-next.after.now c.in_ok-next.next c.in_ok-next.ensures

pub items-more-preserved : goal.items-more-preserved
items-more-preserved g t c =
    rw (c.in_ok-append.ensures, c.in_ok-note.ensures, c.as_slice.ensures)
    (items_turn c.args.prefixes.now c.args.depth c.more.names.keys c.more.elements c.more.rest.now c.in_ok-next.after.now c.in_ok-next.next (sym (c.sees_item.ensures c.args.prefixes.now c.args.depth) ∙ c.more-test.true) c.in_ok-next.ensures ∙ c.more.invariant)

pub items-returns : goal.items-returns
items-returns g t c =
    sym c.more.invariant ∙ items_end c.args.prefixes.now c.args.depth c.more.names.keys c.more.elements c.more.rest.now (sym (c.sees_item.ensures c.args.prefixes.now c.args.depth) ∙ c.more-test.false)

pub inside-returns-in_err-elements : goal.inside-returns-in_err-elements
inside-returns-in_err-elements g t c =
    let p = err_from_is_err_and c.from_residual-in_err-elements.result c.from_residual-in_err-elements.ensures.1 in
    rw (p.1, p.2) (hands_on _ _ _ c.in_err-elements.ensures (λ r e. inside_refused c.args.prefixes.now c.args.depth c.args.tokens.now c.in_ok-first.rest.now c.in_ok-first.first _ r c.in_ok-first.ensures (rw (c.in_ok-note.ensures, c.no_names-names.ensures, c.as_slice.ensures) refl) e))

pub inside-returns : goal.inside-returns
inside-returns g t c =
    inside_made c.args.prefixes.now c.args.depth c.args.tokens.now c.in_ok-first.rest.now _ c.in_ok-first.first _ _ c.in_ok-first.ensures (rw (c.in_ok-note.ensures, c.no_names-names.ensures, c.as_slice.ensures) refl) c.in_ok-elements.ensures

pub inside-returns-in_err-first : goal.inside-returns-in_err-first
inside-returns-in_err-first g t c =
    let p = err_from_is_err_and c.from_residual.result c.from_residual.ensures.1 in
    rw (p.1, p.2) (hands_on _ _ _ c.in_err-first.ensures (λ r e. inside_unread c.args.prefixes.now c.args.depth c.args.tokens.now r e))
