use Rattle.std.proofs.Common.{sym, ◌∙◌}
use Rattle.std.proofs.lemmas.Result.{err_from_is_err_and}
use Rattle.fx_turtle.specs.Gives.{triple_of}
use Rattle.fx_turtle.specs.Grammar.{object}
use Rattle.fx_turtle.specs.Sources.{left}
use Rattle.fx_turtle.specs.declared.kinds.Kind.TheVariants as k
use Rattle.fx_turtle.proofs.Leaves.{hands_on}
use Rattle.fx_turtle.proofs.Loops.{items_turn, items_fail, items_end, items_smaller}
use Rattle.fx_turtle.proofs.TripleParts.{object_law, objects_first, objects_fail}
use Rattle.fx_turtle.proofs.triples.objects.Goals as goal

pub returns-in_err-next : goal.returns-in_err-next
returns-in_err-next c =
    let p = err_from_is_err_and c.from_residual.result c.from_residual.ensures.1 in
    rw (p.1, p.2) (hands_on _ _ _ c.in_err-next.ensures (λ r e. objects_fail c.args.prefixes.now c.args.about.now.subject c.args.about.now.predicate _ _ r e))

pub more-init : goal.more-init
more-init c = objects_first c.args.prefixes.now c.args.about.now.subject c.args.about.now.predicate c.args.triples.now.items c.one_object.new.triples.items (left c.args.source.now c.args.at) (left c.args.source.now c.in_ok-next.next) c.in_ok-next.ensures

pub returns-in_err-next-2 : goal.returns-in_err-next-2
returns-in_err-next-2 c =
    let p = err_from_is_err_and c.from_residual-in_err-next-2.result c.from_residual-in_err-next-2.ensures.1 in
    rw (p.1, p.2, ← c.more.invariant)
    (hands_on _ _ _ c.in_err-next-2.ensures
    (λ r e.
    items_fail k.Comma (object c.args.prefixes.now) (object_law c.args.prefixes.now) (triple_of c.args.about.now.subject c.args.about.now.predicate) c.more.triples.items (left c.args.source.now c.more.next) (left c.args.source.now c.in_ok-after.after) r
    (sym c.sees.ensures ∙ c.more-test.true) c.in_ok-after.ensures e))

pub more-smaller : goal.more-smaller
more-smaller c =
    items_smaller k.Comma (object c.args.prefixes.now) (object_law c.args.prefixes.now) (triple_of c.args.about.now.subject c.args.about.now.predicate) c.more.triples.items c.one_object-in-more.new.triples.items (left c.args.source.now c.more.next)
    (left c.args.source.now c.in_ok-after.after) (left c.args.source.now c.in_ok-next-2.next) c.in_ok-after.ensures c.in_ok-next-2.ensures

pub more-preserved : goal.more-preserved
more-preserved c =
    items_turn k.Comma (object c.args.prefixes.now) (object_law c.args.prefixes.now) (triple_of c.args.about.now.subject c.args.about.now.predicate) c.more.triples.items c.one_object-in-more.new.triples.items (left c.args.source.now c.more.next)
    (left c.args.source.now c.in_ok-after.after) (left c.args.source.now c.in_ok-next-2.next) (sym c.sees.ensures ∙ c.more-test.true) c.in_ok-after.ensures c.in_ok-next-2.ensures
    ∙ c.more.invariant

pub returns : goal.returns
returns c =
    sym c.more.invariant
    ∙ items_end k.Comma (object c.args.prefixes.now) (object_law c.args.prefixes.now) (triple_of c.args.about.now.subject c.args.about.now.predicate) c.more.triples.items (left c.args.source.now c.more.next) (sym c.sees.ensures ∙ c.more-test.false)
