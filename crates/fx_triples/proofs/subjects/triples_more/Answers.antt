use Rattle.std.proofs.Common.{sym, ◌∙◌}
use Rattle.std.proofs.lemmas.Result.{err_from_is_err_and}
use Rattle.fx_readers.proofs.Loops.{hands_on}
use Rattle.fx_triples.proofs.TripleLaws.{triples_turn, triples_fail, triples_end, triples_smaller}
use Rattle.fx_triples.proofs.subjects.triples_more.Goals as goal

pub returns-in_err-next : goal.returns-in_err-next
returns-in_err-next c =
    let p = err_from_is_err_and c.from_residual.result c.from_residual.ensures.1 in
    rw (p.1, p.2, ← c.more.invariant)
    (hands_on _ _ _ c.in_err-next.ensures (λ r e. triples_fail c.args.prefixes.now c.more.behind c.more.patterns c.more.rest.now r (sym c.sees.ensures ∙ c.more-test.true) e))

pub more-smaller : goal.more-smaller
more-smaller c = triples_smaller c.args.prefixes.now c.more.behind c.more.rest.now c.in_ok-next.after.now c.in_ok-next.next c.in_ok-next.ensures

pub more-preserved : goal.more-preserved
more-preserved c =
    rw (c.in_ok-add_triples.ensures, c.is_some-behind.ensures)
    (triples_turn c.args.prefixes.now c.more.behind c.more.patterns c.more.rest.now c.in_ok-next.after.now c.in_ok-next.next (sym c.sees.ensures ∙ c.more-test.true) c.in_ok-next.ensures ∙ c.more.invariant)

pub returns : goal.returns
returns c = sym c.more.invariant ∙ triples_end c.args.prefixes.now c.more.behind c.more.patterns c.more.rest.now (sym c.sees.ensures ∙ c.more-test.false)
