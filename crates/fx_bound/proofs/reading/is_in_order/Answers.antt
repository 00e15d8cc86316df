use Rattle.std.proofs.Common.{sym, ◌∙◌, ap, arith, ℕ, List}
use Rattle.fx_terms.specs.declared.terms.Term.{Term}
use Rattle.fx_bound.proofs.SentLemmas.{same_more, same_name}
use Rattle.fx_bound.proofs.reading.is_in_order.Goals as goal

pub loop-i-preserved : goal.loop-i-preserved
loop-i-preserved c =
    same_more c.args.pairs.now c.args.names.now c.loop-i.i c.index-pairs-i.result c.index-names-i.result (omega arith) (omega arith) c.index-pairs-i.is c.index-names-i.is
    (ap (λ (e : List ℕ × Term). e.0) c.index-pairs-i.is ∙ same_name _ _ (sym c.ne.ensures ∙ c.if-ne.false) ∙ sym (ap (λ (e : List ℕ × List ℕ). e.0) c.index-names-i.is))
    c.loop-i.invariant
