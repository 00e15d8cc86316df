use Rattle.std.proofs.Common.{◌∙◌, ap, sym, map, not, ℕ, List}
use Rattle.fx_terms.specs.declared.terms.Term.{Term}
use Rattle.fx_algebra.specs.Solutions.{Bindings}
use Rattle.fx_bound.proofs.SentLemmas.{in_order_just}
use Rattle.fx_bound.proofs.reading.binds_just.Goals as goal

pub returns-then-is_in_order : goal.returns-then-is_in_order
returns-then-is_in_order c = λ e.
    in_order_just c.args.branch.now c.args.row.now (ap not c.if-is_none.ensures)
    (ap (λ (v : Bindings). map (λ (e : List ℕ × Term). e.0) v) (sym c.pairs.ensures.all)
    ∙ c.is_in_order.ensures c.if-is_in_order.true
    ∙ ap (λ (v : List (List ℕ × List ℕ)). map (λ (e : List ℕ × List ℕ). e.0) v) c.as_slice.ensures)
