use Rattle.std.proofs.Common.{rules, subst, IsPermutation, List}
use Rattle.std.specs.Ordering.{is_lt}
use Rattle.std.proofs.lemmas.Fn.{always_returns_same}
use Rattle.std.proofs.lemmas.List.Sorted.{ranks_by}
use Rattle.fx_algebra.specs.OrderedRows.{keyed_cmp}
use Rattle.fx_algebra.specs.declared.keys.Keyed.{Keyed}
use Rattle.fx_solutions.proofs.KeyLemmas.{keyed_total}
use Rattle.fx_solutions.proofs.RankLemmas.{ranked_are_in_order}
use Rattle.fx_solutions.proofs.ranked_rows.ranked_in_order.Goals as goal

pub returns : goal.returns
returns c =
    let orders = c.args.orders.now in
    let columns = c.args.columns.now in
    let ks = c.sort_by.new.self.items in
    ranked_are_in_order orders columns c.args.rows.now ks c.in_ok-ranked.ensures.rise
    (c.in_ok-sort_by.ensures.sorted (λ x y. is_lt (keyed_cmp orders columns x y)) (ranks_by (keyed_total orders columns) (λ x. x)) (always_returns_same _ _ _ (λ a r f called. search rules)))
    (subst (λ (v : List Keyed). IsPermutation v ks) c.in_ok-ranked.ensures.ranked c.in_ok-sort_by.ensures.permutation)
