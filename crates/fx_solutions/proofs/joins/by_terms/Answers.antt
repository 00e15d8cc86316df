use Rattle.std.proofs.Common.{rules}
use Rattle.std.specs.Ordering.{is_lt}
use Rattle.std.proofs.lemmas.Fn.{always_returns_same}
use Rattle.std.proofs.lemmas.List.Sorted.{ranks_by}
use Rattle.fx_algebra.specs.Sequences.{row_cmp, rows_total}
use Rattle.fx_solutions.proofs.joins.by_terms.Goals as goal

pub returns-clause-rises : goal.returns-clause-rises
returns-clause-rises c =
    let names = c.args.names.now in
    c.in_ok-sort_by.ensures.sorted (λ x y. is_lt (row_cmp names x y)) (ranks_by (rows_total names) (λ x. x)) (always_returns_same _ _ _ (λ a r f called. search rules))
