use Rattle.std.proofs.Common.{rules, ap, ◌≡◌, ◌∙◌, sym, map, subst, All, List}
use Rattle.std.specs.Ordering.{is_lt}
use Rattle.std.proofs.lemmas.Fn.{always_returns_same}
use Rattle.std.proofs.lemmas.List.Sorted.{ranks_by}
use Rattle.fx_algebra.specs.Solutions.{Bindings}
use Rattle.fx_algebra.specs.Sequences.{projected, row_cmp, rows_total, sorted_by}
use Rattle.fx_algebra.proofs.SequenceLemmas.{IsRowOf, all_rows, rows_in_order}
use Rattle.fx_solutions.proofs.sequences.ordered.Goals as goal

pub returns : goal.returns
returns c =
    let columns = c.args.columns.now in
    let rows = c.in_ok-projected.projected.items in
    let e : rows ≡ map (projected columns) c.args.rows.now = c.in_ok-projected.ensures.projected in
    rows_in_order columns rows c.sort_by.new.self.items
    (subst (λ (v : List Bindings). All (IsRowOf columns) v) (sym e) (all_rows columns c.args.rows.now c.in_ok-projected.ensures.rise))
    (c.in_ok-sort_by.ensures.sorted (λ x y. is_lt (row_cmp columns x y)) (ranks_by (rows_total columns) (λ x. x)) (always_returns_same _ _ _ (λ a r f called. search rules)))
    c.in_ok-sort_by.ensures.permutation
    ∙ ap (sorted_by (row_cmp columns)) e
