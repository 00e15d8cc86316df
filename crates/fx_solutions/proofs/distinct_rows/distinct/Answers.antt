use Rattle.std.proofs.Common.{◌≡◌, ◌∙◌, ◌++◌, ◌∷◌, [], ℕ, ap, sym, subst, true, not, cond, fold, List}
use Rattle.std.specs.Ordering.{is_eq}
use Rattle.std.specs.Bool.{OnFalse}
use Rattle.std.specs.BTreeSet.{contains}
use Rattle.std.proofs.lemmas.List.{map-append}
use Rattle.fx_algebra.specs.Solutions.{Bindings}
use Rattle.fx_algebra.specs.Sequences.{with_row}
use Rattle.fx_algebra.specs.declared.keys.Keyed.{Keyed}
use Rattle.fx_solutions.specs.Ranks.{whole_rows}
use Rattle.fx_solutions.specs.Selected.{cells_of, cells_cmp}
use Rattle.fx_solutions.specs.declared.distinct_rows.Cells.{Cells}
use Rattle.fx_solutions.proofs.SeenLemmas.{Sees, kept_more, kept_same, sees_more, sees_same}
use Rattle.fx_solutions.proofs.distinct_rows.distinct.Goals as goal

-- one more row
whole_more : (ks js : List Keyed) (k : Keyed) → js ≡ ks ++ k ∷ [] → whole_rows js ≡ whole_rows ks ++ k.row ∷ []
whole_more ks js k e = ap whole_rows e ∙ map-append (λ (k : Keyed). k.row) ks (k ∷ [])

-- the rows that were gone over, and one more
behind_one : (columns : List (List ℕ)) (ks : List Keyed) (k : Keyed) → fold (with_row columns) [] (whole_rows ks ++ k.row ∷ []) ≡ fold (with_row columns) [] (whole_rows (ks ++ k ∷ []))
behind_one columns ks k = ap (fold (with_row columns) []) (sym (map-append (λ (k : Keyed). k.row) ks (k ∷ [])))

pub loop-one-preserved-in_ok-push : goal.loop-one-preserved-in_ok-push
loop-one-preserved-in_ok-push c =
    let columns = c.args.columns.now in
    let kept = whole_rows c.loop-one.kept.items in
    let done = whole_rows c.loop-one.yielded in
    let one = c.in-Some.one in
    let old = c.loop-one.seen in
    let new = c.insert.new.self in
    let key = c.in_ok-cells_of.ensures ∙ ap (cells_of columns) c.row.ensures in
    let more = whole_more c.loop-one.kept.items c.push.new.self.items one c.in_ok-push.ensures.items in
    record {
      kept =
          more ∙ kept_more columns kept done one.row old new c.loop-one.invariant.seen c.loop-one.invariant.kept (sym c.if-branch.true ∙ c.in_ok-insert.ensures.added ∙ ap (λ (k : Cells). not (contains cells_cmp old k)) key)
          ∙ behind_one columns c.loop-one.yielded one;
      seen = subst (λ (v : List Bindings). Sees columns new v) (sym more)
          (sees_more columns kept done one.row old new c.loop-one.invariant.seen
          (λ k. c.in_ok-insert.ensures.updates.0 k ∙ ap (λ (q : Cells). cond (is_eq (cells_cmp q k)) true (contains cells_cmp old k)) key));
    }

pub loop-one-preserved : goal.loop-one-preserved
loop-one-preserved c =
    let columns = c.args.columns.now in
    let kept = whole_rows c.loop-one.kept.items in
    let done = whole_rows c.loop-one.yielded in
    let one = c.in-Some.one in
    let old = c.loop-one.seen in
    let new = c.insert.new.self in
    let key = c.in_ok-cells_of.ensures ∙ ap (cells_of columns) c.row.ensures in
    record {
      kept =
          kept_same columns kept done one.row old new c.loop-one.invariant.seen c.loop-one.invariant.kept (sym c.if-branch.false ∙ c.in_ok-insert.ensures.added ∙ ap (λ (k : Cells). not (contains cells_cmp old k)) key)
          ∙ behind_one columns c.loop-one.yielded one;
      seen = sees_same columns kept done one.row old new c.loop-one.invariant.seen (subst (λ b. OnFalse b (new.keys ≡ old.keys)) c.if-branch.false c.in_ok-insert.ensures.unchanged);
    }
