use Rattle.std.proofs.Common.{◌≡◌, ◌∙◌, ap, drop}
use Rattle.std.proofs.lemmas.Result.{IfOk-weaker}
use Rattle.fx_algebra.specs.Answers.{selected}
use Rattle.fx_algebra.specs.OrderedRows.{in_order}
use Rattle.fx_algebra.specs.Sequences.{distinct_rows, limited}
use Rattle.fx_solutions.specs.Ranks.{projected_rows, front}
use Rattle.fx_solutions.proofs.RankLemmas.{once_kept, front_kept}
use Rattle.fx_solutions.proofs.selections.sequence.Goals as goal

pub returns : goal.returns
returns c =
    let q = c.args.query.now in
    let once = c.args.is_distinct in
    let columns = c.args.columns.now in
    let ranked = c.in_ok-ranked.ranked.items in
    let kept = c.in_ok-ranked-2.ranked.items in
    let part = c.limited-kept.ensures ∙ ap (front q.limit) (c.behind.ensures ∙ ap (drop q.offset) c.as_slice-2.ensures.value) in
    let ordered = c.in_ok-ranked.ensures ∙ ap (λ orders. in_order orders columns c.args.rows.now) c.as_slice.ensures in
    let same : projected_rows columns c.limited-kept.result.now ≡ selected q once columns c.args.rows.now =
    ap (projected_rows columns) part ∙ front_kept columns q.offset q.limit kept
    ∙ ap (λ rows. limited q.limit (drop q.offset rows)) (once_kept once columns ranked kept c.in_ok-ranked-2.ensures ∙ ap (distinct_rows once columns) ordered) in
    IfOk-weaker c.project_ranked.result _ _ (λ rows f. f ∙ same) c.project_ranked.ensures
