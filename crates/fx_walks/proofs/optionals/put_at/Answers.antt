use Rattle.std.proofs.Common.{◌∙◌, ap, ◌++◌, ◌∷◌, []}
use Rattle.fx_walks.specs.declared.optionals.LeftRow.{LeftRow}
use Rattle.fx_walks.proofs.LeftRowLemmas.{with_found_at}
use Rattle.fx_walks.proofs.optionals.put_at.Goals as goal

pub returns : goal.returns
returns c =
    let s = c.args.solution in
    let d = c.index_mut.result.now in
    let new : LeftRow = record { row = d.row; found = c.push.new.self } in
    with_found_at s c.args.at c.args.rows.now.items d new c.requires (ap (λ (r : LeftRow). r.row) c.index_mut.ensures.value)
    (c.in_ok-push.ensures.items ∙ ap (λ (r : LeftRow). r.found.items ++ s ∷ []) c.index_mut.ensures.value)
