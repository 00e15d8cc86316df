use Rattle.std.proofs.Common.{◌≡◌, ◌∙◌, IfOk, List, map, ap, subst}
use Rattle.fx_algebra.specs.declared.units.Row.{Row}
use Rattle.fx_founds.specs.Uniting.{row_by}
use Rattle.fx_founds.proofs.RowLemmas.{united_is}
use Rattle.fx_founds.proofs.uniting.unite_rows.Goals as goal

pub returns : goal.returns
returns c = λ u known.
    subst (λ (w : List Row). IfOk c.rows_of.result (λ united. united.items ≡ w))
    (ap (map (row_by c.args.rows.now)) c.in_ok-founds.ensures ∙ united_is u c.args.rows.now c.args.lists.now known)
    c.rows_of.ensures
