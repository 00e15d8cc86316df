use Rattle.std.proofs.Common.{◌∙◌, ap}
use Rattle.std.specs.List.{flat_map}
use Rattle.std.proofs.lemmas.Result.{IfOk-weaker}
use Rattle.fx_walks.specs.LeftRows.{rows_of}
use Rattle.fx_walks.proofs.LeftRowLemmas.{all_kept}
use Rattle.fx_walks.proofs.optionals.or_themselves.Goals as goal

pub returns : goal.returns
returns c =
    IfOk-weaker c.all_of.result _ _
    (λ rows e. e ∙ ap (flat_map rows_of) c.in_ok-rows.ensures ∙ all_kept c.args.conditions.now 0 c.args.left.items c.args.found.items)
    c.all_of.ensures
