use Rattle.std.proofs.Common.{◌∙◌, ap, ◌++◌}
use Rattle.fx_evaluation.proofs.ConjunctLemmas.{one_added, parts_added}
use Rattle.fx_evaluation.proofs.conditions.add_conjuncts.Goals as goal

pub returns-in_ok-add_all-in-And : goal.returns-in_ok-add_all-in-And
returns-in_ok-add_all-in-And c =
    parts_added c.args.filter.now c.args.parts.now.items c.add_all.new.parts.items c.in-And.conjuncts c.in-And.is
    (c.in_ok-add_all-in-And.ensures ∙ ap (λ es. c.args.parts.now.items ++ es) c.as_slice.ensures)

pub returns-in_ok-push-in_default : goal.returns-in_ok-push-in_default
returns-in_ok-push-in_default c =
    one_added c.args.filter.now c.in_ok-copy-in_default.field-0 c.args.parts.now.items c.push.new.self.items c.in_ok-copy-in_default.ensures c.in_ok-push-in_default.ensures.items
