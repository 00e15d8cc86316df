use Rattle.std.proofs.Common.{◌≡◌, ◌∙◌, is_some, not, true, false, sym, ap}
use Rattle.fx_results.proofs.ColumnLemmas.{IsIndex-one, is_some-found}
use Rattle.fx_results.proofs.columns.add.Goals as goal

pub returns-then-stood-clause-new : goal.returns-then-stood-clause-new
returns-then-stood-clause-new c =
    let stood : is_some c.in_ok-insert.field-0 ≡ true = cc in
    sym (ap not (sym (is_some-found c.args.index.now c.args.names.now.items c.in_ok-text.text c.args.name c.in_ok-insert.field-0 (c.in_ok-text.ensures.ok ∙ c.text.ensures.value) c.requires c.in_ok-insert.ensures.old) ∙ stood))

pub returns-clause-new : goal.returns-clause-new
returns-clause-new c =
    let fresh : is_some c.in_ok-insert.field-0 ≡ false = cc in
    sym (ap not (sym (is_some-found c.args.index.now c.args.names.now.items c.in_ok-text.text c.args.name c.in_ok-insert.field-0 (c.in_ok-text.ensures.ok ∙ c.text.ensures.value) c.requires c.in_ok-insert.ensures.old) ∙ fresh))

pub returns-clause-found : goal.returns-clause-found
returns-clause-found c = λ t.
    rw c.in_ok-push.ensures.items (IsIndex-one c.args.index.now c.insert.new.self c.in_ok-text.text c.in_ok-copy.field-0 c.args.name c.args.names.now.items (c.in_ok-text.ensures.ok ∙ c.text.ensures.value) c.in_ok-copy.ensures c.requires c.in_ok-insert.ensures.updates)
