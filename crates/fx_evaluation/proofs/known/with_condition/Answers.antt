use Rattle.std.proofs.Common.{◌∙◌, sym}
use Rattle.fx_evaluation.proofs.ConditionLemmas.{contained_at}
use Rattle.fx_evaluation.proofs.KnownLemmas.{as_before, known_rows}
use Rattle.fx_evaluation.proofs.known.with_condition.Goals as goal

pub returns-then-has_name : goal.returns-then-has_name
returns-then-has_name c =
    known_rows c.args.conditions.now c.index-conditions-place.result c.in-Some.name.now c.in-Some.iri.now (contained_at c.args.conditions.now c.index-conditions-place.result c.args.place c.requires c.index-conditions-place.is)
    c.in-Some.ensures c.args.patterns.now c.args.rows.items c.in_ok-table.table.items c.in_ok-known.known.items (sym c.has_name.ensures ∙ c.if-has_name.true) (rw c.as_slice-then-has_name.ensures.value at c.known_to_rise.ensures)
    c.in_ok-table.ensures (rw c.as_slice-then-has_name-2.ensures.value at c.in_ok-known.ensures)

pub returns : goal.returns
returns c = as_before c.args.conditions.now c.args.patterns.now c.args.rows.items
