use Rattle.std.proofs.Common.{◌≡◌}
use Rattle.serde_json.specs.View.{members_view}
use Rattle.fx_results.specs.Reading as spec
use Rattle.fx_results.proofs.bindings.are_columns.Given as goal

-- what is left decides
abbrev pub invariant-loop-name : goal.invariant-loop-name
invariant-loop-name l = spec.are_columns l.columns (members_view l.name-iterator) ≡ spec.are_columns l.columns (members_view l.members.entries)
