use Rattle.std.proofs.Common.{◌≡◌, true}
use Rattle.serde_json.specs.View.{members_view}
use Rattle.fx_results.specs.Reading.{terms_in, are_columns}
use Rattle.fx_results.proofs.ReadingLemmas.{behind}
use Rattle.fx_results.proofs.bindings.terms_of.Given as goal

-- what is left completes the terms, and has columns alone
abbrev pub invariant-loop-name : goal.invariant-loop-name
invariant-loop-name l = record {
  left : behind l.pairs.items (terms_in (members_view l.name-iterator)) ≡ terms_in (members_view l.members.entries);
  columns : are_columns l.columns (members_view l.name-iterator) ≡ true;
}
