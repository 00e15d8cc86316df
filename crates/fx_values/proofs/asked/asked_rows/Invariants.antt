use Rattle.std.proofs.Common.{◌≡◌, ◌++◌, drop, filter, map}
use Rattle.fx_founds.specs.Uniting.{branches, is_worth_asking, places_from}
use Rattle.fx_values.specs.Parts.{place_by}
use Rattle.fx_values.proofs.asked.asked_rows.Given as goal

abbrev pub invariant-loop-row : goal.invariant-loop-row
invariant-loop-row l = record {
  number : l.number ≡ l.row-index;
  all : map place_by l.asked ++ filter (is_worth_asking l.unit) (places_from l.number (drop l.row-index l.rows)) ≡ branches l.unit l.rows;
}
