use Rattle.std.proofs.Common.{◌≡◌, ◌+◌, drop}
use Rattle.std.specs.List.{position_or_len}
use Rattle.fx_http.specs.Fields.{is_semicolon}
use Rattle.fx_http.proofs.fields.semicolon_place.Given as goal

abbrev pub invariant-loop-b : goal.invariant-loop-b
invariant-loop-b l = record {
  here : l.place ≡ l.b-index;
  left : l.place + position_or_len is_semicolon (drop l.b-index l.value) ≡ position_or_len is_semicolon l.value;
}
