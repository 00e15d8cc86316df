use Rattle.std.proofs.Common.{◌≡◌, ◌+◌, drop}
use Rattle.std.specs.List.{position_or_len}
use Rattle.fx_sources.specs.Lines.{is_blank}
use Rattle.fx_sources.proofs.words.blank_place.Given as goal

abbrev pub invariant-loop-b : goal.invariant-loop-b
invariant-loop-b l = record {
  here : l.place ≡ l.b-index;
  left : l.place + position_or_len is_blank (drop l.b-index l.line) ≡ position_or_len is_blank l.line;
}
