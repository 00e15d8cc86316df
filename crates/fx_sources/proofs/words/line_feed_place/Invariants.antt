use Rattle.std.proofs.Common.{◌≡◌, ◌+◌, ◌==◌, drop}
use Rattle.std.specs.List.{position_or_len}
use Rattle.fx_sources.proofs.words.line_feed_place.Given as goal

abbrev pub invariant-loop-b : goal.invariant-loop-b
invariant-loop-b l = record {
  here : l.place ≡ l.b-index;
  left : l.place + position_or_len (λ b. b == 10) (drop l.b-index l.text) ≡ position_or_len (λ b. b == 10) l.text;
}
