use Rattle.std.proofs.Common.{◌≡◌, ◌≤◌, ◌-◌, length, map, drop}
use Rattle.std.specs.Str.{bytes_eq}
use Rattle.std.specs.Char.{to_ascii_uppercase}
use Rattle.fx_turtle.proofs.looks.is_upper.Given as goal

abbrev pub invariant-each : goal.invariant-each
invariant-each l = record {
  same : length l.text ≡ length l.word;
  within : l.at ≤ length l.text;
  rest : bytes_eq (map to_ascii_uppercase (drop l.at l.text)) (drop l.at l.word) ≡ bytes_eq (map to_ascii_uppercase l.text) l.word;
}

abbrev pub decreases-each : goal.decreases-each
decreases-each l = length l.text - l.at
