use Rattle.std.proofs.Common.{◌≡◌, drop}
use Rattle.std.specs.Str.{all_ascii_digits}
use Rattle.fx_http.proofs.fields.has_digits.Given as goal

-- what is left decides
abbrev pub invariant-loop-b : goal.invariant-loop-b
invariant-loop-b l = all_ascii_digits (drop l.b-index l.value) ≡ all_ascii_digits l.value
