use Rattle.std.proofs.Common.{◌≡◌, ◌++◌, length}
use denote.Text.{Utf8}
use denote.Shadow.{shadow}
use Rattle.std.specs.Prelude.{string_bytes}
use Rattle.std.specs.Str.{chars, encode_utf8_all}
use Rattle.fx_tokens.specs.Decoding.{prefix, behind_colon}
use Rattle.fx_tokens.proofs.decoding.prefix.Given as goal

abbrev pub invariant-each : goal.invariant-each
invariant-each l = record {
  utf8 : shadow (Utf8 l.rest);
  same : string_bytes l.out ++ encode_utf8_all (prefix (chars l.rest)) ≡ encode_utf8_all (prefix (chars l.text));
  behind : behind_colon (chars l.rest) ≡ behind_colon (chars l.text);
}

abbrev pub decreases-each : goal.decreases-each
decreases-each l = length (chars l.rest)
