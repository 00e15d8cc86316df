use Rattle.std.proofs.Common.{◌≡◌, ◌++◌, length}
use denote.Text.{Utf8}
use denote.Shadow.{shadow}
use Rattle.std.specs.Prelude.{string_bytes}
use Rattle.std.specs.Str.{chars, encode_utf8_all}
use Rattle.fx_tokens.specs.Decoding.{unescaped}
use Rattle.fx_tokens.proofs.decoding.decoded.Given as goal

abbrev pub invariant-each : goal.invariant-each
invariant-each l = record {
  utf8 : shadow (Utf8 l.rest);
  same : string_bytes l.out ++ encode_utf8_all (unescaped l.closing l.left (chars l.rest)) ≡ encode_utf8_all (unescaped l.closing (length l.text) (chars l.text));
}

abbrev pub decreases-each : goal.decreases-each
decreases-each l = l.left
