use Rattle.std.proofs.Common.{◌≡◌, length}
use denote.Text.{Utf8}
use denote.Shadow.{shadow}
use Rattle.std.specs.Str.{chars}
use Rattle.fx_tokens.specs.Classes.{holds}
use Rattle.fx_tokens.specs.Scan as scan
use Rattle.fx_tokens.proofs.parts.skip.Given as goal

abbrev pub invariant-each : goal.invariant-each
invariant-each l = record { utf8 : shadow (Utf8 l.rest); same : scan.skip (scan.one (holds l.class)) (chars l.rest) ≡ scan.skip (scan.one (holds l.class)) (chars l.text) }

abbrev pub decreases-each : goal.decreases-each
decreases-each l = length (chars l.rest)
