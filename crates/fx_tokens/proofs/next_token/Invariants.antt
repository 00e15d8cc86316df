use Rattle.std.proofs.Common.{length}
use denote.Text.{Utf8}
use denote.Shadow.{shadow}
use Rattle.std.specs.Str.{chars}
use Rattle.fx_tokens.specs.Scan.{Barren}
use Rattle.fx_tokens.proofs.Nexts.{Passed}
use Rattle.fx_tokens.proofs.next_token.Given as goal

abbrev pub invariant-each : goal.invariant-each
invariant-each l = record { utf8 : shadow (Utf8 l.rest); passed : Passed l.text l.place (chars l.rest); barren : Barren l.barren (chars l.rest) }

abbrev pub decreases-each : goal.decreases-each
decreases-each l = length (chars l.rest)
