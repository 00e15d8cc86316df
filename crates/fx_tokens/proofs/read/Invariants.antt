use Rattle.std.proofs.Common.{◌-◌, drop, length}
use Rattle.std.specs.Str.{chars}
use Rattle.fx_tokens.specs.Scan.{Barren}
use Rattle.fx_tokens.proofs.Nexts.{GoesOn}
use Rattle.fx_tokens.proofs.read.Given as goal

abbrev pub invariant-each : goal.invariant-each
invariant-each l = record { on : GoesOn l.text l.place l.tokens.items; barren : Barren l.barren (chars (drop l.place l.text)) }

abbrev pub decreases-each : goal.decreases-each
decreases-each l = length l.text - l.place
