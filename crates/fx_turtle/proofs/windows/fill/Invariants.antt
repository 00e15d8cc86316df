use Rattle.std.proofs.Common.{◌-◌, All, drop, length}
use Rattle.std.specs.Str.{chars}
use Rattle.fx_tokens.specs.Scan.{Barren}
use Rattle.fx_turtle.specs.Windows.{ReadsTo}
use Rattle.fx_turtle.proofs.WindowTokens.{IsOther}
use Rattle.fx_turtle.proofs.windows.fill.Given as goal

abbrev pub invariant-each : goal.invariant-each
invariant-each l = record { others : All (IsOther l.text) l.window.items; reads : ReadsTo l.text l.fn.from.place l.to.place l.window.items; barren : Barren l.to.barren (chars (drop l.to.place l.text)) }

abbrev pub decreases-each : goal.decreases-each
decreases-each l = length l.text - l.to.place
