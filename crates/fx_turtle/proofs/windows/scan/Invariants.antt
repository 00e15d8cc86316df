use Rattle.std.proofs.Common.{◌-◌, List, drop, length}
use Rattle.std.specs.Str.{chars}
use Rattle.fx_tokens.specs.Scan.{Barren}
use Rattle.fx_tokens.specs.declared.Token as read
use Rattle.fx_turtle.specs.Windows.{ReadsTo}
use Rattle.fx_turtle.proofs.windows.scan.Given as goal

abbrev pub invariant-each : goal.invariant-each
invariant-each l = (more : List read.Token) × ReadsTo l.text l.fn.from.place l.to.place more × Barren l.to.barren (chars (drop l.to.place l.text))

abbrev pub decreases-each : goal.decreases-each
decreases-each l = length l.text - l.to.place
