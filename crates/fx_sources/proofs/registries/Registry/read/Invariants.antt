use Rattle.std.proofs.Common.{◌≡◌, ◌+◌, ◌≤◌, length}
use Rattle.std.specs.Str.Lines.{lines}
use Rattle.fx_sources.specs.Registries.{with_lines, read_registry}
use Rattle.fx_sources.proofs.registries.Registry.read.Given as goal

abbrev pub invariant-loop-left : goal.invariant-loop-left
invariant-loop-left l = record {
  numbered : l.number + length l.left ≤ length l.bytes + 1;
  onward : with_lines l.number l.registry (lines l.left) ≡ read_registry l.bytes;
}

abbrev pub decreases-loop-left : goal.decreases-loop-left
decreases-loop-left l = length l.left
