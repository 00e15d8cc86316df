use Rattle.std.proofs.Common.{◌≡◌, ◌++◌, ◌-◌, ◌≤◌, take, drop}
use Rattle.std.specs.List.{flat_map}
use Rattle.std.specs.Str.{IsCharBoundary}
use Rattle.std.specs.String.{string_bytes}
use Rattle.fx_terms.specs.Writing.{written_byte}
use Rattle.fx_terms.proofs.writing.write_escaped.Given as goal

abbrev pub invariant-loop-i : goal.invariant-loop-i
invariant-loop-i l =
    (l.from ≤ l.i) × IsCharBoundary l.form l.from
    × (flat_map written_byte (take (l.i - l.from) (drop l.from l.form)) ≡ take (l.i - l.from) (drop l.from l.form))
    × (string_bytes l.out ++ flat_map written_byte (drop l.from l.form) ≡ string_bytes l.initial.out ++ flat_map written_byte l.form)
