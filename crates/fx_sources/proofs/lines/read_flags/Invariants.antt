use Rattle.std.proofs.Common.{◌≡◌, length}
use Rattle.fx_sources.specs.Lines.{words, no_flags, flags_of}
use Rattle.fx_sources.proofs.lines.read_flags.Given as goal

-- what is left completes the flags
abbrev pub invariant-loop-word : goal.invariant-loop-word
invariant-loop-word l = flags_of l.flags (words l.left) ≡ flags_of no_flags (words l.words)

abbrev pub decreases-loop-word : goal.decreases-loop-word
decreases-loop-word l = length (words l.left)
