use Rattle.std.proofs.Common.{◌≡◌, ◌++◌, drop, map, string_bytes, if◌then◌else◌}
use Rattle.std.specs.Prelude.{codes}
use Rattle.fx_algebra.specs.Printed.{fixed, marked, separated, spaced}
use Rattle.fx_bound.specs.Sent.{branch_words}
use Rattle.fx_bound.proofs.texts.push_branches.Given as goal

abbrev pub invariant-loop-branch : goal.invariant-loop-branch
invariant-loop-branch l =
    let words = map (branch_words l.unit l.names) (drop l.branch-index l.branches) in
    string_bytes l.text ++ spaced (if l.is_first then separated (fixed (codes "UNION")) words else marked (fixed (codes "UNION")) words)
    ≡ string_bytes l.initial.text ++ spaced (separated (fixed (codes "UNION")) (map (branch_words l.unit l.names) l.branches))
