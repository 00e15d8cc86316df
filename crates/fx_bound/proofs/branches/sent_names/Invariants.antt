use Rattle.std.proofs.Common.{◌≡◌, ◌++◌, ℕ, List, drop, map}
use Rattle.fx_bound.specs.Reading.{free_among, named}
use Rattle.fx_bound.proofs.branches.sent_names.Given as goal

abbrev pub invariant-loop-name : goal.invariant-loop-name
invariant-loop-name l =
    let other : List ℕ → List ℕ × List ℕ = λ name. (named l.names l.number name, name) in
    l.sent ++ map other (free_among (drop l.name-index l.name-items) l.row) ≡ map other (free_among l.name-items l.row)
