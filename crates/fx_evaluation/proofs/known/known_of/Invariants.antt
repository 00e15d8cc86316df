use Rattle.std.specs.Prelude.{All}
use Rattle.fx_evaluation.specs.Known.{IsSaidBy}
use Rattle.fx_evaluation.proofs.known.known_of.Given as goal

abbrev pub invariant-loop-pair : goal.invariant-loop-pair
invariant-loop-pair l = All (IsSaidBy l.row) l.known.items
