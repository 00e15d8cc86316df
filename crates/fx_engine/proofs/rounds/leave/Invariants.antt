use Rattle.std.proofs.Common.{◌≡◌, take}
use Rattle.fx_outcomes.specs.Rounds.{without_all}
use Rattle.fx_engine.proofs.rounds.leave.Given as goal

abbrev pub invariant-loop-one : goal.invariant-loop-one
invariant-loop-one l = l.kept ≡ without_all (take l.one-index l.left) l.initial.kept
