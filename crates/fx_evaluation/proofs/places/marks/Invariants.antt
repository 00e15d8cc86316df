use Rattle.std.proofs.Common.{take}
use Rattle.fx_evaluation.specs.FirstHere.{AreMarks}
use Rattle.fx_evaluation.proofs.places.marks.Given as goal

abbrev pub invariant-loop-number : goal.invariant-loop-number
invariant-loop-number l = AreMarks (take l.number-index l.numbers) l.count l.marks.items
