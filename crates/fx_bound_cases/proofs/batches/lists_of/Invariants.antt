use Rattle.std.proofs.Common.{All}
use Rattle.std.specs.Prelude.{Contains}
use Rattle.fx_bound.specs.Answers.{numbers}
use Rattle.fx_bound_cases.proofs.batches.lists_of.Given as goal

abbrev pub invariant-loop-answer : goal.invariant-loop-answer
invariant-loop-answer l = All (λ list. All (λ f. Contains (numbers l.batch) f.branch) list) l.lists.items
