use Rattle.std.proofs.Common.{arith}
use Rattle.fx_outside.proofs.CountLemmas.{one_more_at}
use Rattle.fx_outside.proofs.memory_storage.MemoryFilesFiles.take.Goals as goal

pub returns-in_default-clause-counted : goal.returns-in_default-clause-counted
returns-in_default-clause-counted c = λ _. one_more_at _ _ _ (λ other. omega (arith, c.in_ok-fault.ensures.same other, c.raise.ensures.raised c.args.name.now c.in_ok-fault.ensures.found other))

pub returns-in_default-clause-kept : goal.returns-in_default-clause-kept
returns-in_default-clause-kept c = λ other. omega (arith, c.in_ok-fault.ensures.same other, c.raise.ensures.kept other)
