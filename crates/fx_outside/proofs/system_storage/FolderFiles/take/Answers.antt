use Rattle.std.proofs.Common.{arith}
use Rattle.fx_outside.proofs.CountLemmas.{one_more_at}
use Rattle.fx_outside.proofs.system_storage.FolderFiles.take.Goals as goal

pub returns-in-Err-Failed-clause-counted : goal.returns-in-Err-Failed-clause-counted
returns-in-Err-Failed-clause-counted g c = λ _. one_more_at _ _ _ (λ other. omega (arith, c.in_ok-place.ensures.same other, c.raise.ensures.raised c.args.name.now c.in_ok-place.ensures.found other))

pub returns-in-Err-Failed-clause-kept : goal.returns-in-Err-Failed-clause-kept
returns-in-Err-Failed-clause-kept g c = λ other. omega (arith, c.in_ok-place.ensures.same other, c.raise.ensures.kept other)
