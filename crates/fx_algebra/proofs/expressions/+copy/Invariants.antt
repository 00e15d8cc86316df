use Rattle.std.proofs.Common.{◌≡◌, take}
use Rattle.fx_algebra.proofs.expressions.+copy.Given as goal

abbrev pub invariant-copy_all-loop-part : goal.invariant-copy_all-loop-part
invariant-copy_all-loop-part l = l.copies ≡ take l.part-index l.parts

abbrev pub invariant-copy_signed-loop-sign : goal.invariant-copy_signed-loop-sign
invariant-copy_signed-loop-sign l = l.copies ≡ take l.sign-index l.parts
