use Rattle.std.proofs.Common.{refl}
use Rattle.fx_turtle.specs.Kept.{kept}
use Rattle.fx_turtle.proofs.prefixes.Prefixes.new.Goals as goal

pub returns : goal.returns
unfolding kept
returns c = rw c.new.ensures.empty refl
