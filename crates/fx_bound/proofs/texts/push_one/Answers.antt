use Rattle.std.specs.Fmt.{digits}
use Rattle.fx_algebra.specs.Values.{integer}
use Rattle.fx_bound.proofs.texts.push_one.Goals as goal

pub returns : goal.returns
unfolding digits integer
returns c = c.push_fixed.ensures
