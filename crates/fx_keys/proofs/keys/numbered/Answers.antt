use Rattle.std.proofs.Common.{refl}
use Rattle.std.specs.Str.{chars}
use Rattle.fx_keys.proofs.keys.numbered.Goals as goal

pub known-requires : goal.known-requires
unfolding chars
known-requires c = refl

pub known-requires-in-1 : goal.known-requires-in-1
unfolding chars
known-requires-in-1 c = refl

pub known-requires-in_default : goal.known-requires-in_default
unfolding chars
known-requires-in_default c = refl
