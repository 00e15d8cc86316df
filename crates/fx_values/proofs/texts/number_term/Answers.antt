use Rattle.std.proofs.Common.{refl}
use Rattle.fx_values.proofs.texts.number_term.Goals as goal

pub known-requires : goal.known-requires
known-requires c = refl
