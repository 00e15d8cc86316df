use Rattle.std.proofs.Common.{refl}
use Rattle.fx_commands.proofs.generator.integer.Goals as goal

pub known-requires : goal.known-requires
known-requires c = refl
