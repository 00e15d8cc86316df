use Rattle.fx_values.proofs.TextNames.{number_is_name}
use Rattle.fx_values.proofs.names.number_name.Goals as goal

pub known-requires : goal.known-requires
known-requires c = number_is_name.name
