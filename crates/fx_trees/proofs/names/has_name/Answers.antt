use Rattle.std.proofs.Common.{◌∙◌}
use Rattle.fx_trees.proofs.ScopeLaws.{any_is}
use Rattle.fx_trees.proofs.names.has_name.Goals as goal

pub returns : goal.returns
returns c = c.contains.ensures ∙ any_is c.args.names.now.keys c.args.name.now
