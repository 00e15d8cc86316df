use Rattle.std.proofs.Common.{◌∙◌}
use Rattle.fx_trees.proofs.ScopeLaws.{insert_is}
use Rattle.fx_trees.proofs.names.add_name.Goals as goal

pub returns : goal.returns
returns c = c.in_ok-insert.ensures.keys ∙ insert_is c.args.names.now.keys c.args.name
