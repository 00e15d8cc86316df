use Rattle.std.proofs.Common.{◌∙◌}
use Rattle.fx_readers.proofs.PrefixLaws.{found_put}
use Rattle.fx_readers.proofs.prefixes.put.Goals as goal

pub returns : goal.returns
returns c =
    found_put c.args.latest.now c.insert.new.self c.in_ok-text.text c.in_ok-copy.field-0 c.args.declaration.now.0 c.args.declaration.now.1 (c.in_ok-text.ensures.ok ∙ c.as_str.ensures) c.in_ok-copy.ensures c.in_ok-insert.ensures.updates
