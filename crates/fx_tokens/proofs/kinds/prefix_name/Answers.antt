use Rattle.std.proofs.Common.{[], refl, ◌∙◌, arith}
use Rattle.std.specs.Str.{chars}
use Rattle.fx_tokens.specs.Scan.{prefix_name, colon_local, long_prefix}
use Rattle.fx_tokens.proofs.Runs.{longer_none}
use Rattle.fx_tokens.proofs.kinds.prefix_name.Goals as goal

pub returns-then-barren-width : goal.returns-then-barren-width
unfolding prefix_name
returns-then-barren-width c =
    c.colon_local.ensures ∙ longer_none (colon_local (chars c.args.text.now)) (long_prefix (chars c.args.text.now)) (c.requires [] (chars c.args.text.now) refl (omega (arith, c.width.ensures, c.if-barren-width.true)))
