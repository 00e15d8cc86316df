use Rattle.std.proofs.Common.{rules, ◌∙◌}
use Rattle.fx_grammar.proofs.KindLaws.{sameb_is}
use Rattle.fx_grammar.proofs.kinds.is.Goals as goal

pub returns : goal.returns
returns c = c.eq.ensures ∙ sameb_is (search rules) c.args.a c.args.b
