use Rattle.std.proofs.Common.{◌∙◌}
use Rattle.fx_turtle.proofs.SourceLaws.{left_count}
use Rattle.fx_turtle.proofs.sources.Source.count.Goals as goal

pub returns : goal.returns
returns c = c.saturating_sub.ensures ∙ left_count c.self.inside.text.now c.self.inside.tokens.now c.args.self.now c.args.at c.self.view_is
