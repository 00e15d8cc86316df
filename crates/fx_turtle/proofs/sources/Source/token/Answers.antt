use Rattle.std.proofs.Common.{arith}
use Rattle.fx_turtle.proofs.SourceLaws.{stands_some, stands_none}
use Rattle.fx_turtle.proofs.sources.Source.token.Goals as goal

pub returns-then-at-self : goal.returns-then-at-self
returns-then-at-self c = stands_some c.self.inside.text.now c.range-text.result.now c.self.inside.tokens.now c.args.self.now c.args.at _ c.self.view_is c.if-at-self.true c.range-text.ensures.value

pub returns-else-at-self : goal.returns-else-at-self
returns-else-at-self c = stands_none c.self.inside.text.now c.self.inside.tokens.now c.args.self.now c.args.at c.self.view_is (omega (arith, c.if-at-self.false))
