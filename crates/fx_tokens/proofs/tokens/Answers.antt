use Rattle.std.specs.Str.{chars}
use Rattle.fx_tokens.proofs.One.{only}
use Rattle.fx_tokens.proofs.Slices.{slices}
use Rattle.fx_tokens.proofs.tokens.Goals as goal

pub returns-clause-only : goal.returns-clause-only
returns-clause-only c = only (λ tokens. tokens.items) (chars c.args.text.now) c.read.result c.read.ensures.found c.read.ensures.refused

pub returns-clause-slices : goal.returns-clause-slices
returns-clause-slices c = slices (λ tokens. tokens.items) c.args.text.now c.read.result c.utf8.text c.read.ensures.found
