use Rattle.std.specs.Prelude.{codes}
use Rattle.std.proofs.lemmas.Str.Pattern.{ends_text}
use Rattle.fx_algebra.specs.Words.{ends}
use Rattle.fx_local.proofs.graphs.is_turtle.Goals as goal

pub returns : goal.returns
unfolding ends
returns c = ends_text c.ends_with.result (codes ".ttl") c.args.name.now c.ends_with.ensures.cases
